-- What a row that is sent leaves as it was, and what it brings.
use Rattle.std.proofs.Common.{◌≡◌, ℕ, zero, suc, ◌+◌, ◌*◌, ◌<◌, ◌≤◌, ◌≢◌, ◌⊎◌, List, length, get_or, set, sym, refl, ap, ◌∙◌, inl, inr, ⊎_elim, add-one, arith, length-set}
use Rattle.std.proofs.lemmas.List.{get_or-set_same, get_or-set_other}
use Rattle.std.proofs.lemmas.Bool.{cases_eq}
use Rattle.domain.specs.declared.domain.Domain.{Ghosts}
use Rattle.step.specs.declared.mark.Mark.{Mark}
use Rattle.step.specs.declared.outcome.Change.{Change}
use Rattle.step.specs.Changes.{changed_value}
use Rattle.walk.specs.Walk.{arrived_value, sent_rows}

module _ {D : Type 0} (d : Ghosts D) (k j : ℕ) (old new : Mark) (c : Change D) (rows : List D) where
  -- what comes to register n of row j
  abbrev pub coming : ℕ → D
  coming n = arrived_value d old new (get_or rows (8 * j + n) d.every) (changed_value c n (get_or rows (8 * k + n) d.every)) n

  pub sent-start : sent_rows d k j old new c rows 0 ≡ rows
  unfolding sent_rows
  sent-start = refl

  pub sent-more : (n : ℕ) → set (sent_rows d k j old new c rows n) (8 * j + n) (coming n) ≡ sent_rows d k j old new c rows (n + 1)
  unfolding sent_rows
  sent-more n = rw add-one

  pub sent-long : (n : ℕ) → length (sent_rows d k j old new c rows n) ≡ length rows
  unfolding sent_rows
  sent-long zero = refl
  sent-long (suc n) = length-set _ _ _ ∙ sent-long n

  -- the places before row j, and those of it that are still to come, are as they were
  pub sent_other : (n i : ℕ) → ((i < 8 * j) ⊎ (8 * j + n ≤ i)) → get_or (sent_rows d k j old new c rows n) i d.every ≡ get_or rows i d.every
  unfolding sent_rows
  sent_other zero i h = refl
  sent_other (suc n) i h =
      let ne : i ≢ 8 * j + n = ⊎_elim (λ a. omega arith) (λ a. omega arith) h in
      get_or-set_other (sent_rows d k j old new c rows n) (8 * j + n) i (coming n) d.every ne
      ∙ sent_other n i (⊎_elim (λ a. inl a) (λ a. inr (omega arith)) h)

  pub sent-here : (n r : ℕ) → r < n → 8 * j + n ≤ length rows → get_or (sent_rows d k j old new c rows n) (8 * j + r) d.every ≡ coming r
  unfolding sent_rows
  sent-here zero r h w = absurd (omega arith)
  sent-here (suc n) r h w =
      let long = sent-long n in
      ⊎_elim
      (λ same. ap (λ i. get_or (set (sent_rows d k j old new c rows n) (8 * j + n) (coming n)) (8 * j + i) d.every) same
      ∙ get_or-set_same (sent_rows d k j old new c rows n) (8 * j + n) (coming n) d.every (omega arith)
      ∙ ap coming (sym same))
      (λ ne.
      let apart : 8 * j + r ≢ 8 * j + n = λ e. ne (omega arith) in
      get_or-set_other (sent_rows d k j old new c rows n) (8 * j + n) (8 * j + r) (coming n) d.every apart ∙ sent-here n r (omega arith) (omega arith))
      (cases_eq r n)
