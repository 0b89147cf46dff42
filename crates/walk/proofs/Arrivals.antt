-- What comes to an instruction keeps the rows and marks that told the truth, and tells the truth itself.
use Rattle.std.proofs.Common.{◌≡◌, ℕ, zero, suc, ◌+◌, ◌-◌, ◌*◌, ◌<◌, ◌≤◌, Bool, true, false, cond, ◌≢◌, ◌⊎◌, List, [], length, get_or, take, drop, set, Some, None, Option, sym, refl, ap, ◌∙◌, subst, inl, inr, ⊎_elim, arith}
use Rattle.std.proofs.lemmas.List.FromFn.{get_or-map-range_with_len}
use Rattle.std.proofs.lemmas.List.{get_or-set_same, get_or-set_other, get_or-take, get_or-drop, length-set, take-set-le, drop-set-lt, drop-set-add}
use Rattle.std.proofs.lemmas.Bool.{cases_eq, cases_lt, cases_Bool, cond-true, cond-false, cond_both, and_parts}
use Rattle.words.specs.Sets.{HoldsIn}
use Rattle.words.specs.Words.{Word}
use Rattle.domain.specs.declared.domain.Domain.{Ghosts}
use Rattle.domain.specs.Lawful.{Lawful}
use Rattle.machine.specs.Machine.{Regs}
use Rattle.step.specs.declared.mark.Mark.{Mark}
use Rattle.step.specs.declared.outcome.Change.{Change}
use Rattle.step.specs.Changes.{changed_value, changed_set}
use Rattle.step.specs.Rows.{cell, is_set}
use Rattle.step.proofs.Fits.{Has, Fits, FitsChange, FitsIn}
use Rattle.walk.specs.Walk.{Present, row_at, mark_at, meets, arrived_mark, sent_rows, sent_all, sent_marks, joined_in}
use Rattle.walk.proofs.Sending.{sent-long, sent_other, sent-here}

-- control can be at k with the registers r, and the row and the mark there tell the truth of them
pub record At {D : Type 0} (d : Ghosts D) (rows : List D) (marks : List Mark) (k : ℕ) (r : Regs) : Type 0 where
  pub marked : (mark_at marks k).reached ≡ true
  pub fits : Fits d (row_at rows k) (mark_at marks k) r

-- ── marks ──

-- a register that is set where rows meet is set on either side
meets_comes : (old : Mark) (b : Bool) (i : ℕ) → meets old b i ≡ true → b ≡ true
meets_comes old b i e =
    ⊎_elim
    (λ t. (and_parts (is_set old i) b (sym (cond-true old.reached _ _ t) ∙ e)).1)
    (λ f. sym (cond-false old.reached _ _ f) ∙ e)
    (cases_Bool old.reached)

meets_was : (old : Mark) (b : Bool) (i : ℕ) → old.reached ≡ true → meets old b i ≡ true → is_set old i ≡ true
meets_was old b i t e = (and_parts (is_set old i) b (sym (cond-true old.reached _ _ t) ∙ e)).0

set_arrived : {D : Type 0} (old from : Mark) (c : Change D) (i : ℕ) → i < 8 → is_set (arrived_mark old from c) i ≡ meets old (changed_set c i (is_set from i)) i
set_arrived old from c i l = get_or-map-range_with_len (λ r. meets old (changed_set c r (is_set from r)) r) 0 8 i i false l (omega arith)

-- ── rows ──

pub cell_row : {D : Type 0} (d : Ghosts D) (rows : List D) (k i : ℕ) → i < 8 → cell d (row_at rows k) i ≡ get_or rows (8 * k + i) d.every
cell_row d rows k i l = get_or-take 8 (drop (8 * k) rows) i d.every l ∙ get_or-drop (8 * k) rows i d.every

-- a write behind a row leaves it
row-set : {D : Type 0} (rows : List D) (k i : ℕ) (v : D) → 8 * k + 8 ≤ i → row_at (set rows i v) k ≡ row_at rows k
row-set rows k i v h =
    let split : i ≡ 8 * k + (i - 8 * k) = omega arith in
    ap (λ n. take 8 (drop (8 * k) (set rows n v))) split
    ∙ ap (take 8) (drop-set-add (8 * k) rows (i - 8 * k) v)
    ∙ take-set-le 8 (drop (8 * k) rows) (i - 8 * k) v (omega arith)

-- ── one change that comes from row k to row j ──

module _ {D : Type 0} (d : Ghosts D) (k j : ℕ) (c : Change D) (rows : List D) (marks : List Mark) where
  abbrev old : Mark
  old = mark_at marks j

  abbrev new : Mark
  new = arrived_mark (mark_at marks j) (mark_at marks k) c

  abbrev after : ℕ → List D
  after n = sent_rows d k j old new c rows n

  row_before : (n i : ℕ) → i < j → row_at (after n) i ≡ row_at rows i
  unfolding sent_rows
  row_before zero i h = refl
  row_before (suc n) i h = row-set (after n) i (8 * j + n) _ (omega arith) ∙ row_before n i h

  rest-kept : (n m : ℕ) → 8 * j + n ≤ m → drop m (after n) ≡ drop m rows
  unfolding sent_rows
  rest-kept zero m h = refl
  rest-kept (suc n) m h = drop-set-lt m (after n) (8 * j + n) _ (omega arith) ∙ rest-kept n m (omega arith)

  -- a register of row j that is then set
  here : (i : ℕ) → i < 8 → 8 * j + 8 ≤ length rows → is_set new i ≡ true → cell d (row_at (after 8) j) i ≡ cond old.reached (d.joined (cell d (row_at rows j) i) (changed_value c i (cell d (row_at rows k) i))) (changed_value c i (cell d (row_at rows k) i))
  here i l long e =
      let was = sym (cell_row d rows j i l) in
      let from = sym (cell_row d rows k i l) in
      cell_row d (after 8) j i l
      ∙ sent-here d k j old new c rows 8 i l long
      ∙ cond-true (is_set new i) _ _ e
      ∙ (λ t. cond old.reached (d.joined (was t) (changed_value c i (from t))) (changed_value c i (from t)))

  there : (i x : ℕ) → i ≢ j → x < 8 → cell d (row_at (after 8) i) x ≡ cell d (row_at rows i) x
  there i x ne l =
      let apart : (8 * i + x < 8 * j) ⊎ (8 * j + 8 ≤ 8 * i + x) = ⊎_elim (λ h. inl (omega arith)) (λ h. inr (omega arith)) (cases_lt i j) in
      cell_row d (after 8) i x l ∙ sent_other d k j old new c rows 8 (8 * i + x) apart ∙ sym (cell_row d rows i x l)

  module _ (laws : Lawful d) (long : 8 * j + 8 ≤ length rows) where
    joined_has : (u v : D) (o : Option ℕ) → Has d u o ⊎ Has d v o → Has d (d.joined u v) o
    joined_has u v o (inl h) = record { word = h.word; is = h.is; fits = h.fits; held = laws.join_holds u v h.word h.fits (inl h.held) }
    joined_has u v o (inr h) = record { word = h.word; is = h.is; fits = h.fits; held = laws.join_holds u v h.word h.fits (inr h.held) }

    fits-new : (q : Regs) → FitsChange d (row_at rows k) (mark_at marks k) c q → Fits d (row_at (after 8) j) new q
    fits-new q fit i l e =
        let h = fit i l (meets_comes old _ i (sym (set_arrived old (mark_at marks k) c i l) ∙ e)) in
        subst (λ v. Has d v (q i)) (sym (here i l long e)) (cond_both old.reached _ _ (λ v. Has d v (q i)) (λ _. joined_has _ _ (q i) (inr h)) (λ _. h))

    fits-old : (r : Regs) → old.reached ≡ true → Fits d (row_at rows j) old r → Fits d (row_at (after 8) j) new r
    fits-old r t fit i l e =
        let h = fit i l (meets_was old _ i t (sym (set_arrived old (mark_at marks k) c i l) ∙ e)) in
        subst (λ v. Has d v (r i)) (sym (here i l long e ∙ cond-true old.reached _ _ t)) (joined_has _ _ (r i) (inl h))

-- ── a change, if there is one ──

-- from instruction k to j, a later one of n
abbrev pub Onward : {D : Type 0} → ℕ → ℕ → ℕ → Option (Change D) → Type 0
Onward n k j o = Present o ((k < j) × (j < n))

module _ {D : Type 0} (d : Ghosts D) (n k j : ℕ) (rows : List D) (marks : List Mark) where
  pub sent-row : (o : Option (Change D)) (i : ℕ) → i ≤ k → Onward n k j o → row_at (sent_all d k j o rows marks) i ≡ row_at rows i
  sent-row None i h w = refl
  sent-row (Some c) i h w = row_before d k j c rows marks 8 i (omega arith)

  pub sent-mark : (o : Option (Change D)) (i : ℕ) → i ≤ k → Onward n k j o → mark_at (sent_marks k j o marks) i ≡ mark_at marks i
  sent-mark None i h w = refl
  sent-mark (Some c) i h w = get_or-set_other marks j i _ _ (omega arith)

  pub sent-rows-rest : (o : Option (Change D)) → Onward n k j o → drop (8 * n) (sent_all d k j o rows marks) ≡ drop (8 * n) rows
  sent-rows-rest None w = refl
  sent-rows-rest (Some c) w = rest-kept d k j c rows marks 8 (8 * n) (omega arith)

  pub sent-marks-rest : (o : Option (Change D)) → Onward n k j o → drop n (sent_marks k j o marks) ≡ drop n marks
  sent-marks-rest None w = refl
  sent-marks-rest (Some c) w = drop-set-lt n marks j _ (omega arith)

  pub sent-rows-long : (o : Option (Change D)) → length (sent_all d k j o rows marks) ≡ length rows
  sent-rows-long None = refl
  sent-rows-long (Some c) = sent-long d k j _ _ c rows 8

  pub sent-marks-long : (o : Option (Change D)) → length (sent_marks k j o marks) ≡ length marks
  sent-marks-long None = refl
  sent-marks-long (Some c) = length-set marks j _

  module _ (laws : Lawful d) (long : 8 * n ≤ length rows) (wide : n ≤ length marks) where
    -- what comes tells the truth where it comes
    pub at_new : (o : Option (Change D)) (q : Regs) → Onward n k j o → FitsIn d (row_at rows k) (mark_at marks k) o q → At d (sent_all d k j o rows marks) (sent_marks k j o marks) j q
    at_new None q w fit = absurd fit
    at_new (Some c) q w fit =
        let mark = get_or-set_same marks j (new d k j c rows marks) (record { reached = false; set = [] }) (omega arith) in
        record {
          marked = ap (λ (m : Mark). m.reached) mark;
          fits = subst (λ m. Fits d (row_at (sent_all d k j (Some c) rows marks) j) m q) (sym mark) (fits-new d k j c rows marks laws (omega arith) q fit);
        }

    -- what told the truth before goes on to tell it
    pub at_old : (o : Option (Change D)) (i : ℕ) (r : Regs) → Onward n k j o → At d rows marks i r → At d (sent_all d k j o rows marks) (sent_marks k j o marks) i r
    at_old None i r w a = a
    at_old (Some c) i r w a =
        let none : Mark = record { reached = false; set = [] } in
        let to : List D × List Mark = (sent_all d k j (Some c) rows marks, sent_marks k j (Some c) marks) in
        ⊎_elim
        (λ e.
        let mark = get_or-set_same marks j (new d k j c rows marks) none (omega arith) in
        let was : At d rows marks j r = subst (λ x. At d rows marks x r) e a in
        subst (λ x. At d to.0 to.1 x r) (sym e) (record {
          marked = ap (λ (m : Mark). m.reached) mark;
          fits = subst (λ m. Fits d (row_at to.0 j) m r) (sym mark) (fits-old d k j c rows marks laws (omega arith) r was.marked was.fits);
        }))
        (λ ne.
        let mark = get_or-set_other marks j i (new d k j c rows marks) none ne in
        record {
          marked = ap (λ (m : Mark). m.reached) mark ∙ a.marked;
          fits = λ x l e. subst (λ v. Has d v (r x)) (sym (there d k j c rows marks i x ne l)) (a.fits x l (sym (ap (λ m. is_set m x) mark) ∙ e));
        })
        (cases_eq i j)

-- ── what is returned ──

module _ {D : Type 0} (d : Ghosts D) (laws : Lawful d) where
  pub joined-first : (a b : Option D) (w : ℕ) → Word w → HoldsIn d.holds a w → HoldsIn d.holds (joined_in d a b) w
  joined-first None b w f h = absurd h
  joined-first (Some a) None w f h = h
  joined-first (Some a) (Some b) w f h = laws.join_holds a b w f (inl h)

  pub joined-second : (a b : Option D) (w : ℕ) → Word w → HoldsIn d.holds b w → HoldsIn d.holds (joined_in d a b) w
  joined-second None b w f h = h
  joined-second (Some a) None w f h = absurd h
  joined-second (Some a) (Some b) w f h = laws.join_holds a b w f (inr h)
