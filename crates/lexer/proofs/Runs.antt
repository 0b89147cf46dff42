-- What is passed in a text from a place on, counted in its rest. Assumes nothing.
use Rattle.std.proofs.Common.{◌≡◌, ℕ, ◌+◌, ◌-◌, ◌<◌, ◌≤◌, Bool, true, false, not, List, length, get_or, drop, sym, ap, ◌∙◌, arith, length-drop, get_or-drop}
use Rattle.std.proofs.lemmas.Bool.Decides.{nat_tests}
use Rattle.std.proofs.lemmas.List.Sums.{prefix_len-le-length, prefix_len_passes, prefix_len_stops}
use Rattle.std.specs.Prelude.{◌==◌}
use Rattle.std.specs.List.{prefix_len}

-- it ends in the text, each byte of it passes, and the byte at its end does not
pub record Run (p : ℕ → Bool) (t : List ℕ) (from to : ℕ) : Type 0 where
  pub forward : from ≤ to
  pub within : to ≤ length t
  pub all : (k : ℕ) → from ≤ k → k < to → p (get_or t k 0) ≡ true
  pub stops : to < length t → p (get_or t to 0) ≡ false

pub run : (p : ℕ → Bool) (t rest : List ℕ) (from n : ℕ) → from ≤ length t → rest ≡ drop from t → n ≡ prefix_len p rest → Run p t from (from + n)
run p t rest from n w part counted =
    let is : n ≡ prefix_len p (drop from t) = counted ∙ ap (prefix_len p) part in
    let most : n ≤ length t - from = omega (arith, is, length-drop from t, prefix_len-le-length p (drop from t)) in
    record {
      forward = omega arith;
      within = omega arith;
      all = λ k a b.
          let at : from + (k - from) ≡ k = omega arith in
          ap (λ i. p (get_or t i 0)) (sym at) ∙ ap p (sym (get_or-drop from t (k - from) 0)) ∙ prefix_len_passes p (drop from t) (k - from) 0 (omega arith);
      stops = λ h.
          let less : prefix_len p (drop from t) < length (drop from t) = omega (arith, is, length-drop from t) in
          ap (λ m. p (get_or t (from + m) 0)) is ∙ ap p (sym (get_or-drop from t (prefix_len p (drop from t)) 0)) ∙ prefix_len_stops p (drop from t) 0 less;
    }

pub is-space : (t : List ℕ) (k : ℕ) → (get_or t k 0 == 32) ≡ true → get_or t k 0 ≡ 32
is-space t k h = grind (arith, nat_tests)

pub no-space : (t : List ℕ) (k : ℕ) → (get_or t k 0 == 32) ≡ false → get_or t k 0 ≡ 32 → ⊥
no-space t k h e = grind (arith, nat_tests)

pub no-feed : (t : List ℕ) (k : ℕ) → not (get_or t k 0 == 10) ≡ true → get_or t k 0 ≡ 10 → ⊥
no-feed t k h e = grind (arith, nat_tests)

pub is-feed : (t : List ℕ) (k : ℕ) → not (get_or t k 0 == 10) ≡ false → get_or t k 0 ≡ 10
is-feed t k h = grind (arith, nat_tests)
