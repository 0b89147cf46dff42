-- What is found under a name.
use Rattle.std.proofs.Common.{◌≡◌, ℕ, zero, suc, ◌<◌, true, false, List, [], ◌∷◌, length, get_or, is_some, Some, None, Option, sym, refl, ◌∙◌, ⊎_elim, arith}
use Rattle.std.proofs.lemmas.Slice.Eq.{bytes_eq-Decides}
use Rattle.std.proofs.lemmas.Bool.{cases_Bool, cond-true, cond-false}
use Rattle.std.specs.Str.{bytes_eq}
use Rattle.grammar.specs.Names.{Entry, number_of, is_known}

abbrev pub no_entry : Entry
no_entry = record { name = []; number = 0 }

-- the entry at j has the name
abbrev pub HasName : List Entry → List ℕ → ℕ → Type 0
HasName es n j = (j < length es) × ((get_or es j no_entry).name ≡ n)

pub number-some : (es : List Entry) (n : List ℕ) (x : ℕ) → number_of es n ≡ Some x → (j : ℕ) × HasName es n j × ((get_or es j no_entry).number ≡ x)
number-some [] n x e = let z : ◌≡◌ {A = ℕ} 0 1 = cc in absurd (omega arith)
number-some (a ∷ es) n x e =
    ⊎_elim
    (λ h. let some : Some a.number ≡ Some x = sym (cond-true (bytes_eq a.name n) _ _ h) ∙ e in (0, (omega arith, (bytes_eq-Decides a.name n).0 h), cc))
    (λ h. let r = number-some es n x (sym (cond-false (bytes_eq a.name n) _ _ h) ∙ e) in (suc r.0, (omega (arith, r.1.0), r.1.1), r.2))
    (cases_Bool (bytes_eq a.name n))

pub number-none : (es : List Entry) (n : List ℕ) → number_of es n ≡ None → (j : ℕ) → HasName es n j → ⊥
number-none [] n e j h = omega (arith, h.0)
number-none (a ∷ es) n e zero h =
    let some : number_of (a ∷ es) n ≡ Some a.number = cond-true (bytes_eq a.name n) _ _ ((bytes_eq-Decides a.name n).1 h.1) in
    let z : ◌≡◌ {A = ℕ} 0 1 = cc in
    omega arith
number-none (a ∷ es) n e (suc j) h =
    ⊎_elim
    (λ g. let some : number_of (a ∷ es) n ≡ Some a.number = cond-true (bytes_eq a.name n) _ _ g in let z : ◌≡◌ {A = ℕ} 0 1 = cc in omega arith)
    (λ g. number-none es n (sym (cond-false (bytes_eq a.name n) _ _ g) ∙ e) j (omega (arith, h.0), h.1))
    (cases_Bool (bytes_eq a.name n))

known_in : (o : Option ℕ) → is_some o ≡ true → (x : ℕ) × (o ≡ Some x)
known_in None e = let z : ◌≡◌ {A = ℕ} 0 1 = cc in absurd (omega arith)
known_in (Some x) e = (x, refl)

unknown_in : (o : Option ℕ) → is_some o ≡ false → o ≡ None
unknown_in None e = refl
unknown_in (Some x) e = let z : ◌≡◌ {A = ℕ} 0 1 = cc in absurd (omega arith)

pub known_some : (es : List Entry) (n : List ℕ) → is_known es n ≡ true → (j : ℕ) × HasName es n j
known_some es n e = let o = known_in (number_of es n) e in let r = number-some es n o.0 o.1 in (r.0, r.1)

pub unknown-none : (es : List Entry) (n : List ℕ) → is_known es n ≡ false → (j : ℕ) → HasName es n j → ⊥
unknown-none es n e = number-none es n (unknown_in (number_of es n) e)
