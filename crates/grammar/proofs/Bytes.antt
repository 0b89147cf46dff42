-- The first byte that no text may hold.
use Rattle.std.proofs.Common.{◌≡◌, ℕ, zero, suc, ◌+◌, ◌<◌, Bool, true, false, cond, eqb, leb, ◌⊎◌, List, [], ◌∷◌, take, Some, None, Option, sym, refl, ap, ◌∙◌, subst, inl, inr, ⊎_elim, arith}
use Rattle.std.proofs.lemmas.Bool.{cond-true, cond-false, cases_lt, eqb-true, eqb-false, leb-true, and_parts}
use Rattle.std.proofs.lemmas.Bool.Decides.{nat_tests}
use Rattle.lexer.specs.declared.place.Place.{Place}
use Rattle.lexer.specs.Characters.{printable}
use Rattle.lexer.specs.Foreign.{foreign_from, foreign}
use Rattle.grammar.specs.Causes.{Foreign, NoneForeign, FirstForeign, feeds}

step-none : (x y : Bool) (a b : Option Place) (p : Place) → cond x a (cond y b (Some p)) ≡ None → ((x ≡ true) × (a ≡ None)) ⊎ ((x ≡ false) × (y ≡ true) × (b ≡ None))
step-none true y a b p e = inl (refl, e)
step-none false true a b p e = inr (refl, refl, e)
step-none false false a b p e = let z : ◌≡◌ {A = ℕ} 0 1 = cc in absurd (omega arith)

step-some : (x y : Bool) (a b : Option Place) (p q : Place) → cond x a (cond y b (Some p)) ≡ Some q → ((x ≡ true) × (a ≡ Some q)) ⊎ (((x ≡ false) × (y ≡ true) × (b ≡ Some q)) ⊎ ((x ≡ false) × (y ≡ false) × (p ≡ q)))
step-some true y a b p q e = inl (refl, e)
step-some false true a b p q e = inr (inl (refl, refl, e))
step-some false false a b p q e = inr (inr (refl, refl, cc))

-- a line feed or a printable byte is not foreign
feed_fits : (b : ℕ) (bs : List ℕ) → eqb b 10 ≡ true → Foreign (b ∷ bs) 0 → ⊥
feed_fits b bs e f = f.1 (eqb-true b 10 e)

byte_fits : (b : ℕ) (bs : List ℕ) → printable b ≡ true → Foreign (b ∷ bs) 0 → ⊥
byte_fits b bs e f =
    let r = and_parts (leb 32 b) (leb b 126) e in
    let lo = leb-true 32 b r.0 in
    let hi = leb-true b 126 r.1 in
    ⊎_elim (λ l. omega arith) (λ l. omega arith) f.2

byte-foreign : (b : ℕ) (bs : List ℕ) → eqb b 10 ≡ false → printable b ≡ false → Foreign (b ∷ bs) 0
byte-foreign b bs e p = (omega arith, eqb-false b 10 e, ⊎_elim (λ l. inl l) (λ l. ⊎_elim (λ m. inr m) (λ m. absurd (grind (arith, nat_tests))) (cases_lt 126 b)) (cases_lt b 32))

none_more : (b : ℕ) (bs : List ℕ) → (Foreign (b ∷ bs) 0 → ⊥) → NoneForeign bs → NoneForeign (b ∷ bs)
none_more b bs h a zero f = h f
none_more b bs h a (suc i) f = a i (omega (arith, f.0), f.1, f.2)

before_more : (b : ℕ) (bs : List ℕ) (n : ℕ) → (Foreign (b ∷ bs) 0 → ⊥) → ((i : ℕ) → i < n → Foreign bs i → ⊥) → (i : ℕ) → i < suc n → Foreign (b ∷ bs) i → ⊥
before_more b bs n h a zero l f = h f
before_more b bs n h a (suc i) l f = a i (omega arith) (omega (arith, f.0), f.1, f.2)

pub foreign-none : (bs : List ℕ) (line at : ℕ) → foreign_from line at bs ≡ None → NoneForeign bs
foreign-none [] line at e = λ i f. omega (arith, f.0)
foreign-none (b ∷ bs) line at e =
    ⊎_elim
    (λ h. none_more b bs (feed_fits b bs h.0) (foreign-none bs (line + 1) (at + 1) h.1))
    (λ h. none_more b bs (byte_fits b bs h.1) (foreign-none bs line (at + 1) h.2))
    (step-none (eqb b 10) (printable b) _ _ _ e)

pub record First (line at : ℕ) (bs : List ℕ) (p : Place) : Type 0 where
  pub i : ℕ
  pub where_at : p.at ≡ at + i
  pub here : Foreign bs i
  pub before : (j : ℕ) → j < i → Foreign bs j → ⊥
  pub counted : p.line ≡ line + feeds (take i bs)

foreign-some : (bs : List ℕ) (line at : ℕ) (p : Place) → foreign_from line at bs ≡ Some p → First line at bs p
foreign-some [] line at p e = let z : ◌≡◌ {A = ℕ} 0 1 = cc in absurd (omega arith)
foreign-some (b ∷ bs) line at p e =
    ⊎_elim
    (λ h. let r = foreign-some bs (line + 1) (at + 1) p h.1 in
    let n : feeds (take (suc r.i) (b ∷ bs)) ≡ 1 + feeds (take r.i bs) = cond-true (eqb b 10) _ _ h.0 in
    record { i = suc r.i; where_at = omega (arith, r.where_at); here = (omega (arith, r.here.0), r.here.1, r.here.2); before = before_more b bs r.i (feed_fits b bs h.0) r.before; counted = omega (arith, r.counted, n) })
    (⊎_elim
    (λ h. let r = foreign-some bs line (at + 1) p h.2 in
    let n : feeds (take (suc r.i) (b ∷ bs)) ≡ feeds (take r.i bs) = cond-false (eqb b 10) _ _ h.0 in
    record { i = suc r.i; where_at = omega (arith, r.where_at); here = (omega (arith, r.here.0), r.here.1, r.here.2); before = before_more b bs r.i (byte_fits b bs h.1) r.before; counted = omega (arith, r.counted, n) })
    (λ h. record { i = 0; where_at = ap (λ (q : Place). q.at) (sym h.2) ∙ omega arith; here = byte-foreign b bs h.0 h.1; before = λ j l f. omega arith; counted = ap (λ (q : Place). q.line) (sym h.2) ∙ omega arith }))
    (step-some (eqb b 10) (printable b) _ _ _ p e)

pub first-foreign : (t : List ℕ) (p : Place) → foreign t ≡ Some p → FirstForeign t p
first-foreign t p e =
    let r = foreign-some t 1 0 p e in
    let is : r.i ≡ p.at = omega (arith, r.where_at) in
    (subst (Foreign t) is r.here, λ j l f. r.before j (omega arith) f, r.counted ∙ ap (λ n. 1 + feeds (take n t)) is)
