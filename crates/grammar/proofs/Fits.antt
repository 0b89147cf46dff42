-- What the reading of a field says of its kind.
use Rattle.std.proofs.Common.{◌≡◌, ℕ, suc, ◌+◌, ◌-◌, ◌^◌, ◌≤◌, true, ◌&&◌, eqb, ltb, leb, ◌⊎◌, List, [], ◌∷◌, get_or, ℤ, pos, negsuc, Some, None, Ok, Err, codes, Option, Result, sym, refl, ap, ◌∙◌, subst, inl, inr, ⊎_elim, arith}
use Rattle.std.proofs.lemmas.Slice.Eq.{bytes_eq-Decides}
use Rattle.std.proofs.lemmas.Bool.{cond-true, cond-false, cases_Bool, and_parts, and_from, eqb-true, leb-true, ltb-true, ltb-false, le-leb, both_ways}
use Rattle.std.proofs.lemmas.Bool.Decides.{nat_tests}
use Rattle.std.specs.Str.{bytes_eq}
use Rattle.lexer.specs.declared.fault.FieldFault.{FieldFault}
use Rattle.lexer.specs.declared.fault.FieldFault.TheVariants.{Kind as WrongKind}
use Rattle.lexer.specs.Characters.{is_name}
use Rattle.lexer.specs.Fields.{or_kind, named_in, is_register, register_in}
use Rattle.lexer.specs.Lines.{Piece}
use Rattle.lexer.specs.Numbers.{number, word_of, size_of as size_in, constant_in, and_then}
use Rattle.syntax.specs.Operands.{register_of, either_of, operand_in, operand_of, size_of, mode_in, mode_of}
use Rattle.grammar.specs.Kinds.{Kind, name, size, mode, register, value, IsRegister, InLimits, IsConstant, Fits}

-- a field is read just where it is of the kind, and else is at fault at its place
abbrev pub Reads : {X : Type 0} → Kind → Piece → Result X FieldFault → Type 0
Reads {X} k p r = ((x : X) × Fits k p.bytes × (r ≡ Ok x)) ⊎ ((Fits k p.bytes → ⊥) × (r ≡ Err (WrongKind p.place)))

-- the same of what a field says or does not
abbrev Tells : {X : Type 0} → Kind → List ℕ → Option X → Type 0
Tells {X} k bs o = ((x : X) × Fits k bs × (o ≡ Some x)) ⊎ ((Fits k bs → ⊥) × (o ≡ None))

reads-from : {X : Type 0} (k : Kind) (p : Piece) (o : Option X) → Tells k p.bytes o → Reads k p (or_kind o p.place)
reads-from k p o t =
    ⊎_elim
    (λ h. inl (h.0, h.1, ap (λ x. or_kind x p.place) h.2))
    (λ h. inr (h.0, ap (λ x. or_kind x p.place) h.1))
    t

pub name-reads : (p : Piece) → Reads name p (named_in p)
name-reads p =
    ⊎_elim
    (λ h. inl (p, h, cond-true (is_name p.bytes) _ _ h))
    (λ h. inr (both_ways _ h, cond-false (is_name p.bytes) _ _ h))
    (cases_Bool (is_name p.bytes))

-- ── registers ──

register-from : (bs : List ℕ) → is_register bs ≡ true → IsRegister bs
register-from [] h = absurd (grind (arith, nat_tests))
register-from (a ∷ []) h = absurd (grind (arith, nat_tests))
register-from (a ∷ b ∷ []) h =
    let r = and_parts (eqb 2 2 && eqb a 114) (leb 48 b && leb b 55) h in
    let first = eqb-true a 114 r.0 in
    let s = and_parts (leb 48 b) (leb b 55) r.1 in
    let lo = leb-true 48 b s.0 in
    let hi = leb-true b 55 s.1 in
    let d : 48 + (b - 48) ≡ b = omega arith in
    (b - 48, omega arith, ap (λ x. x ∷ b ∷ []) first ∙ ap (λ x. 114 ∷ x ∷ []) (sym d))
register-from (a ∷ b ∷ c ∷ bs) h = absurd (grind (arith, nat_tests))

register-to : (bs : List ℕ) → IsRegister bs → is_register bs ≡ true
register-to bs r =
    let d = r.0 in
    let is : is_register (114 ∷ (48 + d) ∷ []) ≡ true = and_from (leb 48 (48 + d)) (leb (48 + d) 55) (le-leb _ _ (omega arith)) (le-leb _ _ (omega (arith, r.1))) in
    ap is_register r.2 ∙ is

register_tells : (bs : List ℕ) → Tells register bs (register_in bs)
register_tells bs =
    ⊎_elim
    (λ h. inl (get_or bs 1 0 - 48, register-from bs h, cond-true (is_register bs) _ _ h))
    (λ h. inr (λ r. both_ways _ h (register-to bs r), cond-false (is_register bs) _ _ h))
    (cases_Bool (is_register bs))

pub register-reads : (p : Piece) → Reads register p (register_of p)
register-reads p = reads-from register p (register_in p.bytes) (register_tells p.bytes)

-- ── constants, sizes and modes ──

in_limits : (z : ℤ) → ((w : ℕ) × InLimits z × (word_of z ≡ Some w)) ⊎ ((InLimits z → ⊥) × (word_of z ≡ None))
in_limits (pos n) =
    ⊎_elim
    (λ h. inl (n, ltb-true n (2 ^ 64) h, cond-true (ltb n (2 ^ 64)) _ _ h))
    (λ h. inr (λ l. omega (arith, ltb-false n (2 ^ 64) h), cond-false (ltb n (2 ^ 64)) _ _ h))
    (cases_Bool (ltb n (2 ^ 64)))
in_limits (negsuc n) =
    ⊎_elim
    (λ h. inl (2 ^ 64 - suc n, omega (arith, ltb-true n (2 ^ 63) h), cond-true (ltb n (2 ^ 63)) _ _ h))
    (λ h. inr (λ l. omega (arith, ltb-false n (2 ^ 63) h), cond-false (ltb n (2 ^ 63)) _ _ h))
    (cases_Bool (ltb n (2 ^ 63)))

-- what a number says, where there is one
same_number : (o : Option ℤ) (y z : ℤ) → o ≡ Some y → o ≡ Some z → y ≡ z
same_number o y z a b = cc

no_number : (o : Option ℤ) (z : ℤ) → o ≡ None → o ≡ Some z → ⊥
no_number o z a b = let x : ◌≡◌ {A = ℕ} 0 1 = cc in omega arith

abbrev Constant : List ℕ → Option ℕ → Type 0
Constant bs o = ((w : ℕ) × IsConstant bs × (o ≡ Some w)) ⊎ ((IsConstant bs → ⊥) × (o ≡ None))

constant_of : (bs : List ℕ) (o : Option ℤ) → number bs ≡ o → Constant bs (and_then o word_of)
constant_of bs None e = inr (λ c. no_number _ c.0 e c.1, refl)
constant_of bs (Some z) e =
    ⊎_elim
    (λ h. inl (h.0, (z, e, h.1), h.2))
    (λ h. inr (λ c. h.0 (subst InLimits (same_number _ c.0 z c.1 e) c.2), h.1))
    (in_limits z)

constant_tells : (bs : List ℕ) → Constant bs (constant_in bs)
constant_tells bs = constant_of bs (number bs) refl

value_tells : (bs : List ℕ) → Tells value bs (operand_in bs)
value_tells bs =
    ⊎_elim
    (λ r. inl (_, inl r.1, ap (λ o. either_of o (constant_in bs)) r.2))
    (λ r. ⊎_elim
    (λ c. inl (_, inr c.1, ap (λ o. either_of o (constant_in bs)) r.1 ∙ ap (either_of None) c.2))
    (λ c. inr (⊎_elim r.0 c.0, ap (λ o. either_of o (constant_in bs)) r.1 ∙ ap (either_of None) c.1))
    (constant_tells bs))
    (register_tells bs)

pub value-reads : (p : Piece) → Reads value p (operand_of p)
value-reads p = reads-from value p (operand_in p.bytes) (value_tells p.bytes)

size_fits : (n : ℕ) → ((1 ≤ n) × (n ≤ 1024) × (size_in (pos n) ≡ Some n)) ⊎ (((1 ≤ n) × (n ≤ 1024) → ⊥) × (size_in (pos n) ≡ None))
size_fits n =
    ⊎_elim
    (λ h. let r = and_parts (leb 1 n) (leb n 1024) h in inl (leb-true 1 n r.0, leb-true n 1024 r.1, cond-true (leb 1 n && leb n 1024) _ _ h))
    (λ h. inr (λ l. both_ways _ h (and_from (leb 1 n) (leb n 1024) (le-leb 1 n l.0) (le-leb n 1024 l.1)), cond-false (leb 1 n && leb n 1024) _ _ h))
    (cases_Bool (leb 1 n && leb n 1024))

same-natural : (m n : ℕ) → pos m ≡ pos n → m ≡ n
same-natural m n e = cc

size_of_number : (bs : List ℕ) (o : Option ℤ) → number bs ≡ o → Tells size bs (and_then o size_in)
size_of_number bs None e = inr (λ c. no_number _ (pos c.0) e c.1, refl)
size_of_number bs (Some (negsuc n)) e = inr (λ c. let x : negsuc n ≡ pos c.0 = same_number _ (negsuc n) (pos c.0) e c.1 in let y : ◌≡◌ {A = ℕ} 0 1 = cc in omega arith, refl)
size_of_number bs (Some (pos n)) e =
    ⊎_elim
    (λ h. inl (n, (n, e, h.0, h.1), h.2))
    (λ h. inr (λ c. let same = same-natural c.0 n (same_number _ (pos c.0) (pos n) c.1 e) in h.0 (omega (arith, c.2), omega (arith, c.3)), h.1))
    (size_fits n)

pub size-reads : (p : Piece) → Reads size p (size_of p)
size-reads p = reads-from size p _ (size_of_number p.bytes (number p.bytes) refl)

mode_tells : (bs : List ℕ) → Tells mode bs (mode_in bs)
mode_tells bs =
    ⊎_elim
    (λ h. inl (_, inl ((bytes_eq-Decides bs (codes "ro")).0 h), cond-true (bytes_eq bs (codes "ro")) _ _ h))
    (λ h. ⊎_elim
    (λ g. inl (_, inr ((bytes_eq-Decides bs (codes "rw")).0 g), cond-false (bytes_eq bs (codes "ro")) _ _ h ∙ cond-true (bytes_eq bs (codes "rw")) _ _ g))
    (λ g. inr (⊎_elim (λ e. both_ways _ h ((bytes_eq-Decides bs (codes "ro")).1 e)) (λ e. both_ways _ g ((bytes_eq-Decides bs (codes "rw")).1 e)), cond-false (bytes_eq bs (codes "ro")) _ _ h ∙ cond-false (bytes_eq bs (codes "rw")) _ _ g))
    (cases_Bool (bytes_eq bs (codes "rw"))))
    (cases_Bool (bytes_eq bs (codes "ro")))

pub mode-reads : (p : Piece) → Reads mode p (mode_of p)
mode-reads p = reads-from mode p (mode_in p.bytes) (mode_tells p.bytes)
