-- What the formulas are for: each answer holds what it has to hold, and where it can be the smallest it is.
use Rattle.std.proofs.Common.{◌≡◌, ℕ, ◌/◌, ◌%◌, ◌^◌, ◌<◌, ◌≤◌, Bool, true, false, cond, ◌&&◌, eqb, ltb, Some, None, Option, sym, refl, ap, ◌∙◌, subst, arith, pow_pos, pow_mono, ltb-true, eq-eqb, eqb-true}
use native.Mathlib.Nat.{div-eq_of_lt}
use lib.Bits.{bit_and, bit_or, bit_xor}
use borrow.Author.Tests.{both_ways}
use Rattle.std.proofs.lemmas.Bool.{cond_both}
use Rattle.std.proofs.lemmas.Bool.Decides.{nat_tests}
use Rattle.tristate.specs.declared.Tristate.{Tristate}
use Rattle.tristate.specs.Answers.{applied, narrowed, Amount, Best, Smallest}
use Rattle.tristate.specs.Tristates.{Holds, amount, common, conjunction, difference, disjunction, exclusion, front, full, hull, known, lawful, moved, most, only, reading, single, sum, unknown}
use Rattle.words.specs.declared.operation.Operation.{Operation}
use Rattle.words.specs.declared.operation.Operation.TheVariants.{Add, Sub, Mul, Div, And, Or, Xor, Shl, Shr}
use Rattle.words.specs.declared.relation.Relation.{Relation}
use Rattle.words.specs.declared.relation.Relation.TheVariants.{Equal, Unequal, Less, LessOrEqual, Greater, GreaterOrEqual}
use Rattle.words.specs.Sets.{HoldsIn}
use Rattle.words.specs.Ternary as ternary
use Rattle.words.specs.Ternary.{clear, Held}
use Rattle.words.specs.Words.{Word, Related, Sticks, result_of, times, left, right}
use Rattle.words.proofs.Bitwise.{and_sound, and-smallest, and_mask_lt, or_sound, or-smallest, or_mask_lt, xor_sound, xor-smallest, xor_mask_lt}
use Rattle.words.proofs.Ends.{clear_none, held-above, held_below, held-front, held-full}
use Rattle.words.proofs.Held.{clear_lt, held-least}
use Rattle.words.proofs.Parts.{either_left, either_mask_lt, either_right, both_agree, both_keeps, both_left, both_mask_lt, both_right}
use Rattle.words.proofs.Shifts.{Moves, moved-sound, moved-smallest, left-moves, left_lt, right-moves, right_lt}
use Rattle.words.proofs.Sums.{add-sound, add-smallest, add_mask_lt, sub-sound, sub-smallest, sub_mask_lt}

-- ---- the reading

unknown_lt : (t : Tristate) → Word (unknown t)
unknown_lt t = omega arith

module _ (r : Tristate) (h : Word r.mask) (x : ℕ) where
  pub holds-from : Held r.value r.mask x → Holds r x
  holds-from e = let same : r.mask % 2 ^ 64 ≡ r.mask = omega arith in subst (λ (k : ℕ). Held r.value k x) (sym same) e

  holds-to : Holds r x → Held r.value r.mask x
  holds-to e = let same : r.mask % 2 ^ 64 ≡ r.mask = omega arith in subst (λ (k : ℕ). Held r.value k x) same e

-- a number written out holds what its bits and its mask hold
pub lawful-holds : (v m x : ℕ) → Word m → Held v m x → Holds (lawful v m) x
lawful-holds v m x h e = holds-from (lawful v m) h x (e ∙ sym (held-least v m h))

pub reading-holds : (t : Tristate) (x : ℕ) → Holds t x → Holds (reading t) x
reading-holds t x e = lawful-holds t.value (unknown t) x (unknown_lt t) e

pub full-holds : (x : ℕ) → Holds full x
full-holds x = held-full 0 x

pub only_holds : (x : ℕ) → Holds (only x) x
only_holds x = refl

known-holds : (t : Tristate) → Holds t (known t)
known-holds t = held-least t.value (unknown t) (unknown_lt t)

-- the one word that is held
single-is : (t : Tristate) (x : ℕ) → Word x → unknown t ≡ 0 → Holds t x → x ≡ known t
single-is t x hx none e = sym (clear_none x hx) ∙ subst (λ (k : ℕ). clear x k ≡ known t) none e

-- ---- tests

both_true : (p q : Bool) → (p && q) ≡ true → (p ≡ true) × (q ≡ true)
both_true true q e = (refl, e)
both_true false q e = (e, absurd (both_ways false refl e))

-- where the test fails the answer is every word
under : (t : Bool) (r : Tristate) (x : ℕ) → (t ≡ true → Holds r x) → Holds (cond t r full) x
under t r x h = cond_both t r full (λ (q : Tristate). Holds q x) h (λ _. full-holds x)

single-none : (t : Tristate) → single t ≡ true → unknown t ≡ 0
single-none t e = eqb-true (unknown t) 0 e

amount_of : (t : Tristate) → Amount t → amount t ≡ true
amount_of t h = grind (arith, nat_tests)

of_amount : (t : Tristate) → amount t ≡ true → Amount t
of_amount t e =
    let p = both_true (single t) (ltb (known t) 64) e in
    (single-none t p.0, ltb-true (known t) 64 p.1)

-- ---- the smallest

best : (op : Operation) (a b r : Tristate) → Word r.mask
    → ternary.Sound (result_of op) a.value (unknown a) b.value (unknown b) r.value r.mask
    → ternary.Smallest (result_of op) a.value (unknown a) b.value (unknown b) r.value r.mask → Best op a b r
best op a b r h sound least =
    record {
      holds = λ x y hx hy ea eb. holds-from r h (result_of op x y) (sound x y hx hy ea eb);
      smallest = λ t all w hw e. least t.value (unknown t) (unknown_lt t) all w (holds-to r h w e);
    }

-- a shift by a known amount is an operation on one word
module _ (op : Operation) (f : ℕ → ℕ → ℕ) (is : (x y : ℕ) → result_of op x y ≡ f y x) (moves : (s : ℕ) → Moves (f s))
    (f_lt : (s x : ℕ) → Word x → Word (f s x)) (a b : Tristate) (am : Amount b) where
  abbrev s : ℕ
  s = known b

  abbrev r : Tristate
  r = moved (f s) a

  r_lt : Word r.mask
  r_lt = f_lt s (unknown a) (unknown_lt a)

  best-moved : Best op a b r
  best-moved =
      record {
        holds = λ x y hx hy ea eb. holds-from r r_lt (result_of op x y)
            (subst (λ (k : ℕ). Held r.value r.mask k)
            (sym (is x y ∙ ap (λ (k : ℕ). f k x) (single-is b y hy am.0 eb)))
            (moved-sound (f s) (moves s) (f_lt s) a.value (unknown a) (unknown_lt a) x hx ea));
        smallest = λ t all w hw e. moved-smallest (f s) (moves s) (f_lt s) a.value (unknown a) (unknown_lt a) t.value (unknown t) (unknown_lt t)
            (λ x hx ea. subst (λ (k : ℕ). Holds t k) (is x s) (all x s hx (clear_lt b.value (unknown b)) ea (known-holds b))) w
            (holds-to r r_lt w e);
      }

on-amount : (op : Operation) (a b r : Tristate) → Amount b → Best op a b r → Best op a b (cond (amount b) r full)
on-amount op a b r am h = subst (λ (t : Bool). Best op a b (cond t r full)) (sym (amount_of b am)) h

pub smallest : (op : Operation) (a b : Tristate) → Smallest op a b (applied op a b)
smallest Add a b _ =
    best Add a b (sum a b) (add_mask_lt a.value (unknown a) b.value (unknown b) (unknown_lt a) (unknown_lt b))
    (add-sound a.value (unknown a) b.value (unknown b) (unknown_lt a) (unknown_lt b))
    (add-smallest a.value (unknown a) b.value (unknown b) (unknown_lt a) (unknown_lt b))
smallest Sub a b _ =
    best Sub a b (difference a b) (sub_mask_lt a.value (unknown a) b.value (unknown b) (unknown_lt a) (unknown_lt b))
    (sub-sound a.value (unknown a) b.value (unknown b) (unknown_lt a) (unknown_lt b))
    (sub-smallest a.value (unknown a) b.value (unknown b) (unknown_lt a) (unknown_lt b))
smallest Mul a b h = absurd h
smallest Div a b h = absurd h
smallest And a b _ =
    best And a b (conjunction a b) (and_mask_lt a.value (unknown a) b.value (unknown b) (unknown_lt a) (unknown_lt b))
    (and_sound a.value (unknown a) b.value (unknown b) (unknown_lt a) (unknown_lt b))
    (and-smallest a.value (unknown a) b.value (unknown b) (unknown_lt a) (unknown_lt b))
smallest Or a b _ =
    best Or a b (disjunction a b) (or_mask_lt a.value (unknown a) b.value (unknown b) (unknown_lt a) (unknown_lt b))
    (or_sound a.value (unknown a) b.value (unknown b) (unknown_lt a) (unknown_lt b))
    (or-smallest a.value (unknown a) b.value (unknown b) (unknown_lt a) (unknown_lt b))
smallest Xor a b _ =
    best Xor a b (exclusion a b) (xor_mask_lt a.value (unknown a) b.value (unknown b) (unknown_lt a) (unknown_lt b))
    (xor_sound a.value (unknown a) b.value (unknown b) (unknown_lt a) (unknown_lt b))
    (xor-smallest a.value (unknown a) b.value (unknown b) (unknown_lt a) (unknown_lt b))
smallest Shl a b am =
    on-amount Shl a b (moved (left (known b)) a) am (best-moved Shl left (λ x y. refl) left-moves left_lt a b am)
smallest Shr a b am =
    on-amount Shr a b (moved (right (known b)) a) am (best-moved Shr right (λ x y. refl) right-moves right_lt a b am)

-- ---- each result is held

pub applied-holds : (op : Operation) (a b : Tristate) (x y : ℕ) → Word x → Word y → Holds a x → Holds b y → (Sticks op y → ⊥)
    → Holds (applied op a b) (result_of op x y)
applied-holds Add a b x y hx hy ea eb _ = (smallest Add a b tt).holds x y hx hy ea eb
applied-holds Sub a b x y hx hy ea eb _ = (smallest Sub a b tt).holds x y hx hy ea eb
applied-holds Mul a b x y hx hy ea eb _ =
    under (single a && single b) (only (times (known a) (known b))) (times x y)
    (λ e. let p = both_true (single a) (single b) e in
    subst (λ (k : ℕ). Holds (only (times (known a) (known b))) k)
    (sym (ap (λ (k : ℕ). times k y) (single-is a x hx (single-none a p.0) ea)
    ∙ ap (λ (k : ℕ). times (known a) k) (single-is b y hy (single-none b p.1) eb)))
    (only_holds (times (known a) (known b))))
applied-holds Div a b x y hx hy ea eb _ =
    under (single a && (single b && ltb 0 (known b))) (only (known a / known b)) (x / y)
    (λ e. let p = both_true (single a) (single b && ltb 0 (known b)) e in
    let q = both_true (single b) (ltb 0 (known b)) p.1 in
    subst (λ (k : ℕ). Holds (only (known a / known b)) k)
    (sym (ap (λ (k : ℕ). k / y) (single-is a x hx (single-none a p.0) ea)
    ∙ ap (λ (k : ℕ). known a / k) (single-is b y hy (single-none b q.0) eb)))
    (only_holds (known a / known b)))
applied-holds And a b x y hx hy ea eb _ = (smallest And a b tt).holds x y hx hy ea eb
applied-holds Or a b x y hx hy ea eb _ = (smallest Or a b tt).holds x y hx hy ea eb
applied-holds Xor a b x y hx hy ea eb _ = (smallest Xor a b tt).holds x y hx hy ea eb
applied-holds Shl a b x y hx hy ea eb _ =
    under (amount b) (moved (left (known b)) a) (left y x)
    (λ e. (best-moved Shl left (λ x y. refl) left-moves left_lt a b (of_amount b e)).holds x y hx hy ea eb)
applied-holds Shr a b x y hx hy ea eb _ =
    under (amount b) (moved (right (known b)) a) (right y x)
    (λ e. (best-moved Shr right (λ x y. refl) right-moves right_lt a b (of_amount b e)).holds x y hx hy ea eb)

-- ---- either, and both

pub hull-left : (a b : Tristate) (x : ℕ) → Holds a x → Holds (hull a b) x
hull-left a b x e =
    holds-from (hull a b) (either_mask_lt a.value (unknown a) b.value (unknown b) (unknown_lt a) (unknown_lt b)) x
    (either_left a.value (unknown a) b.value (unknown b) (unknown_lt a) (unknown_lt b) x e)

pub hull-right : (a b : Tristate) (x : ℕ) → Holds b x → Holds (hull a b) x
hull-right a b x e =
    holds-from (hull a b) (either_mask_lt a.value (unknown a) b.value (unknown b) (unknown_lt a) (unknown_lt b)) x
    (either_right a.value (unknown a) b.value (unknown b) (unknown_lt a) (unknown_lt b) x e)

module _ (a b : Tristate) (x : ℕ) where
  abbrev apart : ℕ
  apart = clear (bit_xor (known a) (known b)) (bit_or (unknown a) (unknown b))

  abbrev shared : Tristate
  shared = record { value = bit_or (known a) (known b); mask = bit_and (unknown a) (unknown b) }

  shared_lt : Word shared.mask
  shared_lt = both_mask_lt a.value (unknown a) b.value (unknown b) (unknown_lt a) (unknown_lt b)

  pub common_keeps : Holds a x → Holds b x → HoldsIn Holds (common a b) x
  common_keeps ea eb =
      subst (λ (t : Bool). HoldsIn Holds (cond t (Some shared) None) x)
      (sym (eq-eqb apart 0 (both_agree a.value (unknown a) b.value (unknown b) (unknown_lt a) (unknown_lt b) x ea eb)))
      (holds-from shared shared_lt x (both_keeps a.value (unknown a) b.value (unknown b) (unknown_lt a) (unknown_lt b) x ea eb))

  inside : (t : Bool) → (t ≡ true → apart ≡ 0) → HoldsIn Holds (cond t (Some shared) None) x → Holds a x × Holds b x
  inside true same e =
      let h = holds-to shared shared_lt x e in (
        both_left a.value (unknown a) b.value (unknown b) (unknown_lt a) (unknown_lt b) (same refl) x h,
        both_right a.value (unknown a) b.value (unknown b) (unknown_lt a) (unknown_lt b) (same refl) x h,
      )
  inside false same e = absurd e

  pub common-within : HoldsIn Holds (common a b) x → Holds a x × Holds b x
  common-within e = inside (eqb apart 0) (eqb-true apart 0) e

-- ---- the relations

equal_singles : (a b : Tristate) (x y : ℕ) → Word x → Word y → Holds a x → Holds b y
    → (single a && (single b && eqb (known a) (known b))) ≡ true → x ≡ y
equal_singles a b x y hx hy ea eb e =
    let p = both_true (single a) (single b && eqb (known a) (known b)) e in
    let q = both_true (single b) (eqb (known a) (known b)) p.1 in
    single-is a x hx (single-none a p.0) ea ∙ eqb-true (known a) (known b) q.1 ∙ sym (single-is b y hy (single-none b q.0) eb)

pub narrowed-holds : (rel : Relation) (a b : Tristate) (x y : ℕ) → Word x → Word y → Holds a x → Holds b y → Related rel x y
    → HoldsIn Holds (narrowed rel a b) x
narrowed-holds Equal a b x y hx hy ea eb r = common_keeps a b x ea (subst (λ (k : ℕ). Holds b k) (sym r) eb)
narrowed-holds Unequal a b x y hx hy ea eb r =
    cond_both (single a && (single b && eqb (known a) (known b))) None (Some (reading a)) (λ (o : Option Tristate). HoldsIn Holds o x)
    (λ e. r (equal_singles a b x y hx hy ea eb e)) (λ _. reading-holds a x ea)
narrowed-holds Less a b x y hx hy ea eb r = reading-holds a x ea
narrowed-holds LessOrEqual a b x y hx hy ea eb r = reading-holds a x ea
narrowed-holds Greater a b x y hx hy ea eb r = reading-holds a x ea
narrowed-holds GreaterOrEqual a b x y hx hy ea eb r = reading-holds a x ea

-- ---- the ends

pub known-below : (t : Tristate) (x : ℕ) → Word x → Holds t x → known t ≤ x
known-below t x hx e = held-above t.value (unknown t) x (unknown_lt t) hx e

pub most-above : (t : Tristate) (x : ℕ) → Word x → Holds t x → x ≤ most t
most-above t x hx e = held_below t.value (unknown t) x (unknown_lt t) hx e

-- ---- the words below a power of two

pub front-holds : (k x : ℕ) → k ≤ 64 → x < 2 ^ k → Holds (front k) x
front-holds k x hk h =
    holds-from (front k) (omega (arith, pow_mono hk, pow_pos k)) x (held-front k 0 x hk (div-eq_of_lt h ∙ sym (div-eq_of_lt (pow_pos k))))
