-- What the formulas are for: each answer holds what it has to hold.
use Rattle.std.proofs.Common.{◌≡◌, ℕ, ◌+◌, ◌-◌, ◌*◌, ◌^◌, ◌≤◌, min, max, Bool, true, false, cond, eqb, ltb, leb, Some, None, Option, sym, refl, subst, div-le_self, arith, pow_pos, pow_mono, ltb-true, eqb-true, le-leb, leb-true}
use lib.Bits.{bit_xor, and_le_l, and_le_r}
use lib.Pow.{shr_le}
use Rattle.std.proofs.lemmas.Bool.{cond_both}
use Rattle.std.proofs.lemmas.Nat.{mul-le}
use Rattle.range.specs.declared.Range.{Range}
use Rattle.range.specs.Answers.{applied, narrowed}
use Rattle.range.specs.Ranges.{Within, between, common, full, least, most, range, reach, reading, single, span, without}
use Rattle.tristate.specs.declared.Tristate.{Tristate}
use Rattle.tristate.specs.Tristates.{Holds}
use Rattle.tristate.proofs.Laws.{known-below, lawful-holds, most-above}
use Rattle.words.specs.declared.operation.Operation.{Operation}
use Rattle.words.specs.declared.operation.Operation.TheVariants.{Add, Sub, Mul, Div, And, Or, Xor, Shl, Shr}
use Rattle.words.specs.declared.relation.Relation.{Relation}
use Rattle.words.specs.declared.relation.Relation.TheVariants.{Equal, Unequal, Less, LessOrEqual, Greater, GreaterOrEqual}
use Rattle.words.specs.Sets.{HoldsIn}
use Rattle.words.specs.Words.{Word, Related, Sticks, length_of, result_of}
use Rattle.words.proofs.Ends.{held-between, length_le, or-above-left, or-above-right}
use Rattle.words.proofs.Results.{result_word}

-- where the test fails the answer is every word
under : (t : Bool) (r : Range) (x : ℕ) → Word x → (t ≡ true → Within r x) → Within (cond t r full) x
under t r x hx h = cond_both t r full (λ (q : Range). Within q x) h (λ _. omega arith)

-- ---- the operations

pub applied-holds : (op : Operation) (a b : Range) (x y : ℕ) → Word x → Word y → Within a x → Within b y → (Sticks op y → ⊥)
    → Within (applied op a b) (result_of op x y)
applied-holds Add a b x y hx hy ea eb _ =
    under (ltb (most a + most b) (2 ^ 64)) (range (least a + least b) (most a + most b)) (result_of Add x y) (result_word Add x y hx hy)
    (λ e. let h = ltb-true (most a + most b) (2 ^ 64) e in omega arith)
applied-holds Sub a b x y hx hy ea eb _ =
    under (leb (most b) (least a)) (range (least a - most b) (most a - least b)) (result_of Sub x y) (result_word Sub x y hx hy)
    (λ e. let h = leb-true (most b) (least a) e in omega arith)
applied-holds Mul a b x y hx hy ea eb _ =
    under (ltb (most a * most b) (2 ^ 64)) (range (least a * least b) (most a * most b)) (result_of Mul x y) (result_word Mul x y hx hy)
    (λ e. let h = ltb-true (most a * most b) (2 ^ 64) e in
    omega (arith, mul-le (least a) (least b) x y ea.0 eb.0, mul-le x y (most a) (most b) ea.1 eb.1))
applied-holds Div a b x y hx hy ea eb _ = omega (arith, div-le_self x y)
applied-holds And a b x y hx hy ea eb _ = omega (arith, and_le_l x y, and_le_r x y)
applied-holds Or a b x y hx hy ea eb _ = omega (arith, or-above-left x y, or-above-right x y, result_word Or x y hx hy)
applied-holds Xor a b x y hx hy ea eb _ = omega (arith, result_word Xor x y hx hy)
applied-holds Shl a b x y hx hy ea eb _ = omega (arith, result_word Shl x y hx hy)
applied-holds Shr a b x y hx hy ea eb _ = omega (arith, shr_le x y)

-- ---- the common part

between-holds : (l h x : ℕ) → l ≤ x → x ≤ h → HoldsIn Within (between l h) x
between-holds l h x lx xh =
    let order : l ≤ h = omega arith in
    subst (λ (t : Bool). HoldsIn Within (cond t (Some (range l h)) None) x) (sym (le-leb l h order)) (omega arith)

pub common_keeps : (a b : Range) (x : ℕ) → Within a x → Within b x → HoldsIn Within (common a b) x
common_keeps a b x ea eb = between-holds (max (least a) (least b)) (min (most a) (most b)) x (omega arith) (omega arith)

pub common-within : (a b : Range) (x : ℕ) → HoldsIn Within (common a b) x → Within a x × Within b x
common-within a b x e = by (leb l h) (leb-true l h) e
  where
    l : ℕ
    l = max (least a) (least b)

    h : ℕ
    h = min (most a) (most b)

    by : (t : Bool) → (t ≡ true → l ≤ h) → HoldsIn Within (cond t (Some (range l h)) None) x → Within a x × Within b x
    by true order e = let o = order refl in omega arith
    by false order e = absurd e

-- ---- the cuts

chosen : (t : Bool) (o p : Option Range) (x : ℕ) → (t ≡ true → HoldsIn Within o x) → (t ≡ false → HoldsIn Within p x)
    → HoldsIn Within (cond t o p) x
chosen t o p x first second = cond_both t o p (λ (q : Option Range). HoldsIn Within q x) first second

without-holds : (a : Range) (w x : ℕ) → Within a x → (x ≡ w → ⊥) → HoldsIn Within (without a w) x
without-holds a w x e ne =
    chosen (eqb (least a) w) (between (w + 1) (most a)) (cond (eqb (most a) w) (between (least a) (w - 1)) (Some (reading a))) x
    (λ at. let low : least a ≡ w = eqb-true (least a) w at in between-holds (w + 1) (most a) x (omega arith) (omega arith))
    (λ _. chosen (eqb (most a) w) (between (least a) (w - 1)) (Some (reading a)) x
    (λ at. let high : most a ≡ w = eqb-true (most a) w at in between-holds (least a) (w - 1) x (omega arith) (omega arith))
    (λ _. omega arith))

pub narrowed-holds : (rel : Relation) (a b : Range) (x y : ℕ) → Word x → Word y → Within a x → Within b y → Related rel x y
    → HoldsIn Within (narrowed rel a b) x
narrowed-holds Equal a b x y hx hy ea eb r = common_keeps a b x ea (subst (λ (k : ℕ). Within b k) (sym r) eb)
narrowed-holds Unequal a b x y hx hy ea eb r =
    chosen (single b) (without a (least b)) (Some (reading a)) x
    (λ one. without-holds a (least b) x ea (λ at. r (omega (arith, eqb-true (least b) (most b) one)))) (λ _. omega arith)
narrowed-holds Less a b x y hx hy ea eb r =
    chosen (eqb (most b) 0) None (between (least a) (min (most a) (most b - 1))) x (λ z. omega (arith, eqb-true (most b) 0 z))
    (λ _. between-holds (least a) (min (most a) (most b - 1)) x (omega arith) (omega arith))
narrowed-holds LessOrEqual a b x y hx hy ea eb r = between-holds (least a) (min (most a) (most b)) x (omega arith) (omega arith)
narrowed-holds Greater a b x y hx hy ea eb r = between-holds (max (least a) (least b + 1)) (most a) x (omega arith) (omega arith)
narrowed-holds GreaterOrEqual a b x y hx hy ea eb r = between-holds (max (least a) (least b)) (most a) x (omega arith) (omega arith)

-- ---- ranges and known bits

pub reach-holds : (t : Tristate) (x : ℕ) → Word x → Holds t x → Within (reach t) x
reach-holds t x hx e = omega (arith, known-below t x hx e, most-above t x hx e)

pub span-holds : (r : Range) (x : ℕ) → Word x → Within r x → Holds (span r) x
span-holds r x hx e =
    let k : ℕ = length_of (bit_xor (least r) (most r)) in
    let k-le : k ≤ 64 = length_le (bit_xor (least r) (most r)) in
    lawful-holds (least r) (2 ^ k - 1) x (omega (arith, pow_mono k-le, pow_pos k)) (held-between (least r) (most r) x hx e.0 e.1)
