-- The laws of parities: each answer holds what it has to hold.
use Rattle.std.specs.Prelude.{◌≡◌, ℕ, ◌+◌, ◌%◌, min, ◌==◌, bit_and, bit_xor, refl}
use Rattle.std.proofs.Common.{arith, rules, eqb-true, ◌^◌, ◌<◌, ◌⊎◌, Decides}
use Rattle.std.proofs.lemmas.Nat.{and_mask}
use Rattle.std.specs.Int.Bits.{and_step, xor_add_and}
use Rattle.std.proofs.lemmas.Bool.{cond_both, eqb-false}
use Rattle.domain.specs.declared.facts.Facts.{Facts}
use Rattle.domain.specs.Facts.{Meets}
use Rattle.parity.specs.declared.Parity.{Parity}
use Rattle.parity.specs.declared.Parity.TheVariants.{Even, Odd, Either}
use Rattle.parity.specs.Parities.{Stands, absorbed, applied, common, conjunction, joined, lowest, lowest_bit, member, narrowed, parity_of, sum, told}
use Rattle.tristate.specs.declared.Tristate.{Tristate}
use Rattle.tristate.specs.Tristates as bits
use Rattle.tristate.proofs.Laws.{full-holds}
use Rattle.words.specs.declared.operation.Operation.{Operation}
use Rattle.words.specs.declared.operation.Operation.TheVariants.{Add, Sub, Mul, Div, And, Or, Xor, Shl, Shr}
use Rattle.words.specs.declared.relation.Relation.{Relation}
use Rattle.words.specs.declared.width.Width.{Width}
use Rattle.words.specs.Sets.{HoldsIn}
use Rattle.words.specs.Widths.{bits_of}
use Rattle.words.specs.Words.{Word, Related, Sticks, result_of}
use Rattle.words.proofs.Bit.{bit-first}
use Rattle.words.proofs.Held.{bit-clear, bit-held}

-- ---- the operations

sum_stands : (a b : Parity) (x y z : ℕ) → z % 2 ≡ (x + y) % 2 → Stands a x → Stands b y → Stands (sum a b) z
sum_stands a b x y z e ha hb = search rules

conjunction_stands : (a b : Parity) (x y z : ℕ) → z % 2 ≡ min (x % 2) (y % 2) → Stands a x → Stands b y → Stands (conjunction a b) z
conjunction_stands a b x y z e ha hb = search rules

pub applied_stands : (op : Operation) (a b : Parity) (x y : ℕ) → Word x → Word y → Stands a x → Stands b y → (Sticks op y → ⊥)
    → Stands (applied op a b) (result_of op x y)
applied_stands Add a b x y hx hy ha hb _ = sum_stands a b x y (result_of Add x y) (omega arith) ha hb
applied_stands Sub a b x y hx hy ha hb _ = sum_stands a b x y (result_of Sub x y) (omega arith) ha hb
applied_stands Mul a b x y hx hy ha hb _ = tt
applied_stands Div a b x y hx hy ha hb _ = tt
applied_stands And a b x y hx hy ha hb _ = conjunction_stands a b x y (bit_and x y) (omega (arith, and_step x y)) ha hb
applied_stands Or a b x y hx hy ha hb _ = tt
applied_stands Xor a b x y hx hy ha hb _ = sum_stands a b x y (bit_xor x y) (omega (arith, xor_add_and x y)) ha hb
applied_stands Shl a b x y hx hy ha hb _ = tt
applied_stands Shr a b x y hx hy ha hb _ = tt

-- ---- the lowest bit

pub lowest-bit : (a : Parity) (w : ℕ) → Stands a w → bits.Holds (lowest_bit a) w
lowest-bit Even w h = omega (arith, and_mask w 1)
lowest-bit Odd w h = omega (arith, and_mask w 1)
lowest-bit Either w h = full-holds w

parity_stands : (w v : ℕ) → w % 2 ≡ v % 2 → Stands (parity_of v) w
parity_stands w v e =
    cond_both (v % 2 == 0) Even Odd (λ (p : Parity). Stands p w)
    (λ even. omega (arith, eqb-true (v % 2) 0 even)) (λ odd. omega (arith, eqb-false (v % 2) 0 odd))

-- a bit that is known is the word's
pub lowest_stands : (t : Tristate) (w : ℕ) → bits.Holds t w → Stands (lowest t) w
lowest_stands t w h =
    cond_both (bits.unknown t % 2 == 0) (parity_of (bits.known t)) Either (λ (p : Parity). Stands p w)
    (λ none. parity_stands w (bits.known t) (same (eqb-true (bits.unknown t % 2) 0 none))) (λ _. tt)
  where
    mask_lt : Word (bits.unknown t)
    mask_lt = omega arith

    same : bits.unknown t % 2 ≡ 0 → w % 2 ≡ bits.known t % 2
    same none =
        omega (
          arith,
          bit-held t.value (bits.unknown t) w mask_lt h 0 (omega arith),
          bit-clear 0 t.value (bits.unknown t) (omega arith) mask_lt,
          bit-first w,
          bit-first (bits.unknown t),
          bit-first (bits.known t),
        )

pub common_stands : (a b : Parity) (w : ℕ) → Stands a w → Stands b w → HoldsIn Stands (common a b) w
common_stands a b w ha hb = search rules

-- ---- the other laws

pub every_stands : (w : ℕ) → Word w → Stands Either w
every_stands w hw = tt

pub parity_of_stands : (w : ℕ) → Word w → Stands (parity_of w) w
parity_of_stands w hw = parity_stands w w refl

pub either_stands : (k : Width) (w : ℕ) → w < 2 ^ bits_of k → Stands Either w
either_stands k w h = tt

pub member_decides : (a : Parity) (w : ℕ) → Word w → Decides (member a w) (Stands a w)
member_decides a w hw = search rules

pub joined_stands : (a b : Parity) (w : ℕ) → Word w → Stands a w ⊎ Stands b w → Stands (joined a b) w
joined_stands a b w hw h = search rules

pub narrowed_stands : (rel : Relation) (a b : Parity) (x y : ℕ) → Word x → Word y → Stands a x → Stands b y → Related rel x y
    → HoldsIn Stands (narrowed rel a b) x
narrowed_stands rel a b x y hx hy ha hb r = search rules

pub told-met : (a : Parity) (w : ℕ) → Word w → Stands a w → Meets (told a) w
told-met a w hw h = (lowest-bit a w h, omega arith)

pub absorbed_stands : (a : Parity) (f : Facts) (w : ℕ) → Word w → Stands a w → Meets f w → HoldsIn Stands (absorbed a f) w
absorbed_stands a f w hw h m = common_stands a (lowest f.bits) w h (lowest_stands f.bits w m.0)

pub absorbed-within : (a : Parity) (f : Facts) (w : ℕ) → Word w → HoldsIn Stands (absorbed a f) w → Stands a w
absorbed-within a f w hw h = search rules
