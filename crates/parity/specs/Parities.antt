-- Parities: which words one stands for, and the answer to each question.
use Rattle.std.specs.Prelude.{◌≡◌, ℕ, ◌-◌, ◌%◌, ◌^◌, Bool, true, cond, Some, None, Option, ◌==◌}
use Rattle.domain.specs.declared.facts.Facts.{Facts}
use Rattle.parity.specs.declared.Parity.{Parity}
use Rattle.parity.specs.declared.Parity.TheVariants.{Even, Odd, Either}
use Rattle.range.specs.Ranges as ranges
use Rattle.tristate.specs.declared.Tristate.{Tristate}
use Rattle.tristate.specs.Tristates as bits
use Rattle.words.specs.declared.operation.Operation.{Operation}
use Rattle.words.specs.declared.operation.Operation.TheVariants.{Add, Sub, Mul, Div, And, Or, Xor, Shl, Shr}
use Rattle.words.specs.declared.relation.Relation.{Relation}
use Rattle.words.specs.declared.relation.Relation.TheVariants.{Equal, Unequal, Less, LessOrEqual, Greater, GreaterOrEqual}

abbrev pub Stands : Parity → ℕ → Type 0
Stands Even w = w % 2 ≡ 0
Stands Odd w = w % 2 ≡ 1
Stands Either w = Unit {0}

abbrev pub member : Parity → ℕ → Bool
member Even w = w % 2 == 0
member Odd w = w % 2 == 1
member Either w = true

abbrev pub parity_of : ℕ → Parity
parity_of w = cond (w % 2 == 0) Even Odd

-- ---- the operations: sums, differences and exclusive ors of lowest bits are all the same

abbrev pub turned : Parity → Parity
turned Even = Odd
turned Odd = Even
turned Either = Either

abbrev pub sum : Parity → Parity → Parity
sum Even b = b
sum Odd b = turned b
sum Either b = Either

-- even if one is, whatever the other
abbrev pub even_or : Parity → Parity
even_or Even = Even
even_or Odd = Either
even_or Either = Either

abbrev pub conjunction : Parity → Parity → Parity
conjunction Even b = Even
conjunction Odd b = b
conjunction Either b = even_or b

abbrev pub applied : Operation → Parity → Parity → Parity
applied Add a b = sum a b
applied Sub a b = sum a b
applied Mul a b = Either
applied Div a b = Either
applied And a b = conjunction a b
applied Or a b = Either
applied Xor a b = sum a b
applied Shl a b = Either
applied Shr a b = Either

-- ---- either, and both

abbrev pub joined : Parity → Parity → Parity
joined Even Even = Even
joined Even Odd = Either
joined Even Either = Either
joined Odd Even = Either
joined Odd Odd = Odd
joined Odd Either = Either
joined Either b = Either

abbrev pub common : Parity → Parity → Option Parity
common Even Even = Some Even
common Even Odd = None
common Even Either = Some Even
common Odd Even = None
common Odd Odd = Some Odd
common Odd Either = Some Odd
common Either b = Some b

abbrev pub narrowed : Relation → Parity → Parity → Option Parity
narrowed Equal a b = common a b
narrowed Unequal a b = Some a
narrowed Less a b = Some a
narrowed LessOrEqual a b = Some a
narrowed Greater a b = Some a
narrowed GreaterOrEqual a b = Some a

-- ---- facts: the lowest bit

abbrev pub lowest_bit : Parity → Tristate
lowest_bit Even = record { value = 0; mask = 2 ^ 64 - 2 }
lowest_bit Odd = record { value = 1; mask = 2 ^ 64 - 2 }
lowest_bit Either = bits.full

abbrev pub told : Parity → Facts
told a = record { bits = lowest_bit a; range = ranges.full }

abbrev pub lowest : Tristate → Parity
lowest t = cond (bits.unknown t % 2 == 0) (parity_of (bits.known t)) Either

abbrev pub absorbed : Parity → Facts → Option Parity
absorbed a f = common a (lowest f.bits)
