-- The answer to each operation and to each relation, and what it is to be the smallest that is true.
use Rattle.std.specs.Prelude.{◌≡◌, ℕ, ◌<◌, cond, ◌&&◌, Some, None, Option, ◌==◌}
use Rattle.tristate.specs.declared.Tristate.{Tristate}
use Rattle.tristate.specs.Tristates.{Holds, sum, difference, conjunction, disjunction, exclusion, shifted_left, shifted_right, product, quotient, known, unknown, common, reading, single}
use Rattle.words.specs.declared.operation.Operation.{Operation}
use Rattle.words.specs.declared.operation.Operation.TheVariants.{Add, Sub, Mul, Div, And, Or, Xor, Shl, Shr}
use Rattle.words.specs.declared.relation.Relation.{Relation}
use Rattle.words.specs.declared.relation.Relation.TheVariants.{Equal, Unequal, Less, LessOrEqual, Greater, GreaterOrEqual}
use Rattle.words.specs.Words.{Word, result_of}

abbrev pub applied : Operation → Tristate → Tristate → Tristate
applied Add a b = sum a b
applied Sub a b = difference a b
applied Mul a b = product a b
applied Div a b = quotient a b
applied And a b = conjunction a b
applied Or a b = disjunction a b
applied Xor a b = exclusion a b
applied Shl a b = shifted_left a b
applied Shr a b = shifted_right a b

-- none for two equal single words under ≠; else ≠ and the orders leave it
abbrev pub narrowed : Relation → Tristate → Tristate → Option Tristate
narrowed Equal a b = common a b
narrowed Unequal a b = cond (single a && (single b && known a == known b)) None (Some (reading a))
narrowed Less a b = Some (reading a)
narrowed LessOrEqual a b = Some (reading a)
narrowed Greater a b = Some (reading a)
narrowed GreaterOrEqual a b = Some (reading a)

-- `r` holds each result: what the machine makes of a word of `a` and a word of `b`
abbrev pub HoldsResults : Operation → Tristate → Tristate → Tristate → Type 0
HoldsResults op a b r = (x y : ℕ) → Word x → Word y → Holds a x → Holds b y → Holds r (result_of op x y)

-- a shift by one word of at most 63
abbrev pub Amount : Tristate → Type 0
Amount b = (unknown b ≡ 0) × (known b < 64)

-- where the answer is the smallest: sums, differences, the three bitwise operations, and shifts by a known amount
abbrev pub Sharp : Operation → Tristate → Type 0
Sharp Add b = Unit {0}
Sharp Sub b = Unit {0}
Sharp Mul b = ⊥
Sharp Div b = ⊥
Sharp And b = Unit {0}
Sharp Or b = Unit {0}
Sharp Xor b = Unit {0}
Sharp Shl b = Amount b
Sharp Shr b = Amount b

-- there `r` holds each result, and every other tristate number that does holds each word that `r` holds
pub record Best (op : Operation) (a b r : Tristate) : Type 0 where
  pub holds : HoldsResults op a b r
  pub smallest : (t : Tristate) → HoldsResults op a b t → (w : ℕ) → Word w → Holds r w → Holds t w

abbrev pub Smallest : Operation → Tristate → Tristate → Tristate → Type 0
Smallest op a b r = Sharp op b → Best op a b r
