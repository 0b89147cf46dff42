-- Words, and what the machine makes of two of them: the result of each operation, where it has none, and the comparisons.
use Rattle.std.specs.Prelude.{◌≡◌, ℕ, zero, suc, ◌+◌, ◌-◌, ◌*◌, ◌/◌, ◌%◌, ◌^◌, ◌<◌, ◌≤◌, bit_and, bit_or, bit_xor}
use Rattle.words.specs.declared.operation.Operation.{Operation}
use Rattle.words.specs.declared.operation.Operation.TheVariants.{Add, Sub, Mul, Div, And, Or, Xor, Shl, Shr}
use Rattle.words.specs.declared.relation.Relation.{Relation}
use Rattle.words.specs.declared.relation.Relation.TheVariants.{Equal, Unequal, Less, LessOrEqual, Greater, GreaterOrEqual}

abbrev pub Word : ℕ → Type 0
Word w = w < 2 ^ 64

-- ---- the results: sums, differences, products and shifts to the left wrap, and a quotient is rounded down

abbrev pub plus : ℕ → ℕ → ℕ
plus a b = (a + b) % 2 ^ 64

abbrev pub minus : ℕ → ℕ → ℕ
minus a b = (a + (2 ^ 64 - b)) % 2 ^ 64

abbrev pub times : ℕ → ℕ → ℕ
times a b = (a * b) % 2 ^ 64

-- shifted by s bits
abbrev pub left : ℕ → ℕ → ℕ
left s a = (a * 2 ^ s) % 2 ^ 64

abbrev pub right : ℕ → ℕ → ℕ
right s a = a / 2 ^ s

abbrev pub result_of : Operation → ℕ → ℕ → ℕ
result_of Add a b = plus a b
result_of Sub a b = minus a b
result_of Mul a b = times a b
result_of Div a b = a / b
result_of And a b = bit_and a b
result_of Or a b = bit_or a b
result_of Xor a b = bit_xor a b
result_of Shl a b = left b a
result_of Shr a b = right b a

-- the second operands at which the operation has no result: a divisor of 0, and a shift by more than 63
abbrev pub Sticks : Operation → ℕ → Type 0
Sticks Add b = ⊥
Sticks Sub b = ⊥
Sticks Mul b = ⊥
Sticks Div b = b ≡ 0
Sticks And b = ⊥
Sticks Or b = ⊥
Sticks Xor b = ⊥
Sticks Shl b = 63 < b
Sticks Shr b = 63 < b

-- ---- the comparisons

abbrev pub Related : Relation → ℕ → ℕ → Type 0
Related Equal a b = a ≡ b
Related Unequal a b = a ≡ b → ⊥
Related Less a b = a < b
Related LessOrEqual a b = a ≤ b
Related Greater a b = b < a
Related GreaterOrEqual a b = b ≤ a

-- ---- the length of a word: how many bits there are up to the highest that is set

-- among the k low ones
abbrev pub length_in : ℕ → ℕ → ℕ
length_in zero w = 0
length_in (suc k) zero = 0
length_in (suc k) (suc w) = suc (length_in k (suc w / 2))

abbrev pub length_of : ℕ → ℕ
length_of w = length_in 64 w
