-- A result is a word.
use Rattle.std.proofs.Common.{ℕ, div-le_self, arith}
use lib.Bits.{and_lt, or_lt, xor_lt}
use lib.Pow.{shr_le}
use Rattle.words.specs.declared.operation.Operation.{Operation}
use Rattle.words.specs.declared.operation.Operation.TheVariants.{Add, Sub, Mul, Div, And, Or, Xor, Shl, Shr}
use Rattle.words.specs.Words.{Word, result_of}

pub result_word : (op : Operation) (x y : ℕ) → Word x → Word y → Word (result_of op x y)
result_word Add x y hx hy = omega arith
result_word Sub x y hx hy = omega arith
result_word Mul x y hx hy = omega arith
result_word Div x y hx hy = omega (arith, div-le_self x y)
result_word And x y hx hy = and_lt 64 x y hx hy
result_word Or x y hx hy = or_lt 64 x y hx hy
result_word Xor x y hx hy = xor_lt 64 x y hx hy
result_word Shl x y hx hy = omega arith
result_word Shr x y hx hy = omega (arith, shr_le x y)
