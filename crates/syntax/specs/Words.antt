-- The words of the instructions.
use Rattle.std.specs.Prelude.{ℕ, List, [], ◌∷◌, codes, Option}
use Rattle.std.specs.List.{find}
use Rattle.std.specs.Str.{bytes_eq}
use Rattle.words.specs.declared.operation.Operation.TheVariants.{Add, Sub, Mul, Div, And, Or, Xor, Shl, Shr}
use Rattle.words.specs.declared.width.Width.TheVariants.{W8, W16, W32, W64}
use Rattle.rule.specs.declared.instruction.Condition.TheVariants.{Equal, Unequal, Less, LessOrEqual}
use Rattle.syntax.specs.declared.mnemonic.Mnemonic.{Mnemonic}
use Rattle.syntax.specs.declared.mnemonic.Mnemonic.TheVariants.{Mov, Alu, Load, Store, Jump, Branch, Ret}

abbrev pub word_of : Mnemonic → List ℕ
word_of Mov = codes "mov"
word_of (Alu Add) = codes "add"
word_of (Alu Sub) = codes "sub"
word_of (Alu Mul) = codes "mul"
word_of (Alu Div) = codes "div"
word_of (Alu And) = codes "and"
word_of (Alu Or) = codes "or"
word_of (Alu Xor) = codes "xor"
word_of (Alu Shl) = codes "shl"
word_of (Alu Shr) = codes "shr"
word_of (Load W8) = codes "ld8"
word_of (Load W16) = codes "ld16"
word_of (Load W32) = codes "ld32"
word_of (Load W64) = codes "ld64"
word_of (Store W8) = codes "st8"
word_of (Store W16) = codes "st16"
word_of (Store W32) = codes "st32"
word_of (Store W64) = codes "st64"
word_of Jump = codes "jmp"
word_of (Branch Equal) = codes "jeq"
word_of (Branch Unequal) = codes "jne"
word_of (Branch Less) = codes "jlt"
word_of (Branch LessOrEqual) = codes "jle"
word_of Ret = codes "ret"

abbrev pub all_mnemonics : List Mnemonic
all_mnemonics =
    Mov
    ∷ Alu Add ∷ Alu Sub ∷ Alu Mul ∷ Alu Div ∷ Alu And ∷ Alu Or ∷ Alu Xor ∷ Alu Shl ∷ Alu Shr
    ∷ Load W8 ∷ Load W16 ∷ Load W32 ∷ Load W64
    ∷ Store W8 ∷ Store W16 ∷ Store W32 ∷ Store W64
    ∷ Jump
    ∷ Branch Equal ∷ Branch Unequal ∷ Branch Less ∷ Branch LessOrEqual
    ∷ Ret
    ∷ []

-- the first of the mnemonics whose word the text is
abbrev pub first_with : List ℕ → List Mnemonic → Option Mnemonic
first_with t ms = find (λ m. bytes_eq t (word_of m)) ms

abbrev pub mnemonic_in : List ℕ → Option Mnemonic
mnemonic_in t = first_with t all_mnemonics
