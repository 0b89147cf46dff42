-- What a line says, by its fields.
use Rattle.std.specs.Prelude.{Bool, false, cond, ◌&&◌, List, [], ◌∷◌, length, Some, None, Ok, Err, codes, Option, Result, ◌==◌}
use Rattle.std.specs.Str.{bytes_eq}
use Rattle.words.specs.declared.operation.Operation.{Operation}
use Rattle.words.specs.declared.width.Width.{Width}
use Rattle.lexer.specs.declared.place.Place.{Place}
use Rattle.lexer.specs.declared.fault.FieldFault.{FieldFault}
use Rattle.lexer.specs.Fields.{named_in, unmarked, ends_in_colon}
use Rattle.lexer.specs.Lines.{Piece}
use Rattle.rule.specs.declared.instruction.Condition.{Condition}
use Rattle.syntax.specs.declared.fault.LineFault.{LineFault}
use Rattle.syntax.specs.declared.fault.LineFault.TheVariants.{Field, Form}
use Rattle.syntax.specs.declared.mnemonic.Mnemonic.{Mnemonic}
use Rattle.syntax.specs.declared.mnemonic.Mnemonic.TheVariants as word
use Rattle.syntax.specs.declared.statement.Header.{Header}
use Rattle.syntax.specs.declared.statement.Header.TheVariants.{Code, Buffer}
use Rattle.rule.specs.declared.instruction.Instruction.{Instruction}
use Rattle.rule.specs.declared.instruction.Instruction.TheVariants.{Mov, Alu, Load, Store, Jump, Branch, Ret}
use Rattle.syntax.specs.declared.statement.Statement.{Statement}
use Rattle.syntax.specs.declared.statement.Statement.TheVariants.{Label, Instruction as Instructs}
use Rattle.syntax.specs.Operands.{register_of, operand_of, size_of, mode_of}
use Rattle.syntax.specs.Words.{mnemonic_in}

abbrev pub Said : (Type 0 → Type 0) → Type 0
Said S = Result (S Piece) LineFault

-- just one field, two or three
abbrev pub one_in : List Piece → Option Piece
one_in [] = None
one_in (a ∷ []) = Some a
one_in (a ∷ b ∷ ps) = None

abbrev pub two_in : List Piece → Option (Piece × Piece)
two_in [] = None
two_in (a ∷ []) = None
two_in (a ∷ b ∷ []) = Some (a, b)
two_in (a ∷ b ∷ c ∷ ps) = None

abbrev pub three_in : List Piece → Option (Piece × Piece × Piece)
three_in [] = None
three_in (a ∷ []) = None
three_in (a ∷ b ∷ []) = None
three_in (a ∷ b ∷ c ∷ []) = Some (a, b, c)
three_in (a ∷ b ∷ c ∷ d ∷ ps) = None

-- what is said of so many fields, or something else
abbrev pub given : {X Y : Type 0} → Option X → (X → Y) → Y → Y
given None f else = else
given (Some x) f else = f x

abbrev pub none : {Y : Type 0} → Y → Y → List Piece → Y
none y else ps = cond (length ps == 0) y else

abbrev pub one : {Y : Type 0} → (Piece → Y) → Y → List Piece → Y
one f else ps = given (one_in ps) f else

abbrev pub two : {Y : Type 0} → (Piece → Piece → Y) → Y → List Piece → Y
two f else ps = given (two_in ps) (λ p. f p.0 p.1) else

abbrev pub three : {Y : Type 0} → (Piece → Piece → Piece → Y) → Y → List Piece → Y
three f else ps = given (three_in ps) (λ p. f p.0 p.1 p.2) else

-- a field, and then what follows it; or the field's fault
abbrev pub and_then : {X Y : Type 0} → Result X FieldFault → (X → Result Y LineFault) → Result Y LineFault
and_then (Ok x) f = f x
and_then (Err e) f = Err (Field e)

-- ── before `code` ──

-- the words of the heading, and no more
abbrev pub are_heading : Piece → Piece → Piece → Bool
are_heading a b c = (bytes_eq a.bytes (codes "name") && bytes_eq b.bytes (codes "size")) && bytes_eq c.bytes (codes "mode")

abbrev pub is_heading : List Piece → Bool
is_heading ps = three are_heading false ps

-- one field `code` ends the buffers
abbrev pub is_code : List Piece → Bool
is_code ps = one (λ a. bytes_eq a.bytes (codes "code")) false ps

-- a buffer: `tab 64 ro`
abbrev pub buffer_of : Piece → Piece → Piece → Said Header
buffer_of name size mode =
    and_then (named_in name)
    (λ n. and_then (size_of size)
    (λ s. and_then (mode_of mode)
    (λ m. Ok (Buffer n s m))))

abbrev pub header_of : Place → List Piece → Said Header
header_of p ps = cond (is_code ps) (Ok Code) (three buffer_of (Err (Form p)) ps)

-- ── after it ──

-- `mov a b`
abbrev pub mov_of : Piece → Piece → Said Instruction
mov_of a b = and_then (register_of a) (λ target. and_then (operand_of b) (λ source. Ok (Mov target source)))

-- `add a b`
abbrev pub alu_of : Operation → Piece → Piece → Said Instruction
alu_of op a b = and_then (register_of a) (λ target. and_then (operand_of b) (λ operand. Ok (Alu op target operand)))

-- `ld8 a buf i`
abbrev pub load_of : Width → Piece → Piece → Piece → Said Instruction
load_of w a buf i =
    and_then (register_of a)
    (λ target. and_then (named_in buf)
    (λ buffer. and_then (operand_of i)
    (λ index. Ok (Load w target buffer index))))

-- `st8 buf i a`
abbrev pub store_of : Width → Piece → Piece → Piece → Said Instruction
store_of w buf i a =
    and_then (named_in buf)
    (λ buffer. and_then (operand_of i)
    (λ index. and_then (register_of a)
    (λ source. Ok (Store w buffer index source))))

-- `jmp L`
abbrev pub jump_of : Piece → Said Instruction
jump_of l = and_then (named_in l) (λ to. Ok (Jump to))

-- `jeq a b L`
abbrev pub branch_of : Condition → Piece → Piece → Piece → Said Instruction
branch_of c a b l =
    and_then (register_of a)
    (λ left. and_then (operand_of b)
    (λ right. and_then (named_in l)
    (λ to. Ok (Branch c left right to))))

-- an instruction at a place, by its first word and the fields after it
abbrev pub instruction_of : Place → Mnemonic → List Piece → Said Instruction
instruction_of p word.Mov ps = two mov_of (Err (Form p)) ps
instruction_of p (word.Alu op) ps = two (alu_of op) (Err (Form p)) ps
instruction_of p (word.Load w) ps = three (load_of w) (Err (Form p)) ps
instruction_of p (word.Store w) ps = three (store_of w) (Err (Form p)) ps
instruction_of p word.Jump ps = one jump_of (Err (Form p)) ps
instruction_of p (word.Branch c) ps = three (branch_of c) (Err (Form p)) ps
instruction_of p word.Ret ps = none (Ok Ret) (Err (Form p)) ps

abbrev pub known_of : Place → Option Mnemonic → List Piece → Said Instruction
known_of p None ps = Err (Form p)
known_of p (Some m) ps = instruction_of p m ps

-- a lone field that ends in a colon labels the next instruction
abbrev pub is_label : Piece → List Piece → Bool
is_label first rest = length rest == 0 && ends_in_colon first.bytes

abbrev pub labels : Result Piece FieldFault → Said Statement
labels n = and_then n (λ name. Ok (Label name))

abbrev pub instructs : Said Instruction → Said Statement
instructs (Ok i) = Ok (Instructs i)
instructs (Err e) = Err e

abbrev pub statement_of : Piece → List Piece → Said Statement
statement_of first rest =
    cond (is_label first rest) (labels (named_in (unmarked first)))
    (instructs (known_of first.place (mnemonic_in first.bytes) rest))
