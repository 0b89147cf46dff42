-- What the code has of a line, with each name as the field that it is.
use Rattle.std.specs.Prelude.{◌≡◌, true, Ok, Err, Result}
use Rattle.lexer.specs.declared.field.Name.{Name}
use Rattle.lexer.specs.Characters.{is_name}
use Rattle.lexer.specs.Fields.{spelled, unmarked}
use Rattle.lexer.specs.Lines.{Piece}
use Rattle.syntax.specs.declared.fault.LineFault.{LineFault}
use Rattle.syntax.specs.declared.statement.Header.{Header}
use Rattle.syntax.specs.declared.statement.Header.TheVariants.{Code, Buffer}
use Rattle.rule.specs.declared.instruction.Instruction.{Instruction}
use Rattle.rule.specs.declared.instruction.Instruction.TheVariants.{Mov, Alu, Load, Store, Jump, Branch, Ret}
use Rattle.syntax.specs.declared.statement.Statement.{Statement}
use Rattle.syntax.specs.declared.statement.Statement.TheVariants.{Label, Instruction as Instructs}

abbrev pub header : Header Name → Header Piece
header Code = Code
header (Buffer n s m) = Buffer (spelled n) s m

abbrev pub instruction : Instruction Name → Instruction Piece
instruction (Mov t s) = Mov t s
instruction (Alu op t o) = Alu op t o
instruction (Load w t n i) = Load w t (spelled n) i
instruction (Store w n i s) = Store w (spelled n) i s
instruction (Jump n) = Jump (spelled n)
instruction (Branch c l r n) = Branch c l r (spelled n)
instruction Ret = Ret

abbrev pub statement : Statement Name → Statement Piece
statement (Label n) = Label (spelled n)
statement (Instructs i) = Instructs (instruction i)

abbrev pub said : {X Y : Type 0} → (X → Y) → Result X LineFault → Result Y LineFault
said f (Ok x) = Ok (f x)
said f (Err e) = Err e

-- a label's name is its field without the colon, and a buffer's is the whole of its first field
abbrev pub LabelFrom : Piece → Result (Statement Name) LineFault → Type 0
LabelFrom p (Ok (Label n)) = (spelled n ≡ unmarked p) × (is_name n.text.now ≡ true)
LabelFrom p (Ok (Instructs i)) = Unit {0}
LabelFrom p (Err e) = Unit {0}

abbrev pub BufferFrom : Piece → Result (Header Name) LineFault → Type 0
BufferFrom p (Ok (Buffer n s m)) = spelled n ≡ p
BufferFrom p (Ok Code) = Unit {0}
BufferFrom p (Err e) = Unit {0}
