-- What a field says where an instruction or a declaration has it.
use Rattle.std.specs.Prelude.{ℕ, cond, List, Some, None, codes, Option, Result}
use Rattle.std.specs.Str.{bytes_eq}
use Rattle.lexer.specs.declared.fault.FieldFault.{FieldFault}
use Rattle.lexer.specs.Fields.{or_kind, register_in}
use Rattle.lexer.specs.Lines.{Piece}
use Rattle.lexer.specs.Numbers.{constant_in, size_in}
use Rattle.rule.specs.declared.record.Mode.{Mode}
use Rattle.rule.specs.declared.record.Mode.TheVariants.{ReadOnly, ReadWrite}
use Rattle.rule.specs.declared.instruction.Operand.{Operand}
use Rattle.rule.specs.declared.instruction.Operand.TheVariants.{Register, Constant}

abbrev pub register_of : Piece → Result ℕ FieldFault
register_of p = or_kind (register_in p.bytes) p.place

-- a register, and else a constant
abbrev pub either_of : Option ℕ → Option ℕ → Option Operand
either_of (Some r) c = Some (Register r)
either_of None (Some c) = Some (Constant c)
either_of None None = None

abbrev pub operand_in : List ℕ → Option Operand
operand_in t = either_of (register_in t) (constant_in t)

abbrev pub operand_of : Piece → Result Operand FieldFault
operand_of p = or_kind (operand_in p.bytes) p.place

abbrev pub size_of : Piece → Result ℕ FieldFault
size_of p = or_kind (size_in p.bytes) p.place

abbrev pub mode_in : List ℕ → Option Mode
mode_in t = cond (bytes_eq t (codes "ro")) (Some ReadOnly) (cond (bytes_eq t (codes "rw")) (Some ReadWrite) None)

abbrev pub mode_of : Piece → Result Mode FieldFault
mode_of p = or_kind (mode_in p.bytes) p.place
