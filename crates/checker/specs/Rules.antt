-- The built-in rule.
use Rattle.std.specs.Prelude.{List, [], ◌∷◌}
use Rattle.rule.specs.declared.record.Item.TheVariants.{Instruction}
use Rattle.rule.specs.declared.instruction.Instruction.TheVariants.{Mov, Ret}
use Rattle.rule.specs.declared.instruction.Operand.TheVariants.{Constant}
use Rattle.rule.specs.declared.record.Record.{Record}

-- no buffers, `mov r0 0` and `ret`
abbrev pub built_in : List Record
built_in = record { line = 0; item = Instruction (Mov 0 (Constant 0)) } ∷ record { line = 0; item = Instruction Ret } ∷ []
