-- Which buffer an instruction names.
use Rattle.std.specs.Prelude.{⊤, ℕ, ◌<◌, List}
use Rattle.rule.specs.declared.instruction.Instruction.{Instruction}
use Rattle.rule.specs.declared.instruction.Instruction.TheVariants.{Mov, Alu, Load, Store, Jump, Branch, Ret}
use Rattle.rule.specs.declared.record.Record.{Record}
use Rattle.machine.specs.Tables.{buffer_count}

-- the buffer of a load or a store is one of the rule's
abbrev pub HasBuffer : List Record → Instruction ℕ → Type 0
HasBuffer p (Mov t s) = ⊤
HasBuffer p (Alu op t s) = ⊤
HasBuffer p (Load w t b s) = b < buffer_count p
HasBuffer p (Store w b s t) = b < buffer_count p
HasBuffer p (Jump to) = ⊤
HasBuffer p (Branch c l s to) = ⊤
HasBuffer p Ret = ⊤
