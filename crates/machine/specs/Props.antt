-- That a table is valid has one proof at most, which a fact of a type needs.
use Rattle.std.specs.Prelude.{ℕ, List}
use Rattle.std.proofs.Props.{props}
use mathlib.Core.HLevel.{Unit-prop, ⊥_prop}
use Rattle.rule.specs.declared.record.Item.{Item}
use Rattle.rule.specs.declared.record.Item.TheVariants.{Blank, Buffer, Instruction}
use Rattle.rule.specs.declared.instruction.Instruction.TheVariants.{Mov, Alu, Load, Store, Jump, Branch, Ret}
use Rattle.rule.specs.declared.instruction.Operand.{Operand}
use Rattle.rule.specs.declared.instruction.Operand.TheVariants.{Register, Constant}
use Rattle.rule.specs.declared.record.Record.{Record}
use Rattle.machine.specs.Valid.{ValidOperand, ValidItem}

ValidOperand-prop : (s : Operand) → IsProp (ValidOperand s)
ValidOperand-prop (Register k) = Prim.hlevel props
ValidOperand-prop (Constant c) = Prim.hlevel props

pub ValidItem-prop : (p : List Record) (n k : ℕ) (i : Item) → IsProp (ValidItem p n k i)
ValidItem-prop p n k (Instruction (Mov t s)) = Prim.hlevel (props, ValidOperand-prop)
ValidItem-prop p n k (Instruction (Alu op t s)) = Prim.hlevel (props, ValidOperand-prop)
ValidItem-prop p n k (Instruction (Load w t b s)) = Prim.hlevel (props, ValidOperand-prop)
ValidItem-prop p n k (Instruction (Store w b s t)) = Prim.hlevel (props, ValidOperand-prop)
ValidItem-prop p n k (Instruction (Jump to)) = Prim.hlevel props
ValidItem-prop p n k (Instruction (Branch c l s to)) = Prim.hlevel (props, ValidOperand-prop)
ValidItem-prop p n k (Instruction Ret) = Unit-prop
ValidItem-prop p n k (Buffer size mode) = ⊥_prop
ValidItem-prop p n k Blank = ⊥_prop

pub ruleset valid_props = (props, ValidItem-prop)
