-- What each instruction makes of its row and mark.
use Rattle.std.specs.Prelude.{ℕ, Bool, false, cond, List, Some, None, Option, ◌==◌}
use Rattle.words.specs.declared.operation.Operation.{Operation}
use Rattle.words.specs.declared.operation.Operation.TheVariants.{Add, Sub, Mul, Div, And, Or, Xor, Shl, Shr}
use Rattle.words.specs.declared.relation.Relation.{Relation}
use Rattle.words.specs.declared.relation.Relation.TheVariants.{Equal, Unequal, Less, LessOrEqual, Greater, GreaterOrEqual}
use Rattle.words.specs.declared.width.Width.{Width}
use Rattle.rule.specs.declared.record.Item.{Item}
use Rattle.rule.specs.declared.record.Item.TheVariants.{Blank, Buffer, Instruction}
use Rattle.rule.specs.declared.instruction.Instruction.TheVariants.{Mov, Alu, Load, Store, Jump, Branch, Ret}
use Rattle.rule.specs.declared.instruction.Operand.{Operand}
use Rattle.rule.specs.declared.instruction.Operand.TheVariants.{Register, Constant}
use Rattle.rule.specs.declared.record.Record.{Record}
use Rattle.rule.specs.Instructions.{relation_of}
use Rattle.machine.specs.Machine.{reads}
use Rattle.machine.specs.Tables.{size_at}
use Rattle.domain.specs.declared.domain.Domain.{Ghosts}
use Rattle.step.specs.declared.cause.Cause.{Cause}
use Rattle.step.specs.declared.mark.Mark.{Mark}
use Rattle.step.specs.declared.outcome.Change.{Change}
use Rattle.step.specs.declared.outcome.Outcome.{Outcome}
use Rattle.step.specs.declared.outcome.Jump.{Jump as Leap}
use Rattle.step.specs.declared.outcome.Patch.{Patch}
use Rattle.step.specs.declared.report.Report.{Report}
use Rattle.step.specs.Needs.{divisor_cause, shift_cause, access_cause}
use Rattle.step.specs.Rows.{cell, amount, first_unset, doubted, first_report, unchanged, patch, patched, shown, goes_on}

-- ── whether there is a report ──

-- what an operation does not show of its second operand
abbrev pub alu_cause : {D : Type 0} → Ghosts D → Operation → D → Option Cause
alu_cause d Div b = divisor_cause (d.told b)
alu_cause d Shl b = shift_cause (d.told b)
alu_cause d Shr b = shift_cause (d.told b)
alu_cause d Add b = None
alu_cause d Sub b = None
alu_cause d Mul b = None
alu_cause d And b = None
alu_cause d Or b = None
alu_cause d Xor b = None

-- what an access does not show of its index
abbrev pub index_cause : {D : Type 0} → Ghosts D → List Record → ℕ → Width → D → Option Cause
index_cause d p b w i = access_cause (d.told i) w (size_at p b)

-- at most one report: the first cause
abbrev pub judged : {D : Type 0} → Ghosts D → List Record → ℕ → Item → List D → Mark → Option Report
judged d p line (Instruction (Alu op t s)) row m = first_report d line row (first_unset m (reads (Instruction (Alu op t s)))) (doubted d line row s (alu_cause d op (amount d row s)))
judged d p line (Instruction (Load w t b s)) row m = first_report d line row (first_unset m (reads (Instruction (Load w t b s)))) (doubted d line row s (index_cause d p b w (amount d row s)))
judged d p line (Instruction (Store w b s t)) row m = first_report d line row (first_unset m (reads (Instruction (Store w b s t)))) (doubted d line row s (index_cause d p b w (amount d row s)))
judged d p line (Instruction (Mov t s)) row m = first_report d line row (first_unset m (reads (Instruction (Mov t s)))) None
judged d p line (Instruction (Branch c l s to)) row m = first_report d line row (first_unset m (reads (Instruction (Branch c l s to)))) None
judged d p line (Instruction Ret) row m = first_report d line row (first_unset m (reads (Instruction Ret))) None
judged d p line (Instruction (Jump to)) row m = None
judged d p line (Buffer size mode) row m = None
judged d p line Blank row m = None

-- ── what goes on ──

-- the relation that holds where the other does not, and the same relation from the other side
abbrev pub opposite : Relation → Relation
opposite Equal = Unequal
opposite Unequal = Equal
opposite Less = GreaterOrEqual
opposite LessOrEqual = Greater
opposite Greater = LessOrEqual
opposite GreaterOrEqual = Less

abbrev pub mirrored : Relation → Relation
mirrored Equal = Equal
mirrored Unequal = Unequal
mirrored Less = Greater
mirrored LessOrEqual = GreaterOrEqual
mirrored Greater = Less
mirrored GreaterOrEqual = LessOrEqual

-- the operand's register gets the value; a constant stays
abbrev pub patch_to : {D : Type 0} → Operand → D → Option (Patch D)
patch_to (Register k) v = Some (patch k v)
patch_to (Constant c) v = None

-- both operands narrowed, where neither is closed
abbrev pub both_to : {D : Type 0} → ℕ → Operand → Option D → Option D → Option (Change D)
both_to l s None y = None
both_to l s (Some x) None = None
both_to l s (Some x) (Some y) = Some (record { first = Some (patch l x); second = patch_to s y })

abbrev pub side_of : {D : Type 0} → Ghosts D → Relation → ℕ → Operand → List D → Option (Change D)
side_of d rel l s row = both_to l s (d.narrowed rel (cell d row l) (amount d row s)) (d.narrowed (mirrored rel) (amount d row s) (cell d row l))

-- is a register compared with itself?
abbrev pub is_same : ℕ → Operand → Bool
is_same l (Register k) = l == k
is_same l (Constant c) = false

-- a side of a branch: narrowed, unless there is a report or a register is compared with itself
abbrev pub branch_side : {D : Type 0} → Ghosts D → Option Report → Relation → ℕ → Operand → List D → Option (Change D)
branch_side d r rel l s row = shown r (cond (is_same l s) (Some unchanged) (side_of d rel l s row)) (Some unchanged)

-- a change that a jump takes along, if the jump is taken at all
abbrev pub jump_to : {D : Type 0} → ℕ → Option (Change D) → Option (Leap D)
jump_to to None = None
jump_to to (Some c) = Some (record { to = to; change = c })

abbrev pub transfer : {D : Type 0} → Ghosts D → List Record → ℕ → Item → List D → Mark → Outcome D
transfer d p line (Instruction (Mov t s)) row m = let r : Option Report = judged d p line (Instruction (Mov t s)) row m in goes_on r (patched t (shown r (amount d row s) d.every))
transfer d p line (Instruction (Alu op t s)) row m = let r : Option Report = judged d p line (Instruction (Alu op t s)) row m in goes_on r (patched t (shown r (d.applied op (cell d row t) (amount d row s)) d.every))
transfer d p line (Instruction (Load w t b s)) row m = goes_on (judged d p line (Instruction (Load w t b s)) row m) (patched t (d.under w))
transfer d p line (Instruction (Store w b s t)) row m = goes_on (judged d p line (Instruction (Store w b s t)) row m) unchanged
transfer d p line (Instruction (Jump to)) row m = record { report = None; next = None; jump = jump_to to (Some unchanged); answer = None }
transfer d p line (Instruction (Branch c l s to)) row m =
    let r : Option Report = judged d p line (Instruction (Branch c l s to)) row m in
    record { report = r; next = branch_side d r (opposite (relation_of c)) l s row; jump = jump_to to (branch_side d r (relation_of c) l s row); answer = None }
transfer d p line (Instruction Ret) row m = let r : Option Report = judged d p line (Instruction Ret) row m in record { report = r; next = None; jump = None; answer = shown r (Some (cell d row 0)) None }
transfer d p line (Buffer size mode) row m = record { report = None; next = None; jump = None; answer = None }
transfer d p line Blank row m = record { report = None; next = None; jump = None; answer = None }
