-- What the row and the mark of an instruction may fail to show: each cause of a report as a statement of its own.
use Rattle.std.specs.Prelude.{◌≡◌, ℕ, ◌+◌, ◌%◌, ◌<◌, false, List, Some, None, Option}
use Rattle.words.specs.Widths.{bytes_of}
use Rattle.words.specs.declared.operation.Operation.TheVariants.{Div, Shl, Shr}
use Rattle.words.specs.declared.width.Width.{Width}
use Rattle.tristate.specs.Tristates.{known, unknown}
use Rattle.range.specs.Ranges.{least, most}
use Rattle.domain.specs.declared.domain.Domain.{Ghosts}
use Rattle.domain.specs.declared.facts.Facts.{Facts}
use Rattle.rule.specs.declared.record.Item.{Item}
use Rattle.rule.specs.declared.record.Item.TheVariants.{Instruction}
use Rattle.rule.specs.declared.instruction.Instruction.TheVariants.{Alu, Load, Store}
use Rattle.rule.specs.declared.instruction.Operand.{Operand}
use Rattle.rule.specs.declared.record.Record.{Record}
use Rattle.machine.specs.Machine.{reads, In}
use Rattle.machine.specs.Tables.{size_at}
use Rattle.step.specs.declared.cause.Cause.{Cause}
use Rattle.step.specs.declared.cause.Cause.TheVariants.{Unset, Divisor, Shift, Beyond, Askew}
use Rattle.step.specs.declared.mark.Mark.{Mark}
use Rattle.step.specs.declared.report.Report.{Report}
use Rattle.step.specs.Causes.{cause_number}
use Rattle.step.specs.Rows.{amount, is_set}

-- the facts of an operand
abbrev pub told_of : {D : Type 0} → Ghosts D → List D → Operand → Facts
told_of d row s = d.told (amount d row s)

-- known and unknown bits are both multiples of the width
abbrev pub Multiples : Facts → Width → Type 0
Multiples f w = (known f.bits % bytes_of w ≡ 0) × (unknown f.bits % bytes_of w ≡ 0)

-- a register that is read is not set; a divisor is not shown to be above 0; a shift may be by more than 63; the last
-- bytes may lie beyond the buffer; the index is not shown to be a multiple of the width
pub data Lacks {D : Type 0} (d : Ghosts D) (p : List Record) (row : List D) (m : Mark) : Item → Cause → Type 0 where
  unset : {i : Item} (k : ℕ) → In k (reads i) → is_set m k ≡ false → Lacks d p row m i Unset
  divisor : {t : ℕ} {s : Operand} → known (told_of d row s).bits ≡ 0 → least (told_of d row s).range ≡ 0 → Lacks d p row m (Instruction (Alu Div t s)) Divisor
  shift_left : {t : ℕ} {s : Operand} → 63 < most (told_of d row s).range → Lacks d p row m (Instruction (Alu Shl t s)) Shift
  shift_right : {t : ℕ} {s : Operand} → 63 < most (told_of d row s).range → Lacks d p row m (Instruction (Alu Shr t s)) Shift
  load_beyond : {w : Width} {t b : ℕ} {s : Operand} → size_at p b < most (told_of d row s).range + bytes_of w → Lacks d p row m (Instruction (Load w t b s)) Beyond
  load_askew : {w : Width} {t b : ℕ} {s : Operand} → (Multiples (told_of d row s) w → ⊥) → Lacks d p row m (Instruction (Load w t b s)) Askew
  store_beyond : {w : Width} {b : ℕ} {s : Operand} {t : ℕ} → size_at p b < most (told_of d row s).range + bytes_of w → Lacks d p row m (Instruction (Store w b s t)) Beyond
  store_askew : {w : Width} {b : ℕ} {s : Operand} {t : ℕ} → (Multiples (told_of d row s) w → ⊥) → Lacks d p row m (Instruction (Store w b s t)) Askew

-- a report tells a cause, and none with a smaller number; where there is no report, there is no cause
abbrev pub First : (Cause → Type 0) → Option Report → Type 0
First lacks None = (c : Cause) → lacks c → ⊥
First lacks (Some r) = lacks r.cause × ((c : Cause) → cause_number c < cause_number r.cause → lacks c → ⊥)
