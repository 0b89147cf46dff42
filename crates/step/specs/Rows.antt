-- A row: what is known of the eight registers before an instruction. And what goes on from it.
use Rattle.std.specs.Prelude.{ℕ, Bool, false, cond, List, [], ◌∷◌, Some, None, Option, slice_index_or}
use Rattle.rule.specs.declared.instruction.Operand.{Operand}
use Rattle.rule.specs.declared.instruction.Operand.TheVariants.{Register, Constant}
use Rattle.range.specs.Ranges.{least, most}
use Rattle.domain.specs.declared.domain.Domain.{Ghosts}
use Rattle.domain.specs.declared.facts.Facts.{Facts}
use Rattle.step.specs.declared.cause.Cause.{Cause}
use Rattle.step.specs.declared.cause.Cause.TheVariants.{Unset}
use Rattle.step.specs.declared.mark.Mark.{Mark}
use Rattle.step.specs.declared.outcome.Change.{Change}
use Rattle.step.specs.declared.outcome.Outcome.{Outcome}
use Rattle.step.specs.declared.outcome.Patch.{Patch}
use Rattle.step.specs.declared.report.Report.{Report}

abbrev pub cell : {D : Type 0} → Ghosts D → List D → ℕ → D
cell d row k = slice_index_or row k d.every

-- a constant is its only word
abbrev pub amount : {D : Type 0} → Ghosts D → List D → Operand → D
amount d row (Register k) = cell d row k
amount d row (Constant c) = d.single c

abbrev pub is_set : Mark → ℕ → Bool
is_set m k = slice_index_or m.set k false

-- the first of the registers that may be unset
abbrev pub first_unset : Mark → List ℕ → Option ℕ
first_unset m [] = None
first_unset m (k ∷ ks) = cond (is_set m k) (first_unset m ks) (Some k)

-- ── reports ──

abbrev pub reported : ℕ → Cause → Option ℕ → Facts → Report
reported line cause register f = record { line = line; cause = cause; register = register; least = least f.range; most = most f.range }

-- the register that an operand is, if it is one
abbrev pub concerned : Operand → Option ℕ
concerned (Register k) = Some k
concerned (Constant c) = None

-- of an operand whose facts do not show the need
abbrev pub doubted : {D : Type 0} → Ghosts D → ℕ → List D → Operand → Option Cause → Option Report
doubted d line row s None = None
doubted d line row s (Some c) = Some (reported line c (concerned s) (d.told (amount d row s)))

-- a register that may be unset comes before every other cause
abbrev pub first_report : {D : Type 0} → Ghosts D → ℕ → List D → Option ℕ → Option Report → Option Report
first_report d line row (Some k) other = Some (reported line Unset (Some k) (d.told (cell d row k)))
first_report d line row None other = other

-- ── what goes on ──

abbrev pub unchanged : {D : Type 0} → Change D
unchanged = record { first = None; second = None }

abbrev pub patch : {D : Type 0} → ℕ → D → Patch D
patch k v = record { register = k; value = v }

abbrev pub patched : {D : Type 0} → ℕ → D → Change D
patched k v = record { first = Some (patch k v); second = None }

-- one of two, by whether there is a report
abbrev pub shown : {X : Type 0} → Option Report → X → X → X
shown None x y = x
shown (Some r) x y = y

abbrev pub goes_on : {D : Type 0} → Option Report → Change D → Outcome D
goes_on r c = record { report = r; next = Some c; jump = None; answer = None }

-- the first of two, where there is one
abbrev pub earlier : {X : Type 0} → Option X → Option X → Option X
earlier (Some x) o = Some x
earlier None o = o
