-- What a check answers, and what it leaves of all that was lent.
use Rattle.std.specs.Prelude.{◌≡◌, ◌*◌, Bool, true, false, ◌&&◌, List, length, Ok, Err, Result, ◌==◌, nat_le}
use Rattle.domain.specs.declared.domain.Domain.{Ghosts}
use Rattle.rule.specs.declared.record.Record.{Record}
use Rattle.machine.specs.Tables.{code_length}
use Rattle.machine.specs.Valid.{table_ok}
use Rattle.step.specs.declared.mark.Mark.{Mark}
use Rattle.step.specs.declared.report.Report.{Report}
use Rattle.walk.specs.declared.tally.Tally.{Tally}
use Rattle.walk.specs.Exact.{Exact}
use Rattle.walk.specs.Sound.{Sound}
use Rattle.walk.specs.Walk.{Sheet, checked}
use Rattle.checker.specs.declared.refusal.CheckRefusal.{CheckRefusal}
use Rattle.checker.specs.declared.refusal.CheckRefusal.TheVariants.{NoRule, NoRoom}

-- eight values, a mark and a report for each instruction
abbrev pub roomy : {D : Type 0} → List Record → List D → List Mark → List Report → Bool
roomy p rows marks reports = nat_le (8 * code_length p) (length rows) && (nat_le (code_length p) (length marks) && nat_le (code_length p) (length reports))

-- the table, the lists as they were lent, and the sheet that they and the answer are
pub record Checked {D : Type 0} (d : Ghosts D) (p : List Record) (rows : List D) (marks : List Mark) (reports : List Report) (s : Sheet D) : Type 0 where
  pub rule : table_ok p ≡ true
  pub room : roomy p rows marks reports ≡ true
  -- rows, marks, reports, count and answer by their values
  pub value : s ≡ checked d p rows marks reports
  -- what these values tell
  pub exact : Exact d p rows marks reports s
  -- a rule with no report never gets stuck
  pub sound : s.count ≡ 0 → Sound d p s.answer

-- the cause of a refusal
abbrev pub Cause : {D : Type 0} → List Record → List D → List Mark → List Report → CheckRefusal → Type 0
Cause p rows marks reports NoRule = table_ok p ≡ false
Cause p rows marks reports NoRoom = (table_ok p ≡ true) × (roomy p rows marks reports ≡ false)

pub record Refused {D : Type 0} (p : List Record) (rows rows' : List D) (marks marks' : List Mark) (reports reports' : List Report) (e : CheckRefusal) : Type 0 where
  pub cause : Cause p rows marks reports e
  pub same_rows : rows' ≡ rows
  pub same_marks : marks' ≡ marks
  pub same_reports : reports' ≡ reports

-- a check accepts where it counts no report
abbrev pub accepts : {D : Type 0} → Result (Tally D) CheckRefusal → Bool
accepts (Ok t) = t.count == 0
accepts (Err e) = false
