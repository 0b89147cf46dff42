-- What is told of a text.
use Rattle.std.specs.Prelude.{◌≡◌, ℕ, true, List, [], take, replicate, None, Ok, Err, Result}
use Rattle.grammar.specs.declared.fault.ProgramFault.{ProgramFault}
use Rattle.grammar.specs.Reading.{Program, reading, table_of}
use Rattle.machine.specs.Machine.{NeverStuck}
use Rattle.machine.specs.Valid.{table_ok}
use Rattle.report.specs.Texts.{fault_text, reports_text}
use Rattle.rule.specs.declared.record.Record.{Record}
use Rattle.step.specs.declared.cause.Cause.TheVariants.{Unset}
use Rattle.step.specs.declared.report.Report.{Report}
use Rattle.walk.specs.Walk.{Sheet, checked, unreached}
use Rattle.answer.specs.Standard.{Standard, standard}

-- what stands in a list of reports before there is one
abbrev pub no_report : Report
no_report = record { line = 0; cause = Unset; register = None; least = 0; most = 0 }

-- what the check of a table leaves, in lists of its own
abbrev pub sheet_of : List Record → Sheet Standard
sheet_of p = checked standard p (replicate 768 standard.every) (replicate 96 unreached) (replicate 96 no_report)

abbrev pub reports_in : Sheet Standard → List Report
reports_in s = take s.count s.reports

-- the reports of a rule
unfoldable pub check_text : List Record → List ℕ
check_text p = reports_text (reports_in (sheet_of p))

abbrev pub told_of : Result Program ProgramFault → List ℕ
told_of (Ok p) = check_text (table_of 104 (Ok p))
told_of (Err f) = fault_text f

-- the fault of a text that is refused, or the reports of the rule that is read
unfoldable pub answer_text : List ℕ → List ℕ
answer_text t = told_of (reading 104 t)

-- a rule of which no report is told never gets stuck
unfoldable pub SafeRule : List Record → Type 0
SafeRule p = check_text p ≡ reports_text [] → NeverStuck p

-- a text of which no report is told is read as a rule that never gets stuck
unfoldable pub SafeText : List ℕ → Type 0
SafeText t = answer_text t ≡ reports_text [] → (p : Program) × (reading 104 t ≡ Ok p) × NeverStuck (table_of 104 (Ok p))

-- what is read is a rule: no check refuses it
abbrev pub ReadIsRule : List ℕ → Type 0
ReadIsRule t = (p : Program) → reading 104 t ≡ Ok p → table_ok (table_of 104 (Ok p)) ≡ true
