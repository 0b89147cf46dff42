-- The text of reports, and that of a fault: a line of names, and below it the values.
use Rattle.std.specs.Prelude.{ℕ, List, [], ◌∷◌, ◌++◌, Some, codes, Option}
use Rattle.grammar.specs.declared.fault.ProgramFault.{ProgramFault}
use Rattle.grammar.specs.declared.refusal.Refusal.{Refusal}
use Rattle.grammar.specs.Refusals.{refusal_of}
use Rattle.step.specs.declared.report.Report.{Report}
use Rattle.step.specs.Causes.{cause_number}
use Rattle.report.specs.Lines.{rows_text}

abbrev pub report_fields : Report → List (Option ℕ)
report_fields r = Some r.line ∷ (Some (cause_number r.cause) ∷ (r.register ∷ (Some r.least ∷ (Some r.most ∷ []))))

abbrev pub reports_text : List Report → List ℕ
reports_text rs = codes "line cause register least most\n" ++ rows_text report_fields rs

abbrev pub refusal_fields : Refusal → List (Option ℕ)
refusal_fields r = Some r.number ∷ (Some r.line ∷ (Some r.place ∷ (Some r.layer ∷ [])))

abbrev pub fault_fields : ProgramFault → List (Option ℕ)
fault_fields f = refusal_fields (refusal_of f)

abbrev pub fault_text : ProgramFault → List ℕ
fault_text f = codes "number line place layer\n" ++ rows_text fault_fields (f ∷ [])
