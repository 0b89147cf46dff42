use Rattle.std.proofs.Common.{◌≡◌, ℕ, ◌-◌, ◌≤◌, List, [], ◌∷◌, ◌++◌, length, take, replicate, codes, sym, refl, ap, ◌∙◌, subst, arith, length-take}
use mathlib.Core.List.{append_cancel_left}
use native.Mathlib.Nat.{sub-zero}
use Rattle.checker.specs.Verdicts.{Checked}
use Rattle.machine.specs.Machine.{NeverStuck}
use Rattle.machine.specs.Tables.{code_length}
use Rattle.report.specs.Lines.{rows_text}
use Rattle.report.specs.Printing.{output_after, printed}
use Rattle.report.specs.Texts.{report_fields, reports_text}
use Rattle.rule.specs.declared.record.Record.{Record}
use Rattle.step.specs.declared.report.Report.{Report}
use Rattle.walk.specs.Exact.{reports_of}
use Rattle.walk.specs.Walk.{Sheet, sheet, checked, unreached}
use Rattle.answer.specs.Answers.{SafeRule, check_text, no_report, reports_in, sheet_of}
use Rattle.answer.specs.Standard.{Standard, standard}
use Rattle.answer.proofs.print_check.Goals as goal

-- as many as are taken from the front are there
taken : {X : Type 0} (n : ℕ) (xs ys : List X) → take n xs ≡ ys → n ≡ length ys → n ≤ length xs
taken n xs ys front count = omega (arith, sym (length-take n xs) ∙ ap length front)

-- a line of fields is not empty
filled : (a b c : List ℕ) (x : ℕ) → (a ++ (x ∷ b)) ++ c ≡ [] → ⊥
filled [] b c x e = omega (arith, ap length e)
filled (y ∷ a) b c x e = omega (arith, ap length e)

-- so the heading alone tells no report
none_told : (rs : List Report) → reports_text rs ≡ reports_text [] → length rs ≡ 0
none_told [] e = refl
none_told (r ∷ rs) e = absurd (filled _ _ _ 32 (append_cancel_left (codes "line cause register least most\n") (rows_text report_fields (r ∷ rs)) [] e))

-- a check of q, with all values v before, that leaves the sheet s
module _ (v : Standard) (q : List Record) (s : Sheet Standard) (k : Checked standard q (replicate 768 v) (replicate 96 unreached) (replicate 96 no_report) s) where
  counted : s.count ≤ length s.reports
  counted = taken s.count s.reports (reports_of standard q s.rows s.marks (code_length q)) k.exact.reported k.exact.counted

  -- the reports that it leaves in front are those that are told
  told : (p : List Record) → q ≡ p → v ≡ standard.every → reports_text (take (s.count - 0) s.reports) ≡ check_text p
  unfolding check_text
  told p same any =
      ap (λ n. reports_text (take n s.reports)) (sub-zero s.count)
      ∙ ap (λ s. reports_text (reports_in s)) (k.value ∙ (ap (λ v. checked standard q (replicate 768 v) (replicate 96 unreached) (replicate 96 no_report)) any ∙ ap sheet_of same))

  safe : (p : List Record) → q ≡ p → v ≡ standard.every → SafeRule p
  unfolding SafeRule
  safe p same any =
      λ accepted.
      let none = none_told (take (s.count - 0) s.reports) (told p same any ∙ accepted) in
      let zero : s.count ≡ 0 = omega (arith, length-take (s.count - 0) s.reports, counted) in
      subst NeverStuck same (k.sound zero).never_stuck

pub slice_bounds-print_reports-end : goal.slice_bounds-print_reports-end
slice_bounds-print_reports-end c =
    let left = sheet c.check.new.rows c.check.new.marks c.check.new.reports c.in-Ok.field-0.count c.in-Ok.field-0.answer in
    omega (arith, counted c.any-rows.result c.of.result.table.now left c.in-Ok.ensures.found)

pub returns : goal.returns
returns c =
    let p = c.args.table.now in
    let q = c.of.result.table.now in
    let v = c.any-rows.result in
    let left = sheet c.check.new.rows c.check.new.marks c.check.new.reports c.in-Ok.field-0.count c.in-Ok.field-0.answer in
    let text = told v q left c.in-Ok.ensures.found p c.of.ensures.0 c.any-rows.ensures in
    record {
      count = c.print_reports.ensures.count ∙ ap (λ t. printed t c.args.output.now) text;
      after = c.print_reports.ensures.after ∙ ap (λ t. output_after t c.args.output.now) text;
      safe = safe v q left c.in-Ok.ensures.found p c.of.ensures.0 c.any-rows.ensures;
    }
