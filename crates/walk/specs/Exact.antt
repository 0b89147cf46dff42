-- What a check reports and answers, read off the rows and marks that it leaves, and what it keeps of the lists.
use Rattle.std.specs.Prelude.{◌≡◌, ℕ, zero, suc, ◌*◌, true, cond, ◌&&◌, List, [], ◌∷◌, ◌++◌, length, take, drop, Some, None, Option}
use Rattle.domain.specs.declared.domain.Domain.{Ghosts}
use Rattle.rule.specs.declared.record.Record.{Record}
use Rattle.machine.specs.Tables.{code_length, code_at, item_at}
use Rattle.machine.specs.Valid.{is_ret}
use Rattle.step.specs.declared.mark.Mark.{Mark}
use Rattle.step.specs.declared.report.Report.{Report}
use Rattle.step.specs.Lacks.{Lacks, First}
use Rattle.step.specs.Rows.{cell, shown}
use Rattle.step.specs.Transfer.{judged}
use Rattle.walk.specs.Walk.{Sheet, row_at, mark_at, joined_in}

-- one or none
abbrev pub listed : {X : Type 0} → Option X → List X
listed None = []
listed (Some x) = x ∷ []

module _ {D : Type 0} (d : Ghosts D) (p : List Record) (rows : List D) (marks : List Mark) where
  -- the report of instruction k, if control can come there
  abbrev pub report_at : ℕ → Option Report
  report_at k = cond (mark_at marks k).reached (judged d p (code_at p k).line (item_at p k) (row_at rows k) (mark_at marks k)) None

  -- what instruction k returns: `r0` of a `ret` that is reached and not reported
  abbrev pub answer_at : ℕ → Option D
  answer_at k = cond ((mark_at marks k).reached && is_ret (item_at p k)) (shown (report_at k) (Some (cell d (row_at rows k) 0)) None) None

  -- the reports of the first n instructions, in their order
  unfoldable pub reports_of : ℕ → List Report
  reports_of zero = []
  reports_of (suc n) = reports_of n ++ listed (report_at n)

  -- the join of what they return
  unfoldable pub answers_of : ℕ → Option D
  answers_of zero = None
  answers_of (suc n) = joined_in d (answers_of n) (answer_at n)

-- A check that finds the lists as `rows`, `marks` and `reports` and leaves the sheet s.
pub record Exact {D : Type 0} (d : Ghosts D) (p : List Record) (rows : List D) (marks : List Mark) (reports : List Report) (s : Sheet D) : Type 0 where
  -- the reports stand in front, one for each instruction that is reached and lacks something: its first cause
  pub reported : take s.count s.reports ≡ reports_of d p s.rows s.marks (code_length p)
  pub counted : s.count ≡ length (reports_of d p s.rows s.marks (code_length p))
  pub first : (k : ℕ) → (mark_at s.marks k).reached ≡ true → First (Lacks d p (row_at s.rows k) (mark_at s.marks k) (item_at p k)) (report_at d p s.rows s.marks k)
  -- the answer is the join over every `ret` that is reached and not reported
  pub answered : s.answer ≡ answers_of d p s.rows s.marks (code_length p)
  -- the rest of each list is as it was
  pub rows_kept : drop (8 * code_length p) s.rows ≡ drop (8 * code_length p) rows
  pub marks_kept : drop (code_length p) s.marks ≡ drop (code_length p) marks
  pub reports_kept : drop s.count s.reports ≡ drop s.count reports
