use Rattle.std.proofs.Common.{◌++◌, drop}
use Rattle.report.specs.Lines.{rows_text}
use Rattle.report.proofs.Rows.{Printing}
use Rattle.report.proofs.print.print.Given as goal

abbrev pub invariant-loop-row : goal.invariant-loop-row
invariant-loop-row g l = Printing l.at l.output l.initial.output (rows_text g.R.Row.fields (drop l.row-index l.rows)) (l.heading ++ rows_text g.R.Row.fields l.rows)
