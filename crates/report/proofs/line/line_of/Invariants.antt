use Rattle.std.proofs.Common.{drop}
use Rattle.report.specs.Lines.{line_text}
use Rattle.report.proofs.Fields.{LineSoFar}
use Rattle.report.proofs.line.line_of.Given as goal

abbrev pub invariant-loop-field : goal.invariant-loop-field
invariant-loop-field l = LineSoFar l.line.bytes (drop l.field-index l.others) (line_text l.fields)
