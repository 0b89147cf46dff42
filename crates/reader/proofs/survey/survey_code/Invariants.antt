use Rattle.std.proofs.Common.{◌≡◌, ◌*◌, ◌≤◌, false, [], length}
use Rattle.lexer.specs.Lines.{lines_of}
use Rattle.arrayvec.specs.ArrayVec.{array_vec_len}
use Rattle.reader.specs.Entries.{entries_in}
use Rattle.grammar.specs.Reading.{survey_from}
use Rattle.reader.proofs.survey.survey_code.Given as goal

abbrev pub invariant-loop-line : goal.invariant-loop-line
invariant-loop-line l = record {
  fits : 2 * array_vec_len l.labels.marks ≤ l.lexer.at;
  few : l.instructions ≤ l.most;
  same : l.lexer.text.now ≡ l.labels.text.now;
  read : survey_from l.most (entries_in l.labels) l.instructions l.closed (lines_of l.lexer) ≡ survey_from l.most [] 0 false (lines_of l.initial.lexer);
}

abbrev pub decreases-loop-line : goal.decreases-loop-line
decreases-loop-line l = length (lines_of l.lexer)
