use Rattle.std.proofs.Common.{◌≡◌, ◌≤◌, min, [], length, take, drop}
use Rattle.lexer.specs.Lines.{lines_of}
use Rattle.arrayvec.specs.ArrayVec.{array_vec_len}
use Rattle.reader.specs.Entries.{entries_in}
use Rattle.grammar.specs.Reading.{buffers_from}
use Rattle.reader.proofs.buffers.read_buffers.Given as goal

abbrev pub invariant-loop-line : goal.invariant-loop-line
invariant-loop-line l = record {
  same : l.names.text.now ≡ l.source.lexer.text.now;
  fits : array_vec_len l.names.marks ≤ length l.table;
  text : l.source.lexer.text.now ≡ l.initial.source.lexer.text.now;
  read : buffers_from (min 8 (length l.table)) (entries_in l.names) (take (array_vec_len l.names.marks) l.table) (lines_of l.source.lexer) ≡ buffers_from (min 8 (length l.initial.table)) [] [] (lines_of l.initial.source.lexer);
  rest : drop (array_vec_len l.names.marks) l.table ≡ drop (array_vec_len l.names.marks) l.initial.table;
}

abbrev pub decreases-loop-line : goal.decreases-loop-line
decreases-loop-line l = length (lines_of l.source.lexer)
