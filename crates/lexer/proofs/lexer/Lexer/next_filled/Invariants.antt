use Rattle.std.proofs.Common.{◌≡◌, ◌≤◌, length}
use Rattle.lexer.specs.Lines.{rows_of, lines_of}
use Rattle.lexer.proofs.lexer.Lexer.next_filled.Given as goal

abbrev pub invariant-loop-rest : goal.invariant-loop-rest
invariant-loop-rest l = (lines_of l.self ≡ lines_of l.initial.self) × (l.self.text.now ≡ l.initial.self.text.now) × (l.initial.self.at ≤ l.self.at)

abbrev pub decreases-loop-rest : goal.decreases-loop-rest
decreases-loop-rest l = length (rows_of l.self)
