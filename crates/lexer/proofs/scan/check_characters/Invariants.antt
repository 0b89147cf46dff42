use Rattle.std.proofs.Common.{◌≡◌, ◌+◌, ◌≤◌, drop}
use Rattle.lexer.specs.Foreign.{foreign_from}
use Rattle.lexer.proofs.scan.check_characters.Given as goal

abbrev pub invariant-loop-at : goal.invariant-loop-at
invariant-loop-at l = (l.line ≤ l.at + 1) × (foreign_from l.line l.at (drop l.at l.text) ≡ foreign_from 1 0 l.text)
