use Rattle.std.proofs.Common.{◌≡◌, ◌+◌, ◌≤◌, [], length, take, drop}
use Rattle.lexer.specs.Lines.{lines_of}
use Rattle.reader.specs.Passes.{instructions_in}
use Rattle.grammar.specs.Reading.{link_from}
use Rattle.reader.specs.Scopes.{scope_in}
use Rattle.reader.proofs.link.link_code.Given as goal

abbrev pub invariant-loop-line : goal.invariant-loop-line
invariant-loop-line l =
    (l.count + instructions_in (lines_of l.lexer) ≤ length l.slots)
    × (link_from (scope_in l.scope) (take l.count l.slots) (lines_of l.lexer) ≡ link_from (scope_in l.scope) [] (lines_of l.initial.lexer))
    × (drop l.count l.slots ≡ drop l.count l.initial.slots)

abbrev pub decreases-loop-line : goal.decreases-loop-line
decreases-loop-line l = length (lines_of l.lexer)
