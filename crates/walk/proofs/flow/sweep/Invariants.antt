use Rattle.std.proofs.Common.{◌≡◌, ◌≤◌, None}
use Rattle.walk.specs.Walk.{sheet, walked}
use Rattle.walk.proofs.flow.sweep.Given as goal

abbrev pub invariant-loop-at : goal.invariant-loop-at
invariant-loop-at g l =
    (sheet l.rows l.marks l.reports l.tally.count l.tally.answer ≡ walked g.D.Domain l.fn.rule.table.now l.at (sheet l.initial.rows l.initial.marks l.initial.reports 0 None))
    × (l.tally.count ≤ l.at)
