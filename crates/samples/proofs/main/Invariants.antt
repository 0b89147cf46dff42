-- Each line is counted once, and no text has more lines than bytes.
use Rattle.std.proofs.Common.{◌+◌, ◌^◌, ◌<◌, ◌≤◌}
use Rattle.samples.proofs.main.Given as goal

abbrev pub invariant-loop-name : goal.invariant-loop-name
invariant-loop-name l =
    (goal.iterator-loop-name).can_next l.name-iterator ×
    (goal.iterator-loop-name).is_finite l.name-iterator ×
    (l.count + (goal.iterator-loop-name).remaining l.name-iterator < 2 ^ 64) ×
    (l.differing ≤ l.count)
