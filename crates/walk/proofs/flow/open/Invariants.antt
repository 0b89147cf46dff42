use Rattle.std.proofs.Common.{◌≡◌, ◌++◌, drop, replicate}
use Rattle.walk.proofs.flow.open.Given as goal

abbrev pub invariant-loop-value : goal.invariant-loop-value
invariant-loop-value g l = l.value-items ≡ replicate l.value-index g.D.Domain.every ++ drop l.value-index l.initial.value-items
