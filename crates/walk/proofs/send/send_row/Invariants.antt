use Rattle.std.proofs.Common.{◌≡◌}
use Rattle.walk.specs.Walk.{sent_rows}
use Rattle.walk.proofs.send.send_row.Given as goal

abbrev pub invariant-loop-k : goal.invariant-loop-k
invariant-loop-k g l = l.rows ≡ sent_rows g.D.Domain l.from l.to l.old l.fn.new l.change l.initial.rows l.k
