use Rattle.std.proofs.Common.{◌≡◌, ◌+◌, ◌≤◌, drop}
use Rattle.checker.specs.Calls.{after_calls, refused_of}
use Rattle.checker.proofs.passed.Passed.carry_out.Given as goal

-- what is left of the calls gives the whole
abbrev pub invariant-loop-call : goal.invariant-loop-call
invariant-loop-call l =
    (after_calls l.self.rule.table.now (drop l.call-index l.calls) l.memory ≡ after_calls l.self.rule.table.now l.calls l.initial.memory)
    × (l.refused + refused_of l.self.rule.table.now (drop l.call-index l.calls) l.memory ≡ refused_of l.self.rule.table.now l.calls l.initial.memory)
    × (l.refused ≤ l.call-index)
