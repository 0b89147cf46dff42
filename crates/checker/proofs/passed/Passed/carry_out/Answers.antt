use Rattle.std.proofs.Common.{◌≡◌, sym, ◌∙◌, subst}
use Rattle.std.proofs.lemmas.List.{at_drop_all}
use Rattle.checker.specs.Calls.{after_calls, AsBooked}
use Rattle.checker.proofs.Booking.{as_booked}
use Rattle.checker.proofs.passed.Passed.carry_out.Goals as goal

pub returns-clause-booked : goal.returns-clause-booked
returns-clause-booked c =
    let p = c.args.self.now.rule.table.now in
    let cs = c.args.calls.now in
    let m = c.args.memory.now in
    let left : c.loop-call.memory ≡ after_calls p cs m = sym (at_drop_all (λ xs. after_calls p xs c.loop-call.memory) cs c.loop-call.call-index c.loop-call-test.false) ∙ c.loop-call.invariant.0 in
    subst (AsBooked p cs m) (sym left) (as_booked p c.args.self.now.rule.valid cs m)
