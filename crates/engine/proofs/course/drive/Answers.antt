use Rattle.std.proofs.Common.{◌≡◌, ◌-◌, length, Some, sym, ap, ◌∙◌, arith}
use Rattle.machine.specs.Tables.{code_length}
use Rattle.engine.specs.Steps.{led, ended, run_from}
use Rattle.engine.specs.Steps.Leads.{Go}
use Rattle.engine.proofs.Driving.{code-long, has_buffer_here, stops, sticks, goes-out, goes_on}
use Rattle.engine.proofs.course.drive.Goals as goal
use Rattle.engine.proofs.course.drive.Goals.{in-Onward, in-Jump}

pub returns-in_default : goal.returns-in_default
returns-in_default c =
    let s = c.loop-steps in
    sym (stops c.args.rule.table.now _ c.code-code.ensures _ s.at s.registers.words s.memory c.loop-steps-test.true s.invariant.inside c.in_default.not-Instruction)
    ∙ s.invariant.whole

pub carry_out-requires-clause-there : goal.carry_out-requires-clause-there
carry_out-requires-clause-there c =
    let s = c.loop-steps in
    has_buffer_here c.args.rule.table.now _ c.code-code.ensures _ s.at s.registers.words s.memory c.loop-steps-test.true s.invariant.inside c.args.rule.valid _ c.in-Instruction.is

pub returns-in_err-carry_out : goal.returns-in_err-carry_out
returns-in_err-carry_out c =
    let s = c.loop-steps in
    ap (λ o. ended o c.carry_out.new.memory) c.from_residual.ensures
    ∙ sym (sticks c.args.rule.table.now _ c.code-code.ensures _ s.at s.registers.words s.memory c.loop-steps-test.true s.invariant.inside _ c.in-Instruction.is _ c.carry_out.new.registers.words c.carry_out.new.memory (c.carry_out.ensures s.at) c.in_err-carry_out.was)
    ∙ s.invariant.whole

pub returns-in-Return : goal.returns-in-Return
returns-in-Return c =
    let s = c.loop-steps in
    sym (goes-out c.args.rule.table.now _ c.code-code.ensures _ s.at s.registers.words s.memory c.loop-steps-test.true s.invariant.inside _ c.in-Instruction.is _ c.carry_out.new.registers.words c.carry_out.new.memory (c.carry_out.ensures s.at) c.in-Return.answer (c.in_ok-carry_out.was ∙ ap Some c.in-Return.is))
    ∙ s.invariant.whole

pub loop-steps-preserved : goal.loop-steps-preserved
loop-steps-preserved c =
    let s = c.loop-steps in
    let p = c.args.rule.table.now in
    let j = c.match-branch-2.at in
    let to : led s.at c.in_ok-carry_out.field-0 ≡ Go j = elim c.match-branch-2.branch [
      | in-Onward w ↦ ap (led s.at) w.in-Onward.is ∙ ap Go (sym w.at-is)
      | in-Jump w ↦ ap (led s.at) w.in-Jump.is ∙ ap Go (sym w.at-is)
    ] in
    let on = goes_on p _ c.code-code.ensures _ s.at s.registers.words s.memory c.loop-steps-test.true s.invariant.inside _ c.in-Instruction.is _ c.carry_out.new.registers.words c.carry_out.new.memory (c.carry_out.ensures s.at) c.in_ok-carry_out.field-0 j c.args.rule.valid s.registers.eight c.in_ok-carry_out.was to in
    record { whole = sym on.rest ∙ s.invariant.whole; inside = on.within }

pub returns : goal.returns
unfolding run_from
returns c =
    let p = c.args.rule.table.now in
    let s = c.loop-steps in
    let none : code_length p - s.steps ≡ 0 = omega (arith, c.loop-steps-test.false, ap length c.code-code.ensures, code-long p) in
    ap (λ f. run_from p f s.steps s.at s.registers.words s.memory) (sym none) ∙ s.invariant.whole
