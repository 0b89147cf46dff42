use Rattle.std.proofs.Common.{◌≡◌, ◌-◌, ◌<◌}
use Rattle.machine.specs.Tables.{code_length}
use Rattle.engine.specs.Steps.{run_from}
use Rattle.engine.proofs.course.drive.Given as goal

-- what is left of the run gives the whole
abbrev pub invariant-loop-steps : goal.invariant-loop-steps
invariant-loop-steps l = record {
  whole : run_from l.rule.table.now (code_length l.rule.table.now - l.steps) l.steps l.at l.registers.words l.memory
      ≡ run_from l.rule.table.now (code_length l.rule.table.now) 0 0 l.fn.registers.words l.initial.memory;
  inside : l.at < code_length l.rule.table.now;
}
