use Rattle.std.proofs.Common.{sym, ap, subst}
use Rattle.machine.specs.Machine.{NeverStuck}
use Rattle.machine.specs.Valid.{code_ok, table_ok}
use Rattle.checker.proofs.Returning.{constant_safe}
use Rattle.checker.proofs.passed.Passed.built_in.Goals as goal

pub invariant_of-result : goal.invariant_of-result
unfolding code_ok
invariant_of-result c = record {
  valid = ap table_ok c.new-rule.ensures.table;
  safe = subst NeverStuck (sym c.new-rule.ensures.table) (constant_safe _);
}
