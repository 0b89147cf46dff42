use Rattle.std.proofs.Common.{sym, ap, ◌∙◌}
use Rattle.machine.specs.Valid.{table_ok}
use Rattle.machine.proofs.Validity.{valid-from}
use Rattle.machine.proofs.table.Rule.of.Goals as goal

pub invariant_of-result-clause-valid : goal.invariant_of-result-clause-valid
invariant_of-result-clause-valid c = valid-from c.args.table.now (ap table_ok (sym c.of-measured.ensures) ∙ sym c.if-is_rule.ensures)
