-- The answer is the formula's, which is the smallest.
use Rattle.std.proofs.Common.{sym, subst}
use Rattle.tristate.specs.declared.Tristate.{Tristate}
use Rattle.tristate.specs.Answers.{Smallest}
use Rattle.tristate.proofs.Laws.{smallest}
use Rattle.domain.proofs.tristates.TristateDomain.of.Goals as goal

pub returns : goal.returns
returns c =
    record {
      named = c.computed.ensures;
      smallest =
          subst (λ (r : Tristate). Smallest c.args.operation c.args.a c.args.b r) (sym c.computed.ensures)
          (smallest c.args.operation c.args.a c.args.b);
    }
