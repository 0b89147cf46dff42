-- From the laws of whichever domain it is.
use Rattle.std.proofs.Common.{◌≡◌, ℕ, arith, rules, sym, subst}
use Rattle.words.specs.declared.operation.Operation.TheVariants.{Add, And}
use Rattle.words.specs.Words.{Word, plus}
use Rattle.piles.specs.Piles.{HoldsMaskedSums, masked_sum}
use Rattle.piles.proofs.masked_sum.Given as given
use Rattle.piles.proofs.masked_sum.Goals as goal

holds-sums : (g : given.Over) (a b : g.row.D.Denot) (m : ℕ) → Word m → HoldsMaskedSums g.D.Domain a b m (masked_sum g.D.Domain a b m)
holds-sums g a b m hm x y hx hy ha hb =
    g.met.D.Domain.of_holds And (g.D.Domain.applied Add a b) (g.D.Domain.single m) (plus x y) m (omega arith) hm
    (g.met.D.Domain.of_holds Add a b x y hx hy ha hb (λ h. h)) (g.met.D.Domain.only_holds m hm) (λ h. h)

pub returns-clause-sound : goal.returns-clause-sound
returns-clause-sound g c =
    let named : c.of.result ≡ masked_sum g.D.Domain c.args.a c.args.b c.args.mask = search rules in
    subst (λ (r : g.row.D.Denot). HoldsMaskedSums g.D.Domain c.args.a c.args.b c.args.mask r) (sym named)
    (holds-sums g c.args.a c.args.b c.args.mask (omega arith))
