-- Each exit answers what the definition names, and that holds just the words that both parts held.
use Rattle.std.proofs.Common.{rules, ◌≡◌, Option, Some, sym, subst}
use Rattle.product.specs.declared.Product.{Product}
use Rattle.product.specs.Products.{Exactly, pair, reduced}
use Rattle.product.specs.Laws.{exactly}
use Rattle.product.proofs.Product.reduce.Given as given
use Rattle.product.proofs.Product.reduce.Goals as goal

named : (g : given.Over) (p : Product g.row.A.Denot g.row.B.Denot) (r : Option (Product g.row.A.Denot g.row.B.Denot))
    → r ≡ reduced g.A.Domain g.B.Domain p → Exactly g.A.Domain g.B.Domain p r
named g p r e =
    let a = g.met.A.Domain in
    let b = g.met.B.Domain in
    subst (λ (q : Option (Product g.row.A.Denot g.row.B.Denot)). Exactly g.A.Domain g.B.Domain p q) (sym e)
    (exactly g.A.Domain g.B.Domain a.facts_met a.absorb_holds b.facts_met b.absorb_holds a.absorb_within b.absorb_within p)

pub returns-in_err-second-clause-exact : goal.returns-in_err-second-clause-exact
returns-in_err-second-clause-exact g c = named g c.args.self c.from_residual.result (search rules)

pub returns-in_err-first-clause-exact : goal.returns-in_err-first-clause-exact
returns-in_err-first-clause-exact g c = named g c.args.self c.from_residual-in_err-first.result (search rules)

pub returns-clause-exact : goal.returns-clause-exact
returns-clause-exact g c = named g c.args.self (Some (pair c.in_ok-first.first c.in_ok-second.second)) (search rules)
