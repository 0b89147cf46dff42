use Rattle.std.proofs.Common.{◌<◌, refl, arith}
use Rattle.std.proofs.lemmas.List.{length-take-le}
use Rattle.machine.specs.Tables.{code_length}
use Rattle.machine.specs.Valid.{code_ok}
use Rattle.machine.proofs.Counts.{code_tested}
use Rattle.machine.proofs.valid.Measured.fits_code.Goals as goal

pub loop-k-init : goal.loop-k-init
unfolding code_ok
loop-k-init c = refl

pub loop-k-preserved : goal.loop-k-preserved
loop-k-preserved c =
    let p = c.args.self.table.now in
    let m = c.args.self.shape.instructions in
    let long = length-take-le m c.behind.result.now (omega (arith, c.behind.ensures.long, c.args.self.instructions)) in
    let inside : c.loop-k.k < m = omega (arith, c.loop-k-test.true) in
    code_tested p c.behind.result.now (code_length p) m c.loop-k.k c.fits_item-fine.result c.loop-k.fine c.behind.ensures.value inside c.fits_item-fine.ensures c.loop-k.invariant
