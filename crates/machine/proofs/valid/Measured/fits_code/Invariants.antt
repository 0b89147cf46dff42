use Rattle.std.proofs.Common.{◌≡◌}
use Rattle.machine.specs.Tables.{behind, code_length}
use Rattle.machine.specs.Valid.{code_ok}
use Rattle.machine.proofs.valid.Measured.fits_code.Given as goal

abbrev pub invariant-loop-k : goal.invariant-loop-k
invariant-loop-k l = l.fine ≡ code_ok l.self.table.now (behind l.self.table.now) (code_length l.self.table.now) l.k
