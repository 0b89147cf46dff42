use Rattle.std.proofs.Common.{arith}
use Rattle.arrayvec.specs.ArrayVec.{array_vec_len}
use Rattle.reader.proofs.Tails.{beyond}
use Rattle.reader.proofs.table.fill_table.Goals as goal

pub returns-clause-rest : goal.returns-clause-rest
returns-clause-rest c =
    let n = array_vec_len c.in_ok-names.names.marks in
    let m = c.in_ok-instructions.instructions in
    rw c.len-buffers.ensures.value (omega (arith, c.in_ok-instructions.ensures.rest.0, c.read_buffers.auto.table), beyond c.args.table.now c.read_buffers.new.table c.read_rest.new.table n m c.in_ok-names.ensures.rest c.in_ok-instructions.ensures.rest.1)
