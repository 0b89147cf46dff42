use Rattle.reader.proofs.Tails.{part-rest}
use Rattle.reader.proofs.code.read_rest.Goals as goal

pub returns-clause-rest : goal.returns-clause-rest
returns-clause-rest c =
    let front = c.split_at_mut-front.result.0.now in
    let back = c.split_at_mut-front.result.1.now in
    let split = c.split_at_mut-front.ensures in
    part-rest front back c.read_code.new.slots c.args.table.now c.len.result _ c.read_code.result split.value split.front_len split.back_len c.len.ensures.value c.read_code.ensures.rest
