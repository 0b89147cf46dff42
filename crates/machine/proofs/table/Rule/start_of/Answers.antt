use Rattle.std.proofs.Common.{arith}
use Rattle.machine.proofs.Sizes.{start-small}
use Rattle.machine.proofs.table.Rule.start_of.Goals as goal

pub sizes_of-requires : goal.sizes_of-requires
sizes_of-requires c =
    let small = start-small c.args.self.table.now c.args.buffer c.args.self.valid c.requires in
    let few = c.args.self.valid.few_buffers in
    omega (arith, c.requires)

pub returns-clause-bound : goal.returns-clause-bound
returns-clause-bound c =
    let small = start-small c.args.self.table.now c.args.buffer c.args.self.valid c.requires in
    omega (arith, c.sizes_of.ensures)
