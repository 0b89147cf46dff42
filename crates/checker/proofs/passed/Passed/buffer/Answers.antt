use Rattle.std.proofs.Common.{◌<◌, length, sym, ap, ◌∙◌, arith}
use Rattle.std.proofs.lemmas.Bool.{eqb-true}
use Rattle.rule.specs.declared.shape.Shape.{Shape}
use Rattle.machine.specs.Memory.{total_size}
use Rattle.machine.specs.Tables.{buffer_count, size_at}
use Rattle.machine.proofs.Sizes.{inside-memory}
use Rattle.checker.proofs.passed.Passed.buffer.Goals as goal

pub slice_bounds-result-end : goal.slice_bounds-result-end
slice_bounds-result-end c =
    let p = c.args.self.now.rule.table.now in
    let count = ap (λ (s : Shape). s.buffers) c.shape.ensures ∙ c.args.self.now.rule.buffers in
    let there : c.args.buffer < buffer_count p = omega (arith, c.if-buffer-shape.false) in
    let sized = eqb-true (length c.args.memory.now) (total_size p) (sym c.if-not-is_sized.ensures) in
    let inside = inside-memory p c.args.buffer there in
    let size = c.size_of.ensures ∙ ap (λ t. size_at t c.args.buffer) c.table.ensures in
    omega (arith, c.start_of-start.ensures.value)
