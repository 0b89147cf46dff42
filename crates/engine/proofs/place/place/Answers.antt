use Rattle.std.proofs.Common.{◌+◌, ◌<◌, ◌≤◌, sym, ap, ◌∙◌, arith}
use Rattle.std.proofs.lemmas.Bool.{cond-false}
use Rattle.rule.specs.declared.shape.Shape.{Shape}
use Rattle.machine.specs.Tables.{buffer_count, size_at}
use Rattle.machine.proofs.Sizes.{inside-memory, small-buffer}
use Rattle.engine.proofs.Within.{far_beyond}
use Rattle.engine.proofs.place.place.Goals as goal

pub returns-in_err-end-clause-value : goal.returns-in_err-end-clause-value
returns-in_err-end-clause-value c =
    let p = c.args.rule.table.now in
    c.from_residual.ensures ∙ sym (cond-false _ _ _ (sym (far_beyond p c.args.buffer c.args.offset c.args.count c.args.rule.valid (omega arith))))

-- there is such a buffer
there : (c : goal.After-start_of) → c.args.buffer < buffer_count c.args.rule.table.now
there c = omega (arith, c.if-buffer-shape.true, ap (λ (s : Shape). s.buffers) c.shape.ensures, c.args.rule.buffers)

-- and the bytes lie in it
fits : (c : goal.After-start_of) → c.args.offset + c.args.count ≤ size_at c.args.rule.table.now c.args.buffer
fits c = let sum = c.in_ok-end.ensures in omega (arith, sum.1, c.if-end-size_of.true, c.size_of.ensures, ap (λ t. size_at t c.args.buffer) c.table.ensures)

pub overflow_add-result : goal.overflow_add-result
overflow_add-result c =
    let p = c.args.rule.table.now in
    let small = small-buffer p c.args.buffer c.args.rule.valid (there c) in
    let few = c.args.rule.valid.few_buffers in
    omega (arith, there c, fits c, c.start_of.ensures.bound)

pub returns-then-end-size_of-clause-inside : goal.returns-then-end-size_of-clause-inside
returns-then-end-size_of-clause-inside c =
    let p = c.args.rule.table.now in
    let whole = inside-memory p c.args.buffer (there c) in
    omega (arith, fits c, c.start_of.ensures.value)
