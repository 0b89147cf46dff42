use Rattle.std.proofs.Common.{◌≡◌, ◌%◌, sym, ap, ◌∙◌}
use Rattle.words.specs.Widths.{bytes_of}
use Rattle.engine.specs.Fills.{placed}
use Rattle.engine.proofs.Within.{aligned-place}
use Rattle.engine.proofs.step.aligned.Goals as goal

pub returns-then-index-count-eq0-clause-value : goal.returns-then-index-count-eq0-clause-value
returns-then-index-count-eq0-clause-value c =
    let p = c.args.rule.table.now in
    let b = c.args.buffer in
    let w = c.args.width in
    let i = c.args.index in
    let even : i % bytes_of w ≡ 0 = ap (λ n. i % n) (sym c.bytes-count.ensures) ∙ c.if-index-count-eq0.true in
    c.place.ensures.value ∙ ap (placed p b i) c.bytes-count.ensures ∙ aligned-place p b w i c.requires even
