use Rattle.std.proofs.Common.{◌≡◌, ◌+◌, ◌*◌, ◌<◌, length, get_or, set, sym, ap, ◌∙◌, inl, inr, arith}
use Rattle.std.proofs.lemmas.List.{get_or_read}
use Rattle.step.specs.Changes.{changed_value}
use Rattle.walk.specs.Walk.{arrived_value}
use Rattle.walk.proofs.Sending.{sent-start, sent-more, sent-long, sent_other, coming}
use Rattle.walk.proofs.send.send_row.Goals as goal

pub loop-k-init : goal.loop-k-init
loop-k-init g c = sym (sent-start g.D.Domain c.args.from c.args.to c.args.old c.args.new c.args.change c.args.rows.now)

pub loop-k-preserved : goal.loop-k-preserved
loop-k-preserved g c =
    let d = g.D.Domain in
    let a = c.args in
    let k = c.loop-k.k in
    let rows = a.rows.now in
    let sofar = c.loop-k.rows in
    let full : length sofar ≡ length rows = ap length c.loop-k.invariant ∙ sent-long d a.from a.to a.old a.new a.change rows k in
    let later = c.requires.later in
    let within = c.requires.within in
    let from_in : 8 * a.from + k < length sofar = omega arith in
    let to_in : 8 * a.to + k < length sofar = omega arith in
    let source : c.index-rows-from.result ≡ get_or rows (8 * a.from + k) d.every =
    get_or_read sofar (8 * a.from + k) c.index-rows-from.result from_in c.index-rows-from.is d.every
    ∙ ap (λ l. get_or l (8 * a.from + k) d.every) c.loop-k.invariant
    ∙ sent_other d a.from a.to a.old a.new a.change rows k (8 * a.from + k) (inl (omega arith)) in
    let target : c.index-rows-to.result ≡ get_or rows (8 * a.to + k) d.every =
    get_or_read sofar (8 * a.to + k) c.index-rows-to.result to_in c.index-rows-to.is d.every
    ∙ ap (λ l. get_or l (8 * a.to + k) d.every) c.loop-k.invariant
    ∙ sent_other d a.from a.to a.old a.new a.change rows k (8 * a.to + k) (inr (omega arith)) in
    let comes = c.changed_value-comes.ensures ∙ ap (changed_value a.change k) source in
    let brought : c.arrive.result ≡ coming d a.from a.to a.old a.new a.change rows k =
    c.arrive.ensures ∙ (λ i. arrived_value d a.old a.new (target i) (comes i) k) in
    (λ i. set (c.loop-k.invariant i) (8 * a.to + k) (brought i)) ∙ sent-more d a.from a.to a.old a.new a.change rows k
