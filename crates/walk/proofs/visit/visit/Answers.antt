use Rattle.std.proofs.Common.{◌≡◌, ℕ, ◌+◌, ◌-◌, ◌*◌, ◌/◌, length, take, drop, sym, ap, ◌∙◌, subst, arith}
use Rattle.std.proofs.lemmas.Bool.{cond-true, cond-false, not-true, not-false}
use Rattle.step.specs.Transfer.{transfer}
use Rattle.walk.specs.Walk.{Ways, sheet, mark_at, applied, outcome_at, visited}
use Rattle.walk.proofs.visit.visit.Goals as goal

pub returns-then-not-mark-clause-sheet : goal.returns-then-not-mark-clause-sheet
unfolding visited
returns-then-not-mark-clause-sheet g c = sym (cond-false (mark_at c.args.marks.now c.args.at).reached _ _ (not-true _ c.if-not-mark.true))

eight : (n : ℕ) → 8 * n + 8 - 8 * n ≡ 8
eight n = omega arith

pub follow-requires : goal.follow-requires
follow-requires g c =
    let a = c.args in
    let out = c.carry-out.ensures ∙ ap (λ n. transfer g.D.Domain a.table.now a.code.line a.code.item (take n (drop (8 * a.at) a.rows.now)) (mark_at a.marks.now a.at)) (eight a.at) in
    record { ways = subst (Ways (length a.marks.now) a.at) (sym out) c.requires.ways; rows = subst (Ways (length a.rows.now / 8) a.at) (sym out) c.requires.rows; few = c.requires.few.0; room = c.requires.room }

pub returns-clause-sheet : goal.returns-clause-sheet
unfolding visited
returns-clause-sheet g c =
    let d = g.D.Domain in
    let a = c.args in
    let out : c.carry-out.result ≡ outcome_at d a.table.now a.code a.at a.rows.now a.marks.now =
    c.carry-out.ensures ∙ ap (λ n. transfer d a.table.now a.code.line a.code.item (take n (drop (8 * a.at) a.rows.now)) (mark_at a.marks.now a.at)) (eight a.at) in
    let before = sheet a.rows.now a.marks.now a.reports.now a.tally.count a.tally.answer in
    c.follow.ensures.sheet ∙ ap (λ o. applied d a.at o before) out ∙ sym (cond-true (mark_at a.marks.now a.at).reached _ _ (not-false _ c.if-not-mark.false))
