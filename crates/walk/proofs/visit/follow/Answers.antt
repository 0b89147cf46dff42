use Rattle.std.proofs.Common.{ap, ◌∙◌}
use Rattle.step.specs.Changes.{change_of, place_of}
use Rattle.walk.specs.Walk.{sheet, sent_all, sent_marks, applied}
use Rattle.walk.proofs.visit.follow.Goals as goal

pub returns-clause-sheet : goal.returns-clause-sheet
unfolding applied
returns-clause-sheet g c =
    let d = g.D.Domain in
    let k = c.args.at in
    let o = c.args.out in
    let next = c.send.ensures in
    let jump = c.leap.ensures in
    let noted = c.note-count.ensures in
    let rows = jump.rows ∙ (λ i. sent_all d k (place_of o.jump) (change_of o.jump) (next.rows i) (next.marks i)) in
    let marks = jump.marks ∙ ap (sent_marks k (place_of o.jump) (change_of o.jump)) next.marks in
    λ i. sheet (rows i) (marks i) (noted.reports i) (noted.count i) (c.join_answers-answer.ensures i)
