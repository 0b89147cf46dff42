use Rattle.std.proofs.Common.{set, sym, ap, ◌∙◌}
use Rattle.walk.specs.Walk.{sent_all, sent_marks, sent_rows, mark_at}
use Rattle.walk.proofs.send.send.Goals as goal

pub returns-in-Some : goal.returns-in-Some
returns-in-Some g c =
    let d = g.D.Domain in
    let a = c.args in
    let x = c.in-Some.change in
    let here = c.in-Some.is in
    let marks = a.marks.now in
    let new = c.arrive_mark-new.ensures in
    record {
      rows = c.send_row.ensures ∙ ap (λ m. sent_rows d a.from a.to (mark_at marks a.to) m x a.rows.now 8) new ∙ ap (λ o. sent_all d a.from a.to o a.rows.now marks) (sym here);
      marks = ap (set marks a.to) new ∙ ap (λ o. sent_marks a.from a.to o marks) (sym here);
    }
