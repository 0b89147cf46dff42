use Rattle.std.proofs.Common.{◌≡◌, ◌*◌, true, ◌&&◌, leb, length, sym, ap, ◌∙◌, subst}
use Rattle.std.proofs.lemmas.Bool.{and_parts, leb-true}
use Rattle.domain.specs.Lawful.{Lawful, lawful}
use Rattle.rule.specs.declared.shape.Shape.{Shape}
use Rattle.machine.specs.Tables.{code_length}
use Rattle.walk.specs.Exact.{Exact}
use Rattle.walk.specs.Sound.{Sound}
use Rattle.walk.specs.Walk.{Sheet, sheet, checked}
use Rattle.walk.proofs.Readings.{exact}
use Rattle.walk.proofs.Whole.{sound}
use Rattle.checker.specs.Verdicts.{roomy}
use Rattle.checker.proofs.check.judge.Given as given
use Rattle.checker.proofs.check.judge.Goals as goal

-- the laws that the bound brings, as the one record that the proof over every domain asks for
shown : (g : given.Over) → Lawful g.D.Domain
shown g = let m = g.met.D.Domain in lawful g.D.Domain m.any_holds m.only_holds m.low_holds m.has_decides m.of_holds m.join_holds m.narrow_holds m.facts_met m.absorb_holds m.absorb_within

pub returns : goal.returns
returns g c =
    let d = g.D.Domain in
    let p = c.args.rule.table.now in
    let rows = c.args.rows.now in
    let marks = c.args.marks.now in
    let reports = c.args.reports.now in
    let valid = c.args.rule.valid in
    let count = ap (λ (x : Shape). x.instructions) c.shape.ensures ∙ c.args.rule.instructions in
    let left = sheet c.sweep.new.rows c.sweep.new.marks c.sweep.new.reports c.sweep.result.count c.sweep.result.answer in
    let value : left ≡ checked d p rows marks reports = c.sweep.ensures in
    let room : roomy p rows marks reports ≡ true =
    ap (λ n. leb (8 * n) (length rows) && (leb n (length marks) && leb n (length reports))) (sym count) ∙ sym c.if-not-has_room.ensures in
    let parts = and_parts (leb (8 * code_length p) (length rows)) _ room in
    let rest = and_parts (leb (code_length p) (length marks)) (leb (code_length p) (length reports)) parts.1 in
    record {
      rule = c.requires;
      room = room;
      value = value;
      exact = subst (Exact d p rows marks reports) (sym value) (exact d p valid rows marks reports (leb-true _ _ rest.1));
      sound = λ none. subst (λ (s : Sheet g.row.D.Denot). Sound d p s.answer) (sym value)
          (sound d (shown g) p valid rows marks reports (leb-true _ _ parts.0) (leb-true _ _ rest.0) (sym (ap (λ (s : Sheet g.row.D.Denot). s.count) value) ∙ none));
    }
