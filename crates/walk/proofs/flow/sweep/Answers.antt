use Rattle.std.proofs.Common.{◌≡◌, ℕ, ◌+◌, ◌*◌, ◌/◌, ◌<◌, ◌≤◌, List, length, get_or, take, sym, refl, ap, ◌∙◌, subst, add-one, arith}
use Rattle.rule.specs.declared.record.Record.{Record}
use Rattle.rule.specs.Records.{blank}
use Rattle.machine.specs.Tables.{behind, code_length, code_at}
use Rattle.machine.specs.Valid.{Valid}
use Rattle.machine.proofs.Places.{code_long, code_line}
use Rattle.domain.specs.declared.domain.Domain.{Ghosts}
use Rattle.step.specs.declared.mark.Mark.{Mark}
use Rattle.walk.specs.Walk.{Ways, Sheet, mark_at, row_at, outcome_at, visited, walked}
use Rattle.walk.proofs.Ways.{ways_of}
use Rattle.walk.proofs.flow.sweep.Goals as goal

module _ (p q code : List Record) (table : q ≡ p) (same : code ≡ take (code_length p) (behind p)) where
  long : length code ≡ code_length p
  long = ap length same ∙ code_long p

  read : (k : ℕ) → k < length code → get_or code k blank ≡ code_at p k
  read k h = ap (λ cs. get_or cs k blank) same ∙ let e = long in code_line p k (omega arith)

  module _ {D : Type 0} (d : Ghosts D) (k : ℕ) (inside : k < length code) where
    leads : Valid p → (rows : List D) (marks : List Mark) (a : ℕ) → code_length p ≤ a → Ways a k (outcome_at d q (get_or code k blank) k rows marks)
    leads valid rows marks a le =
        subst (λ t. Ways a k (outcome_at d t (get_or code k blank) k rows marks)) (sym table)
        (subst (λ r. Ways a k (outcome_at d p r k rows marks)) (sym (read k inside))
        (ways_of d p (code_at p k).line (row_at rows k) (mark_at marks k) a k le valid (let e = long in omega arith)))

    more : (s t : Sheet D) → s ≡ walked d p k t → visited d q (get_or code k blank) k s ≡ walked d p (k + 1) t
    unfolding walked
    more s t e =
        let next : visited d p (code_at p k) k (walked d p k t) ≡ walked d p (k + 1) t = rw add-one in
        (λ i. visited d (table i) (read k inside i) k (e i)) ∙ next

pub loop-at-init : goal.loop-at-init
unfolding walked
loop-at-init g c = (refl, omega arith)

pub visit-tally-requires : goal.visit-tally-requires
visit-tally-requires g c =
    let p = c.args.rule.table.now in
    let k = c.loop-at.at in
    let rows = c.loop-at.rows in
    let marks = c.loop-at.marks in
    let same = long p c.table-table.result.now c.code-code.result.now c.table-table.ensures c.code-code.ensures in
    let ways = leads p c.table-table.result.now c.code-code.result.now c.table-table.ensures c.code-code.ensures g.D.Domain k c.loop-at-test.true c.args.rule.valid rows marks in
    let long_rows : 8 * code_length p ≤ length rows = omega (arith, c.loop-at.auto.rows, c.open.auto.rows, c.requires.rows) in
    let long_marks : code_length p ≤ length marks = omega (arith, c.loop-at.auto.marks, c.open.auto.marks, c.requires.marks) in
    let long_reports : code_length p ≤ length c.loop-at.reports = omega (arith, c.loop-at.auto.reports, c.requires.reports) in
    let few = c.loop-at-test.true in
    record {
      ways = ways (length marks) long_marks;
      rows = ways (length rows / 8) (omega arith);
      few = (omega arith, omega arith);
      room = let h = c.loop-at.invariant.1 in omega arith;
    }

pub loop-at-preserved : goal.loop-at-preserved
loop-at-preserved g c =
    let p = c.args.rule.table.now in (
      c.visit-tally.ensures.sheet ∙ more p c.table-table.result.now c.code-code.result.now c.table-table.ensures c.code-code.ensures g.D.Domain c.loop-at.at c.loop-at-test.true _ _ c.loop-at.invariant.0,
      let h = c.loop-at.invariant.1 in omega (arith, c.visit-tally.ensures.count),
    )
