-- The whole sweep: what a check that reports nothing promises of every free run.
use Rattle.std.proofs.Common.{◌≡◌, ℕ, zero, suc, ◌+◌, ◌*◌, ◌<◌, ◌≤◌, true, false, List, ◌++◌, length, drop, replicate, Some, None, Option, sym, refl, ap, ◌∙◌, subst, inl, inr, ⊎_elim, arith}
use Rattle.std.proofs.lemmas.List.{get_or-set_same, get_or-replicate, get_or_append_left, length-set, length-append, length-replicate, length-drop}
use Rattle.std.proofs.lemmas.Bool.{cases_eq, cases_Bool, cond-true, cond-false, both_ways}
use Rattle.words.specs.Sets.{HoldsIn}
use Rattle.words.specs.Words.{Word}
use Rattle.domain.specs.declared.domain.Domain.{Ghosts}
use Rattle.domain.specs.Lawful.{Lawful}
use Rattle.rule.specs.declared.record.Item.{Item}
use Rattle.rule.specs.declared.record.Item.TheVariants.{Blank, Buffer, Instruction}
use Rattle.rule.specs.declared.instruction.Instruction.TheVariants.{Mov, Alu, Load, Store, Jump, Branch, Ret}
use Rattle.rule.specs.declared.record.Record.{Record}
use Rattle.machine.specs.Machine.{Regs, Does, Gives, Moves, Run, Inputs, Reached, entry}
use Rattle.machine.specs.Machine.Run.{start, more}
use Rattle.machine.specs.Tables.{code_length, code_at, item_at}
use Rattle.machine.specs.Valid.{Valid}
use Rattle.machine.proofs.Moving.{forward, not_stuck}
use Rattle.step.specs.declared.mark.Mark.{Mark}
use Rattle.step.specs.declared.outcome.Outcome.{Outcome}
use Rattle.step.specs.declared.report.Report.{Report}
use Rattle.step.specs.Changes.{change_of, place_of}
use Rattle.step.specs.Rows.{cell, is_set}
use Rattle.step.specs.Transfer.{judged, transfer}
use Rattle.step.proofs.Fits.{Has, Fits, FitsIn}
use Rattle.step.proofs.Items.{Leads, safe_item}
use Rattle.walk.specs.Sound.{Sound}
use Rattle.walk.specs.Walk as walk
use Rattle.walk.specs.Walk.{Sheet, Present, row_at, mark_at, sent_all, sent_marks, noted_count, outcome_at, applied, visited, walked, opened, checked}
use Rattle.walk.proofs.Arrivals.{At, Onward, cell_row, sent-row, sent-mark, sent-rows-long, sent-marks-long, at_new, at_old, joined-first, joined-second}
use Rattle.walk.proofs.Ways.{ways_of}

-- an instruction all of whose ways are settled in s
pub record Local {D : Type 0} (d : Ghosts D) (p : List Record) (s : Sheet D) (k : ℕ) (r : Regs) : Type 0 where
  pub moves : Moves p k r (item_at p k)
  pub leads : (j : ℕ) (q : Regs) → Does p k r j q (item_at p k) → At d s.rows s.marks j q
  pub gives : (w : ℕ) → Gives r w (item_at p k) → Word w × HoldsIn d.holds s.answer w

-- after the first n instructions
pub record Done {D : Type 0} (d : Ghosts D) (p : List Record) (n : ℕ) (s : Sheet D) : Type 0 where
  pub long : 8 * code_length p ≤ length s.rows
  pub wide : code_length p ≤ length s.marks
  pub begins : (x : Inputs) → At d s.rows s.marks 0 (entry x)
  pub local : s.count ≡ 0 → (k : ℕ) → k < n → (r : Regs) → At d s.rows s.marks k r → Local d p s k r

present-map : {X : Type 0} {P Q : Type 0} (o : Option X) → (P → Q) → Present o P → Present o Q
present-map None f h = tt
present-map (Some x) f h = f h

nothing-noted : (o : Option Report) (n : ℕ) → noted_count o n ≡ 0 → (o ≡ None) × (n ≡ 0)
nothing-noted None n e = (refl, e)
nothing-noted (Some r) n e = absurd (omega arith)

pub transfer_report : {D : Type 0} (d : Ghosts D) (p : List Record) (line : ℕ) (i : Item) (row : List D) (m : Mark) → (transfer d p line i row m).report ≡ judged d p line i row m
transfer_report d p line (Instruction (Mov t s)) row m = refl
transfer_report d p line (Instruction (Alu op t s)) row m = refl
transfer_report d p line (Instruction (Load w t b s)) row m = refl
transfer_report d p line (Instruction (Store w b s t)) row m = refl
transfer_report d p line (Instruction (Jump to)) row m = refl
transfer_report d p line (Instruction (Branch c l s to)) row m = refl
transfer_report d p line (Instruction Ret) row m = refl
transfer_report d p line (Buffer size mode) row m = refl
transfer_report d p line Blank row m = refl

-- ── one instruction ──

module _ {D : Type 0} (d : Ghosts D) (p : List Record) (valid : Valid p) (n : ℕ) (inside : n < code_length p) (s : Sheet D) where
  -- what it makes of its row and mark
  abbrev pub out : Outcome D
  out = outcome_at d p (code_at p n) n s.rows s.marks

  -- the rows and marks when the fall-through has come
  abbrev pub rows₁ : List D
  rows₁ = sent_all d n (n + 1) out.next s.rows s.marks

  abbrev pub marks₁ : List Mark
  marks₁ = sent_marks n (n + 1) out.next s.marks

  pub ways : Onward (code_length p) n (n + 1) out.next × Onward (code_length p) n (place_of out.jump) (change_of out.jump)
  ways =
      let w = ways_of d p (code_at p n).line (row_at s.rows n) (mark_at s.marks n) (code_length p) n (omega arith) valid inside in
      (present-map out.next (λ h. (omega arith, h)) w.0, w.1)

  -- what stood at the instruction and before it stays
  pub row_kept : (k : ℕ) → k ≤ n → row_at (applied d n out s).rows k ≡ row_at s.rows k
  unfolding applied
  row_kept k h = sent-row d (code_length p) n (place_of out.jump) rows₁ marks₁ (change_of out.jump) k h ways.1 ∙ sent-row d (code_length p) n (n + 1) s.rows s.marks out.next k h ways.0

  pub mark-kept : (k : ℕ) → k ≤ n → mark_at (applied d n out s).marks k ≡ mark_at s.marks k
  unfolding applied
  mark-kept k h = sent-mark d (code_length p) n (place_of out.jump) rows₁ marks₁ (change_of out.jump) k h ways.1 ∙ sent-mark d (code_length p) n (n + 1) s.rows s.marks out.next k h ways.0

  pub rows_long : length (applied d n out s).rows ≡ length s.rows
  unfolding applied
  rows_long = sent-rows-long d (code_length p) n (place_of out.jump) rows₁ marks₁ (change_of out.jump) ∙ sent-rows-long d (code_length p) n (n + 1) s.rows s.marks out.next

  pub marks-long : length (applied d n out s).marks ≡ length s.marks
  unfolding applied
  marks-long = sent-marks-long d (code_length p) n (place_of out.jump) rows₁ marks₁ (change_of out.jump) ∙ sent-marks-long d (code_length p) n (n + 1) s.rows s.marks out.next

module _ {D : Type 0} (d : Ghosts D) (laws : Lawful d) (p : List Record) (valid : Valid p) where
  module _ (n : ℕ) (inside : n < code_length p) (s : Sheet D) (done : Done d p n s) where
    abbrev o : Outcome D
    o = out d p valid n inside s

    abbrev t : Sheet D
    t = applied d n o s

    abbrev r₁ : List D
    r₁ = rows₁ d p valid n inside s

    abbrev m₁ : List Mark
    m₁ = marks₁ d p valid n inside s

    abbrev on : Onward (code_length p) n (n + 1) o.next × Onward (code_length p) n (place_of o.jump) (change_of o.jump)
    on = ways d p valid n inside s

    long₁ : 8 * code_length p ≤ length r₁
    long₁ = let e = sent-rows-long d (code_length p) n (n + 1) s.rows s.marks o.next in let h = done.long in omega arith

    wide₁ : code_length p ≤ length m₁
    wide₁ = let e = sent-marks-long d (code_length p) n (n + 1) s.rows s.marks o.next in let h = done.wide in omega arith

    grows : (j : ℕ) (r : Regs) → At d s.rows s.marks j r → At d t.rows t.marks j r
    unfolding applied
    grows j r a =
        at_old d (code_length p) n (place_of o.jump) r₁ m₁ laws long₁ wide₁ (change_of o.jump) j r on.1
        (at_old d (code_length p) n (n + 1) s.rows s.marks laws done.long done.wide o.next j r on.0 a)

    back : (j : ℕ) (r : Regs) → j ≤ n → At d t.rows t.marks j r → At d s.rows s.marks j r
    back j r h a =
        let row = row_kept d p valid n inside s j h in
        let mark = mark-kept d p valid n inside s j h in
        record {
          marked = sym (ap (λ (m : Mark). m.reached) mark) ∙ a.marked;
          fits = subst (λ x. Fits d x (mark_at s.marks j) r) row (subst (λ m. Fits d (row_at t.rows j) m r) mark a.fits);
        }

    -- where the instruction leads, a row tells the truth
    led : (j : ℕ) (q : Regs) → Leads d (row_at s.rows n) (mark_at s.marks n) n o j q → At d t.rows t.marks j q
    unfolding applied
    led j q (inl (e, fit)) =
        subst (λ x. At d t.rows t.marks x q) (sym e)
        (at_old d (code_length p) n (place_of o.jump) r₁ m₁ laws long₁ wide₁ (change_of o.jump) (n + 1) q on.1
        (at_new d (code_length p) n (n + 1) s.rows s.marks laws done.long done.wide o.next q on.0 fit))
    led j q (inr (e, fit)) =
        let row = sent-row d (code_length p) n (n + 1) s.rows s.marks o.next n (omega arith) on.0 in
        let mark = sent-mark d (code_length p) n (n + 1) s.rows s.marks o.next n (omega arith) on.0 in
        subst (λ x. At d t.rows t.marks x q) (sym e)
        (at_new d (code_length p) n (place_of o.jump) r₁ m₁ laws long₁ wide₁ (change_of o.jump) q on.1
        (subst (λ x. FitsIn d x (mark_at m₁ n) (change_of o.jump) q) (sym row) (subst (λ m. FitsIn d (row_at s.rows n) m (change_of o.jump) q) (sym mark) fit)))

    nothing : t.count ≡ 0 → (o.report ≡ None) × (s.count ≡ 0)
    unfolding applied
    nothing e = nothing-noted o.report s.count e

    local-old : t.count ≡ 0 → (k : ℕ) → k < n → (r : Regs) → At d t.rows t.marks k r → Local d p t k r
    unfolding applied
    local-old e k h r a =
        let before = done.local (nothing e).1 k h r (back k r (omega arith) a) in
        record {
          moves = before.moves;
          leads = λ j q f. grows j q (before.leads j q f);
          gives = λ w g. let h = before.gives w g in (h.0, joined-first d laws s.answer o.answer w h.0 h.1);
        }

    local-new : t.count ≡ 0 → (r : Regs) → At d t.rows t.marks n r → Local d p t n r
    unfolding applied
    local-new e r a =
        let here = back n r (omega arith) a in
        let line = (code_at p n).line in
        let row = row_at s.rows n in
        let mark = mark_at s.marks n in
        let none = sym (transfer_report d p line (item_at p n) row mark) ∙ (nothing e).0 in
        let fine = safe_item d laws p row mark n line r here.fits (code_length p) (item_at p n) (valid.items n inside) none in
        record {
          moves = fine.moves;
          leads = λ j q f. led j q (fine.leads j q f);
          gives = λ w g. let h = fine.gives w g in (h.0, joined-second d laws s.answer o.answer w h.0 h.1);
        }

    done_applied : Done d p (suc n) t
    done_applied = record {
      long = let e = rows_long d p valid n inside s in let h = done.long in omega arith;
      wide = let e = marks-long d p valid n inside s in let h = done.wide in omega arith;
      begins = λ x. grows 0 (entry x) (done.begins x);
      local = λ e k h r a. ⊎_elim
          (λ same. subst (λ m. Local d p t m r) (sym same) (local-new e r (subst (λ m. At d t.rows t.marks m r) same a)))
          (λ ne. local-old e k (omega arith) r a)
          (cases_eq k n);
    }

    done_passed : (mark_at s.marks n).reached ≡ false → Done d p (suc n) s
    done_passed e = record {
      long = done.long;
      wide = done.wide;
      begins = done.begins;
      local = λ z k h r a. ⊎_elim
          (λ same. absurd (both_ways (mark_at s.marks n).reached e (subst (λ m. (mark_at s.marks m).reached ≡ true) same a.marked)))
          (λ ne. done.local z k (omega arith) r a)
          (cases_eq k n);
    }

    done_visited : Done d p (suc n) (visited d p (code_at p n) n s)
    unfolding visited
    done_visited = ⊎_elim
        (λ e. subst (Done d p (suc n)) (sym (cond-true (mark_at s.marks n).reached t s e)) done_applied)
        (λ e. subst (Done d p (suc n)) (sym (cond-false (mark_at s.marks n).reached t s e)) (done_passed e))
        (cases_Bool (mark_at s.marks n).reached)

  done_walked : (n : ℕ) (s : Sheet D) → n ≤ code_length p → Done d p 0 s → Done d p n (walked d p n s)
  unfolding walked
  done_walked zero s h done = done
  done_walked (suc n) s h done = done_visited n (omega arith) (walked d p n s) (done_walked n s (omega arith) done)

  -- ── the start ──

  entry_has : (x : Inputs) (k : ℕ) → k < 8 → is_set walk.start k ≡ true → Has d d.every (entry x k)
  entry_has x zero l e = absurd (both_ways false refl e)
  entry_has x (suc zero) l e = record { word = x.first; is = refl; fits = x.first_fits; held = laws.any_holds _ x.first_fits }
  entry_has x (suc (suc zero)) l e = record { word = x.second; is = refl; fits = x.second_fits; held = laws.any_holds _ x.second_fits }
  entry_has x (suc (suc (suc zero))) l e = record { word = x.third; is = refl; fits = x.third_fits; held = laws.any_holds _ x.third_fits }
  entry_has x (suc (suc (suc (suc zero)))) l e = record { word = x.fourth; is = refl; fits = x.fourth_fits; held = laws.any_holds _ x.fourth_fits }
  entry_has x (suc (suc (suc (suc (suc zero))))) l e = absurd (both_ways false refl e)
  entry_has x (suc (suc (suc (suc (suc (suc zero)))))) l e = absurd (both_ways false refl e)
  entry_has x (suc (suc (suc (suc (suc (suc (suc zero))))))) l e = absurd (both_ways false refl e)
  entry_has x (suc (suc (suc (suc (suc (suc (suc (suc k)))))))) l e = absurd (omega arith)

  module _ (rows : List D) (marks : List Mark) (reports : List Report) (long : 8 * code_length p ≤ length rows) (wide : code_length p ≤ length marks) where
    abbrev first : Sheet D
    first = opened d (code_length p) rows marks reports

    opened_rows : length first.rows ≡ length rows
    opened_rows =
        let a = length-append (replicate (8 * code_length p) d.every) (drop (8 * code_length p) rows) in
        let b = length-replicate (8 * code_length p) d.every in
        let c = length-drop (8 * code_length p) rows in
        omega arith

    opened-marks : length first.marks ≡ length marks
    opened-marks =
        let a = length-append (replicate (code_length p) walk.unreached) (drop (code_length p) marks) in
        let b = length-replicate (code_length p) walk.unreached in
        let c = length-drop (code_length p) marks in
        let e = length-set (replicate (code_length p) walk.unreached ++ drop (code_length p) marks) 0 walk.start in
        omega arith

    opened-cell : (i : ℕ) → i < 8 → cell d (row_at first.rows 0) i ≡ d.every
    opened-cell i l =
        let some = valid.some in
        let b = length-replicate (8 * code_length p) d.every in
        cell_row d first.rows 0 i l
        ∙ get_or_append_left (replicate (8 * code_length p) d.every) (drop (8 * code_length p) rows) d.every (8 * 0 + i) (omega arith)
        ∙ get_or-replicate (8 * code_length p) (8 * 0 + i) d.every d.every (omega arith)

    done_opened : Done d p 0 first
    done_opened =
        let some = valid.some in
        let wide-first = opened-marks in
        let inside : 0 < length (replicate (code_length p) walk.unreached ++ drop (code_length p) marks) = let e = length-set (replicate (code_length p) walk.unreached ++ drop (code_length p) marks) 0 walk.start in omega arith in
        let mark : mark_at first.marks 0 ≡ walk.start = get_or-set_same (replicate (code_length p) walk.unreached ++ drop (code_length p) marks) 0 walk.start _ inside in
        record {
          long = let e = opened_rows in omega arith;
          wide = omega arith;
          begins = λ x. record {
            marked = ap (λ (m : Mark). m.reached) mark;
            fits = λ k l e. subst (λ v. Has d v (entry x k)) (sym (opened-cell k l)) (entry_has x k l (sym (ap (λ m. is_set m k) mark) ∙ e));
          };
          local = λ z k h r a. absurd (omega arith);
        }

  -- ── the end ──

  module _ (s : Sheet D) (done : Done d p (code_length p) s) (none : s.count ≡ 0) where
    -- every state of a free run is where a row tells the truth, and no earlier than its steps
    held : (x : Inputs) {n k : ℕ} {r : Regs} → Run p (entry x) n k r → At d s.rows s.marks k r × (n ≤ k) × (k < code_length p)
    held x start = (done.begins x, omega arith, valid.some)
    held x (more {n} {k} {j} {r} {q} run inside does) =
        let before = held x run in
        let on = forward p k r j q valid inside does in
        ((done.local none k inside r before.0).leads j q does, omega (arith, before.1, on.0), on.1)

    settled : (x : Reached p) → Local d p s x.at x.regs
    settled x = let h = held x.from x.run in done.local none x.at h.2 x.regs h.0

    finish : (fuel : ℕ) (x : Inputs) (n k : ℕ) (r : Regs) → Run p (entry x) n k r → code_length p ≤ k + fuel → ∥ ((z : Reached p) × (w : ℕ) × (z.from ≡ x) × Gives z.regs w (item_at p z.at)) ∥₁
    finish zero x n k r run h = let here = (held x run).2 in absurd (omega arith)
    finish (suc fuel) x n k r run h =
        let z : Reached p = record { from = x; steps = n; at = k; regs = r; run = run } in
        let inside = (held x run).2 in
        elim (settled z).moves [
          | inl g ↦ ∣ (z, g.0, refl, g.1) ∣₁
          | inr f ↦
              let on = forward p k r f.0 f.1 valid inside f.2 in
              finish fuel x (suc n) f.0 f.1 (more run inside f.2) (omega (arith, on.0))
        ]

    sound_done : Sound d p s.answer
    sound_done = record {
      never_stuck = λ x. ∣ ((held x.from x.run).2, not_stuck p x.at x.regs (item_at p x.at) (settled x).moves, (settled x).moves) ∣₁;
      ends = λ x. let h = held x.from x.run in omega (arith, h.1, h.2);
      completes = λ x. finish (code_length p) x 0 0 (entry x) start (omega arith);
      returns = λ x w g. ((settled x).gives w g).1;
    }

  -- where a check counts no report, its answer is sound
  pub sound : (rows : List D) (marks : List Mark) (reports : List Report) → 8 * code_length p ≤ length rows → code_length p ≤ length marks → (checked d p rows marks reports).count ≡ 0 → Sound d p (checked d p rows marks reports).answer
  sound rows marks reports long wide none = sound_done (checked d p rows marks reports) (done_walked (code_length p) (opened d (code_length p) rows marks reports) (omega arith) (done_opened rows marks reports long wide)) none
