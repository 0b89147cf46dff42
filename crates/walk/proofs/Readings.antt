-- The reports and the answer of a check are those that the rows and marks give which it leaves.
use Rattle.std.proofs.Common.{◌≡◌, ℕ, zero, suc, ◌+◌, ◌*◌, ◌<◌, ◌≤◌, true, false, cond, ◌&&◌, List, ◌++◌, length, take, drop, replicate, Some, None, Option, sym, refl, ap, ◌∙◌, subst, ⊎_elim, append-nil, arith}
use Rattle.std.proofs.lemmas.List.{take_more_set, drop-set-lt, drop-drop, length-set, length-take-le, length-replicate, drop-append-le, drop_all}
use Rattle.std.proofs.lemmas.Bool.{cases_Bool, cond-true, cond-false, and_left}
use Rattle.domain.specs.declared.domain.Domain.{Ghosts}
use Rattle.rule.specs.declared.record.Item.{Item}
use Rattle.rule.specs.declared.record.Item.TheVariants.{Blank, Buffer, Instruction}
use Rattle.rule.specs.declared.instruction.Instruction.TheVariants.{Mov, Alu, Load, Store, Jump, Branch, Ret}
use Rattle.rule.specs.declared.record.Record.{Record}
use Rattle.machine.specs.Tables.{code_length, code_at, item_at}
use Rattle.machine.specs.Valid.{is_ret, Valid}
use Rattle.step.specs.declared.mark.Mark.{Mark}
use Rattle.step.specs.declared.outcome.Outcome.{Outcome}
use Rattle.step.specs.declared.report.Report.{Report}
use Rattle.step.specs.Changes.{change_of, place_of}
use Rattle.step.specs.Lacks.{Lacks, First}
use Rattle.step.specs.Rows.{cell, shown}
use Rattle.step.specs.Transfer.{judged, transfer}
use Rattle.step.proofs.Firsts.{judged-first}
use Rattle.walk.specs.Exact.{listed, report_at, answer_at, reports_of, answers_of, Exact}
use Rattle.walk.specs.Walk as walk
use Rattle.walk.specs.Walk.{Sheet, row_at, mark_at, noted_reports, noted_count, joined_in, applied, visited, walked, opened, checked}
use Rattle.walk.proofs.Arrivals.{sent-rows-rest, sent-marks-rest}
use Rattle.walk.proofs.Whole.{transfer_report, out, rows₁, marks₁, ways, row_kept, mark-kept}

-- ── one more report ──

noted-front : (o : Option Report) (xs : List Report) (n : ℕ) → n < length xs → take (noted_count o n) (noted_reports o xs n) ≡ take n xs ++ listed o
noted-front None xs n h = sym (append-nil (take n xs))
noted-front (Some r) xs n h = take_more_set xs n r h

noted-rest : (o : Option Report) (xs ys : List Report) (n : ℕ) → drop n xs ≡ drop n ys → drop (noted_count o n) (noted_reports o xs n) ≡ drop (noted_count o n) ys
noted-rest None xs ys n e = e
noted-rest (Some r) xs ys n e = drop-set-lt (n + 1) xs n r (omega arith) ∙ sym (drop-drop 1 n xs) ∙ ap (drop 1) e ∙ drop-drop 1 n ys

noted-few : (o : Option Report) (n m : ℕ) → n ≤ m → noted_count o n ≤ suc m
noted-few None n m h = omega arith
noted-few (Some r) n m h = omega arith

noted-long : (o : Option Report) (xs : List Report) (n : ℕ) → length (noted_reports o xs n) ≡ length xs
noted-long None xs n = refl
noted-long (Some r) xs n = length-set xs n r

joined-none : {D : Type 0} (d : Ghosts D) (a : Option D) → joined_in d a None ≡ a
joined-none d None = refl
joined-none d (Some a) = refl

-- only `ret` returns, where nothing is reported
transfer-answer : {D : Type 0} (d : Ghosts D) (p : List Record) (line : ℕ) (i : Item) (row : List D) (m : Mark) → (transfer d p line i row m).answer ≡ cond (is_ret i) (shown (judged d p line i row m) (Some (cell d row 0)) None) None
transfer-answer d p line (Instruction (Mov t s)) row m = refl
transfer-answer d p line (Instruction (Alu op t s)) row m = refl
transfer-answer d p line (Instruction (Load w t b s)) row m = refl
transfer-answer d p line (Instruction (Store w b s t)) row m = refl
transfer-answer d p line (Instruction (Jump to)) row m = refl
transfer-answer d p line (Instruction (Branch c l s to)) row m = refl
transfer-answer d p line (Instruction Ret) row m = refl
transfer-answer d p line (Buffer size mode) row m = refl
transfer-answer d p line Blank row m = refl

module _ {D : Type 0} (d : Ghosts D) (p : List Record) where
  -- ── the same rows and marks give the same ──

  module _ (rows rows' : List D) (marks marks' : List Mark) where
    reports-same : (n : ℕ) → ((k : ℕ) → k < n → row_at rows' k ≡ row_at rows k) → ((k : ℕ) → k < n → mark_at marks' k ≡ mark_at marks k) → reports_of d p rows' marks' n ≡ reports_of d p rows marks n
    unfolding reports_of
    reports-same zero row mark = refl
    reports-same (suc n) row mark =
        let before = reports-same n (λ k h. row k (omega arith)) (λ k h. mark k (omega arith)) in
        let r = row n (omega arith) in
        let m = mark n (omega arith) in
        λ t. before t ++ listed (cond (m t).reached (judged d p (code_at p n).line (item_at p n) (r t) (m t)) None)

    answers_same : (n : ℕ) → ((k : ℕ) → k < n → row_at rows' k ≡ row_at rows k) → ((k : ℕ) → k < n → mark_at marks' k ≡ mark_at marks k) → answers_of d p rows' marks' n ≡ answers_of d p rows marks n
    unfolding answers_of
    answers_same zero row mark = refl
    answers_same (suc n) row mark =
        let before = answers_same n (λ k h. row k (omega arith)) (λ k h. mark k (omega arith)) in
        let r = row n (omega arith) in
        let m = mark n (omega arith) in
        λ t. joined_in d (before t) (cond ((m t).reached && is_ret (item_at p n)) (shown (cond (m t).reached (judged d p (code_at p n).line (item_at p n) (r t) (m t)) None) (Some (cell d (r t) 0)) None) None)

  -- ── the walk ──

  -- after the first n instructions of a check that found the lists as these
  module _ (valid : Valid p) (rows₀ : List D) (marks₀ : List Mark) (reports₀ : List Report) where
    record Read (n : ℕ) (s : Sheet D) : Type 0 where
      reported : take s.count s.reports ≡ reports_of d p s.rows s.marks n
      few : s.count ≤ n
      room : code_length p ≤ length s.reports
      answered : s.answer ≡ answers_of d p s.rows s.marks n
      rows_kept : drop (8 * code_length p) s.rows ≡ drop (8 * code_length p) rows₀
      marks_kept : drop (code_length p) s.marks ≡ drop (code_length p) marks₀
      reports_kept : drop s.count s.reports ≡ drop s.count reports₀

    module _ (n : ℕ) (inside : n < code_length p) (s : Sheet D) (was : Read n s) where
      abbrev o : Outcome D
      o = out d p valid n inside s

      abbrev t : Sheet D
      t = applied d n o s

      module _ (reached : (mark_at s.marks n).reached ≡ true) where
        -- what is reported and returned here is what the rows and marks give
        report_here : o.report ≡ report_at d p s.rows s.marks n
        report_here = transfer_report d p (code_at p n).line (item_at p n) (row_at s.rows n) (mark_at s.marks n) ∙ sym (cond-true (mark_at s.marks n).reached _ _ reached)

        answer-here : o.answer ≡ answer_at d p s.rows s.marks n
        answer-here =
            let row = row_at s.rows n in
            let mark = mark_at s.marks n in
            let found = judged d p (code_at p n).line (item_at p n) row mark in
            transfer-answer d p (code_at p n).line (item_at p n) row mark
            ∙ (λ i. cond (sym reached i && is_ret (item_at p n)) (shown (cond (sym reached i) found None) (Some (cell d row 0)) None) None)

        read_applied : Read (suc n) t
        unfolding applied reports_of answers_of
        read_applied =
            let w = ways d p valid n inside s in
            let rows-mid = rows₁ d p valid n inside s in
            let marks-mid = marks₁ d p valid n inside s in
            let room = was.room in
            let few = was.few in
            record {
              reported =
                  noted-front o.report s.reports s.count (omega arith)
                  ∙ (λ i. was.reported i ++ listed (report_here i))
                  ∙ sym (reports-same s.rows t.rows s.marks t.marks (suc n) (λ k h. row_kept d p valid n inside s k (omega arith)) (λ k h. mark-kept d p valid n inside s k (omega arith)));
              few = noted-few o.report s.count n few;
              room = let e = noted-long o.report s.reports s.count in omega arith;
              answered =
                  (λ i. joined_in d (was.answered i) (answer-here i))
                  ∙ sym (answers_same s.rows t.rows s.marks t.marks (suc n) (λ k h. row_kept d p valid n inside s k (omega arith)) (λ k h. mark-kept d p valid n inside s k (omega arith)));
              rows_kept = sent-rows-rest d (code_length p) n (place_of o.jump) rows-mid marks-mid (change_of o.jump) w.1 ∙ sent-rows-rest d (code_length p) n (n + 1) s.rows s.marks o.next w.0 ∙ was.rows_kept;
              marks_kept = sent-marks-rest d (code_length p) n (place_of o.jump) rows-mid marks-mid (change_of o.jump) w.1 ∙ sent-marks-rest d (code_length p) n (n + 1) s.rows s.marks o.next w.0 ∙ was.marks_kept;
              reports_kept = noted-rest o.report s.reports reports₀ s.count was.reports_kept;
            }

      read_passed : (mark_at s.marks n).reached ≡ false → Read (suc n) s
      unfolding reports_of answers_of
      read_passed e =
          let few = was.few in
          record {
            reported = was.reported ∙ sym (append-nil _) ∙ ap (λ o. reports_of d p s.rows s.marks n ++ listed o) (sym (cond-false (mark_at s.marks n).reached _ _ e));
            few = omega arith;
            room = was.room;
            answered = was.answered ∙ sym (joined-none d _) ∙ ap (joined_in d (answers_of d p s.rows s.marks n)) (sym (cond-false _ _ _ (and_left (mark_at s.marks n).reached _ e)));
            rows_kept = was.rows_kept;
            marks_kept = was.marks_kept;
            reports_kept = was.reports_kept;
          }

      read_visited : Read (suc n) (visited d p (code_at p n) n s)
      unfolding visited
      read_visited =
          ⊎_elim
          (λ e. subst (Read (suc n)) (sym (cond-true (mark_at s.marks n).reached t s e)) (read_applied e))
          (λ e. subst (Read (suc n)) (sym (cond-false (mark_at s.marks n).reached t s e)) (read_passed e))
          (cases_Bool (mark_at s.marks n).reached)

    read_walked : (n : ℕ) (s : Sheet D) → n ≤ code_length p → Read 0 s → Read n (walked d p n s)
    unfolding walked
    read_walked zero s h was = was
    read_walked (suc n) s h was = read_visited n (omega arith) (walked d p n s) (read_walked n s (omega arith) was)

    -- a front that is written over leaves the rest
    front_kept : {X : Type 0} (n : ℕ) (x : X) (xs : List X) → drop n (replicate n x ++ drop n xs) ≡ drop n xs
    front_kept n x xs =
        let long = length-replicate n x in
        drop-append-le n (replicate n x) (drop n xs) (omega arith) ∙ ap (λ l. l ++ drop n xs) (drop_all n (replicate n x) (omega arith))

    read_opened : code_length p ≤ length reports₀ → Read 0 (opened d (code_length p) rows₀ marks₀ reports₀)
    unfolding reports_of answers_of
    read_opened room = record {
      reported = refl;
      few = omega arith;
      room = room;
      answered = refl;
      rows_kept = front_kept (8 * code_length p) d.every rows₀;
      marks_kept = drop-set-lt (code_length p) _ 0 walk.start valid.some ∙ front_kept (code_length p) walk.unreached marks₀;
      reports_kept = refl;
    }

    first-told : (s : Sheet D) (k : ℕ) → (mark_at s.marks k).reached ≡ true → First (Lacks d p (row_at s.rows k) (mark_at s.marks k) (item_at p k)) (report_at d p s.rows s.marks k)
    first-told s k e =
        let row = row_at s.rows k in
        let mark = mark_at s.marks k in
        subst (First (Lacks d p row mark (item_at p k))) (sym (cond-true mark.reached _ _ e)) (judged-first d p row mark (code_at p k).line (item_at p k))

    pub exact : code_length p ≤ length reports₀ → Exact d p rows₀ marks₀ reports₀ (checked d p rows₀ marks₀ reports₀)
    exact room =
        let s = checked d p rows₀ marks₀ reports₀ in
        let read = read_walked (code_length p) (opened d (code_length p) rows₀ marks₀ reports₀) (omega arith) (read_opened room) in
        let few = read.few in
        let long = read.room in
        record {
          reported = read.reported;
          counted = sym (sym (ap length read.reported) ∙ length-take-le s.count s.reports (omega arith));
          first = first-told s;
          answered = read.answered;
          rows_kept = read.rows_kept;
          marks_kept = read.marks_kept;
          reports_kept = read.reports_kept;
        }
