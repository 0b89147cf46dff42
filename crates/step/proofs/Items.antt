-- Each instruction: where its row and mark tell the truth and nothing is reported, it can be carried out, and what goes
-- on tells the truth.
use Rattle.std.proofs.Common.{Option, ◌≡◌, ℕ, ◌+◌, ◌^◌, ◌<◌, cond, ◌⊎◌, List, [], ◌∷◌, ◌++◌, Some, None, sym, refl, subst, inl, inr, ⊎_elim, arith, pow_pos}
use Rattle.std.proofs.lemmas.Bool.{cond-true, cond-false, cases_Bool, cases_lt, cases_eq}
use Rattle.words.specs.Sets.{HoldsIn}
use Rattle.words.specs.Widths.{bits_of}
use Rattle.words.specs.Words.{Word, result_of, Sticks, Related}
use Rattle.words.specs.declared.operation.Operation.{Operation}
use Rattle.words.specs.declared.operation.Operation.TheVariants.{Add, Sub, Mul, Div, And, Or, Xor, Shl, Shr}
use Rattle.words.specs.declared.relation.Relation.{Relation}
use Rattle.words.specs.declared.relation.Relation.TheVariants as relation
use Rattle.words.specs.declared.width.Width.{Width}
use Rattle.words.specs.declared.width.Width.TheVariants.{W8, W16, W32, W64}
use Rattle.words.proofs.Results.{result_word}
use Rattle.domain.specs.declared.domain.Domain.{Ghosts}
use Rattle.domain.specs.Lawful.{Lawful}
use Rattle.rule.specs.declared.instruction.Condition.{Condition}
use Rattle.rule.specs.declared.instruction.Condition.TheVariants as condition
use Rattle.rule.specs.declared.record.Item.{Item}
use Rattle.rule.specs.declared.record.Item.TheVariants.{Blank, Buffer, Instruction}
use Rattle.rule.specs.declared.instruction.Instruction.TheVariants.{Mov, Alu, Load, Store, Jump, Branch, Ret}
use Rattle.rule.specs.declared.instruction.Operand.{Operand}
use Rattle.rule.specs.declared.record.Record.{Record}
use Rattle.rule.specs.Instructions.{relation_of}
use Rattle.machine.specs.Machine.{Regs, put, value, Reaches, Does, Gives, Moves, register_in}
use Rattle.machine.specs.Machine.Does.{mov, alu, load, store, jump, taken, missed}
use Rattle.machine.specs.Machine.Gives.{ret}
use Rattle.machine.specs.Valid.{ValidOperand, ValidItem}
use Rattle.step.specs.declared.mark.Mark.{Mark}
use Rattle.step.specs.declared.outcome.Change.{Change}
use Rattle.step.specs.declared.outcome.Outcome.{Outcome}
use Rattle.step.specs.Changes.{change_of, place_of}
use Rattle.step.specs.Rows.{cell, amount, first_unset, unchanged, patched, shown, goes_on}
use Rattle.step.specs.Transfer.{alu_cause, index_cause, judged, opposite, mirrored, side_of, is_same, branch_side, jump_to, transfer}
use Rattle.step.proofs.Fits.{Has, Fits, FitsChange, FitsIn, has_fits, has_held, unchanged-fits, written-fits, both_fits, amount_has}
use Rattle.step.proofs.Shows.{divisor-shown, shift_shown, access_shown, doubt_none, first-none, set_first, set-append}

-- one of the two ways on tells the truth
abbrev pub Leads : {D : Type 0} → Ghosts D → List D → Mark → ℕ → Outcome D → ℕ → Regs → Type 0
Leads d row m k o j q = ((j ≡ k + 1) × FitsIn d row m o.next q) ⊎ ((j ≡ place_of o.jump) × FitsIn d row m (change_of o.jump) q)

pub record Safe {D : Type 0} (d : Ghosts D) (p : List Record) (row : List D) (m : Mark) (k : ℕ) (r : Regs) (i : Item) (o : Outcome D) : Type 0 where
  pub moves : Moves p k r i
  pub leads : (j : ℕ) (q : Regs) → Does p k r j q i → Leads d row m k o j q
  pub gives : (w : ℕ) → Gives r w i → Word w × HoldsIn d.holds o.answer w

-- a change that tells the truth tells it where a jump takes it
jump-fits : {D : Type 0} (d : Ghosts D) (row : List D) (m : Mark) (to : ℕ) (o : Option (Change D)) (j : ℕ) (q : Regs) → j ≡ to → FitsIn d row m o q → (j ≡ place_of (jump_to to o)) × FitsIn d row m (change_of (jump_to to o)) q
jump-fits d row m to None j q e f = absurd f
jump-fits d row m to (Some c) j q e f = (e, f)

-- only `ret` gives a word
abbrev Returning : Item → Type 0
Returning (Instruction Ret) = Unit {0}
Returning Blank = ⊥
Returning (Buffer size mode) = ⊥
Returning (Instruction (Mov t s)) = ⊥
Returning (Instruction (Alu op t s)) = ⊥
Returning (Instruction (Load w t b s)) = ⊥
Returning (Instruction (Store w b s t)) = ⊥
Returning (Instruction (Jump to)) = ⊥
Returning (Instruction (Branch c l s to)) = ⊥

gives-ret : {r : Regs} {w : ℕ} {i : Item} → Gives r w i → Returning i
gives-ret (ret e) = tt

-- ── what no report shows ──

module _ {D : Type 0} (d : Ghosts D) (laws : Lawful d) where
  -- an operation whose second operand is shown to fit has a result
  result_shown : (op : Operation) (b : D) (y : ℕ) → Word y → d.holds b y → alu_cause d op b ≡ None → Sticks op y → ⊥
  result_shown Add b y wy hb e s = s
  result_shown Sub b y wy hb e s = s
  result_shown Mul b y wy hb e s = s
  result_shown Div b y wy hb e s = divisor-shown (d.told b) y e (laws.facts_met b y wy hb) s
  result_shown And b y wy hb e s = s
  result_shown Or b y wy hb e s = s
  result_shown Xor b y wy hb e s = s
  result_shown Shl b y wy hb e s = shift_shown (d.told b) y e (laws.facts_met b y wy hb) s
  result_shown Shr b y wy hb e s = shift_shown (d.told b) y e (laws.facts_met b y wy hb) s

  width_word : (w : Width) (x : ℕ) → x < 2 ^ bits_of w → Word x
  width_word W8 x h = omega arith
  width_word W16 x h = omega arith
  width_word W32 x h = omega arith
  width_word W64 x h = h

  module _ (p : List Record) (row : List D) (m : Mark) (k line : ℕ) (r : Regs) (fit : Fits d row m r) where
    -- ── mov ──
    mov-leads : (t : ℕ) (s : Operand) → Has d (amount d row s) (value r s) → (j : ℕ) (q : Regs) → Does p k r j q (Instruction (Mov t s)) → Leads d row m k (goes_on None (patched t (amount d row s))) j q
    mov-leads t s h j q (mov x e ej eq) = inl (ej, subst (FitsChange d row m (patched t (amount d row s))) (sym eq) (written-fits d row m r fit t (amount d row s) x (has_fits d h x e) (has_held d h x e)))

    safe-mov : (t : ℕ) (s : Operand) → ValidOperand s → first_unset m (register_in s) ≡ None → Safe d p row m k r (Instruction (Mov t s)) (goes_on None (patched t (amount d row s)))
    safe-mov t s vs none =
        let h = amount_has d row m r fit laws s vs none in
        record { moves = inr (k + 1, put r t h.word, mov h.word h.is refl refl); leads = mov-leads t s h; gives = λ w g. absurd (gives-ret g) }

    -- ── operations ──
    alu-leads : (op : Operation) (t : ℕ) (s : Operand) → Has d (cell d row t) (r t) → Has d (amount d row s) (value r s) → (j : ℕ) (q : Regs) → Does p k r j q (Instruction (Alu op t s)) → Leads d row m k (goes_on None (patched t (d.applied op (cell d row t) (amount d row s)))) j q
    alu-leads op t s a h j q (alu x y ex ey ok ej eq) =
        let held = laws.of_holds op (cell d row t) (amount d row s) x y (has_fits d a x ex) (has_fits d h y ey) (has_held d a x ex) (has_held d h y ey) ok in
        inl (ej, subst (FitsChange d row m (patched t (d.applied op (cell d row t) (amount d row s)))) (sym eq) (written-fits d row m r fit t _ (result_of op x y) (result_word op x y (has_fits d a x ex) (has_fits d h y ey)) held))

    safe-alu : (op : Operation) (t : ℕ) (s : Operand) → t < 8 → ValidOperand s → first_unset m (t ∷ register_in s) ≡ None → alu_cause d op (amount d row s) ≡ None → Safe d p row m k r (Instruction (Alu op t s)) (goes_on None (patched t (d.applied op (cell d row t) (amount d row s))))
    safe-alu op t s lt vs none cause =
        let set = set_first m t (register_in s) none in
        let a = fit t lt set.0 in
        let h = amount_has d row m r fit laws s vs set.1 in
        let ok = result_shown op (amount d row s) h.word h.fits h.held cause in
        record { moves = inr (k + 1, put r t (result_of op a.word h.word), alu a.word h.word a.is h.is ok refl refl); leads = alu-leads op t s a h; gives = λ w g. absurd (gives-ret g) }

    -- ── loads and stores ──
    load-leads : (w : Width) (t b : ℕ) (s : Operand) → (j : ℕ) (q : Regs) → Does p k r j q (Instruction (Load w t b s)) → Leads d row m k (goes_on None (patched t (d.under w))) j q
    load-leads w t b s j q (load i x e re hx ej eq) =
        inl (ej, subst (FitsChange d row m (patched t (d.under w))) (sym eq) (written-fits d row m r fit t (d.under w) x (width_word w x hx) (laws.low_holds w x hx)))

    index_reaches : (b : ℕ) (w : Width) (s : Operand) → (h : Has d (amount d row s) (value r s)) → index_cause d p b w (amount d row s) ≡ None → Reaches p b w h.word
    index_reaches b w s h cause = access_shown (d.told (amount d row s)) p b w h.word cause (laws.facts_met (amount d row s) h.word h.fits h.held)

    safe-load : (w : Width) (t b : ℕ) (s : Operand) → ValidOperand s → first_unset m (register_in s) ≡ None → index_cause d p b w (amount d row s) ≡ None → Safe d p row m k r (Instruction (Load w t b s)) (goes_on None (patched t (d.under w)))
    safe-load w t b s vs none cause =
        let h = amount_has d row m r fit laws s vs none in
        record { moves = inr (k + 1, put r t 0, load h.word 0 h.is (index_reaches b w s h cause) (pow_pos (bits_of w)) refl refl); leads = load-leads w t b s; gives = λ w' g. absurd (gives-ret g) }

    store-leads : (w : Width) (b : ℕ) (s : Operand) (t : ℕ) → (j : ℕ) (q : Regs) → Does p k r j q (Instruction (Store w b s t)) → Leads d row m k (goes_on None unchanged) j q
    store-leads w b s t j q (store i x e ex re ej eq) = inl (ej, subst (FitsChange d row m unchanged) (sym eq) (unchanged-fits d row m r fit))

    safe-store : (w : Width) (b : ℕ) (s : Operand) (t : ℕ) → ValidOperand s → t < 8 → first_unset m (register_in s ++ t ∷ []) ≡ None → index_cause d p b w (amount d row s) ≡ None → Safe d p row m k r (Instruction (Store w b s t)) (goes_on None unchanged)
    safe-store w b s t vs lt none cause =
        let set = set-append m (register_in s) (t ∷ []) none in
        let h = amount_has d row m r fit laws s vs set.0 in
        let a = fit t lt (set_first m t [] set.1).0 in
        record { moves = inr (k + 1, r, store h.word a.word h.is a.is (index_reaches b w s h cause) refl refl); leads = store-leads w b s t; gives = λ w' g. absurd (gives-ret g) }

    -- ── jumps ──
    jump-leads : (to : ℕ) → (j : ℕ) (q : Regs) → Does p k r j q (Instruction (Jump to)) → Leads d row m k (transfer d p line (Instruction (Jump to)) row m) j q
    jump-leads to j q (jump ej eq) = inr (ej, subst (FitsChange d row m unchanged) (sym eq) (unchanged-fits d row m r fit))

    safe-jump : (to : ℕ) → Safe d p row m k r (Instruction (Jump to)) (transfer d p line (Instruction (Jump to)) row m)
    safe-jump to = record { moves = inr (to, r, jump refl refl); leads = jump-leads to; gives = λ w g. absurd (gives-ret g) }

    -- a relation seen from the other side, and where it does not hold
    mirror_related : (rel : Relation) (x y : ℕ) → Related rel x y → Related (mirrored rel) y x
    mirror_related relation.Equal x y e = sym e
    mirror_related relation.Unequal x y e = λ h. e (sym h)
    mirror_related relation.Less x y e = e
    mirror_related relation.LessOrEqual x y e = e
    mirror_related relation.Greater x y e = e
    mirror_related relation.GreaterOrEqual x y e = e

    not_related : (c : Condition) (x y : ℕ) → (Related (relation_of c) x y → ⊥) → Related (opposite (relation_of c)) x y
    not_related condition.Equal x y e = e
    not_related condition.Unequal x y e = ⊎_elim (λ h. h) (λ h. absurd (e h)) (cases_eq x y)
    not_related condition.Less x y e = ⊎_elim (λ h. absurd (e h)) (λ h. h) (cases_lt x y)
    not_related condition.LessOrEqual x y e = ⊎_elim (λ h. h) (λ h. absurd (e h)) (cases_lt y x)

    -- a side that the words take is not closed, and tells the truth
    side_fits : (rel : Relation) (l : ℕ) (s : Operand) (x y : ℕ) → Has d (cell d row l) (r l) → Has d (amount d row s) (value r s) → r l ≡ Some x → value r s ≡ Some y → Related rel x y → FitsIn d row m (cond (is_same l s) (Some unchanged) (side_of d rel l s row)) r
    side_fits rel l s x y a h ex ey re =
        let wx = has_fits d a x ex in
        let wy = has_fits d h y ey in
        let hx = has_held d a x ex in
        let hy = has_held d h y ey in
        ⊎_elim
        (λ same. subst (λ o. FitsIn d row m o r) (sym (cond-true (is_same l s) _ _ same)) (unchanged-fits d row m r fit))
        (λ other. subst (λ o. FitsIn d row m o r) (sym (cond-false (is_same l s) _ _ other))
        (both_fits d row m r fit l s _ _ x y wx wy ex ey
        (laws.narrow_holds rel (cell d row l) (amount d row s) x y wx wy hx hy re)
        (laws.narrow_holds (mirrored rel) (amount d row s) (cell d row l) y x wy wx hy hx (mirror_related rel x y re))))
        (cases_Bool (is_same l s))

    abbrev branched : Condition → ℕ → Operand → ℕ → Outcome D
    branched c l s to = record { report = None; next = branch_side d None (opposite (relation_of c)) l s row; jump = jump_to to (branch_side d None (relation_of c) l s row); answer = None }

    branch_leads : (c : Condition) (l : ℕ) (s : Operand) (to : ℕ) → Has d (cell d row l) (r l) → Has d (amount d row s) (value r s) → (j : ℕ) (q : Regs) → Does p k r j q (Instruction (Branch c l s to)) → Leads d row m k (branched c l s to) j q
    branch_leads c l s to a h j q (taken x y ex ey re ej eq) =
        inr (jump-fits d row m to (branch_side d None (relation_of c) l s row) j q ej (subst (FitsIn d row m (branch_side d None (relation_of c) l s row)) (sym eq) (side_fits (relation_of c) l s x y a h ex ey re)))
    branch_leads c l s to a h j q (missed x y ex ey re ej eq) = inl (ej, subst (FitsIn d row m (branch_side d None (opposite (relation_of c)) l s row)) (sym eq) (side_fits (opposite (relation_of c)) l s x y a h ex ey (not_related c x y re)))

    related_or : (rel : Relation) (x y : ℕ) → Related rel x y ⊎ (Related rel x y → ⊥)
    related_or relation.Equal x y = cases_eq x y
    related_or relation.Unequal x y = ⊎_elim (λ e. inr (λ h. h e)) (λ ne. inl ne) (cases_eq x y)
    related_or relation.Less x y = ⊎_elim (λ h. inl h) (λ h. inr (λ g. omega arith)) (cases_lt x y)
    related_or relation.LessOrEqual x y = ⊎_elim (λ h. inr (λ g. omega arith)) (λ h. inl h) (cases_lt y x)
    related_or relation.Greater x y = ⊎_elim (λ h. inl h) (λ h. inr (λ g. omega arith)) (cases_lt y x)
    related_or relation.GreaterOrEqual x y = ⊎_elim (λ h. inr (λ g. omega arith)) (λ h. inl h) (cases_lt x y)

    branch_moves : (c : Condition) (l : ℕ) (s : Operand) (to : ℕ) → Has d (cell d row l) (r l) → Has d (amount d row s) (value r s) → Moves p k r (Instruction (Branch c l s to))
    branch_moves c l s to a h =
        ⊎_elim
        (λ re. inr (to, r, taken a.word h.word a.is h.is re refl refl))
        (λ re. inr (k + 1, r, missed a.word h.word a.is h.is re refl refl))
        (related_or (relation_of c) a.word h.word)

    safe_branch : (c : Condition) (l : ℕ) (s : Operand) (to : ℕ) → l < 8 → ValidOperand s → first_unset m (l ∷ register_in s) ≡ None → Safe d p row m k r (Instruction (Branch c l s to)) (branched c l s to)
    safe_branch c l s to lt vs none =
        let set = set_first m l (register_in s) none in
        let a = fit l lt set.0 in
        let h = amount_has d row m r fit laws s vs set.1 in
        record { moves = branch_moves c l s to a h; leads = branch_leads c l s to a h; gives = λ w g. absurd (gives-ret g) }

    -- ── ret ──
    ret-gives : Has d (cell d row 0) (r 0) → (w : ℕ) → Gives r w (Instruction Ret) → Word w × d.holds (cell d row 0) w
    ret-gives h w (ret e) = (has_fits d h w e, has_held d h w e)

    ret-leads : (o : Outcome D) (j : ℕ) (q : Regs) → Does p k r j q (Instruction Ret) → Leads d row m k o j q
    ret-leads o j q e = elim e [ ]

    safe-ret : first_unset m (0 ∷ []) ≡ None → Safe d p row m k r (Instruction Ret) (record { report = None; next = None; jump = None; answer = Some (cell d row 0) })
    safe-ret none =
        let h = fit 0 (omega arith) (set_first m 0 [] none).0 in
        record { moves = inl (h.word, ret h.is); leads = ret-leads (record { report = None; next = None; jump = None; answer = Some (cell d row 0) }); gives = ret-gives h }

    -- ── any instruction ──

    pub safe_item : (n : ℕ) (i : Item) → ValidItem p n k i → judged d p line i row m ≡ None → Safe d p row m k r i (transfer d p line i row m)
    safe_item n (Instruction (Mov t s)) v e =
        let h = first-none d line row (first_unset m (register_in s)) None e in
        subst (λ o. Safe d p row m k r (Instruction (Mov t s)) (goes_on o (patched t (shown o (amount d row s) d.every)))) (sym e) (safe-mov t s v.1 h.0)
    safe_item n (Instruction (Alu op t s)) v e =
        let h = first-none d line row (first_unset m (t ∷ register_in s)) _ e in
        subst (λ o. Safe d p row m k r (Instruction (Alu op t s)) (goes_on o (patched t (shown o (d.applied op (cell d row t) (amount d row s)) d.every)))) (sym e) (safe-alu op t s v.0 v.1 h.0 (doubt_none d line row s _ h.1))
    safe_item n (Instruction (Load w t b s)) v e =
        let h = first-none d line row (first_unset m (register_in s)) _ e in
        subst (λ o. Safe d p row m k r (Instruction (Load w t b s)) (goes_on o (patched t (d.under w)))) (sym e) (safe-load w t b s v.2 h.0 (doubt_none d line row s _ h.1))
    safe_item n (Instruction (Store w b s t)) v e =
        let h = first-none d line row (first_unset m (register_in s ++ t ∷ [])) _ e in
        subst (λ o. Safe d p row m k r (Instruction (Store w b s t)) (goes_on o unchanged)) (sym e) (safe-store w b s t v.2 v.3 h.0 (doubt_none d line row s _ h.1))
    safe_item n (Instruction (Jump to)) v e = safe-jump to
    safe_item n (Instruction (Branch c l s to)) v e =
        let h = first-none d line row (first_unset m (l ∷ register_in s)) None e in
        subst (λ o. Safe d p row m k r (Instruction (Branch c l s to)) (record { report = o; next = branch_side d o (opposite (relation_of c)) l s row; jump = jump_to to (branch_side d o (relation_of c) l s row); answer = None })) (sym e) (safe_branch c l s to v.0 v.1 h.0)
    safe_item n (Instruction Ret) v e =
        let h = first-none d line row (first_unset m (0 ∷ [])) None e in
        subst (λ o. Safe d p row m k r (Instruction Ret) (record { report = o; next = None; jump = None; answer = shown o (Some (cell d row 0)) None })) (sym e) (safe-ret h.0)
    safe_item n (Buffer size mode) v e = absurd v
    safe_item n Blank v e = absurd v
