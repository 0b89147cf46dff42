-- What it means that nothing is reported: each need is shown.
use Rattle.std.proofs.Common.{◌≡◌, ℕ, ◌+◌, ◌%◌, ◌^◌, ◌<◌, ◌≤◌, Bool, true, false, cond, not, eqb, ltb, List, [], ◌∷◌, ◌++◌, Some, None, Option, sym, refl, ap, ◌∙◌, ⊎_elim, arith}
use Rattle.std.proofs.lemmas.Bool.{cases_Bool, cond-true, cond-false, and_parts, or_cases, not-true, eqb-true, eqb-false, ltb-true, ltb-false}
use Rattle.words.specs.Ternary.{clear}
use Rattle.words.specs.Widths.{bytes_of}
use Rattle.words.specs.declared.width.Width.{Width}
use Rattle.words.specs.declared.width.Width.TheVariants.{W8, W16, W32, W64}
use Rattle.words.proofs.Aligned.{aligned}
use Rattle.tristate.specs.Tristates.{known, unknown}
use Rattle.range.specs.Ranges.{least, most}
use Rattle.domain.specs.declared.domain.Domain.{Ghosts}
use Rattle.domain.specs.declared.facts.Facts.{Facts}
use Rattle.domain.specs.Facts.{Meets}
use Rattle.rule.specs.declared.instruction.Operand.{Operand}
use Rattle.rule.specs.declared.record.Record.{Record}
use Rattle.machine.specs.Machine.{Reaches}
use Rattle.machine.specs.Tables.{size_at}
use Rattle.step.specs.declared.cause.Cause.{Cause}
use Rattle.step.specs.declared.mark.Mark.{Mark}
use Rattle.step.specs.declared.report.Report.{Report}
use Rattle.step.specs.Needs.{divisor_cause, shift_cause, is_even, access_cause}
use Rattle.step.specs.Rows.{is_set, first_unset, doubted, first_report}

some-none : {X : Type 0} (x : X) → ◌≡◌ {A = Option X} (Some x) None → ⊥
some-none x e = let z : ◌≡◌ {A = ℕ} 0 1 = cc in omega arith

-- a test that gives nothing on one side only
pub none_true : {X : Type 0} (b : Bool) (x : X) → cond b None (Some x) ≡ None → b ≡ true
none_true true x e = refl
none_true false x e = absurd (some-none x e)

pub none_false : {X : Type 0} (b : Bool) (x : X) (o : Option X) → cond b (Some x) o ≡ None → (b ≡ false) × (o ≡ None)
none_false true x o e = absurd (some-none x e)
none_false false x o e = (refl, e)

-- ── facts ──

pub divisor-shown : (f : Facts) (w : ℕ) → divisor_cause f ≡ None → Meets f w → w ≡ 0 → ⊥
divisor-shown f w e m z =
    ⊎_elim
    (λ h. eqb-false (known f.bits) 0 (not-true _ h) (sym m.0 ∙ ap (λ x. clear x (unknown f.bits)) z))
    (λ h. omega (arith, ltb-true 0 (least f.range) h, m.1.0))
    (or_cases (not (eqb (known f.bits) 0)) (ltb 0 (least f.range)) (none_true _ _ e))

pub shift_shown : (f : Facts) (w : ℕ) → shift_cause f ≡ None → Meets f w → 63 < w → ⊥
shift_shown f w e m h = omega (arith, ltb-false 63 (most f.range) (none_false _ _ _ e).0, m.1.1)

even-shown : (f : Facts) (k w : ℕ) → k ≤ 64 → is_even f (2 ^ k) ≡ true → Meets f w → w % 2 ^ k ≡ 0
even-shown f k w le e m =
    let h = and_parts (eqb (known f.bits % 2 ^ k) 0) (eqb (unknown f.bits % 2 ^ k) 0) e in
    aligned k w (unknown f.bits) (known f.bits) le (omega arith) m.0 (eqb-true _ 0 h.0) (eqb-true _ 0 h.1)

width_even : (f : Facts) (w : Width) (i : ℕ) → is_even f (bytes_of w) ≡ true → Meets f i → i % bytes_of w ≡ 0
width_even f W8 i e m = even-shown f 0 i (omega arith) e m
width_even f W16 i e m = even-shown f 1 i (omega arith) e m
width_even f W32 i e m = even-shown f 2 i (omega arith) e m
width_even f W64 i e m = even-shown f 3 i (omega arith) e m

pub access_shown : (f : Facts) (p : List Record) (b : ℕ) (w : Width) (i : ℕ) → access_cause f w (size_at p b) ≡ None → Meets f i → Reaches p b w i
access_shown f p b w i e m =
    let h = none_false (ltb (size_at p b) (most f.range + bytes_of w)) _ _ e in
    record {
      inside = omega (arith, ltb-false (size_at p b) (most f.range + bytes_of w) h.0, m.1.1);
      even = width_even f w i (none_true _ _ h.1) m;
    }

-- ── reports ──

pub doubt_none : {D : Type 0} (d : Ghosts D) (line : ℕ) (row : List D) (s : Operand) (o : Option Cause) → doubted d line row s o ≡ None → o ≡ None
doubt_none d line row s None e = refl
doubt_none d line row s (Some c) e = absurd (some-none _ e)

pub first-none : {D : Type 0} (d : Ghosts D) (line : ℕ) (row : List D) (o : Option ℕ) (r : Option Report) → first_report d line row o r ≡ None → (o ≡ None) × (r ≡ None)
first-none d line row None r e = (refl, e)
first-none d line row (Some k) r e = absurd (some-none _ e)

pub set_first : (m : Mark) (k : ℕ) (ks : List ℕ) → first_unset m (k ∷ ks) ≡ None → (is_set m k ≡ true) × (first_unset m ks ≡ None)
set_first m k ks e = ⊎_elim (λ h. (h, sym (cond-true (is_set m k) _ _ h) ∙ e)) (λ h. absurd (some-none k (sym (cond-false (is_set m k) _ _ h) ∙ e))) (cases_Bool (is_set m k))

pub set-append : (m : Mark) (xs ys : List ℕ) → first_unset m (xs ++ ys) ≡ None → (first_unset m xs ≡ None) × (first_unset m ys ≡ None)
set-append m [] ys e = (refl, e)
set-append m (x ∷ xs) ys e =
    let h = set_first m x (xs ++ ys) e in
    let g = set-append m xs ys h.1 in
    (cond-true (is_set m x) _ _ h.0 ∙ g.0, g.1)
