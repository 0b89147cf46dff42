-- A report tells the first cause, and there is one exactly where there is a cause.
use Rattle.std.proofs.Common.{◌≡◌, ℕ, ◌+◌, ◌%◌, ◌<◌, true, false, not, ◌||◌, eqb, ltb, ◌⊎◌, List, [], ◌∷◌, Some, None, Option, sym, refl, ap, ◌∙◌, subst, inl, inr, ⊎_elim, arith}
use Rattle.std.proofs.lemmas.Bool.{cases_Bool, cond-true, cond-false, and_parts, and_cases, or_cases, or_parts, not-true, not-false, eqb-true, eqb-false, ltb-true, ltb-false, both_ways}
use Rattle.words.specs.Widths.{bytes_of}
use Rattle.words.specs.declared.operation.Operation.{Operation}
use Rattle.words.specs.declared.operation.Operation.TheVariants.{Add, Sub, Mul, Div, And, Or, Xor, Shl, Shr}
use Rattle.words.specs.declared.width.Width.{Width}
use Rattle.tristate.specs.Tristates.{known, unknown}
use Rattle.range.specs.Ranges.{least, most}
use Rattle.domain.specs.declared.domain.Domain.{Ghosts}
use Rattle.domain.specs.declared.facts.Facts.{Facts}
use Rattle.rule.specs.declared.instruction.Condition.{Condition}
use Rattle.rule.specs.declared.record.Item.{Item}
use Rattle.rule.specs.declared.record.Item.TheVariants.{Blank, Buffer, Instruction}
use Rattle.rule.specs.declared.instruction.Instruction.TheVariants.{Mov, Alu, Load, Store, Jump, Branch, Ret}
use Rattle.rule.specs.declared.record.Mode.{Mode}
use Rattle.rule.specs.declared.instruction.Operand.{Operand}
use Rattle.rule.specs.declared.instruction.Operand.TheVariants.{Constant}
use Rattle.rule.specs.declared.record.Record.{Record}
use Rattle.machine.specs.Machine.{reads, In}
use Rattle.machine.specs.Tables.{size_at}
use Rattle.step.specs.declared.cause.Cause.{Cause}
use Rattle.step.specs.declared.cause.Cause.TheVariants.{Unset, Divisor, Shift, Beyond, Askew}
use Rattle.step.specs.declared.mark.Mark.{Mark}
use Rattle.step.specs.Causes.{cause_number}
use Rattle.step.specs.Lacks.{told_of, Multiples, Lacks, First}
use Rattle.step.specs.Lacks.Lacks.{unset, divisor, shift_left, shift_right, load_beyond, load_askew, store_beyond, store_askew}
use Rattle.step.specs.Needs.{divisor_cause, shift_cause, is_even, access_cause}
use Rattle.step.specs.Rows.{amount, is_set, first_unset, doubted, first_report}
use Rattle.step.specs.Transfer.{alu_cause, judged}

-- ── registers ──

-- the first that may be unset, or none
abbrev FirstOf : Mark → List ℕ → Option ℕ → Type 0
FirstOf m ks None = (k : ℕ) → In k ks → is_set m k ≡ false → ⊥
FirstOf m ks (Some k) = In k ks × (is_set m k ≡ false)

later : (m : Mark) (x : ℕ) (ks : List ℕ) (o : Option ℕ) → is_set m x ≡ true → FirstOf m ks o → FirstOf m (x ∷ ks) o
later m x ks None e h = λ k i f. ⊎_elim (λ same. both_ways (is_set m x) (ap (is_set m) (sym same) ∙ f) e) (λ i. h k i f) i
later m x ks (Some k) e h = (inr h.0, h.1)

first_of : (m : Mark) (ks : List ℕ) → FirstOf m ks (first_unset m ks)
first_of m [] = λ k i f. i
first_of m (x ∷ ks) =
    ⊎_elim
    (λ e. subst (FirstOf m (x ∷ ks)) (sym (cond-true (is_set m x) _ _ e)) (later m x ks (first_unset m ks) e (first_of m ks)))
    (λ e. subst (FirstOf m (x ∷ ks)) (sym (cond-false (is_set m x) _ _ e)) (inl refl, e))
    (cases_Bool (is_set m x))

-- ── facts ──

-- a cause is found just where the statement holds
abbrev Finds : Type 0 → Cause → Option Cause → Type 0
Finds P c None = P → ⊥
Finds P c (Some x) = (x ≡ c) × P

divisor-found : (f : Facts) → Finds ((known f.bits ≡ 0) × (least f.range ≡ 0)) Divisor (divisor_cause f)
divisor-found f =
    let known-one = not (eqb (known f.bits) 0) in
    let above = ltb 0 (least f.range) in
    ⊎_elim
    (λ e. subst (Finds _ Divisor) (sym (cond-true (known-one || above) _ _ e))
    (λ h. ⊎_elim (λ a. eqb-false (known f.bits) 0 (not-true _ a) h.0) (λ a. omega (arith, ltb-true 0 (least f.range) a, h.1)) (or_cases known-one above e)))
    (λ e.
    let h = or_parts known-one above e in
    subst (Finds _ Divisor) (sym (cond-false (known-one || above) _ _ e)) (refl, (eqb-true _ 0 (not-false _ h.0), omega (arith, ltb-false 0 (least f.range) h.1))))
    (cases_Bool (known-one || above))

shift_found : (f : Facts) → Finds (63 < most f.range) Shift (shift_cause f)
shift_found f =
    ⊎_elim
    (λ e. subst (Finds _ Shift) (sym (cond-true (ltb 63 (most f.range)) _ _ e)) (refl, ltb-true _ _ e))
    (λ e. subst (Finds _ Shift) (sym (cond-false (ltb 63 (most f.range)) _ _ e)) (λ h. omega (arith, ltb-false 63 (most f.range) e)))
    (cases_Bool (ltb 63 (most f.range)))

-- ── one instruction ──

few : (c : Cause) → cause_number c < 1 → ⊥
few Unset h = omega arith
few Divisor h = omega arith
few Shift h = omega arith
few Beyond h = omega arith
few Askew h = omega arith

-- every cause is an unset register, or has a number above 1
abbrev Beside : (Cause → Type 0) → Type 0
Beside lacks = (c : Cause) → 1 < cause_number c → lacks c → ⊥

-- the first of the causes with a number above 1
abbrev Second : (Cause → Type 0) → Option Cause → Type 0
Second lacks None = Beside lacks
Second lacks (Some x) = (1 < cause_number x) × lacks x × Beside (λ c. (cause_number c < cause_number x) × lacks c)

by_number : (lacks : Cause → Type 0) → (lacks Unset → ⊥) → Beside lacks → (c : Cause) → lacks c → ⊥
by_number lacks free rest Unset h = free h
by_number lacks free rest Divisor h = rest Divisor (omega arith) h
by_number lacks free rest Shift h = rest Shift (omega arith) h
by_number lacks free rest Beyond h = rest Beyond (omega arith) h
by_number lacks free rest Askew h = rest Askew (omega arith) h

module _ {D : Type 0} (d : Ghosts D) (p : List Record) (row : List D) (m : Mark) (line : ℕ) where
  abbrev lacks : Item → Cause → Type 0
  lacks i c = Lacks d p row m i c

  no_unset : (i : Item) → FirstOf m (reads i) None → lacks i Unset → ⊥
  no_unset i h (unset k a b) = h k a b

  from : (i : Item) (s : Operand) (u : Option ℕ) (o : Option Cause) → FirstOf m (reads i) u → Second (lacks i) o → First (lacks i) (first_report d line row u (doubted d line row s o))
  from i s (Some k) o h z = (unset k h.0 h.1, λ c l x. few c l)
  from i s None None h z = by_number (lacks i) (no_unset i h) z
  from i s None (Some y) h z = (z.1, λ c l x. by_number (λ c. (cause_number c < cause_number y) × lacks i c) (λ w. no_unset i h w.1) z.2 c (l, x))

  plain-mov : (t : ℕ) (s : Operand) → Beside (lacks (Instruction (Mov t s)))
  plain-mov t s c l (unset k a b) = omega arith

  plain_branch : (o : Condition) (l : ℕ) (s : Operand) (to : ℕ) → Beside (lacks (Instruction (Branch o l s to)))
  plain_branch o l s to c n (unset k a b) = omega arith

  plain-ret : Beside (lacks (Instruction Ret))
  plain-ret c l (unset k a b) = omega arith

  never-jump : (to : ℕ) (c : Cause) → lacks (Instruction (Jump to)) c → ⊥
  never-jump to c (unset k a b) = a

  never-buffer : (size : ℕ) (mode : Mode) (c : Cause) → lacks (Buffer size mode) c → ⊥
  never-buffer size mode c (unset k a b) = a

  never-blank : (c : Cause) → lacks Blank c → ⊥
  never-blank c (unset k a b) = a

  -- ── operations ──

  -- one cause alone, where the statement holds
  alone : (i : Item) (P : Type 0) (y : Cause) → 1 < cause_number y → (P → lacks i y) → ((c : Cause) → 1 < cause_number c → lacks i c → (cause_number c ≡ cause_number y) × P) → (o : Option Cause) → Finds P y o → Second (lacks i) o
  alone i P y l make only None h = λ c n x. h (only c n x).1
  alone i P y l make only (Some z) h = subst (λ z. Second (lacks i) (Some z)) (sym h.0) (l, make h.1, λ c n x. omega (arith, (only c n x.1).0, x.0))

  abbrev Quiet : Operation → Type 0
  Quiet Add = Unit {0}
  Quiet Sub = Unit {0}
  Quiet Mul = Unit {0}
  Quiet Div = ⊥
  Quiet And = Unit {0}
  Quiet Or = Unit {0}
  Quiet Xor = Unit {0}
  Quiet Shl = ⊥
  Quiet Shr = ⊥

  quiet : (op : Operation) (t : ℕ) (s : Operand) → Quiet op → Beside (lacks (Instruction (Alu op t s)))
  quiet op t s q c l (unset k a b) = omega arith
  quiet Div t s q Divisor l (divisor a b) = q
  quiet Shl t s q Shift l (shift_left a) = q
  quiet Shr t s q Shift l (shift_right a) = q

  only-divisor : (t : ℕ) (s : Operand) (c : Cause) → 1 < cause_number c → lacks (Instruction (Alu Div t s)) c → (cause_number c ≡ cause_number Divisor) × ((known (told_of d row s).bits ≡ 0) × (least (told_of d row s).range ≡ 0))
  only-divisor t s c l (unset k a b) = absurd (omega arith)
  only-divisor t s Divisor l (divisor a b) = (refl, (a, b))

  only-left : (t : ℕ) (s : Operand) (c : Cause) → 1 < cause_number c → lacks (Instruction (Alu Shl t s)) c → (cause_number c ≡ cause_number Shift) × (63 < most (told_of d row s).range)
  only-left t s c l (unset k a b) = absurd (omega arith)
  only-left t s Shift l (shift_left a) = (refl, a)

  only-right : (t : ℕ) (s : Operand) (c : Cause) → 1 < cause_number c → lacks (Instruction (Alu Shr t s)) c → (cause_number c ≡ cause_number Shift) × (63 < most (told_of d row s).range)
  only-right t s c l (unset k a b) = absurd (omega arith)
  only-right t s Shift l (shift_right a) = (refl, a)

  alu-second : (op : Operation) (t : ℕ) (s : Operand) → Second (lacks (Instruction (Alu op t s))) (alu_cause d op (amount d row s))
  alu-second Add t s = quiet Add t s tt
  alu-second Sub t s = quiet Sub t s tt
  alu-second Mul t s = quiet Mul t s tt
  alu-second Div t s = alone (Instruction (Alu Div t s)) _ Divisor (omega arith) (λ h. divisor h.0 h.1) (only-divisor t s) (divisor_cause (told_of d row s)) (divisor-found (told_of d row s))
  alu-second And t s = quiet And t s tt
  alu-second Or t s = quiet Or t s tt
  alu-second Xor t s = quiet Xor t s tt
  alu-second Shl t s = alone (Instruction (Alu Shl t s)) _ Shift (omega arith) (λ h. shift_left h) (only-left t s) (shift_cause (told_of d row s)) (shift_found (told_of d row s))
  alu-second Shr t s = alone (Instruction (Alu Shr t s)) _ Shift (omega arith) (λ h. shift_right h) (only-right t s) (shift_cause (told_of d row s)) (shift_found (told_of d row s))

  -- ── accesses ──

  even-from : (f : Facts) (w : Width) → is_even f (bytes_of w) ≡ true → Multiples f w
  even-from f w e = let h = and_parts (eqb (known f.bits % bytes_of w) 0) (eqb (unknown f.bits % bytes_of w) 0) e in (eqb-true _ 0 h.0, eqb-true _ 0 h.1)

  odd_from : (f : Facts) (w : Width) → is_even f (bytes_of w) ≡ false → Multiples f w → ⊥
  odd_from f w e h = ⊎_elim (λ a. eqb-false _ 0 a h.0) (λ a. eqb-false _ 0 a h.1) (and_cases (eqb (known f.bits % bytes_of w) 0) (eqb (unknown f.bits % bytes_of w) 0) e)

  -- the two causes of an access
  abbrev Access : Facts → Width → ℕ → Cause → Type 0
  Access f w size c = ((cause_number c ≡ 4) × (size < most f.range + bytes_of w)) ⊎ ((cause_number c ≡ 5) × (Multiples f w → ⊥))

  access_second : (i : Item) (f : Facts) (w : Width) (size : ℕ) → (size < most f.range + bytes_of w → lacks i Beyond) → ((Multiples f w → ⊥) → lacks i Askew) → ((c : Cause) → 1 < cause_number c → lacks i c → Access f w size c) → Second (lacks i) (access_cause f w size)
  access_second i f w size beyond askew only =
      let over = ltb size (most f.range + bytes_of w) in
      let even = is_even f (bytes_of w) in
      ⊎_elim
      (λ e. subst (Second (lacks i)) (sym (cond-true over _ _ e)) (omega arith, beyond (ltb-true _ _ e), λ c n x. ⊎_elim (λ h. omega (arith, h.0, x.0)) (λ h. omega (arith, h.0, x.0)) (only c n x.1)))
      (λ e.
      let within = ltb-false size (most f.range + bytes_of w) e in
      subst (Second (lacks i)) (sym (cond-false over _ _ e))
      (⊎_elim
      (λ g. subst (Second (lacks i)) (sym (cond-true even _ _ g)) (λ c n x. ⊎_elim (λ h. omega (arith, h.1)) (λ h. h.1 (even-from f w g)) (only c n x)))
      (λ g. subst (Second (lacks i)) (sym (cond-false even _ _ g)) (omega arith, askew (odd_from f w g), λ c n x. ⊎_elim (λ h. omega (arith, h.1)) (λ h. omega (arith, h.0, x.0)) (only c n x.1)))
      (cases_Bool even)))
      (cases_Bool over)

  only-load : (w : Width) (t b : ℕ) (s : Operand) (c : Cause) → 1 < cause_number c → lacks (Instruction (Load w t b s)) c → Access (told_of d row s) w (size_at p b) c
  only-load w t b s c l (unset k a e) = absurd (omega arith)
  only-load w t b s Beyond l (load_beyond a) = inl (refl, a)
  only-load w t b s Askew l (load_askew a) = inr (refl, a)

  only_store : (w : Width) (b : ℕ) (s : Operand) (t : ℕ) (c : Cause) → 1 < cause_number c → lacks (Instruction (Store w b s t)) c → Access (told_of d row s) w (size_at p b) c
  only_store w b s t c l (unset k a e) = absurd (omega arith)
  only_store w b s t Beyond l (store_beyond a) = inl (refl, a)
  only_store w b s t Askew l (store_askew a) = inr (refl, a)

  -- ── any instruction ──

  pub judged-first : (i : Item) → First (lacks i) (judged d p line i row m)
  judged-first (Instruction (Mov t s)) = from (Instruction (Mov t s)) s (first_unset m (reads (Instruction (Mov t s)))) None (first_of m (reads (Instruction (Mov t s)))) (plain-mov t s)
  judged-first (Instruction (Alu op t s)) = from (Instruction (Alu op t s)) s (first_unset m (reads (Instruction (Alu op t s)))) (alu_cause d op (amount d row s)) (first_of m (reads (Instruction (Alu op t s)))) (alu-second op t s)
  judged-first (Instruction (Load w t b s)) =
      from (Instruction (Load w t b s)) s (first_unset m (reads (Instruction (Load w t b s)))) (access_cause (told_of d row s) w (size_at p b)) (first_of m (reads (Instruction (Load w t b s))))
      (access_second (Instruction (Load w t b s)) (told_of d row s) w (size_at p b) (λ h. load_beyond h) (λ h. load_askew h) (only-load w t b s))
  judged-first (Instruction (Store w b s t)) =
      from (Instruction (Store w b s t)) s (first_unset m (reads (Instruction (Store w b s t)))) (access_cause (told_of d row s) w (size_at p b)) (first_of m (reads (Instruction (Store w b s t))))
      (access_second (Instruction (Store w b s t)) (told_of d row s) w (size_at p b) (λ h. store_beyond h) (λ h. store_askew h) (only_store w b s t))
  judged-first (Instruction (Jump to)) = never-jump to
  judged-first (Instruction (Branch c l s to)) = from (Instruction (Branch c l s to)) s (first_unset m (reads (Instruction (Branch c l s to)))) None (first_of m (reads (Instruction (Branch c l s to)))) (plain_branch c l s to)
  judged-first (Instruction Ret) = from (Instruction Ret) (Constant 0) (first_unset m (reads (Instruction Ret))) None (first_of m (reads (Instruction Ret))) plain-ret
  judged-first (Buffer size mode) = never-buffer size mode
  judged-first Blank = never-blank
