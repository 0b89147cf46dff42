-- An instruction that is read is the one that its line writes: the same word, and the same names.
use Rattle.std.proofs.Common.{◌≡◌, ℕ, Bool, true, false, eqb, List, [], ◌∷◌, length, Some, None, Ok, Err, codes, Decides, Option, Result, sym, refl, ap, ◌∙◌, ⊎_elim, arith}
use Rattle.std.proofs.lemmas.Bool.{cond-true, cond-false, cases_Bool, both_ways}
use Rattle.lexer.specs.declared.place.Place.{Place}
use Rattle.lexer.specs.declared.fault.FieldFault.{FieldFault}
use Rattle.lexer.specs.Fields.{named_in, unmarked}
use Rattle.lexer.specs.Lines.{Piece}
use Rattle.syntax.specs.declared.fault.LineFault.{LineFault}
use Rattle.syntax.specs.declared.fault.LineFault.TheVariants.{Form}
use Rattle.syntax.specs.declared.mnemonic.Mnemonic.{Mnemonic}
use Rattle.syntax.specs.declared.mnemonic.Mnemonic.TheVariants as word
use Rattle.rule.specs.declared.instruction.Instruction.{Instruction}
use Rattle.rule.specs.Instructions.{is_ret}
use Rattle.rule.specs.declared.instruction.Instruction.TheVariants.{Mov, Alu, Load, Store, Jump, Branch, Ret}
use Rattle.syntax.specs.declared.statement.Statement.{Statement}
use Rattle.syntax.specs.declared.statement.Statement.TheVariants.{Label, Instruction as Instructs}
use Rattle.syntax.specs.Operands.{register_of, operand_of}
use Rattle.syntax.specs.Statements as syntax
use Rattle.syntax.specs.Statements.{and_then, none, one, two, three, mov_of, alu_of, load_of, store_of, jump_of, branch_of, instruction_of, known_of, labels, instructs}
use Rattle.syntax.specs.Words.{word_of, mnemonic_in}
use Rattle.grammar.specs.Causes.{field_at, source_of, sink_of, target_of, mnemonic_of}
use Rattle.grammar.specs.Reading.{Fields, said}
use Rattle.grammar.proofs.Buffers.{then_ok, name-own}
use Rattle.grammar.proofs.Spellings.{word-found, found_word, same_mnemonic}

abbrev Read : Type 0
Read = Result (Instruction Piece) LineFault

-- the name of a buffer to load from, of one to store into, and of a label to jump to
abbrev pub source_name : Instruction Piece → Option Piece
source_name (Load w t n i) = Some n
source_name (Mov t s) = None
source_name (Alu op t o) = None
source_name (Store w n i s) = None
source_name (Jump n) = None
source_name (Branch c l r n) = None
source_name Ret = None

abbrev pub sink_name : Instruction Piece → Option Piece
sink_name (Store w n i s) = Some n
sink_name (Mov t s) = None
sink_name (Alu op t o) = None
sink_name (Load w t n i) = None
sink_name (Jump n) = None
sink_name (Branch c l r n) = None
sink_name Ret = None

abbrev pub target_name : Instruction Piece → Option Piece
target_name (Jump n) = Some n
target_name (Branch c l r n) = Some n
target_name (Mov t s) = None
target_name (Alu op t o) = None
target_name (Load w t n i) = None
target_name (Store w n i s) = None
target_name Ret = None

abbrev closes : Mnemonic → Bool
closes word.Ret = true
closes word.Mov = false
closes (word.Alu op) = false
closes (word.Load w) = false
closes (word.Store w) = false
closes word.Jump = false
closes (word.Branch c) = false

-- the instruction i is the one of the line l, which begins with the mnemonic m
pub record Shape (m : Mnemonic) (l : Fields) (i : Instruction Piece) : Type 0 where
  pub ret : is_ret i ≡ closes m
  pub source : source_name i ≡ source_of (Some m) l
  pub sink : sink_name i ≡ sink_of (Some m) l
  pub target : target_name i ≡ target_of (Some m) l

-- ── just so many fields were there ──

apart : {X : Type 0} (p : Place) (x : X) → ◌≡◌ {A = Result X LineFault} (Err (Form p)) (Ok x) → ⊥
apart p x e = let z : ◌≡◌ {A = ℕ} 0 1 = cc in omega arith

one-own : {X : Type 0} (at : Place) (f : Piece → Result X LineFault) (ps : List Piece) (x : X) → one f (Err (Form at)) ps ≡ Ok x → (a : Piece) × (ps ≡ a ∷ []) × (f a ≡ Ok x)
one-own at f [] x e = absurd (apart at x e)
one-own at f (a ∷ []) x e = (a, refl, e)
one-own at f (a ∷ b ∷ ps) x e = absurd (apart at x e)

two-own : {X : Type 0} (at : Place) (f : Piece → Piece → Result X LineFault) (ps : List Piece) (x : X) → two f (Err (Form at)) ps ≡ Ok x → (a : Piece) × (b : Piece) × (ps ≡ a ∷ b ∷ []) × (f a b ≡ Ok x)
two-own at f [] x e = absurd (apart at x e)
two-own at f (a ∷ []) x e = absurd (apart at x e)
two-own at f (a ∷ b ∷ []) x e = (a, b, refl, e)
two-own at f (a ∷ b ∷ c ∷ ps) x e = absurd (apart at x e)

three-own : {X : Type 0} (at : Place) (f : Piece → Piece → Piece → Result X LineFault) (ps : List Piece) (x : X) → three f (Err (Form at)) ps ≡ Ok x → (a : Piece) × (b : Piece) × (c : Piece) × (ps ≡ a ∷ b ∷ c ∷ []) × (f a b c ≡ Ok x)
three-own at f [] x e = absurd (apart at x e)
three-own at f (a ∷ []) x e = absurd (apart at x e)
three-own at f (a ∷ b ∷ []) x e = absurd (apart at x e)
three-own at f (a ∷ b ∷ c ∷ []) x e = (a, b, c, refl, e)
three-own at f (a ∷ b ∷ c ∷ d ∷ ps) x e = absurd (apart at x e)

ok_same : (i j : Instruction Piece) → ◌≡◌ {A = Read} (Ok i) (Ok j) → i ≡ j
ok_same i j e = cc

-- ── each form ──

shape_own : (at : Place) (first : Piece) (m : Mnemonic) (ps : List Piece) (i : Instruction Piece) → instruction_of at m ps ≡ Ok i → Shape m (first ∷ ps) i
shape_own at first word.Mov ps i e =
    let q = two-own at mov_of ps i e in
    let t = then_ok (register_of q.0) _ _ q.3 in
    let s = then_ok (operand_of q.1) _ _ t.2 in
    let is = ok_same _ i s.2 in
    record { ret = sym (ap is_ret is); source = sym (ap source_name is); sink = sym (ap sink_name is); target = sym (ap target_name is) }
shape_own at first (word.Alu op) ps i e =
    let q = two-own at (alu_of op) ps i e in
    let t = then_ok (register_of q.0) _ _ q.3 in
    let s = then_ok (operand_of q.1) _ _ t.2 in
    let is = ok_same _ i s.2 in
    record { ret = sym (ap is_ret is); source = sym (ap source_name is); sink = sym (ap sink_name is); target = sym (ap target_name is) }
shape_own at first (word.Load w) ps i e =
    let q = three-own at (load_of w) ps i e in
    let t = then_ok (register_of q.0) _ _ q.4 in
    let n = then_ok (named_in q.1) _ _ t.2 in
    let s = then_ok (operand_of q.2) _ _ n.2 in
    let is = ok_same _ i s.2 in
    let named : field_at (first ∷ ps) 2 ≡ q.1 = ap (λ x. field_at (first ∷ x) 2) q.3 in
    record { ret = sym (ap is_ret is); source = sym (ap source_name is) ∙ ap Some (name-own q.1 n.0 n.1 ∙ sym named); sink = sym (ap sink_name is); target = sym (ap target_name is) }
shape_own at first (word.Store w) ps i e =
    let q = three-own at (store_of w) ps i e in
    let n = then_ok (named_in q.0) _ _ q.4 in
    let s = then_ok (operand_of q.1) _ _ n.2 in
    let t = then_ok (register_of q.2) _ _ s.2 in
    let is = ok_same _ i t.2 in
    let named : field_at (first ∷ ps) 1 ≡ q.0 = ap (λ x. field_at (first ∷ x) 1) q.3 in
    record { ret = sym (ap is_ret is); source = sym (ap source_name is); sink = sym (ap sink_name is) ∙ ap Some (name-own q.0 n.0 n.1 ∙ sym named); target = sym (ap target_name is) }
shape_own at first word.Jump ps i e =
    let q = one-own at jump_of ps i e in
    let n = then_ok (named_in q.0) _ _ q.2 in
    let is = ok_same _ i n.2 in
    let named : field_at (first ∷ ps) 1 ≡ q.0 = ap (λ x. field_at (first ∷ x) 1) q.1 in
    record { ret = sym (ap is_ret is); source = sym (ap source_name is); sink = sym (ap sink_name is); target = sym (ap target_name is) ∙ ap Some (name-own q.0 n.0 n.1 ∙ sym named) }
shape_own at first (word.Branch c) ps i e =
    let q = three-own at (branch_of c) ps i e in
    let t = then_ok (register_of q.0) _ _ q.4 in
    let s = then_ok (operand_of q.1) _ _ t.2 in
    let n = then_ok (named_in q.2) _ _ s.2 in
    let is = ok_same _ i n.2 in
    let named : field_at (first ∷ ps) 3 ≡ q.2 = ap (λ x. field_at (first ∷ x) 3) q.3 in
    record { ret = sym (ap is_ret is); source = sym (ap source_name is); sink = sym (ap sink_name is); target = sym (ap target_name is) ∙ ap Some (name-own q.2 n.0 n.1 ∙ sym named) }
shape_own at first word.Ret ps i e =
    ⊎_elim
    (λ h. let is = ok_same _ i (sym (cond-true (eqb (length ps) 0) _ _ h) ∙ e) in record { ret = sym (ap is_ret is); source = sym (ap source_name is); sink = sym (ap sink_name is); target = sym (ap target_name is) })
    (λ h. absurd (apart at i (sym (cond-false (eqb (length ps) 0) _ _ h) ∙ e)))
    (cases_Bool (eqb (length ps) 0))

-- ── a line that is read as an instruction ──

abbrev Stated : Type 0
Stated = Result (Statement Piece) LineFault

not-label : (r : Result Piece FieldFault) (i : Instruction Piece) → labels r ≡ Ok (Instructs i) → ⊥
not-label r i e =
    let x = then_ok r (λ n. Ok (Label n)) (Instructs i) e in
    let same : ◌≡◌ {A = Stated} (Ok (Label x.0)) (Ok (Instructs i)) = x.2 in
    let z : ◌≡◌ {A = ℕ} 0 1 = cc in
    omega arith

instructs-own : (r : Read) (i : Instruction Piece) → instructs r ≡ Ok (Instructs i) → r ≡ Ok i
instructs-own (Ok j) i e = let same : j ≡ i = cc in ap Ok same
instructs-own (Err f) i e = let z : ◌≡◌ {A = ℕ} 0 1 = cc in absurd (omega arith)

known-own : (first : Piece) (rest : List Piece) (o : Option Mnemonic) (i : Instruction Piece) → mnemonic_in first.bytes ≡ o → known_of first.place o rest ≡ Ok i → (m : Mnemonic) × (mnemonic_in first.bytes ≡ Some m) × Shape m (first ∷ rest) i
known-own first rest None i e h = absurd (apart first.place i h)
known-own first rest (Some m) i e h = (m, e, shape_own first.place first m rest i h)

pub instruction-own : (l : Fields) (i : Instruction Piece) → said l ≡ Ok (Instructs i) → (m : Mnemonic) × (mnemonic_of l ≡ Some m) × Shape m l i
instruction-own [] i e = absurd (apart _ _ e)
instruction-own (first ∷ rest) i e =
    ⊎_elim
    (λ h. absurd (not-label (named_in (unmarked first)) i (sym (cond-true (syntax.is_label first rest) _ _ h) ∙ e)))
    (λ h. known-own first rest (mnemonic_in first.bytes) i refl (instructs-own _ i (sym (cond-false (syntax.is_label first rest) _ _ h) ∙ e)))
    (cases_Bool (syntax.is_label first rest))

closes-word : (m : Mnemonic) (bs : List ℕ) → bs ≡ word_of m → closes m ≡ true → bs ≡ codes "ret"
closes-word word.Ret bs e h = e
closes-word word.Mov bs e h = absurd (both_ways _ refl h)
closes-word (word.Alu op) bs e h = absurd (both_ways _ refl h)
closes-word (word.Load w) bs e h = absurd (both_ways _ refl h)
closes-word (word.Store w) bs e h = absurd (both_ways _ refl h)
closes-word word.Jump bs e h = absurd (both_ways _ refl h)
closes-word (word.Branch c) bs e h = absurd (both_ways _ refl h)

-- it is `ret` just where the line begins so
pub ret_decides : (l : Fields) (i : Instruction Piece) → said l ≡ Ok (Instructs i) → Decides (is_ret i) ((field_at l 0).bytes ≡ codes "ret")
ret_decides l i e =
    let o = instruction-own l i e in (
      λ h. closes-word o.0 (field_at l 0).bytes (found_word (field_at l 0).bytes o.0 o.1) (sym o.2.ret ∙ h),
      λ h. o.2.ret ∙ ap closes (same_mnemonic _ o.0 word.Ret o.1 (word-found word.Ret (field_at l 0).bytes h)),
    )
