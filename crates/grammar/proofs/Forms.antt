-- What the reading of a line says of its form and its fields.
use Rattle.std.proofs.Common.{◌≡◌, eqb, List, [], ◌∷◌, length, Ok, Err, Result, sym, refl, subst, inl, inr, ⊎_elim, arith}
use Rattle.std.proofs.lemmas.Bool.{cond-false, ne_eqb}
use Rattle.lexer.specs.declared.place.Place.{Place}
use Rattle.lexer.specs.declared.fault.FieldFault.{FieldFault}
use Rattle.lexer.specs.declared.fault.FieldFault.TheVariants.{Character, Kind as WrongKind}
use Rattle.lexer.specs.Lines.{Piece}
use Rattle.syntax.specs.declared.fault.LineFault.{LineFault}
use Rattle.syntax.specs.declared.fault.LineFault.TheVariants.{Field, Heading, Form}
use Rattle.syntax.specs.declared.mnemonic.Mnemonic.{Mnemonic}
use Rattle.syntax.specs.declared.mnemonic.Mnemonic.TheVariants.{Mov, Alu, Load, Store, Jump, Branch, Ret}
use Rattle.syntax.specs.declared.statement.Header.TheVariants as header
use Rattle.rule.specs.declared.instruction.Instruction.TheVariants as said
use Rattle.syntax.specs.Statements.{and_then, none, one, two, three, mov_of, alu_of, load_of, store_of, jump_of, branch_of, buffer_of, instruction_of}
use Rattle.grammar.specs.Kinds.{Kind, name, size, mode, register, value, Fits, AllFit, Misfit, buffer_kinds, kinds_of}
use Rattle.grammar.proofs.Fits.{Reads, name-reads, size-reads, mode-reads, register-reads, value-reads}

-- ── fields, from the left ──

abbrev Says : {X : Type 0} → List Kind → List Piece → Result X LineFault → Type 0
Says ks ps (Ok x) = AllFit ks ps
Says ks ps (Err (Field (WrongKind p))) = Misfit ks ps p
Says ks ps (Err (Field (Character f))) = ⊥
Says ks ps (Err (Heading p)) = ⊥
Says ks ps (Err (Form p)) = ⊥

-- one field more on the left, which is of its kind
wider : {X : Type 0} (k : Kind) (ks : List Kind) (p : Piece) (ps : List Piece) (r : Result X LineFault) → Fits k p.bytes → Says ks ps r → Says (k ∷ ks) (p ∷ ps) r
wider k ks p ps (Ok x) f s = (f, s)
wider k ks p ps (Err (Field (WrongKind q))) f s = inr (f, s)
wider k ks p ps (Err (Field (Character e))) f s = s
wider k ks p ps (Err (Heading q)) f s = s
wider k ks p ps (Err (Form q)) f s = s

then_says : {X Y : Type 0} (k : Kind) (ks : List Kind) (p : Piece) (ps : List Piece) (r : Result X FieldFault) (next : X → Result Y LineFault) → Reads k p r → ((x : X) → Says ks ps (next x)) → Says (k ∷ ks) (p ∷ ps) (and_then r next)
then_says {X} {Y} k ks p ps r next reads says =
    let goal : Result X FieldFault → Type 0 = λ q. Says (k ∷ ks) (p ∷ ps) (and_then q next) in
    ⊎_elim
    (λ h. subst goal (sym h.2) (wider k ks p ps (next h.0) h.1 (says h.0)))
    (λ h. subst goal (sym h.1) (inl (h.0, refl)))
    reads

one_chain : {X Z : Type 0} (k : Kind) (a : Piece) (r : Result X FieldFault) (f : X → Z) → Reads k a r → Says (k ∷ []) (a ∷ []) (and_then r (λ x. Ok (f x)))
one_chain k a r f h = then_says k [] a [] r (λ x. Ok (f x)) h (λ x. tt)

two_chain : {X Y Z : Type 0} (k l : Kind) (a b : Piece) (r : Result X FieldFault) (s : Result Y FieldFault) (f : X → Y → Z) → Reads k a r → Reads l b s → Says (k ∷ l ∷ []) (a ∷ b ∷ []) (and_then r (λ x. and_then s (λ y. Ok (f x y))))
two_chain k l a b r s f h g = then_says k (l ∷ []) a (b ∷ []) r (λ x. and_then s (λ y. Ok (f x y))) h (λ x. one_chain l b s (f x) g)

three_chain : {X Y Z W : Type 0} (k l m : Kind) (a b c : Piece) (r : Result X FieldFault) (s : Result Y FieldFault) (t : Result Z FieldFault) (f : X → Y → Z → W) → Reads k a r → Reads l b s → Reads m c t → Says (k ∷ l ∷ m ∷ []) (a ∷ b ∷ c ∷ []) (and_then r (λ x. and_then s (λ y. and_then t (λ z. Ok (f x y z)))))
three_chain k l m a b c r s t f h g e = then_says k (l ∷ m ∷ []) a (b ∷ c ∷ []) r (λ x. and_then s (λ y. and_then t (λ z. Ok (f x y z)))) h (λ x. two_chain l m b c s t (f x) g e)

-- ── just so many fields ──

abbrev pub SaysLine : {X : Type 0} → Place → List Kind → List Piece → Result X LineFault → Type 0
SaysLine at ks ps (Ok x) = AllFit ks ps
SaysLine at ks ps (Err (Field (WrongKind p))) = (length ps ≡ length ks) × Misfit ks ps p
SaysLine at ks ps (Err (Field (Character f))) = ⊥
SaysLine at ks ps (Err (Heading p)) = ⊥
SaysLine at ks ps (Err (Form p)) = (length ps ≡ length ks → ⊥) × (p ≡ at)

whole-line : {X : Type 0} (at : Place) (ks : List Kind) (ps : List Piece) (r : Result X LineFault) → length ps ≡ length ks → Says ks ps r → SaysLine at ks ps r
whole-line at ks ps (Ok x) e s = s
whole-line at ks ps (Err (Field (WrongKind p))) e s = (e, s)
whole-line at ks ps (Err (Field (Character f))) e s = s
whole-line at ks ps (Err (Heading p)) e s = s
whole-line at ks ps (Err (Form p)) e s = absurd s

none_says : {X : Type 0} (at : Place) (x : X) (ps : List Piece) → SaysLine at [] ps (none (Ok x) (Err (Form at)) ps)
none_says at x [] = tt
none_says {X} at x (a ∷ ps) =
    let P : Result X LineFault → Type 0 = SaysLine at [] (a ∷ ps) in
    subst P (sym (cond-false (eqb (length (a ∷ ps)) 0) _ _ (ne_eqb _ 0 (λ e. omega arith)))) (λ e. omega arith, refl)

one_says : {X : Type 0} (at : Place) (k : Kind) (f : Piece → Result X LineFault) → ((a : Piece) → Says (k ∷ []) (a ∷ []) (f a)) → (ps : List Piece) → SaysLine at (k ∷ []) ps (one f (Err (Form at)) ps)
one_says at k f s [] = (λ e. omega arith, refl)
one_says at k f s (a ∷ []) = whole-line at (k ∷ []) (a ∷ []) (f a) refl (s a)
one_says at k f s (a ∷ b ∷ ps) = (λ e. omega arith, refl)

two_says : {X : Type 0} (at : Place) (k l : Kind) (f : Piece → Piece → Result X LineFault) → ((a b : Piece) → Says (k ∷ l ∷ []) (a ∷ b ∷ []) (f a b)) → (ps : List Piece) → SaysLine at (k ∷ l ∷ []) ps (two f (Err (Form at)) ps)
two_says at k l f s [] = (λ e. omega arith, refl)
two_says at k l f s (a ∷ []) = (λ e. omega arith, refl)
two_says at k l f s (a ∷ b ∷ []) = whole-line at (k ∷ l ∷ []) (a ∷ b ∷ []) (f a b) refl (s a b)
two_says at k l f s (a ∷ b ∷ c ∷ ps) = (λ e. omega arith, refl)

three_says : {X : Type 0} (at : Place) (k l m : Kind) (f : Piece → Piece → Piece → Result X LineFault) → ((a b c : Piece) → Says (k ∷ l ∷ m ∷ []) (a ∷ b ∷ c ∷ []) (f a b c)) → (ps : List Piece) → SaysLine at (k ∷ l ∷ m ∷ []) ps (three f (Err (Form at)) ps)
three_says at k l m f s [] = (λ e. omega arith, refl)
three_says at k l m f s (a ∷ []) = (λ e. omega arith, refl)
three_says at k l m f s (a ∷ b ∷ []) = (λ e. omega arith, refl)
three_says at k l m f s (a ∷ b ∷ c ∷ []) = whole-line at (k ∷ l ∷ m ∷ []) (a ∷ b ∷ c ∷ []) (f a b c) refl (s a b c)
three_says at k l m f s (a ∷ b ∷ c ∷ d ∷ ps) = (λ e. omega arith, refl)

-- ── each form ──

pub buffer_says : (at : Place) (ps : List Piece) → SaysLine at buffer_kinds ps (three buffer_of (Err (Form at)) ps)
buffer_says at = three_says at name size mode buffer_of (λ a b c. three_chain name size mode a b c _ _ _ header.Buffer (name-reads a) (size-reads b) (mode-reads c))

pub instruction_says : (at : Place) (m : Mnemonic) (ps : List Piece) → SaysLine at (kinds_of m) ps (instruction_of at m ps)
instruction_says at Mov = two_says at register value mov_of (λ a b. two_chain register value a b _ _ said.Mov (register-reads a) (value-reads b))
instruction_says at (Alu op) = two_says at register value (alu_of op) (λ a b. two_chain register value a b _ _ (said.Alu op) (register-reads a) (value-reads b))
instruction_says at (Load w) = three_says at register name value (load_of w) (λ a b c. three_chain register name value a b c _ _ _ (said.Load w) (register-reads a) (name-reads b) (value-reads c))
instruction_says at (Store w) = three_says at name value register (store_of w) (λ a b c. three_chain name value register a b c _ _ _ (said.Store w) (name-reads a) (value-reads b) (register-reads c))
instruction_says at Jump = one_says at name jump_of (λ a. one_chain name a _ said.Jump (name-reads a))
instruction_says at (Branch k) = three_says at register value name (branch_of k) (λ a b c. three_chain register value name a b c _ _ _ (said.Branch k) (register-reads a) (value-reads b) (name-reads c))
instruction_says at Ret = none_says at said.Ret
