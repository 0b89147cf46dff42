-- What a heading, a buffer's line and a line of the code say.
use Rattle.std.proofs.Common.{◌≡◌, ℕ, suc, Bool, true, false, ◌&&◌, eqb, ◌⊎◌, List, [], ◌∷◌, length, drop, Some, None, Ok, Err, codes, Decides, Option, Result, refl, ap, ◌∙◌, inl, inr, arith}
use Rattle.std.proofs.lemmas.Slice.Eq.{bytes_eq-Decides}
use Rattle.std.proofs.lemmas.Bool.{cond_both}
use Rattle.std.proofs.lemmas.Bool.Decides.{nat_tests, Decides-and}
use Rattle.lexer.specs.declared.fault.FieldFault.{FieldFault}
use Rattle.lexer.specs.declared.fault.FieldFault.TheVariants.{Character, Kind as WrongKind}
use Rattle.lexer.specs.Characters.{is_name}
use Rattle.lexer.specs.Fields.{named_in, unmarked, ends_in_colon}
use Rattle.lexer.specs.Lines.{Piece}
use Rattle.syntax.specs.declared.fault.LineFault.{LineFault}
use Rattle.syntax.specs.declared.fault.LineFault.TheVariants.{Field, Heading, Form}
use Rattle.syntax.specs.declared.mnemonic.Mnemonic.{Mnemonic}
use Rattle.rule.specs.declared.instruction.Instruction.{Instruction}
use Rattle.syntax.specs.declared.statement.Statement.{Statement}
use Rattle.syntax.specs.declared.statement.Statement.TheVariants.{Label, Instruction as Instructs}
use Rattle.syntax.specs.Statements as syntax
use Rattle.syntax.specs.Statements.{is_heading, are_heading, known_of, instruction_of, labels, instructs, statement_of}
use Rattle.syntax.specs.Words.{mnemonic_in}
use Rattle.grammar.specs.Causes.{IsHeading, is_label, label_name, HasForm, IsInstruction}
use Rattle.grammar.specs.Kinds.{Kind, AllFit, Misfit, kinds_of}
use Rattle.grammar.specs.Reading.{Fields, first_place, said}
use Rattle.grammar.proofs.Forms.{SaysLine, instruction_says}
use Rattle.grammar.proofs.Spellings.{word-found, found_word, same_mnemonic, no_mnemonic}

-- ── the heading ──

pub heading_decides : (l : Fields) → Decides (is_heading l) (IsHeading l)
heading_decides [] = (λ e. absurd (grind (arith, nat_tests)), λ h. absurd (omega (arith, h.0)))
heading_decides (a ∷ []) = (λ e. absurd (grind (arith, nat_tests)), λ h. absurd (omega (arith, h.0)))
heading_decides (a ∷ b ∷ []) = (λ e. absurd (grind (arith, nat_tests)), λ h. absurd (omega (arith, h.0)))
heading_decides (a ∷ b ∷ c ∷ []) =
    let d = Decides-and _ _ (Decides-and _ _ (bytes_eq-Decides a.bytes (codes "name")) (bytes_eq-Decides b.bytes (codes "size"))) (bytes_eq-Decides c.bytes (codes "mode")) in
    (λ e. let h = d.0 e in (refl, h.0.0, h.0.1, h.1), λ h. d.1 ((h.1, h.2), h.3))
heading_decides (a ∷ b ∷ c ∷ d ∷ l) = (λ e. absurd (grind (arith, nat_tests)), λ h. absurd (omega (arith, h.0)))

-- ── a line of the code ──

abbrev pub label_piece : Fields → Piece
label_piece l = record { place = first_place l; bytes = label_name l }

abbrev pub SaysCode : Fields → Result (Statement Piece) LineFault → Type 0
SaysCode l (Ok (Label n)) = (is_label l ≡ true) × (is_name (label_name l) ≡ true) × (n ≡ label_piece l)
SaysCode l (Ok (Instructs i)) = (is_label l ≡ false) × IsInstruction l
SaysCode l (Err (Field (WrongKind p))) = ((is_label l ≡ true) × (is_name (label_name l) ≡ false) × (p ≡ first_place l)) ⊎ ((is_label l ≡ false) × ((m : Mnemonic) × HasForm m l × Misfit (kinds_of m) (drop 1 l) p))
SaysCode l (Err (Form p)) = (is_label l ≡ false) × ((m : Mnemonic) → HasForm m l → ⊥) × (p ≡ first_place l)
SaysCode l (Err (Field (Character f))) = ⊥
SaysCode l (Err (Heading p)) = ⊥

one_field : (n : ℕ) (b : Bool) → (eqb (suc n) 1 && b) ≡ (eqb n 0 && b)
one_field n b = grind (arith, nat_tests)

pub label_is : (first : Piece) (rest : List Piece) → is_label (first ∷ rest) ≡ syntax.is_label first rest
label_is first rest = one_field (length rest) (ends_in_colon first.bytes)

label_says : (first : Piece) (rest : List Piece) → is_label (first ∷ rest) ≡ true → SaysCode (first ∷ rest) (labels (named_in (unmarked first)))
label_says first rest is =
    cond_both (is_name (label_name (first ∷ rest))) (Ok (unmarked first)) (Err (WrongKind first.place)) (λ (r : Result Piece FieldFault). SaysCode (first ∷ rest) (labels r))
    (λ h. (is, h, refl))
    (λ h. inl (is, h, refl))

pub fit-long : (ks : List Kind) (ps : List Piece) → AllFit ks ps → length ps ≡ length ks
fit-long [] [] h = refl
fit-long [] (p ∷ ps) h = absurd h
fit-long (k ∷ ks) [] h = absurd h
fit-long (k ∷ ks) (p ∷ ps) h = ap suc (fit-long ks ps h.1)

known_says : (first : Piece) (rest : List Piece) (m : Mnemonic) (r : Result (Instruction Piece) LineFault) → is_label (first ∷ rest) ≡ false → mnemonic_in first.bytes ≡ Some m → SaysLine first.place (kinds_of m) rest r → SaysCode (first ∷ rest) (instructs r)
known_says first rest m (Ok i) is e s = (is, (m, (found_word first.bytes m e, omega (arith, fit-long (kinds_of m) rest s)), s))
known_says first rest m (Err (Field (WrongKind p))) is e s = inr (is, (m, (found_word first.bytes m e, omega (arith, s.0)), s.1))
known_says first rest m (Err (Field (Character f))) is e s = s
known_says first rest m (Err (Heading p)) is e s = s
known_says first rest m (Err (Form p)) is e s = (
  is,
  λ n h. let same : m ≡ n = same_mnemonic _ m n e (word-found n first.bytes h.0) in let long = ap (λ x. length (kinds_of x)) same in s.0 (omega (arith, h.1)),
  s.1,
)

unknown_says : (first : Piece) (rest : List Piece) (o : Option Mnemonic) → is_label (first ∷ rest) ≡ false → mnemonic_in first.bytes ≡ o → SaysCode (first ∷ rest) (instructs (known_of first.place o rest))
unknown_says first rest None is e = (is, λ n h. no_mnemonic _ n e (word-found n first.bytes h.0), refl)
unknown_says first rest (Some m) is e = known_says first rest m (instruction_of first.place m rest) is e (instruction_says first.place m rest)

pub code_says : (l : Fields) → SaysCode l (said l)
code_says [] = (grind (arith, nat_tests), λ m h. omega (arith, h.1), refl)
code_says (first ∷ rest) =
    cond_both (syntax.is_label first rest) _ _ (SaysCode (first ∷ rest))
    (λ h. label_says first rest (label_is first rest ∙ h))
    (λ h. unknown_says first rest (mnemonic_in first.bytes) (label_is first rest ∙ h) refl)
