-- The count of the instructions.
use Rattle.std.proofs.Common.{◌≡◌, ℕ, ◌+◌, Bool, false, leb, List, [], ◌∷◌, ◌++◌, Ok, Err, Result, subst, arith}
use Rattle.std.proofs.lemmas.Bool.{cond_both}
use Rattle.lexer.specs.Lines.{Piece}
use Rattle.syntax.specs.declared.fault.LineFault.{LineFault}
use Rattle.syntax.specs.declared.statement.Statement.{Statement}
use Rattle.syntax.specs.declared.statement.Statement.TheVariants.{Label, Instruction as Instructs}
use Rattle.grammar.specs.declared.fault.ProgramFault.{ProgramFault}
use Rattle.rule.specs.Instructions.{is_ret}
use Rattle.grammar.specs.Names.{Entry, is_known}
use Rattle.reader.specs.Passes.{instructing, instructions_in}
use Rattle.grammar.specs.Reading.{Fields, Survey, first_place, entry, said, surveyed, survey_from}

-- a survey counts the instructions of its lines
abbrev Counts : ℕ → Result Survey ProgramFault → Type 0
Counts n (Ok s) = s.count ≡ n
Counts n (Err e) = Unit {0}

counts_line : (room k n : ℕ) (es : List Entry) (l : Fields) (next : List Entry → ℕ → Bool → Result Survey ProgramFault) → ((es' : List Entry) (j : ℕ) (closed : Bool) → Counts (j + n) (next es' j closed)) → (said : Result (Statement Piece) LineFault) → Counts (k + (instructing said + n)) (surveyed room es k (first_place l) next said)
counts_line room k n es l next h (Err e) = tt
counts_line room k n es l next h (Ok (Label name)) =
    let e : k + n ≡ k + (0 + n) = omega arith in
    cond_both (is_known es name.bytes) _ _ (Counts (k + (0 + n))) (λ _. tt) (λ _. subst (λ m. Counts m (next (es ++ entry name k ∷ []) k false)) e (h (es ++ entry name k ∷ []) k false))
counts_line room k n es l next h (Ok (Instructs i)) =
    let e : k + 1 + n ≡ k + (1 + n) = omega arith in
    cond_both (leb room k) _ _ (Counts (k + (1 + n))) (λ _. tt) (λ _. subst (λ m. Counts m (next es (k + 1) (is_ret i))) e (h es (k + 1) (is_ret i)))

counts_all : (ls : List Fields) (room k : ℕ) (es : List Entry) (closed : Bool) → Counts (k + instructions_in ls) (survey_from room es k closed ls)
counts_all [] room k es closed = omega arith
counts_all (l ∷ ls) room k es closed = counts_line room k (instructions_in ls) es l _ (λ es' j closed'. counts_all ls room j es' closed') (said l)

pub survey_counts : (ls : List Fields) (room : ℕ) (s : Survey) → survey_from room [] 0 false ls ≡ Ok s → s.count ≡ instructions_in ls
survey_counts ls room s e =
    let n : s.count ≡ 0 + instructions_in ls = subst (Counts (0 + instructions_in ls)) e (counts_all ls room 0 [] false) in
    omega arith
