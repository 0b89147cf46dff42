-- One instruction more.
use Rattle.std.proofs.Common.{◌≡◌, ℕ, ◌≤◌, List, [], ◌∷◌, ◌++◌, length, take, Ok, Err, Result, sym, ap, ◌∙◌}
use Rattle.std.proofs.lemmas.List.{length-take-le}
use Rattle.lexer.specs.Lines.{Piece}
use Rattle.rule.specs.declared.record.Item.TheVariants.{Instruction as IsInstruction}
use Rattle.rule.specs.declared.record.Record.{Record}
use Rattle.syntax.specs.declared.fault.LineFault.{LineFault}
use Rattle.rule.specs.declared.instruction.Instruction.{Instruction}
use Rattle.syntax.specs.declared.statement.Statement.{Statement}
use Rattle.syntax.specs.declared.statement.Statement.TheVariants.{Instruction as Instructs}
use Rattle.grammar.specs.declared.fault.ProgramFault.{ProgramFault}
use Rattle.grammar.specs.Links.{Scope, resolved}
use Rattle.grammar.specs.Reading.{Fields, first_place, record_at, said, and_then, linked, link_from}

-- an instruction whose names don't resolve
pub link_fails : (s : Scope) (rs : List Record) (k : ℕ) (lines rest : List Fields) (l : Fields) (i : Instruction Piece) (f : ProgramFault) → k ≤ length rs → lines ≡ l ∷ rest → Ok (Instructs i) ≡ said l → Err f ≡ resolved s k i → link_from s (take k rs) lines ≡ Err f
link_fails s rs k lines rest l i f inrs is says fault =
    let long : length (take k rs) ≡ k = length-take-le k rs inrs in
    ap (link_from s (take k rs)) is
    ∙ ap (λ (x : Result (Statement Piece) LineFault). linked s (take k rs) (first_place l) (λ rs'. link_from s rs' rest) x) (sym says)
    ∙ ap (λ n. and_then (resolved s n i) (λ j. link_from s (take k rs ++ record_at (first_place l) (IsInstruction j) ∷ []) rest)) long
    ∙ ap (λ (x : Result (Instruction ℕ) ProgramFault). and_then x (λ j. link_from s (take k rs ++ record_at (first_place l) (IsInstruction j) ∷ []) rest)) (sym fault)
