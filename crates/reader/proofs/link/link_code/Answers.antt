use Rattle.std.proofs.Common.{◌≡◌, [], Ok, Err, sym, ◌∙◌, arith, rules}
use Rattle.lexer.specs.Lines.{lines_of, piece_of, pieces_of}
use Rattle.syntax.specs.declared.statement.Statement.TheVariants.{Instruction as Instructs}
use Rattle.syntax.specs.Spelled.{instruction as spelled_instruction}
use Rattle.syntax.specs.Statements.{statement_of}
use Rattle.grammar.specs.Reading.{link_from}
use Rattle.reader.specs.Scopes.{scope_in}
use Rattle.reader.proofs.Linking.{link_fails}
use Rattle.reader.proofs.link.link_code.Goals as goal

pub returns-in_err-resolve-clause-cases : goal.returns-in_err-resolve-clause-cases
returns-in_err-resolve-clause-cases c =
    let inv = c.loop-line.invariant in
    let line = c.in-Some.ensures in
    let says : Ok (Instructs (spelled_instruction c.in-Instruction.instruction)) ≡ statement_of (piece_of c.in-Some.line.first) (pieces_of c.in-Some.line.rest) = search rules in
    let fault : link_from (scope_in c.args.scope) [] (lines_of c.args.lexer) ≡ Err c.in_err-resolve.field-0.0 = sym inv.1 ∙ link_fails _ c.loop-line.slots c.loop-line.count _ _ _ (spelled_instruction c.in-Instruction.instruction) _ (omega arith) line.cases says c.in_err-resolve.ensures in
    search (rules, fault)
