use Rattle.std.proofs.Common.{◌+◌, not, arith, rules}
use Rattle.std.proofs.lemmas.List.{take_rest}
use Rattle.std.specs.Prelude.{◌==◌}
use Rattle.lexer.proofs.Cuts.{row_cut}
use Rattle.lexer.proofs.Runs.{run, no-feed, is-feed}
use Rattle.lexer.proofs.lexer.Lexer.next_line.Goals as goal

pub returns-clause-cases : goal.returns-clause-cases
returns-clause-cases c =
    let t = c.args.self.now.text.now in
    let at = c.args.self.now.at in
    let r = run (λ b. not (b == 10)) t _ at c.line_len.result (omega arith) (take_rest t at) c.line_len.ensures.value in
    row_cut t c.args.self.now.number at (at + c.line_len.result) c.if-end-text.self (omega arith) r.forward r.within (λ j a b. no-feed t j (r.all j a b)) (λ h. is-feed t (at + c.line_len.result) (r.stops h)) (λ h. search rules) (λ h. search rules)
