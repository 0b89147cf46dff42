use Rattle.std.proofs.Common.{◌≡◌, ◌+◌, ◌≤◌, ◌∙◌, length, drop, arith, rules}
use Rattle.std.proofs.lemmas.List.{take_rest}
use Rattle.std.specs.Prelude.{◌==◌}
use Rattle.lexer.specs.Characters.{field_byte}
use Rattle.lexer.proofs.Cuts.{piece_cut, pieces_none, spaces_cut}
use Rattle.lexer.proofs.Runs.{run, is-space, no-space}
use Rattle.lexer.proofs.line.Line.next_field.Goals as goal

pub returns-then-from-to-clause-cases : goal.returns-then-from-to-clause-cases
returns-then-from-to-clause-cases c =
    let t = c.args.self.now.text.now in
    let at = c.args.self.now.at in
    let from = at + c.spaces.result in
    let inside : at ≤ length t = search rules in
    let part : c.in_ok-rest.rest.now ≡ drop at t = search (rules, take_rest) in
    let gap = run (λ b. b == 32) t _ at c.spaces.result inside part c.spaces.ensures.value in
    let word = run field_byte t _ from c.field_len.result gap.within (take_rest t from) c.field_len.ensures.value in
    spaces_cut t c.args.self.now.number at from gap.forward (λ h. gap.within) (λ j a b. is-space t j (gap.all j a b))
    ∙ pieces_none t c.args.self.now.number from (λ h. no-space t from (gap.stops h)) (λ h. search (rules, word.stops))

pub returns-clause-cases : goal.returns-clause-cases
returns-clause-cases c =
    let t = c.args.self.now.text.now in
    let at = c.args.self.now.at in
    let from = at + c.spaces.result in
    let to = from + c.field_len.result in
    let inside : at ≤ length t = search rules in
    let part : c.in_ok-rest.rest.now ≡ drop at t = search (rules, take_rest) in
    let gap = run (λ b. b == 32) t _ at c.spaces.result inside part c.spaces.ensures.value in
    let word = run field_byte t _ from c.field_len.result gap.within (take_rest t from) c.field_len.ensures.value in
    spaces_cut t c.args.self.now.number at from gap.forward (λ h. gap.within) (λ j a b. is-space t j (gap.all j a b))
    ∙ piece_cut t c.args.self.now.number from to (omega arith) word.within word.all word.stops
