use Rattle.std.proofs.Common.{◌≡◌, arith}
use Rattle.lexer.specs.Lines.{lines_of}
use Rattle.reader.specs.Passes.{instructions_in}
use Rattle.reader.proofs.Surveys.{survey_counts}
use Rattle.reader.proofs.code.read_code.Goals as goal

pub link_code-requires : goal.link_code-requires
link_code-requires c =
    let survey = c.in_ok-survey.ensures in
    let count : c.in_ok-survey.survey.instructions ≡ instructions_in (lines_of c.args.source.lexer) = survey_counts (lines_of c.args.source.lexer) _ _ survey.cases in
    omega (arith, survey.within)
