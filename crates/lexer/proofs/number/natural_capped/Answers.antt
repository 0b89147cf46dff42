use Rattle.std.proofs.Common.{arith}
use Rattle.std.proofs.lemmas.Bool.Decides.{nat_tests}
use Rattle.lexer.proofs.Steps.{all_more, value-more, capped}
use Rattle.lexer.proofs.number.natural_capped.Goals as goal

pub loop-d-preserved : goal.loop-d-preserved
loop-d-preserved c = grind (arith, nat_tests, all_more, value-more, capped)
