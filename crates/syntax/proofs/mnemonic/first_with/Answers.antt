use Rattle.std.proofs.Common.{rules}
use Rattle.std.proofs.lemmas.Iterator.{YieldsList-from_slice}
use Rattle.std.proofs.lemmas.Iterator.Search.{find_from_yields_List}
use Rattle.std.specs.Str.{bytes_eq}
use Rattle.syntax.specs.Words.{word_of}
use Rattle.syntax.proofs.mnemonic.first_with.Goals as goal

pub returns : goal.returns
returns c =
    let found = find_from_yields_List (λ m. bytes_eq c.args.text.now (word_of m)) _ _ c.find.result c.find.ensures.ran (YieldsList-from_slice c.args.all.now cc) (λ x b q k. search rules) in
    search (rules, found)
