use Rattle.std.proofs.Common.{length, Ok, Err, rules}
use Rattle.grammar.specs.Reading.{reading}
use Rattle.grammar.proofs.Verdicts.{told, only}
use Rattle.reader.proofs.Tables.{read_ok, read_err}
use Rattle.reader.proofs.table.read.Goals as goal

pub returns-in-Ok : goal.returns-in-Ok
returns-in-Ok c =
    let says = c.in-Ok.ensures in
    let both = read_ok (length c.args.table.now) c.in-Ok.shape c.fill.new.self c.fill_table.new.table (λ room. reading room c.args.text.now) (search rules) c.fill_table.auto.table says.rest.0 says.cases says.rest.1 in
    let j = told (length c.args.table.now) c.args.text.now (Ok c.in-Ok.shape) both.0 in
    record { value = both.0; judged = j; only = only _ _ (Ok c.in-Ok.shape) j; after = both.1 }

pub returns-in-Err : goal.returns-in-Err
returns-in-Err c =
    let both = read_err (length c.args.table.now) c.in-Err.fault c.fill.new.self c.fill-in-Err.new.self (λ room. reading room c.args.text.now) c.fill.auto.self c.in-Err.ensures.cases (search rules) in
    let j = told (length c.args.table.now) c.args.text.now (Err c.in-Err.fault) both.0 in
    record { value = both.0; judged = j; only = only _ _ (Err c.in-Err.fault) j; after = both.1 }
