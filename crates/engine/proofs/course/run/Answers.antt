use Rattle.std.proofs.Common.{◌≡◌, ℕ, List, Some, None, Option, sym, ap, ◌∙◌, subst, rules}
use Rattle.std.specs.Option.{IsSome}
use Rattle.machine.specs.Memory.{Finishes}
use Rattle.machine.specs.Tables.{code_length}
use Rattle.engine.specs.declared.ran.Ran.{Ran}
use Rattle.engine.specs.Steps.{End, end, ended, run_from}
use Rattle.engine.proofs.Endings.{words_end, free-finish}
use Rattle.engine.proofs.course.run.Goals as goal

ran-some : (o : Option Ran) (m : List ℕ) (e : End) → ended o m ≡ Some e → IsSome o
ran-some None m e h = cc
ran-some (Some x) m e h = search rules

pub unwrap-requires : goal.unwrap-requires
unwrap-requires c =
    let p = c.args.rule.table.now in
    let m = c.args.memory.now in
    let e = words_end p c.args.words m c.args.rule.valid c.requires.safe c.start.ensures.words in
    ran-some c.drive.result c.drive.new.memory e.0 (c.drive.ensures ∙ ap (λ r. run_from p (code_length p) 0 0 r m) c.start.ensures.value ∙ e.1)

-- the run is that of the machine
finishes : (c : goal.After-unwrap) → Finishes c.args.rule.table.now c.args.words c.args.memory.now c.unwrap.result.answer c.unwrap.result.steps c.drive.new.memory
finishes c =
    let p = c.args.rule.table.now in
    let m = c.args.memory.now in
    let o = c.drive.new.memory in
    let e = words_end p c.args.words m c.args.rule.valid c.requires.safe c.start.ensures.words in
    let some : Some (end c.unwrap.result o) ≡ Some e.0 = ap (λ r. ended r o) (sym c.unwrap.ensures) ∙ c.drive.ensures ∙ ap (λ r. run_from p (code_length p) 0 0 r m) c.start.ensures.value ∙ e.1 in
    let same : e.0 ≡ end c.unwrap.result o = cc in
    subst (λ (z : End). Finishes p c.args.words m z.answer z.steps z.memory) same e.2

pub returns-clause-finishes : goal.returns-clause-finishes
returns-clause-finishes c = finishes c

pub returns-clause-free : goal.returns-clause-free
returns-clause-free c = free-finish c.args.rule.table.now c.args.words c.args.memory.now c.unwrap.result.answer c.unwrap.result.steps c.drive.new.memory (finishes c)
