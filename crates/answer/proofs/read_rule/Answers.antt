use Rattle.std.proofs.Common.{◌≡◌, ℕ, true, List, get_or, IfOk, Ok, Err, Result, sym, refl, ap, ◌∙◌, subst, arith, MatchResult}
use Rattle.grammar.specs.declared.fault.ProgramFault.{ProgramFault}
use Rattle.rule.specs.declared.shape.Shape.{Shape}
use Rattle.grammar.specs.Reading.{Program, reading, shape_of, table_of}
use Rattle.machine.specs.Machine.{NeverStuck}
use Rattle.machine.specs.Valid.{table_ok}
use Rattle.report.specs.Texts.{fault_text}
use Rattle.rule.specs.declared.record.Record.{Record}
use Rattle.answer.specs.Answers.{SafeRule, SafeText, answer_text, check_text, told_of}
use Rattle.answer.proofs.Rules.{IsRule, reading_made}
use Rattle.answer.proofs.read_rule.Goals as goal

module _ (t : List ℕ) (table : List Record) where
  abbrev Told : Result Shape ProgramFault → Type 0
  Told s = MatchResult s (λ _. answer_text t ≡ check_text table) (λ f. answer_text t ≡ fault_text f)

  abbrev IsValid : Result Shape ProgramFault → Type 0
  IsValid s = IfOk s (λ _. table_ok table ≡ true)

  told : (r : Result Program ProgramFault) → reading 104 t ≡ r → table ≡ table_of 104 r → Told (shape_of r)
  unfolding answer_text
  told (Ok p) is after = ap told_of is ∙ sym (ap check_text after)
  told (Err f) is after = ap told_of is

  valid : (r : Result Program ProgramFault) → IfOk r (IsRule 104) → table ≡ table_of 104 r → IsValid (shape_of r)
  valid (Ok p) rule after = ap table_ok after ∙ rule
  valid (Err f) rule after = tt

  abbrev IsSafe : Result Shape ProgramFault → Type 0
  IsSafe s = MatchResult s (λ _. SafeRule table → SafeText t) (λ _. SafeText t)

  safe : (r : Result Program ProgramFault) → reading 104 t ≡ r → table ≡ table_of 104 r → IsSafe (shape_of r)
  unfolding answer_text SafeRule SafeText
  safe (Ok p) is after = λ rule accepted. (p, is, subst NeverStuck after (rule (ap check_text after ∙ (sym (ap told_of is) ∙ accepted))))
  -- the two headings differ in their first letter
  safe (Err f) is after = λ accepted. absurd (omega (arith, ap (λ (l : List ℕ). get_or l 0 0) (sym (ap told_of is) ∙ accepted)))

pub returns : goal.returns
returns c =
    let t = c.args.text.now in
    let table = c.read.new.table in
    let read = reading 104 t in
    let value = subst (λ n. c.read.result ≡ shape_of (reading n t)) c.requires c.read.ensures.value in
    let after = subst (λ n. table ≡ table_of n (reading n t)) c.requires c.read.ensures.after in
    record {
      told = subst (Told t table) (sym value) (told t table read refl after);
      valid = subst (IsValid t table) (sym value) (valid t table read (reading_made 104 t) after);
      safe = subst (IsSafe t table) (sym value) (safe t table read refl after);
      rule = λ p e. subst (λ (r : Result Program ProgramFault). IfOk r (IsRule 104)) e (reading_made 104 t);
    }
