-- A table whose end is written, as a part of its own.
use Rattle.std.proofs.Common.{◌≡◌, ℕ, ◌+◌, ◌≤◌, List, ◌++◌, length, drop, IfOk, Ok, Err, Result, sym, ap, ◌∙◌, arith}
use Rattle.std.proofs.lemmas.List.{drop_at, drop-drop}
use Rattle.rule.specs.declared.record.Record.{Record}
use Rattle.grammar.specs.declared.fault.ProgramFault.{ProgramFault}

-- behind its front lies what was written
pub part-rest : (front back ys xs : List Record) (n k : ℕ) (r : Result ℕ ProgramFault) → xs ≡ front ++ back → length front ≡ n → length back + n ≡ length xs → n ≡ k → IfOk r (λ m. (m ≤ length back) × (drop m ys ≡ drop m back)) → IfOk r (λ m. (k + m ≤ length xs) × (drop (k + m) (front ++ ys) ≡ drop (k + m) xs))
part-rest front back ys xs n k (Ok m) parts long back-long e is = (
  omega (arith, is.0, back-long, e),
  ap (λ i. drop (i + m) (front ++ ys)) (sym e)
      ∙ sym (drop-drop m n (front ++ ys))
      ∙ ap (drop m) (drop_at front ys n long)
      ∙ is.1
      ∙ ap (drop m) (sym (drop_at front back n long))
      ∙ drop-drop m n (front ++ back)
      ∙ ap (drop (n + m)) (sym parts)
      ∙ ap (λ i. drop (i + m) xs) e,
)
part-rest front back ys xs n k (Err f) parts long back-long e is = tt

-- what lies beyond the records is as it was
pub beyond : (was mid after : List Record) (n m : ℕ) → drop n mid ≡ drop n was → drop (n + m) after ≡ drop (n + m) mid → drop (n + m) after ≡ drop (n + m) was
beyond was mid after n m a b = b ∙ sym (drop-drop m n mid) ∙ ap (drop m) a ∙ drop-drop m n was
