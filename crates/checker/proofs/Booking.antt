-- After any list of fills and runs each byte of a read-only buffer is the book's.
use Rattle.std.proofs.Common.{◌≡◌, ℕ, ◌+◌, ◌≤◌, Bool, true, false, cond, eqb, List, [], ◌∷◌, length, get_or, sym, refl, ap, ◌∙◌, subst, ⊎_elim, arith}
use Rattle.std.proofs.lemmas.Bool.{cases_Bool, cases_lt, cond-true, cond-false, eqb-true}
use Rattle.rule.specs.declared.record.Record.{Record}
use Rattle.machine.specs.Memory.{start_of, total_size, written, ReadOnlyAt}
use Rattle.machine.specs.Valid.{Valid}
use Rattle.machine.proofs.Keeping.{Keeps, keeps_same, written-long, written-before, written-here, written_behind}
use Rattle.engine.specs.Fills.{is_within}
use Rattle.engine.specs.Steps.{left_by, run_of}
use Rattle.engine.proofs.Untouched.{left-kept}
use Rattle.engine.proofs.Within.{lies}
use Rattle.checker.specs.declared.call.Call.{Call}
use Rattle.checker.specs.declared.call.Call.TheVariants.{Fill, Run}
use Rattle.checker.specs.Calls.{after_calls, booked, AsBooked}
use Rattle.checker.specs.Memories.{is_sized, filled, run_memory}

-- ── the memory and the book ──

-- as long as each other, and the same at every place of a read-only buffer
record Agree (p : List Record) (m k : List ℕ) : Type 0 where
  long : length m ≡ length k
  same : (i : ℕ) → ReadOnlyAt p i → get_or m i 0 ≡ get_or k i 0

module _ (p : List Record) where
  agree_written : (m k : List ℕ) (a : ℕ) (bs : List ℕ) → a + length bs ≤ length m → Agree p m k → Agree p (written m a bs) (written k a bs)
  agree_written m k a bs fits g =
      let long = g.long in
      let fits-too : a + length bs ≤ length k = omega arith in
      record {
        long = written-long m a bs fits ∙ long ∙ sym (written-long k a bs fits-too);
        same = λ i r. ⊎_elim
            (λ before. written-before m a bs fits i before ∙ g.same i r ∙ sym (written-before k a bs fits-too i before))
            (λ from. ⊎_elim
            (λ here. written-here m a bs fits i from here ∙ sym (written-here k a bs fits-too i from here))
            (λ behind. written_behind m a bs fits i behind ∙ g.same i r ∙ sym (written_behind k a bs fits-too i behind))
            (cases_lt i (a + length bs)))
            (cases_lt i a);
      }

  -- a choice that the memory and the book make alike
  agree_cond : (b c : Bool) (m m' k k' : List ℕ) → b ≡ c → (b ≡ true → Agree p m k) → (b ≡ false → Agree p m' k') → Agree p (cond b m m') (cond c k k')
  agree_cond true true m m' k k' e yes-so not_so = yes-so refl
  agree_cond false false m m' k k' e yes-so not_so = not_so refl
  agree_cond true false m m' k k' e yes-so not_so = let z : ◌≡◌ {A = ℕ} 0 1 = cc in absurd (omega arith)
  agree_cond false true m m' k k' e yes-so not_so = let z : ◌≡◌ {A = ℕ} 0 1 = cc in absurd (omega arith)

  agree_filled : (m k : List ℕ) (b offset : ℕ) (bs : List ℕ) → Agree p m k → Agree p (filled p m b offset bs) (filled p k b offset bs)
  agree_filled m k b offset bs g =
      agree_cond (is_sized p m) (is_sized p k) _ m _ k (ap (λ n. eqb n (total_size p)) g.long)
      (λ sized. agree_cond (is_within p b offset (length bs)) (is_within p b offset (length bs)) _ m _ k refl
      (λ within.
      let whole = eqb-true (length m) (total_size p) sized in
      let inside = (lies p b offset (length bs) within).inside in
      agree_written m k (start_of p b + offset) bs (omega arith) g)
      (λ _. g))
      (λ _. g)

  module _ (valid : Valid p) where
    kept-by-run : (words m : List ℕ) → Keeps p m (run_memory p words m)
    kept-by-run words m =
        ⊎_elim
        (λ sized. subst (Keeps p m) (sym (cond-true (is_sized p m) (left_by (run_of p words m) m) m sized)) (left-kept p valid words m (eqb-true (length m) (total_size p) sized)))
        (λ other. subst (Keeps p m) (sym (cond-false (is_sized p m) (left_by (run_of p words m) m) m other)) (keeps_same p m m refl))
        (cases_Bool (is_sized p m))

    agree_run : (words m k : List ℕ) → Agree p m k → Agree p (run_memory p words m) k
    agree_run words m k g =
        let kept = kept-by-run words m in
        record { long = kept.long ∙ g.long; same = λ i r. kept.read_only i r ∙ g.same i r }

    agree_all : (cs : List Call) (m k : List ℕ) → Agree p m k → Agree p (after_calls p cs m) (booked p cs k)
    agree_all [] m k g = g
    agree_all (Fill b offset bytes ∷ cs) m k g = agree_all cs (filled p m b offset bytes.now) (filled p k b offset bytes.now) (agree_filled m k b offset bytes.now g)
    agree_all (Run words ∷ cs) m k g = agree_all cs (run_memory p words m) k (agree_run words m k g)

    pub as_booked : (cs : List Call) (m : List ℕ) → AsBooked p cs m (after_calls p cs m)
    as_booked cs m = (agree_all cs m m (record { long = refl; same = λ i r. refl })).same
