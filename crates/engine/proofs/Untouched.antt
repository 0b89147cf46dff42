-- No run touches a read-only buffer.
use Rattle.std.proofs.Common.{◌≡◌, ℕ, zero, suc, ◌+◌, ◌<◌, List, length, Some, None, Option, sym, refl, ap, ◌∙◌, arith}
use Rattle.std.proofs.lemmas.Option.{same_Some}
use Rattle.rule.specs.declared.record.Record.{Record}
use Rattle.machine.specs.Memory.{total_size}
use Rattle.machine.specs.Tables.{code_length, item_at}
use Rattle.machine.specs.Valid.{Valid}
use Rattle.machine.proofs.Keeping.{Keeps, keeps_same, keeps_more, keeps_step}
use Rattle.machine.proofs.Moving.{forward}
use Rattle.engine.specs.Steps.Leads.{Go, Return}
use Rattle.engine.specs.Steps.{Leads, RegisterList, register_of, step, step_of, End, onward, run_from, first_registers, run_of, left_by}
use Rattle.engine.proofs.Moves.{and_then_parts, step_does, step_gives, step-long}

module _ (p : List Record) (valid : Valid p) where
  -- from instruction k with the registers r and a memory of the rule's size
  record From (k : ℕ) (r : RegisterList) (m : List ℕ) : Type 0 where
    inside : k < code_length p
    eight : length r ≡ 8
    sized : length m ≡ total_size p

  after_next : (fuel n k : ℕ) (r : RegisterList) (m : List ℕ) (e : End) → From k r m →
      ((n' j : ℕ) (r' : RegisterList) (o : List ℕ) → From j r' o → run_from p fuel n' j r' o ≡ Some e → Keeps p o e.memory) →
      (i : Leads) (r' : RegisterList) (o : List ℕ) → step_of p k (item_at p k) r m ≡ Some (step i r' o) → onward (run_from p fuel) n i r' o ≡ Some e → Keeps p m e.memory
  after_next fuel n k r m e from further (Go j) r' o came ends =
      let d = step_does p k r m from.eight (code_length p) (item_at p k) j r' o (valid.items k from.inside) came in
      let on = forward p k (register_of r) j (register_of r') valid from.inside d.0 in
      let kept = keeps_step p (code_length p) k (register_of r) m j (register_of r') o (item_at p k) (valid.items k from.inside) from.sized d.0 d.1 in
      keeps_more p m o e.memory kept
      (further (n + 1) j r' o (record { inside = on.1; eight = step-long p k r m from.eight (item_at p k) (step (Go j) r' o) came; sized = kept.long ∙ from.sized }) ends)
  after_next fuel n k r m e from further (Return w) r' o came ends =
      let same = (step_gives p k r m from.eight (item_at p k) w r' o came).1 in
      keeps_same p m e.memory (sym (ap (λ (x : End). x.memory) (same_Some _ e ends)) ∙ same)

  run_keeps : (fuel n k : ℕ) (r : RegisterList) (m : List ℕ) (e : End) → From k r m → run_from p fuel n k r m ≡ Some e → Keeps p m e.memory
  unfolding run_from
  run_keeps zero n k r m e from ends = let z : ◌≡◌ {A = ℕ} 0 1 = cc in absurd (omega arith)
  run_keeps (suc fuel) n k r m e from ends =
      let a = and_then_parts (step_of p k (item_at p k) r m) _ e ends in
      after_next fuel n k r m e from (λ n' j r' o f h. run_keeps fuel n' j r' o e f h) a.0.next a.0.registers a.0.memory a.1 a.2

  left_keeps : (m : List ℕ) (o : Option End) → ((e : End) → o ≡ Some e → Keeps p m e.memory) → Keeps p m (left_by o m)
  left_keeps m None h = keeps_same p m m refl
  left_keeps m (Some e) h = h e refl

  -- whatever the four words
  pub left-kept : (words m : List ℕ) → length m ≡ total_size p → Keeps p m (left_by (run_of p words m) m)
  left-kept words m sized = left_keeps m (run_of p words m) (λ e h. run_keeps (code_length p) 0 0 (first_registers words) m e (record { inside = valid.some; eight = refl; sized = sized }) h)
