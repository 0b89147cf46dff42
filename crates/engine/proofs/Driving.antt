-- One step of a run by its value.
use Rattle.std.proofs.Common.{◌≡◌, ℕ, suc, ◌+◌, ◌-◌, ◌<◌, not, List, length, get_or, take, Some, None, Option, sym, refl, ap, ◌∙◌, subst, arith}
use Rattle.std.proofs.lemmas.List.{get_or-take, length-take-le}
use Rattle.std.proofs.lemmas.List.Sums.{prefix_len-le-length}
use Rattle.rule.specs.declared.instruction.Instruction.{Instruction as Instructed}
use Rattle.rule.specs.declared.instruction.Instruction.TheVariants.{Mov, Alu, Load, Store, Jump, Branch, Ret}
use Rattle.rule.specs.declared.record.Item.{Item}
use Rattle.rule.specs.declared.record.Item.TheVariants.{Blank, Buffer, Instruction}
use Rattle.rule.specs.declared.record.Record.{Record}
use Rattle.rule.specs.Records.{blank, is_blank}
use Rattle.machine.specs.Tables.{behind, code_length, item_at}
use Rattle.machine.specs.Valid.{Valid, ValidItem}
use Rattle.machine.proofs.Moving.{forward}
use Rattle.engine.specs.declared.next.Next.{Next}
use Rattle.engine.specs.declared.next.Next.TheVariants as next
use Rattle.engine.specs.Buffers.{HasBuffer}
use Rattle.engine.specs.Steps.{and_then, RegisterList, register_of, Step, step, step_of, led, stepped, onward, run_from}
use Rattle.engine.specs.Steps.Leads.{Go}
use Rattle.engine.proofs.Moves.{step_does}

-- the instructions alone
abbrev pub code_of : List Record → List Record
code_of p = take (code_length p) (behind p)

pub code-long : (p : List Record) → length (code_of p) ≡ code_length p
code-long p = length-take-le (code_length p) (behind p) (prefix_len-le-length (λ (r : Record). not (is_blank r.item)) (behind p))

-- what is no instruction makes no step
no-step : (p : List Record) (k : ℕ) (i : Item) (r : RegisterList) (m : List ℕ) → ((x : Instructed ℕ) → i ≡ Instruction x → ⊥) → step_of p k i r m ≡ None
no-step p k (Instruction x) r m h = absurd (h x refl)
no-step p k (Buffer size mode) r m h = refl
no-step p k Blank r m h = refl

has_buffer : (p : List Record) (n k : ℕ) (i : Instructed ℕ) → ValidItem p n k (Instruction i) → HasBuffer p i
has_buffer p n k (Mov t s) v = tt
has_buffer p n k (Alu op t s) v = tt
has_buffer p n k (Load w t b s) v = v.1
has_buffer p n k (Store w b s t) v = v.0
has_buffer p n k (Jump to) v = tt
has_buffer p n k (Branch c l s to) v = tt
has_buffer p n k Ret v = tt

-- after n of N steps one more is taken
run-next : (p : List Record) (N n k : ℕ) (r : RegisterList) (m : List ℕ) (o : Option Step) → n < N → step_of p k (item_at p k) r m ≡ o → run_from p (N - n) n k r m ≡ and_then o (λ s. onward (run_from p (N - (n + 1))) n s.next s.registers s.memory)
unfolding run_from
run-next p N n k r m o h e =
    let left : N - n ≡ suc (N - (n + 1)) = omega arith in
    ap (λ f. run_from p f n k r m) left ∙ ap (λ (z : Option Step). and_then z (λ s. onward (run_from p (N - (n + 1))) n s.next s.registers s.memory)) e

-- after n steps the one at k, from the registers r and the memory m
module _ (p cs : List Record) (code : cs ≡ code_of p) (n k : ℕ) (r : RegisterList) (m : List ℕ) (count : n < length cs) (inside : k < code_length p) where
  left : n < code_length p
  left = omega (arith, ap length code, code-long p)

  read : (get_or cs k blank).item ≡ item_at p k
  read = ap (λ (xs : List Record). (get_or xs k blank).item) code ∙ ap (λ (x : Record). x.item) (get_or-take (code_length p) (behind p) k blank inside)

  -- the buffer that an instruction of a valid rule names is one of the rule's
  pub has_buffer_here : Valid p → (i : Instructed ℕ) → (get_or cs k blank).item ≡ Instruction i → HasBuffer p i
  has_buffer_here valid i is = has_buffer p (code_length p) k i (subst (ValidItem p (code_length p) k) (sym read ∙ is) (valid.items k inside))

  -- a run goes no further where there is no instruction
  pub stops : ((x : Instructed ℕ) → (get_or cs k blank).item ≡ Instruction x → ⊥) → run_from p (code_length p - n) n k r m ≡ None
  stops none = run-next p (code_length p) n k r m None left (ap (λ i. step_of p k i r m) (sym read) ∙ no-step p k (get_or cs k blank).item r m none)

  -- and where there is one, as what came of it says
  module _ (i : Instructed ℕ) (is : (get_or cs k blank).item ≡ Instruction i) (o : Option Next) (r' : RegisterList) (m' : List ℕ) (came : stepped k o r' m' ≡ step_of p k (Instruction i) r m) where
    step_came : (z : Option Next) → o ≡ z → step_of p k (item_at p k) r m ≡ stepped k z r' m'
    step_came z e = ap (λ i. step_of p k i r m) (sym read ∙ is) ∙ sym came ∙ ap (λ z. stepped k z r' m') e

    pub sticks : o ≡ None → run_from p (code_length p - n) n k r m ≡ None
    sticks e = run-next p (code_length p) n k r m None left (step_came None e)

    pub goes-out : (x : ℕ) → o ≡ Some (next.Return x) → run_from p (code_length p - n) n k r m ≡ Some (record { answer = x; steps = n + 1; memory = m' })
    goes-out x e = run-next p (code_length p) n k r m (stepped k (Some (next.Return x)) r' m') left (step_came (Some (next.Return x)) e)

    -- on to the instruction j
    pub record On (j : ℕ) : Type 0 where
      pub rest : run_from p (code_length p - n) n k r m ≡ run_from p (code_length p - (n + 1)) (n + 1) j r' m'
      pub within : j < code_length p

    pub goes_on : (x : Next) (j : ℕ) → Valid p → length r ≡ 8 → o ≡ Some x → led k x ≡ Go j → On j
    goes_on x j valid eight e to =
        let went : step_of p k (item_at p k) r m ≡ Some (step (Go j) r' m') = step_came (Some x) e ∙ ap (λ l. Some (step l r' m')) to in
        let d = step_does p k r m eight (code_length p) (item_at p k) j r' m' (valid.items k inside) went in
        record {
          rest = run-next p (code_length p) n k r m (Some (step (Go j) r' m')) left went;
          within = (forward p k (register_of r) j (register_of r') valid inside d.0).1;
        }
