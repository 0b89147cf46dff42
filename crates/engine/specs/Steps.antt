-- One instruction and whole runs, by their values. Nothing comes of a machine that is stuck.
use Rattle.std.specs.Prelude.{◌≡◌, ℕ, zero, suc, ◌+◌, ◌%◌, Bool, false, cond, not, ◌&&◌, List, [], ◌∷◌, length, Some, None, Option, ◌==◌, nat_le, nat_lt, slice_index, slice_index_or, slice_set}
use Rattle.words.specs.Widths.{bytes_of}
use Rattle.words.specs.Words.{Word, result_of}
use Rattle.words.specs.declared.operation.Operation.{Operation}
use Rattle.words.specs.declared.operation.Operation.TheVariants.{Add, Sub, Mul, Div, And, Or, Xor, Shl, Shr}
use Rattle.words.specs.declared.width.Width.{Width}
use Rattle.rule.specs.declared.instruction.Condition.{Condition}
use Rattle.rule.specs.declared.instruction.Condition.TheVariants.{Equal, Unequal, Less, LessOrEqual}
use Rattle.rule.specs.declared.record.Item.{Item}
use Rattle.rule.specs.declared.record.Item.TheVariants.{Blank, Buffer, Instruction}
use Rattle.rule.specs.declared.instruction.Instruction.TheVariants.{Mov, Alu, Load, Store, Jump, Branch, Ret}
use Rattle.rule.specs.declared.instruction.Operand.{Operand}
use Rattle.rule.specs.declared.instruction.Operand.TheVariants.{Register, Constant}
use Rattle.rule.specs.declared.record.Record.{Record}
use Rattle.machine.specs.Memory.{start_of, word_of, bytes_in, part, written}
use Rattle.machine.specs.Tables.{code_length, item_at, size_at}
use Rattle.engine.specs.declared.next.Next.{Next}
use Rattle.engine.specs.declared.next.Next.TheVariants as next
use Rattle.engine.specs.declared.ran.Ran.{Ran}

abbrev pub and_then : {X Y : Type 0} → Option X → (X → Option Y) → Option Y
and_then None f = None
and_then (Some x) f = f x

-- the registers, in a list of eight
abbrev pub RegisterList : Type 0
RegisterList = List (Option ℕ)

abbrev pub register_of : RegisterList → ℕ → Option ℕ
register_of r k = slice_index_or r k None

abbrev pub fetched : RegisterList → Operand → Option ℕ
fetched r (Register k) = register_of r k
fetched r (Constant c) = Some c

-- has the operation no result at this second operand?
abbrev pub sticks : Operation → ℕ → Bool
sticks Div y = y == 0
sticks Shl y = nat_lt 63 y
sticks Shr y = nat_lt 63 y
sticks Add y = false
sticks Sub y = false
sticks Mul y = false
sticks And y = false
sticks Or y = false
sticks Xor y = false

abbrev pub result_in : Operation → ℕ → ℕ → Option ℕ
result_in op x y = cond (sticks op y) None (Some (result_of op x y))

-- the place in the memory of the bytes at index i of a buffer
abbrev pub place_in : List Record → ℕ → Width → ℕ → Option ℕ
place_in p b w i = cond (nat_le (i + bytes_of w) (size_at p b) && i % bytes_of w == 0) (Some (start_of p b + i)) None

abbrev pub is_related : Condition → ℕ → ℕ → Bool
is_related Equal x y = x == y
is_related Unequal x y = not (x == y)
is_related Less x y = nat_lt x y
is_related LessOrEqual x y = nat_le x y

-- the word that an operation, and a load, makes for its target
abbrev pub alu_of : RegisterList → Operation → ℕ → Operand → Option ℕ
alu_of r op t s = and_then (register_of r t) (λ x. and_then (fetched r s) (λ y. result_in op x y))

abbrev pub load_of : List Record → RegisterList → List ℕ → Width → ℕ → Operand → Option ℕ
load_of p r m w b s = and_then (fetched r s) (λ i. and_then (place_in p b w i) (λ a. Some (word_of (part m a (bytes_of w)))))

-- the memory after a store
abbrev pub store_of : List Record → RegisterList → List ℕ → Width → ℕ → Operand → ℕ → Option (List ℕ)
store_of p r m w b s t = and_then (fetched r s) (λ i. and_then (register_of r t) (λ x. and_then (place_in p b w i) (λ a. Some (written m a (bytes_in (bytes_of w) x)))))

-- where a branch at k leads
abbrev pub branch_of : RegisterList → ℕ → Condition → ℕ → Operand → ℕ → Option ℕ
branch_of r k c l s to = and_then (register_of r l) (λ x. and_then (fetched r s) (λ y. Some (cond (is_related c x y) to (k + 1))))

-- where a step leads: to an instruction, or out of the rule with a word
pub data Leads : Type 0 where
  Go : ℕ → Leads
  Return : ℕ → Leads

-- what a step leaves
pub record Step : Type 0 where
  pub next : Leads
  pub registers : RegisterList
  pub memory : List ℕ

abbrev pub step : Leads → RegisterList → List ℕ → Step
step n r m = record { next = n; registers = r; memory = m }

abbrev pub goes : ℕ → RegisterList → List ℕ → Option Step
goes k r m = Some (step (Go k) r m)

-- a word for register t, if there is one
abbrev pub puts : ℕ → ℕ → RegisterList → List ℕ → Option ℕ → Option Step
puts k t r m v = and_then v (λ x. goes (k + 1) (slice_set r t (Some x)) m)

-- a store at k
abbrev pub stores : List Record → ℕ → Width → ℕ → Operand → ℕ → RegisterList → List ℕ → Option Step
stores p k w b s t r m = and_then (store_of p r m w b s t) (λ n. goes (k + 1) r n)

-- a branch at k
abbrev pub branches : ℕ → Condition → ℕ → Operand → ℕ → RegisterList → List ℕ → Option Step
branches k c l s to r m = and_then (branch_of r k c l s to) (λ j. goes j r m)

-- one instruction, at k
abbrev pub step_of : List Record → ℕ → Item → RegisterList → List ℕ → Option Step
step_of p k (Instruction (Mov t s)) r m = puts k t r m (fetched r s)
step_of p k (Instruction (Alu op t s)) r m = puts k t r m (alu_of r op t s)
step_of p k (Instruction (Load w t b s)) r m = puts k t r m (load_of p r m w b s)
step_of p k (Instruction (Store w b s t)) r m = stores p k w b s t r m
step_of p k (Instruction (Jump to)) r m = goes to r m
step_of p k (Instruction (Branch c l s to)) r m = branches k c l s to r m
step_of p k (Instruction Ret) r m = and_then (register_of r 0) (λ x. Some (step (Return x) r m))
step_of p k (Buffer size mode) r m = None
step_of p k Blank r m = None

-- what is answered and left at k, as a step
abbrev pub led : ℕ → Next → Leads
led k next.Onward = Go (k + 1)
led k (next.Jump to) = Go to
led k (next.Return x) = Return x

abbrev pub stepped : ℕ → Option Next → RegisterList → List ℕ → Option Step
stepped k None r m = None
stepped k (Some n) r m = Some (step (led k n) r m)

-- ── whole runs ──

-- what a run leaves: the word returned, the steps with the one that returned it, and the memory
pub record End : Type 0 where
  pub answer : ℕ
  pub steps : ℕ
  pub memory : List ℕ

-- after so many steps and one more: on to an instruction, or out of the rule
abbrev pub onward : (ℕ → ℕ → RegisterList → List ℕ → Option End) → ℕ → Leads → RegisterList → List ℕ → Option End
onward further steps (Go j) r m = further (steps + 1) j r m
onward further steps (Return x) r m = Some (record { answer = x; steps = steps + 1; memory = m })

-- at most n further steps, after so many, from instruction k
unfoldable pub run_from : List Record → ℕ → ℕ → ℕ → RegisterList → List ℕ → Option End
run_from p zero steps k r m = None
run_from p (suc n) steps k r m = and_then (step_of p k (item_at p k) r m) (λ s. onward (run_from p n) steps s.next s.registers s.memory)

-- the four words are in r1 to r4, and no other register is set
abbrev pub first_registers : List ℕ → RegisterList
first_registers words = None ∷ Some (slice_index words 0) ∷ Some (slice_index words 1) ∷ Some (slice_index words 2) ∷ Some (slice_index words 3) ∷ None ∷ None ∷ None ∷ []

-- what the list of the four words is
pub record FourWords (words : List ℕ) : Type 0 where
  pub four : length words ≡ 4
  pub first : Word (slice_index words 0)
  pub second : Word (slice_index words 1)
  pub third : Word (slice_index words 2)
  pub fourth : Word (slice_index words 3)

-- as many steps as there are instructions
abbrev pub run_of : List Record → List ℕ → List ℕ → Option End
run_of p words m = run_from p (code_length p) 0 0 (first_registers words) m

abbrev pub end : Ran → List ℕ → End
end r m = record { answer = r.answer; steps = r.steps; memory = m }

-- what is answered and left by a run, as its end
abbrev pub ended : Option Ran → List ℕ → Option End
ended None m = None
ended (Some r) m = Some (end r m)

-- the memory at the end of a run
abbrev pub left_by : Option End → List ℕ → List ℕ
left_by None m = m
left_by (Some e) m = e.memory
