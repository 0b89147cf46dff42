-- The machine: its registers, what one step does, when it is stuck, and free runs, in which each load may bring any bytes.
use Rattle.std.specs.Prelude.{◌≡◌, ℕ, suc, ◌+◌, ◌%◌, ◌^◌, ◌<◌, ◌≤◌, cond, ◌⊎◌, List, [], ◌∷◌, ◌++◌, Some, None, Option, ◌==◌, ◌≢◌}
use Rattle.words.specs.Widths.{bits_of, bytes_of}
use Rattle.words.specs.Words.{Word, result_of, Sticks, Related}
use Rattle.words.specs.declared.operation.Operation.{Operation}
use Rattle.words.specs.declared.width.Width.{Width}
use Rattle.rule.specs.declared.instruction.Condition.{Condition}
use Rattle.rule.specs.declared.record.Item.{Item}
use Rattle.rule.specs.declared.record.Item.TheVariants.{Blank, Buffer, Instruction}
use Rattle.rule.specs.declared.instruction.Instruction.TheVariants.{Mov, Alu, Load, Store, Jump, Branch, Ret}
use Rattle.rule.specs.declared.instruction.Operand.{Operand}
use Rattle.rule.specs.declared.instruction.Operand.TheVariants.{Register, Constant}
use Rattle.rule.specs.declared.record.Record.{Record}
use Rattle.rule.specs.Instructions.{relation_of}
use Rattle.machine.specs.Tables.{code_length, item_at, size_at}

-- what each register has, if it is set
abbrev pub Regs : Type 0
Regs = ℕ → Option ℕ

abbrev pub put : Regs → ℕ → ℕ → Regs
put r t w j = cond (j == t) (Some w) (r j)

abbrev pub value : Regs → Operand → Option ℕ
value r (Register k) = r k
value r (Constant c) = Some c

-- the bytes of a width from place i on lie in the buffer, and the place is a multiple of the width
pub record Reaches (p : List Record) (b : ℕ) (w : Width) (i : ℕ) : Type 0 where
  pub inside : i + bytes_of w ≤ size_at p b
  pub even : i % bytes_of w ≡ 0

-- one step of the instruction at k, from the registers r, to the instruction j with the registers q. What a load brings
-- is any word of its width, which is what any bytes of that width make; what a store leaves in a buffer does not matter here
pub data Does (p : List Record) (k : ℕ) (r : Regs) (j : ℕ) (q : Regs) : Item → Type 0 where
  mov : {t : ℕ} {s : Operand} (x : ℕ) → value r s ≡ Some x → j ≡ k + 1 → q ≡ put r t x → Does p k r j q (Instruction (Mov t s))
  alu : {op : Operation} {t : ℕ} {s : Operand} (x y : ℕ) → r t ≡ Some x → value r s ≡ Some y → (Sticks op y → ⊥) → j ≡ k + 1 → q ≡ put r t (result_of op x y) → Does p k r j q (Instruction (Alu op t s))
  load : {w : Width} {t b : ℕ} {s : Operand} (i x : ℕ) → value r s ≡ Some i → Reaches p b w i → x < 2 ^ bits_of w → j ≡ k + 1 → q ≡ put r t x → Does p k r j q (Instruction (Load w t b s))
  store : {w : Width} {b : ℕ} {s : Operand} {t : ℕ} (i x : ℕ) → value r s ≡ Some i → r t ≡ Some x → Reaches p b w i → j ≡ k + 1 → q ≡ r → Does p k r j q (Instruction (Store w b s t))
  jump : {to : ℕ} → j ≡ to → q ≡ r → Does p k r j q (Instruction (Jump to))
  taken : {c : Condition} {l : ℕ} {s : Operand} {to : ℕ} (x y : ℕ) → r l ≡ Some x → value r s ≡ Some y → Related (relation_of c) x y → j ≡ to → q ≡ r → Does p k r j q (Instruction (Branch c l s to))
  missed : {c : Condition} {l : ℕ} {s : Operand} {to : ℕ} (x y : ℕ) → r l ≡ Some x → value r s ≡ Some y → (Related (relation_of c) x y → ⊥) → j ≡ k + 1 → q ≡ r → Does p k r j q (Instruction (Branch c l s to))

-- the word that an instruction returns
pub data Gives (r : Regs) (x : ℕ) : Item → Type 0 where
  ret : r 0 ≡ Some x → Gives r x (Instruction Ret)

-- an instruction can be carried out: it returns, or it steps
abbrev pub Moves : List Record → ℕ → Regs → Item → Type 0
Moves p k r i = ((x : ℕ) × Gives r x i) ⊎ ((j : ℕ) × (q : Regs) × Does p k r j q i)

-- ── when it cannot ──

-- the registers that an instruction reads, in the order written
abbrev pub register_in : Operand → List ℕ
register_in (Register k) = k ∷ []
register_in (Constant c) = []

abbrev pub reads : Item → List ℕ
reads Blank = []
reads (Buffer size mode) = []
reads (Instruction (Mov t s)) = register_in s
reads (Instruction (Alu op t s)) = t ∷ register_in s
reads (Instruction (Load w t b s)) = register_in s
reads (Instruction (Store w b s t)) = register_in s ++ t ∷ []
reads (Instruction (Jump to)) = []
reads (Instruction (Branch c l s to)) = l ∷ register_in s
reads (Instruction Ret) = 0 ∷ []

-- the register is one of them
abbrev pub In : ℕ → List ℕ → Type 0
In k [] = ⊥
In k (x ∷ xs) = (k ≡ x) ⊎ In k xs

-- an unset register is read, the operation has no result, or the access leaves its buffer or is askew
pub data Stuck (p : List Record) (r : Regs) : Item → Type 0 where
  unset : {i : Item} (k : ℕ) → In k (reads i) → r k ≡ None → Stuck p r i
  no_result : {op : Operation} {t : ℕ} {s : Operand} (y : ℕ) → value r s ≡ Some y → Sticks op y → Stuck p r (Instruction (Alu op t s))
  load_beyond : {w : Width} {t b : ℕ} {s : Operand} (i : ℕ) → value r s ≡ Some i → size_at p b < i + bytes_of w → Stuck p r (Instruction (Load w t b s))
  load_askew : {w : Width} {t b : ℕ} {s : Operand} (i : ℕ) → value r s ≡ Some i → (i % bytes_of w ≢ 0) → Stuck p r (Instruction (Load w t b s))
  store_beyond : {w : Width} {b : ℕ} {s : Operand} {t : ℕ} (i : ℕ) → value r s ≡ Some i → size_at p b < i + bytes_of w → Stuck p r (Instruction (Store w b s t))
  store_askew : {w : Width} {b : ℕ} {s : Operand} {t : ℕ} (i : ℕ) → value r s ≡ Some i → (i % bytes_of w ≢ 0) → Stuck p r (Instruction (Store w b s t))

-- ── free runs ──

-- n steps from the registers `from` at instruction 0 lead to instruction k with the registers r
pub data Run (p : List Record) (from : Regs) : ℕ → ℕ → Regs → Type 0 where
  start : Run p from 0 0 from
  more : {n k j : ℕ} {r q : Regs} → Run p from n k r → k < code_length p → Does p k r j q (item_at p k) → Run p from (suc n) j q

-- the four input words
pub record Inputs : Type 0 where
  pub first : ℕ
  pub second : ℕ
  pub third : ℕ
  pub fourth : ℕ
  pub first_fits : Word first
  pub second_fits : Word second
  pub third_fits : Word third
  pub fourth_fits : Word fourth

-- the registers 1 to 4 have the four words, and no other is set
abbrev pub entry : Inputs → Regs
entry x k = cond (k == 1) (Some x.first) (cond (k == 2) (Some x.second) (cond (k == 3) (Some x.third) (cond (k == 4) (Some x.fourth) None)))

-- a state that a free run from some inputs reaches
pub record Reached (p : List Record) : Type 0 where
  pub from : Inputs
  pub steps : ℕ
  pub at : ℕ
  pub regs : Regs
  pub run : Run p (entry from) steps at regs

-- every free run can go on until it returns: at each state that it reaches there is an instruction, which is not stuck
-- and can be carried out
abbrev pub NeverStuck : List Record → Type 0
NeverStuck p = (s : Reached p) → ∥ (s.at < code_length p) × (Stuck p s.regs (item_at p s.at) → ⊥) × Moves p s.at s.regs (item_at p s.at) ∥₁

-- with the step that returns, every free run has as many steps at most as there are instructions
abbrev pub Ends : List Record → Type 0
Ends p = (s : Reached p) → s.steps + 1 ≤ code_length p

-- every word returned
abbrev pub Returns : (p : List Record) → (ℕ → Type 0) → Type 0
Returns p P = (s : Reached p) (w : ℕ) → Gives s.regs w (item_at p s.at) → P w

-- from any inputs some free run returns
abbrev pub Completes : List Record → Type 0
Completes p = (x : Inputs) → ∥ ((s : Reached p) × (w : ℕ) × (s.from ≡ x) × Gives s.regs w (item_at p s.at)) ∥₁
