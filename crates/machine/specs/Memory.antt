-- The memory: the buffers in the order of their declaration, without gaps. What a step reads and leaves of it, and runs.
use Rattle.std.specs.Prelude.{◌≡◌, ℕ, zero, suc, ◌+◌, ◌*◌, ◌/◌, ◌%◌, ◌<◌, ◌≤◌, false, List, [], ◌∷◌, ◌++◌, length, take, drop, Some}
use Rattle.std.specs.List.{sum_by}
use Rattle.words.specs.Widths.{bytes_of}
use Rattle.rule.specs.declared.record.Item.{Item}
use Rattle.rule.specs.declared.record.Item.TheVariants.{Blank, Buffer, Instruction}
use Rattle.rule.specs.declared.instruction.Instruction.TheVariants.{Mov, Alu, Load, Store, Jump, Branch, Ret}
use Rattle.rule.specs.declared.record.Record.{Record}
use Rattle.rule.specs.Records.{size_in}
use Rattle.machine.specs.Machine.{Regs, value, Does, Gives, Inputs, entry, Reached}
use Rattle.machine.specs.Tables.{buffer_count, code_length, item_at, size_at, writable_at}

-- the sizes of all the buffers among records
abbrev pub sizes_of : List Record → ℕ
sizes_of rs = sum_by (λ (r : Record). size_in r.item) rs

-- where buffer b begins, and how long all are
abbrev pub start_of : List Record → ℕ → ℕ
start_of p b = sizes_of (take b p)

abbrev pub total_size : List Record → ℕ
total_size p = start_of p (buffer_count p)

-- the word that bytes make, the lowest first; of what is no byte the low eight bits count
abbrev pub word_of : List ℕ → ℕ
word_of [] = 0
word_of (b ∷ bs) = b % 256 + 256 * word_of bs

-- the n low bytes of a word, the lowest first
abbrev pub bytes_in : ℕ → ℕ → List ℕ
bytes_in zero x = []
bytes_in (suc n) x = (x % 256) ∷ bytes_in n (x / 256)

-- the n bytes from place i on
abbrev pub part : List ℕ → ℕ → ℕ → List ℕ
part m i n = take n (drop i m)

-- the memory with other bytes from place i on
abbrev pub written : List ℕ → ℕ → List ℕ → List ℕ
written m i bs = take i m ++ (bs ++ drop (i + length bs) m)

-- beside a step from the registers r to q: a load brings the bytes that are there, and a store leaves the low bytes of
-- its register; no other instruction touches the memory
abbrev pub Touches : List Record → Regs → List ℕ → Regs → List ℕ → Item → Type 0
Touches p r m q n (Instruction (Load w t b s)) = ((i : ℕ) → value r s ≡ Some i → q t ≡ Some (word_of (part m (start_of p b + i) (bytes_of w)))) × (n ≡ m)
Touches p r m q n (Instruction (Store w b s t)) = (i x : ℕ) → value r s ≡ Some i → r t ≡ Some x → n ≡ written m (start_of p b + i) (bytes_in (bytes_of w) x)
Touches p r m q n (Instruction (Mov t s)) = n ≡ m
Touches p r m q n (Instruction (Alu op t s)) = n ≡ m
Touches p r m q n (Instruction (Jump to)) = n ≡ m
Touches p r m q n (Instruction (Branch c l s to)) = n ≡ m
Touches p r m q n (Instruction Ret) = n ≡ m
Touches p r m q n (Buffer size mode) = n ≡ m
Touches p r m q n Blank = n ≡ m

-- n steps from the registers `from` and the memory `m` lead to instruction k with the registers r and the memory o
pub data Runs (p : List Record) (from : Regs) (m : List ℕ) : ℕ → ℕ → Regs → List ℕ → Type 0 where
  start : Runs p from m 0 0 from m
  more : {n k j : ℕ} {r q : Regs} {a b : List ℕ} → Runs p from m n k r a → k < code_length p → Does p k r j q (item_at p k) → Touches p r a q b (item_at p k) → Runs p from m (suc n) j q b

-- the four words, as a list
abbrev pub words_in : Inputs → List ℕ
words_in x = x.first ∷ x.second ∷ x.third ∷ x.fourth ∷ []

-- a run from four words on the memory m returns w after so many steps, `ret` among them, and leaves the memory o
pub record Finishes (p : List Record) (words m : List ℕ) (w steps : ℕ) (o : List ℕ) : Type 0 where
  pub from : Inputs
  pub words_are : words_in from ≡ words
  pub before : ℕ
  pub at : ℕ
  pub regs : Regs
  pub run : Runs p (entry from) m before at regs o
  pub inside : at < code_length p
  pub gives : Gives regs w (item_at p at)
  pub steps_are : steps ≡ before + 1

-- some free run from the four words returns w after so many steps
pub record Free (p : List Record) (words : List ℕ) (w steps : ℕ) : Type 0 where
  pub state : Reached p
  pub words_are : words_in state.from ≡ words
  pub gives : Gives state.regs w (item_at p state.at)
  pub steps_are : steps ≡ state.steps + 1

-- place i of the memory lies in a read-only buffer
pub record ReadOnlyAt (p : List Record) (i : ℕ) : Type 0 where
  pub buffer : ℕ
  pub there : buffer < buffer_count p
  pub read_only : writable_at p buffer ≡ false
  pub from : start_of p buffer ≤ i
  pub to : i < start_of p buffer + size_at p buffer
