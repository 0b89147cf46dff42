-- What fills and runs answer, and what they make of the memory.
use Prim.{Unit}
use Rattle.std.specs.Prelude.{◌≡◌, ℕ, Bool, true, false, cond, ◌&&◌, List, length, Some, None, Ok, Err, Option, Result, ◌==◌, nat_lt}
use Rattle.std.specs.Borrow.{Bor}
use Rattle.rule.specs.declared.record.Record.{Record}
use Rattle.machine.specs.Memory.{start_of, total_size, part, Finishes, Free}
use Rattle.machine.specs.Tables.{buffer_count, size_at}
use Rattle.engine.specs.declared.ran.Ran.{Ran}
use Rattle.engine.specs.Fills.{is_within, filled_in}
use Rattle.engine.specs.Steps.{end, left_by, run_of}
use Rattle.checker.specs.declared.refusal.FillRefusal.{FillRefusal}
use Rattle.checker.specs.declared.refusal.FillRefusal.TheVariants.{WrongMemory, NoPlace}

-- has the memory the size of all buffers?
abbrev pub is_sized : List Record → List ℕ → Bool
is_sized p m = length m == total_size p

-- the bytes of a buffer, where the memory has the size and the rule such a buffer
abbrev pub Shows : List Record → List ℕ → ℕ → Option (Bor (List ℕ)) → Type 0
Shows p m b None = (is_sized p m && nat_lt b (buffer_count p)) ≡ false
Shows p m b (Some r) = ((is_sized p m && nat_lt b (buffer_count p)) ≡ true) × (r.now ≡ part m (start_of p b) (size_at p b))

-- ── fills ──

abbrev pub fill_answer : List Record → List ℕ → ℕ → ℕ → List ℕ → Result Unit FillRefusal
fill_answer p m b offset bytes = cond (is_sized p m) (cond (is_within p b offset (length bytes)) (Ok tt) (Err NoPlace)) (Err WrongMemory)

-- a fill that is not refused writes its bytes, and a refused one leaves the memory
abbrev pub filled : List Record → List ℕ → ℕ → ℕ → List ℕ → List ℕ
filled p m b offset bytes = cond (is_sized p m) (filled_in p m b offset bytes) m

-- ── runs ──

-- a run from four words on the memory m, which is left as o
pub record Answered (p : List Record) (words m : List ℕ) (r : Ran) (o : List ℕ) : Type 0 where
  pub sized : is_sized p m ≡ true
  -- the answer, the steps and the memory by their values
  pub value : run_of p words m ≡ Some (end r o)
  -- they are those of a run of the machine
  pub finishes : Finishes p words m r.answer r.steps o
  -- which is one of the free runs
  pub free : Free p words r.answer r.steps

pub record Declined (p : List Record) (m o : List ℕ) : Type 0 where
  pub unsized : is_sized p m ≡ false
  pub same : o ≡ m

-- a refused run leaves the memory
abbrev pub run_memory : List Record → List ℕ → List ℕ → List ℕ
run_memory p words m = cond (is_sized p m) (left_by (run_of p words m) m) m
