-- Lists of fills and runs: what they leave of the memory, and the book by which each read-only byte is known.
use Rattle.std.specs.Prelude.{◌≡◌, ℕ, ◌+◌, cond, ◌&&◌, List, [], ◌∷◌, length, slice_index}
use Rattle.rule.specs.declared.record.Record.{Record}
use Rattle.machine.specs.Memory.{ReadOnlyAt}
use Rattle.engine.specs.Fills.{is_within}
use Rattle.checker.specs.declared.call.Call.{Call}
use Rattle.checker.specs.declared.call.Call.TheVariants.{Fill, Run}
use Rattle.checker.specs.Memories.{is_sized, filled, run_memory}

-- the memory after a call, and after a list of them
abbrev pub after_call : List Record → Call → List ℕ → List ℕ
after_call p (Fill b offset bytes) m = filled p m b offset bytes.now
after_call p (Run words) m = run_memory p words m

abbrev pub after_calls : List Record → List Call → List ℕ → List ℕ
after_calls p [] m = m
after_calls p (c ∷ cs) m = after_calls p cs (after_call p c m)

-- is a call refused? and how many are
abbrev pub refused_one : List Record → Call → List ℕ → ℕ
refused_one p (Fill b offset bytes) m = cond (is_sized p m && is_within p b offset (length bytes.now)) 0 1
refused_one p (Run words) m = cond (is_sized p m) 0 1

abbrev pub refused_of : List Record → List Call → List ℕ → ℕ
refused_of p [] m = 0
refused_of p (c ∷ cs) m = refused_one p c m + refused_of p cs (after_call p c m)

-- the book: it begins as the memory that was lent, a fill that is not refused writes its bytes into it, and a refused
-- fill and every run leave it
abbrev pub booked : List Record → List Call → List ℕ → List ℕ
booked p [] k = k
booked p (Fill b offset bytes ∷ cs) k = booked p cs (filled p k b offset bytes.now)
booked p (Run words ∷ cs) k = booked p cs k

-- each byte of a read-only buffer is the book's
abbrev pub AsBooked : List Record → List Call → List ℕ → List ℕ → Type 0
AsBooked p cs m o = (i : ℕ) → ReadOnlyAt p i → slice_index o i ≡ slice_index (booked p cs m) i
