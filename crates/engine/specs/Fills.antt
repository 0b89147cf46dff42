-- Bytes that are filled into a buffer.
use Rattle.std.specs.Prelude.{ℕ, ◌+◌, Bool, cond, ◌&&◌, List, length, Some, None, Option, nat_le, nat_lt}
use Rattle.rule.specs.declared.record.Record.{Record}
use Rattle.machine.specs.Memory.{start_of, written}
use Rattle.machine.specs.Tables.{buffer_count, size_at}

-- is there such a buffer, and do so many bytes at the offset lie in it?
abbrev pub is_within : List Record → ℕ → ℕ → ℕ → Bool
is_within p b offset n = nat_lt b (buffer_count p) && nat_le (offset + n) (size_at p b)

-- where in the memory they lie then
abbrev pub placed : List Record → ℕ → ℕ → ℕ → Option ℕ
placed p b offset n = cond (is_within p b offset n) (Some (start_of p b + offset)) None

-- where they lie in a buffer, they are written there
abbrev pub filled_in : List Record → List ℕ → ℕ → ℕ → List ℕ → List ℕ
filled_in p m b offset bytes = cond (is_within p b offset (length bytes)) (written m (start_of p b + offset) bytes) m
