-- The parts of a table of records: the buffers in front, and the instructions after them as far as the first blank.
use Rattle.std.specs.Prelude.{ℕ, Bool, not, List, get_or, drop, slice_index_or}
use Rattle.std.specs.List.{prefix_len}
use Rattle.rule.specs.declared.record.Item.{Item}
use Rattle.rule.specs.declared.record.Record.{Record}
use Rattle.rule.specs.Records.{blank, is_buffer, is_blank, size_in, writable_in}

-- how many buffers stand in front
abbrev pub buffer_count : List Record → ℕ
buffer_count p = prefix_len (λ (r : Record). is_buffer r.item) p

-- how many records stand before the first blank
abbrev pub filled_count : List Record → ℕ
filled_count p = prefix_len (λ (r : Record). not (is_blank r.item)) p

-- the records after the buffers
abbrev pub behind : List Record → List Record
behind p = drop (buffer_count p) p

-- how many instructions they begin with
abbrev pub code_length : List Record → ℕ
code_length p = filled_count (behind p)

-- instruction k
abbrev pub code_at : List Record → ℕ → Record
code_at p k = slice_index_or (behind p) k blank

abbrev pub item_at : List Record → ℕ → Item
item_at p k = (code_at p k).item

-- the size of a buffer, and whether a rule may store into it
abbrev pub size_at : List Record → ℕ → ℕ
size_at p b = size_in (get_or p b blank).item

abbrev pub writable_at : List Record → ℕ → Bool
writable_at p b = writable_in (get_or p b blank).item
