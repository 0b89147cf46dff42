-- The names of a text, by the marks that the code keeps of them.
use Rattle.std.specs.Prelude.{ℕ, ◌-◌, ◌<◌, ◌≤◌, List, map, length, take, drop, slice_index_or}
use Rattle.grammar.specs.Names.{Entry}
use Rattle.reader.specs.declared.names.Mark.{Mark}

abbrev pub entry_of : List ℕ → Mark → Entry
entry_of text m = record { name = take (m.to - m.from) (drop m.from text); number = m.number }

abbrev pub entries_of : List ℕ → List Mark → List Entry
entries_of text ms = map (entry_of text) ms

abbrev pub no_mark : Mark
no_mark = record { from = 0; to = 0; number = 0 }

-- each mark lies in the text
abbrev pub Within : List ℕ → List Mark → Type 0
Within text ms = (k : ℕ) → k < length ms → ((slice_index_or ms k no_mark).from ≤ (slice_index_or ms k no_mark).to) × ((slice_index_or ms k no_mark).to ≤ length text)
