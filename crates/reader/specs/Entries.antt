-- The names that a text declares, as the code keeps them.
use Rattle.std.specs.Prelude.{ℕ, List}
use Rattle.grammar.specs.Names.{Entry}
use Rattle.reader.specs.declared.names.Names.{Names}
use Rattle.reader.specs.Marked.{entries_of}

abbrev pub entries_in : {n : ℕ} → Names n → List Entry
entries_in names = entries_of names.text.now names.marks.items
