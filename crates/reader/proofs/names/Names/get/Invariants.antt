use Rattle.std.proofs.Common.{◌≡◌, drop}
use Rattle.grammar.specs.Names.{number_of}
use Rattle.reader.specs.Entries.{entries_in}
use Rattle.reader.specs.Marked.{entries_of}
use Rattle.reader.proofs.names.Names.get.Given as goal

abbrev pub invariant-loop-mark : goal.invariant-loop-mark
invariant-loop-mark g l = number_of (entries_of l.self.text.now (drop l.mark-index l.self.marks.items)) l.name ≡ number_of (entries_in l.self) l.name
