-- What the code has of the names of a text.
use Rattle.reader.specs.declared.scope.Scope.{Scope}
use Rattle.grammar.specs.Links as links
use Rattle.reader.specs.Entries.{entries_in}

abbrev pub scope_in : Scope → links.Scope
scope_in s = record {
  buffers = entries_in s.names.now;
  heads = s.heads.now;
  labels = entries_in s.labels.now;
  count = s.count;
}
