-- An instruction with its names resolved.
use Rattle.std.specs.Prelude.{ℕ, cond, ◌&&◌, List, Some, None, Ok, Err, Option, Result, nat_lt, slice_index_or}
use Rattle.lexer.specs.declared.place.Place.{Place}
use Rattle.lexer.specs.Lines.{Piece}
use Rattle.rule.specs.declared.instruction.Instruction.{Instruction}
use Rattle.rule.specs.declared.instruction.Instruction.TheVariants.{Mov, Alu, Load, Store, Jump, Branch, Ret}
use Rattle.rule.specs.declared.record.Record.{Record}
use Rattle.rule.specs.Records.{blank, writable_in}
use Rattle.grammar.specs.declared.fault.ProgramFault.{ProgramFault}
use Rattle.grammar.specs.declared.fault.ProgramFault.TheVariants.{Unknown, Backward, ReadOnly}
use Rattle.grammar.specs.Names.{Entry, number_of}

-- what the names of a text stand for: its buffers by name and as records, its labels, and how many instructions it has
pub record Scope : Type 0 where
  pub buffers : List Entry
  pub heads : List Record
  pub labels : List Entry
  pub count : ℕ

abbrev pub Found : Type 0
Found = Result ℕ ProgramFault

-- a buffer to load from
abbrev pub loadable : Option ℕ → Place → Found
loadable None p = Err (Unknown p)
loadable (Some b) p = Ok b

-- a buffer to store into
abbrev pub storable : List Record → Option ℕ → Place → Found
storable heads None p = Err (Unknown p)
storable heads (Some b) p = cond (writable_in (slice_index_or heads b blank).item) (Ok b) (Err (ReadOnly p))

-- a label to jump to from instruction k of so many: one that stands before a later instruction
abbrev pub reachable : ℕ → ℕ → Option ℕ → Place → Found
reachable k count None p = Err (Unknown p)
reachable k count (Some j) p = cond (nat_lt k j && nat_lt j count) (Ok j) (Err (Backward p))

abbrev pub source : Scope → Piece → Found
source s n = loadable (number_of s.buffers n.bytes) n.place

abbrev pub sink : Scope → Piece → Found
sink s n = storable s.heads (number_of s.buffers n.bytes) n.place

abbrev pub target : Scope → ℕ → Piece → Found
target s k n = reachable k s.count (number_of s.labels n.bytes) n.place

abbrev pub with : {X : Type 0} → Found → (ℕ → X) → Result X ProgramFault
with (Ok n) f = Ok (f n)
with (Err e) f = Err e

-- instruction k, with its names as the numbers that they stand for
abbrev pub resolved : Scope → ℕ → Instruction Piece → Result (Instruction ℕ) ProgramFault
resolved s k (Mov t o) = Ok (Mov t o)
resolved s k (Alu op t o) = Ok (Alu op t o)
resolved s k (Load w t n i) = with (source s n) (λ b. Load w t b i)
resolved s k (Store w n i r) = with (sink s n) (λ b. Store w b i r)
resolved s k (Jump n) = with (target s k n) Jump
resolved s k (Branch c l r n) = with (target s k n) (Branch c l r)
resolved s k Ret = Ok Ret
