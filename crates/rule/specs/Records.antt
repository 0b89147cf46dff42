-- The record that is not in use, and what is asked of what a record says.
use Rattle.std.specs.Prelude.{ℕ, Bool, true, false}
use Rattle.rule.specs.declared.record.Item.{Item}
use Rattle.rule.specs.declared.record.Item.TheVariants.{Blank, Buffer, Instruction}
use Rattle.rule.specs.declared.record.Mode.TheVariants.{ReadOnly, ReadWrite}
use Rattle.rule.specs.declared.record.Record.{Record}

abbrev pub blank : Record
blank = record { line = 0; item = Blank }

abbrev pub is_buffer : Item → Bool
is_buffer Blank = false
is_buffer (Buffer size mode) = true
is_buffer (Instruction i) = false

abbrev pub is_blank : Item → Bool
is_blank Blank = true
is_blank (Buffer size mode) = false
is_blank (Instruction i) = false

-- the size of a buffer, and whether a rule may store into it
abbrev pub size_in : Item → ℕ
size_in Blank = 0
size_in (Buffer size mode) = size
size_in (Instruction i) = 0

abbrev pub writable_in : Item → Bool
writable_in Blank = false
writable_in (Buffer size ReadWrite) = true
writable_in (Buffer size ReadOnly) = false
writable_in (Instruction i) = false
