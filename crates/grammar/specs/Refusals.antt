-- What a fault tells: the number of the refusal, its layer, and the spot that it names.
use Rattle.std.specs.Prelude.{ℕ}
use Rattle.lexer.specs.declared.place.Place.{Place}
use Rattle.lexer.specs.declared.fault.FieldFault.TheVariants.{Character, Kind}
use Rattle.syntax.specs.declared.fault.LineFault.TheVariants.{Field, Heading, Form}
use Rattle.grammar.specs.declared.fault.ProgramFault.{ProgramFault}
use Rattle.grammar.specs.declared.fault.ProgramFault.TheVariants.{Line, TooLong, Repeated, Full, Unknown, Backward, ReadOnly, Unclosed}
use Rattle.grammar.specs.declared.refusal.Refusal.{Refusal}

-- refusal number, layer, spot
abbrev pub refused : ℕ → ℕ → Place → Refusal
refused number layer p = record { number = number; line = p.line; place = p.at; layer = layer }

abbrev pub refusal_of : ProgramFault → Refusal
refusal_of TooLong = refused 1 4 (record { line = 0; at = 0 })
refusal_of (Line (Field (Character f))) = refused 2 1 f.place
refusal_of (Line (Heading p)) = refused 3 3 p
refusal_of (Line (Form p)) = refused 4 3 p
refusal_of (Line (Field (Kind p))) = refused 5 2 p
refusal_of (Repeated p) = refused 6 4 p
refusal_of (Unknown p) = refused 7 4 p
refusal_of (Full p) = refused 8 4 p
refusal_of (Backward p) = refused 9 4 p
refusal_of (ReadOnly p) = refused 10 4 p
refusal_of (Unclosed end) = refused 11 4 (record { line = 0; at = end })
