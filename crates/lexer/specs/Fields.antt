-- What a field says, by its kind, or that it is of the wrong kind.
use Rattle.std.specs.Prelude.{ℕ, ◌-◌, Bool, cond, ◌&&◌, List, length, take, Some, None, Ok, Err, Option, Result, ◌==◌, nat_le, slice_index}
use Rattle.lexer.specs.declared.place.Place.{Place}
use Rattle.lexer.specs.declared.field.Name.{Name}
use Rattle.lexer.specs.declared.fault.FieldFault.{FieldFault}
use Rattle.lexer.specs.declared.fault.FieldFault.TheVariants.{Kind}
use Rattle.lexer.specs.Characters.{is_name}
use Rattle.lexer.specs.Lines.{Piece}

-- a field that says nothing is of the wrong kind, or beyond its limits
abbrev pub or_kind : {X : Type 0} → Option X → Place → Result X FieldFault
or_kind None p = Err (Kind p)
or_kind (Some x) p = Ok x

-- a name is the field itself
abbrev pub named_in : Piece → Result Piece FieldFault
named_in p = cond (is_name p.bytes) (Ok p) (Err (Kind p.place))

-- what the code has of a name
abbrev pub spelled : Name → Piece
spelled n = record { place = n.place; bytes = n.text.now }

abbrev pub spelled_in : {E : Type 0} → Result Name E → Result Piece E
spelled_in (Ok n) = Ok (spelled n)
spelled_in (Err e) = Err e

-- `r` and a digit from 0 to 7
abbrev pub is_register : List ℕ → Bool
is_register t = (length t == 2 && slice_index t 0 == 114) && (nat_le 48 (slice_index t 1) && nat_le (slice_index t 1) 55)

abbrev pub register_in : List ℕ → Option ℕ
register_in t = cond (is_register t) (Some (slice_index t 1 - 48)) None

-- a field without its last character, which is a colon where the field is a label's
abbrev pub unmarked : Piece → Piece
unmarked p = record { place = p.place; bytes = take (length p.bytes - 1) p.bytes }

abbrev pub ends_in_colon : List ℕ → Bool
ends_in_colon t = slice_index t (length t - 1) == 58
