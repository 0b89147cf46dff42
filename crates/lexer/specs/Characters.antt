-- Classes of characters, and what the characters of a text may be. A character is its code.
use Rattle.std.specs.Prelude.{ℕ, Bool, cond, not, ◌&&◌, ◌||◌, List, length, ◌==◌, nat_le, slice_index}
use Rattle.std.specs.List.{list_all}
use Rattle.lexer.specs.declared.class.Class.{Class}
use Rattle.lexer.specs.declared.class.Class.TheVariants as class

abbrev pub letter : ℕ → Bool
letter c = nat_le 97 c && nat_le c 122

abbrev pub digit : ℕ → Bool
digit c = nat_le 48 c && nat_le c 57

-- `_`, `-`, `:` and `#`
abbrev pub mark : ℕ → Bool
mark c = ((c == 95 || c == 45) || c == 58) || c == 35

abbrev pub class_of : ℕ → Class
class_of c = cond (letter c) class.Letter (cond (digit c) class.Digit (cond (c == 32) class.Space (cond (mark c) class.Mark class.Foreign)))

-- what a text may hold besides line feeds
abbrev pub printable : ℕ → Bool
printable c = nat_le 32 c && nat_le c 126

abbrev pub name_byte : ℕ → Bool
name_byte c = (letter c || digit c) || c == 95

-- a character of a field: neither a space nor the start of a comment
abbrev pub field_byte : ℕ → Bool
field_byte c = not (c == 32 || c == 35)

-- 1 to 16 lower-case letters, digits or underscores, a letter first
abbrev pub is_name : List ℕ → Bool
is_name t = ((nat_le 1 (length t) && nat_le (length t) 16) && letter (slice_index t 0)) && list_all name_byte t
