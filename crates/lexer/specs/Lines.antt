-- The lines of a text, and the fields of a line.
use Rattle.std.specs.Prelude.{ℕ, ◌+◌, Bool, true, false, cond, List, [], ◌∷◌, drop, ◌==◌}
use Rattle.lexer.specs.declared.place.Place.{Place}
use Rattle.lexer.specs.declared.field.Field.{Field}
use Rattle.lexer.specs.declared.line.Line.{Line}
use Rattle.lexer.specs.declared.line.Filled.{Filled}
use Rattle.lexer.specs.declared.lexer.Lexer.{Lexer}
use Rattle.lexer.specs.Characters.{field_byte}

-- a line without its line feed: its number from 1, and the place of its first byte from 0
pub record Row : Type 0 where
  pub number : ℕ
  pub from : ℕ
  pub bytes : List ℕ

abbrev pub row : ℕ → ℕ → List ℕ → Row
row n at bs = record { number = n; from = at; bytes = bs }

-- the byte stands before the first row
abbrev pub longer : ℕ → ℕ → ℕ → List Row → List Row
longer n at b [] = row n at (b ∷ []) ∷ []
longer n at b (r ∷ rs) = row n at (b ∷ r.bytes) ∷ rs

-- each line ends in a line feed, which the last may lack
abbrev pub rows_from : ℕ → ℕ → List ℕ → List Row
rows_from n at [] = []
rows_from n at (b ∷ bs) =
    cond (b == 10) (row n at [] ∷ rows_from (n + 1) (at + 1) bs)
    (longer n at b (rows_from n (at + 1) bs))

-- a field, and where it begins
pub record Piece : Type 0 where
  pub place : Place
  pub bytes : List ℕ

abbrev pub piece : ℕ → ℕ → List ℕ → Piece
piece n at bs = record { place = record { line = n; at = at }; bytes = bs }

-- does a field go on with what follows?
abbrev pub goes_on : List ℕ → Bool
goes_on [] = false
goes_on (b ∷ bs) = field_byte b

-- the byte is a field of its own, or stands before the first piece
abbrev pub joined_to : ℕ → ℕ → ℕ → Bool → List Piece → List Piece
joined_to n at b false ps = piece n at (b ∷ []) ∷ ps
joined_to n at b true [] = []
joined_to n at b true (p ∷ ps) = piece n at (b ∷ p.bytes) ∷ ps

-- spaces separate fields, and a number sign ends the last
abbrev pub pieces_from : ℕ → ℕ → List ℕ → List Piece
pieces_from n at [] = []
pieces_from n at (b ∷ bs) =
    cond (b == 35) []
    (cond (b == 32) (pieces_from n (at + 1) bs)
    (joined_to n at b (goes_on bs) (pieces_from n (at + 1) bs)))

abbrev pub pieces : Row → List Piece
pieces r = pieces_from r.number r.from r.bytes

-- the lines that have fields, each as its fields
abbrev pub kept : List Piece → List (List Piece) → List (List Piece)
kept [] more = more
kept (p ∷ ps) more = (p ∷ ps) ∷ more

abbrev pub filled : List Row → List (List Piece)
filled [] = []
filled (r ∷ rs) = kept (pieces r) (filled rs)

-- the filled lines of a whole text
abbrev pub filled_lines : List ℕ → List (List Piece)
filled_lines t = filled (rows_from 1 0 t)

-- ── the same of what the code holds ──

abbrev pub piece_of : Field → Piece
piece_of f = record { place = f.place; bytes = f.text.now }

-- what is left of a line, as a row and as its fields
abbrev pub row_of : Line → Row
row_of l = row l.number l.at (drop l.at l.text.now)

abbrev pub pieces_of : Line → List Piece
pieces_of l = pieces (row_of l)

-- all fields of a line that has some
abbrev pub fields_of : Filled → List Piece
fields_of l = piece_of l.first ∷ pieces_of l.rest

-- what is left of a text, as rows and as filled lines
abbrev pub rows_of : Lexer → List Row
rows_of x = rows_from x.number x.at (drop x.at x.text.now)

abbrev pub lines_of : Lexer → List (List Piece)
lines_of x = filled (rows_of x)
