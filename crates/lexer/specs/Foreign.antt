-- The first byte of a text that is neither printable nor a line feed.
use Rattle.std.specs.Prelude.{ℕ, ◌+◌, cond, List, [], ◌∷◌, Some, None, Option, ◌==◌}
use Rattle.lexer.specs.declared.place.Place.{Place}
use Rattle.lexer.specs.Characters.{printable}

-- looked for from the given line and byte on
abbrev pub foreign_from : ℕ → ℕ → List ℕ → Option Place
foreign_from line at [] = None
foreign_from line at (b ∷ bs) =
    cond (b == 10) (foreign_from (line + 1) (at + 1) bs)
    (cond (printable b) (foreign_from line (at + 1) bs) (Some (record { line = line; at = at })))

abbrev pub foreign : List ℕ → Option Place
foreign t = foreign_from 1 0 t
