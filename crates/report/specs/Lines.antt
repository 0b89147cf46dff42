-- A line of fields.
use Rattle.std.specs.Prelude.{ℕ, List, [], ◌∷◌, ◌++◌, Some, None, codes, decimal, Option}

-- a number, or a dash where there is none
abbrev pub field_text : Option ℕ → List ℕ
field_text None = codes "-"
field_text (Some n) = decimal n

-- a space between two fields, and a line feed behind the last
abbrev pub line_text : List (Option ℕ) → List ℕ
line_text [] = []
line_text (f ∷ []) = field_text f ++ codes "\n"
line_text (f ∷ (g ∷ fs)) = field_text f ++ (codes " " ++ line_text (g ∷ fs))

-- a line for each row, of the fields that it has
abbrev pub rows_text : {R : Type 0} → (R → List (Option ℕ)) → List R → List ℕ
rows_text fields [] = []
rows_text fields (r ∷ rs) = line_text (fields r) ++ rows_text fields rs
