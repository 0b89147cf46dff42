-- What names stand for.
use Rattle.std.specs.Prelude.{ℕ, Bool, cond, List, [], ◌∷◌, is_some, Some, None, Option}
use Rattle.std.specs.Str.{bytes_eq}

-- a declared name, and the number of what it stands for: a buffer's place among the buffers, or the
-- place of the instruction that a label stands before
pub record Entry : Type 0 where
  pub name : List ℕ
  pub number : ℕ

abbrev pub number_of : List Entry → List ℕ → Option ℕ
number_of [] name = None
number_of (e ∷ es) name = cond (bytes_eq e.name name) (Some e.number) (number_of es name)

abbrev pub is_known : List Entry → List ℕ → Bool
is_known es name = is_some (number_of es name)
