-- A line, field by field.
use Rattle.std.proofs.Common.{◌≡◌, ℕ, ◌+◌, ◌*◌, ◌≤◌, List, [], ◌∷◌, ◌++◌, length, codes, Option}
use Rattle.report.specs.Lines.{field_text}

-- what follows the first field: each further one behind a space, and the line feed
abbrev pub rest_text : List (Option ℕ) → List ℕ
rest_text [] = codes "\n"
rest_text (f ∷ fs) = codes " " ++ (field_text f ++ rest_text fs)

-- the bytes so far and those of the fields to come are the line, and there is room for these
pub record LineSoFar (bytes : List ℕ) (left : List (Option ℕ)) (line : List ℕ) : Type 0 where
  pub text : bytes ++ rest_text left ≡ line
  pub room : length bytes + 21 * length left ≤ 104
