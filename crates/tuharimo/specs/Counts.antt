-- How many bytes are printed.
use Rattle.std.specs.Prelude.{cond, List, ℕ, leb, length}

-- the whole text where it fits, and nothing where it does not
abbrev pub count_of : List ℕ → List ℕ → ℕ
count_of text output = cond (leb (length text) (length output)) (length text) 0
