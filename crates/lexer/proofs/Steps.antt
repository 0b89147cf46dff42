-- One byte on, for each definition that reads a text from its front. Assumes nothing.
use Rattle.std.proofs.Common.{◌≡◌, ℕ, ◌+◌, ◌-◌, ◌*◌, ◌^◌, ◌<◌, min, Bool, ◌&&◌, List, [], ◌∷◌, length, get_or, drop, arith}
use Rattle.std.proofs.lemmas.List.{at_drop_more}
use Rattle.std.specs.List.{list_all}
use Rattle.lexer.specs.Numbers.{value_from}

pub all_more : (p : ℕ → Bool) (t : List ℕ) (i : ℕ) → i < length t → list_all p (drop i t) ≡ (p (get_or t i 0) && list_all p (drop (i + 1) t))
all_more p t i h = at_drop_more (list_all p) t i 0 h

pub value-more : (t : List ℕ) (n i : ℕ) → i < length t → value_from n (drop i t) ≡ value_from (n * 10 + (get_or t i 0 - 48)) (drop (i + 1) t)
value-more t n i h = at_drop_more (value_from n) t i 0 h

-- beyond the cap a number stays beyond it
pub capped : (ds : List ℕ) (m n : ℕ) → min (2 ^ 64) m ≡ min (2 ^ 64) n → min (2 ^ 64) (value_from m ds) ≡ min (2 ^ 64) (value_from n ds)
capped [] m n h = h
capped (d ∷ ds) m n h = capped ds (m * 10 + (d - 48)) (n * 10 + (d - 48)) (omega arith)
