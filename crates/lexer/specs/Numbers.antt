-- The number that a field writes: digits, or `-` and digits.
use Rattle.std.specs.Prelude.{ℕ, suc, ◌+◌, ◌-◌, ◌*◌, ◌^◌, min, cond, ◌&&◌, List, [], ◌∷◌, length, drop, ℤ, pos, negsuc, neg_ℤ, Some, None, Option, ◌==◌, nat_le, nat_lt, slice_index}
use Rattle.std.specs.List.{list_all}
use Rattle.std.specs.Option.{option_map}
use Rattle.lexer.specs.Characters.{digit}

-- the decimal number that the digits go on with, after what stood before them
abbrev pub value_from : ℕ → List ℕ → ℕ
value_from n [] = n
value_from n (d ∷ ds) = value_from (n * 10 + (d - 48)) ds

-- one or more digits
abbrev pub natural : List ℕ → Option ℕ
natural t = cond (nat_le 1 (length t) && list_all digit t) (Some (value_from 0 t)) None

abbrev pub number : List ℕ → Option ℤ
number t = cond (slice_index t 0 == 45) (option_map (λ n. neg_ℤ (pos n)) (natural (drop 1 t))) (option_map pos (natural t))

-- the nearest number from -2^64 to 2^64: no limit of the language lies beyond these
abbrev pub in_cap : ℤ → ℤ
in_cap (pos n) = pos (min (2 ^ 64) n)
in_cap (negsuc n) = neg_ℤ (pos (min (2 ^ 64) (suc n)))

-- the word that a constant stands for: a negative one for itself plus 2^64
abbrev pub word_of : ℤ → Option ℕ
word_of (pos n) = cond (nat_lt n (2 ^ 64)) (Some n) None
word_of (negsuc n) = cond (nat_lt n (2 ^ 63)) (Some (2 ^ 64 - suc n)) None

-- the size of a buffer
abbrev pub size_of : ℤ → Option ℕ
size_of (pos n) = cond (nat_le 1 n && nat_le n 1024) (Some n) None
size_of (negsuc n) = None

abbrev pub and_then : {X Y : Type 0} → Option X → (X → Option Y) → Option Y
and_then None f = None
and_then (Some x) f = f x

abbrev pub constant_in : List ℕ → Option ℕ
constant_in t = and_then (number t) word_of

abbrev pub size_in : List ℕ → Option ℕ
size_in t = and_then (number t) size_of
