-- Tristate numbers: how two words are read as one, which words it holds, and the formula of each operation.
use Rattle.std.specs.Prelude.{◌≡◌, ℕ, ◌-◌, ◌/◌, ◌%◌, ◌^◌, Bool, cond, ◌&&◌, Some, None, Option, ◌==◌, bit_and, bit_or, bit_xor, nat_lt}
use Rattle.tristate.specs.declared.Tristate.{Tristate}
use Rattle.words.specs.Ternary.{clear}
use Rattle.words.specs.Words.{plus, minus, times, left, right}

-- ---- the reading

-- The bits that are unknown. A mask in a program is a word, so this is the mask itself; a proof meets any number, and takes its 64 low bits.
abbrev pub unknown : Tristate → ℕ
unknown t = t.mask % 2 ^ 64

-- the bits that are known to be set: the value's, without the mask's
abbrev pub known : Tristate → ℕ
known t = clear t.value (unknown t)

-- `t` holds the word `w`: with the unknown bits cleared it is the value
abbrev pub Holds : Tristate → ℕ → Type 0
Holds t w = clear w (unknown t) ≡ known t

-- the tristate number of the bits v, once those of m are cleared, and the unknown bits m
abbrev pub lawful : ℕ → ℕ → Tristate
lawful v m = record { value = clear v m; mask = m }

-- what is read, written out
abbrev pub reading : Tristate → Tristate
reading t = record { value = known t; mask = unknown t }

-- every word, and one word
abbrev pub full : Tristate
full = record { value = 0; mask = 2 ^ 64 - 1 }

abbrev pub only : ℕ → Tristate
only w = record { value = w; mask = 0 }

-- the words below 2 ^ k
abbrev pub front : ℕ → Tristate
front k = record { value = 0; mask = 2 ^ k - 1 }

-- is just one word held?
abbrev pub single : Tristate → Bool
single t = unknown t == 0

-- the word that is held, if it is just one
abbrev pub word : Tristate → Option ℕ
word t = cond (single t) (Some (known t)) None

-- the greatest word held; the least is `known t`
abbrev pub most : Tristate → ℕ
most t = bit_or (known t) (unknown t)

-- is this word held?
abbrev pub member : Tristate → ℕ → Bool
member t w = clear w (unknown t) == known t

-- ---- the operations

-- the bits that are unknown on either side
abbrev pub either_unknown : Tristate → Tristate → ℕ
either_unknown a b = bit_or (unknown a) (unknown b)

abbrev pub sum : Tristate → Tristate → Tristate
sum a b =
    let s : ℕ = plus (known a) (known b) in
    lawful s (bit_or (bit_xor (plus (plus s (unknown a)) (unknown b)) s) (either_unknown a b))

abbrev pub difference : Tristate → Tristate → Tristate
difference a b =
    let d : ℕ = minus (known a) (known b) in
    lawful d (bit_or (bit_xor (plus d (unknown a)) (minus d (unknown b))) (either_unknown a b))

abbrev pub conjunction : Tristate → Tristate → Tristate
conjunction a b =
    let v : ℕ = bit_and (known a) (known b) in
    record { value = v; mask = clear (bit_and (bit_or (known a) (unknown a)) (bit_or (known b) (unknown b))) v }

abbrev pub disjunction : Tristate → Tristate → Tristate
disjunction a b =
    let v : ℕ = bit_or (known a) (known b) in
    record { value = v; mask = clear (either_unknown a b) v }

abbrev pub exclusion : Tristate → Tristate → Tristate
exclusion a b = lawful (bit_xor (known a) (known b)) (either_unknown a b)

-- one word of at most 63
abbrev pub amount : Tristate → Bool
amount t = single t && nat_lt (known t) 64

abbrev pub shift_amount : Tristate → Option ℕ
shift_amount t = cond (amount t) (Some (known t)) None

-- a shift moves the known bits and the unknown ones alike
abbrev pub moved : (ℕ → ℕ) → Tristate → Tristate
moved f a = record { value = f (known a); mask = f (unknown a) }

abbrev pub shifted_left : Tristate → Tristate → Tristate
shifted_left a b = cond (amount b) (moved (left (known b)) a) full

abbrev pub shifted_right : Tristate → Tristate → Tristate
shifted_right a b = cond (amount b) (moved (right (known b)) a) full

abbrev pub product : Tristate → Tristate → Tristate
product a b = cond (single a && single b) (only (times (known a) (known b))) full

abbrev pub quotient : Tristate → Tristate → Tristate
quotient a b = cond (single a && (single b && nat_lt 0 (known b))) (only (known a / known b)) full

-- ---- either, and both

-- what holds the words of either side
abbrev pub hull : Tristate → Tristate → Tristate
hull a b = lawful (bit_and (known a) (known b)) (bit_or (bit_xor (known a) (known b)) (either_unknown a b))

-- the common part, which is none where a bit that is known on both sides differs
abbrev pub common : Tristate → Tristate → Option Tristate
common a b =
    cond (clear (bit_xor (known a) (known b)) (either_unknown a b) == 0)
    (Some (record { value = bit_or (known a) (known b); mask = bit_and (unknown a) (unknown b) })) None
