-- Ranges: how two words are read as one, which words it holds, and the formula of each operation.
use Rattle.std.specs.Prelude.{ℕ, ◌+◌, ◌-◌, ◌*◌, ◌^◌, ◌≤◌, min, max, Bool, cond, ◌&&◌, Some, None, Option, ◌==◌, bit_xor, nat_le, nat_lt}
use Rattle.range.specs.declared.Range.{Range}
use Rattle.tristate.specs.declared.Tristate.{Tristate}
use Rattle.tristate.specs.Tristates as bits
use Rattle.words.specs.Words.{length_of}

-- ---- the reading: the two ends in order

abbrev pub least : Range → ℕ
least r = min r.low r.high

abbrev pub most : Range → ℕ
most r = max r.low r.high

abbrev pub Within : Range → ℕ → Type 0
Within r w = (least r ≤ w) × (w ≤ most r)

abbrev pub range : ℕ → ℕ → Range
range l h = record { low = l; high = h }

-- what is read, written out
abbrev pub reading : Range → Range
reading r = range (least r) (most r)

-- every word, and one word
abbrev pub full : Range
full = range 0 (2 ^ 64 - 1)

abbrev pub only : ℕ → Range
only w = range w w

-- the words below 2 ^ k
abbrev pub front : ℕ → Range
front k = range 0 (2 ^ k - 1)

-- is just one word held?
abbrev pub single : Range → Bool
single r = least r == most r

-- the word that is held, if it is just one
abbrev pub word : Range → Option ℕ
word r = cond (single r) (Some (least r)) None

-- is this word held?
abbrev pub member : Range → ℕ → Bool
member r w = nat_le (least r) w && nat_le w (most r)

-- ---- the operations: full where an end would wrap

abbrev pub sum : Range → Range → Range
sum a b = cond (nat_lt (most a + most b) (2 ^ 64)) (range (least a + least b) (most a + most b)) full

abbrev pub difference : Range → Range → Range
difference a b = cond (nat_le (most b) (least a)) (range (least a - most b) (most a - least b)) full

abbrev pub product : Range → Range → Range
product a b = cond (nat_lt (most a * most b) (2 ^ 64)) (range (least a * least b) (most a * most b)) full

-- a quotient, or a word shifted to the right, is no more than the word
abbrev pub no_more : Range → Range
no_more a = range 0 (most a)

abbrev pub conjunction : Range → Range → Range
conjunction a b = range 0 (min (most a) (most b))

abbrev pub disjunction : Range → Range → Range
disjunction a b = range (max (least a) (least b)) (2 ^ 64 - 1)

-- ---- either, and both

abbrev pub hull : Range → Range → Range
hull a b = range (min (least a) (least b)) (max (most a) (most b))

-- the range between two ends, which is none where they are not in order
abbrev pub between : ℕ → ℕ → Option Range
between l h = cond (nat_le l h) (Some (range l h)) None

abbrev pub common : Range → Range → Option Range
common a b = between (max (least a) (least b)) (min (most a) (most b))

-- ---- the cuts, none of which wraps

-- the words of `a` below w, up to w, above w, and from w on
abbrev pub below : Range → ℕ → Option Range
below a w = cond (w == 0) None (between (least a) (min (most a) (w - 1)))

abbrev pub up_to : Range → ℕ → Option Range
up_to a w = between (least a) (min (most a) w)

abbrev pub above : Range → ℕ → Option Range
above a w = between (max (least a) (w + 1)) (most a)

abbrev pub on_from : Range → ℕ → Option Range
on_from a w = between (max (least a) w) (most a)

-- `a` without the word w, where that is one of its ends
abbrev pub without : Range → ℕ → Option Range
without a w =
    cond (least a == w) (between (w + 1) (most a)) (cond (most a == w) (between (least a) (w - 1)) (Some (reading a)))

-- ---- ranges and known bits

-- the range from the least word of a tristate number to its greatest
abbrev pub reach : Tristate → Range
reach t = range (bits.known t) (bits.most t)

-- the bits that the ends share: unknown is each from the highest in which they differ down
abbrev pub span : Range → Tristate
span r = bits.lawful (least r) (2 ^ length_of (bit_xor (least r) (most r)) - 1)
