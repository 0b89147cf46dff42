-- Two numbers `a` and `m` as a word of which some bits are known: those of `m` are unknown, and the others are those of `a`.
-- Only the 64 low bits count.
use Rattle.std.specs.Prelude.{◌≡◌, ℕ, ◌-◌, ◌^◌, bit_and}
use Rattle.words.specs.Words.{Word}

-- `a` with the bits of `m` cleared
abbrev pub clear : ℕ → ℕ → ℕ
clear a m = bit_and a ((2 ^ 64 - 1) - m)

-- (a, m) holds the word `x`
abbrev pub Held : ℕ → ℕ → ℕ → Type 0
Held a m x = clear x m ≡ clear a m

-- (c, o) holds each word that `op` makes of a word held by (a, m) and one held by (b, n)
abbrev pub Sound : (ℕ → ℕ → ℕ) → (a m b n c o : ℕ) → Type 0
Sound op a m b n c o = (x y : ℕ) → Word x → Word y → Held a m x → Held b n y → Held c o (op x y)

-- whatever else holds all of those holds each word that (c, o) holds
abbrev pub Smallest : (ℕ → ℕ → ℕ) → (a m b n c o : ℕ) → Type 0
Smallest op a m b n c o =
    (d q : ℕ) → Word q → Sound op a m b n d q → (z : ℕ) → Held c o z → Held d q z

-- the same of an operation on one word
abbrev pub Sound₁ : (ℕ → ℕ) → (a m c o : ℕ) → Type 0
Sound₁ op a m c o = (x : ℕ) → Word x → Held a m x → Held c o (op x)

abbrev pub Smallest₁ : (ℕ → ℕ) → (a m c o : ℕ) → Type 0
Smallest₁ op a m c o = (d q : ℕ) → Word q → Sound₁ op a m d q → (z : ℕ) → Held c o z → Held d q z
