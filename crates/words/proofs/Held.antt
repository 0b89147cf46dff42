-- The words that a tristate number holds, bit by bit.
use Rattle.std.proofs.Common.{◌≡◌, ℕ, zero, suc, ◌+◌, ◌-◌, ◌^◌, ◌<◌, ◌≤◌, ◌≢◌, sym, refl, ap, ◌∙◌, arith}
use native.Mathlib.Decide.{ℕ_discrete}
use lib.Bits.{bit_and, bit_or, and_le_r, and_lt, or_lt, or_disjoint}
use lib.Pow.{pow-lt}
use Rattle.words.specs.Ternary.{clear, Held}
use Rattle.words.proofs.Bit.{bit, bit_le, same_bits, bit-and, bit-or, bit_not, bit_zero, bit-pow, bit_pow_other}

pub clear_lt : (w m : ℕ) → clear w m < 2 ^ 64
clear_lt w m = omega (arith, and_le_r w ((2 ^ 64 - 1) - m))

pub bit-clear : (i w m : ℕ) → i < 64 → m < 2 ^ 64 → bit i (clear w m) ≡ bit i w - bit i m
bit-clear i w m l h = omega (arith, bit-and i w ((2 ^ 64 - 1) - m), bit_not 64 i m l h, bit_le i w, bit_le i m)

-- ---- held, bit by bit

pub bit-held : (a m x : ℕ) → m < 2 ^ 64 → Held a m x → (i : ℕ) → i < 64 → bit i x - bit i m ≡ bit i a - bit i m
bit-held a m x h e i l = sym (bit-clear i x m l h) ∙ ap (bit i) e ∙ bit-clear i a m l h

off : (p q u : ℕ) → p ≤ 1 → q ≤ 1 → (u ≡ 0 → p ≡ q) → p - u ≡ q - u
off p q zero hp hq f = omega (arith, f refl)
off p q (suc u) hp hq f = omega arith

-- it suffices to look at the bits that are known
pub held : (a m x : ℕ) → m < 2 ^ 64 → ((i : ℕ) → i < 64 → bit i m ≡ 0 → bit i x ≡ bit i a) → Held a m x
held a m x h e =
    same_bits 64 (clear x m) (clear a m) (clear_lt x m) (clear_lt a m)
    (λ i l. bit-clear i x m l h ∙ off (bit i x) (bit i a) (bit i m) (bit_le i x) (bit_le i a) (e i l) ∙ sym (bit-clear i a m l h))

-- ---- the least word held, the greatest, and the least with an unknown bit set

abbrev pub least : ℕ → ℕ → ℕ
least a m = clear a m

abbrev pub most : ℕ → ℕ → ℕ
most a m = bit_or (clear a m) m

abbrev pub turned : ℕ → ℕ → ℕ → ℕ
turned a m i = bit_or (clear a m) (2 ^ i)

module _ (a m : ℕ) (hm : m < 2 ^ 64) where
  pub held-least : Held a m (least a m)
  held-least = held a m (clear a m) hm (λ i l known. omega (arith, bit-clear i a m l hm))

  pub most_lt : most a m < 2 ^ 64
  most_lt = or_lt 64 (clear a m) m (clear_lt a m) hm

  pub held-most : Held a m (most a m)
  held-most = held a m (most a m) hm (λ i l known. omega (arith, bit-or i (clear a m) m, bit-clear i a m l hm))

  -- the greatest is the least with every unknown bit added
  pub most-is : most a m ≡ clear a m + m
  most-is =
      or_disjoint (clear a m) m
      (same_bits 64 (bit_and (clear a m) m) 0 (and_lt 64 (clear a m) m (clear_lt a m) hm) (omega arith)
      (λ i l. bit-and i (clear a m) m ∙ rw bit_zero (grind (arith, bit-clear i a m l hm, bit_le i a, bit_le i m))))

  -- every word held lies between them, bit by bit
  pub least_under : (x : ℕ) → Held a m x → (i : ℕ) → i < 64 → bit i (least a m) ≤ bit i x
  least_under x e i l = omega (arith, bit-clear i a m l hm, bit-held a m x hm e i l)

  pub under-most : (x : ℕ) → Held a m x → (i : ℕ) → i < 64 → bit i x ≤ bit i (most a m)
  under-most x e i l = omega (arith, bit-or i (clear a m) m, bit-clear i a m l hm, bit-held a m x hm e i l, bit_le i x)

  pub turned_lt : (i : ℕ) → i < 64 → turned a m i < 2 ^ 64
  turned_lt i l = or_lt 64 (clear a m) (2 ^ i) (clear_lt a m) (pow-lt l)

  pub bit-turned : (i : ℕ) → bit i (turned a m i) ≡ 1
  bit-turned i = omega (arith, bit-or i (clear a m) (2 ^ i), bit-pow i, bit_le i (clear a m))

  pub bit_turned_other : (i j : ℕ) → j ≢ i → bit j (turned a m i) ≡ bit j (least a m)
  bit_turned_other i j ne = omega (arith, bit-or j (clear a m) (2 ^ i), bit_pow_other j i ne)

  pub held-turned : (i : ℕ) → i < 64 → bit i m ≡ 1 → Held a m (turned a m i)
  held-turned i l one = held a m (turned a m i) hm go
    where
      go : (j : ℕ) → j < 64 → bit j m ≡ 0 → bit j (turned a m i) ≡ bit j a
      go j k known =
          elim (ℕ_discrete j i)
          [ yes e ↦ omega (arith, ap (λ (n : ℕ). bit n m) e) | no ne ↦ omega (arith, bit_turned_other i j ne, bit-clear j a m k hm) ]

-- ---- smallest: what is left to show

-- two words held differ only at unknown bits
pub unknown : (b n z z' i : ℕ) → n < 2 ^ 64 → i < 64 → Held b n z → Held b n z' → bit i z ≢ bit i z' → bit i n ≡ 1
unknown b n z z' i h l e e' ne =
    omega (arith, bit-held b n z h e i l, bit-held b n z' h e' i l, bit_le i z, bit_le i z', bit_le i n)

only_where : (x y : ℕ) → x ≤ 1 → (x ≡ 1 → y ≡ 1) → x ≤ y
only_where zero y h f = omega arith
only_where (suc zero) y h f = omega (arith, f refl)
only_where (suc (suc x)) y h f = omega arith

-- (b, n) holds what (a, m) holds where they share a word, and each bit that m leaves open is open in n
pub within : (a m b n z : ℕ) → m < 2 ^ 64 → n < 2 ^ 64 → Held a m z → Held b n z → ((i : ℕ) → i < 64 → bit i m ≡ 1 → bit i n ≡ 1)
    → (w : ℕ) → Held a m w → Held b n w
within a m b n z hm hn ea eb more w e =
    held b n w hn
    (λ i l known. omega (
      arith,
      bit-held a m z hm ea i l,
      bit-held b n z hn eb i l,
      bit-held a m w hm e i l,
      only_where (bit i m) (bit i n) (bit_le i m) (more i l),
      bit_le i m,
    ))
