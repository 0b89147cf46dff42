-- Known bits and order: the least and the greatest word held, single words, and the bits that two ends share.
use Rattle.std.proofs.Common.{◌≡◌, ℕ, zero, suc, ◌+◌, ◌-◌, ◌/◌, ◌^◌, ◌<◌, ◌≤◌, sym, refl, ap, ◌∙◌, subst, arith, pow_pos, pow_mono}
use native.Mathlib.Nat.{div-eq_of_lt}
use native.Mathlib.Decide.{dec_lt}
use lib.Bits.{bit_or, bit_xor, and_mask, and_le_l, and_le_r, and_zero_r, or_add_and, xor_lt, xor_shr, xor_zero_l}
use lib.Count.{count_leading_zeros, leading_le}
use lib.Pow.{high, ones_lt, ones_split, shr_mono, shr_le}
use Rattle.words.specs.Ternary.{clear, Held}
use Rattle.words.specs.Words.{Word, length_in, length_of}
use Rattle.words.proofs.Bit.{bit, bit_le, bit_zero, bit_not, bit-xor, bit-right, same_bits, le_bits}
use Rattle.words.proofs.Held.{least, most, clear_lt, held, least_under, under-most, most_lt}

-- ---- the ends of what is held

pub held-above : (a m x : ℕ) → m < 2 ^ 64 → Word x → Held a m x → least a m ≤ x
held-above a m x hm hx e = le_bits 64 (least a m) x (clear_lt a m) hx (least_under a m hm x e)

pub held_below : (a m x : ℕ) → m < 2 ^ 64 → Word x → Held a m x → x ≤ most a m
held_below a m x hm hx e = le_bits 64 x (most a m) hx (most_lt a m hm) (under-most a m hm x e)

-- ---- nothing is unknown, or everything is

pub clear_none : (a : ℕ) → Word a → clear a 0 ≡ a
clear_none a h = omega (arith, and_mask a 64)

pub held-single : (a x : ℕ) → Word x → Held a 0 x → x ≡ clear a 0
held-single a x h e = sym (clear_none x h) ∙ e

pub held-full : (a x : ℕ) → Held a (2 ^ 64 - 1) x
held-full a x = and_zero_r x ∙ sym (and_zero_r a)

-- ---- the k low bits are unknown

pub bit_ones : (k i : ℕ) → i < k → bit i (2 ^ k - 1) ≡ 1
bit_ones k i l =
    let whole : 2 ^ k - 1 ≡ (2 ^ k - 1) - 0 = omega arith in
    ap (bit i) whole ∙ bit_not k i 0 l (pow_pos k) ∙ ap (λ (b : ℕ). 1 - b) (bit_zero i)

-- two words with the same bits from k on
pub held-front : (k a x : ℕ) → k ≤ 64 → x / 2 ^ k ≡ a / 2 ^ k → Held a (2 ^ k - 1) x
held-front k a x hk e = held a (2 ^ k - 1) x (omega (arith, pow_mono hk, pow_pos k)) go
  where
    go : (i : ℕ) → i < 64 → bit i (2 ^ k - 1) ≡ 0 → bit i x ≡ bit i a
    go i l known =
        elim (dec_lt i k) [
          | yes h ↦ omega (arith, bit_ones k i h)
          | no h ↦
              let at : (i - k) + k ≡ i = omega arith in
              ap (λ (j : ℕ). bit j x) (sym at) ∙ sym (bit-right (i - k) k x) ∙ ap (bit (i - k)) e ∙ bit-right (i - k) k a
              ∙ ap (λ (j : ℕ). bit j a) at
        ]

-- ---- the bits that two ends share

-- numbers that differ in no bit are the same
unlike_none : (k a b : ℕ) → a < 2 ^ k → b < 2 ^ k → bit_xor a b ≡ 0 → a ≡ b
unlike_none k a b ha hb e =
    same_bits k a b ha hb (λ i l. omega (arith, bit-xor i a b, ap (bit i) e, bit_zero i, bit_le i a, bit_le i b))

-- the length is what the leading zeros leave
pub length_zeros : (k w : ℕ) → length_in k w ≡ k - count_leading_zeros k w
unfolding count_leading_zeros
length_zeros zero w = refl
length_zeros (suc k) zero = omega arith
length_zeros (suc k) (suc w) = omega (arith, length_zeros k (suc w / 2), leading_le k (suc w / 2))

pub length_le : (w : ℕ) → length_of w ≤ 64
length_le w = omega (arith, length_zeros 64 w)

length_above : (k w : ℕ) → w < 2 ^ k → w < 2 ^ length_in k w
length_above zero w h = h
length_above (suc k) zero h = omega arith
length_above (suc k) (suc w) h =
    let half : suc w / 2 < 2 ^ length_in k (suc w / 2) = length_above k (suc w / 2) (omega arith) in
    let whole : suc w < 2 ^ suc (length_in k (suc w / 2)) = omega arith in
    whole

length_over : (k w : ℕ) → 2 ^ k ≤ w → length_in k w ≡ k
length_over zero w h = refl
length_over (suc k) zero h = omega (arith, pow_pos k)
length_over (suc k) (suc w) h = ap suc (length_over k (suc w / 2) (omega arith))

-- two ends agree above the bits in which they differ
module _ (l h : ℕ) where
  abbrev differing : ℕ
  differing = length_of (bit_xor l h)

  agree_above : Word l → Word h → l / 2 ^ differing ≡ h / 2 ^ differing
  agree_above hl hh =
      unlike_none 64 (l / 2 ^ differing) (h / 2 ^ differing) (omega (arith, shr_le l differing)) (omega (arith, shr_le h differing))
      (sym (xor_shr l h differing) ∙ div-eq_of_lt (length_above 64 (bit_xor l h) (xor_lt 64 l h hl hh)))

  -- an end that is no word differs in every bit
  differing_over : Word l → 2 ^ 64 ≤ h → differing ≡ 64
  differing_over hl hh =
      let high : bit_xor l h / 2 ^ 64 ≡ h / 2 ^ 64 =
      xor_shr l h 64 ∙ ap (λ (k : ℕ). bit_xor k (h / 2 ^ 64)) (div-eq_of_lt hl) ∙ xor_zero_l (h / 2 ^ 64) in
      length_over 64 (bit_xor l h) (omega arith)

  -- so every word between them has the bits that they share
  pub held-between : (x : ℕ) → Word x → l ≤ x → x ≤ h → Held l (2 ^ differing - 1) x
  held-between x hx lx xh =
      held-front differing l x (length_le (bit_xor l h)) (elim (dec_lt h (2 ^ 64)) [ yes small ↦ inside small | no big ↦ outside (omega arith) ])
    where
      inside : Word h → x / 2 ^ differing ≡ l / 2 ^ differing
      inside small =
          let low : l / 2 ^ differing ≤ x / 2 ^ differing = shr_mono differing lx in
          let high : x / 2 ^ differing ≤ h / 2 ^ differing = shr_mono differing xh in
          omega (arith, agree_above (omega arith) small)

      outside : 2 ^ 64 ≤ h → x / 2 ^ differing ≡ l / 2 ^ differing
      outside big = subst (λ (k : ℕ). x / 2 ^ k ≡ l / 2 ^ k) (sym (differing_over (omega arith) big)) (omega arith)

-- the mask of those bits, as shifts make it
pub ones_right : (z : ℕ) → z ≤ 64 → (2 ^ 64 - 1) / 2 ^ z ≡ 2 ^ (64 - z) - 1
ones_right z h =
    let whole : (64 - z) + z ≡ 64 = omega arith in
    subst (λ (k : ℕ). (2 ^ k - 1) / 2 ^ z ≡ 2 ^ (64 - z) - 1) whole
    (ap (λ (k : ℕ). k / 2 ^ z) (ones_split (64 - z) z) ∙ high (2 ^ (64 - z) - 1) z (ones_lt z))

-- ---- and makes no word greater, or none smaller

pub or-above-left : (a b : ℕ) → a ≤ bit_or a b
or-above-left a b = omega (arith, or_add_and a b, and_le_r a b)

pub or-above-right : (a b : ℕ) → b ≤ bit_or a b
or-above-right a b = omega (arith, or_add_and a b, and_le_l a b)
