-- The number that holds what either of two holds, and the one that holds what both hold.
use Rattle.std.proofs.Common.{◌≡◌, ℕ, ◌+◌, ◌-◌, ◌%◌, ◌^◌, ◌<◌, min, max, sym, ap, ◌∙◌, arith}
use lib.Bits.{bit_and, bit_or, bit_xor, and_lt, or_lt, xor_lt}
use Rattle.words.specs.Ternary.{clear, Held}
use Rattle.words.proofs.Bit.{bit, bit_le, bit-and, bit-or, bit-xor, bit_zero, same_bits}
use Rattle.words.proofs.Held.{clear_lt, bit-clear, bit-held, held}

module _ (a m b n : ℕ) (hm : m < 2 ^ 64) (hn : n < 2 ^ 64) where
  abbrev v : ℕ
  v = clear a m

  abbrev w : ℕ
  w = clear b n

  -- ---- either

  abbrev either_mask : ℕ
  either_mask = bit_or (bit_xor v w) (bit_or m n)

  abbrev either_value : ℕ
  either_value = clear (bit_and v w) either_mask

  pub either_mask_lt : either_mask < 2 ^ 64
  either_mask_lt = or_lt 64 (bit_xor v w) (bit_or m n) (xor_lt 64 v w (clear_lt a m) (clear_lt b n)) (or_lt 64 m n hm hn)

  bit_either_mask : (i : ℕ) → bit i either_mask ≡ max ((bit i v + bit i w) % 2) (max (bit i m) (bit i n))
  bit_either_mask i = simp (bit-or, bit-xor)

  bit_either_value : (i : ℕ) → i < 64 → bit i either_value ≡ min (bit i v) (bit i w) - bit i either_mask
  bit_either_value i l = bit-clear i (bit_and v w) either_mask l either_mask_lt ∙ ap (λ (k : ℕ). k - bit i either_mask) (bit-and i v w)

  pub either_left : (x : ℕ) → Held a m x → Held either_value either_mask x
  either_left x e =
      held either_value either_mask x either_mask_lt
      (λ i l known. grind (
        arith,
        bit_either_mask i,
        bit_either_value i l,
        bit-clear i a m l hm,
        bit-held a m x hm e i l,
        bit_le i v,
        bit_le i w,
        bit_le i m,
        bit_le i n,
      ))

  pub either_right : (x : ℕ) → Held b n x → Held either_value either_mask x
  either_right x e =
      held either_value either_mask x either_mask_lt
      (λ i l known. grind (
        arith,
        bit_either_mask i,
        bit_either_value i l,
        bit-clear i b n l hn,
        bit-held b n x hn e i l,
        bit_le i v,
        bit_le i w,
        bit_le i m,
        bit_le i n,
      ))

  -- ---- both

  -- the bits known in both that differ
  abbrev pub apart : ℕ
  apart = clear (bit_xor v w) (bit_or m n)

  bit-apart : (i : ℕ) → i < 64 → bit i apart ≡ (bit i v + bit i w) % 2 - max (bit i m) (bit i n)
  bit-apart i l = bit-clear i (bit_xor v w) (bit_or m n) l (or_lt 64 m n hm hn) ∙ simp (bit-xor, bit-or)

  -- no bit differs where there is a word that both hold
  pub both_agree : (x : ℕ) → Held a m x → Held b n x → apart ≡ 0
  both_agree x ea eb =
      same_bits 64 apart 0 (clear_lt (bit_xor v w) (bit_or m n)) (omega arith)
      (λ i l. rw bit_zero (grind (
        arith,
        bit-apart i l,
        bit-clear i a m l hm,
        bit-clear i b n l hn,
        bit-held a m x hm ea i l,
        bit-held b n x hn eb i l,
        bit_le i v,
        bit_le i w,
        bit_le i m,
        bit_le i n,
      )))

  pub both_mask_lt : bit_and m n < 2 ^ 64
  both_mask_lt = and_lt 64 m n hm hn

  pub both_keeps : (x : ℕ) → Held a m x → Held b n x → Held (bit_or v w) (bit_and m n) x
  both_keeps x ea eb =
      held (bit_or v w) (bit_and m n) x both_mask_lt
      (λ i l known. grind (
        arith,
        bit-or i v w,
        bit-and i m n,
        bit-clear i a m l hm,
        bit-clear i b n l hn,
        bit-held a m x hm ea i l,
        bit-held b n x hn eb i l,
        bit_le i x,
        bit_le i a,
        bit_le i b,
        bit_le i m,
        bit_le i n,
      ))

  agreed : apart ≡ 0 → (i : ℕ) → i < 64 → (bit i v + bit i w) % 2 - max (bit i m) (bit i n) ≡ 0
  agreed same i l = sym (bit-apart i l) ∙ ap (bit i) same ∙ bit_zero i

  pub both_left : apart ≡ 0 → (x : ℕ) → Held (bit_or v w) (bit_and m n) x → Held a m x
  both_left same x e =
      held a m x hm
      (λ i l known. grind (
        arith,
        agreed same i l,
        bit-or i v w,
        bit-and i m n,
        bit-clear i a m l hm,
        bit-clear i b n l hn,
        bit-held (bit_or v w) (bit_and m n) x both_mask_lt e i l,
        bit_le i a,
        bit_le i b,
        bit_le i n,
      ))

  pub both_right : apart ≡ 0 → (x : ℕ) → Held (bit_or v w) (bit_and m n) x → Held b n x
  both_right same x e =
      held b n x hn
      (λ i l known. grind (
        arith,
        agreed same i l,
        bit-or i v w,
        bit-and i m n,
        bit-clear i a m l hm,
        bit-clear i b n l hn,
        bit-held (bit_or v w) (bit_and m n) x both_mask_lt e i l,
        bit_le i a,
        bit_le i b,
        bit_le i m,
      ))
