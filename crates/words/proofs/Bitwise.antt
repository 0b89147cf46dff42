-- and, or and exclusive or of tristate numbers: sound, and smallest.
use Rattle.std.proofs.Common.{◌≡◌, ℕ, ◌+◌, ◌-◌, ◌%◌, ◌^◌, ◌<◌, min, max, refl, ◌∙◌, arith}
use lib.Bits.{bit_and, bit_or, bit_xor, and_lt, or_lt}
use Rattle.words.specs.Ternary.{clear, Held, Sound, Smallest}
use Rattle.words.proofs.Bit.{bit, bit_le, bit-and, bit-or, bit-xor}
use Rattle.words.proofs.Held.{most, clear_lt, bit-clear, bit-held, held, held-least, held-most, most_lt, unknown, within}

module _ (a m b n : ℕ) (hm : m < 2 ^ 64) (hn : n < 2 ^ 64) where
  abbrev v : ℕ
  v = clear a m

  abbrev w : ℕ
  w = clear b n

  -- what another number holds that holds every result
  module _ (op : ℕ → ℕ → ℕ) (d q : ℕ) (all : Sound op a m b n d q) where
    at_least : Held d q (op v w)
    at_least = all v w (clear_lt a m) (clear_lt b n) (held-least a m hm) (held-least b n hn)

    at_most : Held d q (op (most a m) (most b n))
    at_most = all (most a m) (most b n) (most_lt a m hm) (most_lt b n hn) (held-most a m hm) (held-most b n hn)

    at_left : Held d q (op (most a m) w)
    at_left = all (most a m) w (most_lt a m hm) (clear_lt b n) (held-most a m hm) (held-least b n hn)

    at_right : Held d q (op v (most b n))
    at_right = all v (most b n) (clear_lt a m) (most_lt b n hn) (held-least a m hm) (held-most b n hn)

  -- ---- and

  abbrev and_mask : ℕ
  and_mask = clear (bit_and (most a m) (most b n)) (bit_and v w)

  and_value_lt : bit_and v w < 2 ^ 64
  and_value_lt = and_lt 64 v w (clear_lt a m) (clear_lt b n)

  pub and_mask_lt : and_mask < 2 ^ 64
  and_mask_lt =
      clear_lt (bit_and (most a m) (most b n)) (bit_and v w)

  bit-and_mask : (i : ℕ) → i < 64 → bit i and_mask ≡ min (max (bit i v) (bit i m)) (max (bit i w) (bit i n)) - min (bit i v) (bit i w)
  bit-and_mask i l = bit-clear i (bit_and (most a m) (most b n)) (bit_and v w) l and_value_lt ∙ simp (bit-and, bit-or)

  pub and_sound : Sound bit_and a m b n (bit_and v w) and_mask
  and_sound x y hx hy ex ey =
      held (bit_and v w) and_mask (bit_and x y) and_mask_lt
      (λ i l known. grind (
        arith,
        bit-and i x y,
        bit-and i v w,
        bit-and_mask i l,
        bit-clear i a m l hm,
        bit-clear i b n l hn,
        bit-held a m x hm ex i l,
        bit-held b n y hn ey i l,
        bit_le i x,
        bit_le i y,
        bit_le i m,
        bit_le i n,
        bit_le i a,
        bit_le i b,
      ))

  pub and-smallest : Smallest bit_and a m b n (bit_and v w) and_mask
  and-smallest d q hq all =
      within (bit_and v w) and_mask d q (bit_and v w) and_mask_lt hq refl (at_least bit_and d q all)
      (λ i l one. unknown d q (bit_and v w) (bit_and (most a m) (most b n)) i hq l (at_least bit_and d q all) (at_most bit_and d q all)
      (grind (
        arith,
        one,
        bit-and_mask i l,
        bit-and i v w,
        bit-and i (most a m) (most b n),
        bit-or i v m,
        bit-or i w n,
        bit_le i v,
        bit_le i w,
        bit_le i m,
        bit_le i n,
      )))

  -- ---- or

  abbrev or_mask : ℕ
  or_mask = clear (bit_or m n) (bit_or v w)

  or_value_lt : bit_or v w < 2 ^ 64
  or_value_lt = or_lt 64 v w (clear_lt a m) (clear_lt b n)

  pub or_mask_lt : or_mask < 2 ^ 64
  or_mask_lt = clear_lt (bit_or m n) (bit_or v w)

  bit-or_mask : (i : ℕ) → i < 64 → bit i or_mask ≡ max (bit i m) (bit i n) - max (bit i v) (bit i w)
  bit-or_mask i l = bit-clear i (bit_or m n) (bit_or v w) l or_value_lt ∙ simp bit-or

  pub or_sound : Sound bit_or a m b n (bit_or v w) or_mask
  or_sound x y hx hy ex ey =
      held (bit_or v w) or_mask (bit_or x y) or_mask_lt
      (λ i l known. grind (
        arith,
        bit-or i x y,
        bit-or i v w,
        bit-or_mask i l,
        bit-clear i a m l hm,
        bit-clear i b n l hn,
        bit-held a m x hm ex i l,
        bit-held b n y hn ey i l,
        bit_le i x,
        bit_le i y,
        bit_le i m,
        bit_le i n,
        bit_le i a,
        bit_le i b,
      ))

  pub or-smallest : Smallest bit_or a m b n (bit_or v w) or_mask
  or-smallest d q hq all =
      within (bit_or v w) or_mask d q (bit_or v w) or_mask_lt hq refl (at_least bit_or d q all)
      (λ i l one. unknown d q (bit_or v w) (bit_or (most a m) (most b n)) i hq l (at_least bit_or d q all) (at_most bit_or d q all)
      (grind (
        arith,
        one,
        bit-or_mask i l,
        bit-or i v w,
        bit-or i (most a m) (most b n),
        bit-or i v m,
        bit-or i w n,
        bit_le i v,
        bit_le i w,
        bit_le i m,
        bit_le i n,
      )))

  -- ---- exclusive or

  abbrev xor-value : ℕ
  xor-value = clear (bit_xor v w) (bit_or m n)

  pub xor_mask_lt : bit_or m n < 2 ^ 64
  xor_mask_lt = or_lt 64 m n hm hn

  bit-xor-value : (i : ℕ) → i < 64 → bit i xor-value ≡ (bit i v + bit i w) % 2 - max (bit i m) (bit i n)
  bit-xor-value i l = bit-clear i (bit_xor v w) (bit_or m n) l xor_mask_lt ∙ simp (bit-xor, bit-or)

  pub xor_sound : Sound bit_xor a m b n xor-value (bit_or m n)
  xor_sound x y hx hy ex ey =
      held xor-value (bit_or m n) (bit_xor x y) xor_mask_lt
      (λ i l known. grind (
        arith,
        bit-xor i x y,
        bit-xor-value i l,
        bit-or i m n,
        bit-clear i a m l hm,
        bit-clear i b n l hn,
        bit-held a m x hm ex i l,
        bit-held b n y hn ey i l,
        bit_le i x,
        bit_le i y,
        bit_le i m,
        bit_le i n,
        bit_le i a,
        bit_le i b,
      ))

  pub xor-smallest : Smallest bit_xor a m b n xor-value (bit_or m n)
  xor-smallest d q hq all =
      within xor-value (bit_or m n) d q (bit_xor v w) xor_mask_lt hq (at_least bit_xor xor-value (bit_or m n) xor_sound) (at_least bit_xor d q all)
      (λ i l one. grind (
        arith,
        one,
        bit-or i m n,
        bit-held d q (bit_xor v w) hq (at_least bit_xor d q all) i l,
        bit-held d q (bit_xor (most a m) w) hq (at_left bit_xor d q all) i l,
        bit-held d q (bit_xor v (most b n)) hq (at_right bit_xor d q all) i l,
        bit-xor i v w,
        bit-xor i (most a m) w,
        bit-xor i v (most b n),
        bit-or i v m,
        bit-or i w n,
        bit-clear i a m l hm,
        bit-clear i b n l hn,
        bit_le i a,
        bit_le i b,
        bit_le i m,
        bit_le i n,
        bit_le i q,
      ))
