-- Sums and differences of tristate numbers: sound, and smallest.
use Rattle.std.proofs.Common.{◌≡◌, ℕ, ◌+◌, ◌-◌, ◌%◌, ◌^◌, ◌<◌, ◌≤◌, max, sym, refl, ap, ◌∙◌, le_refl, add-zero, arith}
use lib.Bits.{bit_or, bit_xor, or_lt, xor_lt}
use Rattle.words.specs.Ternary.{clear, Sound, Smallest}
use Rattle.words.specs.Words.{plus, minus}
use Rattle.words.proofs.Adder.{Adds, Extremes, adder_sound, adder_smallest}
use Rattle.words.proofs.Bit.{bit, bit_le, bit-or, bit-xor, bit-mod, bit_not, bit-add, carry}
use Rattle.words.proofs.Held.{most, clear_lt, held-least, held-most, most_lt, most-is, least_under, under-most}

-- ---- `plus` and `minus` add

plus-bit : (i x y : ℕ) → i < 64 → y < 2 ^ 64 → bit i (plus x y) ≡ (bit i x + bit i y + carry i x y 0) % 2
plus-bit i x y l hy =
    let h : 0 ≤ 1 = omega arith in
    bit-mod 64 i (x + y) l ∙ ap (bit i) (sym (add-zero (x + y))) ∙ bit-add i x y 0 h

abbrev adds : Adds plus
adds =
    record {
      k = λ y. y;
      t = 0;
      t_le = omega arith;
      k-bit = λ i y l h. omega (arith, bit_le i y);
      op_bit = plus-bit;
    }

-- every bit turned
abbrev inv : ℕ → ℕ
inv y = (2 ^ 64 - 1) - y

minus-bit : (i x y : ℕ) → i < 64 → y < 2 ^ 64 → bit i (minus x y) ≡ (bit i x + bit i (inv y) + carry i x (inv y) 1) % 2
minus-bit i x y l h =
    let e : x + (2 ^ 64 - y) ≡ x + inv y + 1 = omega arith in
    bit-mod 64 i (x + (2 ^ 64 - y)) l ∙ ap (bit i) e ∙ bit-add i x (inv y) 1 (le_refl 1)

abbrev takes : Adds minus
takes =
    record {
      k = inv;
      t = 1;
      t_le = le_refl 1;
      k-bit = λ i y l h. omega (arith, bit_not 64 i y l h, bit_le i y);
      op_bit = minus-bit;
    }

inv_mono : (i x y : ℕ) → i < 64 → x < 2 ^ 64 → y < 2 ^ 64 → bit i x ≤ bit i y → bit i (inv y) ≤ bit i (inv x)
inv_mono i x y l hx hy h = omega (arith, bit_not 64 i x l hx, bit_not 64 i y l hy)

module _ (a m b n : ℕ) (hm : m < 2 ^ 64) (hn : n < 2 ^ 64) where
  abbrev v : ℕ
  v = clear a m

  abbrev w : ℕ
  w = clear b n

  w_lt : w < 2 ^ 64
  w_lt = clear_lt b n

  -- the mask where p and q are the extremes, as words
  mask_lt : (p q : ℕ) → p < 2 ^ 64 → q < 2 ^ 64 → bit_or (bit_xor p q) (bit_or m n) < 2 ^ 64
  mask_lt p q hp hq = or_lt 64 (bit_xor p q) (bit_or m n) (xor_lt 64 p q hp hq) (or_lt 64 m n hm hn)

  mask_bit : (p q p' q' : ℕ) → p ≡ p' → q ≡ q' → (i : ℕ)
      → bit i (bit_or (bit_xor p q) (bit_or m n)) ≡ max ((bit i p' + bit i q') % 2) (max (bit i m) (bit i n))
  mask_bit p q p' q' ep eq i = rw (← ep, ← eq) (simp (bit-or, bit-xor))

  -- ---- sums

  abbrev add_mask : ℕ
  add_mask = bit_or (bit_xor (plus (plus (plus v w) m) n) (plus v w)) (bit_or m n)

  pub add_mask_lt : add_mask < 2 ^ 64
  add_mask_lt = mask_lt (plus (plus (plus v w) m) n) (plus v w) (omega arith) (omega arith)

  -- the greatest sum
  most-sum : plus (plus (plus v w) m) n ≡ plus (most a m) (most b n)
  most-sum = omega (arith, most-is a m hm, most-is b n hn)

  add_extremes : Extremes plus adds a m b n add_mask
  add_extremes =
      record {
        lo = w;
        hi = most b n;
        lo_lt = w_lt;
        hi_lt = most_lt b n hn;
        lo-held = held-least b n hn;
        hi-held = held-most b n hn;
        lo-under = λ y hy e. least_under b n hn y e;
        under-hi = λ y hy e. under-most b n hn y e;
        mask_lt = add_mask_lt;
        mask_bit = mask_bit (plus (plus (plus v w) m) n) (plus v w) (plus (most a m) (most b n)) (plus v w) most-sum refl;
      }

  pub add-sound : Sound plus a m b n (clear (plus v w) add_mask) add_mask
  add-sound = adder_sound plus adds a m b n add_mask add_extremes hm hn

  pub add-smallest : Smallest plus a m b n (clear (plus v w) add_mask) add_mask
  add-smallest = adder_smallest plus adds a m b n add_mask add_extremes hm hn

  -- ---- differences

  abbrev sub_mask : ℕ
  sub_mask = bit_or (bit_xor (plus (minus v w) m) (minus (minus v w) n)) (bit_or m n)

  pub sub_mask_lt : sub_mask < 2 ^ 64
  sub_mask_lt = mask_lt (plus (minus v w) m) (minus (minus v w) n) (omega arith) (omega arith)

  -- the greatest difference, and the least
  most-difference : plus (minus v w) m ≡ minus (most a m) w
  most-difference = omega (arith, most-is a m hm, w_lt)

  least-difference : minus (minus v w) n ≡ minus v (most b n)
  least-difference = omega (arith, most-is b n hn, w_lt, most_lt b n hn)

  sub_extremes : Extremes minus takes a m b n sub_mask
  sub_extremes =
      record {
        lo = most b n;
        hi = w;
        lo_lt = most_lt b n hn;
        hi_lt = w_lt;
        lo-held = held-most b n hn;
        hi-held = held-least b n hn;
        lo-under = λ y hy e i l. inv_mono i y (most b n) l hy (most_lt b n hn) (under-most b n hn y e i l);
        under-hi = λ y hy e i l. inv_mono i w y l w_lt hy (least_under b n hn y e i l);
        mask_lt = sub_mask_lt;
        mask_bit =
            mask_bit (plus (minus v w) m) (minus (minus v w) n) (minus (most a m) w) (minus v (most b n)) most-difference least-difference;
      }

  pub sub-sound : Sound minus a m b n (clear (minus v w) sub_mask) sub_mask
  sub-sound = adder_sound minus takes a m b n sub_mask sub_extremes hm hn

  pub sub-smallest : Smallest minus a m b n (clear (minus v w) sub_mask) sub_mask
  sub-smallest = adder_smallest minus takes a m b n sub_mask sub_extremes hm hn
