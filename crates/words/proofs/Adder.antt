-- One law for sums and differences. Both are the sum of x, of `k y` and of a carry t: `k` leaves y as it is where t is 0, and turns each of
-- its bits where t is 1. The carry into a bit grows with the bits below it, so that two pairs of operands have the least and the greatest
-- carry into every bit at once: (least x, lo) and (most x, hi).
use Rattle.std.proofs.Common.{◌≡◌, ℕ, ◌+◌, ◌%◌, ◌^◌, ◌<◌, ◌≤◌, max, ◌≢◌, ◌⊎◌, sym, refl, ap, ◌∙◌, inl, inr, le_refl, arith}
use native.Mathlib.Decide.{ℕ_discrete}
use Rattle.words.specs.Ternary.{clear, Held, Sound, Smallest}
use Rattle.words.proofs.Bit.{bit, bit_le, bit-or, carry, carry_le, carry_mono, carry_same}
use Rattle.words.proofs.Held.{most, turned, clear_lt, bit-clear, bit-held, held, held-least, held-most, most_lt, least_under, under-most, turned_lt, bit-turned, bit_turned_other, held-turned, unknown, within}

one_of : (p q r : ℕ) → max p (max q r) ≡ 1 → (q ≡ 1) ⊎ ((r ≡ 1) ⊎ (p ≡ 1))
one_of p q r h =
    elim (ℕ_discrete q 1) [ yes e ↦ inl e | no f ↦ elim (ℕ_discrete r 1) [ yes e ↦ inr (inl e) | no g ↦ inr (inr (omega arith)) ] ]

-- the operation, and what is known of it
pub record Adds (op : ℕ → ℕ → ℕ) : Type 0 where
  pub k : ℕ → ℕ
  pub t : ℕ
  pub t_le : t ≤ 1
  pub k-bit : (i y : ℕ) → i < 64 → y < 2 ^ 64 → bit i (k y) ≡ (bit i y + t) % 2
  pub op_bit : (i x y : ℕ) → i < 64 → y < 2 ^ 64 → bit i (op x y) ≡ (bit i x + bit i (k y) + carry i x (k y) t) % 2

-- the operands' extremes, and the mask
pub record Extremes (op : ℕ → ℕ → ℕ) (g : Adds op) (a m b n mask : ℕ) : Type 0 where
  pub lo : ℕ
  pub hi : ℕ
  pub lo_lt : lo < 2 ^ 64
  pub hi_lt : hi < 2 ^ 64
  pub lo-held : Held b n lo
  pub hi-held : Held b n hi
  pub lo-under : (y : ℕ) → y < 2 ^ 64 → Held b n y → (i : ℕ) → i < 64 → bit i (g.k lo) ≤ bit i (g.k y)
  pub under-hi : (y : ℕ) → y < 2 ^ 64 → Held b n y → (i : ℕ) → i < 64 → bit i (g.k y) ≤ bit i (g.k hi)
  pub mask_lt : mask < 2 ^ 64
  pub mask_bit : (i : ℕ) → bit i mask ≡ max ((bit i (op (most a m) hi) + bit i (op (clear a m) lo)) % 2) (max (bit i m) (bit i n))

module _ (op : ℕ → ℕ → ℕ) (g : Adds op) (a m b n mask : ℕ) (e : Extremes op g a m b n mask)
    (hm : m < 2 ^ 64) (hn : n < 2 ^ 64) where
  abbrev v : ℕ
  v = clear a m

  abbrev w : ℕ
  w = clear b n

  v_lt : v < 2 ^ 64
  v_lt = clear_lt a m

  w_lt : w < 2 ^ 64
  w_lt = clear_lt b n

  -- at a known bit of the mask each result has the bit that the least has
  agrees : (x y : ℕ) → y < 2 ^ 64 → Held a m x → Held b n y → (i : ℕ) → i < 64 → bit i mask ≡ 0 → bit i (op x y) ≡ bit i (op v e.lo)
  agrees x y hy ex ey i l known =
      let low : carry i v (g.k e.lo) g.t ≤ carry i x (g.k y) g.t =
      carry_mono i v (g.k e.lo) x (g.k y) g.t (λ j h. least_under a m hm x ex j (omega arith))
      (λ j h. e.lo-under y hy ey j (omega arith)) g.t (le_refl g.t) in
      let high : carry i x (g.k y) g.t ≤ carry i (most a m) (g.k e.hi) g.t =
      carry_mono i x (g.k y) (most a m) (g.k e.hi) g.t (λ j h. under-most a m hm x ex j (omega arith))
      (λ j h. e.under-hi y hy ey j (omega arith)) g.t (le_refl g.t) in
      let top : carry i (most a m) (g.k e.hi) g.t ≤ 1 = carry_le i (most a m) (g.k e.hi) g.t g.t_le in
      let m0 : bit i m ≡ 0 = omega (arith, e.mask_bit i) in
      let n0 : bit i n ≡ 0 = omega (arith, e.mask_bit i) in
      let same : (bit i (op (most a m) e.hi) + bit i (op v e.lo)) % 2 ≡ 0 = omega (arith, e.mask_bit i) in
      let xm : bit i (most a m) ≡ bit i v = omega (arith, bit-or i v m) in
      let xv : bit i x ≡ bit i v = omega (arith, bit-held a m x hm ex i l, bit-clear i a m l hm) in
      let yb : bit i y ≡ bit i b = omega (arith, bit-held b n y hn ey i l) in
      let lb : bit i e.lo ≡ bit i b = omega (arith, bit-held b n e.lo hn e.lo-held i l) in
      let hb' : bit i e.hi ≡ bit i b = omega (arith, bit-held b n e.hi hn e.hi-held i l) in
      let yk : bit i (g.k y) ≡ bit i (g.k e.lo) =
      g.k-bit i y l hy ∙ ap (λ (d : ℕ). (d + g.t) % 2) (yb ∙ sym lb) ∙ sym (g.k-bit i e.lo l e.lo_lt) in
      let hk : bit i (g.k e.hi) ≡ bit i (g.k e.lo) =
      g.k-bit i e.hi l e.hi_lt ∙ ap (λ (d : ℕ). (d + g.t) % 2) (hb' ∙ sym lb) ∙ sym (g.k-bit i e.lo l e.lo_lt) in
      omega (arith, g.op_bit i x y l hy, g.op_bit i v e.lo l e.lo_lt, g.op_bit i (most a m) e.hi l e.hi_lt)

  pub adder_sound : Sound op a m b n (clear (op v w) mask) mask
  adder_sound x y hx hy ex ey =
      held (clear (op v w) mask) mask (op x y) e.mask_lt
      (λ i l known. omega (
        arith,
        agrees x y hy ex ey i l known,
        agrees v w w_lt (held-least a m hm) (held-least b n hn) i l known,
        bit-clear i (op v w) mask l e.mask_lt,
      ))

  pub adder_smallest : Smallest op a m b n (clear (op v w) mask) mask
  adder_smallest d q hq all =
      within (clear (op v w) mask) mask d q (op v w) e.mask_lt hq (sym (held-least (op v w) mask e.mask_lt)) plain
      (λ i l one. pick i l
      (one_of ((bit i (op (most a m) e.hi) + bit i (op v e.lo)) % 2) (bit i m) (bit i n) (sym (e.mask_bit i) ∙ one)))
    where
      plain : Held d q (op v w)
      plain = all v w v_lt w_lt (held-least a m hm) (held-least b n hn)

      down : Held d q (op v e.lo)
      down = all v e.lo v_lt e.lo_lt (held-least a m hm) e.lo-held

      up : Held d q (op (most a m) e.hi)
      up = all (most a m) e.hi (most_lt a m hm) e.hi_lt (held-most a m hm) e.hi-held

      pick : (i : ℕ) → i < 64 → (bit i m ≡ 1) ⊎ ((bit i n ≡ 1) ⊎ ((bit i (op (most a m) e.hi) + bit i (op v e.lo)) % 2 ≡ 1)) → bit i q ≡ 1
      pick i l (inl one) =
          let u : ℕ = turned a m i in
          let same : carry i u (g.k w) g.t ≡ carry i v (g.k w) g.t =
          carry_same i u (g.k w) v (g.k w) g.t (λ j h. bit_turned_other a m hm i j (omega arith)) (λ j h. refl) in
          unknown d q (op v w) (op u w) i hq l plain
          (all u w (turned_lt a m hm i l) w_lt (held-turned a m hm i l one) (held-least b n hn))
          (omega (arith, same, g.op_bit i v w l w_lt, g.op_bit i u w l w_lt, bit-turned a m hm i, bit-clear i a m l hm, bit_le i a))
      pick i l (inr (inl one)) =
          let u : ℕ = turned b n i in
          let u-lt : u < 2 ^ 64 = turned_lt b n hn i l in
          let same : carry i v (g.k u) g.t ≡ carry i v (g.k w) g.t =
          carry_same i v (g.k u) v (g.k w) g.t (λ j h. refl)
          (λ j h. let j64 : j < 64 = omega arith in let ne : j ≢ i = omega arith in
          g.k-bit j u j64 u-lt ∙ ap (λ (d : ℕ). (d + g.t) % 2) (bit_turned_other b n hn i j ne) ∙ sym (g.k-bit j w j64 w_lt)) in
          let kw : bit i (g.k u) ≢ bit i (g.k w) =
          omega (arith, g.k-bit i u l u-lt, g.k-bit i w l w_lt, bit-turned b n hn i, bit-clear i b n l hn, bit_le i b) in
          unknown d q (op v w) (op v u) i hq l plain
          (all v u v_lt u-lt (held-least a m hm) (held-turned b n hn i l one))
          (omega (arith, same, kw, g.op_bit i v w l w_lt, g.op_bit i v u l u-lt, bit_le i (g.k u), bit_le i (g.k w)))
      pick i l (inr (inr differ)) = unknown d q (op v e.lo) (op (most a m) e.hi) i hq l down up (omega arith)
