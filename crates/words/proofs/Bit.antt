-- The bits of a number one by one, lowest first, and what each operation on words does to them.
-- A bit is 0 or 1, so that `omega` reads a statement about bits: `and` is `min`, `or` is `max`, clearing is `-`.
use Rattle.std.proofs.Common.{◌≡◌, ℕ, zero, suc, ◌+◌, ◌-◌, ◌*◌, ◌/◌, ◌%◌, ◌^◌, ◌<◌, ◌≤◌, min, max, ◌≢◌, sym, refl, ap, ◌∙◌, subst, le_of_eq, le_refl, add-zero, add-suc, le_antisymm, div-one, add-one, one-add, arith, pow_pos, shr-shr}
use lib.Arith.{lt-one}
use lib.Pow.{shl-shr, field, mod-mod-pow}
use lib.Bits.{bit_and, bit_or, bit_xor, and_step, or_step, xor_add_and, xor_shr, shifted_half, shifted_even}

pub bit : ℕ → ℕ → ℕ
bit zero w = w % 2
bit (suc i) w = bit i (w / 2)

pub bit_le : (i w : ℕ) → bit i w ≤ 1
unfolding bit
bit_le zero w = omega arith
bit_le (suc i) w = bit_le i (w / 2)

pub bit-first : (w : ℕ) → bit 0 w ≡ w % 2
unfolding bit
bit-first w = refl

-- ---- two numbers of k bits with the same bits are the same

pub same_bits : (k a b : ℕ) → a < 2 ^ k → b < 2 ^ k → ((i : ℕ) → i < k → bit i a ≡ bit i b) → a ≡ b
unfolding bit
same_bits zero a b ha hb h = omega (arith, lt-one ha, lt-one hb)
same_bits (suc k) a b ha hb h =
    let half : a / 2 ≡ b / 2 = same_bits k (a / 2) (b / 2) (omega arith) (omega arith) (λ i l. h (suc i) (omega arith)) in
    let low : a % 2 ≡ b % 2 = h 0 (omega arith) in
    omega arith

-- ---- a number whose bits are all no more is no more

pub le_bits : (k a b : ℕ) → a < 2 ^ k → b < 2 ^ k → ((i : ℕ) → i < k → bit i a ≤ bit i b) → a ≤ b
unfolding bit
le_bits zero a b ha hb h = omega (arith, lt-one ha)
le_bits (suc k) a b ha hb h =
    let half : a / 2 ≤ b / 2 = le_bits k (a / 2) (b / 2) (omega arith) (omega arith) (λ i l. h (suc i) (omega arith)) in
    let low : a % 2 ≤ b % 2 = h 0 (omega arith) in
    omega arith

-- ---- and, or, exclusive or

and_half : (a b : ℕ) → bit_and a b / 2 ≡ bit_and (a / 2) (b / 2)
and_half a b = omega (arith, and_step a b)

pub bit-and : (i a b : ℕ) → bit i (bit_and a b) ≡ min (bit i a) (bit i b)
unfolding bit
bit-and zero a b = omega (arith, and_step a b)
bit-and (suc i) a b = ap (bit i) (and_half a b) ∙ bit-and i (a / 2) (b / 2)

or_half : (a b : ℕ) → bit_or a b / 2 ≡ bit_or (a / 2) (b / 2)
or_half a b = omega (arith, or_step a b)

pub bit-or : (i a b : ℕ) → bit i (bit_or a b) ≡ max (bit i a) (bit i b)
unfolding bit
bit-or zero a b = omega (arith, or_step a b)
bit-or (suc i) a b = ap (bit i) (or_half a b) ∙ bit-or i (a / 2) (b / 2)

pub bit-xor : (i a b : ℕ) → bit i (bit_xor a b) ≡ (bit i a + bit i b) % 2
unfolding bit
bit-xor zero a b = omega (arith, xor_add_and a b)
bit-xor (suc i) a b = ap (bit i) (xor_shr a b 1) ∙ bit-xor i (a / 2) (b / 2)

-- ---- every bit turned, in a word of k bits; a word's k low bits

pub bit_not : (k i m : ℕ) → i < k → m < 2 ^ k → bit i ((2 ^ k - 1) - m) ≡ 1 - bit i m
unfolding bit
bit_not zero i m l h = omega arith
bit_not (suc k) zero m l h = omega (arith, pow_pos k)
bit_not (suc k) (suc i) m l h =
    let half : ((2 ^ suc k - 1) - m) / 2 ≡ (2 ^ k - 1) - m / 2 = omega (arith, pow_pos k) in
    ap (bit i) half ∙ bit_not k i (m / 2) (omega arith) (omega arith)

mod_half : (k w : ℕ) → w % 2 ^ suc k / 2 ≡ (w / 2) % 2 ^ k
mod_half k w = subst (λ (j : ℕ). w % 2 ^ j / 2 ≡ (w / 2) % 2 ^ k) (add-one k) (field w k 1)

mod-even : (k w : ℕ) → w % 2 ^ suc k % 2 ≡ w % 2
mod-even k w = subst (λ (j : ℕ). w % 2 ^ j % 2 ≡ w % 2) (add-one k) (mod-mod-pow w k 1)

pub bit-mod : (k i w : ℕ) → i < k → bit i (w % 2 ^ k) ≡ bit i w
unfolding bit
bit-mod zero i w l = omega arith
bit-mod (suc k) zero w l = mod-even k w
bit-mod (suc k) (suc i) w l = ap (bit i) (mod_half k w) ∙ bit-mod k i (w / 2) (omega arith)

-- ---- sums: the carry into bit i

pub carry : ℕ → ℕ → ℕ → ℕ → ℕ
carry zero x y c = c
carry (suc i) x y c = carry i (x / 2) (y / 2) ((x % 2 + y % 2 + c) / 2)

pub bit-add : (i x y c : ℕ) → c ≤ 1 → bit i (x + y + c) ≡ (bit i x + bit i y + carry i x y c) % 2
unfolding bit carry
bit-add zero x y c h = omega arith
bit-add (suc i) x y c h =
    let half : (x + y + c) / 2 ≡ x / 2 + y / 2 + (x % 2 + y % 2 + c) / 2 = omega arith in
    ap (bit i) half ∙ bit-add i (x / 2) (y / 2) ((x % 2 + y % 2 + c) / 2) (omega arith)

pub carry_le : (i x y c : ℕ) → c ≤ 1 → carry i x y c ≤ 1
unfolding carry
carry_le zero x y c h = h
carry_le (suc i) x y c h = carry_le i (x / 2) (y / 2) ((x % 2 + y % 2 + c) / 2) (omega arith)

-- more bits below i, no less a carry
pub carry_mono : (i x y u w c : ℕ) → ((j : ℕ) → j < i → bit j x ≤ bit j u) → ((j : ℕ) → j < i → bit j y ≤ bit j w)
    → (d : ℕ) → c ≤ d → carry i x y c ≤ carry i u w d
unfolding carry bit
carry_mono zero x y u w c hx hy d h = h
carry_mono (suc i) x y u w c hx hy d h =
    let ex : x % 2 ≤ u % 2 = hx 0 (omega arith) in
    let ey : y % 2 ≤ w % 2 = hy 0 (omega arith) in
    carry_mono i (x / 2) (y / 2) (u / 2) (w / 2) ((x % 2 + y % 2 + c) / 2)
    (λ j l. hx (suc j) (omega arith)) (λ j l. hy (suc j) (omega arith)) ((u % 2 + w % 2 + d) / 2) (omega arith)

-- the carry into bit i is made by the bits below
pub carry_same : (i x y u w c : ℕ) → ((j : ℕ) → j < i → bit j x ≡ bit j u) → ((j : ℕ) → j < i → bit j y ≡ bit j w)
    → carry i x y c ≡ carry i u w c
carry_same i x y u w c hx hy =
    le_antisymm (carry_mono i x y u w c (λ j l. le_of_eq (hx j l)) (λ j l. le_of_eq (hy j l)) c (le_refl c))
    (carry_mono i u w x y c (λ j l. le_of_eq (sym (hx j l))) (λ j l. le_of_eq (sym (hy j l))) c (le_refl c))

-- ---- a power of two has one bit

pub bit_zero : (i : ℕ) → bit i 0 ≡ 0
unfolding bit
bit_zero zero = refl
bit_zero (suc i) = bit_zero i

pub bit-pow : (i : ℕ) → bit i (2 ^ i) ≡ 1
unfolding bit
bit-pow zero = refl
bit-pow (suc i) =
    let half : 2 ^ suc i / 2 ≡ 2 ^ i = omega arith in
    ap (bit i) half ∙ bit-pow i

pub bit_pow_other : (j i : ℕ) → j ≢ i → bit j (2 ^ i) ≡ 0
unfolding bit
bit_pow_other zero zero h = absurd (h refl)
bit_pow_other zero (suc i) h = omega arith
bit_pow_other (suc j) zero h = bit_zero j
bit_pow_other (suc j) (suc i) h =
    let half : 2 ^ suc i / 2 ≡ 2 ^ i = omega arith in
    let ne : j ≢ i = omega arith in
    ap (bit j) half ∙ bit_pow_other j i ne

-- ---- shifts

-- a number of k bits has none from k on
pub bit_high : (k j a : ℕ) → a < 2 ^ k → k ≤ j → bit j a ≡ 0
unfolding bit
bit_high zero j a h l = ap (bit j) (lt-one h) ∙ bit_zero j
bit_high (suc k) zero a h l = omega arith
bit_high (suc k) (suc j) a h l = bit_high k j (a / 2) (omega arith) (omega arith)

pub bit-right : (i s a : ℕ) → bit i (a / 2 ^ s) ≡ bit (i + s) a
unfolding bit
bit-right i zero a = ap (bit i) (div-one a) ∙ ap (λ (j : ℕ). bit j a) (sym (add-zero i))
bit-right i (suc s) a =
    ap (λ (n : ℕ). bit i (a / 2 ^ n)) (sym (one-add s)) ∙ ap (bit i) (sym (shr-shr a 1 s)) ∙ bit-right i s (a / 2)
    ∙ ap (λ (j : ℕ). bit j a) (sym (add-suc i s))

pub bit-left : (i s a : ℕ) → bit (i + s) (a * 2 ^ s) ≡ bit i a
bit-left i s a = sym (bit-right i s (a * 2 ^ s)) ∙ ap (bit i) (shl-shr a s)

pub bit-left-low : (s j a : ℕ) → j < s → bit j (a * 2 ^ s) ≡ 0
unfolding bit
bit-left-low zero j a l = omega arith
bit-left-low (suc s) zero a l = shifted_even a s
bit-left-low (suc s) (suc j) a l = ap (bit j) (shifted_half a s) ∙ bit-left-low s j a (omega arith)
