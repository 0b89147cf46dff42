-- Shifts of tristate numbers: sound, and smallest. One law for every operation that moves bits.
use Rattle.std.proofs.Common.{◌≡◌, ℕ, ◌+◌, ◌-◌, ◌*◌, ◌^◌, ◌<◌, ◌⊎◌, sym, refl, ap, ◌∙◌, inl, inr, arith}
use native.Mathlib.Decide.{dec_lt}
use lib.Pow.{shr_le}
use Rattle.words.specs.Ternary.{clear, Held, Sound₁, Smallest₁}
use Rattle.words.specs.Words.{left, right}
use Rattle.words.proofs.Bit.{bit, bit_le, bit-or, bit-mod, bit_high, bit-right, bit-left, bit-left-low}
use Rattle.words.proofs.Held.{most, clear_lt, bit-clear, bit-held, held, held-least, held-most, most_lt, unknown, within}

-- each bit of `f a` is a bit of a, or 0
abbrev pub Moves : (ℕ → ℕ) → Type 0
Moves f =
    (i : ℕ) → i < 64
    → ((a : ℕ) → a < 2 ^ 64 → bit i (f a) ≡ 0) ⊎ ((k : ℕ) × (k < 64) × ((a : ℕ) → a < 2 ^ 64 → bit i (f a) ≡ bit k a))

pub right-moves : (s : ℕ) → Moves (right s)
right-moves s i l =
    elim (dec_lt (i + s) 64)
    [ yes h ↦ inr (i + s, h, λ a ha. bit-right i s a) | no h ↦ inl (λ a ha. bit-right i s a ∙ bit_high 64 (i + s) a ha (omega arith)) ]

pub left-moves : (s : ℕ) → Moves (left s)
left-moves s i l =
    elim (dec_lt i s) [
      | yes h ↦ inl (λ a ha. bit-mod 64 i (a * 2 ^ s) l ∙ bit-left-low s i a h)
      | no h ↦ inr (i - s, omega arith, λ a ha. bit-mod 64 i (a * 2 ^ s) l ∙ ap (λ (j : ℕ). bit j (a * 2 ^ s)) (omega arith) ∙ bit-left (i - s) s a)
    ]

pub right_lt : (s a : ℕ) → a < 2 ^ 64 → right s a < 2 ^ 64
right_lt s a h = omega (arith, shr_le a s)

pub left_lt : (s a : ℕ) → a < 2 ^ 64 → left s a < 2 ^ 64
left_lt s a h = omega arith

module _ (f : ℕ → ℕ) (moves : Moves f) (f_lt : (a : ℕ) → a < 2 ^ 64 → f a < 2 ^ 64) (a m : ℕ) (hm : m < 2 ^ 64) where
  abbrev v : ℕ
  v = clear a m

  v_lt : v < 2 ^ 64
  v_lt = clear_lt a m

  pub moved-sound : Sound₁ f a m (f v) (f m)
  moved-sound x hx e = held (f v) (f m) (f x) (f_lt m hm) go
    where
      go : (i : ℕ) → i < 64 → bit i (f m) ≡ 0 → bit i (f x) ≡ bit i (f v)
      go i l known =
          elim (moves i l) [
            | inl none ↦ none x hx ∙ sym (none v v_lt)
            | inr p ↦ omega (arith, p.2 m hm, p.2 x hx, p.2 v v_lt, bit-held a m x hm e p.0 p.1, bit-clear p.0 a m p.1 hm)
          ]

  pub moved-smallest : Smallest₁ f a m (f v) (f m)
  moved-smallest d q hq all = within (f v) (f m) d q (f v) (f_lt m hm) hq refl at_least go
    where
      at_least : Held d q (f v)
      at_least = all v v_lt (held-least a m hm)

      at_most : Held d q (f (most a m))
      at_most = all (most a m) (most_lt a m hm) (held-most a m hm)

      go : (i : ℕ) → i < 64 → bit i (f m) ≡ 1 → bit i q ≡ 1
      go i l one =
          unknown d q (f v) (f (most a m)) i hq l at_least at_most
          (elim (moves i l) [
            | inl none ↦ omega (arith, none m hm)
            | inr p ↦ omega
                (arith, p.2 m hm, p.2 v v_lt, p.2 (most a m) (most_lt a m hm), bit-or p.0 v m, bit-clear p.0 a m p.1 hm, bit_le p.0 a)
          ])
