-- The word that some bytes make, as that of eight bytes of which they are the low ones.
use Rattle.std.proofs.Common.{◌≡◌, ℕ, ◌+◌, ◌<◌, ◌≤◌, List, [], ◌∷◌, length, get_or, drop, ◌∙◌, subst, sym, ⊎_elim, arith}
use Rattle.std.proofs.lemmas.Bool.{cases_lt}
use Rattle.std.proofs.lemmas.List.{get_or-take, get_or-drop, get_or_past, length-take}
use Rattle.std.specs.Int.{w64, from_le_bytes}
use borrow.Rule.Slice.PartMut.{put_mid}
use Rattle.machine.specs.Memory.{word_of, part}

abbrev pub Bytes : List ℕ → Type 0
Bytes bs = (i : ℕ) → get_or bs i 0 < 256

pub part_bytes : (m : List ℕ) (a n : ℕ) → Bytes m → Bytes (part m a n)
part_bytes m a n small i =
    ⊎_elim
    (λ l. subst (λ b. b < 256) (sym (get_or-take n (drop a m) i 0 l ∙ get_or-drop a m i 0)) (small (a + i)))
    (λ (past : n ≤ i). let short : length (part m a n) ≤ i = simp length-take (omega arith) in let none = get_or_past (part m a n) i 0 short in omega arith)
    (cases_lt i n)

abbrev pub zeros : List ℕ
zeros = 0 ∷ 0 ∷ 0 ∷ 0 ∷ 0 ∷ 0 ∷ 0 ∷ 0 ∷ []

-- over eight zeros
pub word_over : (bs : List ℕ) → length bs ≤ 8 → Bytes bs → from_le_bytes w64 (put_mid 0 (length bs) zeros bs) ≡ word_of bs
word_over [] few small = omega arith
word_over (a ∷ []) few small = omega (arith, small 0)
word_over (a ∷ b ∷ []) few small = omega (arith, small 0, small 1)
word_over (a ∷ b ∷ c ∷ []) few small = omega (arith, small 0, small 1, small 2)
word_over (a ∷ b ∷ c ∷ d ∷ []) few small = omega (arith, small 0, small 1, small 2, small 3)
word_over (a ∷ b ∷ c ∷ d ∷ e ∷ []) few small = omega (arith, small 0, small 1, small 2, small 3, small 4)
word_over (a ∷ b ∷ c ∷ d ∷ e ∷ f ∷ []) few small = omega (arith, small 0, small 1, small 2, small 3, small 4, small 5)
word_over (a ∷ b ∷ c ∷ d ∷ e ∷ f ∷ g ∷ []) few small = omega (arith, small 0, small 1, small 2, small 3, small 4, small 5, small 6)
word_over (a ∷ b ∷ c ∷ d ∷ e ∷ f ∷ g ∷ h ∷ []) few small = omega (arith, small 0, small 1, small 2, small 3, small 4, small 5, small 6, small 7)
word_over (a ∷ b ∷ c ∷ d ∷ e ∷ f ∷ g ∷ h ∷ i ∷ bs) few small = absurd (omega arith)
