-- Bytes of words, and words of bytes, one byte at a time.
use Rattle.std.proofs.Common.{◌≡◌, ℕ, zero, suc, ◌/◌, ◌^◌, ◌<◌, ◌≤◌, List, [], ◌∷◌, length, refl, ap, arith}
use native.Mathlib.Nat.{pow-succ', pow-le-pow_right}
use Rattle.std.proofs.lemmas.List.{length-take}
use Rattle.words.specs.Widths.{bits_of, bytes_of}
use Rattle.words.specs.declared.width.Width.{Width}
use Rattle.words.specs.declared.width.Width.TheVariants.{W8, W16, W32, W64}
use Rattle.machine.specs.Memory.{word_of, bytes_in, part}

-- n bytes make a word below 256 ^ n
pub word_below : (bs : List ℕ) → word_of bs < 256 ^ length bs
word_below [] = omega arith
word_below (b ∷ bs) = rw (pow-succ' 256 (length bs)) (let h = word_below bs in omega arith)

pub bytes-long : (n x : ℕ) → length (bytes_in n x) ≡ n
bytes-long zero x = refl
bytes-long (suc n) x = ap suc (bytes-long n (x / 256))

short : (m : List ℕ) (i n : ℕ) → word_of (part m i n) < 256 ^ n
short m i n =
    let h = word_below (part m i n) in
    let l : length (part m i n) ≤ n = simp length-take (omega arith) in
    let p : 256 ^ length (part m i n) ≤ 256 ^ n = pow-le-pow_right (omega arith) l in
    omega arith

-- the word of a width's bytes is below that width's bound
pub width_below : (w : Width) (m : List ℕ) (i : ℕ) → word_of (part m i (bytes_of w)) < 2 ^ bits_of w
width_below W8 m i = short m i 1
width_below W16 m i = short m i 2
width_below W32 m i = short m i 4
width_below W64 m i = short m i 8
