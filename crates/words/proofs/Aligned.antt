-- A word is a multiple of 2^k where its known bits and its unknown ones are.
use Rattle.std.proofs.Common.{◌≡◌, ℕ, ◌-◌, ◌%◌, ◌^◌, ◌<◌, ◌≤◌, sym, ap, ◌∙◌, mod-lt, arith, pow_pos}
use Rattle.words.proofs.Bit.{bit, bit-mod, bit_zero, same_bits}
use Rattle.words.proofs.Held.{bit-clear}
use Rattle.words.specs.Ternary.{clear}

-- a multiple of 2^k has no bit below k
low_bit : (k i v : ℕ) → i < k → v % 2 ^ k ≡ 0 → bit i v ≡ 0
low_bit k i v l e = sym (bit-mod k i v l) ∙ ap (bit i) e ∙ bit_zero i

pub aligned : (k w m v : ℕ) → k ≤ 64 → m < 2 ^ 64 → clear w m ≡ v → v % 2 ^ k ≡ 0 → m % 2 ^ k ≡ 0 → w % 2 ^ k ≡ 0
aligned k w m v le fits e a b =
    same_bits k (w % 2 ^ k) 0 (mod-lt w (pow_pos k)) (pow_pos k)
    (λ i l.
    let known : bit i w - bit i m ≡ 0 = sym (bit-clear i w m (omega arith) fits) ∙ ap (bit i) e ∙ low_bit k i v l a in
    let unknown : bit i m ≡ 0 = low_bit k i m l b in
    let none : bit i w ≡ 0 = omega arith in
    bit-mod k i w l ∙ none ∙ sym (bit_zero i))
