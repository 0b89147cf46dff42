-- The leading zeros and the length make up a word.
use Rattle.std.proofs.Common.{◌≡◌, ℕ, ◌-◌, ◌/◌, ◌^◌, ◌<◌, ◌≤◌, Option, Some, None, unwrap_or, sym, ap, ◌∙◌, arith}
use Rattle.std.specs.Prelude.{SomeIff}
use lib.Count.{count_leading_zeros, leading_le}
use Rattle.words.proofs.Ends.{length_zeros, ones_right}
use Rattle.range.proofs.filled.Goals as goal

-- no shift by all 64, and then there are no ones
ones : (shifted : Option ℕ) (z : ℕ) → z ≤ 64 → SomeIff shifted (z < 64) ((2 ^ 64 - 1) / 2 ^ z) → unwrap_or shifted 0 ≡ 2 ^ (64 - z) - 1
ones (Some w) z h is = is.1 ∙ ones_right z h
ones None z h is = let e : 0 ≡ 64 - z = omega arith in ap (λ (n : ℕ). 2 ^ n - 1) e

pub returns : goal.returns
returns c =
    let zeros : ℕ = count_leading_zeros 64 c.args.word in
    c.unwrap_or.ensures ∙ ones c.checked_shr.result zeros (leading_le 64 c.args.word) c.checked_shr.ensures
    ∙ ap (λ (n : ℕ). 2 ^ n - 1) (sym (length_zeros 64 c.args.word))
