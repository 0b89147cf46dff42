-- What the facts of an operand have to show.
use Rattle.std.specs.Prelude.{ℕ, ◌+◌, ◌%◌, Bool, cond, not, ◌&&◌, ◌||◌, Some, None, Option, ◌==◌, nat_lt}
use Rattle.words.specs.Widths.{bytes_of}
use Rattle.words.specs.declared.width.Width.{Width}
use Rattle.tristate.specs.Tristates.{known, unknown}
use Rattle.range.specs.Ranges.{least, most}
use Rattle.domain.specs.declared.facts.Facts.{Facts}
use Rattle.step.specs.declared.cause.Cause.{Cause}
use Rattle.step.specs.declared.cause.Cause.TheVariants.{Divisor, Shift, Beyond, Askew}

-- a divisor is above 0: it has a bit that is known to be set, or a least above 0
abbrev pub divisor_cause : Facts → Option Cause
divisor_cause f = cond (not (known f.bits == 0) || nat_lt 0 (least f.range)) None (Some Divisor)

-- a shift is by 63 at most
abbrev pub shift_cause : Facts → Option Cause
shift_cause f = cond (nat_lt 63 (most f.range)) (Some Shift) None

-- known and unknown bits are multiples of the width
abbrev pub is_even : Facts → ℕ → Bool
is_even f n = known f.bits % n == 0 && unknown f.bits % n == 0

-- the bytes lie in a buffer of the size, and the place is a multiple of the width
abbrev pub access_cause : Facts → Width → ℕ → Option Cause
access_cause f w size = cond (nat_lt size (most f.range + bytes_of w)) (Some Beyond) (cond (is_even f (bytes_of w)) None (Some Askew))
