-- The number of each cause of a report.
use Rattle.std.specs.Prelude.{ℕ}
use Rattle.step.specs.declared.cause.Cause.{Cause}
use Rattle.step.specs.declared.cause.Cause.TheVariants.{Unset, Divisor, Shift, Beyond, Askew}

abbrev pub cause_number : Cause → ℕ
cause_number Unset = 1
cause_number Divisor = 2
cause_number Shift = 3
cause_number Beyond = 4
cause_number Askew = 5
