-- The number of each refusal.
use Rattle.std.specs.Prelude.{ℕ}
use Rattle.report.specs.declared.refusal.PrintRefusal.{PrintRefusal}
use Rattle.report.specs.declared.refusal.PrintRefusal.TheVariants.{TooShort}

abbrev pub refusal_number : PrintRefusal → ℕ
refusal_number TooShort = 16
