-- The numbers of the refusals.
use Rattle.std.specs.Prelude.{ℕ}
use Rattle.checker.specs.declared.refusal.CheckRefusal.{CheckRefusal}
use Rattle.checker.specs.declared.refusal.CheckRefusal.TheVariants.{NoRule, NoRoom}
use Rattle.checker.specs.declared.refusal.FillRefusal.{FillRefusal}
use Rattle.checker.specs.declared.refusal.FillRefusal.TheVariants.{WrongMemory, NoPlace}
use Rattle.checker.specs.declared.refusal.PassRefusal.{PassRefusal}
use Rattle.checker.specs.declared.refusal.PassRefusal.TheVariants.{Unclean}
use Rattle.checker.specs.declared.refusal.RunRefusal.{RunRefusal}
use Rattle.checker.specs.declared.refusal.RunRefusal.TheVariants as run

abbrev pub check_number : CheckRefusal → ℕ
check_number NoRule = 12
check_number NoRoom = 12

abbrev pub pass_number : PassRefusal → ℕ
pass_number Unclean = 13

abbrev pub fill_number : FillRefusal → ℕ
fill_number WrongMemory = 14
fill_number NoPlace = 15

abbrev pub run_number : RunRefusal → ℕ
run_number run.WrongMemory = 14
