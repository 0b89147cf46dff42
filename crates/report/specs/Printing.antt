-- What comes of printing a text into an output.
use Rattle.std.specs.Prelude.{ℕ, cond, List, ◌++◌, length, drop, Ok, Err, Result, nat_le}
use Rattle.report.specs.declared.refusal.PrintRefusal.{PrintRefusal}
use Rattle.report.specs.declared.refusal.PrintRefusal.TheVariants.{TooShort}

-- how many bytes are printed, where all of them fit
abbrev pub printed : List ℕ → List ℕ → Result ℕ PrintRefusal
printed text output = cond (nat_le (length text) (length output)) (Ok (length text)) (Err TooShort)

-- the output after that: the bytes behind the text stay, and all of them where it does not fit
abbrev pub output_after : List ℕ → List ℕ → List ℕ
output_after text output = cond (nat_le (length text) (length output)) (text ++ drop (length text) output) output
