-- What a pass over a text leaves to the next.
use Rattle.std.specs.Prelude.{ℕ, ◌+◌, List, [], ◌∷◌, Ok, Err, Result}
use Rattle.lexer.specs.Lines.{Piece}
use Rattle.syntax.specs.declared.fault.LineFault.{LineFault}
use Rattle.syntax.specs.declared.statement.Statement.{Statement}
use Rattle.syntax.specs.declared.statement.Statement.TheVariants.{Label, Instruction as Instructs}
use Rattle.grammar.specs.Reading.{Fields, said}

-- how many of the lines are instructions
abbrev pub instructing : Result (Statement Piece) LineFault → ℕ
instructing (Ok (Instructs i)) = 1
instructing (Ok (Label n)) = 0
instructing (Err e) = 0

abbrev pub instructions_in : List Fields → ℕ
instructions_in [] = 0
instructions_in (l ∷ ls) = instructing (said l) + instructions_in ls
