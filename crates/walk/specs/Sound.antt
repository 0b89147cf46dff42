-- What a check that reports nothing promises of every free run.
use Rattle.std.specs.Prelude.{List, Option}
use Rattle.words.specs.Sets.{HoldsIn}
use Rattle.domain.specs.declared.domain.Domain.{Ghosts}
use Rattle.rule.specs.declared.record.Record.{Record}
use Rattle.machine.specs.Machine.{NeverStuck, Ends, Completes, Returns}

-- no free run gets stuck, each ends within as many steps as there are instructions, from any four words one returns, and
-- the answer holds every word that is returned
pub record Sound {D : Type 0} (d : Ghosts D) (p : List Record) (answer : Option D) : Type 0 where
  pub never_stuck : NeverStuck p
  pub ends : Ends p
  pub completes : Completes p
  pub returns : Returns p (HoldsIn d.holds answer)
