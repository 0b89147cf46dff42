-- What is told of a word: known bits and a range.
use Rattle.std.specs.Prelude.{ℕ}
use Rattle.std.specs.Option.{unwrap_or}
use Rattle.domain.specs.declared.facts.Facts.{Facts}
use Rattle.range.specs.declared.Range.{Range}
use Rattle.range.specs.Ranges as ranges
use Rattle.tristate.specs.declared.Tristate.{Tristate}
use Rattle.tristate.specs.Tristates as bits

-- a word meets the facts if both hold it
abbrev pub Meets : Facts → ℕ → Type 0
Meets f w = bits.Holds f.bits w × ranges.Within f.range w

abbrev pub facts : Tristate → Range → Facts
facts t r = record { bits = t; range = r }

-- the common parts, kind by kind; where there is none, the first's stands
abbrev pub combined : Facts → Facts → Facts
combined f g =
    facts (unwrap_or (bits.common f.bits g.bits) (bits.reading f.bits)) (unwrap_or (ranges.common f.range g.range) (ranges.reading f.range))
