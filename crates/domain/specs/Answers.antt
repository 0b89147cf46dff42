-- What a tristate number and a range tell of their words, and what they make of facts.
use Rattle.std.specs.Prelude.{Option}
use Rattle.std.specs.Option.{option_and_then}
use Rattle.domain.specs.declared.facts.Facts.{Facts}
use Rattle.range.specs.declared.Range.{Range}
use Rattle.range.specs.Ranges as ranges
use Rattle.range.specs.Ranges.{reach, span}
use Rattle.tristate.specs.declared.Tristate.{Tristate}
use Rattle.tristate.specs.Tristates as bits

-- itself, and from its least word to its greatest
abbrev pub bits_told : Tristate → Facts
bits_told a = record { bits = bits.reading a; range = reach a }

-- the bits that its ends share, and itself
abbrev pub range_told : Range → Facts
range_told a = record { bits = span a; range = ranges.reading a }

-- the common part with the own kind in the facts, and then with what the other tells of it
abbrev pub bits_absorbed : Tristate → Facts → Option Tristate
bits_absorbed a f = option_and_then (λ t. bits.common t (span f.range)) (bits.common a f.bits)

abbrev pub range_absorbed : Range → Facts → Option Range
range_absorbed a f = option_and_then (λ r. ranges.common r (reach f.bits)) (ranges.common a f.range)
