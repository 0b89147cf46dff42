-- The laws of ranges.
use Rattle.std.proofs.Common.{ℕ, ◌^◌, ◌<◌, ◌⊎◌, Decides, arith, rules}
use Rattle.domain.specs.declared.facts.Facts.{Facts}
use Rattle.domain.specs.Answers.{range_absorbed, range_told}
use Rattle.domain.specs.Facts.{Meets}
use Rattle.domain.specs.Onward.{twice-holds, twice-within}
use Rattle.range.specs.declared.Range.{Range}
use Rattle.range.specs.Ranges.{Within, common, front, full, hull, member, only, reach}
use Rattle.range.proofs.Laws.{common_keeps, common-within, reach-holds, span-holds}
use Rattle.words.specs.declared.width.Width.{Width}
use Rattle.words.specs.Sets.{HoldsIn}
use Rattle.words.specs.Widths.{bits_of}
use Rattle.words.specs.Words.{Word}

pub full-holds : (w : ℕ) → Word w → Within full w
full-holds w h = search rules

pub exact-holds : (w : ℕ) → Word w → Within (only w) w
exact-holds w h = search rules

pub front-holds : (k : Width) (w : ℕ) → w < 2 ^ bits_of k → Within (front (bits_of k)) w
front-holds k w h = search rules

pub member_decides : (a : Range) (w : ℕ) → Word w → Decides (member a w) (Within a w)
member_decides a w h = search rules

pub hull-holds : (a b : Range) (w : ℕ) → Word w → Within a w ⊎ Within b w → Within (hull a b) w
hull-holds a b w hw h = search rules

pub told-met : (a : Range) (w : ℕ) → Word w → Within a w → Meets (range_told a) w
told-met a w hw h = (span-holds a w hw h, omega arith)

pub absorbed-holds : (a : Range) (f : Facts) (w : ℕ) → Word w → Within a w → Meets f w → HoldsIn Within (range_absorbed a f) w
absorbed-holds a f w hw h m =
    twice-holds Within common a f.range (reach f.bits) w (λ x y. common_keeps x y w) h m.1 (reach-holds f.bits w hw m.0)

pub absorbed-within : (a : Range) (f : Facts) (w : ℕ) → Word w → HoldsIn Within (range_absorbed a f) w → Within a w
absorbed-within a f w _ h = twice-within Within common a f.range (reach f.bits) w (λ x y. common-within x y w) h
