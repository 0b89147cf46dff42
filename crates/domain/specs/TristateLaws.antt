-- The laws of tristate numbers.
use Rattle.std.proofs.Common.{ℕ, ◌^◌, ◌<◌, ◌≤◌, ◌⊎◌, Decides, arith, ⊎_elim}
use Rattle.std.proofs.lemmas.Bool.Decides.{Decides-eqb}
use Rattle.domain.specs.declared.facts.Facts.{Facts}
use Rattle.domain.specs.Answers.{bits_absorbed, bits_told}
use Rattle.domain.specs.Facts.{Meets}
use Rattle.domain.specs.Onward.{twice-holds, twice-within}
use Rattle.range.specs.Ranges.{span}
use Rattle.range.proofs.Laws.{reach-holds, span-holds}
use Rattle.tristate.specs.declared.Tristate.{Tristate}
use Rattle.tristate.specs.Tristates.{Holds, common, front, full, hull, known, member, only, unknown}
use Rattle.tristate.proofs.Laws as bits
use Rattle.words.specs.declared.width.Width.{Width}
use Rattle.words.specs.declared.width.Width.TheVariants.{W8, W16, W32, W64}
use Rattle.words.specs.Sets.{HoldsIn}
use Rattle.words.specs.Ternary.{clear}
use Rattle.words.specs.Widths.{bits_of}
use Rattle.words.specs.Words.{Word}

bits_le : (k : Width) → bits_of k ≤ 64
bits_le W8 = omega arith
bits_le W16 = omega arith
bits_le W32 = omega arith
bits_le W64 = omega arith

pub full-holds : (w : ℕ) → Word w → Holds full w
full-holds w _ = bits.full-holds w

pub exact-holds : (w : ℕ) → Word w → Holds (only w) w
exact-holds w _ = bits.only_holds w

pub front-holds : (k : Width) (w : ℕ) → w < 2 ^ bits_of k → Holds (front (bits_of k)) w
front-holds k w h = bits.front-holds (bits_of k) w (bits_le k) h

pub member_decides : (a : Tristate) (w : ℕ) → Word w → Decides (member a w) (Holds a w)
member_decides a w _ = Decides-eqb (clear w (unknown a)) (known a)

pub hull-holds : (a b : Tristate) (w : ℕ) → Word w → Holds a w ⊎ Holds b w → Holds (hull a b) w
hull-holds a b w _ h = ⊎_elim (bits.hull-left a b w) (bits.hull-right a b w) h

pub told-met : (a : Tristate) (w : ℕ) → Word w → Holds a w → Meets (bits_told a) w
told-met a w hw h = (bits.reading-holds a w h, reach-holds a w hw h)

pub absorbed-holds : (a : Tristate) (f : Facts) (w : ℕ) → Word w → Holds a w → Meets f w → HoldsIn Holds (bits_absorbed a f) w
absorbed-holds a f w hw h m =
    twice-holds Holds common a f.bits (span f.range) w (λ x y. bits.common_keeps x y w) h m.0 (span-holds f.range w hw m.1)

pub absorbed-within : (a : Tristate) (f : Facts) (w : ℕ) → Word w → HoldsIn Holds (bits_absorbed a f) w → Holds a w
absorbed-within a f w _ h = twice-within Holds common a f.bits (span f.range) w (λ x y. bits.common-within x y w) h
