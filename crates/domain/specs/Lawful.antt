-- The laws of a domain, each over its ghost members, and all of them as one record.
use Rattle.std.specs.Prelude.{ℕ, ◌^◌, ◌<◌, ◌⊎◌, Decides}
use Rattle.domain.specs.declared.domain.Domain.{Ghosts}
use Rattle.domain.specs.declared.facts.Facts.{Facts}
use Rattle.domain.specs.Facts.{Meets}
use Rattle.words.specs.Sets.{HoldsIn}
use Rattle.words.specs.declared.operation.Operation.{Operation}
use Rattle.words.specs.declared.relation.Relation.{Relation}
use Rattle.words.specs.declared.width.Width.{Width}
use Rattle.words.specs.Widths.{bits_of}
use Rattle.words.specs.Words.{Word, Sticks, Related, result_of}

module _ {D : Type 0} (d : Ghosts D) where
  abbrev pub AnyHolds : Type 0
  AnyHolds = (w : ℕ) → Word w → d.holds d.every w

  abbrev pub OnlyHolds : Type 0
  OnlyHolds = (w : ℕ) → Word w → d.holds (d.single w) w

  abbrev pub LowHolds : Type 0
  LowHolds = (k : Width) (w : ℕ) → w < 2 ^ bits_of k → d.holds (d.under k) w

  abbrev pub HasDecides : Type 0
  HasDecides = (a : D) (w : ℕ) → Word w → Decides (d.member a w) (d.holds a w)

  abbrev pub OfHolds : Type 0
  OfHolds = (op : Operation) (a b : D) (x y : ℕ) → Word x → Word y → d.holds a x → d.holds b y → (Sticks op y → ⊥) → d.holds (d.applied op a b) (result_of op x y)

  abbrev pub JoinHolds : Type 0
  JoinHolds = (a b : D) (w : ℕ) → Word w → d.holds a w ⊎ d.holds b w → d.holds (d.joined a b) w

  abbrev pub NarrowHolds : Type 0
  NarrowHolds = (rel : Relation) (a b : D) (x y : ℕ) → Word x → Word y → d.holds a x → d.holds b y → Related rel x y → HoldsIn d.holds (d.narrowed rel a b) x

  abbrev pub FactsMet : Type 0
  FactsMet = (a : D) (w : ℕ) → Word w → d.holds a w → Meets (d.told a) w

  abbrev pub AbsorbHolds : Type 0
  AbsorbHolds = (a : D) (f : Facts) (w : ℕ) → Word w → d.holds a w → Meets f w → HoldsIn d.holds (d.absorbed a f) w

  abbrev pub AbsorbWithin : Type 0
  AbsorbWithin = (a : D) (f : Facts) (w : ℕ) → Word w → HoldsIn d.holds (d.absorbed a f) w → d.holds a w

pub record Lawful {D : Type 0} (d : Ghosts D) : Type 0 where
  pub any_holds : AnyHolds d
  pub only_holds : OnlyHolds d
  pub low_holds : LowHolds d
  pub has_decides : HasDecides d
  pub of_holds : OfHolds d
  pub join_holds : JoinHolds d
  pub narrow_holds : NarrowHolds d
  pub facts_met : FactsMet d
  pub absorb_holds : AbsorbHolds d
  pub absorb_within : AbsorbWithin d

-- the record of the laws, each by itself
pub lawful : {D : Type 0} (d : Ghosts D) → AnyHolds d → OnlyHolds d → LowHolds d → HasDecides d → OfHolds d → JoinHolds d → NarrowHolds d
    → FactsMet d → AbsorbHolds d → AbsorbWithin d → Lawful d
lawful d any only low has of join narrow facts absorb within =
    record {
      any_holds = any;
      only_holds = only;
      low_holds = low;
      has_decides = has;
      of_holds = of;
      join_holds = join;
      narrow_holds = narrow;
      facts_met = facts;
      absorb_holds = absorb;
      absorb_within = within;
    }
