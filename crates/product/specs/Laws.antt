-- The laws of a product, from those of its parts.
use Rattle.std.proofs.Common.{ℕ, ◌⊎◌, Some, None, Option, unwrap_or, inl, inr}
use Rattle.std.specs.Option.{option_and_then}
use Rattle.domain.specs.declared.domain.Domain.{Ghosts}
use Rattle.domain.specs.declared.facts.Facts.{Facts}
use Rattle.domain.specs.Facts.{Meets, combined}
use Rattle.domain.specs.Lawful.{AbsorbHolds, AbsorbWithin, FactsMet, JoinHolds, NarrowHolds, OfHolds}
use Rattle.domain.specs.Onward.{onward-holds, onward-within}
use Rattle.product.specs.declared.Product.{Product}
use Rattle.product.specs.Products.{Both, Exactly, absorbed, applied, joined, kept, met, narrowed, pair, paired, reduced}
use Rattle.range.specs.Ranges as ranges
use Rattle.range.proofs.Laws as range-laws
use Rattle.tristate.specs.Tristates as bits
use Rattle.tristate.proofs.Laws as bits-laws
use Rattle.words.specs.declared.operation.Operation.{Operation}
use Rattle.words.specs.declared.relation.Relation.{Relation}
use Rattle.words.specs.Sets.{HoldsIn}
use Rattle.words.specs.Words.{Word, Related, Sticks, result_of}
use Rattle.words.proofs.Results.{result_word}

-- ---- facts: a word that meets both meets the common parts

held-or : {X : Type 0} (P : X → ℕ → Type 0) (o : Option X) (x : X) (w : ℕ) → HoldsIn P o w → P (unwrap_or o x) w
held-or P None x w h = absurd h
held-or P (Some y) x w h = h

pub combined-met : (f g : Facts) (w : ℕ) → Meets f w → Meets g w → Meets (combined f g) w
combined-met f g w hf hg = (
  held-or bits.Holds (bits.common f.bits g.bits) (bits.reading f.bits) w (bits-laws.common_keeps f.bits g.bits w hf.0 hg.0),
  held-or ranges.Within (ranges.common f.range g.range) (ranges.reading f.range) w
      (range-laws.common_keeps f.range g.range w hf.1 hg.1),
)

module _ {A B : Type 0} (a : Ghosts A) (b : Ghosts B) where
  -- ---- pairs

  paired-holds : (x : Option A) (y : Option B) (w : ℕ) → HoldsIn a.holds x w → HoldsIn b.holds y w → HoldsIn (Both a b) (paired x y) w
  paired-holds None y w h k = h
  paired-holds (Some x) None w h k = k
  paired-holds (Some x) (Some y) w h k = (h, k)

  paired-within : (x : Option A) (y : Option B) (w : ℕ) → HoldsIn (Both a b) (paired x y) w → HoldsIn a.holds x w × HoldsIn b.holds y w
  paired-within None y w h = absurd h
  paired-within (Some x) None w h = absurd h
  paired-within (Some x) (Some y) w h = h

  -- ---- reduction loses no word, where each part's facts are met and what it absorbs loses none

  module _ (met_a : FactsMet a) (absorb_a : AbsorbHolds a) (met_b : FactsMet b) (absorb_b : AbsorbHolds b) where
    met_holds : (x : A) (y : Option B) (w : ℕ) → Word w → a.holds x w → HoldsIn b.holds y w → HoldsIn (Both a b) (met a b x y) w
    met_holds x None w hw h k = k
    met_holds x (Some y) w hw h k =
        paired-holds (a.absorbed x (b.told y)) (Some y) w (absorb_a x (b.told y) w hw h (met_b y w hw k)) k

    reduced-holds : (p : Product A B) (w : ℕ) → Word w → Both a b p w → HoldsIn (Both a b) (reduced a b p) w
    reduced-holds p w hw h =
        met_holds p.first (b.absorbed p.second (a.told p.first)) w hw h.0
        (absorb_b p.second (a.told p.first) w hw h.1 (met_a p.first w hw h.0))

    kept-holds : (p : Product A B) (w : ℕ) → Word w → Both a b p w → Both a b (kept a b p) w
    kept-holds p w hw h = held-or (Both a b) (reduced a b p) p w (reduced-holds p w hw h)

    then-holds : (o : Option (Product A B)) (w : ℕ) → Word w → HoldsIn (Both a b) o w → HoldsIn (Both a b) (option_and_then (reduced a b) o) w
    then-holds o w hw h = onward-holds (Both a b) (reduced a b) w o h (λ p hp. reduced-holds p w hw hp)

    -- ---- so these laws are the parts' own

    pub of_holds : OfHolds a → OfHolds b → (op : Operation) (p q : Product A B) (x y : ℕ) → Word x → Word y → Both a b p x → Both a b q y
        → (Sticks op y → ⊥) → Both a b (applied a b op p q) (result_of op x y)
    of_holds of_a of_b op p q x y hx hy hp hq ok =
        kept-holds (pair (a.applied op p.first q.first) (b.applied op p.second q.second)) (result_of op x y) (result_word op x y hx hy)
        (of_a op p.first q.first x y hx hy hp.0 hq.0 ok, of_b op p.second q.second x y hx hy hp.1 hq.1 ok)

    pub join_holds : JoinHolds a → JoinHolds b → (p q : Product A B) (w : ℕ) → Word w → Both a b p w ⊎ Both a b q w → Both a b (joined a b p q) w
    join_holds join_a join_b p q w hw (inl h) =
        kept-holds (pair (a.joined p.first q.first) (b.joined p.second q.second)) w hw
        (join_a p.first q.first w hw (inl h.0), join_b p.second q.second w hw (inl h.1))
    join_holds join_a join_b p q w hw (inr h) =
        kept-holds (pair (a.joined p.first q.first) (b.joined p.second q.second)) w hw
        (join_a p.first q.first w hw (inr h.0), join_b p.second q.second w hw (inr h.1))

    pub narrow_holds : NarrowHolds a → NarrowHolds b → (rel : Relation) (p q : Product A B) (x y : ℕ) → Word x → Word y → Both a b p x
        → Both a b q y → Related rel x y → HoldsIn (Both a b) (narrowed a b rel p q) x
    narrow_holds narrow_a narrow_b rel p q x y hx hy hp hq r =
        then-holds (paired (a.narrowed rel p.first q.first) (b.narrowed rel p.second q.second)) x hx
        (paired-holds (a.narrowed rel p.first q.first) (b.narrowed rel p.second q.second) x
        (narrow_a rel p.first q.first x y hx hy hp.0 hq.0 r) (narrow_b rel p.second q.second x y hx hy hp.1 hq.1 r))

    pub absorb_holds : (p : Product A B) (f : Facts) (w : ℕ) → Word w → Both a b p w → Meets f w → HoldsIn (Both a b) (absorbed a b p f) w
    absorb_holds p f w hw h m =
        then-holds (paired (a.absorbed p.first f) (b.absorbed p.second f)) w hw
        (paired-holds (a.absorbed p.first f) (b.absorbed p.second f) w (absorb_a p.first f w hw h.0 m) (absorb_b p.second f w hw h.1 m))

  -- ---- and it brings no word, where what each part absorbs brings none

  module _ (within_a : AbsorbWithin a) (within_b : AbsorbWithin b) where
    met-within : (x : A) (y : Option B) (w : ℕ) → Word w → HoldsIn (Both a b) (met a b x y) w → a.holds x w × HoldsIn b.holds y w
    met-within x None w hw h = absurd h
    met-within x (Some y) w hw h =
        let p = paired-within (a.absorbed x (b.told y)) (Some y) w h in (within_a x (b.told y) w hw p.0, p.1)

    reduced-within : (p : Product A B) (w : ℕ) → Word w → HoldsIn (Both a b) (reduced a b p) w → Both a b p w
    reduced-within p w hw h =
        let q = met-within p.first (b.absorbed p.second (a.told p.first)) w hw h in
        (q.0, within_b p.second (a.told p.first) w hw q.1)

    then-within : (o : Option (Product A B)) (w : ℕ) → Word w → HoldsIn (Both a b) (option_and_then (reduced a b) o) w → HoldsIn (Both a b) o w
    then-within o w hw h = onward-within (Both a b) (reduced a b) w o h (λ p hp. reduced-within p w hw hp)

    pub absorb_within : (p : Product A B) (f : Facts) (w : ℕ) → Word w → HoldsIn (Both a b) (absorbed a b p f) w → Both a b p w
    absorb_within p f w hw h =
        let q = paired-within (a.absorbed p.first f) (b.absorbed p.second f) w
        (then-within (paired (a.absorbed p.first f) (b.absorbed p.second f)) w hw h) in
        (within_a p.first f w hw q.0, within_b p.second f w hw q.1)

  pub exactly : FactsMet a → AbsorbHolds a → FactsMet b → AbsorbHolds b → AbsorbWithin a → AbsorbWithin b
      → (p : Product A B) → Exactly a b p (reduced a b p)
  exactly met_a absorb_a met_b absorb_b within_a within_b p w hw = (
    reduced-holds met_a absorb_a met_b absorb_b p w hw,
    reduced-within within_a within_b p w hw,
  )
