-- A product of two domains: the words that both parts hold, and the answer to each question.
use Rattle.std.specs.Prelude.{ℕ, Bool, ◌&&◌, Some, None, Option}
use Rattle.std.specs.Option.{option_and_then, unwrap_or}
use Rattle.domain.specs.declared.domain.Domain.{Ghosts}
use Rattle.domain.specs.declared.facts.Facts.{Facts}
use Rattle.domain.specs.Facts.{combined}
use Rattle.product.specs.declared.Product.{Product}
use Rattle.words.specs.declared.operation.Operation.{Operation}
use Rattle.words.specs.declared.relation.Relation.{Relation}
use Rattle.words.specs.declared.width.Width.{Width}
use Rattle.words.specs.Sets.{HoldsIn}
use Rattle.words.specs.Words.{Word}

abbrev pub pair : {A B : Type 0} → A → B → Product A B
pair x y = record { first = x; second = y }

-- both parts, where both are there
abbrev pub paired : {A B : Type 0} → Option A → Option B → Option (Product A B)
paired None y = None
paired (Some x) None = None
paired (Some x) (Some y) = Some (pair x y)

module _ {A B : Type 0} (a : Ghosts A) (b : Ghosts B) where
  abbrev pub Both : Product A B → ℕ → Type 0
  Both p w = a.holds p.first w × b.holds p.second w

  -- the first absorbs the facts of the new second, if there is one
  abbrev pub met : A → Option B → Option (Product A B)
  met x None = None
  met x (Some y) = paired (a.absorbed x (b.told y)) (Some y)

  -- and the second before that the facts of the first
  abbrev pub reduced : Product A B → Option (Product A B)
  reduced p = met p.first (b.absorbed p.second (a.told p.first))

  -- the reduced pair holds just the words that both parts held: it is none only if there is no such word
  abbrev pub Exactly : Product A B → Option (Product A B) → Type 0
  Exactly p r = (w : ℕ) → Word w → (Both p w → HoldsIn Both r w) × (HoldsIn Both r w → Both p w)

  -- reduced where that leaves anything
  abbrev pub kept : Product A B → Product A B
  kept p = unwrap_or (reduced p) p

  -- ---- the answers

  abbrev pub every : Product A B
  every = pair a.every b.every

  abbrev pub single : ℕ → Product A B
  single w = pair (a.single w) (b.single w)

  abbrev pub under : Width → Product A B
  under k = pair (a.under k) (b.under k)

  abbrev pub member : Product A B → ℕ → Bool
  member p w = a.member p.first w && b.member p.second w

  abbrev pub applied : Operation → Product A B → Product A B → Product A B
  applied op p q = kept (pair (a.applied op p.first q.first) (b.applied op p.second q.second))

  abbrev pub joined : Product A B → Product A B → Product A B
  joined p q = kept (pair (a.joined p.first q.first) (b.joined p.second q.second))

  abbrev pub narrowed : Relation → Product A B → Product A B → Option (Product A B)
  narrowed rel p q = option_and_then reduced (paired (a.narrowed rel p.first q.first) (b.narrowed rel p.second q.second))

  abbrev pub told : Product A B → Facts
  told p = combined (a.told p.first) (b.told p.second)

  abbrev pub absorbed : Product A B → Facts → Option (Product A B)
  absorbed p f = option_and_then reduced (paired (a.absorbed p.first f) (b.absorbed p.second f))
