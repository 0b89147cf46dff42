-- The low bits of a sum, over any domain, and over a pile of three.
use Rattle.std.specs.Prelude.{ℕ, bit_and}
use Rattle.domain.specs.declared.domain.Domain.{Ghosts}
use Rattle.parity.specs.declared.Parity.{Parity}
use Rattle.parity.specs.declared.Parity.TheVariants.{Even}
use Rattle.product.specs.declared.Product.{Product}
use Rattle.range.specs.declared.Range.{Range}
use Rattle.tristate.specs.declared.Tristate.{Tristate}
use Rattle.words.specs.declared.operation.Operation.TheVariants.{Add, And}
use Rattle.words.specs.Words.{Word, plus}

module _ {D : Type 0} (d : Ghosts D) where
  -- what the domain answers, by name
  abbrev pub masked_sum : D → D → ℕ → D
  masked_sum a b m = d.applied And (d.applied Add a b) (d.single m)

  -- it holds the masked sum of each two words
  abbrev pub HoldsMaskedSums : D → D → ℕ → D → Type 0
  HoldsMaskedSums a b m r = (x y : ℕ) → Word x → Word y → d.holds a x → d.holds b y → d.holds r (bit_and (plus x y) m)

-- the low six bits of the sum of two odd words: it is even, so that known bits and ranges lose their odd words at the end as well
abbrev pub even_below64 : Product (Product Parity Range) (Product Tristate Range)
even_below64 =
    record {
      first = record { first = Even; second = record { low = 0; high = 62 } };
      second = record { first = record { value = 0; mask = 62 }; second = record { low = 0; high = 62 } };
    }
