-- The standard product, known bits and a range, by the names of its answers.
use Rattle.domain.specs.declared.domain.Domain.{Ghosts}
use Rattle.domain.specs.contracts.ranges.RangeDomain.TheImpl as ranges
use Rattle.domain.specs.contracts.tristates.TristateDomain.TheImpl as bits
use Rattle.product.specs.declared.Product.{Product}
use Rattle.product.specs.Products as product
use Rattle.range.specs.declared.Range.{Range}
use Rattle.tristate.specs.declared.Tristate.{Tristate}

abbrev pub Standard : Type 0
Standard = Product Tristate Range

abbrev pub standard : Ghosts Standard
standard =
    record {
      holds = product.Both bits.ghosts ranges.ghosts;
      every = product.every bits.ghosts ranges.ghosts;
      single = product.single bits.ghosts ranges.ghosts;
      under = product.under bits.ghosts ranges.ghosts;
      member = product.member bits.ghosts ranges.ghosts;
      applied = product.applied bits.ghosts ranges.ghosts;
      joined = product.joined bits.ghosts ranges.ghosts;
      narrowed = product.narrowed bits.ghosts ranges.ghosts;
      told = product.told bits.ghosts ranges.ghosts;
      absorbed = product.absorbed bits.ghosts ranges.ghosts;
    }
