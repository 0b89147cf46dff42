-- A range's answer to each operation and to each relation.
use Rattle.std.specs.Prelude.{cond, Some, Option}
use Rattle.range.specs.declared.Range.{Range}
use Rattle.range.specs.Ranges.{least, most, reading, full, single, sum, difference, product, no_more, conjunction, disjunction, common, below, up_to, above, on_from, without}
use Rattle.words.specs.declared.operation.Operation.{Operation}
use Rattle.words.specs.declared.operation.Operation.TheVariants.{Add, Sub, Mul, Div, And, Or, Xor, Shl, Shr}
use Rattle.words.specs.declared.relation.Relation.{Relation}
use Rattle.words.specs.declared.relation.Relation.TheVariants.{Equal, Unequal, Less, LessOrEqual, Greater, GreaterOrEqual}

abbrev pub applied : Operation → Range → Range → Range
applied Add a b = sum a b
applied Sub a b = difference a b
applied Mul a b = product a b
applied Div a b = no_more a
applied And a b = conjunction a b
applied Or a b = disjunction a b
applied Xor a b = full
applied Shl a b = full
applied Shr a b = no_more a

abbrev pub narrowed : Relation → Range → Range → Option Range
narrowed Equal a b = common a b
narrowed Unequal a b = cond (single b) (without a (least b)) (Some (reading a))
narrowed Less a b = below a (most b)
narrowed LessOrEqual a b = up_to a (most b)
narrowed Greater a b = above a (least b)
narrowed GreaterOrEqual a b = on_from a (least b)
