-- What is asked of an instruction alone.
use Rattle.std.specs.Prelude.{Bool, true, false}
use Rattle.words.specs.declared.relation.Relation.{Relation}
use Rattle.words.specs.declared.relation.Relation.TheVariants as relation
use Rattle.rule.specs.declared.instruction.Condition.{Condition}
use Rattle.rule.specs.declared.instruction.Condition.TheVariants.{Equal, Unequal, Less, LessOrEqual}
use Rattle.rule.specs.declared.instruction.Instruction.{Instruction}
use Rattle.rule.specs.declared.instruction.Instruction.TheVariants.{Mov, Alu, Load, Store, Jump, Branch, Ret}

-- the relation on which a branch jumps
abbrev pub relation_of : Condition → Relation
relation_of Equal = relation.Equal
relation_of Unequal = relation.Unequal
relation_of Less = relation.Less
relation_of LessOrEqual = relation.LessOrEqual

-- does it end the rule?
abbrev pub is_ret : {N : Type 0} → Instruction N → Bool
is_ret (Mov t s) = false
is_ret (Alu op t s) = false
is_ret (Load w t b i) = false
is_ret (Store w b i s) = false
is_ret (Jump to) = false
is_ret (Branch c l r to) = false
is_ret Ret = true
