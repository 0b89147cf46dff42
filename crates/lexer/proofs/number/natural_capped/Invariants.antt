use Rattle.std.proofs.Common.{◌≡◌, ◌^◌, ◌≤◌, min, drop}
use Rattle.std.specs.List.{list_all}
use Rattle.lexer.specs.Characters.{digit}
use Rattle.lexer.specs.Numbers.{value_from}
use Rattle.lexer.proofs.number.natural_capped.Given as goal

abbrev pub invariant-loop-d : goal.invariant-loop-d
invariant-loop-d l = (l.n ≤ 2 ^ 64) × (list_all digit (drop l.d-index l.digits) ≡ list_all digit l.digits) × (min (2 ^ 64) (value_from l.n (drop l.d-index l.digits)) ≡ min (2 ^ 64) (value_from 0 l.digits))
