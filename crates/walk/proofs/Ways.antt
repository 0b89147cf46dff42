-- Where a valid rule's instructions lead: on to the next, or to a later one, and never past the last.
use Rattle.std.proofs.Common.{◌≡◌, ℕ, ◌+◌, ◌-◌, ◌<◌, ◌≤◌, false, List, Some, None, Option, refl, ap, ◌∙◌, ⊎_elim, arith}
use Rattle.std.proofs.lemmas.Bool.{cases_eq, both_ways}
use Rattle.rule.specs.declared.record.Item.{Item}
use Rattle.rule.specs.declared.record.Item.TheVariants.{Blank, Buffer, Instruction}
use Rattle.rule.specs.declared.instruction.Instruction.TheVariants.{Mov, Alu, Load, Store, Jump, Branch, Ret}
use Rattle.rule.specs.declared.record.Record.{Record}
use Rattle.machine.specs.Tables.{code_length, item_at}
use Rattle.machine.specs.Valid.{is_ret, ValidItem, Valid}
use Rattle.domain.specs.declared.domain.Domain.{Ghosts}
use Rattle.step.specs.declared.mark.Mark.{Mark}
use Rattle.step.specs.declared.outcome.Change.{Change}
use Rattle.step.specs.Changes.{change_of, place_of}
use Rattle.step.specs.Transfer.{jump_to, transfer}
use Rattle.walk.specs.Walk.{Present, Ways}

present : {X : Type 0} (o : Option X) {P : Type 0} → P → Present o P
present None h = tt
present (Some x) h = h

present-jump : {D : Type 0} (o : Option (Change D)) {n k to : ℕ} → (k < to) × (to < n) → Present (change_of (jump_to to o)) ((k < place_of (jump_to to o)) × (place_of (jump_to to o) < n))
present-jump None h = tt
present-jump (Some c) h = h

-- the last instruction is `ret`, so every other has one after it
onward : (p : List Record) (k : ℕ) → Valid p → k < code_length p → is_ret (item_at p k) ≡ false → k + 1 < code_length p
onward p k v h other =
    ⊎_elim
    (λ last. absurd (both_ways (is_ret (item_at p k)) other (ap (λ j. is_ret (item_at p j)) last ∙ v.last)))
    (λ ne. omega arith)
    (cases_eq k (code_length p - 1))

module _ {D : Type 0} (d : Ghosts D) (p : List Record) (line : ℕ) (row : List D) (m : Mark) where
  ways_item : (n a k : ℕ) (i : Item) → n ≤ a → ValidItem p n k i → (is_ret i ≡ false → k + 1 < n) → Ways a k (transfer d p line i row m)
  ways_item n a k (Instruction (Mov t s)) le v on = let h = on refl in (omega arith, tt)
  ways_item n a k (Instruction (Alu op t s)) le v on = let h = on refl in (omega arith, tt)
  ways_item n a k (Instruction (Load w t b s)) le v on = let h = on refl in (omega arith, tt)
  ways_item n a k (Instruction (Store w b s t)) le v on = let h = on refl in (omega arith, tt)
  ways_item n a k (Instruction (Branch c l s to)) le v on = let next : k + 1 < a = let h = on refl in omega arith in let jump : (k < to) × (to < a) = (v.2, omega (arith, v.3)) in (present _ next, present-jump _ jump)
  ways_item n a k (Instruction (Jump to)) le v on = (tt, (v.0, omega (arith, v.1)))
  ways_item n a k (Instruction Ret) le v on = (tt, tt)
  ways_item n a k (Buffer size mode) le v on = (tt, tt)
  ways_item n a k Blank le v on = (tt, tt)

  pub ways_of : (a k : ℕ) → code_length p ≤ a → Valid p → k < code_length p → Ways a k (transfer d p line (item_at p k) row m)
  ways_of a k le v h = ways_item (code_length p) a k (item_at p k) le (v.items k h) (onward p k v h)
