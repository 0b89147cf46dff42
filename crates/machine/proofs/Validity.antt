-- A table that passes the test is a rule.
use Rattle.std.proofs.Common.{◌≡◌, ℕ, zero, suc, ◌-◌, ◌<◌, true, false, ◌&&◌, ltb, leb, List, get_or, sym, refl, subst, inl, inr, arith}
use Rattle.std.proofs.lemmas.Bool.{and_parts, ltb-true, leb-true, cases_eq, both_ways}
use Rattle.rule.specs.declared.record.Item.{Item}
use Rattle.rule.specs.declared.record.Item.TheVariants.{Blank, Buffer, Instruction}
use Rattle.rule.specs.declared.instruction.Instruction.TheVariants.{Mov, Alu, Load, Store, Jump, Branch, Ret}
use Rattle.rule.specs.declared.instruction.Operand.{Operand}
use Rattle.rule.specs.declared.instruction.Operand.TheVariants.{Register, Constant}
use Rattle.rule.specs.declared.record.Record.{Record}
use Rattle.rule.specs.Records.{blank}
use Rattle.machine.specs.Tables.{buffer_count, code_length, behind, writable_at}
use Rattle.machine.specs.Valid.{operand_ok, jump_ok, item_ok, code_ok, is_ret, heads_ok, counts_ok, rest_ok, table_ok, ValidOperand, ValidItem, Valid}

operand_from : (s : Operand) → operand_ok s ≡ true → ValidOperand s
operand_from (Register k) e = ltb-true _ _ e
operand_from (Constant c) e = ltb-true _ _ e

jump-from : (n k to : ℕ) → jump_ok n k to ≡ true → (k < to) × (to < n)
jump-from n k to e = let h = and_parts (ltb k to) (ltb to n) e in (ltb-true _ _ h.0, ltb-true _ _ h.1)

item_from : (p : List Record) (n k : ℕ) (i : Item) → item_ok p n k i ≡ true → ValidItem p n k i
item_from p n k (Instruction (Mov t s)) e = let h = and_parts (ltb t 8) (operand_ok s) e in (ltb-true _ _ h.0, operand_from s h.1)
item_from p n k (Instruction (Alu op t s)) e = let h = and_parts (ltb t 8) (operand_ok s) e in (ltb-true _ _ h.0, operand_from s h.1)
item_from p n k (Instruction (Load w t b s)) e =
    let h = and_parts (ltb t 8) (ltb b (buffer_count p) && operand_ok s) e in
    let g = and_parts (ltb b (buffer_count p)) (operand_ok s) h.1 in
    (ltb-true _ _ h.0, ltb-true _ _ g.0, operand_from s g.1)
item_from p n k (Instruction (Store w b s t)) e =
    let h = and_parts (ltb b (buffer_count p) && writable_at p b) (operand_ok s && ltb t 8) e in
    let f = and_parts (ltb b (buffer_count p)) (writable_at p b) h.0 in
    let g = and_parts (operand_ok s) (ltb t 8) h.1 in
    (ltb-true _ _ f.0, f.1, operand_from s g.0, ltb-true _ _ g.1)
item_from p n k (Instruction (Jump to)) e = jump-from n k to e
item_from p n k (Instruction (Branch c l s to)) e =
    let h = and_parts (ltb l 8) (operand_ok s && jump_ok n k to) e in
    let g = and_parts (operand_ok s) (jump_ok n k to) h.1 in
    let j = jump-from n k to g.1 in
    (ltb-true _ _ h.0, operand_from s g.0, j.0, j.1)
item_from p n k (Instruction Ret) e = tt
item_from p n k (Buffer size mode) e = both_ways false refl e
item_from p n k Blank e = both_ways false refl e

code-from : (p cs : List Record) (n j k : ℕ) → code_ok p cs n j ≡ true → k < j → ValidItem p n k (get_or cs k blank).item
unfolding code_ok
code-from p cs n zero k e h = absurd (omega arith)
code-from p cs n (suc j) k e h =
    let a = and_parts (item_ok p n j (get_or cs j blank).item) (code_ok p cs n j) e in
    elim (cases_eq k j) [
      | inl same ↦ subst (λ m. ValidItem p n m (get_or cs m blank).item) (sym same) (item_from p n j (get_or cs j blank).item a.0)
      | inr ne ↦ code-from p cs n j k a.1 (omega arith)
    ]

pub valid-from : (p : List Record) → table_ok p ≡ true → Valid p
valid-from p e =
    let n = code_length p in
    let cs = behind p in
    let a = and_parts (counts_ok (buffer_count p) n) (rest_ok p cs n) e in
    let b = and_parts (leb (buffer_count p) 8) (leb 1 n && leb n 96) a.0 in
    let c = and_parts (leb 1 n) (leb n 96) b.1 in
    let f = and_parts _ (code_ok p cs n n && is_ret (get_or cs (n - 1) blank).item) a.1 in
    let g = and_parts (code_ok p cs n n) (is_ret (get_or cs (n - 1) blank).item) f.1 in
    let h = and_parts (heads_ok p) _ f.0 in
    record {
      few_buffers = leb-true _ _ b.0;
      some = omega (arith, leb-true 1 n c.0);
      few = leb-true _ _ c.1;
      heads = h.0;
      items = λ k l. code-from p cs n n k g.0 l;
      last = g.1;
    }
