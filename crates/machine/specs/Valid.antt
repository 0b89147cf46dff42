-- Which tables are rules: those that some text could give, but for the numbers of their lines.
use Rattle.std.specs.Prelude.{◌≡◌, ℕ, zero, suc, ◌-◌, ◌^◌, ◌<◌, ◌≤◌, Bool, true, false, cond, ◌&&◌, List, drop, Some, None, Option, nat_le, nat_lt, slice_index_or}
use Rattle.words.specs.Words.{Word}
use Rattle.std.specs.List.{list_all, take_while}
use Rattle.rule.specs.Instructions.{is_ret as ends}
use Rattle.rule.specs.declared.record.Item.{Item}
use Rattle.rule.specs.declared.record.Item.TheVariants.{Blank, Buffer, Instruction}
use Rattle.rule.specs.declared.instruction.Instruction.TheVariants.{Mov, Alu, Load, Store, Jump, Branch, Ret}
use Rattle.rule.specs.declared.instruction.Operand.{Operand}
use Rattle.rule.specs.declared.instruction.Operand.TheVariants.{Register, Constant}
use Rattle.rule.specs.declared.record.Record.{Record}
use Rattle.rule.specs.declared.shape.Shape.{Shape}
use Rattle.rule.specs.Records.{blank, is_buffer, is_blank, size_in}
use Rattle.machine.specs.Tables.{buffer_count, code_length, behind, item_at, writable_at}

-- a register is one of the eight, and a constant a word
abbrev pub operand_ok : Operand → Bool
operand_ok (Register k) = nat_lt k 8
operand_ok (Constant c) = nat_lt c (2 ^ 64)

-- a jump from instruction k of n goes to a later one
abbrev pub jump_ok : ℕ → ℕ → ℕ → Bool
jump_ok n k to = nat_lt k to && nat_lt to n

-- instruction k of n is one that a text could give
abbrev pub item_ok : List Record → ℕ → ℕ → Item → Bool
item_ok p n k (Instruction (Mov t s)) = nat_lt t 8 && operand_ok s
item_ok p n k (Instruction (Alu op t s)) = nat_lt t 8 && operand_ok s
item_ok p n k (Instruction (Load w t b s)) = nat_lt t 8 && (nat_lt b (buffer_count p) && operand_ok s)
item_ok p n k (Instruction (Store w b s t)) = (nat_lt b (buffer_count p) && writable_at p b) && (operand_ok s && nat_lt t 8)
item_ok p n k (Instruction (Jump to)) = jump_ok n k to
item_ok p n k (Instruction (Branch c l s to)) = nat_lt l 8 && (operand_ok s && jump_ok n k to)
item_ok p n k (Instruction Ret) = true
item_ok p n k (Buffer size mode) = false
item_ok p n k Blank = false

-- the first k of the records behind the buffers are
unfoldable pub code_ok : List Record → List Record → ℕ → ℕ → Bool
code_ok p cs n zero = true
code_ok p cs n (suc k) = item_ok p n k (slice_index_or cs k blank).item && code_ok p cs n k

-- an instruction that ends the rule
abbrev pub is_ret : Item → Bool
is_ret (Instruction i) = ends i
is_ret (Buffer size mode) = false
is_ret Blank = false

-- each buffer in front has 1 to 1024 bytes
abbrev pub size_ok : Item → Bool
size_ok i = nat_le 1 (size_in i) && nat_le (size_in i) 1024

abbrev pub heads_ok : List Record → Bool
heads_ok p = list_all (λ (r : Record). size_ok r.item) (take_while (λ (r : Record). is_buffer r.item) p)

abbrev pub blanks_ok : List Record → Bool
blanks_ok rs = list_all (λ (r : Record). is_blank r.item) rs

-- at most eight buffers, 1 to 96 instructions of which the last is `ret`, and then blanks
abbrev pub counts_ok : ℕ → ℕ → Bool
counts_ok b n = nat_le b 8 && (nat_le 1 n && nat_le n 96)

-- of the records behind the buffers n are instructions
abbrev pub rest_ok : List Record → List Record → ℕ → Bool
rest_ok p cs n = (heads_ok p && blanks_ok (drop n cs)) && (code_ok p cs n n && is_ret (slice_index_or cs (n - 1) blank).item)

abbrev pub table_ok : List Record → Bool
table_ok p = counts_ok (buffer_count p) (code_length p) && rest_ok p (behind p) (code_length p)

-- how many buffers and instructions a rule has, or nothing where the table is none
abbrev pub layout_of : List Record → Option Shape
layout_of p = cond (table_ok p) (Some (record { buffers = buffer_count p; instructions = code_length p })) None

-- ── the same as statements ──

abbrev pub ValidOperand : Operand → Type 0
ValidOperand (Register k) = k < 8
ValidOperand (Constant c) = Word c

abbrev pub ValidItem : List Record → ℕ → ℕ → Item → Type 0
ValidItem p n k (Instruction (Mov t s)) = (t < 8) × ValidOperand s
ValidItem p n k (Instruction (Alu op t s)) = (t < 8) × ValidOperand s
ValidItem p n k (Instruction (Load w t b s)) = (t < 8) × (b < buffer_count p) × ValidOperand s
ValidItem p n k (Instruction (Store w b s t)) = (b < buffer_count p) × (writable_at p b ≡ true) × ValidOperand s × (t < 8)
ValidItem p n k (Instruction (Jump to)) = (k < to) × (to < n)
ValidItem p n k (Instruction (Branch c l s to)) = (l < 8) × ValidOperand s × (k < to) × (to < n)
ValidItem p n k (Instruction Ret) = Unit {0}
ValidItem p n k (Buffer size mode) = ⊥
ValidItem p n k Blank = ⊥

pub record Valid (p : List Record) : Type 0 where
  pub few_buffers : buffer_count p ≤ 8
  pub some : 0 < code_length p
  pub few : code_length p ≤ 96
  pub heads : heads_ok p ≡ true
  pub items : (k : ℕ) → k < code_length p → ValidItem p (code_length p) k (item_at p k)
  pub last : is_ret (item_at p (code_length p - 1)) ≡ true
