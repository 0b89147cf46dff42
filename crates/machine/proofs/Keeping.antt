-- What a write into the memory leaves, and that no step touches a read-only buffer.
use Rattle.std.proofs.Common.{◌≡◌, ℕ, ◌+◌, ◌-◌, ◌<◌, ◌≤◌, true, List, ◌++◌, length, get_or, take, drop, sym, refl, ap, ◌∙◌, subst, ⊎_elim, arith}
use Rattle.std.proofs.lemmas.List.{get_or_append_left, get_or-append_right, get_or-take, get_or-drop, length-append, length-take-le, length-drop}
use Rattle.std.proofs.lemmas.Bool.{cases_lt, cases_eq, both_ways}
use Rattle.words.specs.Widths.{bytes_of}
use Rattle.rule.specs.declared.record.Item.{Item}
use Rattle.rule.specs.declared.record.Item.TheVariants.{Blank, Buffer, Instruction}
use Rattle.rule.specs.declared.instruction.Instruction.TheVariants.{Mov, Alu, Load, Store, Jump, Branch, Ret}
use Rattle.rule.specs.declared.record.Record.{Record}
use Rattle.machine.specs.Machine.{Regs, Does}
use Rattle.machine.specs.Machine.Does.{store}
use Rattle.machine.specs.Memory.{start_of, total_size, bytes_in, written, Touches, ReadOnlyAt}
use Rattle.machine.specs.Tables.{buffer_count, size_at, writable_at}
use Rattle.machine.specs.Valid.{ValidItem}
use Rattle.machine.proofs.Bytes.{bytes-long}
use Rattle.machine.proofs.Sizes.{ends-before, inside-memory}

-- ── a write ──

module _ (m : List ℕ) (a : ℕ) (bs : List ℕ) (fits : a + length bs ≤ length m) where
  front : length (take a m) ≡ a
  front = length-take-le a m (omega arith)

  pub written-long : length (written m a bs) ≡ length m
  written-long =
      let e = front in
      length-append (take a m) (bs ++ drop (a + length bs) m)
      ∙ ap (λ n. length (take a m) + n) (length-append bs (drop (a + length bs) m) ∙ ap (λ n. length bs + n) (length-drop (a + length bs) m))
      ∙ omega arith

  pub written-before : (i : ℕ) → i < a → get_or (written m a bs) i 0 ≡ get_or m i 0
  written-before i h = let e = front in get_or_append_left (take a m) (bs ++ drop (a + length bs) m) 0 i (omega arith) ∙ get_or-take a m i 0 h

  pub written-here : (i : ℕ) → a ≤ i → i < a + length bs → get_or (written m a bs) i 0 ≡ get_or bs (i - a) 0
  written-here i h l = get_or-append_right (take a m) (bs ++ drop (a + length bs) m) a i 0 front h ∙ get_or_append_left bs (drop (a + length bs) m) 0 (i - a) (omega arith)

  pub written_behind : (i : ℕ) → a + length bs ≤ i → get_or (written m a bs) i 0 ≡ get_or m i 0
  written_behind i h =
      let place : a + length bs + (i - a - length bs) ≡ i = omega arith in
      get_or-append_right (take a m) (bs ++ drop (a + length bs) m) a i 0 front (omega arith)
      ∙ get_or-append_right bs (drop (a + length bs) m) (length bs) (i - a) 0 refl (omega arith)
      ∙ get_or-drop (a + length bs) m (i - a - length bs) 0
      ∙ ap (λ j. get_or m j 0) place

-- ── a step ──

-- the memory keeps its length and each byte of a read-only buffer
pub record Keeps (p : List Record) (m o : List ℕ) : Type 0 where
  pub long : length o ≡ length m
  pub read_only : (i : ℕ) → ReadOnlyAt p i → get_or o i 0 ≡ get_or m i 0

pub keeps_same : (p : List Record) (m o : List ℕ) → o ≡ m → Keeps p m o
keeps_same p m o e = record { long = ap length e; read_only = λ i r. ap (λ x. get_or x i 0) e }

pub keeps_more : (p : List Record) (m n o : List ℕ) → Keeps p m n → Keeps p n o → Keeps p m o
keeps_more p m n o a b = record { long = b.long ∙ a.long; read_only = λ i r. b.read_only i r ∙ a.read_only i r }

-- a write that lies in a buffer of its own, which may be written
keeps_written : (p : List Record) (m : List ℕ) (b i : ℕ) (bs : List ℕ) → length m ≡ total_size p → b < buffer_count p → writable_at p b ≡ true → i + length bs ≤ size_at p b → Keeps p m (written m (start_of p b + i) bs)
keeps_written p m b i bs sized there writable within =
    let inside = inside-memory p b there in
    let fits : start_of p b + i + length bs ≤ length m = omega arith in
    record {
      long = written-long m (start_of p b + i) bs fits;
      read_only = λ j r. ⊎_elim
          (λ same. absurd (both_ways (writable_at p b) (ap (writable_at p) (sym same) ∙ r.read_only) writable))
          (λ ne. ⊎_elim
          (λ before. let e = ends-before p r.buffer b before in written-before m (start_of p b + i) bs fits j (omega (arith, r.to)))
          (λ behind. let e = ends-before p b r.buffer (omega arith) in written_behind m (start_of p b + i) bs fits j (omega (arith, r.from)))
          (cases_lt r.buffer b))
          (cases_eq r.buffer b);
    }

pub keeps_step : (p : List Record) (n k : ℕ) (r : Regs) (m : List ℕ) (j : ℕ) (q : Regs) (o : List ℕ) (i : Item) → ValidItem p n k i → length m ≡ total_size p → Does p k r j q i → Touches p r m q o i → Keeps p m o
keeps_step p n k r m j q o (Instruction (Mov t s)) v sized d e = keeps_same p m o e
keeps_step p n k r m j q o (Instruction (Alu op t s)) v sized d e = keeps_same p m o e
keeps_step p n k r m j q o (Instruction (Load w t b s)) v sized d e = keeps_same p m o e.1
keeps_step p n k r m j q o (Instruction (Store w b s t)) v sized (store i x ei ex re ej eq) e =
    let long = bytes-long (bytes_of w) x in
    subst (Keeps p m) (sym (e i x ei ex)) (keeps_written p m b i (bytes_in (bytes_of w) x) sized v.0 v.1 (omega (arith, re.inside)))
keeps_step p n k r m j q o (Instruction (Jump to)) v sized d e = keeps_same p m o e
keeps_step p n k r m j q o (Instruction (Branch c l s to)) v sized d e = keeps_same p m o e
keeps_step p n k r m j q o (Instruction Ret) v sized d e = keeps_same p m o e
keeps_step p n k r m j q o (Buffer size mode) v sized d e = keeps_same p m o e
keeps_step p n k r m j q o Blank v sized d e = keeps_same p m o e
