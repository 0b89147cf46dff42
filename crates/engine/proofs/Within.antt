-- Bytes that lie in a buffer lie in the memory, none that go far beyond do, and an access lies where a fill would.
use Rattle.std.proofs.Common.{◌≡◌, ℕ, ◌+◌, ◌%◌, ◌<◌, ◌≤◌, Bool, true, false, cond, ◌&&◌, eqb, ltb, leb, lt-ltb, List, Some, None, sym, ap, ⊎_elim, arith}
use Rattle.std.proofs.lemmas.Bool.{and_parts, and_left, and_right, cases_Bool, ltb-true, leb-true, lt-leb, eq-eqb}
use Rattle.words.specs.Widths.{bytes_of}
use Rattle.words.specs.declared.width.Width.{Width}
use Rattle.rule.specs.declared.record.Record.{Record}
use Rattle.machine.specs.Memory.{start_of, total_size}
use Rattle.machine.specs.Tables.{buffer_count, size_at}
use Rattle.machine.specs.Valid.{Valid}
use Rattle.machine.proofs.Sizes.{inside-memory, small-buffer}
use Rattle.engine.specs.Fills.{is_within, placed}
use Rattle.engine.specs.Steps.{place_in}

pub far_beyond : (p : List Record) (b offset n : ℕ) → Valid p → 1024 < offset + n → false ≡ is_within p b offset n
far_beyond p b offset n v h =
    ⊎_elim
    (λ t. let small = small-buffer p b v (ltb-true b (buffer_count p) t) in sym (and_right (ltb b (buffer_count p)) (leb (offset + n) (size_at p b)) (lt-leb (offset + n) (size_at p b) (omega arith))))
    (λ f. sym (and_left (ltb b (buffer_count p)) _ f))
    (cases_Bool (ltb b (buffer_count p)))

-- a place in a buffer: which buffer it is, and that it lies in the memory
pub record Lies (p : List Record) (b offset n : ℕ) : Type 0 where
  pub there : b < buffer_count p
  pub small : offset + n ≤ size_at p b
  pub inside : start_of p b + offset + n ≤ total_size p

pub lies : (p : List Record) (b offset n : ℕ) → is_within p b offset n ≡ true → Lies p b offset n
lies p b offset n e =
    let h = and_parts (ltb b (buffer_count p)) (leb (offset + n) (size_at p b)) e in
    let there = ltb-true b (buffer_count p) h.0 in
    let small = leb-true (offset + n) (size_at p b) h.1 in
    let whole = inside-memory p b there in
    record { there = there; small = small; inside = omega arith }

turned : (a b c : Bool) → a ≡ true → c ≡ true → (a && b) ≡ (b && c)
turned a true c x y = cc
turned a false c x y = cc

-- an access to a buffer that is there, at a multiple of its width, is placed as a fill is
pub aligned-place : (p : List Record) (b : ℕ) (w : Width) (i : ℕ) → b < buffer_count p → i % bytes_of w ≡ 0 → placed p b i (bytes_of w) ≡ place_in p b w i
aligned-place p b w i there e =
    ap (λ (x : Bool). cond x (Some (start_of p b + i)) None) (turned (ltb b (buffer_count p)) (leb (i + bytes_of w) (size_at p b)) (eqb (i % bytes_of w) 0) (lt-ltb _ _ there) (eq-eqb _ _ e))
