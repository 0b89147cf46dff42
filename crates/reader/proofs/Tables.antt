-- A table that is read into.
use Rattle.std.proofs.Common.{◌≡◌, ℕ, ◌+◌, ◌-◌, ◌≤◌, List, ◌++◌, length, take, drop, replicate, Ok, Err, Result, sym, ap, ◌∙◌, arith, length-append, length-drop, take-append-drop}
use lib.ListN.{length-replicate}
use Rattle.std.proofs.lemmas.List.{length-take-le, drop-replicate, drop-drop, append_assoc}
use Rattle.rule.specs.declared.record.Record.{Record}
use Rattle.rule.specs.Records.{blank}
use Rattle.grammar.specs.declared.fault.ProgramFault.{ProgramFault}
use Rattle.rule.specs.declared.shape.Shape.{Shape}
use Rattle.grammar.specs.Reading.{Program, table_of, shape_of}

pub read_ok : (room : ℕ) (s : Shape) (was after : List Record) (v : ℕ → Result Program ProgramFault) → was ≡ replicate room blank → length after ≡ length was → s.buffers + s.instructions ≤ length was → v (length was) ≡ Ok (record { buffers = take s.buffers after; instructions = take s.instructions (drop s.buffers after) }) → drop (s.buffers + s.instructions) after ≡ drop (s.buffers + s.instructions) was → (Ok s ≡ shape_of (v room)) × (after ≡ table_of room (v room))
read_ok room s was after v b same w e rest =
    let n = s.buffers in
    let m = s.instructions in
    let heads = take n after in
    let code = take m (drop n after) in
    let long : length was ≡ room = ap length b ∙ length-replicate room blank in
    let is : v room ≡ Ok (record { buffers = heads; instructions = code }) = ap v (sym long) ∙ e in
    let first : length heads ≡ n = length-take-le n after (omega arith) in
    let second : length code ≡ m = length-take-le m (drop n after) (simp length-drop (omega arith)) in
    let both : length (heads ++ code) ≡ n + m = length-append heads code ∙ omega (arith, first, second) in
    let tail : drop m (drop n after) ≡ replicate (room - length (heads ++ code)) blank = drop-drop m n after ∙ rest ∙ ap (drop (n + m)) b ∙ drop-replicate (n + m) room blank ∙ ap (λ k. replicate (room - k) blank) (sym both) in
    let shape : ℕ → ℕ → Result Shape ProgramFault = λ i j. Ok (record { buffers = i; instructions = j }) in (
      ap (λ i. shape i m) (sym first) ∙ ap (shape (length heads)) (sym second) ∙ ap shape_of (sym is),
      sym (take-append-drop n after)
          ∙ ap (λ l. heads ++ l) (sym (take-append-drop m (drop n after)))
          ∙ sym (append_assoc heads code (drop m (drop n after)))
          ∙ ap (λ l. (heads ++ code) ++ l) tail
          ∙ ap (table_of room) (sym is),
    )

pub read_err : (room : ℕ) (f : ProgramFault) (was after : List Record) (v : ℕ → Result Program ProgramFault) → length was ≡ room → v (length was) ≡ Err f → after ≡ replicate room blank → (Err f ≡ shape_of (v room)) × (after ≡ table_of room (v room))
read_err room f was after v same e b =
    let is : v room ≡ Err f = ap v (sym same) ∙ e in
    (ap shape_of (sym is), b ∙ ap (table_of room) (sym is))
