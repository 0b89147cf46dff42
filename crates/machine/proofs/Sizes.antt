-- Where the buffers of a rule lie: each in its own part of the memory.
use Rattle.std.proofs.Common.{◌≡◌, ℕ, zero, suc, ◌+◌, ◌*◌, ◌<◌, ◌≤◌, Bool, true, leb, List, length, get_or, sym, ap, ◌∙◌, ⊎_elim, arith}
use Rattle.std.specs.List.{list_all, take_while}
use Rattle.std.proofs.lemmas.Bool.{and_parts, leb-true, cases_Bool, cases_eq, cases_lt, both_ways}
use Rattle.std.proofs.lemmas.List.{get_or-take, get_or_past, take_all}
use Rattle.std.proofs.lemmas.List.Sums.{sum_by_more}
use Rattle.std.proofs.lemmas.List.Folds.{length-prefix_len, list_all_at}
use Rattle.rule.specs.declared.record.Record.{Record}
use Rattle.rule.specs.Records.{blank, is_buffer, size_in}
use Rattle.machine.specs.Memory.{sizes_of, start_of, total_size}
use Rattle.machine.specs.Tables.{buffer_count, size_at}
use Rattle.machine.specs.Valid.{size_ok, heads_ok, Valid}

-- each buffer has 1024 bytes at most
small : (p : List Record) (b : ℕ) → heads_ok p ≡ true → b < buffer_count p → size_at p b ≤ 1024
small p b e h =
    let is : Record → Bool = λ (r : Record). is_buffer r.item in
    let heads = take_while is p in
    let fine : Record → Bool = λ (r : Record). size_ok r.item in
    let long : length heads ≡ buffer_count p = length-prefix_len is p in
    let here : get_or heads b blank ≡ get_or p b blank = get_or-take (buffer_count p) p b blank h in
    let ok : fine (get_or heads b blank) ≡ true = ⊎_elim
    (λ t. t)
    (λ f. absurd (both_ways (list_all fine heads) (list_all_at fine heads b blank (omega arith) f) e))
    (cases_Bool (fine (get_or heads b blank))) in
    leb-true _ _ (and_parts (leb 1 (size_at p b)) (leb (size_at p b) 1024) (sym (ap fine here) ∙ ok)).1

pub small-buffer : (p : List Record) (b : ℕ) → Valid p → b < buffer_count p → size_at p b ≤ 1024
small-buffer p b v h = small p b v.heads h

pub start-more : (p : List Record) (b : ℕ) → start_of p b + size_at p b ≡ start_of p (b + 1)
start-more p b =
    ⊎_elim
    (λ l. sym (sum_by_more (λ (r : Record). size_in r.item) p b blank l))
    (λ past.
    let none : size_at p b ≡ 0 = ap (λ (r : Record). size_in r.item) (get_or_past p b blank past) in
    let same : start_of p b ≡ start_of p (b + 1) = ap sizes_of (take_all b p past ∙ sym (take_all (b + 1) p (omega arith))) in
    omega arith)
    (cases_lt b (length p))

-- the buffers in front take 1024 bytes each at most
pub start-small : (p : List Record) (b : ℕ) → Valid p → b ≤ buffer_count p → start_of p b ≤ 1024 * b
start-small p zero v h = omega arith
start-small p (suc b) v h =
    let before = start-small p b v (omega arith) in
    let more = start-more p b in
    let one = small-buffer p b v (omega arith) in
    let same : b + 1 ≡ suc b = omega arith in
    let next = ap (start_of p) same in
    omega arith

-- a buffer ends where the next begins, or before
pub ends-before : (p : List Record) (b c : ℕ) → b < c → start_of p b + size_at p b ≤ start_of p c
ends-before p b zero h = absurd (omega arith)
ends-before p b (suc c) h =
    let more = start-more p c in
    let same : c + 1 ≡ suc c = omega arith in
    let next = ap (start_of p) same in
    ⊎_elim
    (λ here. let e = ap (λ x. start_of p x + size_at p x) here in omega arith)
    (λ ne. let e = ends-before p b c (omega arith) in omega arith)
    (cases_eq b c)

pub inside-memory : (p : List Record) (b : ℕ) → b < buffer_count p → start_of p b + size_at p b ≤ total_size p
inside-memory p b h = ends-before p b (buffer_count p) h
