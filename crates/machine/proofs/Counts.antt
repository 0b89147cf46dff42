-- One instruction more.
use Rattle.std.proofs.Common.{◌≡◌, ℕ, ◌+◌, ◌<◌, Bool, ◌&&◌, List, get_or, take, ap, ◌∙◌, add-one}
use Rattle.std.proofs.lemmas.List.{get_or-take}
use Rattle.rule.specs.declared.record.Record.{Record}
use Rattle.rule.specs.Records.{blank}
use Rattle.machine.specs.Tables.{behind}
use Rattle.machine.specs.Valid.{item_ok, code_ok}

code-more : (p cs : List Record) (n k : ℕ) → (item_ok p n k (get_or cs k blank).item && code_ok p cs n k) ≡ code_ok p cs n (k + 1)
unfolding code_ok
code-more p cs n k = rw add-one

-- the same as it is tested, over a part of the records behind the buffers
pub code_tested : (p q : List Record) (n m k : ℕ) (b fine : Bool) → q ≡ behind p → k < m → b ≡ item_ok p n k (get_or (take m q) k blank).item → fine ≡ code_ok p (behind p) n k → (b && fine) ≡ code_ok p (behind p) n (k + 1)
code_tested p q n m k b fine same h e f =
    let read : get_or (take m q) k blank ≡ get_or (behind p) k blank = get_or-take m q k blank h ∙ ap (λ cs. get_or cs k blank) same in
    let tested = e ∙ ap (λ (r : Record). item_ok p n k r.item) read in
    (λ i. tested i && f i) ∙ code-more p (behind p) n k
