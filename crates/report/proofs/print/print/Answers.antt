use Rattle.std.proofs.Common.{◌≡◌, ℕ, ◌+◌, true, leb, List, [], ◌++◌, length, take, drop, Ok, sym, ap, ◌∙◌, append_assoc, append-nil, arith, length-append}
use Rattle.std.proofs.lemmas.List.{at_drop_all, drop-drop, take-append-drop}
use Rattle.std.proofs.lemmas.Bool.{cond-true}
use Rattle.report.specs.Lines.{rows_text}
use Rattle.report.specs.Printing.{output_after, printed}
use Rattle.report.proofs.Rows.{Printing, rows_more}
use Rattle.report.proofs.print.print.Goals as goal

-- outputs that agree from a place on agree from each later one
drop-later : (m k n : ℕ) (xs ys : List ℕ) → n ≡ m + k → drop m xs ≡ drop m ys → drop n xs ≡ drop n ys
drop-later m k n xs ys later e = rw later (sym (drop-drop k m xs) ∙ (ap (drop k) e ∙ drop-drop k m ys))

one_more : (at end : ℕ) (output after first line lines rest text : List ℕ) → lines ≡ line ++ rest → Printing at output first lines text → end ≡ at + length line → take end after ≡ take at output ++ line → drop end after ≡ drop end output → Printing end after first rest text
one_more at end output after first line lines rest text more here moved front back =
    let grouped = append_assoc (take at output) line rest in
    record { front = cc; back = back ∙ drop-later at (length line) end output first moved here.back; total = omega (arith, simp length-append at (ap length more)) }

all : (at from : ℕ) (output first start heading lines none : List ℕ) → none ≡ [] → Printing at output first none (heading ++ lines) → from ≡ 0 + length heading → drop from first ≡ drop from start → true ≡ leb (length (heading ++ lines)) (length start) → (Ok at ≡ printed (heading ++ lines) start) × (output ≡ output_after (heading ++ lines) start)
all at from output first start heading lines none e here begun back room =
    let whole : at ≡ length (heading ++ lines) = omega (arith, ap length e) in
    let front : take at output ≡ heading ++ lines = sym (append-nil (take at output)) ∙ (ap (λ t. take at output ++ t) (sym e) ∙ here.front) in
    let rest = here.back ∙ drop-later from (length lines) at first start (omega (arith, length-append heading lines)) back in
    let split = take-append-drop at output in
    let filled : output ≡ (heading ++ lines) ++ drop (length (heading ++ lines)) start = cc in
    (ap Ok whole ∙ sym (cond-true _ _ _ (sym room)), filled ∙ sym (cond-true _ _ _ (sym room)))

pub loop-row-preserved : goal.loop-row-preserved
loop-row-preserved g c =
    one_more _ _ _ _ _ _ _ _ _
    (rows_more g.R.Row.fields c.args.rows.now c.loop-row.row-index (omega arith) c.row-item.is (c.as_bytes.ensures.value ∙ c.as_str.ensures.value) c.line-line.ensures)
    c.loop-row.invariant c.put-at-in-loop-row.ensures.end c.put-at-in-loop-row.ensures.front c.put-at-in-loop-row.ensures.back

pub returns : goal.returns
returns g c =
    let none = at_drop_all (rows_text g.R.Row.fields) c.args.rows.now c.loop-row.row-index (omega arith) in
    let done = all _ _ _ _ _ _ _ _ none c.loop-row.invariant c.put-at.ensures.end c.put-at.ensures.back c.if-not-has_room.ensures in
    record { count = done.0; after = done.1 }
