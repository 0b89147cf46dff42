-- The lines, row by row.
use Rattle.std.proofs.Common.{◌≡◌, ℕ, ◌+◌, ◌<◌, List, ◌++◌, length, get_or, take, drop, Option, sym, ap, ◌∙◌}
use Rattle.std.proofs.lemmas.List.{at_drop_more}
use Rattle.report.specs.Lines.{line_text, rows_text}

-- the line of a row is the first of those from it on
pub rows_more : {R : Type 0} (fields : R → List (Option ℕ)) (rows : List R) (i : ℕ) {r : R} {line w : List ℕ} → i < length rows → r ≡ get_or rows i r → line ≡ w → w ≡ line_text (fields r) → rows_text fields (drop i rows) ≡ line ++ rows_text fields (drop (i + 1) rows)
rows_more fields rows i {r} {line} {w} h e l m = at_drop_more (rows_text fields) rows i r h ∙ ap (λ t. t ++ rows_text fields (drop (i + 1) rows)) (ap (λ x. line_text (fields x)) (sym e) ∙ sym (l ∙ m))

-- the output is printed as far as `at`, the lines are to come, and behind that it is as it was at first
pub record Printing (at : ℕ) (output first lines text : List ℕ) : Type 0 where
  pub front : take at output ++ lines ≡ text
  pub back : drop at output ≡ drop at first
  pub total : at + length lines ≡ length text
