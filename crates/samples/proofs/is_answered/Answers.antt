use Rattle.std.proofs.Common.{◌≡◌, ℕ, Bool, true, false, cond, List, ◌++◌, length, take, drop, Ok, Err, Result, sym, ap, ◌∙◌}
use Rattle.std.proofs.lemmas.Slice.Eq.{slice_eq-Decides}
use Rattle.std.proofs.lemmas.List.{take_at}
use Rattle.samples.proofs.is_answered.Goals as goal
use Rattle.std.proofs.lemmas.Bool.Decides.{Decides-eqb}

-- what is printed stands in front of the output
printed-front : {E : Type 0} (b : Bool) (text output : List ℕ) (n : ℕ) (f : E) → ◌≡◌ {A = Result ℕ E} (Ok n) (cond b (Ok (length text)) (Err f))
    → take n (cond b (text ++ drop (length text) output) output) ≡ text
printed-front true text output n f e = let same : n ≡ length text = cc in take_at text (drop (length text) output) n (sym same)
printed-front false text output n f e = cc

pub returns-in-Ok : goal.returns-in-Ok
returns-in-Ok c same =
    let shown = printed-front _ _ _ c.in-Ok.count _ (sym c.in-Ok.is ∙ c.answer.ensures.count) in
    sym shown
    ∙ (ap (take c.in-Ok.count) (sym c.answer.ensures.after) ∙ (slice_eq-Decides Decides-eqb _ _ _ c.eq.ensures).0 same)
