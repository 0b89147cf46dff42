use Rattle.std.proofs.Common.{◌≡◌, ℕ, ◌+◌, ◌*◌, ◌<◌, List, [], ◌∷◌, ◌++◌, length, get_or, take, drop, set, replicate, sym, ap, ◌∙◌, arith}
use Rattle.std.proofs.lemmas.List.{drop_more, set_at, length-replicate, append_assoc, replicate_more}
use Rattle.walk.proofs.flow.open.Goals as goal

filled_more : {X : Type 0} (xs : List X) (k : ℕ) (y : X) → k < length xs → set (replicate k y ++ drop k xs) k y ≡ replicate (k + 1) y ++ drop (k + 1) xs
filled_more xs k y lt =
    ap (λ l. set (replicate k y ++ l) k y) (drop_more xs k y lt)
    ∙ set_at (replicate k y) (get_or xs k y) (drop (k + 1) xs) y k (length-replicate k y)
    ∙ sym (append_assoc (replicate k y) (y ∷ []) (drop (k + 1) xs))
    ∙ ap (λ l. l ++ drop (k + 1) xs) (replicate_more k y)

pub loop-value-preserved : goal.loop-value-preserved
loop-value-preserved g c =
    (λ i. set (c.loop-value.invariant i) c.loop-value.value-index (c.any.ensures i))
    ∙ filled_more (take (8 * c.args.count) c.args.rows.now) c.loop-value.value-index g.D.Domain.every (omega (arith, c.loop-value.auto.value-items, c.loop-value-test.true))
