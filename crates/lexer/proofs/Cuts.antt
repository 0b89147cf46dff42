-- A text is cut at places: what its rows and a row's pieces then are. Assumes nothing.
use Rattle.std.proofs.Common.{◌≡◌, ℕ, zero, suc, ◌+◌, ◌-◌, ◌<◌, ◌≤◌, true, false, cond, eqb, List, [], ◌∷◌, length, get_or, take, drop, sym, ap, ◌∙◌, ⊎_elim, arith}
use Rattle.std.proofs.lemmas.List.{at_drop_more, at_drop_all, drop_more}
use Rattle.std.proofs.lemmas.Bool.{cases_lt}
use Rattle.std.proofs.lemmas.Bool.Decides.{nat_tests}
use Rattle.lexer.specs.Characters.{field_byte}
use Rattle.std.proofs.lemmas.Slice.{between_is}
use Rattle.lexer.specs.Lines.{row, piece, pieces_from, rows_from, longer, joined_to, goes_on}

pub pieces_more : (t : List ℕ) (n at : ℕ) → at < length t → pieces_from n at (drop at t) ≡ cond (eqb (get_or t at 0) 35) [] (cond (eqb (get_or t at 0) 32) (pieces_from n (at + 1) (drop (at + 1) t)) (joined_to n at (get_or t at 0) (goes_on (drop (at + 1) t)) (pieces_from n (at + 1) (drop (at + 1) t))))
pieces_more t n at h = at_drop_more (pieces_from n at) t at 0 h

pub pieces-all : (t : List ℕ) (n at : ℕ) → length t ≤ at → pieces_from n at (drop at t) ≡ []
pieces-all t n at h = at_drop_all (pieces_from n at) t at h

space-more : (t : List ℕ) (n at : ℕ) → at < length t → get_or t at 0 ≡ 32 → pieces_from n at (drop at t) ≡ pieces_from n (at + 1) (drop (at + 1) t)
space-more t n at h b = grind (arith, nat_tests, pieces_more)

goes-more : (t : List ℕ) (at : ℕ) → at < length t → goes_on (drop at t) ≡ field_byte (get_or t at 0)
goes-more t at h = at_drop_more goes_on t at 0 h

goes-all : (t : List ℕ) (at : ℕ) → length t ≤ at → goes_on (drop at t) ≡ false
goes-all t at h = at_drop_all goes_on t at h

piece-start : (t : List ℕ) (n at : ℕ) → at < length t → field_byte (get_or t at 0) ≡ true → pieces_from n at (drop at t) ≡ joined_to n at (get_or t at 0) (goes_on (drop (at + 1) t)) (pieces_from n (at + 1) (drop (at + 1) t))
piece-start t n at h b = grind (arith, nat_tests, pieces_more)

-- a field from a place on, one byte longer than k
piece-run : (k : ℕ) (t : List ℕ) (n from : ℕ) → from + suc k ≤ length t → ((j : ℕ) → from ≤ j → j < from + suc k → field_byte (get_or t j 0) ≡ true) → (from + suc k < length t → field_byte (get_or t (from + suc k) 0) ≡ false) → pieces_from n from (drop from t) ≡ piece n from (take (suc k) (drop from t)) ∷ pieces_from n (from + suc k) (drop (from + suc k) t)
piece-run zero t n from w all stops =
    let ends : goes_on (drop (from + 1) t) ≡ false = ⊎_elim (λ h. goes-more t (from + 1) h ∙ stops h) (λ h. goes-all t (from + 1) h) (cases_lt (from + 1) (length t)) in
    let one : take 1 (drop from t) ≡ get_or t from 0 ∷ [] = ap (take 1) (drop_more t from 0 (omega arith)) in
    piece-start t n from (omega arith) (all from (omega arith) (omega arith))
    ∙ ap (λ g. joined_to n from (get_or t from 0) g (pieces_from n (from + 1) (drop (from + 1) t))) ends
    ∙ ap (λ l. piece n from l ∷ pieces_from n (from + 1) (drop (from + 1) t)) (sym one)
piece-run (suc k) t n from w all stops =
    let e : from + 1 + suc k ≡ from + suc (suc k) = omega arith in
    let goes : goes_on (drop (from + 1) t) ≡ true = goes-more t (from + 1) (omega arith) ∙ all (from + 1) (omega arith) (omega arith) in
    let more : take (suc (suc k)) (drop from t) ≡ get_or t from 0 ∷ take (suc k) (drop (from + 1) t) = ap (take (suc (suc k))) (drop_more t from 0 (omega arith)) in
    let rest = piece-run k t n (from + 1) (omega arith) (λ j a b. all j (omega arith) (omega arith)) (λ h. ap (λ i. field_byte (get_or t i 0)) e ∙ stops (omega arith)) in
    piece-start t n from (omega arith) (all from (omega arith) (omega arith))
    ∙ ap (λ g. joined_to n from (get_or t from 0) g (pieces_from n (from + 1) (drop (from + 1) t))) goes
    ∙ ap (joined_to n from (get_or t from 0) true) rest
    ∙ ap (λ i. piece n from (get_or t from 0 ∷ take (suc k) (drop (from + 1) t)) ∷ pieces_from n i (drop i t)) e
    ∙ ap (λ l. piece n from l ∷ pieces_from n (from + suc (suc k)) (drop (from + suc (suc k)) t)) (sym more)

pub piece_cut : (t : List ℕ) (n from to : ℕ) → from < to → to ≤ length t → ((j : ℕ) → from ≤ j → j < to → field_byte (get_or t j 0) ≡ true) → (to < length t → field_byte (get_or t to 0) ≡ false) → pieces_from n from (drop from t) ≡ piece n from (take (to - from) (drop from t)) ∷ pieces_from n to (drop to t)
piece_cut t n from to l w all stops =
    let k = to - from - 1 in
    let e : from + suc k ≡ to = omega arith in
    let f : suc k ≡ to - from = omega arith in
    piece-run k t n from (omega arith) (λ j a b. all j a (omega arith)) (λ h. ap (λ i. field_byte (get_or t i 0)) e ∙ stops (omega arith))
    ∙ ap (λ i. piece n from (take (suc k) (drop from t)) ∷ pieces_from n i (drop i t)) e
    ∙ ap (λ m. piece n from (take m (drop from t)) ∷ pieces_from n to (drop to t)) f

-- past spaces
spaces-run : (k : ℕ) (t : List ℕ) (n from : ℕ) → from + k ≤ length t → ((j : ℕ) → from ≤ j → j < from + k → get_or t j 0 ≡ 32) → pieces_from n from (drop from t) ≡ pieces_from n (from + k) (drop (from + k) t)
spaces-run zero t n from w all = let e : from ≡ from + 0 = omega arith in ap (λ i. pieces_from n i (drop i t)) e
spaces-run (suc k) t n from w all =
    let e : from + 1 + k ≡ from + suc k = omega arith in
    let one : get_or t from 0 ≡ 32 = all from (omega arith) (omega arith) in
    let past : pieces_from n from (drop from t) ≡ pieces_from n (from + 1) (drop (from + 1) t) = space-more t n from (omega arith) one in
    past ∙ spaces-run k t n (from + 1) (omega arith) (λ j a b. all j (omega arith) (omega arith)) ∙ ap (λ i. pieces_from n i (drop i t)) e

pub spaces_cut : (t : List ℕ) (n from to : ℕ) → from ≤ to → (from < to → to ≤ length t) → ((j : ℕ) → from ≤ j → j < to → get_or t j 0 ≡ 32) → pieces_from n from (drop from t) ≡ pieces_from n to (drop to t)
spaces_cut t n from to l w all =
    ⊎_elim
    (λ h. let e : from + (to - from) ≡ to = omega arith in spaces-run (to - from) t n from (omega (arith, w h)) (λ j a b. all j a (omega arith)) ∙ ap (λ i. pieces_from n i (drop i t)) e)
    (λ h. let e : from ≡ to = omega arith in ap (λ i. pieces_from n i (drop i t)) e)
    (cases_lt from to)

pub pieces_none : (t : List ℕ) (n at : ℕ) → (at < length t → get_or t at 0 ≡ 32 → ⊥) → (at < length t → field_byte (get_or t at 0) ≡ false) → pieces_from n at (drop at t) ≡ []
pieces_none t n at a b = ⊎_elim (λ h. let x = a h in let y = b h in grind (arith, nat_tests, pieces_more)) (λ h. pieces-all t n at h) (cases_lt at (length t))

rows_more : (t : List ℕ) (n at : ℕ) → at < length t → rows_from n at (drop at t) ≡ cond (eqb (get_or t at 0) 10) (row n at [] ∷ rows_from (n + 1) (at + 1) (drop (at + 1) t)) (longer n at (get_or t at 0) (rows_from n (at + 1) (drop (at + 1) t)))
rows_more t n at h = at_drop_more (rows_from n at) t at 0 h

pub rows_all : (t : List ℕ) (n at : ℕ) → length t ≤ at → rows_from n at (drop at t) ≡ []
rows_all t n at h = at_drop_all (rows_from n at) t at h

row_feed : (t : List ℕ) (n at : ℕ) → at < length t → get_or t at 0 ≡ 10 → rows_from n at (drop at t) ≡ row n at [] ∷ rows_from (n + 1) (at + 1) (drop (at + 1) t)
row_feed t n at h b = grind (arith, nat_tests, rows_more)

row-byte : (t : List ℕ) (n at : ℕ) → at < length t → (get_or t at 0 ≡ 10 → ⊥) → rows_from n at (drop at t) ≡ longer n at (get_or t at 0) (rows_from n (at + 1) (drop (at + 1) t))
row-byte t n at h b = grind (arith, nat_tests, rows_more)

-- a row that a line feed ends after k bytes
row-run : (k : ℕ) (t : List ℕ) (n from : ℕ) → from + k < length t → ((j : ℕ) → from ≤ j → j < from + k → get_or t j 0 ≡ 10 → ⊥) → get_or t (from + k) 0 ≡ 10 → rows_from n from (drop from t) ≡ row n from (take k (drop from t)) ∷ rows_from (n + 1) (from + k + 1) (drop (from + k + 1) t)
row-run zero t n from w all feed =
    let e : from + 0 ≡ from = omega arith in
    row_feed t n from (omega arith) (ap (λ i. get_or t i 0) (sym e) ∙ feed)
    ∙ ap (λ i. row n from [] ∷ rows_from (n + 1) (i + 1) (drop (i + 1) t)) (sym e)
row-run (suc k) t n from w all feed =
    let e : from + 1 + k ≡ from + suc k = omega arith in
    let more : take (suc k) (drop from t) ≡ get_or t from 0 ∷ take k (drop (from + 1) t) = ap (take (suc k)) (drop_more t from 0 (omega arith)) in
    row-byte t n from (omega arith) (all from (omega arith) (omega arith))
    ∙ ap (longer n from (get_or t from 0)) (row-run k t n (from + 1) (omega arith) (λ j a b. all j (omega arith) (omega arith)) (ap (λ i. get_or t i 0) e ∙ feed))
    ∙ ap (λ i. row n from (get_or t from 0 ∷ take k (drop (from + 1) t)) ∷ rows_from (n + 1) (i + 1) (drop (i + 1) t)) e
    ∙ ap (λ l. row n from l ∷ rows_from (n + 1) (from + suc k + 1) (drop (from + suc k + 1) t)) (sym more)

-- the last row, with no line feed, one byte longer than k
row_last : (k : ℕ) (t : List ℕ) (n from : ℕ) → from + suc k ≡ length t → ((j : ℕ) → from ≤ j → j < from + suc k → get_or t j 0 ≡ 10 → ⊥) → rows_from n from (drop from t) ≡ row n from (take (suc k) (drop from t)) ∷ []
row_last zero t n from w all =
    let one : take 1 (drop from t) ≡ get_or t from 0 ∷ take 0 (drop (from + 1) t) = ap (take 1) (drop_more t from 0 (omega arith)) in
    row-byte t n from (omega arith) (all from (omega arith) (omega arith))
    ∙ ap (longer n from (get_or t from 0)) (rows_all t n (from + 1) (omega arith))
    ∙ ap (λ l. row n from l ∷ []) (sym one)
row_last (suc k) t n from w all =
    let more : take (suc (suc k)) (drop from t) ≡ get_or t from 0 ∷ take (suc k) (drop (from + 1) t) = ap (take (suc (suc k))) (drop_more t from 0 (omega arith)) in
    row-byte t n from (omega arith) (all from (omega arith) (omega arith))
    ∙ ap (longer n from (get_or t from 0)) (row_last k t n (from + 1) (omega arith) (λ j a b. all j (omega arith) (omega arith)))
    ∙ ap (λ l. row n from l ∷ []) (sym more)

-- the row that ends at a place, and what follows it
pub row_cut : (t : List ℕ) (n from end next : ℕ) → from < length t → from ≤ end → end ≤ length t → ((j : ℕ) → from ≤ j → j < end → get_or t j 0 ≡ 10 → ⊥) → (end < length t → get_or t end 0 ≡ 10) → (end < length t → next ≡ end + 1) → (length t ≤ end → next ≡ end) → rows_from n from (drop from t) ≡ row n from (drop from (take end t)) ∷ rows_from (n + 1) next (drop next t)
row_cut t n from end next some l w all stops inner last =
    ⊎_elim
    (λ h. let e : from + (end - from) ≡ end = omega arith in
    row-run (end - from) t n from (omega arith) (λ j a b. all j a (omega arith)) (ap (λ i. get_or t i 0) e ∙ stops h)
    ∙ ap (λ i. row n from (take (end - from) (drop from t)) ∷ rows_from (n + 1) (i + 1) (drop (i + 1) t)) e
    ∙ ap (λ i. row n from (take (end - from) (drop from t)) ∷ rows_from (n + 1) i (drop i t)) (sym (inner h))
    ∙ ap (λ l. row n from l ∷ rows_from (n + 1) next (drop next t)) (between_is t from end))
    (λ h. let e : suc (end - from - 1) ≡ end - from = omega arith in
    row_last (end - from - 1) t n from (omega arith) (λ j a b. all j a (omega arith))
    ∙ ap (λ m. row n from (take m (drop from t)) ∷ []) e
    ∙ ap (λ l. row n from l ∷ []) (between_is t from end)
    ∙ ap (λ r. row n from (drop from (take end t)) ∷ r) (sym (rows_all t (n + 1) next (omega (arith, last h)))))
    (cases_lt end (length t))
