-- The test of a table by its parts.
use Rattle.std.proofs.Common.{◌≡◌, ℕ, ◌-◌, Bool, ◌&&◌, List, length, take, drop, ap, ◌∙◌}
use Rattle.std.proofs.lemmas.List.{take_rest}
use Rattle.rule.specs.declared.record.Record.{Record}
use Rattle.machine.specs.Tables.{buffer_count, behind, code_length}
use Rattle.machine.specs.Valid.{counts_ok, rest_ok, table_ok}

-- four tests make one
pub four : (a b c d a' b' c' d' : Bool) → a ≡ a' → b ≡ b' → c ≡ c' → d ≡ d' → ((a && b) && (c && d)) ≡ ((a' && b') && (c' && d'))
four a b c d a' b' c' d' p q r s = cc

-- b buffers, and n records behind them before the first blank
pub whole : (p : List Record) (b n : ℕ) → b ≡ buffer_count p → n ≡ code_length p → (counts_ok b n && rest_ok p (take (length p - b) (drop b p)) n) ≡ table_ok p
whole p b n e f =
    let cut : take (length p - b) (drop b p) ≡ behind p = take_rest p b ∙ ap (λ i. drop i p) e in
    ap (λ i. counts_ok i n && rest_ok p (take (length p - b) (drop b p)) n) e
    ∙ ap (λ i. counts_ok (buffer_count p) i && rest_ok p (take (length p - b) (drop b p)) i) f
    ∙ ap (λ l. counts_ok (buffer_count p) (code_length p) && rest_ok p l (code_length p)) cut
