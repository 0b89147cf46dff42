-- Where the instructions of a rule stand in its table.
use Rattle.std.proofs.Common.{◌≡◌, ℕ, ◌+◌, ◌<◌, not, List, length, get_or, take, sym}
use Rattle.std.proofs.lemmas.List.{get_or-drop, get_or-take}
use Rattle.std.proofs.lemmas.List.Folds.{length-prefix_len}
use Rattle.rule.specs.declared.record.Record.{Record}
use Rattle.rule.specs.Records.{blank, is_blank}
use Rattle.machine.specs.Tables.{buffer_count, code_length, code_at, behind}

pub code_read : (p : List Record) (k : ℕ) → get_or p (buffer_count p + k) blank ≡ code_at p k
code_read p k = sym (get_or-drop (buffer_count p) p k blank)

-- the instructions as a list of their own
pub code_long : (p : List Record) → length (take (code_length p) (behind p)) ≡ code_length p
code_long p = length-prefix_len (λ (r : Record). not (is_blank r.item)) (behind p)

pub code_line : (p : List Record) (k : ℕ) → k < code_length p → get_or (take (code_length p) (behind p)) k blank ≡ code_at p k
code_line p k h = get_or-take (code_length p) (behind p) k blank h
