-- The check of a rule: what is known flows from instruction to instruction, in their order.
use Prim.{Unit}
use Rattle.std.specs.Prelude.{ℕ, zero, suc, ◌+◌, ◌*◌, ◌<◌, Bool, true, false, cond, ◌&&◌, List, [], ◌∷◌, ◌++◌, map, take, drop, set, replicate, Some, None, Option, slice_index_or, slice_set}
use Rattle.std.specs.List.{range_with_len}
use Rattle.domain.specs.declared.domain.Domain.{Ghosts}
use Rattle.rule.specs.declared.record.Record.{Record}
use Rattle.machine.specs.Tables.{code_length, code_at}
use Rattle.step.specs.declared.mark.Mark.{Mark}
use Rattle.step.specs.declared.outcome.Change.{Change}
use Rattle.step.specs.declared.outcome.Outcome.{Outcome}
use Rattle.step.specs.declared.report.Report.{Report}
use Rattle.step.specs.Changes.{changed_value, changed_set, change_of, place_of}
use Rattle.step.specs.Rows.{is_set}
use Rattle.step.specs.Transfer.{transfer}

-- all that a check leaves: the values of the registers, eight to an instruction; a mark for each instruction; the
-- reports, packed from the front; how many they are; and the join of what is returned
pub record Sheet (D : Type 0) : Type 0 where
  pub rows : List D
  pub marks : List Mark
  pub reports : List Report
  pub count : ℕ
  pub answer : Option D

abbrev pub sheet : {D : Type 0} → List D → List Mark → List Report → ℕ → Option D → Sheet D
sheet rows marks reports count answer = record { rows = rows; marks = marks; reports = reports; count = count; answer = answer }

-- what is asked only where there is something
abbrev pub Present : {X : Type 0} → Option X → Type 0 → Type 0
Present None P = Unit {0}
Present (Some x) P = P

abbrev pub row_at : {D : Type 0} → List D → ℕ → List D
row_at rows k = take 8 (drop (8 * k) rows)

abbrev pub unreached : Mark
unreached = record { reached = false; set = replicate 8 false }

abbrev pub start : Mark
start = record { reached = true; set = false ∷ true ∷ true ∷ true ∷ true ∷ false ∷ false ∷ false ∷ [] }

-- past the last mark nothing is reached
abbrev pub mark_at : List Mark → ℕ → Mark
mark_at marks k = slice_index_or marks k (record { reached = false; set = [] })

-- ── what comes to an instruction ──

-- a register stays set only if it is set on both sides
abbrev pub meets : Mark → Bool → ℕ → Bool
meets old b r = cond old.reached (is_set old r && b) b

abbrev pub arrived_mark : {D : Type 0} → Mark → Mark → Change D → Mark
arrived_mark old from c = record { reached = true; set = map (λ r. meets old (changed_set c r (is_set from r)) r) (range_with_len 0 8) }

-- a row first reached is copied, later ones are joined, and an unset register holds any
abbrev pub arrived_value : {D : Type 0} → Ghosts D → Mark → Mark → D → D → ℕ → D
arrived_value d old new was comes r = cond (is_set new r) (cond old.reached (d.joined was comes) comes) d.every

-- the first n registers of row k, changed, come to row j
unfoldable pub sent_rows : {D : Type 0} → Ghosts D → ℕ → ℕ → Mark → Mark → Change D → List D → ℕ → List D
sent_rows d k j old new c rows zero = rows
sent_rows d k j old new c rows (suc n) =
    set (sent_rows d k j old new c rows n) (8 * j + n)
    (arrived_value d old new (slice_index_or rows (8 * j + n) d.every) (changed_value c n (slice_index_or rows (8 * k + n) d.every)) n)

-- a change, if there is one, comes from row k to row j
abbrev pub sent_all : {D : Type 0} → Ghosts D → ℕ → ℕ → Option (Change D) → List D → List Mark → List D
sent_all d k j None rows marks = rows
sent_all d k j (Some c) rows marks = sent_rows d k j (mark_at marks j) (arrived_mark (mark_at marks j) (mark_at marks k) c) c rows 8

abbrev pub sent_marks : {D : Type 0} → ℕ → ℕ → Option (Change D) → List Mark → List Mark
sent_marks k j None marks = marks
sent_marks k j (Some c) marks = slice_set marks j (arrived_mark (mark_at marks j) (mark_at marks k) c)

abbrev pub sent : {D : Type 0} → Ghosts D → ℕ → ℕ → Option (Change D) → Sheet D → Sheet D
sent d k j o s = record { rows = sent_all d k j o s.rows s.marks; marks = sent_marks k j o s.marks; reports = s.reports; count = s.count; answer = s.answer }

-- ── what is noted of an instruction ──

abbrev pub noted_reports : Option Report → List Report → ℕ → List Report
noted_reports None reports n = reports
noted_reports (Some r) reports n = slice_set reports n r

abbrev pub noted_count : Option Report → ℕ → ℕ
noted_count None n = n
noted_count (Some r) n = n + 1

abbrev pub noted : {D : Type 0} → Option Report → Sheet D → Sheet D
noted o s = record { rows = s.rows; marks = s.marks; reports = noted_reports o s.reports s.count; count = noted_count o s.count; answer = s.answer }

abbrev pub joined_in : {D : Type 0} → Ghosts D → Option D → Option D → Option D
joined_in d None o = o
joined_in d (Some a) None = Some a
joined_in d (Some a) (Some b) = Some (d.joined a b)

abbrev pub returned : {D : Type 0} → Ghosts D → Option D → Sheet D → Sheet D
returned d o s = record { rows = s.rows; marks = s.marks; reports = s.reports; count = s.count; answer = joined_in d s.answer o }

-- the fall-through comes first, then the jump
unfoldable pub applied : {D : Type 0} → Ghosts D → ℕ → Outcome D → Sheet D → Sheet D
applied d k o s = returned d o.answer (noted o.report (sent d k (place_of o.jump) (change_of o.jump) (sent d k (k + 1) o.next s)))

-- where an outcome leads, from instruction k of n: on to the next, or to a later one
abbrev pub Ways : {D : Type 0} → ℕ → ℕ → Outcome D → Type 0
Ways n k o = Present o.next (k + 1 < n) × Present (change_of o.jump) ((k < place_of o.jump) × (place_of o.jump < n))

-- what the instruction in record r, at k, makes of its row and mark
abbrev pub outcome_at : {D : Type 0} → Ghosts D → List Record → Record → ℕ → List D → List Mark → Outcome D
outcome_at d p r k rows marks = transfer d p r.line r.item (row_at rows k) (mark_at marks k)

-- it goes on where control can come there
unfoldable pub visited : {D : Type 0} → Ghosts D → List Record → Record → ℕ → Sheet D → Sheet D
visited d p r k s = cond (mark_at s.marks k).reached (applied d k (outcome_at d p r k s.rows s.marks) s) s

-- the first n instructions
unfoldable pub walked : {D : Type 0} → Ghosts D → List Record → ℕ → Sheet D → Sheet D
walked d p zero s = s
walked d p (suc n) s = visited d p (code_at p n) n (walked d p n s)

-- before the first: every value any, no instruction reached but the first
abbrev pub opened : {D : Type 0} → Ghosts D → ℕ → List D → List Mark → List Report → Sheet D
opened d n rows marks reports = sheet (replicate (8 * n) d.every ++ drop (8 * n) rows) (slice_set (replicate n unreached ++ drop n marks) 0 start) reports 0 None

abbrev pub checked : {D : Type 0} → Ghosts D → List Record → List D → List Mark → List Report → Sheet D
checked d p rows marks reports = walked d p (code_length p) (opened d (code_length p) rows marks reports)
