use Rattle.std.proofs.Common.{◌≡◌, ◌+◌, ◌++◌, length, drop}
use Rattle.report.specs.Lines.{rows_text}
use Rattle.report.proofs.print.has_room.Given as goal

-- the room that was there is too short for the whole just where the room that is left is too short for what is to come
abbrev pub invariant-loop-row : goal.invariant-loop-row
invariant-loop-row g l = l.room + length (rows_text g.R.Row.fields (drop l.row-index l.rows)) ≡ l.left + length (l.heading ++ rows_text g.R.Row.fields l.rows)
