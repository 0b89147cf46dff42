-- Eight examples worked by hand, one line each.
use Rattle.std.specs.Prelude.{ℕ, ◌-◌, ◌^◌, Some, None}
use Rattle.range.specs.Ranges.{range}
use Rattle.tristate.specs.declared.Tristate.{Tristate}
use Rattle.worked.specs.declared.Worked.{Worked}

abbrev pub tristate : ℕ → ℕ → Tristate
tristate v m = record { value = v; mask = m }

abbrev pub table : Worked
table =
    record {
      -- (8, 2) + (9, 2)
      sum = tristate 17 6;
      -- (8, 2) - (9, 2)
      difference = tristate 1 (2 ^ 64 - 2);
      -- (4, 1) xor (1, 2)
      unlike = tristate 4 3;
      -- the span of [9, 11]
      span = tristate 8 3;
      -- (17, 0) joined with (166, 0)
      joined = tristate 0 183;
      -- [8, 64] + only 2 ^ 64 - 8
      wrapped = range 0 (2 ^ 64 - 1);
      -- [57, 60] under < 57, and under < 58
      under57 = None;
      under58 = Some (range 57 57);
      -- [4, 5] or [1, 8]
      either = range 4 (2 ^ 64 - 1);
    }
