-- The row and the mark after a change.
use Rattle.std.specs.Prelude.{ℕ, Bool, true, cond, Some, None, Option, ◌==◌}
use Rattle.step.specs.declared.outcome.Change.{Change}
use Rattle.step.specs.declared.outcome.Jump.{Jump}
use Rattle.step.specs.declared.outcome.Patch.{Patch}

-- the value of register k under a patch, and whether it is set
abbrev pub patch_value : {D : Type 0} → Option (Patch D) → ℕ → D → D
patch_value None k v = v
patch_value (Some p) k v = cond (k == p.register) p.value v

abbrev pub patch_set : {D : Type 0} → Option (Patch D) → ℕ → Bool → Bool
patch_set None k b = b
patch_set (Some p) k b = cond (k == p.register) true b

abbrev pub changed_value : {D : Type 0} → Change D → ℕ → D → D
changed_value c k v = patch_value c.second k (patch_value c.first k v)

abbrev pub changed_set : {D : Type 0} → Change D → ℕ → Bool → Bool
changed_set c k b = patch_set c.second k (patch_set c.first k b)

-- the change that a jump takes along, and where to, if there is a jump
abbrev pub change_of : {D : Type 0} → Option (Jump D) → Option (Change D)
change_of None = None
change_of (Some x) = Some x.change

abbrev pub place_of : {D : Type 0} → Option (Jump D) → ℕ
place_of None = 0
place_of (Some x) = x.to
