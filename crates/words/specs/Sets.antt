-- The words of a value that may be absent.
use Rattle.std.specs.Prelude.{ℕ, Some, None, Option}

-- An absent value holds no word. So 'holds each word that ..' also says that an answer is none only if there is no such word.
abbrev pub HoldsIn : {D : Type 0} → (D → ℕ → Type 0) → Option D → ℕ → Type 0
HoldsIn holds None w = ⊥
HoldsIn holds (Some d) w = holds d w
