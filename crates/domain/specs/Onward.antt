-- Two questions one after the other: what holds of the answers to both holds of the last.
use Rattle.std.specs.Prelude.{ℕ, Some, None, Option}
use Rattle.std.specs.Option.{option_and_then}
use Rattle.words.specs.Sets.{HoldsIn}

module _ {X : Type 0} (P : X → ℕ → Type 0) (f : X → Option X) (w : ℕ) where
  pub onward-holds : (o : Option X) → HoldsIn P o w → ((x : X) → P x w → HoldsIn P (f x) w) → HoldsIn P (option_and_then f o) w
  onward-holds None h g = h
  onward-holds (Some x) h g = g x h

  pub onward-within : (o : Option X) → HoldsIn P (option_and_then f o) w → ((x : X) → HoldsIn P (f x) w → P x w) → HoldsIn P o w
  onward-within None h g = h
  onward-within (Some x) h g = g x h

-- a common part with two others, one after the other: it holds what all three hold, and nothing outside the first
module _ {X : Type 0} (P : X → ℕ → Type 0) (common : X → X → Option X) (a b c : X) (w : ℕ) where
  pub twice-holds : ((x y : X) → P x w → P y w → HoldsIn P (common x y) w) → P a w → P b w → P c w
      → HoldsIn P (option_and_then (λ x. common x c) (common a b)) w
  twice-holds keeps ha hb hc = onward-holds P (λ x. common x c) w (common a b) (keeps a b ha hb) (λ x hx. keeps x c hx hc)

  pub twice-within : ((x y : X) → HoldsIn P (common x y) w → P x w × P y w)
      → HoldsIn P (option_and_then (λ x. common x c) (common a b)) w → P a w
  twice-within within h = (within a b (onward-within P (λ x. common x c) w (common a b) h (λ x hx. (within x c hx).0))).0
