-- What holds of each element, of what is there, and of what is read.
use Rattle.std.proofs.Common.{List, [], ◌∷◌, ◌++◌, IfOk, Some, None, Ok, Err, Option, Result}

abbrev pub Each : {X : Type 0} → (X → Type 0) → List X → Type 0
Each P [] = Unit {0}
Each P (x ∷ xs) = P x × Each P xs

pub each_push : {X : Type 0} (P : X → Type 0) (xs : List X) (y : X) → Each P xs → P y → Each P (xs ++ y ∷ [])
each_push P [] y h g = (g, tt)
each_push P (x ∷ xs) y h g = (h.0, each_push P xs y h.1 g)

pub each_so : {X : Type 0} (P Q : X → Type 0) (xs : List X) → ((x : X) → P x → Q x) → Each P xs → Each Q xs
each_so P Q [] f h = tt
each_so P Q (x ∷ xs) f h = (f x h.0, each_so P Q xs f h.1)

abbrev pub Held : {X : Type 0} → (X → Type 0) → Option X → Type 0
Held P None = Unit {0}
Held P (Some x) = P x

pub made_any : {X E : Type 0} (r : Result X E) → IfOk r (λ _. Unit {0})
made_any (Ok x) = tt
made_any (Err e) = tt
