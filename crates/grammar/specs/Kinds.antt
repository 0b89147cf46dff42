-- The kinds of fields, and which kinds the fields of a line have to be.
use Rattle.std.specs.Prelude.{◌≡◌, ℕ, ◌+◌, ◌^◌, ◌<◌, ◌≤◌, true, ◌⊎◌, List, [], ◌∷◌, ℤ, pos, negsuc, Some, codes}
use Rattle.lexer.specs.declared.place.Place.{Place}
use Rattle.lexer.specs.Characters.{is_name}
use Rattle.lexer.specs.Lines.{Piece}
use Rattle.lexer.specs.Numbers.{number}
use Rattle.syntax.specs.declared.mnemonic.Mnemonic.{Mnemonic}
use Rattle.syntax.specs.declared.mnemonic.Mnemonic.TheVariants.{Mov, Alu, Load, Store, Jump, Branch, Ret}

pub data Kind : Type 0 where
  name : Kind
  size : Kind
  mode : Kind
  register : Kind
  value : Kind

-- `r0` to `r7`
abbrev pub IsRegister : List ℕ → Type 0
IsRegister bs = (d : ℕ) × (d ≤ 7) × (bs ≡ 114 ∷ (48 + d) ∷ [])

-- from -2^63 to 2^64 - 1
abbrev pub InLimits : ℤ → Type 0
InLimits (pos n) = n < 2 ^ 64
InLimits (negsuc n) = n + 1 ≤ 2 ^ 63

abbrev pub IsConstant : List ℕ → Type 0
IsConstant bs = (z : ℤ) × (number bs ≡ Some z) × InLimits z

abbrev pub Fits : Kind → List ℕ → Type 0
Fits name bs = is_name bs ≡ true
Fits size bs = (n : ℕ) × (number bs ≡ Some (pos n)) × (1 ≤ n) × (n ≤ 1024)
Fits mode bs = (bs ≡ codes "ro") ⊎ (bs ≡ codes "rw")
Fits register bs = IsRegister bs
Fits value bs = IsRegister bs ⊎ IsConstant bs

-- as many fields as kinds, and each of its kind
abbrev pub AllFit : List Kind → List Piece → Type 0
AllFit [] [] = Unit {0}
AllFit [] (p ∷ ps) = ⊥
AllFit (k ∷ ks) [] = ⊥
AllFit (k ∷ ks) (p ∷ ps) = Fits k p.bytes × AllFit ks ps

-- the leftmost field of the wrong kind begins at the place
abbrev pub Misfit : List Kind → List Piece → Place → Type 0
Misfit [] ps at = ⊥
Misfit (k ∷ ks) [] at = ⊥
Misfit (k ∷ ks) (p ∷ ps) at = ((Fits k p.bytes → ⊥) × (at ≡ p.place)) ⊎ (Fits k p.bytes × Misfit ks ps at)

-- a buffer's line
abbrev pub buffer_kinds : List Kind
buffer_kinds = name ∷ size ∷ mode ∷ []

-- the fields of an instruction after its word
abbrev pub kinds_of : Mnemonic → List Kind
kinds_of Mov = register ∷ value ∷ []
kinds_of (Alu op) = register ∷ value ∷ []
kinds_of (Load w) = register ∷ name ∷ value ∷ []
kinds_of (Store w) = name ∷ value ∷ register ∷ []
kinds_of Jump = name ∷ []
kinds_of (Branch c) = register ∷ value ∷ name ∷ []
kinds_of Ret = []
