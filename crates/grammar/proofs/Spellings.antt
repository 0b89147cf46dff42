-- The words of the mnemonics: each is found by its word alone.
use Rattle.std.proofs.Common.{◌≡◌, ℕ, List, [], ◌∷◌, Some, None, Option, sym, refl, ap, ◌∙◌, ⊎_elim, arith}
use Rattle.std.proofs.lemmas.Slice.Eq.{bytes_eq-Decides}
use Rattle.std.proofs.lemmas.Bool.{cases_Bool, cond-true, cond-false}
use Rattle.std.specs.Str.{bytes_eq}
use Rattle.words.specs.declared.operation.Operation.TheVariants.{Add, Sub, Mul, Div, And, Or, Xor, Shl, Shr}
use Rattle.words.specs.declared.width.Width.TheVariants.{W8, W16, W32, W64}
use Rattle.rule.specs.declared.instruction.Condition.TheVariants.{Equal, Unequal, Less, LessOrEqual}
use Rattle.syntax.specs.declared.mnemonic.Mnemonic.{Mnemonic}
use Rattle.syntax.specs.declared.mnemonic.Mnemonic.TheVariants.{Mov, Alu, Load, Store, Jump, Branch, Ret}
use Rattle.syntax.specs.Words.{word_of, all_mnemonics, first_with, mnemonic_in}

own-word : (m : Mnemonic) → mnemonic_in (word_of m) ≡ Some m
own-word Mov = refl
own-word (Alu Add) = refl
own-word (Alu Sub) = refl
own-word (Alu Mul) = refl
own-word (Alu Div) = refl
own-word (Alu And) = refl
own-word (Alu Or) = refl
own-word (Alu Xor) = refl
own-word (Alu Shl) = refl
own-word (Alu Shr) = refl
own-word (Load W8) = refl
own-word (Load W16) = refl
own-word (Load W32) = refl
own-word (Load W64) = refl
own-word (Store W8) = refl
own-word (Store W16) = refl
own-word (Store W32) = refl
own-word (Store W64) = refl
own-word Jump = refl
own-word (Branch Equal) = refl
own-word (Branch Unequal) = refl
own-word (Branch Less) = refl
own-word (Branch LessOrEqual) = refl
own-word Ret = refl

pub word-found : (m : Mnemonic) (bs : List ℕ) → bs ≡ word_of m → mnemonic_in bs ≡ Some m
word-found m bs e = ap mnemonic_in e ∙ own-word m

first_word : (bs : List ℕ) (ms : List Mnemonic) (m : Mnemonic) → first_with bs ms ≡ Some m → bs ≡ word_of m
first_word bs [] m e = let x : ◌≡◌ {A = ℕ} 0 1 = cc in absurd (omega arith)
first_word bs (n ∷ ms) m e =
    ⊎_elim
    (λ h. let same : Some n ≡ Some m = sym (cond-true (bytes_eq bs (word_of n)) _ _ h) ∙ e in let is : n ≡ m = cc in (bytes_eq-Decides bs (word_of n)).0 h ∙ ap word_of is)
    (λ h. first_word bs ms m (sym (cond-false (bytes_eq bs (word_of n)) _ _ h) ∙ e))
    (cases_Bool (bytes_eq bs (word_of n)))

pub found_word : (bs : List ℕ) (m : Mnemonic) → mnemonic_in bs ≡ Some m → bs ≡ word_of m
found_word bs m e = first_word bs all_mnemonics m e

pub same_mnemonic : (o : Option Mnemonic) (m n : Mnemonic) → o ≡ Some m → o ≡ Some n → m ≡ n
same_mnemonic o m n a b = cc

pub no_mnemonic : (o : Option Mnemonic) (m : Mnemonic) → o ≡ None → o ≡ Some m → ⊥
no_mnemonic o m a b = let x : ◌≡◌ {A = ℕ} 0 1 = cc in omega arith
