-- When a row and a mark tell the truth of the registers, and what keeps it so.
use Rattle.std.proofs.Common.{◌≡◌, ℕ, ◌<◌, Bool, true, eqb, List, [], Some, None, Option, sym, refl, ap, ◌∙◌, subst, ⊎_elim, arith}
use Rattle.std.proofs.lemmas.Bool.{cases_eq, eq-eqb, ne_eqb, cond-true, cond-false}
use Rattle.words.specs.Sets.{HoldsIn}
use Rattle.words.specs.Words.{Word}
use Rattle.domain.specs.declared.domain.Domain.{Ghosts}
use Rattle.domain.specs.Lawful.{Lawful}
use Rattle.rule.specs.declared.instruction.Operand.{Operand}
use Rattle.rule.specs.declared.instruction.Operand.TheVariants.{Register, Constant}
use Rattle.machine.specs.Machine.{Regs, put, value, register_in}
use Rattle.machine.specs.Valid.{ValidOperand}
use Rattle.machine.proofs.Moving.{some_same}
use Rattle.step.specs.declared.mark.Mark.{Mark}
use Rattle.step.specs.declared.outcome.Change.{Change}
use Rattle.step.specs.declared.outcome.Patch.{Patch}
use Rattle.step.specs.Changes.{patch_value, patch_set, changed_value, changed_set}
use Rattle.step.specs.Rows.{cell, amount, is_set, first_unset, unchanged, patch, patched}
use Rattle.step.specs.Transfer.{both_to, patch_to}
use Rattle.step.proofs.Shows.{set_first}

-- a register is set, to a word that the value holds
pub record Has {D : Type 0} (d : Ghosts D) (v : D) (o : Option ℕ) : Type 0 where
  pub word : ℕ
  pub is : o ≡ Some word
  pub fits : Word word
  pub held : d.holds v word

abbrev pub Fits : {D : Type 0} → Ghosts D → List D → Mark → Regs → Type 0
Fits d row m r = (k : ℕ) → k < 8 → is_set m k ≡ true → Has d (cell d row k) (r k)

-- the same of a row and a mark after a change
abbrev pub FitsChange : {D : Type 0} → Ghosts D → List D → Mark → Change D → Regs → Type 0
FitsChange d row m c q = (k : ℕ) → k < 8 → changed_set c k (is_set m k) ≡ true → Has d (changed_value c k (cell d row k)) (q k)

abbrev pub FitsIn : {D : Type 0} → Ghosts D → List D → Mark → Option (Change D) → Regs → Type 0
FitsIn d row m None q = ⊥
FitsIn d row m (Some c) q = FitsChange d row m c q

module _ {D : Type 0} (d : Ghosts D) where
  pub has_fits : {v : D} {o : Option ℕ} → Has d v o → (w : ℕ) → o ≡ Some w → Word w
  has_fits {v} {o} h w e = subst Word (some_same o h.word w h.is e) h.fits

  pub has_held : {v : D} {o : Option ℕ} → Has d v o → (w : ℕ) → o ≡ Some w → d.holds v w
  has_held {v} {o} h w e = subst (d.holds v) (some_same o h.word w h.is e) h.held

  module _ (row : List D) (m : Mark) (r : Regs) (fit : Fits d row m r) where
    pub unchanged-fits : FitsChange d row m unchanged r
    unchanged-fits k l e = fit k l e

    -- a register is written
    pub written-fits : (t : ℕ) (v : D) (w : ℕ) → Word w → d.holds v w → FitsChange d row m (patched t v) (put r t w)
    written-fits t v w hw hv k l e =
        ⊎_elim
        (λ same. record { word = w; is = cond-true (eqb k t) _ _ (eq-eqb k t same); fits = hw; held = subst (λ x. d.holds x w) (sym (cond-true (eqb k t) _ _ (eq-eqb k t same))) hv })
        (λ ne.
        let off = ne_eqb k t ne in
        let old = fit k l (sym (cond-false (eqb k t) _ _ off) ∙ e) in
        record { word = old.word; is = cond-false (eqb k t) _ _ off ∙ old.is; fits = old.fits; held = subst (λ x. d.holds x old.word) (sym (cond-false (eqb k t) _ _ off)) old.held })
        (cases_eq k t)

    -- a patch of a register that is set, with a value that holds its word, keeps a value that fits
    patch-fits : (o : Option (Patch D)) (k : ℕ) (v : D) (b : Bool) → (b ≡ true → Has d v (r k)) → ((x : Patch D) → o ≡ Some x → Has d x.value (r x.register)) → patch_set o k b ≡ true → Has d (patch_value o k v) (r k)
    patch-fits None k v b old new e = old e
    patch-fits (Some x) k v b old new e =
        ⊎_elim
        (λ same. let h = new x refl in record { word = h.word; is = ap r same ∙ h.is; fits = h.fits; held = subst (λ y. d.holds y h.word) (sym (cond-true (eqb k x.register) _ _ (eq-eqb _ _ same))) h.held })
        (λ ne.
        let off = ne_eqb k x.register ne in
        let h = old (sym (cond-false (eqb k x.register) _ _ off) ∙ e) in
        record { word = h.word; is = h.is; fits = h.fits; held = subst (λ y. d.holds y h.word) (sym (cond-false (eqb k x.register) _ _ off)) h.held })
        (cases_eq k x.register)

    own-patch : (l : ℕ) (x : D) (a : ℕ) → Word a → r l ≡ Some a → d.holds x a → (z : Patch D) → Some (patch l x) ≡ Some z → Has d z.value (r z.register)
    own-patch l x a wa ea ha z ez = let same : patch l x ≡ z = cc in subst (λ (u : Patch D). Has d u.value (r u.register)) same (record { word = a; is = ea; fits = wa; held = ha })

    operand_patch : (s : Operand) (y : D) (b : ℕ) → Word b → value r s ≡ Some b → d.holds y b → (z : Patch D) → patch_to s y ≡ Some z → Has d z.value (r z.register)
    operand_patch (Register j) y b wb eb hb z ez = own-patch j y b wb eb hb z ez
    operand_patch (Constant c) y b wb eb hb z ez = let q : ◌≡◌ {A = ℕ} 0 1 = cc in absurd (omega arith)

    -- both operands of a comparison are narrowed, and hold their words
    pub both_fits : (l : ℕ) (s : Operand) (x y : Option D) (a b : ℕ) → Word a → Word b → r l ≡ Some a → value r s ≡ Some b → HoldsIn d.holds x a → HoldsIn d.holds y b → FitsIn d row m (both_to l s x y) r
    both_fits l s None y a b wa wb ea eb ha hb = ha
    both_fits l s (Some x) None a b wa wb ea eb ha hb = hb
    both_fits l s (Some x) (Some y) a b wa wb ea eb ha hb =
        λ k lt e. patch-fits (patch_to s y) k (patch_value (Some (patch l x)) k (cell d row k)) (patch_set (Some (patch l x)) k (is_set m k))
        (patch-fits (Some (patch l x)) k (cell d row k) (is_set m k) (fit k lt) (own-patch l x a wa ea ha))
        (operand_patch s y b wb eb hb)
        e

    -- an operand all of whose registers are set
    pub amount_has : Lawful d → (s : Operand) → ValidOperand s → first_unset m (register_in s) ≡ None → Has d (amount d row s) (value r s)
    amount_has laws (Register k) valid e = fit k valid (set_first m k [] e).0
    amount_has laws (Constant c) valid e = record { word = c; is = refl; fits = valid; held = laws.only_holds c valid }
