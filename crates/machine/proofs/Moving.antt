-- A machine that can move is not stuck, and moves forward.
use Rattle.std.proofs.Common.{◌≡◌, ℕ, ◌+◌, ◌-◌, ◌%◌, ◌<◌, true, false, ◌⊎◌, List, [], ◌∷◌, ◌++◌, Some, None, Option, sym, refl, ap, ◌∙◌, subst, inl, inr, ⊎_elim, arith}
use Rattle.std.proofs.lemmas.Bool.{both_ways, cases_eq}
use Rattle.words.specs.Widths.{bytes_of}
use Rattle.words.specs.Words.{Sticks}
use Rattle.rule.specs.declared.record.Item.{Item}
use Rattle.rule.specs.declared.record.Item.TheVariants.{Blank, Buffer, Instruction}
use Rattle.rule.specs.declared.instruction.Instruction.TheVariants.{Mov, Alu, Load, Store, Jump, Branch, Ret}
use Rattle.rule.specs.declared.instruction.Operand.{Operand}
use Rattle.rule.specs.declared.instruction.Operand.TheVariants.{Register, Constant}
use Rattle.rule.specs.declared.record.Record.{Record}
use Rattle.machine.specs.Machine.{Regs, value, Does, Gives, Moves, register_in, reads, In, Stuck}
use Rattle.machine.specs.Machine.Does.{mov, alu, load, store, jump, taken, missed}
use Rattle.machine.specs.Machine.Gives.{ret}
use Rattle.machine.specs.Machine.Stuck.{unset, no_result, load_beyond, load_askew, store_beyond, store_askew}
use Rattle.machine.specs.Tables.{code_length, item_at}
use Rattle.machine.specs.Valid.{is_ret, ValidItem, Valid}

none-some : (o : Option ℕ) (x : ℕ) → o ≡ None → o ≡ Some x → ⊥
none-some o x a b = let z : ◌≡◌ {A = ℕ} 0 1 = cc in omega arith

pub some_same : (o : Option ℕ) (x y : ℕ) → o ≡ Some x → o ≡ Some y → x ≡ y
some_same o x y a b = cc

-- each register of an operand that has a value is set
operand_set : (r : Regs) (s : Operand) (k x : ℕ) → value r s ≡ Some x → In k (register_in s) → r k ≡ None → ⊥
operand_set r (Register j) k x e (inl same) n = none-some (r j) x (ap r (sym same) ∙ n) e
operand_set r (Register j) k x e (inr never) n = never
operand_set r (Constant c) k x e never n = never

in_append : (k : ℕ) (xs ys : List ℕ) → In k (xs ++ ys) → In k xs ⊎ In k ys
in_append k [] ys h = inr h
in_append k (x ∷ xs) ys (inl e) = inl (inl e)
in_append k (x ∷ xs) ys (inr h) = ⊎_elim (λ a. inl (inr a)) (λ b. inr b) (in_append k xs ys h)

-- every register that is read is set
does_set : (p : List Record) (k : ℕ) (r : Regs) (j : ℕ) (q : Regs) (i : Item) → Does p k r j q i → (m : ℕ) → In m (reads i) → r m ≡ None → ⊥
does_set p k r j q (Instruction (Mov t s)) (mov x e ej eq) m h n = operand_set r s m x e h n
does_set p k r j q (Instruction (Alu op t s)) (alu x y ex ey ok ej eq) m (inl same) n = none-some (r t) x (ap r (sym same) ∙ n) ex
does_set p k r j q (Instruction (Alu op t s)) (alu x y ex ey ok ej eq) m (inr h) n = operand_set r s m y ey h n
does_set p k r j q (Instruction (Load w t b s)) (load i x e re hx ej eq) m h n = operand_set r s m i e h n
does_set p k r j q (Instruction (Store w b s t)) (store i x e ex re ej eq) m h n =
    ⊎_elim (λ a. operand_set r s m i e a n) (λ b. ⊎_elim (λ same. none-some (r t) x (ap r (sym same) ∙ n) ex) (λ never. never) b) (in_append m (register_in s) (t ∷ []) h)
does_set p k r j q (Instruction (Jump to)) (jump ej eq) m h n = h
does_set p k r j q (Instruction (Branch c l s to)) (taken x y ex ey re ej eq) m (inl same) n = none-some (r l) x (ap r (sym same) ∙ n) ex
does_set p k r j q (Instruction (Branch c l s to)) (taken x y ex ey re ej eq) m (inr h) n = operand_set r s m y ey h n
does_set p k r j q (Instruction (Branch c l s to)) (missed x y ex ey re ej eq) m (inl same) n = none-some (r l) x (ap r (sym same) ∙ n) ex
does_set p k r j q (Instruction (Branch c l s to)) (missed x y ex ey re ej eq) m (inr h) n = operand_set r s m y ey h n
does_set p k r j q Blank d m h n = elim d [ ]
does_set p k r j q (Buffer size mode) d m h n = elim d [ ]
does_set p k r j q (Instruction Ret) d m h n = elim d [ ]

gives_set : (r : Regs) (x : ℕ) (i : Item) → Gives r x i → (m : ℕ) → In m (reads i) → r m ≡ None → ⊥
gives_set r x (Instruction Ret) (ret e) m (inl same) n = none-some (r 0) x (ap r (sym same) ∙ n) e
gives_set r x (Instruction Ret) (ret e) m (inr never) n = never
gives_set r x Blank g m h n = elim g [ ]
gives_set r x (Buffer size mode) g m h n = elim g [ ]
gives_set r x (Instruction (Mov t s)) g m h n = elim g [ ]
gives_set r x (Instruction (Alu op t s)) g m h n = elim g [ ]
gives_set r x (Instruction (Load w t b s)) g m h n = elim g [ ]
gives_set r x (Instruction (Store w b s t)) g m h n = elim g [ ]
gives_set r x (Instruction (Jump to)) g m h n = elim g [ ]
gives_set r x (Instruction (Branch c l s to)) g m h n = elim g [ ]

does_free : (p : List Record) (k : ℕ) (r : Regs) (j : ℕ) (q : Regs) (i : Item) → Does p k r j q i → Stuck p r i → ⊥
does_free p k r j q i d (unset m h n) = does_set p k r j q i d m h n
does_free p k r j q (Instruction (Alu op t s)) (alu x y ex ey ok ej eq) (no_result z ez st) = ok (subst (Sticks op) (some_same (value r s) z y ez ey) st)
does_free p k r j q (Instruction (Load w t b s)) (load i x e re hx ej eq) (load_beyond z ez st) = let same = some_same (value r s) i z e ez in omega (arith, re.inside, st)
does_free p k r j q (Instruction (Load w t b s)) (load i x e re hx ej eq) (load_askew z ez st) = st (subst (λ n. n % bytes_of w ≡ 0) (some_same (value r s) i z e ez) re.even)
does_free p k r j q (Instruction (Store w b s t)) (store i x e ex re ej eq) (store_beyond z ez st) = let same = some_same (value r s) i z e ez in omega (arith, re.inside, st)
does_free p k r j q (Instruction (Store w b s t)) (store i x e ex re ej eq) (store_askew z ez st) = st (subst (λ n. n % bytes_of w ≡ 0) (some_same (value r s) i z e ez) re.even)

gives-free : (p : List Record) (r : Regs) (x : ℕ) (i : Item) → Gives r x i → Stuck p r i → ⊥
gives-free p r x i g (unset m h n) = gives_set r x i g m h n
gives-free p r x (Instruction (Alu op t s)) g (no_result z ez st) = elim g [ ]
gives-free p r x (Instruction (Load w t b s)) g (load_beyond z ez st) = elim g [ ]
gives-free p r x (Instruction (Load w t b s)) g (load_askew z ez st) = elim g [ ]
gives-free p r x (Instruction (Store w b s t)) g (store_beyond z ez st) = elim g [ ]
gives-free p r x (Instruction (Store w b s t)) g (store_askew z ez st) = elim g [ ]

pub not_stuck : (p : List Record) (k : ℕ) (r : Regs) (i : Item) → Moves p k r i → Stuck p r i → ⊥
not_stuck p k r i m s = ⊎_elim (λ g. gives-free p r g.0 i g.1 s) (λ d. does_free p k r d.0 d.1 i d.2 s) m

-- ── forward, and not past the end ──

not-ret : (p : List Record) (k : ℕ) (r : Regs) (j : ℕ) (q : Regs) (i : Item) → Does p k r j q i → is_ret i ≡ true → ⊥
not-ret p k r j q (Instruction (Mov t s)) d e = both_ways false refl e
not-ret p k r j q (Instruction (Alu op t s)) d e = both_ways false refl e
not-ret p k r j q (Instruction (Load w t b s)) d e = both_ways false refl e
not-ret p k r j q (Instruction (Store w b s t)) d e = both_ways false refl e
not-ret p k r j q (Instruction (Jump to)) d e = both_ways false refl e
not-ret p k r j q (Instruction (Branch c l s to)) d e = both_ways false refl e
not-ret p k r j q (Instruction Ret) d e = elim d [ ]
not-ret p k r j q (Buffer size mode) d e = elim d [ ]
not-ret p k r j q Blank d e = elim d [ ]

-- where a step leads: to the next instruction or to a later one of n
goes : (p : List Record) (n k : ℕ) (r : Regs) (j : ℕ) (q : Regs) (i : Item) → ValidItem p n k i → Does p k r j q i → (j ≡ k + 1) ⊎ ((k < j) × (j < n))
goes p n k r j q (Instruction (Mov t s)) v (mov x e ej eq) = inl ej
goes p n k r j q (Instruction (Alu op t s)) v (alu x y ex ey ok ej eq) = inl ej
goes p n k r j q (Instruction (Load w t b s)) v (load i x e re hx ej eq) = inl ej
goes p n k r j q (Instruction (Store w b s t)) v (store i x e ex re ej eq) = inl ej
goes p n k r j q (Instruction (Jump to)) v (jump ej eq) = inr (omega (arith, v.0), omega (arith, v.1))
goes p n k r j q (Instruction (Branch c l s to)) v (taken x y ex ey re ej eq) = inr (omega (arith, v.2), omega (arith, v.3))
goes p n k r j q (Instruction (Branch c l s to)) v (missed x y ex ey re ej eq) = inl ej
goes p n k r j q (Instruction Ret) v d = elim d [ ]
goes p n k r j q (Buffer size mode) v d = elim d [ ]
goes p n k r j q Blank v d = elim d [ ]

pub forward : (p : List Record) (k : ℕ) (r : Regs) (j : ℕ) (q : Regs) → Valid p → k < code_length p → Does p k r j q (item_at p k) → (k < j) × (j < code_length p)
forward p k r j q v l d =
    ⊎_elim
    (λ e. ⊎_elim
    (λ last. absurd (not-ret p k r j q (item_at p k) d (ap (λ m. is_ret (item_at p m)) last ∙ v.last)))
    (λ more. (omega arith, omega arith))
    (cases_eq k (code_length p - 1)))
    (λ h. h)
    (goes p (code_length p) k r j q (item_at p k) (v.items k l) d)
