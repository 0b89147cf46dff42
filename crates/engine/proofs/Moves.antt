-- A step by its value is a step of the machine, and a machine that can move has one.
use Rattle.std.proofs.Common.{◌≡◌, ℕ, zero, suc, ◌+◌, ◌%◌, ◌^◌, ◌<◌, true, false, cond, ◌&&◌, eqb, leb, List, length, get_or, set, Some, None, Option, sym, refl, ap, ◌∙◌, subst, ⊎_elim, arith}
use Rattle.std.proofs.lemmas.List.{get_or-set_same, get_or-set_other, length-set}
use Rattle.std.proofs.lemmas.Bool.{cases_Bool, cases_eq, cond-true, cond-false, and_parts, and_from, both_ways, eqb-true, eqb-false, eq-eqb, ne_eqb, ltb-true, ltb-false, leb-true, leb-false, le-leb, not-true, not-false}
use Rattle.std.proofs.lemmas.Option.{none-some, same_Some, cond_some}
use Rattle.words.specs.Widths.{bits_of, bytes_of}
use Rattle.words.specs.Words.{Sticks, Related, result_of}
use Rattle.words.specs.declared.operation.Operation.{Operation}
use Rattle.words.specs.declared.operation.Operation.TheVariants.{Add, Sub, Mul, Div, And, Or, Xor, Shl, Shr}
use Rattle.words.specs.declared.width.Width.{Width}
use Rattle.rule.specs.declared.instruction.Condition.{Condition}
use Rattle.rule.specs.declared.instruction.Condition.TheVariants.{Equal, Unequal, Less, LessOrEqual}
use Rattle.rule.specs.declared.record.Item.{Item}
use Rattle.rule.specs.declared.record.Item.TheVariants.{Blank, Buffer, Instruction}
use Rattle.rule.specs.declared.instruction.Instruction.TheVariants.{Mov, Alu, Load, Store, Jump, Branch, Ret}
use Rattle.rule.specs.declared.instruction.Operand.{Operand}
use Rattle.rule.specs.declared.instruction.Operand.TheVariants.{Register, Constant}
use Rattle.rule.specs.declared.record.Record.{Record}
use Rattle.rule.specs.Instructions.{relation_of}
use Rattle.machine.specs.Machine.{Regs, put, value, Reaches, Does, Gives, Moves, Inputs, entry}
use Rattle.machine.specs.Machine.Does.{mov, alu, load, store, jump, taken, missed}
use Rattle.machine.specs.Machine.Gives.{ret}
use Rattle.machine.specs.Memory.{start_of, word_of, bytes_in, part, written, words_in, Touches}
use Rattle.machine.specs.Tables.{size_at}
use Rattle.machine.specs.Valid.{ValidItem}
use Rattle.machine.proofs.Bytes.{width_below}
use Rattle.machine.proofs.Moving.{some_same}
use Rattle.engine.specs.Steps.Leads.{Go, Return}
use Rattle.engine.specs.Steps.{Leads, and_then, RegisterList, register_of, fetched, sticks, result_in, place_in, is_related, alu_of, load_of, store_of, branch_of, Step, step, goes, puts, step_of, first_registers}

-- ── options ──

-- what came of two questions in a row
pub and_then_parts : {X Y : Type 0} (o : Option X) (f : X → Option Y) (y : Y) → and_then o f ≡ Some y → (x : X) × (o ≡ Some x) × (f x ≡ Some y)
and_then_parts None f y e = absurd (none-some y e)
and_then_parts (Some x) f y e = (x, refl, e)

-- two questions in a row, the first with an answer
then_some : {X Y : Type 0} (o : Option X) (f : X → Option Y) (x : X) (y : Y) → o ≡ Some x → f x ≡ Some y → and_then o f ≡ Some y
then_some {X} {Y} o f x y e h = ap (λ (z : Option X). and_then z f) e ∙ h

same_step : (n n' : Leads) (r r' : RegisterList) (m m' : List ℕ) → Some (step n r m) ≡ Some (step n' r' m') → (n ≡ n') × (r ≡ r') × (m ≡ m')
same_step n n' r r' m m' e =
    let is = same_Some (step n r m) (step n' r' m') e in
    (ap (λ (s : Step). s.next) is, ap (λ (s : Step). s.registers) is, ap (λ (s : Step). s.memory) is)

go-is : (k j : ℕ) → Go k ≡ Go j → k ≡ j
go-is k j e = cc

return_is : (x y : ℕ) → Return x ≡ Return y → x ≡ y
return_is x y e = cc

go_return : (k x : ℕ) → Go k ≡ Return x → ⊥
go_return k x e = let z : ◌≡◌ {A = ℕ} 0 1 = cc in omega arith

-- ── the parts of a step ──

fetched-value : (r : RegisterList) (s : Operand) → fetched r s ≡ value (register_of r) s
fetched-value r (Register k) = refl
fetched-value r (Constant c) = refl

put-at : (r : RegisterList) (t x : ℕ) → t < length r → (k : ℕ) → register_of (set r t (Some x)) k ≡ put (register_of r) t x k
put-at r t x h k =
    ⊎_elim
    (λ same. ap (λ j. get_or (set r t (Some x)) j None) same ∙ get_or-set_same r t (Some x) None h ∙ sym (cond-true (eqb k t) _ _ (eq-eqb k t same)))
    (λ ne. get_or-set_other r t k (Some x) None ne ∙ sym (cond-false (eqb k t) _ _ (ne_eqb k t ne)))
    (cases_eq k t)

put-set : (r : RegisterList) (t x : ℕ) → t < length r → register_of (set r t (Some x)) ≡ put (register_of r) t x
put-set r t x h = λ i k. put-at r t x h k i

free-from : (op : Operation) (y : ℕ) → sticks op y ≡ false → Sticks op y → ⊥
free-from Add y e s = s
free-from Sub y e s = s
free-from Mul y e s = s
free-from Div y e s = eqb-false y 0 e s
free-from And y e s = s
free-from Or y e s = s
free-from Xor y e s = s
free-from Shl y e s = let h = ltb-false 63 y e in omega arith
free-from Shr y e s = let h = ltb-false 63 y e in omega arith

stuck_from : (op : Operation) (y : ℕ) → sticks op y ≡ true → Sticks op y
stuck_from Add y e = both_ways false refl e
stuck_from Sub y e = both_ways false refl e
stuck_from Mul y e = both_ways false refl e
stuck_from Div y e = eqb-true y 0 e
stuck_from And y e = both_ways false refl e
stuck_from Or y e = both_ways false refl e
stuck_from Xor y e = both_ways false refl e
stuck_from Shl y e = ltb-true 63 y e
stuck_from Shr y e = ltb-true 63 y e

result_from : (op : Operation) (x y z : ℕ) → result_in op x y ≡ Some z → (Sticks op y → ⊥) × (z ≡ result_of op x y)
result_from op x y z e =
    ⊎_elim
    (λ t. absurd (none-some z (sym (cond-true (sticks op y) _ _ t) ∙ e)))
    (λ f. (free-from op y f, same_Some z (result_of op x y) (sym e ∙ cond-false (sticks op y) _ _ f)))
    (cases_Bool (sticks op y))

result_is : (op : Operation) (x y : ℕ) → (Sticks op y → ⊥) → result_in op x y ≡ Some (result_of op x y)
result_is op x y free = ⊎_elim (λ t. absurd (free (stuck_from op y t))) (λ f. cond-false (sticks op y) _ _ f) (cases_Bool (sticks op y))

place-from : (p : List Record) (b : ℕ) (w : Width) (i a : ℕ) → place_in p b w i ≡ Some a → Reaches p b w i × (a ≡ start_of p b + i)
place-from p b w i a e =
    let within = leb (i + bytes_of w) (size_at p b) in
    let even = eqb (i % bytes_of w) 0 in
    let is = cond_some (within && even) (start_of p b + i) a e in
    let h = and_parts within even is.0 in
    (record { inside = leb-true _ _ h.0; even = eqb-true _ _ h.1 }, sym is.1)

place_is : (p : List Record) (b : ℕ) (w : Width) (i : ℕ) → Reaches p b w i → place_in p b w i ≡ Some (start_of p b + i)
place_is p b w i h = cond-true _ _ _ (and_from (leb (i + bytes_of w) (size_at p b)) (eqb (i % bytes_of w) 0) (le-leb _ _ h.inside) (eq-eqb _ _ h.even))

related_from : (c : Condition) (x y : ℕ) → is_related c x y ≡ true → Related (relation_of c) x y
related_from Equal x y e = eqb-true x y e
related_from Unequal x y e = eqb-false x y (not-true _ e)
related_from Less x y e = ltb-true x y e
related_from LessOrEqual x y e = leb-true x y e

unrelated_from : (c : Condition) (x y : ℕ) → is_related c x y ≡ false → Related (relation_of c) x y → ⊥
unrelated_from Equal x y e h = eqb-false x y e h
unrelated_from Unequal x y e h = h (eqb-true x y (not-false _ e))
unrelated_from Less x y e h = let g = ltb-false x y e in omega arith
unrelated_from LessOrEqual x y e h = let g = leb-false x y e in omega arith

-- ── a step that goes on ──

module _ (p : List Record) (k : ℕ) (r : RegisterList) (m : List ℕ) (eight : length r ≡ 8) where
  -- a register that is put
  abbrev Put : ℕ → Option ℕ → ℕ → RegisterList → List ℕ → Type 0
  Put t v j r' m' = (x : ℕ) × (v ≡ Some x) × (j ≡ k + 1) × (register_of r' ≡ put (register_of r) t x) × (m' ≡ m)

  put-from : (t : ℕ) (v : Option ℕ) (j : ℕ) (r' : RegisterList) (m' : List ℕ) → t < 8 → puts k t r m v ≡ Some (step (Go j) r' m') → Put t v j r' m'
  put-from t v j r' m' h e =
      let a = and_then_parts v (λ x. goes (k + 1) (set r t (Some x)) m) (step (Go j) r' m') e in
      let s = same_step (Go (k + 1)) (Go j) (set r t (Some a.0)) r' m m' a.2 in
      (a.0, a.1, sym (go-is (k + 1) j s.0), ap register_of (sym s.1) ∙ put-set r t a.0 (omega arith), sym s.2)

  pub step_does : (n : ℕ) (i : Item) (j : ℕ) (r' : RegisterList) (m' : List ℕ) → ValidItem p n k i → step_of p k i r m ≡ Some (step (Go j) r' m') → Does p k (register_of r) j (register_of r') i × Touches p (register_of r) m (register_of r') m' i
  step_does n (Instruction (Mov t s)) j r' m' v e =
      let a = put-from t (fetched r s) j r' m' v.0 e in
      (mov a.0 (sym (fetched-value r s) ∙ a.1) a.2 a.3, a.4)
  step_does n (Instruction (Alu op t s)) j r' m' v e =
      let a = put-from t (alu_of r op t s) j r' m' v.0 e in
      let b = and_then_parts (register_of r t) _ a.0 a.1 in
      let c = and_then_parts (fetched r s) _ a.0 b.2 in
      let z = result_from op b.0 c.0 a.0 c.2 in
      (alu b.0 c.0 b.1 (sym (fetched-value r s) ∙ c.1) z.0 a.2 (a.3 ∙ ap (put (register_of r) t) z.1), a.4)
  step_does n (Instruction (Load w t b s)) j r' m' v e =
      let a = put-from t (load_of p r m w b s) j r' m' v.0 e in
      let c = and_then_parts (fetched r s) _ a.0 a.1 in
      let f = and_then_parts (place_in p b w c.0) _ a.0 c.2 in
      let at = place-from p b w c.0 f.0 f.1 in
      let read : word_of (part m (start_of p b + c.0) (bytes_of w)) ≡ a.0 = ap (λ i. word_of (part m i (bytes_of w))) (sym at.1) ∙ same_Some _ _ f.2 in
      let index = sym (fetched-value r s) ∙ c.1 in (
        load c.0 a.0 index at.0 (subst (λ x. x < 2 ^ bits_of w) read (width_below w m (start_of p b + c.0))) a.2 a.3,
        (
          λ i ei. ap (λ (q : Regs). q t) a.3 ∙ cond-true (eqb t t) _ _ (eq-eqb t t refl) ∙ ap Some (sym read)
              ∙ ap (λ i. Some (word_of (part m (start_of p b + i) (bytes_of w)))) (some_same (value (register_of r) s) c.0 i index ei),
          a.4,
        ),
      )
  step_does n (Instruction (Store w b s t)) j r' m' v e =
      let a = and_then_parts (store_of p r m w b s t) _ (step (Go j) r' m') e in
      let g = same_step (Go (k + 1)) (Go j) r r' a.0 m' a.2 in
      let c = and_then_parts (fetched r s) _ a.0 a.1 in
      let x = and_then_parts (register_of r t) _ a.0 c.2 in
      let f = and_then_parts (place_in p b w c.0) _ a.0 x.2 in
      let at = place-from p b w c.0 f.0 f.1 in
      let index = sym (fetched-value r s) ∙ c.1 in
      let after : m' ≡ written m (start_of p b + c.0) (bytes_in (bytes_of w) x.0) = sym g.2 ∙ sym (same_Some _ _ f.2) ∙ ap (λ i. written m i (bytes_in (bytes_of w) x.0)) at.1 in (
        store c.0 x.0 index x.1 at.0 (sym (go-is (k + 1) j g.0)) (ap register_of (sym g.1)),
        λ i y ei ey.
            let same-i = some_same (value (register_of r) s) c.0 i index ei in
            let same-y = some_same (register_of r t) x.0 y x.1 ey in
            after ∙ (λ u. written m (start_of p b + same-i u) (bytes_in (bytes_of w) (same-y u))),
      )
  step_does n (Instruction (Jump to)) j r' m' v e =
      let g = same_step (Go to) (Go j) r r' m m' e in
      (jump (sym (go-is to j g.0)) (ap register_of (sym g.1)), sym g.2)
  step_does n (Instruction (Branch c l s to)) j r' m' v e =
      let a = and_then_parts (branch_of r k c l s to) _ (step (Go j) r' m') e in
      let g = same_step (Go a.0) (Go j) r r' m m' a.2 in
      let x = and_then_parts (register_of r l) _ a.0 a.1 in
      let y = and_then_parts (fetched r s) _ a.0 x.2 in
      let leads = sym (go-is a.0 j g.0) ∙ sym (same_Some _ _ y.2) in
      let right = sym (fetched-value r s) ∙ y.1 in
      let same = ap register_of (sym g.1) in (
        ⊎_elim
            (λ t. taken x.0 y.0 x.1 right (related_from c x.0 y.0 t) (leads ∙ cond-true (is_related c x.0 y.0) _ _ t) same)
            (λ f. missed x.0 y.0 x.1 right (unrelated_from c x.0 y.0 f) (leads ∙ cond-false (is_related c x.0 y.0) _ _ f) same)
            (cases_Bool (is_related c x.0 y.0)),
        sym g.2,
      )
  step_does n (Instruction Ret) j r' m' v e =
      let a = and_then_parts (register_of r 0) _ (step (Go j) r' m') e in
      absurd (go_return j a.0 (sym (same_step (Return a.0) (Go j) r r' m m' a.2).0))
  step_does n (Buffer size mode) j r' m' v e = absurd v
  step_does n Blank j r' m' v e = absurd v

  -- ── a step that returns ──

  put-goes : (t : ℕ) (v : Option ℕ) (x : ℕ) (r' : RegisterList) (m' : List ℕ) → puts k t r m v ≡ Some (step (Return x) r' m') → ⊥
  put-goes t v x r' m' e =
      let a = and_then_parts v (λ y. goes (k + 1) (set r t (Some y)) m) (step (Return x) r' m') e in
      go_return (k + 1) x (same_step (Go (k + 1)) (Return x) (set r t (Some a.0)) r' m m' a.2).0

  pub step_gives : (i : Item) (x : ℕ) (r' : RegisterList) (m' : List ℕ) → step_of p k i r m ≡ Some (step (Return x) r' m') → Gives (register_of r) x i × (m' ≡ m)
  step_gives (Instruction (Mov t s)) x r' m' e = absurd (put-goes t (fetched r s) x r' m' e)
  step_gives (Instruction (Alu op t s)) x r' m' e = absurd (put-goes t (alu_of r op t s) x r' m' e)
  step_gives (Instruction (Load w t b s)) x r' m' e = absurd (put-goes t (load_of p r m w b s) x r' m' e)
  step_gives (Instruction (Store w b s t)) x r' m' e =
      let a = and_then_parts (store_of p r m w b s t) _ (step (Return x) r' m') e in
      absurd (go_return (k + 1) x (same_step (Go (k + 1)) (Return x) r r' a.0 m' a.2).0)
  step_gives (Instruction (Jump to)) x r' m' e = absurd (go_return to x (same_step (Go to) (Return x) r r' m m' e).0)
  step_gives (Instruction (Branch c l s to)) x r' m' e =
      let a = and_then_parts (branch_of r k c l s to) _ (step (Return x) r' m') e in
      absurd (go_return a.0 x (same_step (Go a.0) (Return x) r r' m m' a.2).0)
  step_gives (Instruction Ret) x r' m' e =
      let a = and_then_parts (register_of r 0) _ (step (Return x) r' m') e in
      let g = same_step (Return a.0) (Return x) r r' m m' a.2 in
      (ret (a.1 ∙ ap Some (return_is a.0 x g.0)), sym g.2)
  step_gives (Buffer size mode) x r' m' e = absurd (none-some _ e)
  step_gives Blank x r' m' e = absurd (none-some _ e)

  -- ── how many registers there are then ──

  put-long : (t : ℕ) (v : Option ℕ) (s : Step) → puts k t r m v ≡ Some s → length s.registers ≡ 8
  put-long t v s e =
      let a = and_then_parts v (λ x. goes (k + 1) (set r t (Some x)) m) s e in
      ap (λ (s : Step). length s.registers) (sym (same_Some _ s a.2)) ∙ length-set r t (Some a.0) ∙ eight

  same-long : (n : Leads) (m' : List ℕ) (s : Step) → Some (step n r m') ≡ Some s → length s.registers ≡ 8
  same-long n m' s e = ap (λ (s : Step). length s.registers) (sym (same_Some (step n r m') s e)) ∙ eight

  pub step-long : (i : Item) (s : Step) → step_of p k i r m ≡ Some s → length s.registers ≡ 8
  step-long (Instruction (Mov t s)) z e = put-long t (fetched r s) z e
  step-long (Instruction (Alu op t s)) z e = put-long t (alu_of r op t s) z e
  step-long (Instruction (Load w t b s)) z e = put-long t (load_of p r m w b s) z e
  step-long (Instruction (Store w b s t)) z e = let a = and_then_parts (store_of p r m w b s t) _ z e in same-long (Go (k + 1)) a.0 z a.2
  step-long (Instruction (Jump to)) z e = same-long (Go to) m z e
  step-long (Instruction (Branch c l s to)) z e = let a = and_then_parts (branch_of r k c l s to) _ z e in same-long (Go a.0) m z a.2
  step-long (Instruction Ret) z e = let a = and_then_parts (register_of r 0) _ z e in same-long (Return a.0) m z a.2
  step-long (Buffer size mode) z e = absurd (none-some z e)
  step-long Blank z e = absurd (none-some z e)

  -- ── a machine that can move ──

  does_steps : (j : ℕ) (q : Regs) (i : Item) → Does p k (register_of r) j q i → (s : Step) × (step_of p k i r m ≡ Some s)
  does_steps j q (Instruction (Mov t s)) (mov x e ej eq) = (_, then_some (fetched r s) _ x _ (fetched-value r s ∙ e) refl)
  does_steps j q (Instruction (Alu op t s)) (alu x y ex ey ok ej eq) =
      (_, then_some (alu_of r op t s) _ (result_of op x y) _ (then_some (register_of r t) _ x _ ex (then_some (fetched r s) _ y _ (fetched-value r s ∙ ey) (result_is op x y ok))) refl)
  does_steps j q (Instruction (Load w t b s)) (load i x e re hx ej eq) =
      (_, then_some (load_of p r m w b s) _ (word_of (part m (start_of p b + i) (bytes_of w))) _ (then_some (fetched r s) _ i _ (fetched-value r s ∙ e) (then_some (place_in p b w i) _ (start_of p b + i) _ (place_is p b w i re) refl)) refl)
  does_steps j q (Instruction (Store w b s t)) (store i x e ex re ej eq) =
      (_, then_some (store_of p r m w b s t) _ (written m (start_of p b + i) (bytes_in (bytes_of w) x)) _ (then_some (fetched r s) _ i _ (fetched-value r s ∙ e) (then_some (register_of r t) _ x _ ex (then_some (place_in p b w i) _ (start_of p b + i) _ (place_is p b w i re) refl))) refl)
  does_steps j q (Instruction (Jump to)) (jump ej eq) = (_, refl)
  does_steps j q (Instruction (Branch c l s to)) (taken x y ex ey re ej eq) = (_, then_some (branch_of r k c l s to) _ (cond (is_related c x y) to (k + 1)) _ (then_some (register_of r l) _ x _ ex (then_some (fetched r s) _ y _ (fetched-value r s ∙ ey) refl)) refl)
  does_steps j q (Instruction (Branch c l s to)) (missed x y ex ey re ej eq) = (_, then_some (branch_of r k c l s to) _ (cond (is_related c x y) to (k + 1)) _ (then_some (register_of r l) _ x _ ex (then_some (fetched r s) _ y _ (fetched-value r s ∙ ey) refl)) refl)
  does_steps j q (Instruction Ret) d = elim d [ ]
  does_steps j q (Buffer size mode) d = elim d [ ]
  does_steps j q Blank d = elim d [ ]

  gives-steps : (w : ℕ) {i : Item} → Gives (register_of r) w i → (s : Step) × (step_of p k i r m ≡ Some s)
  gives-steps w (ret e) = (_, then_some (register_of r 0) _ w _ e refl)

  pub moves-steps : (i : Item) → Moves p k (register_of r) i → step_of p k i r m ≡ None → ⊥
  moves-steps i mv none =
      ⊎_elim
      (λ g. let h = gives-steps g.0 g.1 in none-some h.0 (sym none ∙ h.1))
      (λ d. let h = does_steps d.0 d.1 i d.2 in none-some h.0 (sym none ∙ h.1))
      mv

-- ── the start ──

entry_at : (x : Inputs) (k : ℕ) → entry x k ≡ register_of (first_registers (words_in x)) k
entry_at x zero = refl
entry_at x (suc zero) = refl
entry_at x (suc (suc zero)) = refl
entry_at x (suc (suc (suc zero))) = refl
entry_at x (suc (suc (suc (suc zero)))) = refl
entry_at x (suc (suc (suc (suc (suc zero))))) = refl
entry_at x (suc (suc (suc (suc (suc (suc zero)))))) = refl
entry_at x (suc (suc (suc (suc (suc (suc (suc zero))))))) = refl
entry_at x (suc (suc (suc (suc (suc (suc (suc (suc k)))))))) =
    let j = suc (suc (suc (suc (suc (suc (suc (suc k))))))) in
    cond-false (eqb j 1) _ _ (ne_eqb j 1 (omega arith)) ∙ cond-false (eqb j 2) _ _ (ne_eqb j 2 (omega arith)) ∙ cond-false (eqb j 3) _ _ (ne_eqb j 3 (omega arith)) ∙ cond-false (eqb j 4) _ _ (ne_eqb j 4 (omega arith))

pub entry-is : (x : Inputs) → entry x ≡ register_of (first_registers (words_in x))
entry-is x = λ i k. entry_at x k i
