-- A rule that returns a constant is a rule, and never gets stuck: the built-in one among them.
use Rattle.std.proofs.Common.{◌≡◌, ℕ, ◌<◌, ◌⊎◌, List, [], ◌∷◌, Some, sym, refl, ap, ◌∙◌, subst, inl, inr, ⊎_elim, arith}
use Rattle.rule.specs.declared.record.Item.TheVariants.{Instruction}
use Rattle.rule.specs.declared.instruction.Instruction.TheVariants.{Mov, Ret}
use Rattle.rule.specs.declared.instruction.Operand.TheVariants.{Constant}
use Rattle.rule.specs.declared.record.Record.{Record}
use Rattle.machine.specs.Machine.{Regs, put, Does, Moves, Run, entry, NeverStuck}
use Rattle.machine.specs.Machine.Does.{mov}
use Rattle.machine.specs.Machine.Gives.{ret}
use Rattle.machine.specs.Machine.Run.{start, more}
use Rattle.machine.specs.Tables.{code_length, item_at}
use Rattle.machine.proofs.Moving.{not_stuck}

abbrev returning : ℕ → List Record
returning w = record { line = 0; item = Instruction (Mov 0 (Constant w)) } ∷ record { line = 0; item = Instruction Ret } ∷ []

-- control is at the first instruction, or at the second with r0 set
abbrev There : ℕ → ℕ → Regs → Type 0
There w k r = (k ≡ 0) ⊎ ((k ≡ 1) × (r 0 ≡ Some w))

module _ (w : ℕ) where
  moved : (r : Regs) (j : ℕ) (q : Regs) → Does (returning w) 0 r j q (Instruction (Mov 0 (Constant w))) → There w j q
  moved r j q (mov x e ej eq) = let same : w ≡ x = cc in inr (ej, ap (λ (q : Regs). q 0) eq ∙ ap Some (sym same))

  never : (k : ℕ) (r : Regs) (j : ℕ) (q : Regs) → Does (returning w) k r j q (Instruction Ret) → There w j q
  never k r j q d = elim d [ ]

  there : (from : Regs) {n k : ℕ} {r : Regs} → Run (returning w) from n k r → There w k r
  there from start = inl refl
  there from (more {n} {k} {j} {r} {q} run inside does) =
      ⊎_elim
      (λ e. moved r j q (subst (λ k. Does (returning w) k r j q (item_at (returning w) k)) e does))
      (λ e. never 1 r j q (subst (λ k. Does (returning w) k r j q (item_at (returning w) k)) e.0 does))
      (there from run)

  moves : (k : ℕ) (r : Regs) → There w k r → (k < code_length (returning w)) × Moves (returning w) k r (item_at (returning w) k)
  moves k r (inl e) = subst (λ k. (k < code_length (returning w)) × Moves (returning w) k r (item_at (returning w) k)) (sym e) (omega arith, inr (1, put r 0 w, mov w refl refl refl))
  moves k r (inr (e, f)) = subst (λ k. (k < code_length (returning w)) × Moves (returning w) k r (item_at (returning w) k)) (sym e) (omega arith, inl (w, ret f))

  pub constant_safe : NeverStuck (returning w)
  constant_safe s =
      let m = moves s.at s.regs (there (entry s.from) s.run) in
      ∣ (m.0, not_stuck (returning w) s.at s.regs (item_at (returning w) s.at) m.1, m.1) ∣₁
