-- A rule that never gets stuck runs to its end on a memory.
use Rattle.std.proofs.Common.{◌≡◌, ℕ, zero, suc, ◌+◌, ◌<◌, ◌≤◌, ◌⊎◌, List, [], ◌∷◌, length, get_or, Some, None, Option, sym, refl, subst, inl, inr, ⊎_elim, add-one, arith}
use mathlib.Core.Logic.{∥∥₁_elim}
use Rattle.rule.specs.declared.record.Record.{Record}
use Rattle.machine.specs.Machine.{Regs, Run, Inputs, entry, Reached, NeverStuck}
use Rattle.machine.specs.Machine.Run.{start as free-start, more as free_more}
use Rattle.machine.specs.Memory.{Runs, words_in, Finishes, Free}
use Rattle.machine.specs.Memory.Runs.{start, more}
use Rattle.machine.specs.Tables.{code_length, item_at}
use Rattle.machine.specs.Valid.{Valid}
use Rattle.machine.proofs.Moving.{forward}
use Rattle.engine.specs.Steps.Leads.{Go, Return}
use Rattle.engine.specs.Steps.{Leads, and_then, RegisterList, register_of, Step, step, step_of, End, onward, run_from, first_registers, FourWords, run_of}
use Rattle.engine.proofs.Moves.{step_does, step_gives, step-long, moves-steps, entry-is}

-- a run on a memory is one of the free runs
pub free-run : (p : List Record) (from : Regs) (m : List ℕ) {n k : ℕ} {r : Regs} {o : List ℕ} → Runs p from m n k r o → Run p from n k r
free-run p from m start = free-start
free-run p from m (more run inside does touches) = free_more (free-run p from m run) inside does

pub free-finish : (p : List Record) (words m : List ℕ) (w steps : ℕ) (o : List ℕ) → Finishes p words m w steps o → Free p words w steps
free-finish p words m w steps o f = record {
  state = record { from = f.from; steps = f.before; at = f.at; regs = f.regs; run = free-run p (entry f.from) m f.run };
  words_are = f.words_are;
  gives = f.gives;
  steps_are = f.steps_are;
}

-- an option, with the equation that tells which
abbrev Told : {X : Type 0} → Option X → Type 0
Told {X} o = (o ≡ None) ⊎ ((x : X) × (o ≡ Some x))

told : {X : Type 0} (o : Option X) → Told o
told None = inl refl
told (Some x) = inr (x, refl)

module _ (p : List Record) (valid : Valid p) (safe : NeverStuck p) (x : Inputs) (m : List ℕ) where
  -- where control is, after n steps on the memory m
  pub record Here (n k : ℕ) (r : RegisterList) (o : List ℕ) : Type 0 where
    pub run : Runs p (entry x) m n k (register_of r) o
    pub inside : k < code_length p
    pub eight : length r ≡ 8

  module _ (n k : ℕ) (r : RegisterList) (o : List ℕ) (here : Here n k r o) where
    -- there is a step
    pub steps_on : step_of p k (item_at p k) r o ≡ None → ⊥
    steps_on none =
        let state : Reached p = record { from = x; steps = n; at = k; regs = register_of r; run = free-run p (entry x) m here.run } in
        ∥∥₁_elim (safe state) (λ a b. absurd a) (λ h. moves-steps p k r o here.eight (item_at p k) h.2 none)

    -- after it control is at a later instruction
    pub goes_on : (j : ℕ) (r' : RegisterList) (o' : List ℕ) → step_of p k (item_at p k) r o ≡ Some (step (Go j) r' o') → Here (n + 1) j r' o' × (k < j)
    goes_on j r' o' e =
        let d = step_does p k r o here.eight (code_length p) (item_at p k) j r' o' (valid.items k here.inside) e in
        let on = forward p k (register_of r) j (register_of r') valid here.inside d.0 in (
          record {
            run = subst (λ i. Runs p (entry x) m i j (register_of r') o') (sym (add-one n)) (more here.run here.inside d.0 d.1);
            inside = on.1;
            eight = step-long p k r o here.eight (item_at p k) (step (Go j) r' o') e;
          },
          on.0,
        )

    pub returns-here : (w : ℕ) (r' : RegisterList) (o' : List ℕ) → step_of p k (item_at p k) r o ≡ Some (step (Return w) r' o') → Finishes p (words_in x) m w (n + 1) o'
    returns-here w r' o' e =
        let g = step_gives p k r o here.eight (item_at p k) w r' o' e in
        record {
          from = x;
          words_are = refl;
          before = n;
          at = k;
          regs = register_of r;
          run = subst (Runs p (entry x) m n k (register_of r)) (sym g.1) here.run;
          inside = here.inside;
          gives = g.0;
          steps_are = refl;
        }

  -- a run that has enough steps left comes to its end
  abbrev Ends : Option End → Type 0
  Ends o = (e : End) × (o ≡ Some e) × Finishes p (words_in x) m e.answer e.steps e.memory

  ends_next : (fuel n k : ℕ) (r : RegisterList) (o : List ℕ) (here : Here n k r o) → code_length p ≤ k + suc fuel →
      ((n' j : ℕ) (r' : RegisterList) (o' : List ℕ) → Here n' j r' o' → code_length p ≤ j + fuel → Ends (run_from p fuel n' j r' o')) →
      (i : Leads) (r' : RegisterList) (o' : List ℕ) → step_of p k (item_at p k) r o ≡ Some (step i r' o') → Ends (onward (run_from p fuel) n i r' o')
  ends_next fuel n k r o here h further (Go j) r' o' e = let g = goes_on n k r o here j r' o' e in further (n + 1) j r' o' g.0 (omega (arith, g.1))
  ends_next fuel n k r o here h further (Return w) r' o' e = (record { answer = w; steps = n + 1; memory = o' }, refl, returns-here n k r o here w r' o' e)

  pub ends : (fuel n k : ℕ) (r : RegisterList) (o : List ℕ) → Here n k r o → code_length p ≤ k + fuel → Ends (run_from p fuel n k r o)
  unfolding run_from
  ends zero n k r o here h = let inside = here.inside in absurd (omega arith)
  ends (suc fuel) n k r o here h =
      ⊎_elim
      (λ none. absurd (steps_on n k r o here none))
      (λ s. subst (λ (z : Option Step). Ends (and_then z (λ s. onward (run_from p fuel) n s.next s.registers s.memory))) (sym s.1)
      (ends_next fuel n k r o here h (ends fuel) s.0.next s.0.registers s.0.memory s.1))
      (told (step_of p k (item_at p k) r o))

  first : Here 0 0 (first_registers (words_in x)) m
  first = record { run = subst (λ r. Runs p (entry x) m 0 0 r m) (entry-is x) start; inside = valid.some; eight = refl }

  -- every run of it ends
  pub run_ends : Ends (run_of p (words_in x) m)
  run_ends = ends (code_length p) 0 0 (first_registers (words_in x)) m first (omega arith)

-- ── four words in a list ──

abbrev inputs : (words : List ℕ) → FourWords words → Inputs
inputs words f = record {
  first = get_or words 0 0;
  second = get_or words 1 0;
  third = get_or words 2 0;
  fourth = get_or words 3 0;
  first_fits = f.first;
  second_fits = f.second;
  third_fits = f.third;
  fourth_fits = f.fourth;
}

four_are : (words : List ℕ) → length words ≡ 4 → get_or words 0 0 ∷ get_or words 1 0 ∷ get_or words 2 0 ∷ get_or words 3 0 ∷ [] ≡ words
four_are [] e = absurd (omega arith)
four_are (a ∷ []) e = absurd (omega arith)
four_are (a ∷ b ∷ []) e = absurd (omega arith)
four_are (a ∷ b ∷ c ∷ []) e = absurd (omega arith)
four_are (a ∷ b ∷ c ∷ d ∷ []) e = refl
four_are (a ∷ b ∷ c ∷ d ∷ x ∷ xs) e = absurd (omega arith)

-- a rule that never gets stuck comes to an end on any memory, from any four words
pub words_end : (p : List Record) (words m : List ℕ) → Valid p → NeverStuck p → FourWords words → (e : End) × (run_of p words m ≡ Some e) × Finishes p words m e.answer e.steps e.memory
words_end p words m valid safe f =
    subst (λ ws. (e : End) × (run_of p ws m ≡ Some e) × Finishes p ws m e.answer e.steps e.memory) (four_are words f.four) (run_ends p valid safe (inputs words f) m)
