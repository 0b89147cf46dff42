-- The lines after `code` once more, with their names resolved.
use Rattle.std.proofs.Common.{◌≡◌, ℕ, ◌+◌, ◌<◌, ◌≤◌, Bool, true, false, ◌&&◌, ltb, List, [], ◌∷◌, ◌++◌, length, get_or, drop, Some, None, Ok, Err, codes, Option, Result, sym, refl, ap, ◌∙◌, subst, inl, inr, ⊎_elim, arith, below_more}
use Rattle.std.proofs.lemmas.List.{length_push}
use Rattle.std.proofs.lemmas.Bool.{cond_both, both_ways, and_parts, and_from, ltb-true, lt-ltb}
use Rattle.lexer.specs.declared.fault.FieldFault.TheVariants.{Character, Kind as WrongKind}
use Rattle.lexer.specs.Lines.{Piece}
use Rattle.rule.specs.declared.record.Item.TheVariants.{Instruction as IsInstruction}
use Rattle.rule.specs.declared.record.Record.{Record}
use Rattle.rule.specs.Records.{blank, writable_in}
use Rattle.syntax.specs.declared.fault.LineFault.{LineFault}
use Rattle.syntax.specs.declared.fault.LineFault.TheVariants.{Field, Heading, Form}
use Rattle.rule.specs.declared.instruction.Instruction.{Instruction}
use Rattle.rule.specs.declared.instruction.Instruction.TheVariants.{Mov, Alu, Load, Store, Jump, Branch, Ret}
use Rattle.syntax.specs.declared.statement.Statement.{Statement}
use Rattle.syntax.specs.declared.statement.Statement.TheVariants.{Label, Instruction as Instructs}
use Rattle.grammar.specs.declared.fault.ProgramFault.{ProgramFault}
use Rattle.grammar.specs.declared.fault.ProgramFault.TheVariants.{Line, Backward, ReadOnly}
use Rattle.grammar.specs.Causes.{field_at, line_at, is_label, instructions, number_at, source_of, sink_of, target_of, mnemonic_of, Declares, Stands, FineNames, WrongNames, First}
use Rattle.grammar.specs.Links.{Scope, Found, loadable, storable, reachable, with, resolved}
use Rattle.grammar.specs.Names.{Entry, number_of}
use Rattle.grammar.specs.Reading.{Fields, first_place, record_at, said, and_then, linked, link_from}
use Rattle.grammar.proofs.Blames.{code-blamed, one_label, mode-fits}
use Rattle.grammar.proofs.Buffers as buffers
use Rattle.grammar.proofs.Buffers.{cons_tail, nil_end}
use Rattle.grammar.proofs.Codes as code
use Rattle.grammar.proofs.Codes.{number-label, number-instruction, number-all}
use Rattle.grammar.proofs.Lines.{SaysCode, code_says}
use Rattle.grammar.proofs.Lookups.{number-some, number-none}
use Rattle.grammar.proofs.Shapes.{source_name, sink_name, target_name, instruction-own}

-- the scope is that of the lines: all of them are fine, and it has their buffers and labels
pub record Scoped (ds cs : List Fields) (s : Scope) : Type 0 where
  pub buffer-room : ℕ
  pub code-room : ℕ
  pub closed : Bool
  pub buffers : buffers.Sofar buffer-room ds (length ds) s.buffers s.heads
  pub code : code.Sofar code-room cs (length cs) s.labels s.count closed

module _ (ds cs : List Fields) (s : Scope) (sc : Scoped ds cs s) where
  total : s.count ≡ instructions cs
  total = sc.code.count ∙ number-all cs (length cs) (omega arith)

  -- ── buffers ──

  -- what the name of a buffer is found as
  buffer-some : (n : Piece) (b : ℕ) → number_of s.buffers n.bytes ≡ Some b → Declares ds b n
  buffer-some n b e =
      let o = number-some s.buffers n.bytes b e in
      let l : o.0 < length ds = omega (arith, o.1.0, sc.buffers.long-names) in
      let is = sc.buffers.names o.0 l in
      let same : o.0 ≡ b = ap (λ (x : Entry). x.number) (sym is) ∙ o.2 in
      let here : Declares ds o.0 n = (l, ap (λ (x : Entry). x.name) (sym is) ∙ o.1.1) in
      subst (λ i. Declares ds i n) same here

  buffer-none : (n : Piece) → number_of s.buffers n.bytes ≡ None → (j : ℕ) → Declares ds j n → ⊥
  buffer-none n e j d = number-none s.buffers n.bytes e j (omega (arith, d.0, sc.buffers.long-names), ap (λ (x : Entry). x.name) (sc.buffers.names j d.0) ∙ d.1)

  -- ── labels ──

  label-some : (n : Piece) (x : ℕ) → number_of s.labels n.bytes ≡ Some x → (j : ℕ) × Stands cs j n × (number_at cs j ≡ x)
  label-some n x e =
      let o = number-some s.labels n.bytes x e in
      let m = sc.code.entries o.0 o.1.0 in
      (m.0, (m.1.earlier, m.1.label, m.1.name ∙ o.1.1), m.1.number ∙ o.2)

  label-none : (n : Piece) → number_of s.labels n.bytes ≡ None → (j : ℕ) → Stands cs j n → ⊥
  label-none n e j d =
      let m = sc.code.labels j d.0 d.1 in
      number-none s.labels n.bytes e m.0 (m.1, sym m.2.name ∙ d.2)

  -- ── one instruction: the names that it has, and what is said of them ──

  -- the names of the instruction at line k are those of i
  pub record Names (k : ℕ) (i : Instruction Piece) : Type 0 where
    pub plain : is_label (line_at cs k) ≡ false
    pub loads : source_of (mnemonic_of (line_at cs k)) (line_at cs k) ≡ source_name i
    pub stores : sink_of (mnemonic_of (line_at cs k)) (line_at cs k) ≡ sink_name i
    pub jumps : target_of (mnemonic_of (line_at cs k)) (line_at cs k) ≡ target_name i

  abbrev SaysNames : {X : Type 0} → ℕ → Result X ProgramFault → Type 0
  SaysNames k (Ok x) = FineNames ds cs k
  SaysNames k (Err f) = WrongNames ds cs k f

  no_name : (n : Piece) (o : Option Piece) → o ≡ None → o ≡ Some n → ⊥
  no_name n o a b = let z : ◌≡◌ {A = ℕ} 0 1 = cc in omega arith

  same_name : (m n : Piece) (o : Option Piece) → o ≡ Some m → o ≡ Some n → m ≡ n
  same_name m n o a b = cc

  -- no name at all
  nameless : (k : ℕ) (i : Instruction Piece) → Names k i → source_name i ≡ None → sink_name i ≡ None → target_name i ≡ None → FineNames ds cs k
  nameless k i ns a b c = record {
    loads = λ n h. absurd (no_name n _ (ns.loads ∙ a) h.1);
    stores = λ n h. absurd (no_name n _ (ns.stores ∙ b) h.1);
    jumps = λ n h. absurd (no_name n _ (ns.jumps ∙ c) h.1);
  }

  load_says : (k : ℕ) (i : Instruction Piece) (n : Piece) (f : ℕ → Instruction ℕ) (o : Option ℕ) → Names k i → source_name i ≡ Some n → sink_name i ≡ None → target_name i ≡ None → number_of s.buffers n.bytes ≡ o → SaysNames k (with (loadable o n.place) f)
  load_says k i n f None ns a b c e = inl (n, inl (ns.plain, ns.loads ∙ a), buffer-none n e, refl)
  load_says k i n f (Some x) ns a b c e = record {
    loads = λ m h. (x, subst (Declares ds x) (same_name n m _ (ns.loads ∙ a) h.1) (buffer-some n x e));
    stores = λ m h. absurd (no_name m _ (ns.stores ∙ b) h.1);
    jumps = λ m h. absurd (no_name m _ (ns.jumps ∙ c) h.1);
  }

  not_rw : (x : ℕ) → x < length ds → ((field_at (line_at ds x) 2).bytes ≡ codes "rw" → ⊥) → (field_at (line_at ds x) 2).bytes ≡ codes "ro"
  not_rw x l never = ⊎_elim (λ e. e) (λ e. absurd (never e)) (mode-fits (line_at ds x) (sc.buffers.fine x l).form)

  store_says : (k : ℕ) (i : Instruction Piece) (n : Piece) (f : ℕ → Instruction ℕ) (o : Option ℕ) → Names k i → source_name i ≡ None → sink_name i ≡ Some n → target_name i ≡ None → number_of s.buffers n.bytes ≡ o → SaysNames k (with (storable s.heads o n.place) f)
  store_says k i n f None ns a b c e = inl (n, inr (ns.plain, ns.stores ∙ b), buffer-none n e, refl)
  store_says k i n f (Some x) ns a b c e =
      let d = buffer-some n x e in
      let rw-decides = sc.buffers.modes x d.0 in
      cond_both (writable_in (get_or s.heads x blank).item) (Ok x) (Err (ReadOnly n.place)) (λ (r : Found). SaysNames k (with r f))
      (λ h. record {
        loads = λ m g. absurd (no_name m _ (ns.loads ∙ a) g.1);
        stores = λ m g. (x, subst (Declares ds x) (same_name n m _ (ns.stores ∙ b) g.1) d, rw-decides.0 h);
        jumps = λ m g. absurd (no_name m _ (ns.jumps ∙ c) g.1);
      })
      (λ h. (n, (ns.plain, ns.stores ∙ b), (x, d, not_rw x d.0 (λ w. both_ways _ h (rw-decides.1 w))), refl))

  jump_says : (k : ℕ) (i : Instruction Piece) (n : Piece) (f : ℕ → Instruction ℕ) (o : Option ℕ) → Names k i → source_name i ≡ None → sink_name i ≡ None → target_name i ≡ Some n → number_of s.labels n.bytes ≡ o → SaysNames k (with (reachable (number_at cs k) s.count o n.place) f)
  jump_says k i n f None ns a b c e = inr (n, (ns.plain, ns.jumps ∙ c), label-none n e, refl)
  jump_says k i n f (Some x) ns a b c e =
      let d = label-some n x e in
      let test = ltb (number_at cs k) x && ltb x s.count in
      cond_both test (Ok x) (Err (Backward n.place)) (λ (r : Found). SaysNames k (with r f))
      (λ h. let r = and_parts (ltb (number_at cs k) x) (ltb x s.count) h in record {
        loads = λ m g. absurd (no_name m _ (ns.loads ∙ a) g.1);
        stores = λ m g. absurd (no_name m _ (ns.stores ∙ b) g.1);
        jumps = λ m g. (d.0, subst (Stands cs d.0) (same_name n m _ (ns.jumps ∙ c) g.1) d.1, (omega (arith, ltb-true _ _ r.0, d.2), omega (arith, ltb-true _ _ r.1, d.2, total)));
      })
      (λ h. (
        n,
        (ns.plain, ns.jumps ∙ c),
        (d.0, d.1),
        λ j g later.
            let same = one_label sc.code-room cs sc.code.fine j d.0 g.0 d.1.0 g.1 d.1.1 (g.2 ∙ sym d.1.2) in
            let number : number_at cs j ≡ x = ap (number_at cs) same ∙ d.2 in
            both_ways _ h (and_from (ltb (number_at cs k) x) (ltb x s.count) (lt-ltb _ _ (omega (arith, later.0, number))) (lt-ltb _ _ (omega (arith, later.1, number, total)))),
        refl,
      ))

  instruction_says : (k : ℕ) (i : Instruction Piece) → Names k i → SaysNames k (resolved s (number_at cs k) i)
  instruction_says k (Mov t o) ns = nameless k (Mov t o) ns refl refl refl
  instruction_says k (Alu op t o) ns = nameless k (Alu op t o) ns refl refl refl
  instruction_says k (Load w t n i) ns = load_says k (Load w t n i) n _ (number_of s.buffers n.bytes) ns refl refl refl refl
  instruction_says k (Store w n i r) ns = store_says k (Store w n i r) n _ (number_of s.buffers n.bytes) ns refl refl refl refl
  instruction_says k (Jump n) ns = jump_says k (Jump n) n _ (number_of s.labels n.bytes) ns refl refl refl refl
  instruction_says k (Branch c l r n) ns = jump_says k (Branch c l r n) n _ (number_of s.labels n.bytes) ns refl refl refl refl
  instruction_says k Ret ns = nameless k Ret ns refl refl refl

  -- ── line by line ──

  abbrev pub SaysLinks : Result (List Record) ProgramFault → Type 0
  SaysLinks (Ok rs) = (k : ℕ) → k < length cs → FineNames ds cs k
  SaysLinks (Err f) = First (FineNames ds cs) (λ k. WrongNames ds cs k f) cs

  -- a label has no names
  label-fine : (k : ℕ) → is_label (line_at cs k) ≡ true → FineNames ds cs k
  label-fine k is = record {
    loads = λ n h. absurd (both_ways _ h.0 is);
    stores = λ n h. absurd (both_ways _ h.0 is);
    jumps = λ n h. absurd (both_ways _ h.0 is);
  }

  own-names : (k : ℕ) (i : Instruction Piece) → is_label (line_at cs k) ≡ false → said (line_at cs k) ≡ Ok (Instructs i) → Names k i
  own-names k i is e =
      let o = instruction-own (line_at cs k) i e in
      record {
        plain = is;
        loads = ap (λ m. source_of m (line_at cs k)) o.1 ∙ sym o.2.source;
        stores = ap (λ m. sink_of m (line_at cs k)) o.1 ∙ sym o.2.sink;
        jumps = ap (λ m. target_of m (line_at cs k)) o.1 ∙ sym o.2.target;
      }

  instruction_step : (k : ℕ) (rs : List Record) (next : List Record → Result (List Record) ProgramFault) → k < length cs → ((i : ℕ) → i < k → FineNames ds cs i) → (FineNames ds cs k → (r : Record) → SaysLinks (next (rs ++ r ∷ []))) → (x : Result (Instruction ℕ) ProgramFault) → SaysNames k x → SaysLinks (and_then x (λ j. next (rs ++ record_at (first_place (line_at cs k)) (IsInstruction j) ∷ [])))
  instruction_step k rs next l fine go (Ok x) h = go h _
  instruction_step k rs next l fine go (Err f) h = record { line = k; within = l; before_it = fine; there = h }

  line_says : (k : ℕ) (rs : List Record) (next : List Record → Result (List Record) ProgramFault) → k < length cs → length rs ≡ number_at cs k → ((i : ℕ) → i < k → FineNames ds cs i) → ((rs' : List Record) → length rs' ≡ number_at cs (k + 1) → FineNames ds cs k → SaysLinks (next rs')) → (r : Result (Statement Piece) LineFault) → said (line_at cs k) ≡ r → SaysCode (line_at cs k) r → SaysLinks (linked s rs (first_place (line_at cs k)) next r)
  line_says k rs next l long fine go (Err (Form p)) e v = absurd (code-blamed sc.code-room cs k (Line (Form p)) (inr (v.0, (v.1, v.2))) (sc.code.fine k l))
  line_says k rs next l long fine go (Err (Field (WrongKind p))) e v = absurd (code-blamed sc.code-room cs k (Line (Field (WrongKind p))) (⊎_elim (λ h. inl (h.0, (h.1, h.2))) (λ h. inr (h.0, h.1)) v) (sc.code.fine k l))
  line_says k rs next l long fine go (Err (Field (Character f))) e v = absurd v
  line_says k rs next l long fine go (Err (Heading p)) e v = absurd v
  line_says k rs next l long fine go (Ok (Label p)) e v = go rs (long ∙ sym (number-label cs k l v.0)) (label-fine k v.0)
  line_says k rs next l long fine go (Ok (Instructs i)) e v =
      instruction_step k rs next l fine
      (λ h r. go (rs ++ r ∷ []) (length_push rs r ∙ ap (λ n. n + 1) long ∙ sym (number-instruction cs k l v.0)) h)
      (resolved s (length rs) i)
      (subst (λ n. SaysNames k (resolved s n i)) (sym long) (instruction_says k i (own-names k i v.0 e)))

  pub link_says : (ls : List Fields) (k : ℕ) (rs : List Record) → k ≤ length cs → ls ≡ drop k cs → length rs ≡ number_at cs k → ((i : ℕ) → i < k → FineNames ds cs i) → SaysLinks (link_from s rs ls)
  link_says [] k rs le e long fine = λ i l. fine i (omega (arith, nil_end cs k e))
  link_says (l ∷ rest) k rs le e long fine =
      let cut = cons_tail l rest cs k e in
      let x = line_at cs k in
      subst (λ (y : Fields). SaysLinks (linked s rs (first_place y) (λ rs'. link_from s rs' rest) (said y))) cut.1
      (line_says k rs (λ rs'. link_from s rs' rest) cut.0 long fine
      (λ rs' long' h. link_says rest (k + 1) rs' (omega (arith, cut.0)) cut.2 long' (below_more _ _ fine h))
      (said x) refl (code_says x))
