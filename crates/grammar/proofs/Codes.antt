-- The lines after `code`, one by one: their forms, their labels, and how many instructions they are.
use Rattle.std.proofs.Common.{◌≡◌, ℕ, ◌+◌, ◌-◌, ◌<◌, ◌≤◌, Bool, true, false, cond, leb, List, [], ◌∷◌, ◌++◌, length, get_or, take, drop, Ok, Err, codes, Decides, Result, sym, refl, ap, ◌∙◌, subst, inl, inr, ⊎_elim, arith, below_more}
use Rattle.std.proofs.lemmas.List.{take_more, take_all, length_push, get_or_append_left, get_or_push}
use Rattle.std.proofs.lemmas.Bool.{cond-true, cond-false, cases_lt, cond_both, both_ways, leb-true, leb-false}
use Rattle.lexer.specs.declared.fault.FieldFault.TheVariants.{Character, Kind as WrongKind}
use Rattle.lexer.specs.Lines.{Piece}
use Rattle.syntax.specs.declared.fault.LineFault.{LineFault}
use Rattle.syntax.specs.declared.fault.LineFault.TheVariants.{Field, Heading, Form}
use Rattle.rule.specs.declared.instruction.Instruction.{Instruction}
use Rattle.rule.specs.Instructions.{is_ret}
use Rattle.syntax.specs.declared.statement.Statement.{Statement}
use Rattle.syntax.specs.declared.statement.Statement.TheVariants.{Label, Instruction as Instructs}
use Rattle.grammar.specs.declared.fault.ProgramFault.{ProgramFault}
use Rattle.grammar.specs.Causes.{field_at, line_at, is_label, label_name, instructions, number_at, SameLabel, FineCode, WrongCode, First}
use Rattle.grammar.specs.Names.{Entry, is_known}
use Rattle.grammar.specs.Reading.{Fields, Survey, first_place, entry, said, surveyed, survey_from}
use Rattle.grammar.proofs.Buffers.{cons_tail, nil_end}
use Rattle.grammar.proofs.Lines.{SaysCode, code_says}
use Rattle.grammar.proofs.Lookups.{no_entry, known_some, unknown-none}
use Rattle.grammar.proofs.Shapes.{ret_decides}

-- ── counting ──

swap : (x y : Bool) (n : ℕ) → cond x (cond y n (n + 1)) (1 + cond y n (n + 1)) ≡ cond y (cond x n (1 + n)) (cond x n (1 + n) + 1)
swap true y n = refl
swap false true n = refl
swap false false n = omega arith

last-place : (k : ℕ) → k + 1 - 1 ≡ k
last-place k = omega arith

count_push : (ls : List Fields) (l : Fields) → instructions (ls ++ l ∷ []) ≡ cond (is_label l) (instructions ls) (instructions ls + 1)
count_push [] l = ap (λ n. cond (is_label l) 0 n) (omega arith)
count_push (m ∷ ls) l =
    let f : ℕ → ℕ = λ n. cond (is_label m) n (1 + n) in
    ap f (count_push ls l) ∙ swap (is_label m) (is_label l) (instructions ls)

pub number-label : (cs : List Fields) (k : ℕ) → k < length cs → is_label (line_at cs k) ≡ true → number_at cs (k + 1) ≡ number_at cs k
number-label cs k l h = ap instructions (take_more cs k [] l) ∙ count_push (take k cs) (line_at cs k) ∙ cond-true (is_label (line_at cs k)) _ _ h

pub number-instruction : (cs : List Fields) (k : ℕ) → k < length cs → is_label (line_at cs k) ≡ false → number_at cs (k + 1) ≡ number_at cs k + 1
number-instruction cs k l h = ap instructions (take_more cs k [] l) ∙ count_push (take k cs) (line_at cs k) ∙ cond-false (is_label (line_at cs k)) _ _ h

pub number-all : (cs : List Fields) (k : ℕ) → length cs ≤ k → number_at cs k ≡ instructions cs
number-all cs k l = ap instructions (take_all k cs l)

-- ── line by line ──

-- line j is the label of an entry
pub record Marks (cs : List Fields) (k : ℕ) (e : Entry) (j : ℕ) : Type 0 where
  pub earlier : j < k
  pub label : is_label (line_at cs j) ≡ true
  pub name : label_name (line_at cs j) ≡ e.name
  pub number : number_at cs j ≡ e.number

-- the line before line k is `ret`
abbrev pub EndsAt : List Fields → ℕ → Type 0
EndsAt cs k = (0 < k) × (is_label (line_at cs (k - 1)) ≡ false) × ((field_at (line_at cs (k - 1)) 0).bytes ≡ codes "ret")

-- the first k lines are fine, and these are their labels and the count of their instructions
pub record Sofar (room : ℕ) (cs : List Fields) (k : ℕ) (es : List Entry) (n : ℕ) (closed : Bool) : Type 0 where
  pub count : n ≡ number_at cs k
  pub fine : (i : ℕ) → i < k → FineCode room cs i
  pub entries : (e : ℕ) → e < length es → (j : ℕ) × Marks cs k (get_or es e no_entry) j
  pub labels : (j : ℕ) → j < k → is_label (line_at cs j) ≡ true → (e : ℕ) × (e < length es) × Marks cs k (get_or es e no_entry) j
  pub ends : Decides closed (EndsAt cs k)

abbrev pub SaysSurvey : ℕ → List Fields → Result Survey ProgramFault → Type 0
SaysSurvey room cs (Ok s) = Sofar room cs (length cs) s.labels s.count s.closed
SaysSurvey room cs (Err f) = First (FineCode room cs) (λ k. WrongCode room cs k f) cs

later : (cs : List Fields) (k j : ℕ) (e : Entry) → Marks cs k e j → Marks cs (k + 1) e j
later cs k j e m = record { earlier = omega (arith, m.earlier); label = m.label; name = m.name; number = m.number }

-- one label more
label-more : (room : ℕ) (cs : List Fields) (k : ℕ) (es : List Entry) (n : ℕ) (closed : Bool) (p : Piece) → k < length cs → Sofar room cs k es n closed → FineCode room cs k → is_label (line_at cs k) ≡ true → p.bytes ≡ label_name (line_at cs k) → Sofar room cs (k + 1) (es ++ entry p n ∷ []) n false
label-more room cs k es n closed p l so fine is named =
    let new = entry p n in
    let mine : Marks cs (k + 1) new k = record { earlier = omega arith; label = is; name = sym named; number = sym so.count } in
    let old : (e j : ℕ) → e < length es → Marks cs k (get_or es e no_entry) j → Marks cs (k + 1) (get_or (es ++ new ∷ []) e no_entry) j = λ e j h m. subst (λ x. Marks cs (k + 1) x j) (sym (get_or_append_left es (new ∷ []) no_entry e h)) (later cs k j _ m) in
    let last : Marks cs (k + 1) (get_or (es ++ new ∷ []) (length es) no_entry) k = subst (λ x. Marks cs (k + 1) x k) (sym (get_or_push es new no_entry (length es) refl)) mine in
    record {
      count = so.count ∙ sym (number-label cs k l is);
      fine = below_more _ _ so.fine fine;
      entries = λ e h. ⊎_elim
          (λ b. let o = so.entries e b in (o.0, old e o.0 b o.1))
          (λ b. let same : length es ≡ e = omega (arith, length_push es new) in (k, subst (λ i. Marks cs (k + 1) (get_or (es ++ new ∷ []) i no_entry) k) same last))
          (cases_lt e (length es));
      labels = below_more _ _
          (λ j h g. let o = so.labels j h g in (o.0, omega (arith, o.1, length_push es new), old o.0 j o.1 o.2))
          (λ g. (length es, omega (arith, length_push es new), last));
      ends = (λ e. absurd (both_ways _ refl e), λ h. absurd (both_ways _ h.1 (ap (λ i. is_label (line_at cs i)) (last-place k) ∙ is)));
    }

-- one instruction more
instruction-more : (room : ℕ) (cs : List Fields) (k : ℕ) (es : List Entry) (n : ℕ) (closed : Bool) (i : Instruction Piece) → k < length cs → Sofar room cs k es n closed → FineCode room cs k → is_label (line_at cs k) ≡ false → said (line_at cs k) ≡ Ok (Instructs i) → Sofar room cs (k + 1) es (n + 1) (is_ret i)
instruction-more room cs k es n closed i l so fine is says =
    let ret = ret_decides (line_at cs k) i says in
    let at : line_at cs (k + 1 - 1) ≡ line_at cs k = ap (line_at cs) (last-place k) in
    record {
      count = ap (λ x. x + 1) so.count ∙ sym (number-instruction cs k l is);
      fine = below_more _ _ so.fine fine;
      entries = λ e h. let o = so.entries e h in (o.0, later cs k o.0 _ o.1);
      labels = below_more _ _
          (λ j h g. let o = so.labels j h g in (o.0, o.1, later cs k j _ o.2))
          (λ g. absurd (both_ways _ is g));
      ends = (λ e. (omega arith, ap is_label at ∙ is, ap (λ (x : Fields). (field_at x 0).bytes) at ∙ ret.0 e), λ h. ret.1 (ap (λ (x : Fields). (field_at x 0).bytes) (sym at) ∙ h.2));
    }

same_known : (room : ℕ) (cs : List Fields) (k : ℕ) (es : List Entry) (n : ℕ) (closed : Bool) (p : Piece) → Sofar room cs k es n closed → p.bytes ≡ label_name (line_at cs k) → is_known es p.bytes ≡ true → SameLabel cs k
same_known room cs k es n closed p so named e =
    let h = known_some es p.bytes e in
    let o = so.entries h.0 h.1.0 in
    (o.0, o.1.earlier, o.1.label, o.1.name ∙ h.1.1 ∙ named)

not_same : (room : ℕ) (cs : List Fields) (k : ℕ) (es : List Entry) (n : ℕ) (closed : Bool) (p : Piece) → Sofar room cs k es n closed → p.bytes ≡ label_name (line_at cs k) → is_known es p.bytes ≡ false → SameLabel cs k → ⊥
not_same room cs k es n closed p so named e h =
    let o = so.labels h.0 h.1 h.2 in
    unknown-none es p.bytes e o.0 (o.1, sym o.2.name ∙ h.3 ∙ sym named)

line_says : (room : ℕ) (cs : List Fields) (k : ℕ) (es : List Entry) (n : ℕ) (closed : Bool) (next : List Entry → ℕ → Bool → Result Survey ProgramFault) → k < length cs → Sofar room cs k es n closed → ((es' : List Entry) (n' : ℕ) (closed' : Bool) → Sofar room cs (k + 1) es' n' closed' → SaysSurvey room cs (next es' n' closed')) → (r : Result (Statement Piece) LineFault) → said (line_at cs k) ≡ r → SaysCode (line_at cs k) r → SaysSurvey room cs (surveyed room es n (first_place (line_at cs k)) next r)
line_says room cs k es n closed next l so go (Err (Form p)) e v = record { line = k; within = l; before_it = so.fine; there = inr (v.0, (v.1, v.2)) }
line_says room cs k es n closed next l so go (Err (Field (WrongKind p))) e v = record { line = k; within = l; before_it = so.fine; there = ⊎_elim (λ h. inl (h.0, (h.1, h.2))) (λ h. inr (h.0, h.1)) v }
line_says room cs k es n closed next l so go (Err (Field (Character f))) e v = absurd v
line_says room cs k es n closed next l so go (Err (Heading p)) e v = absurd v
line_says room cs k es n closed next l so go (Ok (Label p)) e v =
    let named : p.bytes ≡ label_name (line_at cs k) = ap (λ (x : Piece). x.bytes) v.2 in
    let at : p.place ≡ first_place (line_at cs k) = ap (λ (x : Piece). x.place) v.2 in
    cond_both (is_known es p.bytes) _ _ (SaysSurvey room cs)
    (λ known. record { line = k; within = l; before_it = so.fine; there = inl (v.0, (v.1, same_known room cs k es n closed p so named known, at)) })
    (λ new. go _ n false (label-more room cs k es n closed p l so (inl (v.0, record { form = v.1; new = not_same room cs k es n closed p so named new })) v.0 named))
line_says room cs k es n closed next l so go (Ok (Instructs i)) e v =
    cond_both (leb room n) _ _ (SaysSurvey room cs)
    (λ full. record { line = k; within = l; before_it = so.fine; there = inr (v.0, (v.1, omega (arith, leb-true _ _ full, so.count), refl)) })
    (λ free. go es (n + 1) (is_ret i) (instruction-more room cs k es n closed i l so (inr (v.0, record { form = v.1; fits = λ x. omega (arith, leb-false _ _ free, so.count) })) v.0 e))

pub survey_says : (ls : List Fields) (room k : ℕ) (cs : List Fields) (es : List Entry) (n : ℕ) (closed : Bool) → k ≤ length cs → ls ≡ drop k cs → Sofar room cs k es n closed → SaysSurvey room cs (survey_from room es n closed ls)
survey_says [] room k cs es n closed le e so = let same : k ≡ length cs = omega (arith, nil_end cs k e) in subst (λ i. Sofar room cs i es n closed) same so
survey_says (l ∷ rest) room k cs es n closed le e so =
    let cut = cons_tail l rest cs k e in
    let next : List Entry → ℕ → Bool → Result Survey ProgramFault = λ es' n' closed'. survey_from room es' n' closed' rest in
    let x = line_at cs k in
    subst (λ (y : Fields). SaysSurvey room cs (surveyed room es n (first_place y) next (said y))) cut.1
    (line_says room cs k es n closed next cut.0 so (λ es' n' closed' so'. survey_says rest room (k + 1) cs es' n' closed' (omega (arith, cut.0)) cut.2 so') (said x) refl (code_says x))
