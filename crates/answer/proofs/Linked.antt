-- The instructions that are read: each is one that a text could give, and the last is `ret`.
use Rattle.std.proofs.Common.{◌≡◌, ℕ, ◌+◌, ◌-◌, ◌<◌, ◌≤◌, Bool, true, false, ◌&&◌, ltb, leb, List, [], ◌∷◌, ◌++◌, length, get_or, IfOk, Some, None, Ok, Err, Option, Result, sym, refl, ap, ◌∙◌, subst, inl, inr, arith, below_more}
use Rattle.std.proofs.lemmas.List.{length_push, get_or_push, get_or_append_left}
use Rattle.std.proofs.lemmas.Bool.{and_parts, and_from, both_ways, cases_Bool, cond_both, cond-true, cond-false, leb-false, lt-ltb}
use Rattle.lexer.specs.declared.place.Place.{Place}
use Rattle.lexer.specs.Lines.{Piece}
use Rattle.rule.specs.Records.{writable_in}
use Rattle.machine.specs.Tables.{buffer_count, writable_at}
use Rattle.machine.specs.Valid.{operand_ok, jump_ok, item_ok, is_ret}
use Rattle.rule.specs.declared.record.Item.TheVariants as item
use Rattle.rule.specs.Instructions as instructions
use Rattle.rule.specs.declared.record.Record.{Record}
use Rattle.rule.specs.Records.{blank}
use Rattle.syntax.specs.declared.fault.LineFault.{LineFault}
use Rattle.rule.specs.declared.instruction.Instruction.{Instruction}
use Rattle.rule.specs.declared.instruction.Instruction.TheVariants.{Mov, Alu, Load, Store, Jump, Branch, Ret}
use Rattle.syntax.specs.declared.statement.Statement.{Statement}
use Rattle.syntax.specs.declared.statement.Statement.TheVariants.{Label, Instruction as Instructs}
use Rattle.grammar.specs.declared.fault.ProgramFault.{ProgramFault}
use Rattle.grammar.specs.Links.{Scope, Found, loadable, storable, reachable, source, sink, target, with, resolved}
use Rattle.grammar.specs.Names.{Entry, number_of, is_known}
use Rattle.grammar.specs.Reading.{Fields, Survey, first_place, record_at, entry, said, and_then, surveyed, survey_from, linked, link_from}
use Rattle.answer.proofs.Each.{Each, Held}
use Rattle.answer.proofs.Heads.{Below, number-held}
use Rattle.answer.proofs.Limits.{Bounded, FineStatement, said_made}

-- ── one instruction ──

-- the names of the buffers stand for buffers
pub record Known (s : Scope) : Type 0 where
  pub names : Each (Below (length s.heads)) s.buffers
  pub heads : buffer_count s.heads ≡ length s.heads

-- a fit instruction, and a `ret` where the text has one
abbrev Links : Scope → ℕ → Instruction Piece → Instruction ℕ → Type 0
Links s k i x = (item_ok s.heads s.count k (item.Instruction x) ≡ true) × (instructions.is_ret i ≡ true → instructions.is_ret x ≡ true)

with_made : (P : ℕ → Type 0) (Q : Instruction ℕ → Type 0) (r : Found) (f : ℕ → Instruction ℕ) → IfOk r P → ((n : ℕ) → P n → Q (f n)) → IfOk (with r f) Q
with_made P Q (Ok n) f h g = g n h
with_made P Q (Err e) f h g = tt

module _ (s : Scope) (known : Known s) where
  abbrev IsBuffer : ℕ → Type 0
  IsBuffer b = ltb b (buffer_count s.heads) ≡ true

  is-buffer : (b : ℕ) → b < length s.heads → IsBuffer b
  is-buffer b h = lt-ltb b (buffer_count s.heads) (omega (arith, known.heads))

  loadable_made : (o : Option ℕ) (p : Place) → Held (λ b. b < length s.heads) o → IfOk (loadable o p) IsBuffer
  loadable_made None p h = tt
  loadable_made (Some b) p h = is-buffer b h

  abbrev IsSink : ℕ → Type 0
  IsSink b = (ltb b (buffer_count s.heads) && writable_at s.heads b) ≡ true

  storable_made : (o : Option ℕ) (p : Place) → Held (λ b. b < length s.heads) o → IfOk (storable s.heads o p) IsSink
  storable_made None p h = tt
  storable_made (Some b) p h =
      cond_both (writable_in (get_or s.heads b blank).item) _ _ (λ r. IfOk r IsSink)
      (λ w. and_from _ _ (is-buffer b h) w)
      (λ _. tt)

  reachable_made : (k : ℕ) (o : Option ℕ) (p : Place) → IfOk (reachable k s.count o p) (λ to. jump_ok s.count k to ≡ true)
  reachable_made k None p = tt
  reachable_made k (Some to) p = cond_both (ltb k to && ltb to s.count) _ _ (λ r. IfOk r (λ to. jump_ok s.count k to ≡ true)) (λ h. h) (λ _. tt)

  found : (n : Piece) → Held (λ b. b < length s.heads) (number_of s.buffers n.bytes)
  found n = number-held (length s.heads) s.buffers n.bytes known.names

  item_made : (k : ℕ) (i : Instruction Piece) → Bounded i → IfOk (resolved s k i) (Links s k i)
  item_made k (Mov t o) h = (h, λ e. e)
  item_made k (Alu op t o) h = (h, λ e. e)
  item_made k (Load w t n o) h =
      let fit = and_parts (ltb t 8) (operand_ok o) h in
      with_made IsBuffer (Links s k (Load w t n o)) (source s n) _ (loadable_made (number_of s.buffers n.bytes) n.place (found n))
      (λ b g. (and_from _ _ fit.0 (and_from _ _ g fit.1), λ e. e))
  item_made k (Store w n o t) h =
      with_made IsSink (Links s k (Store w n o t)) (sink s n) _ (storable_made (number_of s.buffers n.bytes) n.place (found n))
      (λ b g. (and_from _ _ g h, λ e. e))
  item_made k (Jump n) h =
      with_made (λ to. jump_ok s.count k to ≡ true) (Links s k (Jump n)) (target s k n) _ (reachable_made k (number_of s.labels n.bytes) n.place)
      (λ to g. (g, λ e. e))
  item_made k (Branch c l o n) h =
      let fit = and_parts (ltb l 8) (operand_ok o) h in
      with_made (λ to. jump_ok s.count k to ≡ true) (Links s k (Branch c l o n)) (target s k n) _ (reachable_made k (number_of s.labels n.bytes) n.place)
      (λ to g. (and_from _ _ fit.0 (and_from _ _ fit.1 g), λ e. e))
  item_made k Ret h = (refl, λ e. refl)

-- ── all of them ──

abbrev pub Ends : List Record → Type 0
Ends rs = (0 < length rs) × (is_ret (get_or rs (length rs - 1) blank).item ≡ true)

-- so many of the instructions, of n in all; closed where the last of them is `ret`
pub record Coded (heads : List Record) (n room k : ℕ) (closed : Bool) (rs : List Record) : Type 0 where
  pub long : length rs ≡ k
  pub few : k ≤ room
  pub items : (j : ℕ) → j < length rs → item_ok heads n j (get_or rs j blank).item ≡ true
  pub ends : closed ≡ true → Ends rs

same_ok : {X E : Type 0} (x y : X) → ◌≡◌ {A = Result X E} (Ok x) (Ok y) → x ≡ y
same_ok x y e = cc

not_ok : {X E : Type 0} (e : E) (y : X) → ◌≡◌ {A = Result X E} (Err e) (Ok y) → ⊥
not_ok e y h = let z : ◌≡◌ {A = ℕ} 0 1 = cc in omega arith

module _ (s : Scope) (known : Known s) (room : ℕ) where
  abbrev State : ℕ → Bool → List Record → Type 0
  State k closed rs = Coded s.heads s.count room k closed rs

  -- one more instruction
  more : (k : ℕ) (closed : Bool) (rs : List Record) (p : Place) (i : Instruction Piece) (x : Instruction ℕ) → State k closed rs → k < room → Links s (length rs) i x → State (k + 1) (instructions.is_ret i) (rs ++ record_at p (item.Instruction x) ∷ [])
  more k closed rs p i x c h l =
      let r = record_at p (item.Instruction x) in
      let grown = rs ++ r ∷ [] in
      let long : length grown ≡ length rs + 1 = length_push rs r in
      let last : get_or grown (length rs) blank ≡ r = get_or_push rs r blank (length rs) refl in
      let here : length grown - 1 ≡ length rs = omega arith in
      record {
        long = omega (arith, c.long);
        few = omega arith;
        items = λ j below. below_more (λ j. item_ok s.heads s.count j (get_or grown j blank).item ≡ true) (length rs)
            (λ j l. ap (λ (r : Record). item_ok s.heads s.count j r.item) (get_or_append_left rs (r ∷ []) blank j l) ∙ c.items j l)
            (ap (λ (r : Record). item_ok s.heads s.count (length rs) r.item) last ∙ l.0) j (omega arith);
        ends = λ e. (omega arith, ap (λ j. is_ret (get_or grown j blank).item) here ∙ (ap (λ (r : Record). is_ret r.item) last ∙ l.1 e));
      }

  module _ (sv : Survey) (out : List Record) where
    -- what the lines so far come to goes on to what all of them come to
    abbrev Goes : List Fields → Type 0
    Goes lines = (ls : List Entry) (k : ℕ) (closed : Bool) (rs : List Record) → State k closed rs → survey_from room ls k closed lines ≡ Ok sv → link_from s rs lines ≡ Ok out → State sv.count sv.closed out

    instructed : (rest : List Fields) → Goes rest → (ls : List Entry) (k : ℕ) (closed : Bool) (rs : List Record) (p : Place) (i : Instruction Piece) (r : Result (Instruction ℕ) ProgramFault)
        → State k closed rs → k < room → IfOk r (Links s (length rs) i) → survey_from room ls (k + 1) (instructions.is_ret i) rest ≡ Ok sv
        → and_then r (λ x. link_from s (rs ++ record_at p (item.Instruction x) ∷ []) rest) ≡ Ok out → State sv.count sv.closed out
    instructed rest again ls k closed rs p i (Ok x) c h l a b = again ls (k + 1) (instructions.is_ret i) (rs ++ record_at p (item.Instruction x) ∷ []) (more k closed rs p i x c h l) a b
    instructed rest again ls k closed rs p i (Err e) c h l a b = absurd (not_ok e out b)

    stated : (rest : List Fields) → Goes rest → (ls : List Entry) (k : ℕ) (closed : Bool) (rs : List Record) (p : Place) (r : Result (Statement Piece) LineFault)
        → State k closed rs → IfOk r FineStatement → surveyed room ls k p (λ ls' k' closed'. survey_from room ls' k' closed' rest) r ≡ Ok sv
        → linked s rs p (λ rs'. link_from s rs' rest) r ≡ Ok out → State sv.count sv.closed out
    stated rest again ls k closed rs p (Err e) c fine a b = absurd (not_ok _ sv a)
    stated rest again ls k closed rs p (Ok (Label n)) c fine a b =
        elim (cases_Bool (is_known ls n.bytes)) [
          | inl t ↦ absurd (not_ok _ sv (sym (cond-true (is_known ls n.bytes) _ _ t) ∙ a))
          | inr f ↦ again (ls ++ entry n k ∷ []) k false rs (record { long = c.long; few = c.few; items = c.items; ends = λ e. absurd (both_ways false refl e) }) (sym (cond-false (is_known ls n.bytes) _ _ f) ∙ a) b
        ]
    stated rest again ls k closed rs p (Ok (Instructs i)) c fine a b =
        elim (cases_Bool (leb room k)) [
          | inl t ↦ absurd (not_ok _ sv (sym (cond-true (leb room k) _ _ t) ∙ a))
          | inr f ↦ instructed rest again ls k closed rs p i (resolved s (length rs) i) c (leb-false room k f) (item_made s known (length rs) i fine) (sym (cond-false (leb room k) _ _ f) ∙ a) b
        ]

    goes : (lines : List Fields) → Goes lines
    goes [] ls k closed rs c a b =
        let s-same = same_ok _ sv a in
        let r-same = same_ok rs out b in
        subst (State sv.count sv.closed) r-same (subst (λ (v : Survey). State v.count v.closed rs) s-same c)
    goes (l ∷ rest) ls k closed rs c a b = stated rest (goes rest) ls k closed rs (first_place l) (said l) c (said_made l) a b

  -- what the survey and the links of all lines come to
  pub code_made : (sv : Survey) (out : List Record) (lines : List Fields) → survey_from room [] 0 false lines ≡ Ok sv → link_from s [] lines ≡ Ok out → State sv.count sv.closed out
  code_made sv out lines a b =
      goes sv out lines [] 0 false [] (record { long = refl; few = omega arith; items = λ j h. absurd (omega arith); ends = λ e. absurd (both_ways false refl e) }) a b
