-- What the definition of a reading says in the words of the language.
use Rattle.std.proofs.Common.{◌≡◌, ℕ, ◌+◌, ◌-◌, ◌<◌, true, false, ltb, ◌⊎◌, List, [], ◌∷◌, length, drop, is_ok, Some, None, Ok, Err, Option, Result, sym, refl, ap, ◌∙◌, subst, inl, inr, ⊎_elim, arith}
use Rattle.std.proofs.lemmas.Bool.{cond-true, cond-false, cases_Bool, cases_lt, cond_both, both_ways, or_parts, ltb-true, ltb-false}
use Rattle.lexer.specs.declared.place.Place.{Place}
use Rattle.lexer.specs.declared.fault.FieldFault.TheVariants.{Character, Kind as WrongKind}
use Rattle.lexer.specs.Foreign.{foreign}
use Rattle.lexer.specs.Lines.{filled_lines}
use Rattle.rule.specs.declared.record.Record.{Record}
use Rattle.syntax.specs.declared.fault.LineFault.TheVariants.{Field, Heading, Form}
use Rattle.syntax.specs.Statements.{is_code, is_heading}
use Rattle.grammar.specs.declared.fault.ProgramFault.{ProgramFault}
use Rattle.grammar.specs.declared.fault.ProgramFault.TheVariants.{Line, TooLong, Repeated, Full, Unknown, Backward, ReadOnly, Unclosed}
use Rattle.rule.specs.declared.shape.Shape.{Shape}
use Rattle.grammar.specs.Causes.{Long, NoneForeign, IsHeading, heading_place, line_at, after, has_code, is_label, instructions, number_at, FineNames, last_line, Open, no_code, no_instruction, no_ret, label_last, body, buffer_lines, code_lines, buffer_room, code_room, Headed, Named, Unblamed, AtBuffer, AtCode, AtNames, Refused, Judged}
use Rattle.grammar.specs.Reading.{Fields, Heads, Survey, Program, and_then, link_from, scope_of, closing, code_of, coded, body_of, program_of, clean, reading, shape_of}
use Rattle.grammar.proofs.Blames.{buffer-blamed, code-blamed, names-blamed}
use Rattle.grammar.proofs.Buffers as buffers
use Rattle.grammar.proofs.Bytes.{foreign-none, first-foreign}
use Rattle.grammar.proofs.Codes as code
use Rattle.grammar.proofs.Codes.{EndsAt, number-instruction, number-all}
use Rattle.grammar.proofs.Lines.{heading_decides}
use Rattle.grammar.proofs.Linking.{Scoped, SaysLinks, link_says}

-- ── a fault told by its line ──

at-buffer : (room : ℕ) (t : List ℕ) (f : ProgramFault) → AtBuffer room t f → Refused room t f
at-buffer room t (Line (Form p)) h = inl h
at-buffer room t (Line (Field (WrongKind p))) h = inl h
at-buffer room t (Repeated p) h = inl h
at-buffer room t (Full p) h = inl h
at-buffer room t (Line (Field (Character f))) h = absurd h.1.there
at-buffer room t (Line (Heading p)) h = absurd h.1.there
at-buffer room t TooLong h = absurd h.1.there
at-buffer room t (Unknown p) h = absurd h.1.there
at-buffer room t (Backward p) h = absurd h.1.there
at-buffer room t (ReadOnly p) h = absurd h.1.there
at-buffer room t (Unclosed n) h = absurd h.1.there

neither : {A B : Type 0} → (A × ⊥) ⊎ (B × ⊥) → ⊥
neither h = ⊎_elim (λ a. a.1) (λ b. b.1) h

at_code : (room : ℕ) (t : List ℕ) (f : ProgramFault) → AtCode room t f → Refused room t f
at_code room t (Line (Form p)) h = inr h
at_code room t (Line (Field (WrongKind p))) h = inr h
at_code room t (Repeated p) h = inr h
at_code room t (Full p) h = inr h
at_code room t (Line (Field (Character f))) h = absurd (neither h.2.there)
at_code room t (Line (Heading p)) h = absurd (neither h.2.there)
at_code room t TooLong h = absurd (neither h.2.there)
at_code room t (Unknown p) h = absurd (neither h.2.there)
at_code room t (Backward p) h = absurd (neither h.2.there)
at_code room t (ReadOnly p) h = absurd (neither h.2.there)
at_code room t (Unclosed n) h = absurd (neither h.2.there)

at_names : (room : ℕ) (t : List ℕ) (f : ProgramFault) → AtNames room t f → Refused room t f
at_names room t (Unknown p) h = h
at_names room t (Backward p) h = h
at_names room t (ReadOnly p) h = h
at_names room t (Line f) h = absurd h.1.there
at_names room t TooLong h = absurd h.1.there
at_names room t (Repeated p) h = absurd h.1.there
at_names room t (Full p) h = absurd h.1.there
at_names room t (Unclosed n) h = absurd h.1.there

-- ── the end of the code ──

after_none : (ls : List Fields) → has_code ls ≡ false → after ls ≡ []
after_none [] e = refl
after_none (l ∷ ls) e = let r = or_parts (is_code l) (has_code ls) e in cond-false (is_code l) _ _ r.0 ∙ after_none ls r.1

closed-end : (ls : List Fields) → has_code ls ≡ true → EndsAt (after ls) (length (after ls)) → Open ls → ⊥
closed-end ls has ends (no_code e) = both_ways _ e has
closed-end ls has ends (no_instruction e) =
    let cs = after ls in
    let k = length cs - 1 in
    let next : k + 1 ≡ length cs = omega (arith, ends.0) in
    let count : instructions cs ≡ number_at cs k + 1 = sym (number-all cs (k + 1) (omega (arith, ends.0))) ∙ number-instruction cs k (omega (arith, ends.0)) ends.1 in
    omega arith
closed-end ls has ends (no_ret l r) = r ends.2
closed-end ls has ends (label_last l) = both_ways _ ends.1 l

open_end : (ls : List Fields) → (EndsAt (after ls) (length (after ls)) → ⊥) → Open ls
open_end ls never =
    let cs = after ls in
    ⊎_elim
    (λ some. ⊎_elim
    (λ l. label_last l)
    (λ l. no_ret l (λ r. never (some, l, r)))
    (cases_Bool (is_label (last_line cs))))
    (λ empty. no_instruction (sym (number-all cs 0 empty)))
    (cases_lt 0 (length cs))

-- ── the parts of a text, each after the one before ──

-- the buffers of a text are fine, and these are their names and records
abbrev BuffersFine : ℕ → List ℕ → Heads → Type 0
BuffersFine room t h = buffers.Sofar (buffer_room room) (buffer_lines t) (length (buffer_lines t)) h.names h.records

abbrev CodeFine : ℕ → List ℕ → Survey → Type 0
CodeFine room t s = code.Sofar (code_room room t) (code_lines t) (length (code_lines t)) s.labels s.count s.closed

named_of : (room : ℕ) (t : List ℕ) (h : Heads) (s : Survey) → Headed t → BuffersFine room t h → CodeFine room t s → ((k : ℕ) → k < length (code_lines t) → FineNames (buffer_lines t) (code_lines t) k) → Named room t
named_of room t h s hd b c names = record { formed = record { headed = hd; buffers = b.fine; code = c.fine }; names = names }

-- the whole of the code is linked
closing-judged : (room : ℕ) (t : List ℕ) (h : Heads) (s : Survey) (rs : List Record) → Headed t → has_code (body t) ≡ true → BuffersFine room t h → CodeFine room t s → ((k : ℕ) → k < length (code_lines t) → FineNames (buffer_lines t) (code_lines t) k) → Judged room t (closing (length t) s rs)
closing-judged room t h s rs hd has b c names =
    let all = named_of room t h s hd b c names in
    cond_both s.closed (Ok rs) (Err (Unclosed (length t))) (λ (r : Result (List Record) ProgramFault). Judged room t r)
    (λ e. record { named = all; closed = closed-end (body t) has (c.ends.0 e) })
    (λ e. (all, open_end (body t) (λ x. both_ways _ e (c.ends.1 x)), refl))

then_judged : {X Y : Type 0} (room : ℕ) (t : List ℕ) (r : Result X ProgramFault) (f : X → Y) → Judged room t r → Judged room t (and_then r (λ x. Ok (f x)))
then_judged room t (Ok x) f h = h
then_judged room t (Err e) f h = h

links_judged : (room : ℕ) (t : List ℕ) (h : Heads) (s : Survey) (sc : Scoped (buffer_lines t) (code_lines t) (scope_of h.names h.records s)) → Headed t → has_code (body t) ≡ true → BuffersFine room t h → CodeFine room t s → (r : Result (List Record) ProgramFault) → SaysLinks (buffer_lines t) (code_lines t) (scope_of h.names h.records s) sc r → Judged room t (and_then r (λ rs. closing (length t) s rs))
links_judged room t h s sc hd has b c (Ok rs) names = closing-judged room t h s rs hd has b c names
links_judged room t h s sc hd has b c (Err f) first = at_names room t f (record { headed = hd; buffers = b.fine; code = c.fine }, first)

survey_judged : (room : ℕ) (t : List ℕ) (h : Heads) → Headed t → has_code (body t) ≡ true → BuffersFine room t h → (r : Result Survey ProgramFault) → code.SaysSurvey (code_room room t) (code_lines t) r → Judged room t (and_then r (λ s. and_then (link_from (scope_of h.names h.records s) [] (code_lines t)) (λ rs. closing (length t) s rs)))
survey_judged room t h hd has b (Err f) first = at_code room t f (hd, b.fine, first)
survey_judged room t h hd has b (Ok s) c =
    let sc : Scoped (buffer_lines t) (code_lines t) (scope_of h.names h.records s) = record { buffer-room = buffer_room room; code-room = code_room room t; closed = s.closed; buffers = b; code = c } in
    links_judged room t h s sc hd has b c _ (link_says (buffer_lines t) (code_lines t) (scope_of h.names h.records s) sc (code_lines t) 0 [] (omega arith) refl refl (λ i l. absurd (omega arith)))

code-start : (room : ℕ) (cs : List Fields) → code.Sofar room cs 0 [] 0 false
code-start room cs = record {
  count = refl;
  fine = λ i l. absurd (omega arith);
  entries = λ e l. absurd (omega arith);
  labels = λ j l. absurd (omega arith);
  ends = (λ e. absurd (both_ways _ refl e), λ h. absurd (omega (arith, h.0)));
}

code-judged : (room : ℕ) (t : List ℕ) (h : Heads) → Headed t → has_code (body t) ≡ true → BuffersFine room t h → Judged room t (code_of (room - length h.records) (length t) h.names h.records (code_lines t))
code-judged room t h hd has b =
    subst (λ n. Judged room t (code_of n (length t) h.names h.records (code_lines t))) (ap (λ n. room - n) (sym b.long))
    (survey_judged room t h hd has b _ (code.survey_says (code_lines t) (code_room room t) 0 (code_lines t) [] 0 false (omega arith) refl (code-start (code_room room t) (code_lines t))))

-- no line `code`, so no line after it
bare_judged : (room : ℕ) (t : List ℕ) (h : Heads) → Headed t → has_code (body t) ≡ false → BuffersFine room t h → Refused room t (Unclosed (length t))
bare_judged room t h hd has b =
    let empty : length (code_lines t) ≡ 0 = ap length (after_none (body t) has) in (
      record {
        formed = record { headed = hd; buffers = b.fine; code = λ k l. absurd (omega arith) };
        names = λ k l. absurd (omega arith);
      },
      no_code has,
      refl,
    )

heads-judged : (room : ℕ) (t : List ℕ) → Headed t → (r : Result Heads ProgramFault) → buffers.SaysBuffers (buffer_room room) (buffer_lines t) (body t) r → Judged room t (and_then r (λ h. coded room (length t) h h.code))
heads-judged room t hd (Err f) first = at-buffer room t f (hd, first)
heads-judged room t hd (Ok h) s =
    let goal : Option (List Fields) → Type 0 = λ c. Judged room t (coded room (length t) h c) in
    let program : List Record → Program = λ rs. record { buffers = h.records; instructions = rs } in
    ⊎_elim
    (λ has. subst goal (sym (s.1 ∙ cond-true (has_code (body t)) _ _ has)) (then_judged room t (code_of (room - length h.records) (length t) h.names h.records (code_lines t)) program (code-judged room t h hd has s.0)))
    (λ has. subst goal (sym (s.1 ∙ cond-false (has_code (body t)) _ _ has)) (bare_judged room t h hd has s.0))
    (cases_Bool (has_code (body t)))

buffers-start : (room : ℕ) (ds : List Fields) → buffers.Sofar room ds 0 [] []
buffers-start room ds = record {
  long-names = refl;
  long = refl;
  fine = λ i l. absurd (omega arith);
  names = λ i l. absurd (omega arith);
  modes = λ i l. absurd (omega arith);
}

body-judged : (room : ℕ) (t : List ℕ) → Headed t → Judged room t (body_of room (length t) (body t))
body-judged room t hd = heads-judged room t hd _ (buffers.buffers_say (body t) (buffer_room room) 0 (buffer_lines t) [] [] (omega arith) refl (buffers-start (buffer_room room) (buffer_lines t)))

program_judged : (room : ℕ) (t : List ℕ) → (Long t → ⊥) → NoneForeign t → (ls : List Fields) → filled_lines t ≡ ls → Judged room t (program_of room (length t) ls)
program_judged room t short fit [] e =
    let none : line_at (filled_lines t) 0 ≡ [] = ap (λ (x : List Fields). line_at x 0) e in
    (short, fit, λ h. let three = h.0 in let zero = ap length none in omega arith, sym (ap (heading_place (length t)) e))
program_judged room t short fit (l ∷ ls) e =
    let first : line_at (filled_lines t) 0 ≡ l = ap (λ (x : List Fields). line_at x 0) e in
    let rest : body t ≡ ls = ap (drop 1) e in
    let d = heading_decides l in
    cond_both (is_heading l) _ _ (Judged room t)
    (λ h. subst (λ x. Judged room t (body_of room (length t) x)) rest (body-judged room t (record { short = short; fit = fit; heading = subst IsHeading (sym first) (d.0 h) })))
    (λ h. (short, fit, λ x. both_ways _ h (d.1 (subst IsHeading first x)), sym (ap (heading_place (length t)) e)))

clean-judged : (room : ℕ) (t : List ℕ) → (Long t → ⊥) → (o : Option Place) → foreign t ≡ o → Judged room t (clean o (program_of room (length t) (filled_lines t)))
clean-judged room t short None e = program_judged room t short (foreign-none t 1 0 e) (filled_lines t) refl
clean-judged room t short (Some p) e = (short, first-foreign t p e)

judged : (room : ℕ) (t : List ℕ) → Judged room t (reading room t)
judged room t =
    cond_both (ltb 8192 (length t)) _ _ (Judged room t)
    (λ e. ltb-true 8192 (length t) e)
    (λ e. clean-judged room t (λ h. omega (arith, ltb-false 8192 (length t) e)) (foreign t) refl)

shape_judged : (room : ℕ) (t : List ℕ) (r : Result Program ProgramFault) → Judged room t r → Judged room t (shape_of r)
shape_judged room t (Ok p) h = h
shape_judged room t (Err f) h = h

pub told : (room : ℕ) (t : List ℕ) (r : Result Shape ProgramFault) → r ≡ shape_of (reading room t) → Judged room t r
told room t r e = subst (Judged room t) (sym e) (shape_judged room t (reading room t) (judged room t))

-- ── a cause speaks against the text ──

lines_blamed : (room : ℕ) (t : List ℕ) (f : ProgramFault) → Unblamed room t → AtBuffer room t f ⊎ AtCode room t f → ⊥
lines_blamed room t f u h =
    ⊎_elim
    (λ a. buffer-blamed _ _ a.1.line f a.1.there (u.named.formed.buffers a.1.line a.1.within))
    (λ a. code-blamed _ _ a.2.line f a.2.there (u.named.formed.code a.2.line a.2.within))
    h

links_blamed : (room : ℕ) (t : List ℕ) (f : ProgramFault) → Unblamed room t → AtNames room t f → ⊥
links_blamed room t f u a = names-blamed (buffer_room room) (buffer_lines t) (code_lines t) a.1.line f u.named.formed.buffers a.1.there (u.named.names a.1.line a.1.within)

blamed : (room : ℕ) (t : List ℕ) (f : ProgramFault) → Refused room t f → Unblamed room t → ⊥
blamed room t TooLong v u = u.named.formed.headed.short v
blamed room t (Line (Field (Character f))) v u = u.named.formed.headed.fit f.place.at v.1.0
blamed room t (Line (Heading p)) v u = v.2 u.named.formed.headed.heading
blamed room t (Line (Form p)) v u = lines_blamed room t (Line (Form p)) u v
blamed room t (Line (Field (WrongKind p))) v u = lines_blamed room t (Line (Field (WrongKind p))) u v
blamed room t (Repeated p) v u = lines_blamed room t (Repeated p) u v
blamed room t (Full p) v u = lines_blamed room t (Full p) u v
blamed room t (Unknown p) v u = links_blamed room t (Unknown p) u v
blamed room t (Backward p) v u = links_blamed room t (Backward p) u v
blamed room t (ReadOnly p) v u = links_blamed room t (ReadOnly p) u v
blamed room t (Unclosed n) v u = u.closed v.1

pub only : (room : ℕ) (t : List ℕ) (r : Result Shape ProgramFault) → Judged room t r → Unblamed room t → is_ok r ≡ true
only room t (Ok s) v u = refl
only room t (Err f) v u = absurd (blamed room t f v u)
