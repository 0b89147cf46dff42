-- The lines before `code`, one by one.
use Rattle.std.proofs.Common.{◌≡◌, ℕ, ◌+◌, ◌<◌, ◌≤◌, Bool, true, false, cond, ◌||◌, leb, ◌⊎◌, List, [], ◌∷◌, ◌++◌, length, get_or, drop, Some, None, Ok, Err, codes, Decides, Option, Result, sym, refl, ap, ◌∙◌, subst, inl, inr, ⊎_elim, arith, length-drop, below_more}
use Rattle.std.proofs.lemmas.Slice.Eq.{bytes_eq-Decides}
use Rattle.std.proofs.lemmas.List.{drop_more, length_push, get_or_append_left, get_or_push}
use Rattle.std.proofs.lemmas.Bool.{cond-true, cond-false, cases_Bool, or_left, cond_both, both_ways, leb-true, leb-false}
use Rattle.std.specs.Str.{bytes_eq}
use Rattle.lexer.specs.declared.place.Place.{Place}
use Rattle.lexer.specs.declared.fault.FieldFault.{FieldFault}
use Rattle.lexer.specs.declared.fault.FieldFault.TheVariants.{Character, Kind as WrongKind}
use Rattle.lexer.specs.Characters.{is_name}
use Rattle.lexer.specs.Fields.{or_kind, named_in}
use Rattle.lexer.specs.Lines.{Piece}
use Rattle.rule.specs.declared.record.Mode.{Mode}
use Rattle.rule.specs.declared.record.Mode.TheVariants.{ReadOnly as ForReading, ReadWrite as ForWriting}
use Rattle.rule.specs.declared.record.Item.TheVariants.{Buffer as IsBuffer}
use Rattle.rule.specs.declared.record.Record.{Record}
use Rattle.rule.specs.Records.{blank, writable_in}
use Rattle.syntax.specs.declared.fault.LineFault.{LineFault}
use Rattle.syntax.specs.declared.fault.LineFault.TheVariants.{Field, Heading, Form}
use Rattle.syntax.specs.declared.statement.Header.{Header}
use Rattle.syntax.specs.declared.statement.Header.TheVariants.{Code, Buffer}
use Rattle.syntax.specs.Operands.{size_of, mode_of}
use Rattle.syntax.specs.Statements.{and_then, three, buffer_of, is_code, header_of}
use Rattle.grammar.specs.declared.fault.ProgramFault.{ProgramFault}
use Rattle.grammar.specs.Causes.{field_at, line_at, before, after, has_code, SameBuffer, FineBuffer, WrongBuffer, First}
use Rattle.grammar.specs.Kinds.{buffer_kinds}
use Rattle.grammar.specs.Names.{Entry, is_known}
use Rattle.grammar.specs.Reading.{Fields, Heads, first_place, entry, record_at, headed, buffers_from}
use Rattle.grammar.proofs.Forms.{SaysLine, buffer_says}
use Rattle.grammar.proofs.Lookups.{no_entry, known_some, unknown-none}

-- ── one line ──

-- a buffer's name is its first field, and a rule may store into it where its third is `rw`
abbrev Declared : Fields → Piece → Mode → Type 0
Declared l n m = (n ≡ field_at l 0) × (((m ≡ ForWriting) × ((field_at l 2).bytes ≡ codes "rw")) ⊎ ((m ≡ ForReading) × ((field_at l 2).bytes ≡ codes "ro")))

pub then_ok : {X Y : Type 0} (r : Result X FieldFault) (f : X → Result Y LineFault) (y : Y) → and_then r f ≡ Ok y → (x : X) × (r ≡ Ok x) × (f x ≡ Ok y)
then_ok (Ok x) f y e = (x, refl, e)
then_ok (Err g) f y e = let z : ◌≡◌ {A = ℕ} 0 1 = cc in absurd (omega arith)

pub name-own : (p n : Piece) → named_in p ≡ Ok n → n ≡ p
name-own p n e =
    ⊎_elim
    (λ h. let same : ◌≡◌ {A = Result Piece FieldFault} (Ok p) (Ok n) = sym (cond-true (is_name p.bytes) _ _ h) ∙ e in cc)
    (λ h. let same : ◌≡◌ {A = Result Piece FieldFault} (Err (WrongKind p.place)) (Ok n) = sym (cond-false (is_name p.bytes) _ _ h) ∙ e in let z : ◌≡◌ {A = ℕ} 0 1 = cc in absurd (omega arith))
    (cases_Bool (is_name p.bytes))

mode-own : (p : Piece) (m : Mode) → mode_of p ≡ Ok m → ((m ≡ ForWriting) × (p.bytes ≡ codes "rw")) ⊎ ((m ≡ ForReading) × (p.bytes ≡ codes "ro"))
mode-own p m e =
    let says : Option Mode → Result Mode FieldFault = λ o. or_kind o p.place in
    ⊎_elim
    (λ h. let same : says (Some ForReading) ≡ Ok m = ap says (sym (cond-true (bytes_eq p.bytes (codes "ro")) _ _ h)) ∙ e in inr (cc, (bytes_eq-Decides p.bytes (codes "ro")).0 h))
    (λ h. ⊎_elim
    (λ g. let same : says (Some ForWriting) ≡ Ok m = ap says (sym (cond-false (bytes_eq p.bytes (codes "ro")) _ _ h ∙ cond-true (bytes_eq p.bytes (codes "rw")) _ _ g)) ∙ e in inl (cc, (bytes_eq-Decides p.bytes (codes "rw")).0 g))
    (λ g. let same : says None ≡ Ok m = ap says (sym (cond-false (bytes_eq p.bytes (codes "ro")) _ _ h ∙ cond-false (bytes_eq p.bytes (codes "rw")) _ _ g)) ∙ e in let z : ◌≡◌ {A = ℕ} 0 1 = cc in absurd (omega arith))
    (cases_Bool (bytes_eq p.bytes (codes "rw"))))
    (cases_Bool (bytes_eq p.bytes (codes "ro")))

abbrev Said : Type 0
Said = Result (Header Piece) LineFault

result_same : (x y : Header Piece) → ◌≡◌ {A = Said} (Ok x) (Ok y) → x ≡ y
result_same x y e = cc

three-own : (a b c n : Piece) (s : ℕ) (m : Mode) → buffer_of a b c ≡ Ok (Buffer n s m) → Declared (a ∷ b ∷ c ∷ []) n m
three-own a b c n s m e =
    let x = then_ok (named_in a) _ _ e in
    let y = then_ok (size_of b) _ _ x.2 in
    let z = then_ok (mode_of c) _ _ y.2 in
    let same : Buffer x.0 y.0 z.0 ≡ Buffer n s m = result_same _ _ z.2 in
    let named : x.0 ≡ n = cc in
    let moded : z.0 ≡ m = cc in
    (sym named ∙ name-own a x.0 x.1, mode-own c m (z.1 ∙ ap Ok moded))

no_form : (p : Place) (h : Header Piece) → ◌≡◌ {A = Said} (Err (Form p)) (Ok h) → ⊥
no_form p h e = let z : ◌≡◌ {A = ℕ} 0 1 = cc in omega arith

own : (at : Place) (l : Fields) (n : Piece) (s : ℕ) (m : Mode) → three buffer_of (Err (Form at)) l ≡ Ok (Buffer n s m) → Declared l n m
own at [] n s m e = absurd (no_form at _ e)
own at (a ∷ []) n s m e = absurd (no_form at _ e)
own at (a ∷ b ∷ []) n s m e = absurd (no_form at _ e)
own at (a ∷ b ∷ c ∷ []) n s m e = three-own a b c n s m e
own at (a ∷ b ∷ c ∷ d ∷ l) n s m e = absurd (no_form at _ e)

-- ── line by line ──

-- the first k lines are fine, and these are their names and records
pub record Sofar (room : ℕ) (ds : List Fields) (k : ℕ) (ns : List Entry) (rs : List Record) : Type 0 where
  pub long-names : length ns ≡ k
  pub long : length rs ≡ k
  pub fine : (i : ℕ) → i < k → FineBuffer room ds i
  pub names : (i : ℕ) → i < k → get_or ns i no_entry ≡ record { name = (field_at (line_at ds i) 0).bytes; number = i }
  pub modes : (i : ℕ) → i < k → Decides (writable_in (get_or rs i blank).item) ((field_at (line_at ds i) 2).bytes ≡ codes "rw")

-- what the lines ls, which come after the first k of ds, say
abbrev pub SaysBuffers : ℕ → List Fields → List Fields → Result Heads ProgramFault → Type 0
SaysBuffers room ds ls (Ok h) = Sofar room ds (length ds) h.names h.records × (h.code ≡ cond (has_code ls) (Some (after ls)) None)
SaysBuffers room ds ls (Err f) = First (FineBuffer room ds) (λ k. WrongBuffer room ds k f) ds

-- line k is l, of the lines ds
pub record Here (ds : List Fields) (k : ℕ) (l : Fields) : Type 0 where
  pub within : k < length ds
  pub is : line_at ds k ≡ l

first-place : (l : Fields) → first_place l ≡ (field_at l 0).place
first-place [] = refl
first-place (p ∷ ps) = refl

apart : codes "ro" ≡ codes "rw" → ⊥
apart e = let z : ◌≡◌ {A = ℕ} 111 119 = cc in omega arith

writable_decides : (l : Fields) (at : Place) (s : ℕ) (n : Piece) (m : Mode) → Declared l n m → Decides (writable_in (record_at at (IsBuffer s m)).item) ((field_at l 2).bytes ≡ codes "rw")
writable_decides l at s n m d =
    ⊎_elim
    (λ h. (λ e. h.1, λ e. ap (λ x. writable_in (IsBuffer s x)) h.0))
    (λ h. (λ e. absurd (both_ways _ (ap (λ x. writable_in (IsBuffer s x)) h.0) e), λ e. absurd (apart (sym h.1 ∙ e))))
    d.1

-- one buffer more
one_more : (room : ℕ) (ds : List Fields) (k : ℕ) (ns : List Entry) (rs : List Record) (n : Piece) (s : ℕ) (m : Mode) → Sofar room ds k ns rs → FineBuffer room ds k → Declared (line_at ds k) n m → Sofar room ds (k + 1) (ns ++ entry n (length rs) ∷ []) (rs ++ record_at (first_place (line_at ds k)) (IsBuffer s m) ∷ [])
one_more room ds k ns rs n s m so fine d =
    let made = record_at (first_place (line_at ds k)) (IsBuffer s m) in
    let named : entry n (length rs) ≡ record { name = (field_at (line_at ds k) 0).bytes; number = k } = ap (λ i. entry n i) so.long ∙ ap (λ p. entry p k) d.0 in
    record {
      long-names = length_push ns (entry n (length rs)) ∙ ap (λ i. i + 1) so.long-names;
      long = length_push rs made ∙ ap (λ i. i + 1) so.long;
      fine = below_more _ _ so.fine fine;
      names = below_more _ _ (λ i l. get_or_append_left ns (entry n (length rs) ∷ []) no_entry i (omega (arith, so.long-names)) ∙ so.names i l) (get_or_push ns (entry n (length rs)) no_entry k so.long-names ∙ named);
      modes = below_more _ _
          (λ i l. subst (λ (r : Record). Decides (writable_in r.item) ((field_at (line_at ds i) 2).bytes ≡ codes "rw")) (sym (get_or_append_left rs (made ∷ []) blank i (omega (arith, so.long)))) (so.modes i l))
          (subst (λ (r : Record). Decides (writable_in r.item) ((field_at (line_at ds k) 2).bytes ≡ codes "rw")) (sym (get_or_push rs made blank k so.long)) (writable_decides (line_at ds k) (first_place (line_at ds k)) s n m d));
    }

same_known : (room : ℕ) (ds : List Fields) (k : ℕ) (ns : List Entry) (rs : List Record) (n : Piece) → Sofar room ds k ns rs → n ≡ field_at (line_at ds k) 0 → is_known ns n.bytes ≡ true → SameBuffer ds k
same_known room ds k ns rs n so is e =
    let h = known_some ns n.bytes e in
    let l : h.0 < k = omega (arith, h.1.0, so.long-names) in
    (h.0, l, ap (λ (x : Entry). x.name) (sym (so.names h.0 l)) ∙ h.1.1 ∙ ap (λ (p : Piece). p.bytes) is)

not_same : (room : ℕ) (ds : List Fields) (k : ℕ) (ns : List Entry) (rs : List Record) (n : Piece) → Sofar room ds k ns rs → n ≡ field_at (line_at ds k) 0 → is_known ns n.bytes ≡ false → SameBuffer ds k → ⊥
not_same room ds k ns rs n so is e h = unknown-none ns n.bytes e h.0 (omega (arith, h.1, so.long-names), ap (λ (x : Entry). x.name) (so.names h.0 h.1) ∙ h.2 ∙ ap (λ (p : Piece). p.bytes) (sym is))

not_code : (at : Place) (l : Fields) → three buffer_of (Err (Form at)) l ≡ Ok Code → ⊥
not_code at [] e = no_form at _ e
not_code at (a ∷ []) e = no_form at _ e
not_code at (a ∷ b ∷ []) e = no_form at _ e
not_code at (a ∷ b ∷ c ∷ []) e =
    let x = then_ok (named_in a) _ _ e in
    let y = then_ok (size_of b) _ _ x.2 in
    let z = then_ok (mode_of c) _ _ y.2 in
    let same : Buffer x.0 y.0 z.0 ≡ Code = result_same _ _ z.2 in
    let q : ◌≡◌ {A = ℕ} 0 1 = cc in
    omega arith
not_code at (a ∷ b ∷ c ∷ d ∷ l) e = no_form at _ e

line_says : (room : ℕ) (ds ls rest : List Fields) (k : ℕ) (ns : List Entry) (rs : List Record) (next : List Entry → List Record → Result Heads ProgramFault) → k < length ds → Sofar room ds k ns rs → ((n : Piece) (s : ℕ) (m : Mode) → Sofar room ds (k + 1) (ns ++ entry n (length rs) ∷ []) (rs ++ record_at (first_place (line_at ds k)) (IsBuffer s m) ∷ []) → SaysBuffers room ds ls (next (ns ++ entry n (length rs) ∷ []) (rs ++ record_at (first_place (line_at ds k)) (IsBuffer s m) ∷ []))) → (h : Said) → h ≡ three buffer_of (Err (Form (first_place (line_at ds k)))) (line_at ds k) → SaysLine (first_place (line_at ds k)) buffer_kinds (line_at ds k) h → SaysBuffers room ds ls (headed room ns rs (first_place (line_at ds k)) rest next h)
line_says room ds ls rest k ns rs next l so go (Err (Form p)) e v = record { line = k; within = l; before_it = so.fine; there = v }
line_says room ds ls rest k ns rs next l so go (Err (Field (WrongKind p))) e v = record { line = k; within = l; before_it = so.fine; there = v }
line_says room ds ls rest k ns rs next l so go (Err (Field (Character f))) e v = absurd v
line_says room ds ls rest k ns rs next l so go (Err (Heading p)) e v = absurd v
line_says room ds ls rest k ns rs next l so go (Ok Code) e v = absurd (not_code (first_place (line_at ds k)) (line_at ds k) (sym e))
line_says room ds ls rest k ns rs next l so go (Ok (Buffer n s m)) e v =
    let d = own (first_place (line_at ds k)) (line_at ds k) n s m (sym e) in
    let at : n.place ≡ first_place (line_at ds k) = ap (λ (p : Piece). p.place) d.0 ∙ sym (first-place (line_at ds k)) in
    cond_both (is_known ns n.bytes) _ _ (SaysBuffers room ds ls)
    (λ known. record { line = k; within = l; before_it = so.fine; there = (v, same_known room ds k ns rs n so d.0 known, at) })
    (λ new. cond_both (leb room (length rs)) _ _ (SaysBuffers room ds ls)
    (λ full. record { line = k; within = l; before_it = so.fine; there = (v, not_same room ds k ns rs n so d.0 new, omega (arith, leb-true _ _ full, so.long), refl) })
    (λ free. go n s m (one_more room ds k ns rs n s m so (record { form = v; new = not_same room ds k ns rs n so d.0 new; fits = λ x. omega (arith, leb-false _ _ free, so.long) }) d)))

-- what follows a list's first element
pub cons_tail : (l : Fields) (ls ms : List Fields) (k : ℕ) → l ∷ ls ≡ drop k ms → (k < length ms) × (line_at ms k ≡ l) × (ls ≡ drop (k + 1) ms)
cons_tail l ls ms k e =
    let some : k < length ms = omega (arith, ap length e, length-drop k ms) in
    let cut : l ∷ ls ≡ line_at ms k ∷ drop (k + 1) ms = e ∙ drop_more ms k [] some in
    (some, ap (λ (x : List Fields). get_or x 0 []) (sym cut), ap (drop 1) cut)

pub nil_end : (ms : List Fields) (k : ℕ) → [] ≡ drop k ms → length ms ≤ k
nil_end ms k e = omega (arith, ap length e, length-drop k ms)

-- no line is left, so the first k are all
pub all_there : (room : ℕ) (ds : List Fields) (k : ℕ) (ns : List Entry) (rs : List Record) → k ≤ length ds → length ds ≤ k → Sofar room ds k ns rs → Sofar room ds (length ds) ns rs
all_there room ds k ns rs a b so = let e : k ≡ length ds = omega arith in subst (λ i. Sofar room ds i ns rs) e so

or_false : (x y : Bool) → x ≡ false → (x || y) ≡ y
or_false false y e = refl
or_false true y e = absurd (both_ways true e refl)

-- a line other than `code` leaves what comes after `code`
buffers-later : (room : ℕ) (ds rest : List Fields) (l : Fields) → is_code l ≡ false → (h : Result Heads ProgramFault) → SaysBuffers room ds rest h → SaysBuffers room ds (l ∷ rest) h
buffers-later room ds rest l plain (Ok h) s =
    let same : cond (has_code rest) (Some (after rest)) None ≡ cond (has_code (l ∷ rest)) (Some (after (l ∷ rest))) None = ap (λ b. cond b (Some (after rest)) None) (sym (or_false (is_code l) (has_code rest) plain)) ∙ ap (λ x. cond (has_code (l ∷ rest)) (Some x) None) (sym (cond-false (is_code l) _ _ plain)) in
    (s.0, s.1 ∙ same)
buffers-later room ds rest l plain (Err f) s = s

pub buffers_say : (ls : List Fields) (room k : ℕ) (ds : List Fields) (ns : List Entry) (rs : List Record) → k ≤ length ds → before ls ≡ drop k ds → Sofar room ds k ns rs → SaysBuffers room ds ls (buffers_from room ns rs ls)
buffers_say [] room k ds ns rs le e so = (all_there room ds k ns rs le (nil_end ds k e) so, refl)
buffers_say (l ∷ rest) room k ds ns rs le e so =
    ⊎_elim
    (λ code.
    let none : [] ≡ drop k ds = sym (cond-true (is_code l) _ _ code) ∙ e in
    let is : buffers_from room ns rs (l ∷ rest) ≡ Ok (record { names = ns; records = rs; code = Some rest }) = ap (headed room ns rs (first_place l) rest (λ ns' rs'. buffers_from room ns' rs' rest)) (cond-true (is_code l) _ _ code) in
    let come : cond (has_code (l ∷ rest)) (Some (after (l ∷ rest))) None ≡ Some rest = cond-true (is_code l || has_code rest) _ _ (or_left (is_code l) (has_code rest) code) ∙ ap Some (cond-true (is_code l) _ _ code) in
    subst (SaysBuffers room ds (l ∷ rest)) (sym is) (all_there room ds k ns rs le (nil_end ds k none) so, sym come))
    (λ plain.
    let here : l ∷ before rest ≡ drop k ds = sym (cond-false (is_code l) _ _ plain) ∙ e in
    let cut = cons_tail l (before rest) ds k here in
    let next : List Entry → List Record → Result Heads ProgramFault = λ ns' rs'. buffers_from room ns' rs' rest in
    let x = line_at ds k in
    let not-it : is_code x ≡ false = ap is_code cut.1 ∙ plain in
    let goal : Fields → Type 0 = λ y. SaysBuffers room ds (l ∷ rest) (headed room ns rs (first_place y) rest next (header_of (first_place y) y)) in
    let at-three : Said → Type 0 = λ h. SaysBuffers room ds (l ∷ rest) (headed room ns rs (first_place x) rest next h) in
    subst goal cut.1
    (subst at-three (sym (cond-false (is_code x) _ _ not-it))
    (line_says room ds (l ∷ rest) rest k ns rs next cut.0 so
    (λ n s m so'. buffers-later room ds rest l plain _ (buffers_say rest room (k + 1) ds _ _ (omega (arith, cut.0)) cut.2 so'))
    (three buffer_of (Err (Form (first_place x))) x) refl (buffer_says (first_place x) x))))
    (cases_Bool (is_code l))
