-- What is read is a rule.
use Rattle.std.proofs.Common.{◌≡◌, ℕ, zero, suc, ◌-◌, ◌<◌, ◌≤◌, min, true, false, not, ◌&&◌, ltb, leb, List, [], ◌∷◌, ◌++◌, length, get_or, drop, replicate, IfOk, Some, None, Ok, Err, Option, Result, sym, refl, ap, ◌∙◌, subst, append_assoc, append-nil, arith}
use Rattle.std.proofs.lemmas.List.{drop_at, get_or_append_left}
use Rattle.std.proofs.lemmas.Bool.{and_parts, and_from, both_ways, cond_both, cond-true, cond-false, le-leb, ltb-true}
use Rattle.lexer.specs.declared.place.Place.{Place}
use Rattle.lexer.specs.Foreign.{foreign}
use Rattle.lexer.specs.Lines.{filled_lines}
use Rattle.machine.specs.Tables.{buffer_count, filled_count, behind, code_length, writable_at}
use Rattle.machine.specs.Valid.{operand_ok, item_ok, code_ok, is_ret, heads_ok, blanks_ok, counts_ok, rest_ok, table_ok}
use Rattle.rule.specs.declared.record.Item.{Item}
use Rattle.rule.specs.declared.record.Item.TheVariants.{Blank, Buffer, Instruction}
use Rattle.rule.specs.declared.instruction.Instruction.TheVariants.{Mov, Alu, Load, Store, Jump, Branch, Ret}
use Rattle.rule.specs.declared.record.Record.{Record}
use Rattle.rule.specs.Records.{blank, is_buffer, is_blank, writable_in}
use Rattle.syntax.specs.Statements.{is_heading}
use Rattle.grammar.specs.declared.fault.ProgramFault.{ProgramFault}
use Rattle.grammar.specs.Names.{Entry}
use Rattle.grammar.specs.Reading.{Fields, Heads, Program, and_then, buffers_from, survey_from, link_from, scope_of, code_of, coded, body_of, program_of, clean, reading, table_of}
use Rattle.answer.proofs.Each.{Each}
use Rattle.answer.proofs.Heads.{FineHead, Buffered, buffers_made, buffers-front, heads_none, heads-front}
use Rattle.answer.proofs.Linked.{Ends, code_made}

-- ── a table of fit buffers, fit instructions and blanks ──

-- a fit instruction is neither a buffer nor blank
plain : (p : List Record) (n k : ℕ) (i : Item) → item_ok p n k i ≡ true → (is_buffer i ≡ false) × (is_blank i ≡ false)
plain p n k (Instruction (Mov t s)) e = (refl, refl)
plain p n k (Instruction (Alu op t s)) e = (refl, refl)
plain p n k (Instruction (Load w t b s)) e = (refl, refl)
plain p n k (Instruction (Store w b s t)) e = (refl, refl)
plain p n k (Instruction (Jump to)) e = (refl, refl)
plain p n k (Instruction (Branch c l s to)) e = (refl, refl)
plain p n k (Instruction Ret) e = (refl, refl)
plain p n k (Buffer size mode) e = absurd (both_ways false refl e)
plain p n k Blank e = absurd (both_ways false refl e)

no_buffer : (cs q : List Record) → 0 < length cs → is_buffer (get_or cs 0 blank).item ≡ false → (buffer_count (cs ++ q) ≡ 0) × (heads_ok (cs ++ q) ≡ true)
no_buffer [] q h e = absurd (omega arith)
no_buffer (c ∷ cs) q h e = (cond-false (is_buffer c.item) _ _ e, heads_none c (cs ++ q) e)

filled-blank : (m : ℕ) → filled_count (replicate m blank) ≡ 0
filled-blank zero = refl
filled-blank (suc m) = refl

filled-front : (cs : List Record) (m : ℕ) → ((j : ℕ) → j < length cs → is_blank (get_or cs j blank).item ≡ false) → filled_count (cs ++ replicate m blank) ≡ length cs
filled-front [] m h = filled-blank m
filled-front (c ∷ cs) m h =
    let more = filled-front cs m (λ j l. h (suc j) (omega arith)) in
    cond-true (not (is_blank c.item)) _ _ (ap not (h 0 (omega arith))) ∙ omega arith

blanks_fine : (m : ℕ) → blanks_ok (replicate m blank) ≡ true
blanks_fine zero = refl
blanks_fine (suc m) = blanks_fine m

code-fine : (p cs : List Record) (n k : ℕ) → ((j : ℕ) → j < k → item_ok p n j (get_or cs j blank).item ≡ true) → code_ok p cs n k ≡ true
unfolding code_ok
code-fine p cs n zero h = refl
code-fine p cs n (suc k) h = and_from (item_ok p n k (get_or cs k blank).item) (code_ok p cs n k) (h k (omega arith)) (code-fine p cs n k (λ j l. h j (omega arith)))

-- an instruction asks of a table only which buffers it has
item_same : (p q : List Record) (n k : ℕ) (i : Item) → buffer_count p ≡ buffer_count q → ((b : ℕ) → b < buffer_count q → writable_at p b ≡ writable_at q b) → item_ok q n k i ≡ true → item_ok p n k i ≡ true
item_same p q n k (Instruction (Mov t s)) e w h = h
item_same p q n k (Instruction (Alu op t s)) e w h = h
item_same p q n k (Instruction (Load w t b s)) e same h = ap (λ c. ltb t 8 && (ltb b c && operand_ok s)) e ∙ h
item_same p q n k (Instruction (Store w b s t)) e same h =
    let sink = (and_parts (ltb b (buffer_count q) && writable_at q b) (operand_ok s && ltb t 8) h).0 in
    let within = ltb-true b (buffer_count q) (and_parts (ltb b (buffer_count q)) (writable_at q b) sink).0 in
    ap (λ c. (ltb b c && writable_at p b) && (operand_ok s && ltb t 8)) e ∙ (ap (λ x. (ltb b (buffer_count q) && x) && (operand_ok s && ltb t 8)) (same b within) ∙ h)
item_same p q n k (Instruction (Jump to)) e w h = h
item_same p q n k (Instruction (Branch c l s to)) e w h = h
item_same p q n k (Instruction Ret) e w h = h
item_same p q n k (Buffer size mode) e w h = h
item_same p q n k Blank e w h = h

-- fit buffers alone are a table of just these
own-buffers : (bs : List Record) → Each FineHead bs → buffer_count bs ≡ length bs
own-buffers bs h = ap buffer_count (sym (append-nil bs)) ∙ buffers-front bs [] h refl

rule-fine : (bs cs : List Record) (m : ℕ) → length bs ≤ 8 → Each FineHead bs → length cs ≤ 96 → ((j : ℕ) → j < length cs → item_ok bs (length cs) j (get_or cs j blank).item ≡ true) → Ends cs
    → table_ok (bs ++ (cs ++ replicate m blank)) ≡ true
rule-fine bs cs m few heads short items ends =
    let q = cs ++ replicate m blank in
    let p = bs ++ q in
    let n = length cs in
    let first = no_buffer cs (replicate m blank) ends.0 (plain bs n 0 _ (items 0 ends.0)).0 in
    let buffers : buffer_count p ≡ length bs = buffers-front bs q heads first.0 in
    let own = own-buffers bs heads in
    let rest : behind p ≡ q = drop_at bs q (buffer_count p) (sym buffers) in
    let count : code_length p ≡ n = ap filled_count rest ∙ filled-front cs m (λ j l. (plain bs n j _ (items j l)).1) in
    let there : (b : ℕ) → b < buffer_count bs → writable_at p b ≡ writable_at bs b =
    λ b l. ap (λ (r : Record). writable_in r.item) (get_or_append_left bs q blank b (omega arith)) in
    let here : (j : ℕ) → j < n → get_or q j blank ≡ get_or cs j blank = λ j l. get_or_append_left cs (replicate m blank) blank j l in
    let fit : (j : ℕ) → j < n → item_ok p n j (get_or q j blank).item ≡ true =
    λ j l. ap (λ (r : Record). item_ok p n j r.item) (here j l) ∙ item_same p bs n j (get_or cs j blank).item (buffers ∙ sym own) there (items j l) in
    let last : is_ret (get_or q (n - 1) blank).item ≡ true = ap (λ (r : Record). is_ret r.item) (here (n - 1) (omega (arith, ends.0))) ∙ ends.1 in
    let counts : counts_ok (length bs) n ≡ true = and_from (leb (length bs) 8) _ (le-leb _ _ few) (and_from (leb 1 n) (leb n 96) (le-leb 1 n (omega (arith, ends.0))) (le-leb n 96 short)) in
    let blanks : blanks_ok (drop n q) ≡ true = ap blanks_ok (drop_at cs (replicate m blank) n refl) ∙ blanks_fine m in
    let whole : rest_ok p q n ≡ true =
    and_from (heads_ok p && blanks_ok (drop n q)) _ (and_from (heads_ok p) _ (heads-front bs q heads first.1) blanks) (and_from (code_ok p q n n) _ (code-fine p q n n fit) last) in
    ap (λ c. counts_ok (buffer_count p) c && rest_ok p (behind p) c) count
    ∙ (ap (λ b. counts_ok b n && rest_ok p (behind p) n) buffers
    ∙ (ap (λ r. counts_ok (length bs) n && rest_ok p r n) rest
    ∙ and_from _ _ counts whole))

-- ── a reading ──

abbrev pub IsRule : ℕ → Program → Type 0
IsRule room p = table_ok (table_of room (Ok p)) ≡ true

then_made : {X Y : Type 0} (Q : Y → Type 0) (r : Result X ProgramFault) (f : X → Result Y ProgramFault) → ((x : X) → r ≡ Ok x → IfOk (f x) Q) → IfOk (and_then r f) Q
then_made Q (Ok x) f g = g x refl
then_made Q (Err e) f g = tt

made_of : {X : Type 0} (P : X → Type 0) (r : Result X ProgramFault) (x : X) → IfOk r P → r ≡ Ok x → P x
made_of P r x h e = subst (λ (r : Result _ ProgramFault). IfOk r P) e h

-- the instructions behind these buffers make a rule with them
abbrev Completes : List Record → List Record → Type 0
Completes bs cs = (m : ℕ) → table_ok (bs ++ (cs ++ replicate m blank)) ≡ true

code-completes : (cap room end : ℕ) (ns : List Entry) (bs : List Record) (ls : List Fields) → cap ≤ 8 → Buffered cap ns bs → IfOk (code_of room end ns bs ls) (Completes bs)
code-completes cap room end ns bs ls few b =
    then_made (Completes bs) (survey_from (min 96 room) [] 0 false ls) _
    (λ s a. then_made (Completes bs) (link_from (scope_of ns bs s) [] ls) _
    (λ cs l. cond_both s.closed (Ok cs) _ (λ (r : Result (List Record) ProgramFault). IfOk r (Completes bs))
    (λ closed m.
    let c = code_made (scope_of ns bs s) (record { names = b.names; heads = own-buffers bs b.heads }) (min 96 room) s cs ls a l in
    rule-fine bs cs m (omega (arith, b.few)) b.heads (omega (arith, c.long, c.few))
    (subst (λ n. (j : ℕ) → j < length cs → item_ok bs n j (get_or cs j blank).item ≡ true) (sym c.long) c.items)
    (c.ends closed))
    (λ _. tt)))

coded_made : (room end : ℕ) (h : Heads) (o : Option (List Fields)) → Buffered (min 8 room) h.names h.records → IfOk (coded room end h o) (IsRule room)
coded_made room end h None b = tt
coded_made room end h (Some ls) b =
    let bs = h.records in
    then_made (IsRule room) (code_of (room - length bs) end h.names bs ls) _
    (λ cs e. ap table_ok (append_assoc bs cs _) ∙ made_of (Completes bs) _ cs (code-completes (min 8 room) (room - length bs) end h.names bs ls (omega arith) b) e _)

program_made : (room end : ℕ) (ls : List Fields) → IfOk (program_of room end ls) (IsRule room)
program_made room end [] = tt
program_made room end (l ∷ ls) =
    cond_both (is_heading l) (body_of room end ls) _ (λ (r : Result Program ProgramFault). IfOk r (IsRule room))
    (λ _. then_made (IsRule room) (buffers_from (min 8 room) [] [] ls) _
    (λ h e. coded_made room end h h.code (made_of _ _ h (buffers_made (min 8 room) ls) e)))
    (λ _. tt)

clean_made : (room : ℕ) (o : Option Place) (r : Result Program ProgramFault) → IfOk r (IsRule room) → IfOk (clean o r) (IsRule room)
clean_made room None r h = h
clean_made room (Some p) r h = tt

pub reading_made : (room : ℕ) (t : List ℕ) → IfOk (reading room t) (IsRule room)
reading_made room t =
    cond_both (ltb 8192 (length t)) _ _ (λ (r : Result Program ProgramFault). IfOk r (IsRule room)) (λ _. tt)
    (λ _. clean_made room (foreign t) _ (program_made room (length t) (filled_lines t)))
