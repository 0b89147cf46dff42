-- What is wrong with a line speaks against its being fine.
use Rattle.std.proofs.Common.{◌≡◌, ℕ, ◌<◌, true, List, [], ◌∷◌, length, drop, codes, sym, ap, ◌∙◌, ⊎_elim, arith}
use Rattle.std.proofs.lemmas.Bool.{both_ways, cases_order}
use Rattle.lexer.specs.declared.place.Place.{Place}
use Rattle.lexer.specs.declared.fault.FieldFault.TheVariants.{Character, Kind as WrongKind}
use Rattle.lexer.specs.Lines.{Piece}
use Rattle.syntax.specs.declared.fault.LineFault.TheVariants.{Field, Heading, Form}
use Rattle.syntax.specs.declared.mnemonic.Mnemonic.{Mnemonic}
use Rattle.grammar.specs.declared.fault.ProgramFault.{ProgramFault}
use Rattle.grammar.specs.declared.fault.ProgramFault.TheVariants.{Line, TooLong, Repeated, Full, Unknown, Backward, ReadOnly, Unclosed}
use Rattle.grammar.specs.Causes.{field_at, line_at, is_label, label_name, HasForm, FineBuffer, WrongBuffer, FineLabel, FineInstruction, FineCode, WrongLabel, WrongInstruction, WrongCode, FineNames, WrongNames}
use Rattle.grammar.specs.Kinds.{Kind, mode, Fits, AllFit, Misfit, buffer_kinds, kinds_of}
use Rattle.grammar.specs.Reading.{Fields}
use Rattle.grammar.proofs.Lines.{fit-long}
use Rattle.grammar.proofs.Spellings.{word-found, same_mnemonic}

pub misfit_blamed : (ks : List Kind) (ps : List Piece) (p : Place) → Misfit ks ps p → AllFit ks ps → ⊥
misfit_blamed [] ps p m a = m
misfit_blamed (k ∷ ks) [] p m a = m
misfit_blamed (k ∷ ks) (q ∷ ps) p m a = ⊎_elim (λ h. h.0 a.0) (λ h. misfit_blamed ks ps p h.1 a.1) m

pub buffer-blamed : (room : ℕ) (ds : List Fields) (k : ℕ) (f : ProgramFault) → WrongBuffer room ds k f → FineBuffer room ds k → ⊥
buffer-blamed room ds k (Line (Form p)) w h = w.0 (fit-long buffer_kinds (line_at ds k) h.form)
buffer-blamed room ds k (Line (Field (WrongKind p))) w h = misfit_blamed buffer_kinds (line_at ds k) p w.1 h.form
buffer-blamed room ds k (Repeated p) w h = h.new w.1
buffer-blamed room ds k (Full p) w h = h.fits w.2
buffer-blamed room ds k (Line (Field (Character f))) w h = w
buffer-blamed room ds k (Line (Heading p)) w h = w
buffer-blamed room ds k TooLong w h = w
buffer-blamed room ds k (Unknown p) w h = w
buffer-blamed room ds k (Backward p) w h = w
buffer-blamed room ds k (ReadOnly p) w h = w
buffer-blamed room ds k (Unclosed n) w h = w

label-blamed : (cs : List Fields) (k : ℕ) (f : ProgramFault) → WrongLabel cs k f → FineLabel cs k → ⊥
label-blamed cs k (Line (Field (WrongKind p))) w h = both_ways _ w.0 h.form
label-blamed cs k (Repeated p) w h = h.new w.1
label-blamed cs k (Line (Form p)) w h = w
label-blamed cs k (Full p) w h = w
label-blamed cs k (Line (Field (Character f))) w h = w
label-blamed cs k (Line (Heading p)) w h = w
label-blamed cs k TooLong w h = w
label-blamed cs k (Unknown p) w h = w
label-blamed cs k (Backward p) w h = w
label-blamed cs k (ReadOnly p) w h = w
label-blamed cs k (Unclosed n) w h = w

-- a line has one mnemonic at most
one_form : (l : Fields) (m n : Mnemonic) → HasForm m l → HasForm n l → m ≡ n
one_form l m n a b = same_mnemonic _ m n (word-found m (field_at l 0).bytes a.0) (word-found n (field_at l 0).bytes b.0)

instruction-blamed : (room : ℕ) (cs : List Fields) (k : ℕ) (f : ProgramFault) → WrongInstruction room cs k f → FineInstruction room cs k → ⊥
instruction-blamed room cs k (Line (Form p)) w h = w.0 h.form.0 h.form.1
instruction-blamed room cs k (Line (Field (WrongKind p))) w h =
    let same = one_form (line_at cs k) h.form.0 w.0 h.form.1 w.1 in
    misfit_blamed (kinds_of w.0) (drop 1 (line_at cs k)) p w.2 (rw same at h.form.2)
instruction-blamed room cs k (Full p) w h = h.fits w.1
instruction-blamed room cs k (Repeated p) w h = w
instruction-blamed room cs k (Line (Field (Character f))) w h = w
instruction-blamed room cs k (Line (Heading p)) w h = w
instruction-blamed room cs k TooLong w h = w
instruction-blamed room cs k (Unknown p) w h = w
instruction-blamed room cs k (Backward p) w h = w
instruction-blamed room cs k (ReadOnly p) w h = w
instruction-blamed room cs k (Unclosed n) w h = w

pub code-blamed : (room : ℕ) (cs : List Fields) (k : ℕ) (f : ProgramFault) → WrongCode room cs k f → FineCode room cs k → ⊥
code-blamed room cs k f w h =
    ⊎_elim
    (λ a. ⊎_elim (λ b. label-blamed cs k f a.1 b.1) (λ b. both_ways _ b.0 a.0) h)
    (λ a. ⊎_elim (λ b. both_ways _ a.0 b.0) (λ b. instruction-blamed room cs k f a.1 b.1) h)
    w

-- ── one buffer and one label of a name ──

pub one-buffer : (room : ℕ) (ds : List Fields) → ((k : ℕ) → k < length ds → FineBuffer room ds k) → (i j : ℕ) → i < length ds → j < length ds → (field_at (line_at ds i) 0).bytes ≡ (field_at (line_at ds j) 0).bytes → i ≡ j
one-buffer room ds fine i j a b e =
    ⊎_elim (λ s. s)
    (⊎_elim (λ l. absurd ((fine j b).new (i, l, e))) (λ l. absurd ((fine i a).new (j, l, sym e))))
    (cases_order i j)

fine-label : (room : ℕ) (cs : List Fields) (k : ℕ) → FineCode room cs k → is_label (line_at cs k) ≡ true → FineLabel cs k
fine-label room cs k h is = ⊎_elim (λ a. a.1) (λ a. absurd (both_ways _ a.0 is)) h

pub one_label : (room : ℕ) (cs : List Fields) → ((k : ℕ) → k < length cs → FineCode room cs k) → (i j : ℕ) → i < length cs → j < length cs → is_label (line_at cs i) ≡ true → is_label (line_at cs j) ≡ true → label_name (line_at cs i) ≡ label_name (line_at cs j) → i ≡ j
one_label room cs fine i j a b x y e =
    ⊎_elim (λ s. s)
    (⊎_elim (λ l. absurd ((fine-label room cs j (fine j b) y).new (i, l, x, e))) (λ l. absurd ((fine-label room cs i (fine i a) x).new (j, l, y, sym e))))
    (cases_order i j)

pub mode-fits : (l : Fields) → AllFit buffer_kinds l → Fits mode (field_at l 2).bytes
mode-fits [] h = absurd h
mode-fits (a ∷ []) h = absurd h.1
mode-fits (a ∷ b ∷ []) h = absurd h.1.1
mode-fits (a ∷ b ∷ c ∷ l) h = h.1.1.0

-- a buffer is not both read-only and writable
ro_rw : (bs : List ℕ) → bs ≡ codes "ro" → bs ≡ codes "rw" → ⊥
ro_rw bs a b = let same : codes "ro" ≡ codes "rw" = sym a ∙ b in let z : ◌≡◌ {A = ℕ} 111 119 = cc in omega arith

pub names-blamed : (room : ℕ) (ds cs : List Fields) (k : ℕ) (f : ProgramFault) → ((i : ℕ) → i < length ds → FineBuffer room ds i) → WrongNames ds cs k f → FineNames ds cs k → ⊥
names-blamed room ds cs k (Unknown p) fine w h =
    ⊎_elim
    (λ a. ⊎_elim (λ l. let d = h.loads a.0 l in a.2 d.0 d.1) (λ s. let d = h.stores a.0 s in a.2 d.0 d.1) a.1)
    (λ a. let d = h.jumps a.0 a.1 in a.2 d.0 d.1)
    w
names-blamed room ds cs k (Backward p) fine w h = let d = h.jumps w.0 w.1 in w.3 d.0 d.1 d.2
names-blamed room ds cs k (ReadOnly p) fine w h =
    let d = h.stores w.0 w.1 in
    let r = w.2 in
    let same = one-buffer room ds fine r.0 d.0 r.1.0 d.1.0 (r.1.1 ∙ sym d.1.1) in
    ro_rw _ r.2 (ap (λ i. (field_at (line_at ds i) 2).bytes) same ∙ d.2)
names-blamed room ds cs k (Line f) fine w h = w
names-blamed room ds cs k TooLong fine w h = w
names-blamed room ds cs k (Repeated p) fine w h = w
names-blamed room ds cs k (Full p) fine w h = w
names-blamed room ds cs k (Unclosed n) fine w h = w
