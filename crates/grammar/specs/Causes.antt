-- Why a text is refused, in the words of the language: each cause is a statement on the text.
use Rattle.std.specs.Prelude.{◌≡◌, ℕ, ◌+◌, ◌-◌, ◌<◌, ◌≤◌, min, Bool, true, false, cond, ◌&&◌, ◌||◌, ◌⊎◌, List, [], ◌∷◌, length, take, drop, Some, None, Ok, Err, codes, Option, Result, ◌==◌, ◌≢◌, slice_index, slice_index_or}
use Rattle.lexer.specs.declared.place.Place.{Place}
use Rattle.lexer.specs.declared.fault.FieldFault.TheVariants.{Character, Kind as WrongKind}
use Rattle.lexer.specs.Characters.{is_name}
use Rattle.lexer.specs.Fields.{ends_in_colon}
use Rattle.lexer.specs.Lines.{Piece, filled_lines}
use Rattle.syntax.specs.declared.fault.LineFault.TheVariants.{Field, Heading, Form}
use Rattle.syntax.specs.declared.mnemonic.Mnemonic.{Mnemonic}
use Rattle.syntax.specs.declared.mnemonic.Mnemonic.TheVariants.{Mov, Alu, Load, Store, Jump, Branch, Ret}
use Rattle.syntax.specs.Statements.{is_code}
use Rattle.syntax.specs.Words.{word_of, mnemonic_in}
use Rattle.grammar.specs.declared.fault.ProgramFault.{ProgramFault}
use Rattle.grammar.specs.declared.fault.ProgramFault.TheVariants.{Line, TooLong, Repeated, Full, Unknown, Backward, ReadOnly, Unclosed}
use Rattle.grammar.specs.Kinds.{AllFit, Misfit, buffer_kinds, kinds_of}
use Rattle.grammar.specs.Reading.{Fields, first_place}

-- ── the text and its characters ──

-- refusal 1
abbrev pub Long : List ℕ → Type 0
Long t = 8192 < length t

-- refusal 2: the byte at a place is no line feed and lies outside 32 to 126
abbrev pub Foreign : List ℕ → ℕ → Type 0
Foreign t i = (i < length t) × (slice_index t i ≢ 10) × ((slice_index t i < 32) ⊎ (126 < slice_index t i))

abbrev pub NoneForeign : List ℕ → Type 0
NoneForeign t = (i : ℕ) → Foreign t i → ⊥

-- how many line feeds a text has
abbrev pub feeds : List ℕ → ℕ
feeds [] = 0
feeds (b ∷ bs) = cond (b == 10) (1 + feeds bs) (feeds bs)

abbrev pub FirstForeign : List ℕ → Place → Type 0
FirstForeign t p = Foreign t p.at × ((i : ℕ) → i < p.at → Foreign t i → ⊥) × (p.line ≡ 1 + feeds (take p.at t))

-- ── its lines ──

abbrev pub nowhere : Piece
nowhere = record { place = record { line = 0; at = 0 }; bytes = [] }

abbrev pub field_at : Fields → ℕ → Piece
field_at l j = slice_index_or l j nowhere

abbrev pub line_at : List Fields → ℕ → Fields
line_at ls k = slice_index_or ls k []

abbrev pub IsHeading : Fields → Type 0
IsHeading l = (length l ≡ 3) × ((field_at l 0).bytes ≡ codes "name") × ((field_at l 1).bytes ≡ codes "size") × ((field_at l 2).bytes ≡ codes "mode")

-- refusal 3: the first filled line is no heading, or there is none
abbrev pub Headless : List ℕ → Type 0
Headless t = IsHeading (line_at (filled_lines t) 0) → ⊥

-- where a heading is missed: at the first field, or at the text's end
abbrev pub heading_place : ℕ → List Fields → Place
heading_place end [] = record { line = 0; at = end }
heading_place end (l ∷ ls) = first_place l

-- the lines before the first line `code`, and those after it
abbrev pub before : List Fields → List Fields
before [] = []
before (l ∷ ls) = cond (is_code l) [] (l ∷ before ls)

abbrev pub after : List Fields → List Fields
after [] = []
after (l ∷ ls) = cond (is_code l) ls (after ls)

abbrev pub has_code : List Fields → Bool
has_code [] = false
has_code (l ∷ ls) = is_code l || has_code ls

-- ── a line that declares a buffer, after k others ──

-- refusal 6: an earlier line declares the same name
abbrev pub SameBuffer : List Fields → ℕ → Type 0
SameBuffer ds k = (j : ℕ) × (j < k) × ((field_at (line_at ds j) 0).bytes ≡ (field_at (line_at ds k) 0).bytes)

-- refusal 8: no room for one more
abbrev pub NoRoom : ℕ → ℕ → Type 0
NoRoom room k = room ≤ k

pub record FineBuffer (room : ℕ) (ds : List Fields) (k : ℕ) : Type 0 where
  pub form : AllFit buffer_kinds (line_at ds k)
  pub new : SameBuffer ds k → ⊥
  pub fits : NoRoom room k → ⊥

-- what is wrong with it, by the fault that tells it: 4, 5, 6 or 8, the smaller number first
abbrev pub WrongBuffer : ℕ → List Fields → ℕ → ProgramFault → Type 0
WrongBuffer room ds k (Line (Form p)) = (length (line_at ds k) ≢ 3) × (p ≡ first_place (line_at ds k))
WrongBuffer room ds k (Line (Field (WrongKind p))) = (length (line_at ds k) ≡ 3) × Misfit buffer_kinds (line_at ds k) p
WrongBuffer room ds k (Repeated p) = AllFit buffer_kinds (line_at ds k) × SameBuffer ds k × (p ≡ first_place (line_at ds k))
WrongBuffer room ds k (Full p) = AllFit buffer_kinds (line_at ds k) × (SameBuffer ds k → ⊥) × NoRoom room k × (p ≡ first_place (line_at ds k))
WrongBuffer room ds k (Line (Field (Character f))) = ⊥
WrongBuffer room ds k (Line (Heading p)) = ⊥
WrongBuffer room ds k TooLong = ⊥
WrongBuffer room ds k (Unknown p) = ⊥
WrongBuffer room ds k (Backward p) = ⊥
WrongBuffer room ds k (ReadOnly p) = ⊥
WrongBuffer room ds k (Unclosed n) = ⊥

-- ── a line of the code, after k others ──

-- a lone field that ends in a colon
abbrev pub is_label : Fields → Bool
is_label l = length l == 1 && ends_in_colon (field_at l 0).bytes

-- the name before the colon
abbrev pub label_name : Fields → List ℕ
label_name l = take (length (field_at l 0).bytes - 1) (field_at l 0).bytes

-- every other line is an instruction: how many are among the lines?
abbrev pub instructions : List Fields → ℕ
instructions [] = 0
instructions (l ∷ ls) = cond (is_label l) (instructions ls) (1 + instructions ls)

-- the number of the instruction at line k, or of the next one after a label there
abbrev pub number_at : List Fields → ℕ → ℕ
number_at cs k = instructions (take k cs)

-- the line begins with the mnemonic and has as many fields as that takes
abbrev pub HasForm : Mnemonic → Fields → Type 0
HasForm m l = ((field_at l 0).bytes ≡ word_of m) × (length l ≡ 1 + length (kinds_of m))

-- an instruction whose fields are all of their kinds
abbrev pub IsInstruction : Fields → Type 0
IsInstruction l = (m : Mnemonic) × HasForm m l × AllFit (kinds_of m) (drop 1 l)

-- refusal 6: an earlier line is the same label
abbrev pub SameLabel : List Fields → ℕ → Type 0
SameLabel cs k = (j : ℕ) × (j < k) × (is_label (line_at cs j) ≡ true) × (label_name (line_at cs j) ≡ label_name (line_at cs k))

-- nothing is wrong with a label, or with an instruction
pub record FineLabel (cs : List Fields) (k : ℕ) : Type 0 where
  pub form : is_name (label_name (line_at cs k)) ≡ true
  pub new : SameLabel cs k → ⊥

pub record FineInstruction (room : ℕ) (cs : List Fields) (k : ℕ) : Type 0 where
  pub form : IsInstruction (line_at cs k)
  pub fits : NoRoom room (number_at cs k) → ⊥

abbrev pub FineCode : ℕ → List Fields → ℕ → Type 0
FineCode room cs k = ((is_label (line_at cs k) ≡ true) × FineLabel cs k) ⊎ ((is_label (line_at cs k) ≡ false) × FineInstruction room cs k)

-- what is wrong with a label: 5 or 6
abbrev pub WrongLabel : List Fields → ℕ → ProgramFault → Type 0
WrongLabel cs k (Line (Field (WrongKind p))) = (is_name (label_name (line_at cs k)) ≡ false) × (p ≡ first_place (line_at cs k))
WrongLabel cs k (Repeated p) = (is_name (label_name (line_at cs k)) ≡ true) × SameLabel cs k × (p ≡ first_place (line_at cs k))
WrongLabel cs k (Line (Form p)) = ⊥
WrongLabel cs k (Full p) = ⊥
WrongLabel cs k (Line (Field (Character f))) = ⊥
WrongLabel cs k (Line (Heading p)) = ⊥
WrongLabel cs k TooLong = ⊥
WrongLabel cs k (Unknown p) = ⊥
WrongLabel cs k (Backward p) = ⊥
WrongLabel cs k (ReadOnly p) = ⊥
WrongLabel cs k (Unclosed n) = ⊥

-- what is wrong with an instruction: 4, 5 or 8
abbrev pub WrongInstruction : ℕ → List Fields → ℕ → ProgramFault → Type 0
WrongInstruction room cs k (Line (Form p)) = ((m : Mnemonic) → HasForm m (line_at cs k) → ⊥) × (p ≡ first_place (line_at cs k))
WrongInstruction room cs k (Line (Field (WrongKind p))) = (m : Mnemonic) × HasForm m (line_at cs k) × Misfit (kinds_of m) (drop 1 (line_at cs k)) p
WrongInstruction room cs k (Full p) = IsInstruction (line_at cs k) × NoRoom room (number_at cs k) × (p ≡ first_place (line_at cs k))
WrongInstruction room cs k (Repeated p) = ⊥
WrongInstruction room cs k (Line (Field (Character f))) = ⊥
WrongInstruction room cs k (Line (Heading p)) = ⊥
WrongInstruction room cs k TooLong = ⊥
WrongInstruction room cs k (Unknown p) = ⊥
WrongInstruction room cs k (Backward p) = ⊥
WrongInstruction room cs k (ReadOnly p) = ⊥
WrongInstruction room cs k (Unclosed n) = ⊥

abbrev pub WrongCode : ℕ → List Fields → ℕ → ProgramFault → Type 0
WrongCode room cs k f = ((is_label (line_at cs k) ≡ true) × WrongLabel cs k f) ⊎ ((is_label (line_at cs k) ≡ false) × WrongInstruction room cs k f)

-- ── the names of an instruction ──

-- the field that names the buffer to load from
abbrev pub source_of : Option Mnemonic → Fields → Option Piece
source_of (Some (Load w)) l = Some (field_at l 2)
source_of (Some Mov) l = None
source_of (Some (Alu op)) l = None
source_of (Some (Store w)) l = None
source_of (Some Jump) l = None
source_of (Some (Branch c)) l = None
source_of (Some Ret) l = None
source_of None l = None

-- the field that names the buffer to store into
abbrev pub sink_of : Option Mnemonic → Fields → Option Piece
sink_of (Some (Store w)) l = Some (field_at l 1)
sink_of (Some Mov) l = None
sink_of (Some (Alu op)) l = None
sink_of (Some (Load w)) l = None
sink_of (Some Jump) l = None
sink_of (Some (Branch c)) l = None
sink_of (Some Ret) l = None
sink_of None l = None

-- the field that names the label to jump to
abbrev pub target_of : Option Mnemonic → Fields → Option Piece
target_of (Some Jump) l = Some (field_at l 1)
target_of (Some (Branch c)) l = Some (field_at l 3)
target_of (Some Mov) l = None
target_of (Some (Alu op)) l = None
target_of (Some (Load w)) l = None
target_of (Some (Store w)) l = None
target_of (Some Ret) l = None
target_of None l = None

abbrev pub mnemonic_of : Fields → Option Mnemonic
mnemonic_of l = mnemonic_in (field_at l 0).bytes

-- line k of the code loads from, stores into or jumps to what the field names
abbrev pub Loads : List Fields → ℕ → Piece → Type 0
Loads cs k n = (is_label (line_at cs k) ≡ false) × (source_of (mnemonic_of (line_at cs k)) (line_at cs k) ≡ Some n)

abbrev pub Stores : List Fields → ℕ → Piece → Type 0
Stores cs k n = (is_label (line_at cs k) ≡ false) × (sink_of (mnemonic_of (line_at cs k)) (line_at cs k) ≡ Some n)

abbrev pub Jumps : List Fields → ℕ → Piece → Type 0
Jumps cs k n = (is_label (line_at cs k) ≡ false) × (target_of (mnemonic_of (line_at cs k)) (line_at cs k) ≡ Some n)

-- line j declares the buffer of that name
abbrev pub Declares : List Fields → ℕ → Piece → Type 0
Declares ds j n = (j < length ds) × ((field_at (line_at ds j) 0).bytes ≡ n.bytes)

-- line j is the label of that name
abbrev pub Stands : List Fields → ℕ → Piece → Type 0
Stands cs j n = (j < length cs) × (is_label (line_at cs j) ≡ true) × (label_name (line_at cs j) ≡ n.bytes)

-- the label at line j stands before an instruction that comes after that of line k
abbrev pub Later : List Fields → ℕ → ℕ → Type 0
Later cs k j = (number_at cs k < number_at cs j) × (number_at cs j < instructions cs)

-- nothing is wrong with the names of line k
pub record FineNames (ds cs : List Fields) (k : ℕ) : Type 0 where
  pub loads : (n : Piece) → Loads cs k n → (j : ℕ) × Declares ds j n
  pub stores : (n : Piece) → Stores cs k n → (j : ℕ) × Declares ds j n × ((field_at (line_at ds j) 2).bytes ≡ codes "rw")
  pub jumps : (n : Piece) → Jumps cs k n → (j : ℕ) × Stands cs j n × Later cs k j

-- refusal 7: a name that nothing declares
abbrev pub Undeclared : List Fields → List Fields → ℕ → Place → Type 0
Undeclared ds cs k p =
    ((n : Piece) × (Loads cs k n ⊎ Stores cs k n) × ((j : ℕ) → Declares ds j n → ⊥) × (p ≡ n.place))
    ⊎ ((n : Piece) × Jumps cs k n × ((j : ℕ) → Stands cs j n → ⊥) × (p ≡ n.place))

-- what is wrong with its names: 7, 9 or 10
abbrev pub WrongNames : List Fields → List Fields → ℕ → ProgramFault → Type 0
WrongNames ds cs k (Unknown p) = Undeclared ds cs k p
WrongNames ds cs k (Backward p) = (n : Piece) × Jumps cs k n × ((j : ℕ) × Stands cs j n) × ((j : ℕ) → Stands cs j n → Later cs k j → ⊥) × (p ≡ n.place)
WrongNames ds cs k (ReadOnly p) = (n : Piece) × Stores cs k n × ((j : ℕ) × Declares ds j n × ((field_at (line_at ds j) 2).bytes ≡ codes "ro")) × (p ≡ n.place)
WrongNames ds cs k (Line f) = ⊥
WrongNames ds cs k TooLong = ⊥
WrongNames ds cs k (Repeated p) = ⊥
WrongNames ds cs k (Full p) = ⊥
WrongNames ds cs k (Unclosed n) = ⊥

-- ── the end of the code ──

abbrev pub last_line : List Fields → Fields
last_line cs = line_at cs (length cs - 1)

-- refusal 11: no `code`, no instruction, the last not `ret`, or a label after it
pub data Open (ls : List Fields) : Type 0 where
  no_code : has_code ls ≡ false → Open ls
  no_instruction : instructions (after ls) ≡ 0 → Open ls
  no_ret : is_label (last_line (after ls)) ≡ false → ((field_at (last_line (after ls)) 0).bytes ≢ codes "ret") → Open ls
  label_last : is_label (last_line (after ls)) ≡ true → Open ls

-- ── the whole text ──

-- the lines after the heading; room for the buffers, and for the instructions after those
abbrev pub body : List ℕ → List Fields
body t = drop 1 (filled_lines t)

abbrev pub buffer_lines : List ℕ → List Fields
buffer_lines t = before (body t)

abbrev pub code_lines : List ℕ → List Fields
code_lines t = after (body t)

abbrev pub buffer_room : ℕ → ℕ
buffer_room room = min 8 room

abbrev pub code_room : ℕ → List ℕ → ℕ
code_room room t = min 96 (room - length (buffer_lines t))

-- nothing is wrong with what is judged first
pub record Headed (t : List ℕ) : Type 0 where
  pub short : Long t → ⊥
  pub fit : NoneForeign t
  pub heading : IsHeading (line_at (filled_lines t) 0)

pub record Formed (room : ℕ) (t : List ℕ) : Type 0 where
  pub headed : Headed t
  pub buffers : (k : ℕ) → k < length (buffer_lines t) → FineBuffer (buffer_room room) (buffer_lines t) k
  pub code : (k : ℕ) → k < length (code_lines t) → FineCode (code_room room t) (code_lines t) k

pub record Named (room : ℕ) (t : List ℕ) : Type 0 where
  pub formed : Formed room t
  pub names : (k : ℕ) → k < length (code_lines t) → FineNames (buffer_lines t) (code_lines t) k

-- no cause of a refusal holds of the text
pub record Unblamed (room : ℕ) (t : List ℕ) : Type 0 where
  pub named : Named room t
  pub closed : Open (body t) → ⊥

-- the first line of a part with which something is wrong, and what
pub record First (fine wrong : ℕ → Type 0) (lines : List Fields) : Type 0 where
  pub line : ℕ
  pub within : line < length lines
  pub before_it : (i : ℕ) → i < line → fine i
  pub there : wrong line

-- a line before `code` is the first at fault
abbrev pub AtBuffer : ℕ → List ℕ → ProgramFault → Type 0
AtBuffer room t f = Headed t × First (FineBuffer (buffer_room room) (buffer_lines t)) (λ k. WrongBuffer (buffer_room room) (buffer_lines t) k f) (buffer_lines t)

-- no line before `code` is, and a line after it is the first
abbrev pub AtCode : ℕ → List ℕ → ProgramFault → Type 0
AtCode room t f =
    Headed t
    × ((k : ℕ) → k < length (buffer_lines t) → FineBuffer (buffer_room room) (buffer_lines t) k)
    × First (FineCode (code_room room t) (code_lines t)) (λ k. WrongCode (code_room room t) (code_lines t) k f) (code_lines t)

-- no line is of the wrong form, and one has a name that is wrong
abbrev pub AtNames : ℕ → List ℕ → ProgramFault → Type 0
AtNames room t f = Formed room t × First (FineNames (buffer_lines t) (code_lines t)) (λ k. WrongNames (buffer_lines t) (code_lines t) k f) (code_lines t)

-- the first cause in the order of judging, by the fault that tells it: 1; then 2; then 3; then 4, 5, 6 and 8 line by
-- line, in a line the smaller number and then the leftmost field; then 7, 9 and 10 likewise; then 11
abbrev pub Refused : ℕ → List ℕ → ProgramFault → Type 0
Refused room t TooLong = Long t
Refused room t (Line (Field (Character f))) = (Long t → ⊥) × FirstForeign t f.place
Refused room t (Line (Heading p)) = (Long t → ⊥) × NoneForeign t × Headless t × (p ≡ heading_place (length t) (filled_lines t))
Refused room t (Line (Form p)) = AtBuffer room t (Line (Form p)) ⊎ AtCode room t (Line (Form p))
Refused room t (Line (Field (WrongKind p))) = AtBuffer room t (Line (Field (WrongKind p))) ⊎ AtCode room t (Line (Field (WrongKind p)))
Refused room t (Repeated p) = AtBuffer room t (Repeated p) ⊎ AtCode room t (Repeated p)
Refused room t (Full p) = AtBuffer room t (Full p) ⊎ AtCode room t (Full p)
Refused room t (Unknown p) = AtNames room t (Unknown p)
Refused room t (Backward p) = AtNames room t (Backward p)
Refused room t (ReadOnly p) = AtNames room t (ReadOnly p)
Refused room t (Unclosed n) = Named room t × Open (body t) × (n ≡ length t)

-- a text is read where no cause holds, and refused by its first cause
abbrev pub Judged : {X : Type 0} → ℕ → List ℕ → Result X ProgramFault → Type 0
Judged room t (Ok x) = Unblamed room t
Judged room t (Err f) = Refused room t f
