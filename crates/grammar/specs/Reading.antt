-- What a text is read as.
use Rattle.std.specs.Prelude.{ℕ, ◌+◌, ◌-◌, min, Bool, false, cond, List, [], ◌∷◌, ◌++◌, length, replicate, Some, None, Ok, Err, Option, Result, nat_le, nat_lt}
use Rattle.lexer.specs.declared.place.Place.{Place}
use Rattle.lexer.specs.declared.fault.FieldFault.TheVariants.{Character}
use Rattle.lexer.specs.Foreign.{foreign}
use Rattle.lexer.specs.Lines.{Piece, filled_lines}
use Rattle.rule.specs.declared.record.Item.{Item}
use Rattle.rule.specs.declared.record.Item.TheVariants.{Buffer as IsBuffer, Instruction as IsInstruction}
use Rattle.rule.specs.declared.record.Record.{Record}
use Rattle.rule.specs.declared.shape.Shape.{Shape}
use Rattle.rule.specs.Instructions.{is_ret}
use Rattle.rule.specs.Records.{blank}
use Rattle.syntax.specs.declared.fault.LineFault.{LineFault}
use Rattle.syntax.specs.declared.fault.LineFault.TheVariants.{Field, Heading, Form}
use Rattle.syntax.specs.declared.statement.Header.{Header}
use Rattle.syntax.specs.declared.statement.Header.TheVariants.{Code, Buffer}
use Rattle.syntax.specs.declared.statement.Statement.{Statement}
use Rattle.syntax.specs.declared.statement.Statement.TheVariants.{Label, Instruction as Instructs}
use Rattle.syntax.specs.Statements.{is_heading, header_of, statement_of}
use Rattle.grammar.specs.declared.fault.ProgramFault.{ProgramFault}
use Rattle.grammar.specs.declared.fault.ProgramFault.TheVariants.{Line, TooLong, Repeated, Full, Unclosed}
use Rattle.grammar.specs.Names.{Entry, is_known}
use Rattle.grammar.specs.Links.{Scope, resolved}

-- a line that has fields, as its fields
abbrev pub Fields : Type 0
Fields = List Piece

abbrev pub first_place : Fields → Place
first_place [] = record { line = 0; at = 0 }
first_place (p ∷ ps) = p.place

-- what follows, or the fault
abbrev pub and_then : {X Y : Type 0} → Result X ProgramFault → (X → Result Y ProgramFault) → Result Y ProgramFault
and_then (Ok x) f = f x
and_then (Err e) f = Err e

-- ── first the buffers, line by line ──

-- the buffers of a text by name and as records, and the lines after `code` where that has come
pub record Heads : Type 0 where
  pub names : List Entry
  pub records : List Record
  pub code : Option (List Fields)

abbrev pub entry : Piece → ℕ → Entry
entry p n = record { name = p.bytes; number = n }

abbrev pub record_at : Place → Item → Record
record_at p i = record { line = p.line; item = i }

-- a header at a place, after the buffers before it
abbrev pub headed : ℕ → List Entry → List Record → Place → List Fields → (List Entry → List Record → Result Heads ProgramFault) → Result (Header Piece) LineFault → Result Heads ProgramFault
headed room ns rs p rest next (Err e) = Err (Line e)
headed room ns rs p rest next (Ok Code) = Ok (record { names = ns; records = rs; code = Some rest })
headed room ns rs p rest next (Ok (Buffer n size mode)) =
    cond (is_known ns n.bytes) (Err (Repeated n.place))
    (cond (nat_le room (length rs)) (Err (Full p))
    (next (ns ++ entry n (length rs) ∷ []) (rs ++ record_at p (IsBuffer size mode) ∷ [])))

abbrev pub buffers_from : ℕ → List Entry → List Record → List Fields → Result Heads ProgramFault
buffers_from room ns rs [] = Ok (record { names = ns; records = rs; code = None })
buffers_from room ns rs (l ∷ rest) = headed room ns rs (first_place l) rest (λ ns' rs'. buffers_from room ns' rs' rest) (header_of (first_place l) l)

-- ── then the lines of the code: their labels, and how many instructions they are ──

-- the labels, the count of the instructions, and whether the last line is `ret`
pub record Survey : Type 0 where
  pub labels : List Entry
  pub count : ℕ
  pub closed : Bool

abbrev pub said : Fields → Result (Statement Piece) LineFault
said [] = Err (Form (first_place []))
said (p ∷ ps) = statement_of p ps

-- a statement at a place, after those before it
abbrev pub surveyed : ℕ → List Entry → ℕ → Place → (List Entry → ℕ → Bool → Result Survey ProgramFault) → Result (Statement Piece) LineFault → Result Survey ProgramFault
surveyed room ls k p next (Err e) = Err (Line e)
surveyed room ls k p next (Ok (Label n)) = cond (is_known ls n.bytes) (Err (Repeated n.place)) (next (ls ++ entry n k ∷ []) k false)
surveyed room ls k p next (Ok (Instructs i)) = cond (nat_le room k) (Err (Full p)) (next ls (k + 1) (is_ret i))

abbrev pub survey_from : ℕ → List Entry → ℕ → Bool → List Fields → Result Survey ProgramFault
survey_from room ls k closed [] = Ok (record { labels = ls; count = k; closed = closed })
survey_from room ls k closed (l ∷ rest) = surveyed room ls k (first_place l) (λ ls' k' closed'. survey_from room ls' k' closed' rest) (said l)

-- ── then the same lines again, with the names resolved ──

abbrev pub linked : Scope → List Record → Place → (List Record → Result (List Record) ProgramFault) → Result (Statement Piece) LineFault → Result (List Record) ProgramFault
linked s rs p next (Err e) = Err (Line e)
linked s rs p next (Ok (Label n)) = next rs
linked s rs p next (Ok (Instructs i)) = and_then (resolved s (length rs) i) (λ j. next (rs ++ record_at p (IsInstruction j) ∷ []))

abbrev pub link_from : Scope → List Record → List Fields → Result (List Record) ProgramFault
link_from s rs [] = Ok rs
link_from s rs (l ∷ rest) = linked s rs (first_place l) (λ rs'. link_from s rs' rest) (said l)

-- ── the whole ──

-- the records of the buffers and of the instructions
pub record Program : Type 0 where
  pub buffers : List Record
  pub instructions : List Record

abbrev pub scope_of : List Entry → List Record → Survey → Scope
scope_of ns hs s = record { buffers = ns; heads = hs; labels = s.labels; count = s.count }

abbrev pub closing : ℕ → Survey → List Record → Result (List Record) ProgramFault
closing end s rs = cond s.closed (Ok rs) (Err (Unclosed end))

-- the instructions of the lines after `code`, with room for so many, after the buffers
abbrev pub code_of : ℕ → ℕ → List Entry → List Record → List Fields → Result (List Record) ProgramFault
code_of room end ns hs ls =
    and_then (survey_from (min 96 room) [] 0 false ls)
    (λ s. and_then (link_from (scope_of ns hs s) [] ls)
    (λ rs. closing end s rs))

abbrev pub coded : ℕ → ℕ → Heads → Option (List Fields) → Result Program ProgramFault
coded room end h None = Err (Unclosed end)
coded room end h (Some ls) = and_then (code_of (room - length h.records) end h.names h.records ls) (λ rs. Ok (record { buffers = h.records; instructions = rs }))

abbrev pub body_of : ℕ → ℕ → List Fields → Result Program ProgramFault
body_of room end ls = and_then (buffers_from (min 8 room) [] [] ls) (λ h. coded room end h h.code)

-- the heading first; a text with no filled line is at fault at its end
abbrev pub program_of : ℕ → ℕ → List Fields → Result Program ProgramFault
program_of room end [] = Err (Line (Heading (record { line = 0; at = end })))
program_of room end (l ∷ ls) = cond (is_heading l) (body_of room end ls) (Err (Line (Heading (first_place l))))

abbrev pub clean : Option Place → Result Program ProgramFault → Result Program ProgramFault
clean None r = r
clean (Some p) r = Err (Line (Field (Character (record { place = p }))))

-- the program that the text is, in a table with room for so many records, or why it is refused
abbrev pub reading : ℕ → List ℕ → Result Program ProgramFault
reading room t = cond (nat_lt 8192 (length t)) (Err TooLong) (clean (foreign t) (program_of room (length t) (filled_lines t)))

-- the table afterwards: the records and then blanks, and on a refusal only blanks
abbrev pub table_of : ℕ → Result Program ProgramFault → List Record
table_of room (Ok p) = (p.buffers ++ p.instructions) ++ replicate (room - length (p.buffers ++ p.instructions)) blank
table_of room (Err e) = replicate room blank

-- the answer: how many buffers and instructions the text has, or why it is refused
abbrev pub shape_of : Result Program ProgramFault → Result Shape ProgramFault
shape_of (Ok p) = Ok (record { buffers = length p.buffers; instructions = length p.instructions })
shape_of (Err e) = Err e
