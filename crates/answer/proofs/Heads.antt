-- The buffers that are read: few, of a fit size, and each name stands for one of them.
use Rattle.std.proofs.Common.{◌≡◌, ℕ, ◌+◌, ◌<◌, ◌≤◌, true, false, ◌&&◌, leb, List, [], ◌∷◌, ◌++◌, length, IfOk, Some, Ok, Err, Result, refl, ap, ◌∙◌, arith}
use Rattle.std.proofs.lemmas.List.{length_push}
use Rattle.std.specs.List.{list_all}
use Rattle.std.proofs.lemmas.List.Sums.{take_while-cons}
use Rattle.std.proofs.lemmas.Bool.{and_from, cond_both, cond-true, cond-false, leb-false}
use Rattle.std.specs.Str.{bytes_eq}
use Rattle.lexer.specs.declared.place.Place.{Place}
use Rattle.lexer.specs.Lines.{Piece}
use Rattle.rule.specs.Records.{is_buffer}
use Rattle.machine.specs.Tables.{buffer_count}
use Rattle.machine.specs.Valid.{size_ok, heads_ok}
use Rattle.rule.specs.declared.record.Item.TheVariants.{Buffer as IsBuffer}
use Rattle.rule.specs.declared.record.Mode.{Mode}
use Rattle.rule.specs.declared.record.Record.{Record}
use Rattle.syntax.specs.declared.fault.LineFault.{LineFault}
use Rattle.syntax.specs.declared.statement.Header.{Header}
use Rattle.syntax.specs.declared.statement.Header.TheVariants.{Code, Buffer}
use Rattle.syntax.specs.Statements.{header_of}
use Rattle.grammar.specs.declared.fault.ProgramFault.{ProgramFault}
use Rattle.grammar.specs.Names.{Entry, number_of, is_known}
use Rattle.grammar.specs.Reading.{Fields, Heads, first_place, entry, record_at, headed, buffers_from}
use Rattle.answer.proofs.Each.{Each, Held, each_push, each_so}
use Rattle.answer.proofs.Limits.{FineHeader, header_made}

abbrev pub FineHead : Record → Type 0
FineHead r = (is_buffer r.item ≡ true) × (size_ok r.item ≡ true)

abbrev pub Below : ℕ → Entry → Type 0
Below n e = e.number < n

-- the names and records of the buffers so far
pub record Buffered (room : ℕ) (ns : List Entry) (rs : List Record) : Type 0 where
  pub few : length rs ≤ room
  pub heads : Each FineHead rs
  pub names : Each (Below (length rs)) ns

-- one more
more : (room : ℕ) (ns : List Entry) (rs : List Record) (p : Place) (n : Piece) (size : ℕ) (mode : Mode) → Buffered room ns rs → length rs < room → FineHeader (Buffer n size mode)
    → Buffered room (ns ++ entry n (length rs) ∷ []) (rs ++ record_at p (IsBuffer size mode) ∷ [])
more room ns rs p n size mode b h fine =
    let r = record_at p (IsBuffer size mode) in
    let long : length (rs ++ r ∷ []) ≡ length rs + 1 = length_push rs r in
    record {
      few = omega arith;
      heads = each_push FineHead rs r b.heads (refl, fine);
      names =
          each_push (Below (length (rs ++ r ∷ []))) ns (entry n (length rs))
          (each_so (Below (length rs)) (Below (length (rs ++ r ∷ []))) ns (λ e l. omega arith) b.names)
          (omega arith);
    }

abbrev FineHeads : ℕ → Heads → Type 0
FineHeads room h = Buffered room h.names h.records

headed_made : (room : ℕ) (ns : List Entry) (rs : List Record) (p : Place) (rest : List Fields) (next : List Entry → List Record → Result Heads ProgramFault) (r : Result (Header Piece) LineFault)
    → ((ns' : List Entry) (rs' : List Record) → Buffered room ns' rs' → IfOk (next ns' rs') (FineHeads room))
    → Buffered room ns rs → IfOk r FineHeader → IfOk (headed room ns rs p rest next r) (FineHeads room)
headed_made room ns rs p rest next (Err e) again b fine = tt
headed_made room ns rs p rest next (Ok Code) again b fine = b
headed_made room ns rs p rest next (Ok (Buffer n size mode)) again b fine =
    cond_both (is_known ns n.bytes) _ _ (λ r. IfOk r (FineHeads room)) (λ _. tt)
    (λ _. cond_both (leb room (length rs)) _ _ (λ r. IfOk r (FineHeads room)) (λ _. tt)
    (λ less. again _ _ (more room ns rs p n size mode b (leb-false room (length rs) less) fine)))

buffers-from : (room : ℕ) (ns : List Entry) (rs : List Record) (ls : List Fields) → Buffered room ns rs → IfOk (buffers_from room ns rs ls) (FineHeads room)
buffers-from room ns rs [] b = b
buffers-from room ns rs (l ∷ rest) b =
    headed_made room ns rs (first_place l) rest (λ ns' rs'. buffers_from room ns' rs' rest) (header_of (first_place l) l)
    (λ ns' rs' b'. buffers-from room ns' rs' rest b') b (header_made (first_place l) l)

pub buffers_made : (room : ℕ) (ls : List Fields) → IfOk (buffers_from room [] [] ls) (FineHeads room)
buffers_made room ls = buffers-from room [] [] ls (record { few = omega arith; heads = tt; names = tt })

-- what a name stands for is below the count
pub number-held : (n : ℕ) (es : List Entry) (name : List ℕ) → Each (Below n) es → Held (λ b. b < n) (number_of es name)
number-held n [] name h = tt
number-held n (e ∷ es) name h =
    cond_both (bytes_eq e.name name) (Some e.number) (number_of es name) (Held (λ b. b < n)) (λ _. h.0) (λ _. number-held n es name h.1)

-- buffers in front of a table are all its buffers, where none follows
pub buffers-front : (bs q : List Record) → Each FineHead bs → buffer_count q ≡ 0 → buffer_count (bs ++ q) ≡ length bs
buffers-front [] q h e = e
buffers-front (b ∷ bs) q h e =
    let more = buffers-front bs q h.1 e in
    cond-true (is_buffer b.item) _ _ h.0.0 ∙ omega arith

-- a table that begins with a record that is no buffer has none in front, and one more buffer is one more to be tested
pub heads_none : (c : Record) (q : List Record) → is_buffer c.item ≡ false → heads_ok (c ∷ q) ≡ true
heads_none c q e = ap (list_all (λ (r : Record). size_ok r.item)) (take_while-cons (λ (r : Record). is_buffer r.item) c q ∙ cond-false (is_buffer c.item) _ _ e)

heads_more : (b : Record) (q : List Record) → is_buffer b.item ≡ true → heads_ok (b ∷ q) ≡ (size_ok b.item && heads_ok q)
heads_more b q e = ap (list_all (λ (r : Record). size_ok r.item)) (take_while-cons (λ (r : Record). is_buffer r.item) b q ∙ cond-true (is_buffer b.item) _ _ e)

pub heads-front : (bs q : List Record) → Each FineHead bs → heads_ok q ≡ true → heads_ok (bs ++ q) ≡ true
heads-front [] q h e = e
heads-front (b ∷ bs) q h e =
    heads_more b (bs ++ q) h.0.0 ∙ and_from (size_ok b.item) (heads_ok (bs ++ q)) h.0.1 (heads-front bs q h.1 e)
