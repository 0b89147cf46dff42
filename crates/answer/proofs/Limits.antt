-- What a line is read as keeps the limits: registers below 8, constants that are words, sizes from 1 to 1024.
use Rattle.std.proofs.Common.{◌≡◌, ℕ, suc, ◌-◌, ◌^◌, Bool, true, ◌&&◌, eqb, ltb, leb, List, [], ◌∷◌, length, get_or, ℤ, pos, negsuc, IfOk, Some, None, Ok, Err, Option, Result, refl, arith}
use Rattle.std.proofs.lemmas.Bool.{and_parts, and_from, cond_both, leb-true, lt-ltb}
use Rattle.lexer.specs.declared.fault.FieldFault.{FieldFault}
use Rattle.lexer.specs.declared.place.Place.{Place}
use Rattle.lexer.specs.Fields.{or_kind, is_register, register_in, named_in, unmarked}
use Rattle.lexer.specs.Lines.{Piece}
use Rattle.lexer.specs.Numbers as number
use Rattle.lexer.specs.Numbers.{word_of}
use Rattle.machine.specs.Valid.{operand_ok}
use Rattle.rule.specs.declared.instruction.Condition.{Condition}
use Rattle.rule.specs.declared.instruction.Operand.{Operand}
use Rattle.syntax.specs.declared.fault.LineFault.{LineFault}
use Rattle.syntax.specs.declared.fault.LineFault.TheVariants.{Form}
use Rattle.syntax.specs.declared.mnemonic.Mnemonic.{Mnemonic}
use Rattle.syntax.specs.declared.mnemonic.Mnemonic.TheVariants as word
use Rattle.syntax.specs.declared.statement.Header.{Header}
use Rattle.syntax.specs.declared.statement.Header.TheVariants.{Code, Buffer}
use Rattle.rule.specs.declared.instruction.Instruction.{Instruction}
use Rattle.rule.specs.declared.instruction.Instruction.TheVariants.{Mov, Alu, Load, Store, Jump, Branch, Ret}
use Rattle.syntax.specs.declared.statement.Statement.{Statement}
use Rattle.syntax.specs.declared.statement.Statement.TheVariants.{Label, Instruction as Instructs}
use Rattle.syntax.specs.Operands.{register_of, either_of, operand_in, operand_of, size_of, mode_of}
use Rattle.syntax.specs.Statements.{given, one_in, two_in, three_in, and_then, buffer_of, is_code, header_of, mov_of, alu_of, load_of, store_of, jump_of, branch_of, instruction_of, known_of, is_label, labels, instructs, statement_of}
use Rattle.syntax.specs.Words.{mnemonic_in}
use Rattle.words.specs.declared.operation.Operation.{Operation}
use Rattle.words.specs.declared.width.Width.{Width}
use Rattle.grammar.specs.Reading.{Fields, said}
use Rattle.answer.proofs.Each.{Held, made_any}

-- ── fields ──

abbrev IsRegister : ℕ → Type 0
IsRegister r = ltb r 8 ≡ true

abbrev IsWord : ℕ → Type 0
IsWord c = ltb c (2 ^ 64) ≡ true

abbrev IsOperand : Operand → Type 0
IsOperand o = operand_ok o ≡ true

abbrev pub IsSize : ℕ → Type 0
IsSize n = (leb 1 n && leb n 1024) ≡ true

kind_made : {X : Type 0} (P : X → Type 0) (o : Option X) (p : Place) → Held P o → IfOk (or_kind o p) P
kind_made P None p h = tt
kind_made P (Some x) p h = h

register-held : (t : List ℕ) → Held IsRegister (register_in t)
register-held t =
    cond_both (is_register t) (Some (get_or t 1 0 - 48)) None (Held IsRegister)
    (λ h.
    let digit = (and_parts (eqb (length t) 2 && eqb (get_or t 0 0) 114) (leb 48 (get_or t 1 0) && leb (get_or t 1 0) 55) h).1 in
    let most = leb-true (get_or t 1 0) 55 (and_parts (leb 48 (get_or t 1 0)) (leb (get_or t 1 0) 55) digit).1 in
    lt-ltb (get_or t 1 0 - 48) 8 (omega arith))
    (λ h. tt)

word_held : (z : ℤ) → Held IsWord (word_of z)
word_held (pos n) = cond_both (ltb n (2 ^ 64)) (Some n) None (Held IsWord) (λ h. h) (λ h. tt)
word_held (negsuc n) = cond_both (ltb n (2 ^ 63)) (Some (2 ^ 64 - suc n)) None (Held IsWord) (λ h. lt-ltb (2 ^ 64 - suc n) (2 ^ 64) (omega arith)) (λ h. tt)

constant_held : (o : Option ℤ) → Held IsWord (number.and_then o word_of)
constant_held None = tt
constant_held (Some z) = word_held z

size-held : (o : Option ℤ) → Held IsSize (number.and_then o number.size_of)
size-held None = tt
size-held (Some (pos n)) = cond_both (leb 1 n && leb n 1024) (Some n) None (Held IsSize) (λ h. h) (λ h. tt)
size-held (Some (negsuc n)) = tt

either_held : (r c : Option ℕ) → Held IsRegister r → Held IsWord c → Held IsOperand (either_of r c)
either_held (Some r) c h g = h
either_held None (Some c) h g = g
either_held None None h g = tt

register_made : (p : Piece) → IfOk (register_of p) IsRegister
register_made p = kind_made IsRegister (register_in p.bytes) p.place (register-held p.bytes)

operand_made : (p : Piece) → IfOk (operand_of p) IsOperand
operand_made p = kind_made IsOperand (operand_in p.bytes) p.place (either_held _ _ (register-held p.bytes) (constant_held (number.number p.bytes)))

size_made : (p : Piece) → IfOk (size_of p) IsSize
size_made p = kind_made IsSize (number.size_in p.bytes) p.place (size-held (number.number p.bytes))

-- ── lines ──

then_made : {X Y : Type 0} (P : X → Type 0) (Q : Y → Type 0) (r : Result X FieldFault) (f : X → Result Y LineFault) → IfOk r P → ((x : X) → P x → IfOk (f x) Q) → IfOk (and_then r f) Q
then_made P Q (Ok x) f h g = g x h
then_made P Q (Err e) f h g = tt

given_made : {X Y : Type 0} (Q : Y → Type 0) (o : Option X) (f : X → Result Y LineFault) (e : LineFault) → ((x : X) → IfOk (f x) Q) → IfOk (given o f (Err e)) Q
given_made Q None f e g = tt
given_made Q (Some x) f e g = g x

abbrev Any : {X : Type 0} → X → Type 0
Any x = Unit {0}

abbrev pub FineHeader : Header Piece → Type 0
FineHeader Code = Unit {0}
FineHeader (Buffer n size mode) = IsSize size

buffer_made : (a b c : Piece) → IfOk (buffer_of a b c) FineHeader
buffer_made a b c =
    then_made Any FineHeader (named_in a) _ (made_any _)
    (λ n _. then_made IsSize FineHeader (size_of b) _ (size_made b)
    (λ s h. then_made Any FineHeader (mode_of c) _ (made_any _) (λ m _. h)))

pub header_made : (p : Place) (ps : List Piece) → IfOk (header_of p ps) FineHeader
header_made p ps =
    cond_both (is_code ps) _ _ (λ r. IfOk r FineHeader) (λ _. tt)
    (λ _. given_made FineHeader (three_in ps) _ (Form p) (λ q. buffer_made q.0 q.1 q.2))

abbrev pub bounds_ok : Instruction Piece → Bool
bounds_ok (Mov t s) = ltb t 8 && operand_ok s
bounds_ok (Alu op t s) = ltb t 8 && operand_ok s
bounds_ok (Load w t n s) = ltb t 8 && operand_ok s
bounds_ok (Store w n s t) = operand_ok s && ltb t 8
bounds_ok (Jump n) = true
bounds_ok (Branch c l s n) = ltb l 8 && operand_ok s
bounds_ok Ret = true

abbrev pub Bounded : Instruction Piece → Type 0
Bounded i = bounds_ok i ≡ true

mov_made : (a b : Piece) → IfOk (mov_of a b) Bounded
mov_made a b =
    then_made IsRegister Bounded (register_of a) _ (register_made a)
    (λ t h. then_made IsOperand Bounded (operand_of b) _ (operand_made b) (λ s g. and_from _ _ h g))

alu_made : (op : Operation) (a b : Piece) → IfOk (alu_of op a b) Bounded
alu_made op a b =
    then_made IsRegister Bounded (register_of a) _ (register_made a)
    (λ t h. then_made IsOperand Bounded (operand_of b) _ (operand_made b) (λ s g. and_from _ _ h g))

load_made : (w : Width) (a b c : Piece) → IfOk (load_of w a b c) Bounded
load_made w a b c =
    then_made IsRegister Bounded (register_of a) _ (register_made a)
    (λ t h. then_made Any Bounded (named_in b) _ (made_any _)
    (λ n _. then_made IsOperand Bounded (operand_of c) _ (operand_made c) (λ s g. and_from _ _ h g)))

store_made : (w : Width) (a b c : Piece) → IfOk (store_of w a b c) Bounded
store_made w a b c =
    then_made Any Bounded (named_in a) _ (made_any _)
    (λ n _. then_made IsOperand Bounded (operand_of b) _ (operand_made b)
    (λ s h. then_made IsRegister Bounded (register_of c) _ (register_made c) (λ t g. and_from _ _ h g)))

jump_made : (a : Piece) → IfOk (jump_of a) Bounded
jump_made a = then_made Any Bounded (named_in a) _ (made_any _) (λ n _. refl)

branch_made : (o : Condition) (a b c : Piece) → IfOk (branch_of o a b c) Bounded
branch_made o a b c =
    then_made IsRegister Bounded (register_of a) _ (register_made a)
    (λ l h. then_made IsOperand Bounded (operand_of b) _ (operand_made b)
    (λ s g. then_made Any Bounded (named_in c) _ (made_any _) (λ n _. and_from _ _ h g)))

instruction_made : (p : Place) (m : Mnemonic) (ps : List Piece) → IfOk (instruction_of p m ps) Bounded
instruction_made p word.Mov ps = given_made Bounded (two_in ps) _ (Form p) (λ q. mov_made q.0 q.1)
instruction_made p (word.Alu op) ps = given_made Bounded (two_in ps) _ (Form p) (λ q. alu_made op q.0 q.1)
instruction_made p (word.Load w) ps = given_made Bounded (three_in ps) _ (Form p) (λ q. load_made w q.0 q.1 q.2)
instruction_made p (word.Store w) ps = given_made Bounded (three_in ps) _ (Form p) (λ q. store_made w q.0 q.1 q.2)
instruction_made p word.Jump ps = given_made Bounded (one_in ps) _ (Form p) jump_made
instruction_made p (word.Branch c) ps = given_made Bounded (three_in ps) _ (Form p) (λ q. branch_made c q.0 q.1 q.2)
instruction_made p word.Ret ps = cond_both (eqb (length ps) 0) (Ok Ret) (Err (Form p)) (λ r. IfOk r Bounded) (λ _. refl) (λ _. tt)

known_made : (p : Place) (o : Option Mnemonic) (ps : List Piece) → IfOk (known_of p o ps) Bounded
known_made p None ps = tt
known_made p (Some m) ps = instruction_made p m ps

abbrev pub FineStatement : Statement Piece → Type 0
FineStatement (Label n) = Unit {0}
FineStatement (Instructs i) = Bounded i

instructs_made : (r : Result (Instruction Piece) LineFault) → IfOk r Bounded → IfOk (instructs r) FineStatement
instructs_made (Ok i) h = h
instructs_made (Err e) h = tt

statement_made : (first : Piece) (rest : List Piece) → IfOk (statement_of first rest) FineStatement
statement_made first rest =
    cond_both (is_label first rest) (labels (named_in (unmarked first))) (instructs (known_of first.place (mnemonic_in first.bytes) rest)) (λ r. IfOk r FineStatement)
    (λ _. then_made Any FineStatement (named_in (unmarked first)) _ (made_any _) (λ n _. tt))
    (λ _. instructs_made _ (known_made first.place (mnemonic_in first.bytes) rest))

pub said_made : (l : Fields) → IfOk (said l) FineStatement
said_made [] = tt
said_made (p ∷ ps) = statement_made p ps
