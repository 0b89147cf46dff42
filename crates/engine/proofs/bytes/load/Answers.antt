use Rattle.std.proofs.Common.{◌≡◌, ℕ, ◌+◌, ◌-◌, ◌≤◌, List, length, take, drop, sym, ap, ◌∙◌, arith}
use Rattle.std.proofs.lemmas.List.{length-take, length-drop}
use Rattle.std.specs.Int.{w64, from_le_bytes}
use borrow.Rule.Slice.PartMut.{put_mid}
use Rattle.words.specs.Widths.{bytes_of}
use Rattle.words.specs.declared.width.Width.{Width}
use Rattle.words.specs.declared.width.Width.TheVariants.{W8, W16, W32, W64}
use Rattle.machine.specs.Memory.{part}
use Rattle.engine.proofs.Loading.{part_bytes, zeros, word_over}
use Rattle.engine.proofs.bytes.load.Goals as goal

few-bytes : (w : Width) → bytes_of w ≤ 8
few-bytes W8 = omega arith
few-bytes W16 = omega arith
few-bytes W32 = omega arith
few-bytes W64 = omega arith

pub returns : goal.returns
returns c =
    let m = c.args.memory.now in
    let a = c.args.at in
    let w = c.args.width in
    let n = c.bytes-count.result in
    let bs = part m a (bytes_of w) in
    let read : c.from_le_bytes.result ≡ from_le_bytes w64 (put_mid 0 n zeros c.copy_from_slice.new.self) = c.from_le_bytes.ensures in
    let width : a + n - a ≡ bytes_of w = omega (arith, c.bytes-count.ensures) in
    let copied : c.copy_from_slice.new.self ≡ bs = c.copy_from_slice.ensures.after ∙ ap (λ k. take k (drop a m)) width in
    let long : length bs ≡ bytes_of w = simp (length-take, length-drop) (omega (arith, c.requires)) in
    let few = few-bytes w in
    read
    ∙ ap (λ (xs : List ℕ). from_le_bytes w64 (put_mid 0 n zeros xs)) copied
    ∙ ap (λ (k : ℕ). from_le_bytes w64 (put_mid 0 k zeros bs)) (c.bytes-count.ensures ∙ sym long)
    ∙ word_over bs (omega arith) (part_bytes m a (bytes_of w) (λ i. (c.type_inv.memory i).fits))
