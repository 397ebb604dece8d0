-- Iterators over a list, and over the characters of a text, stay at their end.
use Rattle.std.specs.Char.{encode_utf8}
use Rattle.std.specs.Iterator.{YieldsFirst}
use Rattle.std.specs.Str.Iter.{char_indices_steps, char_indices_rest}
use Rattle.std.proofs.Common.{List, length, ap, sym, ◌∙◌, arith, length-append}
use Rattle.std.proofs.lemmas.Str.{length-encode, len_utf8_bounds}
use Rattle.winnow_stream.specs.Fused.{IsFused}

-- an iterator over a list that it shows stays at its end
pub IsFused-YieldsFirst : {S A : Type 0} (rest : S → List A) → IsFused (YieldsFirst rest)
IsFused-YieldsFirst rest s t u x e f = omega (arith, ap length (sym e.1 ∙ f))

-- `char_indices` stays at its end
pub IsFused-char_indices : IsFused char_indices_steps
IsFused-char_indices s t u x e f =
    omega (arith, e.0, ap (λ i. length (char_indices_rest i)) e.1, ap length f.1, length-append (encode_utf8 x.1) (char_indices_rest u), length-encode x.1, (len_utf8_bounds x.1).0)
