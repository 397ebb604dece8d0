use Rattle.winnow_ascii.specs.HexUint.{ReadsText}
use Rattle.winnow_ascii.proofs.lemmas.OneAnswerLemmas.{determined-read, determined-hex_uint, determined-dec_uint, determined-dec_int}
use Rattle.winnow_ascii.proofs.laws.determined_number_law.Goals as goal

pub returns-clause-unsigned : goal.returns-clause-unsigned
returns-clause-unsigned g c = λ view fronts alike.
    determined-read view g.I.Stream.is_slice fronts g.I.Slice.ParseSlice.reads alike _ (determined-dec_uint g.E.ParserError.or_refusable g.E.ParserError.append_refusable g.I.Stream.is_slice g.I.Token.AsChar.code)

pub returns-clause-signed : goal.returns-clause-signed
returns-clause-signed g c = λ view fronts alike.
    determined-read view g.I.Stream.is_slice fronts g.I.Slice.ParseSlice.reads alike _ (determined-dec_int g.E.ParserError.or_refusable g.E.ParserError.append_refusable g.I.Stream.is_slice g.I.Token.AsChar.code)

pub returns-clause-hexadecimal : goal.returns-clause-hexadecimal
returns-clause-hexadecimal g c = λ view fronts alike.
    determined-hex_uint view g.I.Stream.is_slice fronts (λ s. ReadsText g.H.HexUint.reads (g.I.Slice.AsBStr.text_bytes s)) alike g.I.Token.AsChar.code g.H.HexUint.nibbles
