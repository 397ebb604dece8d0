-- Which bytes spell a term.
use Rattle.std.specs.Prelude.{ℕ}
use Rattle.std.specs.Int.{w32, cast_signed}
use Rattle.winnow_codec.specs.Byte.{SpellsByte}
use Rattle.winnow_codec.specs.Bytes.{SpellsBytesAfter}
use Rattle.winnow_codec.specs.Cases.{SpellsTagged, SpellsCase, SpellsLast, case_tag, only_tag}
use Rattle.winnow_codec.specs.Formats.{Spelling}
use Rattle.winnow_codec.specs.FormatNumbers.{SpellsNumber, big_endian, unsigned}
use Rattle.winnow_codec_nested.specs.Layered.{SpellsNested, AreSameNested}
use Rattle.example_terms.specs.Layers.{Head, head_of, held, count_after, AreSameHead}
use Rattle.example_terms.specs.declared.term.Term.{Term}

-- a number of this many bytes, the most significant first
abbrev pub SpellsBig : ℕ → Spelling ℕ
SpellsBig count = SpellsNumber big_endian count unsigned

-- 97 and an integer of one byte; 98 and one of four; 104 and how many terms follow; or 109, how
-- many bytes follow, and those
abbrev pub SpellsHead : Spelling Head
SpellsHead = SpellsTagged SpellsByte (case_tag 97 (case_tag 98 (case_tag 104 (only_tag 109))))
    (SpellsCase 97 (SpellsBig 1) (SpellsCase 98 (SpellsNumber big_endian 4 (cast_signed w32))
    (SpellsCase 104 (SpellsBig 1) (SpellsLast 109 (SpellsBytesAfter (SpellsBig 4))))))

-- the head of a term, and then the terms that it holds, in at most this many layers
abbrev pub SpellsTerm : ℕ → Spelling Term
SpellsTerm depth = SpellsNested SpellsHead head_of held count_after depth

-- the terms are the same in all layers
abbrev pub AreSameTerm : Term → Term → Type 0
AreSameTerm = AreSameNested AreSameHead head_of held
