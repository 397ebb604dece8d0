-- Which bytes spell a request.
use Rattle.std.specs.Prelude.{ℕ}
use Rattle.winnow_codec.specs.Formats.{Spelling}
use Rattle.winnow_codec.specs.Byte.{SpellsByte}
use Rattle.winnow_codec.specs.Bytes.{SpellsBytesAfter}
use Rattle.winnow_codec.specs.Cases.{SpellsTagged, SpellsCase, SpellsLast, case_tag, only_tag}
use Rattle.winnow_codec.specs.Known.{SpellsAfter, SpellsExactly}
use Rattle.winnow_codec.specs.FormatNumbers.{SpellsNumber, big_endian, unsigned}
use Rattle.winnow_codec.specs.FormatParts.{SpellsParts}
use Rattle.winnow_codec.specs.FormatRows.{SpellsPair, SpellsRow3}
use Rattle.example_socks.specs.Commands.{command_code}
use Rattle.example_socks.specs.Targets.{target_case}
use Rattle.example_socks.specs.declared.request.Request.{Request}
use Rattle.example_socks.specs.declared.target.Target.{Target}

-- a number of so many bytes, the most significant first
abbrev pub SpellsBig : ℕ → Spelling ℕ
SpellsBig count = SpellsNumber big_endian count unsigned

-- 1 and an address of four bytes; 3 and a name after its length; or 4 and an address of sixteen
-- bytes
abbrev pub SpellsTarget : Spelling Target
SpellsTarget = SpellsParts target_case (SpellsTagged SpellsByte (case_tag 1 (case_tag 3 (only_tag 4)))
    (SpellsCase 1 (SpellsBig 4) (SpellsCase 3 (SpellsBytesAfter (SpellsBig 1))
    (SpellsLast 4 (SpellsPair (SpellsBig 8) (SpellsBig 8))))))

-- 5, the code of the command, 0, the target, and the port in two bytes
abbrev pub SpellsRequest : Spelling Request
SpellsRequest = SpellsParts (λ r. (r.command, r.target, r.port))
    (SpellsRow3 (SpellsAfter (SpellsExactly SpellsByte 5) (SpellsParts command_code SpellsByte))
    (SpellsAfter (SpellsExactly SpellsByte 0) SpellsTarget) (SpellsBig 2))
