-- The arguments of heads (RFC 8949, section 3).
use Rattle.std.specs.Prelude.{◌≡◌, ℕ, ◌%◌, nat_lt, ◌==◌, if◌then◌else◌, []}
use Rattle.std.proofs.Common.{sym, ◌∙◌}
use Rattle.winnow_codec.specs.Formats.{Spelling, IsFormat, IsEqual}
use Rattle.winnow_codec.specs.FormatNumbers.{bytes_in, big_endian, unsigned, SpellsNumber, IsFormat-Number}
use Rattle.winnow_codec.specs.Orders.{IsOrder-big}
use Rattle.winnow_codec.specs.declared.widths.Width.TheVariants.{One, Two, Four, Eight}
use Rattle.format_cbor.specs.declared.argument.Argument.{Argument}
use Rattle.format_cbor.specs.declared.argument.Argument.TheVariants.{Held, Following, Missing}

-- what the additional information says, the lower five bits of an initial byte: less than 24 is the
-- argument itself; 24, 25, 26 and 27 say that it follows in 1, 2, 4 and 8 bytes; 28, 29 and 30 are
-- reserved, and 31 begins an indefinite length, which has no argument
abbrev pub argument_of : ℕ → Argument
argument_of information = if nat_lt information 24 then Held information
    else if information == 24 then Following One
    else if information == 25 then Following Two
    else if information == 26 then Following Four
    else if information == 27 then Following Eight
    else Missing

-- what an initial byte says of the argument
abbrev pub argument_after : ℕ → Argument
argument_after first = argument_of (first % 32)

-- a number in this number of bytes, the most significant first
abbrev pub SpellsBig : ℕ → Spelling ℕ
SpellsBig count = SpellsNumber big_endian count unsigned

-- which bytes after the initial byte spell an argument
abbrev pub SpellsArgument : Argument → Spelling ℕ
SpellsArgument (Held number) n bytes = (n ≡ number) × (bytes ≡ [])
SpellsArgument (Following width) n bytes = SpellsBig (bytes_in width) n bytes
SpellsArgument Missing n bytes = ⊥

pub IsFormat-Argument : (a : Argument) → IsFormat IsEqual (SpellsArgument a)
IsFormat-Argument (Held number) = record {
  canonical = λ v b c h k. h.1 ∙ sym k.1;
  prefix_free = λ v w b c r s h k e. (h.0 ∙ sym k.0, h.1 ∙ sym k.1);
}
IsFormat-Argument (Following width) =
    IsFormat-Number big_endian (bytes_in width) (IsOrder-big.count width) (IsOrder-big.tells width) unsigned (λ _ _ _ _ e. e)
IsFormat-Argument Missing = record {
  canonical = λ v b c h k. absurd h;
  prefix_free = λ v w b c r s h k e. absurd h;
}
