-- Messages (RFC 1035, section 4.1): a header, and as many questions and records as it says.
use Rattle.std.specs.declared.alloc.Global.{Global}
use Rattle.std.specs.Prelude.{Vec, ◌≡◌, ℕ, List, length}
use Rattle.std.proofs.Common.{ap, sym, ◌∙◌}
use Rattle.winnow_codec.specs.Formats.{Spelling, IsFormat, IsEqual}
use Rattle.winnow_codec.specs.FormatNumbers.{SpellsNumber, big_endian, unsigned, IsFormat-Number}
use Rattle.winnow_codec.specs.Orders.{IsOrder-big}
use Rattle.winnow_codec.specs.Bytes.{SpellsBytesAfter, HaveSameBytes, IsFormat-BytesAfter}
use Rattle.winnow_codec.specs.declared.widths.Width.TheVariants.{Two, Four}
use Rattle.winnow_codec.specs.FormatParts.{SpellsParts, HaveSameParts, IsFormat-Parts}
use Rattle.winnow_codec.specs.FormatRows.{SpellsPair, SpellsRow3, SpellsRow4, SpellsRow5, AreSame3, AreSame4, AreSame5, IsFormat-Row3, IsFormat-Row4, IsFormat-Row5}
use Rattle.winnow_codec.specs.Cases.{AreCases, SpellsTagged}
use Rattle.winnow_codec.specs.Lists.{SpellsItems, HaveSameItems, IsFormat-Items}
use Rattle.format_dns.specs.Names.{SpellsName, AreSameName, IsFormat-Name}
use Rattle.format_dns.specs.declared.name.Name.{Name}
use Rattle.format_dns.specs.declared.entries.Question.{Question}
use Rattle.format_dns.specs.declared.entries.Record.{Record}
use Rattle.format_dns.specs.declared.message.Message.{Message}

-- a number of two or four bytes, the most significant first
abbrev pub SpellsTwo : Spelling ℕ
SpellsTwo = SpellsNumber big_endian 2 unsigned

abbrev pub SpellsFour : Spelling ℕ
SpellsFour = SpellsNumber big_endian 4 unsigned

-- ---- Questions and records

-- a name, a type and a class
abbrev pub question_fields : Question → Name × ℕ × ℕ
question_fields q = (q.name, q.kind, q.class)

abbrev pub SpellsQuestion : Spelling Question
SpellsQuestion = SpellsParts question_fields (SpellsRow3 SpellsName SpellsTwo SpellsTwo)

abbrev pub AreSameQuestion : Question → Question → Type 0
AreSameQuestion = HaveSameParts question_fields (AreSame3 AreSameName IsEqual IsEqual)

-- a name, a type, a class, a number of seconds, and the data after the number of their bytes
abbrev pub record_fields : Record → Name × ℕ × ℕ × ℕ × Vec ℕ Global
record_fields r = (r.name, r.kind, r.class, r.seconds, r.data)

abbrev pub SpellsRecord : Spelling Record
SpellsRecord =
    SpellsParts record_fields (SpellsRow5 SpellsName SpellsTwo SpellsTwo SpellsFour (SpellsBytesAfter SpellsTwo))

abbrev pub AreSameRecord : Record → Record → Type 0
AreSameRecord = HaveSameParts record_fields (AreSame5 AreSameName IsEqual IsEqual IsEqual HaveSameBytes)

-- ---- Messages

-- the number and the flags of a message, and how many questions, answers, authorities and other
-- records there are
abbrev pub header_of : Message → (ℕ × ℕ) × (ℕ × ℕ) × (ℕ × ℕ)
header_of m = (
  (m.id, m.flags),
  (length m.questions.items, length m.answers.items),
  (length m.authorities.items, length m.additionals.items),
)

-- each number of a header has two bytes
abbrev pub SpellsHeader : Spelling ((ℕ × ℕ) × (ℕ × ℕ) × (ℕ × ℕ))
SpellsHeader = SpellsRow3 (SpellsPair SpellsTwo SpellsTwo) (SpellsPair SpellsTwo SpellsTwo) (SpellsPair SpellsTwo SpellsTwo)

-- the lists of a message
abbrev pub sections_of : Message
    → Vec Question Global × Vec Record Global × Vec Record Global × Vec Record Global
sections_of m = (m.questions, m.answers, m.authorities, m.additionals)

-- as many questions and records as this header says, one after the other
abbrev pub SpellsLists : (ℕ × ℕ) × (ℕ × ℕ) × (ℕ × ℕ)
    → Spelling (Vec Question Global × Vec Record Global × Vec Record Global × Vec Record Global)
SpellsLists h = SpellsRow4 (SpellsItems SpellsQuestion h.1.0) (SpellsItems SpellsRecord h.1.1)
    (SpellsItems SpellsRecord h.2.0) (SpellsItems SpellsRecord h.2.1)

-- the message has the number and the flags of this header, and those lists
abbrev pub SpellsSections : (ℕ × ℕ) × (ℕ × ℕ) × (ℕ × ℕ) → Spelling Message
SpellsSections h m bytes = (h.0 ≡ (m.id, m.flags)) × SpellsLists h (sections_of m) bytes

-- the header, and what it says
abbrev pub SpellsMessage : Spelling Message
SpellsMessage = SpellsTagged SpellsHeader header_of SpellsSections

-- one number, the same flags, and the same questions and records
abbrev pub AreSameMessage : Message → Message → Type 0
AreSameMessage v w = (v.id ≡ w.id) × (v.flags ≡ w.flags)
    × HaveSameParts sections_of (AreSame4 (HaveSameItems AreSameQuestion) (HaveSameItems AreSameRecord)
    (HaveSameItems AreSameRecord) (HaveSameItems AreSameRecord)) v w

-- ---- The laws of formats

pub IsFormat-Two : IsFormat IsEqual SpellsTwo
IsFormat-Two =
    IsFormat-Number big_endian 2 (IsOrder-big.count Two) (IsOrder-big.tells Two) unsigned (λ _ _ _ _ e. e)

pub IsFormat-Four : IsFormat IsEqual SpellsFour
IsFormat-Four =
    IsFormat-Number big_endian 4 (IsOrder-big.count Four) (IsOrder-big.tells Four) unsigned (λ _ _ _ _ e. e)

pub IsFormat-Question : IsFormat AreSameQuestion SpellsQuestion
IsFormat-Question =
    IsFormat-Parts question_fields (AreSame3 AreSameName IsEqual IsEqual) (SpellsRow3 SpellsName SpellsTwo SpellsTwo)
    (IsFormat-Row3 AreSameName IsEqual IsEqual SpellsName SpellsTwo SpellsTwo IsFormat-Name IsFormat-Two IsFormat-Two)

pub IsFormat-Record : IsFormat AreSameRecord SpellsRecord
IsFormat-Record =
    IsFormat-Parts record_fields (AreSame5 AreSameName IsEqual IsEqual IsEqual HaveSameBytes)
    (SpellsRow5 SpellsName SpellsTwo SpellsTwo SpellsFour (SpellsBytesAfter SpellsTwo))
    (IsFormat-Row5 AreSameName IsEqual IsEqual IsEqual HaveSameBytes SpellsName SpellsTwo SpellsTwo SpellsFour (SpellsBytesAfter SpellsTwo) IsFormat-Name IsFormat-Two IsFormat-Two IsFormat-Four (IsFormat-BytesAfter IsEqual SpellsTwo (λ m n e. e) IsFormat-Two))

module _ (h : (ℕ × ℕ) × (ℕ × ℕ) × (ℕ × ℕ)) where
  -- the lists that this header says
  lists : IsFormat (AreSame4 (HaveSameItems AreSameQuestion) (HaveSameItems AreSameRecord)
      (HaveSameItems AreSameRecord) (HaveSameItems AreSameRecord)) (SpellsLists h)
  lists = IsFormat-Row4 _ _ _ _ _ _ _ _ (IsFormat-Items AreSameQuestion SpellsQuestion IsFormat-Question h.1.0)
      (IsFormat-Items AreSameRecord SpellsRecord IsFormat-Record h.1.1)
      (IsFormat-Items AreSameRecord SpellsRecord IsFormat-Record h.2.0)
      (IsFormat-Items AreSameRecord SpellsRecord IsFormat-Record h.2.1)

  -- a message has the header that its lists have
  one-header : (m : Message) (bytes : List ℕ) → SpellsSections h m bytes → h ≡ header_of m
  one-header m bytes (e, (x, y, (a, (z, w, (b, (t, u, (c, d, f)), g)), k))) =
      λ i. (e i, (sym a.0 i, sym b.0 i), (sym c.0 i, sym d.0 i))

pub AreCases-Sections : AreCases AreSameMessage header_of SpellsSections
AreCases-Sections = record {
  formats = λ h. record {
    canonical = λ v b c i j. (lists h).canonical (sections_of v) b c i.1 j.1;
    prefix_free = λ v w b c r s i j e.
        let p = (lists h).prefix_free (sections_of v) (sections_of w) b c r s i.1 j.1 e in
        ((ap (λ f. f.0) (sym i.0 ∙ j.0), ap (λ f. f.1) (sym i.0 ∙ j.0), p.0), p.1);
  };
  one_tag = λ h m bytes i. one-header h m bytes i;
}
