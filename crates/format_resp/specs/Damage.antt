-- Where a reply breaks off, and for which cause: the source begins with bytes that begin a reply,
-- and the rest does not continue it. If more input is needed, nothing is left, and the missing
-- bytes may still come.
use Rattle.std.specs.Prelude.{◌≡◌, ℕ, zero, suc, ◌<◌, Bool, true, if◌then◌else◌, List, [], ◌∷◌, length, Option, Some, IfSome, IsFalse, ◌⊎◌}
use Rattle.winnow_stream.specs.Source.{Source, first_token}
use Rattle.format_lemmas.specs.Bytes.{bytes_of, StartsWith}
use Rattle.format_resp.specs.Language.{is_in_line, IsText, line, IsInteger, IsLength, greatest_count, SpellAll, SpellsNone, Spells}
use Rattle.format_resp.specs.Meanings.{is_kind, most_digits}
use Rattle.format_resp.specs.Ahead.{IsAhead}
use Rattle.format_resp.specs.declared.reply.Reply.{Reply}
use Rattle.format_resp.specs.declared.causes.Cause.{Cause}
use Rattle.format_resp.specs.declared.causes.Cause.TheVariants.{EndsInside, NoKind, TooDeep, NoInteger, NoLength, TooLong, NoLineEnd}

-- what is wrong where the rest stands: the input ends there, or else this
abbrev pub cause_at : Source ℕ → Cause → Cause
cause_at [] cause = EndsInside
cause_at (x ∷ rest) cause = cause

-- the first byte is that of no kind, or there is none
abbrev pub HasNoKind : Source ℕ → Type 0
HasNoKind whole = IfSome (first_token whole) (λ c. IsFalse (is_kind c))

-- CR is missing at the rest, or LF after CR
abbrev pub LacksEnd : Source ℕ → Source ℕ → Type 0
LacksEnd whole rest = ((whole ≡ rest) × ¬ (StartsWith 13 (bytes_of rest)))
    ⊎ (IsAhead whole (13 ∷ []) rest × ¬ (StartsWith 10 (bytes_of rest)))

-- a line end breaks off at the rest, since CR or LF is missing there
abbrev pub EndBreaksOff : Cause → Source ℕ → Source ℕ → Type 0
EndBreaksOff cause whole rest = (cause ≡ cause_at rest NoLineEnd) × LacksEnd whole rest

-- the text of a line ends before the rest: it has as many bytes as are allowed, or the rest begins
-- with CR or LF, or is empty
abbrev pub EndsText : ℕ → List ℕ → Source ℕ → Type 0
EndsText longest text rest = (length text ≡ longest) ⊎ IfSome (first_token rest) (λ c. IsFalse (is_in_line c))

-- a line with a text of at most `longest` bytes breaks off at the rest: the line end after it does
abbrev pub LineBreaksOff : Cause → ℕ → Source ℕ → Source ℕ → Type 0
LineBreaksOff cause longest whole rest = (text : List ℕ) × ((end : Source ℕ)
    × (IsAhead whole text end × IsText longest text × EndsText longest text end × EndBreaksOff cause end rest))

-- a line with a number breaks off at the rest: the line does; or the whole of it is left, since its
-- text is no number, and is wrong
abbrev pub NumberBreaksOff : {R : Type 0} → (List ℕ → R → Type 0) → (List ℕ → Type 0) → Cause
    → Source ℕ → Source ℕ → Type 0
NumberBreaksOff {R} is_number is_wrong cause whole rest = LineBreaksOff cause most_digits whole rest
    ⊎ ((whole ≡ rest) × ((text : List ℕ) × ((after : Source ℕ) × (IsAhead whole (line text) after
    × IsText most_digits text × ((number : R) → ¬ (is_number text number)) × is_wrong text))))

-- the text of an integer is wrong for this cause
abbrev pub IsWrongInteger : Cause → List ℕ → Type 0
IsWrongInteger cause text = cause ≡ NoInteger

-- the text of a length is wrong: it is no length; or it is one, and is above what is allowed
abbrev pub IsWrongLength : Cause → Cause → List ℕ → Type 0
IsWrongLength above cause text =
    ((cause ≡ NoLength) × ((n : Option ℕ) → ¬ (IsLength greatest_count text n)))
    ⊎ ((cause ≡ above) × ((n : ℕ) × IsLength greatest_count text (Some n)))

-- this number of bytes and a line end break off at the rest: there are fewer, and all of them are
-- left, unless more is needed; or the line end after them breaks off
abbrev pub BytesBreakOff : Bool → Cause → ℕ → Source ℕ → Source ℕ → Type 0
BytesBreakOff needs_more cause count whole rest =
    ((cause ≡ EndsInside) × (length whole < count) × (rest ≡ (if needs_more then [] else whole)))
    ⊎ ((held : List ℕ) × ((end : Source ℕ) × (IsAhead whole held end × (length held ≡ count) × EndBreaksOff cause end rest)))

-- a bulk string breaks off at the rest, after the byte of its kind: its length does, or its bytes
abbrev pub BulkBreaksOff : Bool → Cause → ℕ → Source ℕ → Source ℕ → Type 0
BulkBreaksOff needs_more cause longest whole rest =
    NumberBreaksOff (IsLength longest) (IsWrongLength TooLong cause) cause whole rest
    ⊎ ((text : List ℕ) × ((count : ℕ) × ((after : Source ℕ) × (IsLength longest text (Some count)
    × IsAhead whole (line text) after × BytesBreakOff needs_more cause count after rest))))

-- where relations say what spells the replies in an array, and how one of them breaks off
module _ (spells : Reply → List ℕ → Type 0) (stops : Source ℕ → Source ℕ → Type 0) where
  -- this number of replies breaks off at the rest: after fewer of them, one does
  abbrev pub ElementsBreakOff : ℕ → Source ℕ → Source ℕ → Type 0
  ElementsBreakOff count whole rest = (replies : List Reply) × ((bytes : List ℕ) × ((next : Source ℕ)
      × (IsAhead whole bytes next × SpellAll spells replies bytes × (length replies < count) × stops next rest)))

  -- an array of at most that many replies breaks off at the rest, after the byte of its kind: its
  -- length does, or its replies
  abbrev pub ArrayBreaksOff : Cause → ℕ → Source ℕ → Source ℕ → Type 0
  ArrayBreaksOff cause most whole rest =
      NumberBreaksOff (IsLength most) (IsWrongLength TooDeep cause) cause whole rest
      ⊎ ((text : List ℕ) × ((count : ℕ) × ((after : Source ℕ) × (IsLength most text (Some count)
      × IsAhead whole (line text) after × ElementsBreakOff count after rest))))

  -- after the byte of this kind a reply breaks off at the rest
  abbrev pub BodyBreaksOff : Bool → Cause → ℕ → ℕ → ℕ → Source ℕ → Source ℕ → Type 0
  BodyBreaksOff needs_more cause longest most kind whole rest =
      (((kind ≡ 43) ⊎ (kind ≡ 45)) × LineBreaksOff cause longest whole rest)
      ⊎ (((kind ≡ 58) × NumberBreaksOff IsInteger (IsWrongInteger cause) cause whole rest)
      ⊎ (((kind ≡ 36) × BulkBreaksOff needs_more cause longest whole rest)
      ⊎ ((kind ≡ 42) × ArrayBreaksOff cause most whole rest)))

  -- a reply breaks off at the rest, after the byte of a kind
  abbrev pub LayerBreaksOff : Bool → Cause → ℕ → ℕ → Source ℕ → Source ℕ → Type 0
  LayerBreaksOff needs_more cause longest most whole rest = (kind : ℕ) × ((after : Source ℕ)
      × ((is_kind kind ≡ true) × IsAhead whole (kind ∷ []) after
      × BodyBreaksOff needs_more cause longest most kind after rest))

-- no reply begins here, so the rest is all that stands here
abbrev pub BeginsNone : Cause → Source ℕ → Source ℕ → Type 0
BeginsNone cause whole rest = (whole ≡ rest) × HasNoKind whole × (cause ≡ cause_at rest NoKind)

-- no reply begins here; or a reply breaks off at the rest
abbrev pub StopsAt : Cause → (Source ℕ → Source ℕ → Type 0) → Source ℕ → Source ℕ → Type 0
StopsAt cause breaks whole rest = BeginsNone cause whole rest ⊎ breaks whole rest

-- a reply within the limits breaks off at the rest for this cause. At depth 0 an array has no
-- replies, so none breaks off in it
abbrev pub BreaksOff : Bool → Cause → ℕ → ℕ → Source ℕ → Source ℕ → Type 0
BreaksOff needs_more cause longest zero =
    LayerBreaksOff SpellsNone (λ whole rest. ⊥) needs_more cause longest 0
BreaksOff needs_more cause longest (suc depth) =
    LayerBreaksOff (Spells longest depth) (StopsAt cause (BreaksOff needs_more cause longest depth)) needs_more cause longest greatest_count
