-- The scan of a reply: 10 is LF and 13 CR; 36 is $, 42 *, 43 +, 45 - and 58 a colon.
use Rattle.std.specs.Prelude.{◌≡◌, ◌≢◌, ℕ, zero, suc, ◌+◌, ◌==◌, Bool, false, ◌||◌, List, [], ◌∷◌, ◌++◌, length, Some, ◌⊎◌, ⊤}
use Rattle.winnow_stream.specs.Source.{Source, units}
use Rattle.format_resp.specs.Language.{IsText, line, IsLength, Spells}
use Rattle.format_resp.specs.Meanings.{most_digits}
use Rattle.format_resp.specs.Damage.{StopsAt, BreaksOff}
use Rattle.format_resp.specs.declared.causes.Cause.{Cause}
use Rattle.format_resp.specs.declared.causes.Cause.TheVariants.{EndsInside}
use Rattle.format_resp.specs.declared.reply.Reply.{Reply}
use Rattle.format_resp.specs.declared.scan.Part.{Part}
use Rattle.format_resp.specs.declared.scan.Part.TheVariants.{Begin, Text, TextEnd, Number, NumberEnd, Held, HeldEnd}
use Rattle.format_resp.specs.declared.scan.ReplyScan.{ReplyScan}

-- ---- What is settled by bytes to which more may come

module _ (longest : ℕ) where
  -- a reply breaks off among the bytes, and not since they end
  abbrev pub Breaks : ℕ → List ℕ → Type 0
  Breaks depth bytes = (cause : Cause) × ((rest : Source ℕ)
      × ((cause ≢ EndsInside) × StopsAt cause (BreaksOff false cause longest depth) (units bytes) rest))

  -- the bytes begin with a reply, and this holds of the rest; or a reply breaks off
  abbrev pub Settles : ℕ → (List ℕ → Type 0) → List ℕ → Type 0
  Settles depth Then bytes = ((reply : Reply) × ((one : List ℕ) × ((rest : List ℕ)
      × ((bytes ≡ one ++ rest) × Spells longest depth reply one × Then rest)))) ⊎ Breaks depth bytes

  -- the bytes begin with that many replies, and this holds of the rest; or one of them breaks off
  abbrev pub AllSettle : ℕ → ℕ → (List ℕ → Type 0) → List ℕ → Type 0
  AllSettle depth zero Then bytes = Then bytes
  AllSettle depth (suc n) Then bytes = Settles depth (AllSettle depth n Then) bytes

  -- where so many more replies are wanted in each open array, the innermost first, so are those at
  -- the front of the bytes
  abbrev pub Follow : ℕ → List ℕ → List ℕ → Type 0
  Follow depth [] bytes = ⊤
  Follow depth (n ∷ ns) bytes = AllSettle depth n (Follow (suc depth) ns) bytes

-- ---- What the scan keeps

-- the byte is the kind of a text
abbrev pub is_text_kind : ℕ → Bool
is_text_kind kind = 43 == kind || 45 == kind

-- a text follows the byte of this kind
abbrev pub IsTextKind : ℕ → Type 0
IsTextKind kind = (kind ≡ 43) ⊎ (kind ≡ 45)

-- a number follows the byte of this kind
abbrev pub IsNumberKind : ℕ → Type 0
IsNumberKind kind = (kind ≡ 58) ⊎ ((kind ≡ 36) ⊎ (kind ≡ 42))

-- the bytes of the reply that has begun, up to this part of it
abbrev pub IsPart : ℕ → Part → List ℕ → List ℕ → Type 0
IsPart longest Begin digits begun = begun ≡ []
IsPart longest (Text n) digits begun = (kind : ℕ) × ((text : List ℕ)
    × ((begun ≡ kind ∷ text) × IsTextKind kind × IsText longest text × (length text ≡ n)))
IsPart longest TextEnd digits begun = (kind : ℕ) × ((text : List ℕ)
    × ((begun ≡ kind ∷ (text ++ 13 ∷ [])) × IsTextKind kind × IsText longest text))
IsPart longest (Number kind) digits begun =
    (begun ≡ kind ∷ digits) × IsNumberKind kind × IsText most_digits digits
IsPart longest (NumberEnd kind) digits begun =
    (begun ≡ kind ∷ (digits ++ 13 ∷ [])) × IsNumberKind kind × IsText most_digits digits
IsPart longest (Held left) digits begun = (text : List ℕ) × ((held : List ℕ)
    × ((begun ≡ 36 ∷ (line text ++ held)) × IsLength longest text (Some (length held + left))))
IsPart longest HeldEnd digits begun = (text : List ℕ) × ((held : List ℕ)
    × ((begun ≡ 36 ∷ (line text ++ (held ++ 13 ∷ []))) × IsLength longest text (Some (length held))))

-- whatever comes after the bytes, what settles the reply that they begin settles the one that has
-- begun, and then those that are wanted
abbrev pub Leads : ℕ → ℕ → List ℕ → ℕ → List ℕ → List ℕ → Type 0
Leads longest depth bytes inner wanted begun =
    (more : List ℕ) → Settles longest depth (λ rest. ⊤) (bytes ++ more)
    → Settles longest inner (Follow longest inner wanted) (begun ++ more)

-- a scan of these bytes may be there
abbrev pub IsScanned : ℕ → ℕ → List ℕ → ReplyScan → Type 0
IsScanned longest depth bytes scan = (inner : ℕ) × ((begun : List ℕ)
    × ((inner + length scan.wanted ≡ depth) × IsPart longest scan.part scan.digits begun
    × Leads longest depth bytes inner scan.wanted begun))
