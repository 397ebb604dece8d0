-- Where a value breaks off: what stands before the rest is the beginning of a value, and what the
-- rest begins with does not go on with it. A word and a number break off where they begin, and a
-- string where a character of it does.
use Rattle.std.specs.Prelude.{◌≡◌, ℕ, zero, suc, Bool, List, [], ◌∷◌, drop, ◌⊎◌, ⊤}
use Rattle.std.specs.declared.string.String.{String}
use Rattle.std.specs.declared.alloc.Global.{Global}
use Rattle.format_lemmas.specs.Bytes.{StartsWith}
use Rattle.format_json_scalars.specs.StringAnswers.{IsDamagedAt, StringHere}
use Rattle.format_json.specs.Language.{after_blanks, MemberAhead, ValueAhead, ValueHere}
use Rattle.format_json.specs.Founds.{HasNone}
use Rattle.format_json.specs.declared.found.Found.{Found}
use Rattle.format_json.specs.declared.found.Found.TheVariants.{Whole, Begun, Damaged}

-- the bytes begin neither with a string nor with an array nor with an object, so they are the rest
abbrev pub BeginsNoOther : List ℕ → List ℕ → Type 0
BeginsNoOther bytes rest =
    (rest ≡ bytes) × ¬ (StartsWith 34 bytes) × ¬ (StartsWith 91 bytes) × ¬ (StartsWith 123 bytes)

-- nor do they begin with a word or a number, no matter what follows
abbrev pub NoneBegins : Bool → List ℕ → List ℕ → Type 0
NoneBegins partial bytes rest =
    BeginsNoOther bytes rest × HasNone (ValueHere partial zero) partial bytes

-- a string that must stand at the bytes breaks off at the rest: no quote stands first, or the
-- string is damaged there
abbrev pub StringBreaksOff : Bool → List ℕ → List ℕ → Type 0
StringBreaksOff partial bytes rest =
    ((rest ≡ bytes) × ¬ (StartsWith 34 bytes)) ⊎ IsDamagedAt partial bytes rest

-- the rest is what stands after blanks, and it does not begin with this byte
abbrev pub ByteIsMissing : ℕ → List ℕ → List ℕ → Type 0
ByteIsMissing byte bytes rest = (rest ≡ after_blanks bytes) × ¬ (StartsWith byte rest)

-- the bytes begin with these elements, with a comma after each, and others follow
abbrev pub EachWithComma : {T : Type 0} → (T → List ℕ → List ℕ → Type 0) → List T → List ℕ
    → List ℕ → Type 0
EachWithComma inner [] bytes next = bytes ≡ next
EachWithComma inner (v ∷ vs) bytes next = (after : List ℕ) × ((start : List ℕ)
    × (inner v bytes after × (after_blanks after ≡ 44 ∷ start) × EachWithComma inner vs start next))

-- where relations say which bytes begin with an element, and where one breaks off
module _ {T : Type 0} (inner : T → List ℕ → List ℕ → Type 0) (breaks : List ℕ → List ℕ → Type 0) (close : ℕ) where
  -- an element breaks off at the rest; or one ends, and neither a comma nor the closing bracket
  -- follows
  abbrev pub ElementBreaksOff : List ℕ → List ℕ → Type 0
  ElementBreaksOff bytes rest = breaks bytes rest ⊎ ((v : T) × ((after : List ℕ)
      × (inner v bytes after × ByteIsMissing 44 after rest × ByteIsMissing close after rest)))

  -- after some elements, one breaks off at the rest
  abbrev pub ElementsBreakOff : List ℕ → List ℕ → Type 0
  ElementsBreakOff bytes rest = (vs : List T) × ((next : List ℕ)
      × (EachWithComma inner vs bytes next × ElementBreaksOff next rest))

-- what stands between brackets breaks off at the rest, where a relation says when it does: the
-- closing bracket does not follow the opening one
abbrev pub BracketsBreakOff : (List ℕ → List ℕ → Type 0) → ℕ → ℕ → List ℕ → List ℕ → Type 0
BracketsBreakOff inside close begin bytes rest = (next : List ℕ)
    × ((bytes ≡ begin ∷ next) × ¬ (StartsWith close (after_blanks next)) × inside next rest)

-- nothing may stand between brackets, since they stand within as many as may be
abbrev pub IsTooDeep : List ℕ → List ℕ → Type 0
IsTooDeep bytes rest = rest ≡ after_blanks bytes

-- where a relation says where a value breaks off: after a name, the colon is missing, or the value
-- breaks off at the rest
abbrev pub AfterNameBreaksOff : (List ℕ → List ℕ → Type 0) → List ℕ → List ℕ → Type 0
AfterNameBreaksOff breaks after rest = ByteIsMissing 58 after rest
    ⊎ ((next : List ℕ) × ((after_blanks after ≡ 58 ∷ next) × breaks next rest))

-- a member breaks off at the rest: its name does, or what stands after its name
abbrev pub MemberBreaksOff : Bool → (List ℕ → List ℕ → Type 0) → List ℕ → List ℕ → Type 0
MemberBreaksOff partial breaks bytes rest = StringBreaksOff partial (after_blanks bytes) rest
    ⊎ ((name : String Global) × ((after : List ℕ)
    × (StringHere name (after_blanks bytes) after × AfterNameBreaksOff breaks after rest)))

-- a value without blanks before it breaks off at the rest, where relations say when elements and
-- members do: none begins; or a string is damaged; or an array or an object breaks off
abbrev pub LayerBreaksOff : Bool → (List ℕ → List ℕ → Type 0) → (List ℕ → List ℕ → Type 0)
    → List ℕ → List ℕ → Type 0
LayerBreaksOff partial elements members bytes rest = NoneBegins partial bytes rest
    ⊎ (IsDamagedAt partial bytes rest ⊎ (BracketsBreakOff elements 93 91 bytes rest
    ⊎ BracketsBreakOff members 125 123 bytes rest))

module _ (partial : Bool) where
  -- a value without blanks before it, within at most `depth` arrays and objects, breaks off at the
  -- rest
  abbrev pub HereBreaksOff : ℕ → List ℕ → List ℕ → Type 0
  HereBreaksOff zero = LayerBreaksOff partial IsTooDeep IsTooDeep
  HereBreaksOff (suc depth) = LayerBreaksOff partial
      (ElementsBreakOff (ValueAhead partial depth) (λ b. HereBreaksOff depth (after_blanks b)) 93)
      (ElementsBreakOff (MemberAhead (ValueAhead partial depth))
      (MemberBreaksOff partial (λ b. HereBreaksOff depth (after_blanks b))) 125)

  -- a value after blanks breaks off
  abbrev pub BreaksOff : ℕ → List ℕ → List ℕ → Type 0
  BreaksOff depth bytes rest = HereBreaksOff depth (after_blanks bytes) rest

  -- the elements of an array, or the members of an object, break off
  abbrev pub ElementsIn : ℕ → List ℕ → List ℕ → Type 0
  ElementsIn depth = ElementsBreakOff (ValueAhead partial depth) (BreaksOff depth) 93

  abbrev pub MemberIn : ℕ → List ℕ → List ℕ → Type 0
  MemberIn depth = MemberBreaksOff partial (BreaksOff depth)

  abbrev pub MembersIn : ℕ → List ℕ → List ℕ → Type 0
  MembersIn depth = ElementsBreakOff (MemberAhead (ValueAhead partial depth)) (MemberIn depth) 125

  -- an array or an object breaks off
  abbrev pub ArrayBreaksOff : ℕ → List ℕ → List ℕ → Type 0
  ArrayBreaksOff zero = BracketsBreakOff IsTooDeep 93 91
  ArrayBreaksOff (suc depth) = BracketsBreakOff (ElementsIn depth) 93 91

  abbrev pub ObjectBreaksOff : ℕ → List ℕ → List ℕ → Type 0
  ObjectBreaksOff zero = BracketsBreakOff IsTooDeep 125 123
  ObjectBreaksOff (suc depth) = BracketsBreakOff (MembersIn depth) 125 123

-- a value that is neither an array nor an object breaks off at the rest
abbrev pub ScalarBreaksOff : Bool → List ℕ → List ℕ → Type 0
ScalarBreaksOff partial bytes rest = BeginsNoOther bytes rest ⊎ IsDamagedAt partial bytes rest

-- where something is damaged, it breaks off there
abbrev pub IsPlaced : {T : Type 0} → (List ℕ → List ℕ → Type 0) → List ℕ → Found T → Type 0
IsPlaced breaks bytes (Whole value n) = ⊤
IsPlaced breaks bytes Begun = ⊤
IsPlaced breaks bytes (Damaged n) = breaks bytes (drop n bytes)
