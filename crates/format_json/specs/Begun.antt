-- Where a value is begun: the bytes are the beginning of one, and more bytes can make it whole.
use Rattle.std.specs.Prelude.{◌≡◌, ℕ, zero, suc, Bool, true, false, List, [], ◌∷◌, ◌++◌, ◌⊎◌, ⊤}
use Rattle.std.specs.declared.string.String.{String}
use Rattle.std.specs.declared.alloc.Global.{Global}
use Rattle.format_json_scalars.specs.Numbers.{BeginsNumber}
use Rattle.format_json_scalars.specs.StringAnswers.{IsBegun, StringHere}
use Rattle.format_json.specs.Language.{after_blanks, null_word, bool_word, MemberAhead, ValueAhead}
use Rattle.format_json.specs.Damage.{EachWithComma}
use Rattle.format_json.specs.declared.found.Found.{Found}
use Rattle.format_json.specs.declared.found.Found.TheVariants.{Whole, Begun, Damaged}

-- more bytes make the bytes this word
abbrev pub BeginsWord : List ℕ → List ℕ → Type 0
BeginsWord word bytes = (more : List ℕ) × (bytes ++ more ≡ word)

-- the bytes begin a word, a number or a string
abbrev pub BeginsScalar : List ℕ → Type 0
BeginsScalar bytes = BeginsWord null_word bytes ⊎ (BeginsWord (bool_word true) bytes
    ⊎ (BeginsWord (bool_word false) bytes ⊎ (BeginsNumber bytes ⊎ IsBegun bytes)))

-- where relations say which bytes begin with an element, and where one is begun: after some
-- elements, one is begun, or only blanks follow one
abbrev pub BeginsElements : {T : Type 0} → (T → List ℕ → List ℕ → Type 0) → (List ℕ → Type 0)
    → List ℕ → Type 0
BeginsElements {T} inner begins bytes = (vs : List T) × ((next : List ℕ)
    × (EachWithComma inner vs bytes next × (begins next ⊎ ((v : T) × ((after : List ℕ)
    × (inner v next after × (after_blanks after ≡ [])))))))

-- only blanks follow the opening bracket, or what stands inside is begun
abbrev pub BeginsBrackets : (List ℕ → Type 0) → ℕ → List ℕ → Type 0
BeginsBrackets inside begin bytes = (next : List ℕ)
    × ((bytes ≡ begin ∷ next) × ((after_blanks next ≡ []) ⊎ inside next))

-- a name is begun; or only blanks follow it; or the value after the colon is begun
abbrev pub BeginsMember : (List ℕ → Type 0) → List ℕ → Type 0
BeginsMember begins bytes = IsBegun (after_blanks bytes)
    ⊎ ((name : String Global) × ((after : List ℕ) × (StringHere name (after_blanks bytes) after
    × ((after_blanks after ≡ []) ⊎ ((next : List ℕ)
    × ((after_blanks after ≡ 58 ∷ next) × begins next))))))

-- a scalar, an array or an object is begun
abbrev pub BeginsLayer : (List ℕ → Type 0) → (List ℕ → Type 0) → List ℕ → Type 0
BeginsLayer elements members bytes = BeginsScalar bytes
    ⊎ (BeginsBrackets elements 91 bytes ⊎ BeginsBrackets members 123 bytes)

-- nothing is begun, since nothing may stand here
abbrev pub BeginsNothing : List ℕ → Type 0
BeginsNothing bytes = ⊥

module _ (partial : Bool) where
  -- a value without blanks before it, within at most `depth` arrays and objects, is begun
  abbrev pub BeginsHere : ℕ → List ℕ → Type 0
  BeginsHere zero = BeginsLayer BeginsNothing BeginsNothing
  BeginsHere (suc depth) = BeginsLayer
      (BeginsElements (ValueAhead partial depth) (λ b. BeginsHere depth (after_blanks b)))
      (BeginsElements (MemberAhead (ValueAhead partial depth))
      (BeginsMember (λ b. BeginsHere depth (after_blanks b))))

  -- a value after blanks is begun
  abbrev pub BeginsValue : ℕ → List ℕ → Type 0
  BeginsValue depth bytes = BeginsHere depth (after_blanks bytes)

  -- the elements of an array, or the members of an object, are begun
  abbrev pub BeginsElementsIn : ℕ → List ℕ → Type 0
  BeginsElementsIn depth = BeginsElements (ValueAhead partial depth) (BeginsValue depth)

  abbrev pub BeginsMemberIn : ℕ → List ℕ → Type 0
  BeginsMemberIn depth = BeginsMember (BeginsValue depth)

  abbrev pub BeginsMembersIn : ℕ → List ℕ → Type 0
  BeginsMembersIn depth =
      BeginsElements (MemberAhead (ValueAhead partial depth)) (BeginsMemberIn depth)

  -- an array or an object is begun
  abbrev pub BeginsArray : ℕ → List ℕ → Type 0
  BeginsArray zero = BeginsBrackets BeginsNothing 91
  BeginsArray (suc depth) = BeginsBrackets (BeginsElementsIn depth) 91

  abbrev pub BeginsObject : ℕ → List ℕ → Type 0
  BeginsObject zero = BeginsBrackets BeginsNothing 123
  BeginsObject (suc depth) = BeginsBrackets (BeginsMembersIn depth) 123

-- where something is begun, the bytes begin one
abbrev pub IsOpen : {T : Type 0} → (List ℕ → Type 0) → List ℕ → Found T → Type 0
IsOpen begins bytes (Whole value n) = ⊤
IsOpen begins bytes Begun = begins bytes
IsOpen begins bytes (Damaged n) = ⊤
