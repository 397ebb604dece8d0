-- Values, as RFC 8259 writes them: 91 and 93 are the brackets of an array, 123 and 125 those of an
-- object, 44 is a comma and 58 a colon.
use Rattle.std.specs.Prelude.{◌≡◌, ℕ, zero, suc, ◌==◌, Bool, true, false, ◌||◌, if◌then◌else◌, List, [], ◌∷◌, ◌++◌}
use Rattle.std.specs.declared.string.String.{String}
use Rattle.std.specs.declared.alloc.Global.{Global}
use Rattle.format_json_scalars.specs.StringAnswers.{StringHere}
use Rattle.format_json_scalars.specs.NumberAnswers.{NumberHere}
use Rattle.format_json.specs.declared.value.Value.{Value}
use Rattle.format_json.specs.declared.value.Value.TheOpen as open_value
use Rattle.format_json.specs.declared.value.Value.TheOpen.{Value-F, Null}
use Rattle.format_json.specs.declared.value.Value.TheViews.{out-Value}

-- a space, a tab, a newline or a carriage return, which may stand around each token
abbrev pub is_blank : ℕ → Bool
is_blank byte = 32 == byte || (9 == byte || (10 == byte || 13 == byte))

-- the bytes from the first on that is no blank
abbrev pub after_blanks : List ℕ → List ℕ
after_blanks [] = []
after_blanks (byte ∷ bytes) = if is_blank byte then after_blanks bytes else byte ∷ bytes

-- null, true and false
abbrev pub null_word : List ℕ
null_word = 110 ∷ 117 ∷ 108 ∷ 108 ∷ []

abbrev pub bool_word : Bool → List ℕ
bool_word true = 116 ∷ 114 ∷ 117 ∷ 101 ∷ []
bool_word false = 102 ∷ 97 ∷ 108 ∷ 115 ∷ 101 ∷ []

-- the bytes begin with the word, and the rest follows
abbrev pub WordAhead : List ℕ → Unit {0} → List ℕ → List ℕ → Type 0
WordAhead word done bytes rest = bytes ≡ word ++ rest

-- after blanks the bytes begin with a name, after blanks with a colon, and then with a value, where
-- a relation says which bytes begin with one; and the rest follows
abbrev pub MemberAhead : (Value → List ℕ → List ℕ → Type 0) → String Global × Value → List ℕ
    → List ℕ → Type 0
MemberAhead inner member bytes rest = (after : List ℕ) × ((next : List ℕ)
    × (StringHere member.0 (after_blanks bytes) after × (after_blanks after ≡ 58 ∷ next)
    × inner member.1 next rest))

-- where a relation says which bytes begin with an element
module _ {T : Type 0} (inner : T → List ℕ → List ℕ → Type 0) (close : ℕ) where
  -- the bytes begin with one or more elements, with a comma between two and the closing bracket
  -- after the last; before each of these there may be blanks
  abbrev pub Elements : List T → List ℕ → List ℕ → Type 0
  Elements [] bytes rest = ⊥
  Elements (v ∷ []) bytes rest =
      (after : List ℕ) × (inner v bytes after × (after_blanks after ≡ close ∷ rest))
  Elements (v ∷ w ∷ more) bytes rest = (after : List ℕ) × ((next : List ℕ) × (inner v bytes after
      × (after_blanks after ≡ 44 ∷ next) × Elements (w ∷ more) next rest))

  -- the bytes after the opening bracket begin with the closing one, or with elements and it
  abbrev pub Inside : List T → List ℕ → List ℕ → Type 0
  Inside [] bytes rest = after_blanks bytes ≡ close ∷ rest
  Inside (v ∷ more) bytes rest = Elements (v ∷ more) bytes rest

  -- the bytes begin with these elements between brackets, and the rest follows
  abbrev pub Bracketed : ℕ → List T → List ℕ → List ℕ → Type 0
  Bracketed begin elements bytes rest =
      (next : List ℕ) × ((bytes ≡ begin ∷ next) × Inside elements next rest)

-- the bytes begin with this layer of a value, and the rest follows, where a relation says which
-- bytes begin with a value inside it
abbrev pub Layer : Bool → (Value → List ℕ → List ℕ → Type 0) → Value-F Value → List ℕ → List ℕ
    → Type 0
Layer partial inner Null bytes rest = WordAhead null_word tt bytes rest
Layer partial inner (open_value.Bool b) bytes rest = WordAhead (bool_word b) tt bytes rest
Layer partial inner (open_value.Number number) bytes rest = NumberHere partial number bytes rest
Layer partial inner (open_value.String value) bytes rest = StringHere value bytes rest
Layer partial inner (open_value.Array elements) bytes rest =
    Bracketed inner 93 91 elements.items bytes rest
Layer partial inner (open_value.Object members) bytes rest =
    Bracketed (MemberAhead inner) 125 123 members.items bytes rest

-- after blanks the bytes begin with this value, which stands within fewer than `depth` arrays and
-- objects, and the rest follows
abbrev pub Nested : Bool → ℕ → Value → List ℕ → List ℕ → Type 0
Nested partial zero value bytes rest = ⊥
Nested partial (suc depth) value bytes rest =
    Layer partial (Nested partial depth) (out-Value value) (after_blanks bytes) rest

-- the bytes begin with a value within at most `depth` arrays and objects, after blanks
abbrev pub ValueAhead : Bool → ℕ → Value → List ℕ → List ℕ → Type 0
ValueAhead partial depth value bytes rest = Nested partial (suc depth) value bytes rest

-- the bytes begin with a value within at most `depth` arrays and objects, with no blanks before it
abbrev pub ValueHere : Bool → ℕ → Value → List ℕ → List ℕ → Type 0
ValueHere partial depth value bytes rest =
    Layer partial (Nested partial depth) (out-Value value) bytes rest
