-- Values that are found in bytes, from the layer that is found there.
use Rattle.std.proofs.Common.{◌≡◌, ℕ, ◌<◌, Bool, true, false, List, [], ◌∷◌, ◌++◌, length, drop, if◌then◌else◌, get_or, rules, ap, sym, subst, refl}
use Rattle.std.specs.declared.string.String.{String}
use Rattle.std.specs.declared.alloc.Global.{Global}
use Rattle.std.specs.declared.vec.Vec.{Vec}
use Rattle.format_lemmas.specs.Bytes.{StartsWith}
use Rattle.format_json_scalars.specs.Numbers.{is_number_byte}
use Rattle.format_json.specs.Language.{MemberAhead, Bracketed, Layer, Nested, ValueHere, null_word, bool_word}
use Rattle.format_json_scalars.specs.StringAnswers.{StringHere}
use Rattle.format_json_scalars.specs.NumberAnswers.{NumberHere}
use Rattle.format_json.specs.Founds.{IsFound, IsWord}
use Rattle.format_json_scalars.specs.declared.numbers.Number.{Number}
use Rattle.format_json.specs.declared.found.Found.{Found}
use Rattle.format_json.specs.declared.found.Found.TheVariants.{Whole, Begun, Damaged}
use Rattle.format_json.specs.declared.value.Value.{Value}
use Rattle.format_json.specs.declared.value.Value.TheVariants as value
use Rattle.format_json.specs.declared.value.Value.TheOpen as open_value
use Rattle.format_json.specs.declared.value.Value.TheOpen.{Value-F, Null}
use Rattle.format_json.specs.declared.value.Value.TheViews.{out-Value, the_lemmas}
use Rattle.format_json.proofs.lemmas.GrammarLemmas.{kind, kind_of, kind-at, null-only, true-only, false-only, number-only, string-only, array-only, object-only}
use Rattle.format_json_scalars.proofs.lemmas.StringLemmas.{starts-with}
use Rattle.format_json.proofs.lemmas.FoundLemmas.{Covers, none-as, missed-as}

-- bytes that begin with a byte are it and others
starts-is : (byte : ℕ) (b : List ℕ) → StartsWith byte b → (q : List ℕ) × (b ≡ byte ∷ q)
starts-is byte [] s = absurd s
starts-is byte (x ∷ b) s = (b, ap (λ z. z ∷ b) s)

-- the layer of each value
pub out-null : out-Value value.Null ≡ open_value.Null
out-null = search (rules, the_lemmas)

pub out-bool : (t : Bool) → out-Value (value.Bool t) ≡ open_value.Bool t
out-bool t = search (rules, the_lemmas)

pub out-number : (n : Number) → out-Value (value.Number n) ≡ open_value.Number n
out-number n = search (rules, the_lemmas)

pub out-string : (v : String Global) → out-Value (value.String v) ≡ open_value.String v
out-string v = search (rules, the_lemmas)

pub out-array : (vs : Vec Value Global) → out-Value (value.Array vs) ≡ open_value.Array vs
out-array vs = search (rules, the_lemmas)

pub out-object : (ms : Vec (String Global × Value) Global)
    → out-Value (value.Object ms) ≡ open_value.Object ms
out-object ms = search (rules, the_lemmas)

module _ (partial : Bool) (depth : ℕ) (b : List ℕ) where
  -- a value here is of the kind of its first byte
  here-kind : (c : ℕ) → StartsWith c b → (v : Value) (more r : List ℕ)
      → ValueHere partial depth v (b ++ more) r → kind (out-Value v) ≡ kind_of c
  here-kind c s v more r h =
      let k = starts-is c b s in
      kind-at partial (Nested partial depth) c (k.0 ++ more) (out-Value v) (b ++ more) r (ap (λ l. l ++ more) k.1) h

  -- what is found as a word is a value
  word-found : (word : List ℕ) (v : Value)
      → ((r : List ℕ) → b ≡ word ++ r → ValueHere partial depth v b r)
      → ((w : Value) (more r : List ℕ) → ValueHere partial depth w (b ++ more) r → b ++ more ≡ word ++ r)
      → (x : Found Value) → IsFound (IsWord word v) partial b x
      → IsFound (ValueHere partial depth) partial b x
  word-found word v makes only (Whole w n) (fits, (same, ahead)) =
      (fits, subst (λ z. ValueHere partial depth z b (drop n b)) (sym same) (makes (drop n b) ahead))
  word-found word v makes only Begun (may, none) =
      (may, missed-as (IsWord word v) (ValueHere partial depth) partial b b (λ more may w r h. (more, (λ e. e, (v, (r, (refl, only w more r h)))))) none)
  word-found word v makes only (Damaged n) (fits, none) =
      (fits, none-as (IsWord word v) (ValueHere partial depth) partial b b (λ more may w r h. (more, (λ e. e, (v, (r, (refl, only w more r h)))))) none)

  -- null
  pub null-found : StartsWith 110 b → (x : Found Value)
      → IsFound (IsWord null_word value.Null) partial b x
      → IsFound (ValueHere partial depth) partial b x
  null-found s =
      word-found null_word value.Null
      (λ r e. subst (λ z. Layer partial (Nested partial depth) z b r) (sym out-null) e)
      (λ w more r h. null-only partial (Nested partial depth) (out-Value w) (b ++ more) r (here-kind 110 s w more r h) h)

  -- true
  pub true-found : StartsWith 116 b → (x : Found Value)
      → IsFound (IsWord (bool_word true) (value.Bool true)) partial b x
      → IsFound (ValueHere partial depth) partial b x
  true-found s =
      word-found (bool_word true) (value.Bool true)
      (λ r e. subst (λ z. Layer partial (Nested partial depth) z b r) (sym (out-bool true)) e)
      (λ w more r h. true-only partial (Nested partial depth) (out-Value w) (b ++ more) r (here-kind 116 s w more r h) h)

  -- false
  pub false-found : StartsWith 102 b → (x : Found Value)
      → IsFound (IsWord (bool_word false) (value.Bool false)) partial b x
      → IsFound (ValueHere partial depth) partial b x
  false-found s =
      word-found (bool_word false) (value.Bool false)
      (λ r e. subst (λ z. Layer partial (Nested partial depth) z b r) (sym (out-bool false)) e)
      (λ w more r h. false-only partial (Nested partial depth) (out-Value w) (b ++ more) r (here-kind 102 s w more r h) h)

  -- what is found as a part is a value
  module _ {T : Type 0} (part : T → List ℕ → List ℕ → Type 0) (only : (w : Value) (more r : List ℕ) → ValueHere partial depth w (b ++ more) r → (t : T) × part t (b ++ more) r) where
    part-covers : Covers part b (ValueHere partial depth) b partial
    part-covers more may w r h =
        let k = only w more r h in (more, (λ e. e, (k.0, (r, k.1))))

    part-begun : IsFound part partial b Begun → IsFound (ValueHere partial depth) partial b Begun
    part-begun (may, none) = (may, missed-as part (ValueHere partial depth) partial b b part-covers none)

    part-damaged : (n : ℕ) → IsFound part partial b (Damaged n)
        → IsFound (ValueHere partial depth) partial b (Damaged n)
    part-damaged n (fits, none) = (fits, none-as part (ValueHere partial depth) partial b b part-covers none)

  -- a string
  string-is : StartsWith 34 b → (w : Value) (more r : List ℕ)
      → ValueHere partial depth w (b ++ more) r
      → (t : String Global) × StringHere t (b ++ more) r
  string-is s w more r h = string-only partial (Nested partial depth) (out-Value w) (b ++ more) r (here-kind 34 s w more r h) h

  pub string-begun : StartsWith 34 b → IsFound StringHere partial b Begun
      → IsFound (ValueHere partial depth) partial b Begun
  string-begun s = part-begun StringHere (string-is s)

  pub string-damaged : StartsWith 34 b → (n : ℕ) → IsFound StringHere partial b (Damaged n)
      → IsFound (ValueHere partial depth) partial b (Damaged n)
  string-damaged s = part-damaged StringHere (string-is s)

  -- an array
  array-is : StartsWith 91 b → (w : Value) (more r : List ℕ)
      → ValueHere partial depth w (b ++ more) r
      → (t : Vec Value Global) × Bracketed (Nested partial depth) 93 91 t.items (b ++ more) r
  array-is s w more r h = array-only partial (Nested partial depth) (out-Value w) (b ++ more) r (here-kind 91 s w more r h) h

  abbrev pub ArrayHere : Vec Value Global → List ℕ → List ℕ → Type 0
  ArrayHere t = Bracketed (Nested partial depth) 93 91 t.items

  pub array-begun : StartsWith 91 b → IsFound ArrayHere partial b Begun
      → IsFound (ValueHere partial depth) partial b Begun
  array-begun s = part-begun ArrayHere (array-is s)

  pub array-damaged : StartsWith 91 b → (n : ℕ) → IsFound ArrayHere partial b (Damaged n)
      → IsFound (ValueHere partial depth) partial b (Damaged n)
  array-damaged s = part-damaged ArrayHere (array-is s)

  -- an object
  object-is : StartsWith 123 b → (w : Value) (more r : List ℕ)
      → ValueHere partial depth w (b ++ more) r
      → (t : Vec (String Global × Value) Global) × Bracketed (MemberAhead (Nested partial depth)) 125 123 t.items (b ++ more) r
  object-is s w more r h = object-only partial (Nested partial depth) (out-Value w) (b ++ more) r (here-kind 123 s w more r h) h

  abbrev pub ObjectHere : Vec (String Global × Value) Global → List ℕ → List ℕ → Type 0
  ObjectHere t = Bracketed (MemberAhead (Nested partial depth)) 125 123 t.items

  pub object-begun : StartsWith 123 b → IsFound ObjectHere partial b Begun
      → IsFound (ValueHere partial depth) partial b Begun
  object-begun s = part-begun ObjectHere (object-is s)

  pub object-damaged : StartsWith 123 b → (n : ℕ) → IsFound ObjectHere partial b (Damaged n)
      → IsFound (ValueHere partial depth) partial b (Damaged n)
  object-damaged s = part-damaged ObjectHere (object-is s)

  -- a number, where no other value begins with the first byte
  module _ (some : 0 < length b) (no_null : ¬ (get_or b 0 0 ≡ 110)) (no_true : ¬ (get_or b 0 0 ≡ 116)) (no_false : ¬ (get_or b 0 0 ≡ 102)) (no_quote : ¬ (get_or b 0 0 ≡ 34)) (no_array : ¬ (StartsWith 91 b)) (no_object : ¬ (StartsWith 123 b)) where
    -- a layer that begins with another byte is a number
    of-number : (t : Bool) (x : Value-F Value) → kind x ≡ (if t then 0 else get_or b 0 0)
        → kind x ≡ 0
    of-number true x e = e
    of-number false Null e = absurd (no_null (sym e))
    of-number false (open_value.Bool true) e = absurd (no_true (sym e))
    of-number false (open_value.Bool false) e = absurd (no_false (sym e))
    of-number false (open_value.Number n) e = refl
    of-number false (open_value.String v) e = absurd (no_quote (sym e))
    of-number false (open_value.Array v) e = absurd (no_array (starts-with b 91 some (sym e)))
    of-number false (open_value.Object v) e = absurd (no_object (starts-with b 123 some (sym e)))

    number-is : (w : Value) (more r : List ℕ) → ValueHere partial depth w (b ++ more) r
        → (t : Number) × NumberHere partial t (b ++ more) r
    number-is w more r h =
        number-only partial (Nested partial depth) (out-Value w) (b ++ more) r (of-number (is_number_byte (get_or b 0 0)) (out-Value w) (here-kind (get_or b 0 0) (starts-with b (get_or b 0 0) some refl) w more r h)) h

    pub number-begun : IsFound (NumberHere partial) partial b Begun
        → IsFound (ValueHere partial depth) partial b Begun
    number-begun = part-begun (NumberHere partial) number-is

    pub number-damaged : (n : ℕ) → IsFound (NumberHere partial) partial b (Damaged n)
        → IsFound (ValueHere partial depth) partial b (Damaged n)
    number-damaged = part-damaged (NumberHere partial) number-is
