-- The text that is written of a value begins with that value, and no text begins with a value that
-- is refused.
use Rattle.std.proofs.Common.{◌≡◌, ℕ, zero, suc, ◌+◌, ◌<◌, Bool, true, false, if◌then◌else◌, List, [], ◌∷◌, ◌++◌, length, take, drop, map, get_or, Result, Ok, Err, ap, sym, ◌∙◌, subst, refl, arith, append_assoc, append-nil, inl, inr}
use Rattle.std.specs.List.{All, flat_map}
use Rattle.std.specs.Result.{IsErrAnd}
use Rattle.std.proofs.lemmas.Result.{err_from_is_err_and}
use Rattle.std.proofs.lemmas.List.{take_more, flat_map_more}
use Rattle.std.proofs.lemmas.List.Folds.{flat_map-map}
use Rattle.std.proofs.lemmas.Bool.Decides.{nat_tests, eqb_tells}
use Rattle.std.specs.Int.{w64}
use Rattle.std.specs.String.{string_bytes}
use Rattle.std.specs.declared.string.String.{String}
use Rattle.std.specs.declared.alloc.Global.{Global}
use Rattle.std.specs.declared.vec.Vec.{Vec}
use Rattle.winnow_count.specs.Reading.{IsSomeExactly, ReadsSigned}
use Rattle.format_lemmas.specs.Bytes.{EndsRun}
use Rattle.format_json_scalars.specs.Numbers.{IsNumber, is_number_byte}
use Rattle.format_json_scalars.specs.Meanings.{IsWritten}
use Rattle.format_json.specs.Language.{is_blank, after_blanks, Elements, Bracketed, Layer, Nested, ValueHere, ValueAhead}
use Rattle.format_json_scalars.specs.StringAnswers.{StringHere}
use Rattle.format_json_scalars.specs.NumberAnswers.{NumberHere}
use Rattle.format_json_scalars.specs.Quoting.{written_string}
use Rattle.format_json.specs.Documents.{IsDocument}
use Rattle.format_json.specs.Writing.{listed, written_member, layer_written, written, IsReadBack}
use Rattle.format_json.specs.Appending.{ArrayHere, array_text, MemberHere, member_text, ObjectHere, object_text, Stands, Never, IsAppended, IsNumberAppended}
use Rattle.format_json_scalars.specs.declared.numbers.Number.{Number}
use Rattle.format_json.specs.declared.value.Value.{Value, map-Value}
use Rattle.format_json.specs.declared.value.Value.TheVariants as value
use Rattle.format_json.specs.declared.value.Value.TheOpen as open_value
use Rattle.format_json.specs.declared.value.Value.TheOpen.{Value-F, Null}
use Rattle.format_json.specs.declared.value.Value.TheViews.{out-Value}
use Rattle.format_json.specs.declared.value.Value.TheFolds.{fold_out-Value}
use Rattle.format_json.specs.declared.writing.Unwritten.{Unwritten}
use Rattle.format_json.specs.declared.writing.Unwritten.TheVariants.{NoNumber, TooDeep, Refused}
use Rattle.format_json.proofs.lemmas.GrammarLemmas.{kind_of, kind, layer-kind}
use Rattle.format_json.proofs.lemmas.LayerLemmas.{out-number, out-string, out-array, out-object}
use Rattle.format_json_scalars.proofs.lemmas.QuotingLemmas.{string-stands}

-- ---- Elements

-- where a relation says which bytes begin with an element, within a limit on depth, and a function
-- which text is written for one
module _ {T : Type 0} (inner : Bool → ℕ → T → List ℕ → List ℕ → Type 0) (text : T → List ℕ) (begin close : ℕ) (plain : is_number_byte close ≡ false) (token : is_blank close ≡ false) (none : (partial : Bool) (x : T) (b r : List ℕ) → ¬ (inner partial zero x b r)) where
  -- the elements between brackets, and the text that is written for them
  abbrev pub ListHere : Bool → ℕ → List T → List ℕ → List ℕ → Type 0
  ListHere partial depth = Bracketed (inner partial depth) close begin

  abbrev pub list_text : List T → List ℕ
  list_text xs = begin ∷ (listed (map text xs) ++ close ∷ [])

  -- bytes end a number where a byte stands that a number does not have
  ends-at : (c : ℕ) → is_number_byte c ≡ false → (partial : Bool) (rest : List ℕ)
      → EndsRun is_number_byte partial (c ∷ rest)
  ends-at c other partial rest = (λ is. cc (sym is ∙ other), λ may e. cc e)

  -- the closing bracket stands first
  close-first : (rest : List ℕ) → after_blanks (close ∷ rest) ≡ close ∷ rest
  close-first rest = ap (λ t. if t then after_blanks rest else close ∷ rest) token

  -- elements stand where they were written
  elements-stand : (depth : ℕ) (x : T) (xs : List T) → Stands inner text depth x
      → All (Stands inner text depth) xs
      → (partial : Bool) (rest : List ℕ)
      → Elements (inner partial depth) close (x ∷ xs) (listed (map text (x ∷ xs)) ++ close ∷ rest) rest
  elements-stand depth x [] one all partial rest =
      (close ∷ rest, (subst (λ l. inner partial depth x (l ++ close ∷ rest) (close ∷ rest)) (sym (append-nil (text x))) (one partial (close ∷ rest) (ends-at close plain partial rest)), close-first rest))
  elements-stand depth x (y ∷ ys) one all partial rest =
      let next = listed (map text (y ∷ ys)) ++ close ∷ rest in
      let split = append_assoc (text x) (44 ∷ listed (map text (y ∷ ys))) (close ∷ rest) in
      (44 ∷ next, (next, (subst (λ l. inner partial depth x l (44 ∷ next)) (sym split) (one partial (44 ∷ next) (ends-at 44 refl partial next)), refl, elements-stand depth y ys (all 0 y (omega arith)) (λ k d l. all (suc k) d (omega (arith, l))) partial rest)))

  -- elements that were written stand between their brackets
  list-stands : (depth : ℕ) (x : T) (xs : List T) → Stands inner text depth x
      → All (Stands inner text depth) xs
      → Stands ListHere list_text depth (x ∷ xs)
  list-stands depth x xs one all partial rest ends =
      (listed (map text (x ∷ xs)) ++ close ∷ rest, (ap (λ l. begin ∷ l) (append_assoc (listed (map text (x ∷ xs))) (close ∷ []) rest), elements-stand depth x xs one all partial rest))

  -- four texts in a row
  in-row : (old t u : List ℕ)
      → (((old ++ begin ∷ []) ++ t) ++ u) ++ close ∷ [] ≡ old ++ begin ∷ ((t ++ u) ++ close ∷ [])
  in-row old t u =
      ap (λ l. l ++ close ∷ []) (append_assoc (old ++ begin ∷ []) t u)
      ∙ append_assoc (old ++ begin ∷ []) (t ++ u) (close ∷ []) ∙ append_assoc old (begin ∷ []) ((t ++ u) ++ close ∷ [])

  -- elements between brackets are
  pub list-appended : (depth less : ℕ) → depth ≡ suc less → (values : List T) (x : T) (xs : List T)
      → values ≡ x ∷ xs
      → (old begun one more new : List ℕ) → begun ≡ old ++ begin ∷ []
      → IsAppended (λ partial limit. inner partial (suc limit)) text less x begun one (Ok tt)
      → more ≡ one ++ flat_map (λ y. 44 ∷ text y) xs
      → All (Stands inner text (suc less)) xs
      → new ≡ more ++ close ∷ []
      → IsAppended ListHere list_text depth values old new (Ok tt)
  list-appended depth less e values x xs split old begun one more new is first rest all ends =
      let commas = flat_map-map (λ next. 44 ∷ next) text xs in
      let whole : new ≡ old ++ list_text (x ∷ xs) =
      ends ∙ ap (λ l. l ++ close ∷ []) (rest ∙ ap (λ l. l ++ flat_map (λ y. 44 ∷ text y) xs) (first.0 ∙ ap (λ l. l ++ text x) is))
      ∙ in-row old (text x) (flat_map (λ y. 44 ∷ text y) xs)
      ∙ ap (λ l. old ++ begin ∷ ((text x ++ l) ++ close ∷ [])) (sym commas) in
      subst (λ l. IsAppended ListHere list_text depth l old new (Ok tt)) (sym split)
      (whole, subst (λ n. Stands ListHere list_text n (x ∷ xs)) (sym e) (list-stands (suc less) x xs first.1 all))

  -- what stands nowhere within any limit above 0 does within none
  each-limit : (x : T) → ((limit : ℕ) → Never inner (suc limit) x) → (limit : ℕ)
      → Never inner limit x
  each-limit x never zero = λ partial b r. none partial x b r
  each-limit x never (suc limit) = never limit

  -- each of some elements stands somewhere
  element-at : (partial : Bool) (depth : ℕ) (xs : List T) (i : ℕ) (d : T) (b r : List ℕ)
      → i < length xs → Elements (inner partial depth) close xs b r
      → (a : List ℕ) × ((c : List ℕ) × inner partial depth (get_or xs i d) a c)
  element-at partial depth [] i d b r inside h = absurd h
  element-at partial depth (x ∷ []) zero d b r inside (a, (h, e)) = (b, (a, h))
  element-at partial depth (x ∷ []) (suc i) d b r inside h = absurd (omega (arith, inside))
  element-at partial depth (x ∷ y ∷ ys) zero d b r inside (a, (n, (h, e, k))) = (b, (a, h))
  element-at partial depth (x ∷ y ∷ ys) (suc i) d b r inside (a, (n, (h, e, k))) =
      element-at partial depth (y ∷ ys) i d n r (omega (arith, inside)) k

  -- where an element stands nowhere, the elements do
  list-never : (depth : ℕ) (xs : List T) (i : ℕ) (d : T) → i < length xs
      → Never inner depth (get_or xs i d) → Never ListHere depth xs
  list-never depth [] i d inside never partial b r h = omega (arith, inside)
  list-never depth (x ∷ xs) i d inside never partial b r (n, (e, h)) =
      let at = element-at partial depth (x ∷ xs) i d n r inside h in
      never partial at.0 at.1.0 at.1.1

  -- where an element is refused, the elements are
  pub list-refused : (depth less : ℕ) → depth ≡ suc less → (values xs : List T) → values ≡ xs
      → (i : ℕ) (x : T) → i < length xs → x ≡ get_or xs i x
      → (a b old new : List ℕ) (why : Unwritten)
      → IsAppended (λ partial limit. inner partial (suc limit)) text less x a b (Err why)
      → IsAppended ListHere list_text depth values old new (Err why)
  list-refused depth less e values xs same i x inside is a b old new TooDeep never =
      subst (Never ListHere depth) (sym same)
      (list-never depth xs i x inside (subst (λ n. Never inner n (get_or xs i x)) (sym e) (subst (Never inner (suc less)) is never)))
  list-refused depth less e values xs same i x inside is a b old new NoNumber never = λ limit.
      subst (Never ListHere limit) (sym same)
      (list-never limit xs i x inside (subst (Never inner limit) is (each-limit x never limit)))
  list-refused depth less e values xs same i x inside is a b old new (Refused why) never = tt

-- an element is appended after a comma
pub more-listed : {T : Type 0} (text : T → List ℕ) (xs : List T) (i : ℕ) (x : T) → i < length xs
    → x ≡ get_or xs i x
    → (begun now comma new : List ℕ) → now ≡ begun ++ flat_map (λ y. 44 ∷ text y) (take i xs)
    → comma ≡ now ++ 44 ∷ [] → new ≡ comma ++ text x
    → new ≡ begun ++ flat_map (λ y. 44 ∷ text y) (take (i + 1) xs)
more-listed {T} text xs i x inside is begun now comma new so far one =
    let listed = λ (y : T). 44 ∷ text y in
    one ∙ ap (λ l. l ++ text x) far ∙ append_assoc now (44 ∷ []) (text x)
    ∙ ap (λ l. l ++ listed x) so ∙ flat_map_more listed begun (take i xs) x
    ∙ ap (λ l. begun ++ flat_map listed l) (ap (λ y. take i xs ++ y ∷ []) is ∙ sym (take_more xs i x inside))

-- ---- Layers

-- a byte that begins a value is no blank
no-blank : (c k : ℕ) → kind_of c ≡ k → is_blank k ≡ false → is_blank c ≡ false
no-blank c k e token =
    elim (eqb_tells (if is_number_byte c then 1 else 0) 1) [
      | inl p ↦ grind (arith, nat_tests, p.1)
      | inr p ↦ grind (arith, nat_tests, p.1, e, token)
    ]

-- the kind of a layer is no blank
kind-token : (x : Value-F Value) → is_blank (kind x) ≡ false
kind-token Null = refl
kind-token (open_value.Bool true) = refl
kind-token (open_value.Bool false) = refl
kind-token (open_value.Number n) = refl
kind-token (open_value.String v) = refl
kind-token (open_value.Array vs) = refl
kind-token (open_value.Object ms) = refl

-- no blank stands before a value that stands first
pub here-ahead : (partial : Bool) (depth : ℕ) (y : Value) (b r : List ℕ)
    → ValueHere partial depth y b r → ValueAhead partial depth y b r
here-ahead partial depth y b r h =
    let k = layer-kind partial (Nested partial depth) (out-Value y) b r h in
    let token = no-blank k.0 (kind (out-Value y)) k.1.1.1 (kind-token (out-Value y)) in
    let same : after_blanks b ≡ b =
    ap after_blanks k.1.1.0 ∙ ap (λ t. if t then after_blanks k.1.0 else k.0 ∷ k.1.0) token ∙ sym k.1.1.0 in
    subst (λ l. ValueHere partial depth y l r) (sym same) h

-- the text of a value, from its layer
pub text-of : (y : Value) (x : Value-F Value) → out-Value y ≡ x
    → written y ≡ layer_written (map-Value Value (List ℕ) written x)
text-of y x e =
    fold_out-Value (List ℕ) layer_written y ∙ ap (λ z. layer_written (map-Value Value (List ℕ) written z)) e

-- what is appended as a part is appended as the value of which it is the layer
module _ {T : Type 0} (part : Bool → ℕ → T → List ℕ → List ℕ → Type 0) (text : T → List ℕ) (y : Value) (t : T) (x : Value-F Value) (out : out-Value y ≡ x) (same : layer_written (map-Value Value (List ℕ) written x) ≡ text t) (makes : (partial : Bool) (depth : ℕ) (b r : List ℕ) → part partial depth t b r → Layer partial (Nested partial depth) x b r) (takes : (partial : Bool) (depth : ℕ) (b r : List ℕ) → Layer partial (Nested partial depth) x b r → part partial depth t b r) where
  -- the part stands nowhere, so the value does not
  part-never : (depth : ℕ) → Never part depth t → Never ValueAhead depth y
  part-never depth never partial b r h =
      never partial (after_blanks b) r (takes partial depth (after_blanks b) r (subst (λ z. Layer partial (Nested partial depth) z (after_blanks b) r) out h))

  pub layer-appended : (depth : ℕ) (old new : List ℕ) (result : Result (Unit {0}) Unwritten)
      → IsAppended part text depth t old new result
      → IsAppended ValueAhead written depth y old new result
  layer-appended depth old new (Ok done) (is, stands) = (
    is ∙ ap (λ l. old ++ l) (sym (text-of y x out ∙ same)),
    λ partial rest ends.
        subst (λ l. ValueAhead partial depth y (l ++ rest) rest) (sym (text-of y x out ∙ same))
        (here-ahead partial depth y (text t ++ rest) rest (subst (λ z. Layer partial (Nested partial depth) z (text t ++ rest) rest) (sym out) (makes partial depth (text t ++ rest) rest (stands partial rest ends)))),
  )
  layer-appended depth old new (Err TooDeep) never = part-never depth never
  layer-appended depth old new (Err NoNumber) never = λ limit. part-never limit (never limit)
  layer-appended depth old new (Err (Refused why)) never = tt

-- ---- Values of each kind

-- a string
pub string-appended : (depth : ℕ) (y : Value) (v : String Global) → y ≡ value.String v
    → (old new : List ℕ) → new ≡ old ++ written_string (string_bytes v)
    → IsAppended ValueAhead written depth y old new (Ok tt)
string-appended depth y v is old new e =
    layer-appended (λ partial limit. StringHere) (λ w. written_string (string_bytes w)) y v (open_value.String v) (ap out-Value is ∙ out-string v) refl
    (λ partial limit b r h. h) (λ partial limit b r h. h) depth old new (Ok tt) (e, λ partial rest ends. string-stands v rest)

-- a number with which bytes begin is the one that its text writes
number-written : (partial : Bool) (n : Number) (b r : List ℕ) → NumberHere partial n b r
    → IsWritten n
number-written partial n b r (t, ((e, is, ends), of)) =
    (subst IsNumber (sym of.0) is, (refl, subst (λ l. IsSomeExactly (ReadsSigned w64 l) n.integer) (sym of.0) of.1))

-- a number that is refused
pub number-refused : (depth : ℕ) (y : Value) (n : Number) → y ≡ value.Number n
    → (old new : List ℕ) (why : Unwritten) → IsNumberAppended n old new (Err why)
    → IsAppended ValueAhead written depth y old new (Err why)
number-refused depth y n is old new TooDeep never = absurd never
number-refused depth y n is old new NoNumber never = λ limit partial b r h.
    never (number-written partial n (after_blanks b) r (subst (λ z. Layer partial (Nested partial limit) z (after_blanks b) r) (ap out-Value is ∙ out-number n) h))
number-refused depth y n is old new (Refused why) never = tt

-- an array
pub array-appended : (depth : ℕ) (y : Value) (vs : Vec Value Global) → y ≡ value.Array vs
    → (values : List Value) → values ≡ vs.items
    → (old new : List ℕ) (result : Result (Unit {0}) Unwritten)
    → IsAppended ArrayHere array_text depth values old new result
    → IsAppended ValueAhead written depth y old new result
array-appended depth y vs is values same old new result h =
    layer-appended ArrayHere array_text y vs.items (open_value.Array vs) (ap out-Value is ∙ out-array vs) refl
    (λ partial limit b r h. h) (λ partial limit b r h. h) depth old new result
    (subst (λ l. IsAppended ArrayHere array_text depth l old new result) same h)

-- the texts of members are made from their values or from the texts of these
map-map : (ms : List (String Global × Value))
    → map written_member (map (λ m. (m.0, written m.1)) ms) ≡ map member_text ms
map-map [] = refl
map-map (m ∷ ms) = ap (λ l. member_text m ∷ l) (map-map ms)

-- an object
pub object-appended : (depth : ℕ) (y : Value) (ms : Vec (String Global × Value) Global)
    → y ≡ value.Object ms
    → (members : List (String Global × Value)) → members ≡ ms.items
    → (old new : List ℕ) (result : Result (Unit {0}) Unwritten)
    → IsAppended ObjectHere object_text depth members old new result
    → IsAppended ValueAhead written depth y old new result
object-appended depth y ms is members same old new result h =
    layer-appended ObjectHere object_text y ms.items (open_value.Object ms) (ap out-Value is ∙ out-object ms) (ap (λ l. 123 ∷ (listed l ++ 125 ∷ [])) (map-map ms.items))
    (λ partial limit b r h. h) (λ partial limit b r h. h) depth old new result
    (subst (λ l. IsAppended ObjectHere object_text depth l old new result) same h)

-- a member, of which the name is appended
pub member-appended : (depth : ℕ) (m : String Global × Value) (old named colon new : List ℕ)
    → named ≡ old ++ written_string (string_bytes m.0) → colon ≡ named ++ 58 ∷ []
    → IsAppended ValueAhead written depth m.1 colon new (Ok tt)
    → IsAppended MemberHere member_text depth m old new (Ok tt)
member-appended depth m old named colon new e f (g, stands) =
    let name = written_string (string_bytes m.0) in (
      g ∙ ap (λ l. l ++ written m.1) (f ∙ ap (λ l. l ++ 58 ∷ []) e)
          ∙ append_assoc (old ++ name) (58 ∷ []) (written m.1) ∙ append_assoc old name (58 ∷ written m.1),
      λ partial rest ends.
          let next = written m.1 ++ rest in
          (58 ∷ next, (next, (subst (λ l. StringHere m.0 l (58 ∷ next)) (sym (append_assoc name (58 ∷ written m.1) rest)) (string-stands m.0 (58 ∷ next)), refl, stands partial rest ends))),
    )

-- a refusal that is passed on
pub passed-on : (P : Result (Unit {0}) Unwritten → Type 0) (r : Result (Unit {0}) Unwritten)
    (why : Unwritten)
    → IsErrAnd r (λ e. e ≡ why) → P (Err why) → P r
passed-on P r why is h =
    let there = err_from_is_err_and r is in subst P (sym (there.1 ∙ ap Err there.2)) h

-- an element of a list, after the first
pub after-first : {T : Type 0} (values : List T) (x : T) → 0 < length values
    → x ≡ get_or values 0 x → values ≡ x ∷ drop 1 values
after-first [] x some is = absurd (omega (arith, some))
after-first (y ∷ ys) x some is = ap (λ z. z ∷ ys) (sym is)

-- ---- Whole values

-- what is written is a document
pub written-document : (depth : ℕ) (y : Value) → IsReadBack depth y
    → IsDocument depth (written y) y
written-document depth y stands =
    ([], (subst (λ l. ValueAhead false depth y l []) (append-nil (written y)) (stands false [] (λ is. is, λ may. absurd (cc may))), refl))
