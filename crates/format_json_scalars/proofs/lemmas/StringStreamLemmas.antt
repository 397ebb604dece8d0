-- From the bytes of a slice to the stream that it was taken of.
use Rattle.std.proofs.Common.{◌≡◌, ℕ, ◌≤◌, Bool, false, List, [], length, drop, ap, sym, ◌∙◌, subst, IsTrue, Option}
use Rattle.std.specs.Prelude.{Result, Ok, IfOk}
use Rattle.std.specs.declared.alloc.AllocError.{AllocError}
use Rattle.std.specs.declared.string.String.{String}
use Rattle.std.specs.declared.alloc.Global.{Global}
use Rattle.winnow_stream.specs.Source.{Source, units, width, HasPositiveWidths}
use Rattle.winnow_stream.specs.Front.{is_offset, back}
use Rattle.winnow_stream.specs.Location.{location_behind}
use Rattle.winnow_stream.specs.Moving.{MovesOn}
use Rattle.winnow_stream.specs.SliceBytes.{SlicesHaveBytes}
use Rattle.winnow_stream.proofs.lemmas.FrontLemmas.{is_offset-whole, front-whole}
use Rattle.winnow_stream.proofs.lemmas.MovingLemmas.{MovesOn-front}
use Rattle.winnow_stream.proofs.lemmas.UnitLemmas.{is_offset-from_le, units-drop}
use Rattle.format_lemmas.specs.Bytes.{bytes_of, StartsWith}
use Rattle.format_lemmas.proofs.lemmas.ByteLemmas.{bytes-units}
use Rattle.format_json_scalars.specs.Strings.{StringAhead}
use Rattle.format_json_scalars.specs.StringAnswers.{HasChars, IsDamagedAt, IsBegun}
use Rattle.format_json_scalars.specs.Steps.{IsReading}
use Rattle.format_json_scalars.specs.declared.strings.Reading.{Reading}
use Rattle.format_json_scalars.specs.declared.strings.Reading.TheVariants as reading
use Rattle.format_json_scalars.proofs.lemmas.StringLemmas.{string-once, damaged-at, begun-at, begun-begun, nothing-is-begun}

-- the tokens of a stream whose whole rest is a slice are the bytes of the slice
pub source-is : {S : Type 0} (is_slice : S → Source ℕ → ℕ → Type 0) (bytes : S → List ℕ)
    → SlicesHaveBytes is_slice bytes → (r : Source ℕ) (s : S) (t : List ℕ) → HasPositiveWidths r
    → is_slice s r (width r) → t ≡ bytes s → r ≡ units t
source-is is_slice bytes have r s t wide whole same =
    sym (front-whole r wide) ∙ sym (have s r (width r) (is_offset-whole r wide) whole) ∙ ap units (sym same)

-- the reading that a call returned
pub read-as : (t : List ℕ) (result : Result Reading AllocError) (x y : Reading)
    → IfOk result (IsReading t) → result ≡ Ok x → x ≡ y → IsReading t y
read-as t result x y is e same =
    subst (IsReading t) same (subst (λ q. IfOk q (IsReading t)) e is)

-- a stream that consumes a prefix advances
pub moved-to : (a b : Option ℕ) (r new : Source ℕ) (n : ℕ) → IsTrue (is_offset r n)
    → b ≡ location_behind a n → new ≡ back r n → MovesOn a b r new
moved-to a b r new n fits place rest =
    subst (λ p. MovesOn a p r new) (sym place) (subst (MovesOn a (location_behind a n) r) (sym rest) (MovesOn-front a r n fits))

module _ (r : Source ℕ) (t : List ℕ) (same : r ≡ units t) where
  -- the bytes that remain
  pub text-is : bytes_of r ≡ t
  text-is = ap bytes_of same ∙ bytes-units t

  -- the lengths of prefixes are offsets
  pub offset-fits : (n : ℕ) → n ≤ length t → IsTrue (is_offset r n)
  offset-fits n h = subst (λ q. IsTrue (is_offset q n)) (sym same) (is_offset-from_le t n h)

  -- the bytes that remain after a prefix
  pub rest-is : (n : ℕ) (new : Source ℕ) → n ≤ length t → new ≡ back r n → bytes_of new ≡ drop n t
  rest-is n new h e =
      ap bytes_of (e ∙ ap (λ q. back q n) same ∙ sym (units-drop t n h)) ∙ bytes-units (drop n t)

  -- a string that is missed in the bytes is missed in the stream
  pub missed : (ds after : List ℕ) → ¬ (StringAhead t ds after)
      → ¬ (StringAhead (bytes_of r) ds after)
  missed ds after none h = none (subst (λ l. StringAhead l ds after) text-is h)

  -- a quote that is missed in the bytes is missed in the stream
  pub no-quote : ¬ (StartsWith 34 t) → ¬ (StartsWith 34 (bytes_of r))
  no-quote none h = none (subst (StartsWith 34) text-is h)

  -- and some bytes
  pub not-empty : ¬ (t ≡ []) → ¬ (bytes_of r ≡ [])
  not-empty some e = some (sym text-is ∙ e)

  -- the input starts with a whole string
  pub whole-answers : (v : String Global) (n : ℕ) (new : Source ℕ) → IsReading t (reading.Whole v n)
      → new ≡ back r n
      → (cs : List ℕ) × (StringAhead (bytes_of r) cs (bytes_of new) × HasChars v cs)
  whole-answers v n new (within, (cs, (ahead, has))) e =
      (cs, (subst (λ l. StringAhead l cs (bytes_of new)) (sym text-is) (subst (StringAhead t cs) (sym (rest-is n new within e)) ahead), has))

  -- and no other does
  pub whole-once : (v : String Global) (n : ℕ) (new : Source ℕ) → IsReading t (reading.Whole v n)
      → new ≡ back r n → (ds after : List ℕ) → StringAhead (bytes_of r) ds after
      → HasChars v ds × (bytes_of new ≡ after)
  whole-once v n new (within, (cs, (ahead, has))) e ds after h =
      let one = string-once t cs (drop n t) ds after ahead (subst (λ l. StringAhead l ds after) text-is h) in
      (subst (HasChars v) one.0 has, rest-is n new within e ∙ one.1)

  -- a damaged string is cut where it is damaged
  pub damaged-cuts : (partial : Bool) (n : ℕ) (new : Source ℕ) → IsReading t (reading.Damaged n)
      → new ≡ back r n → IsDamagedAt partial (bytes_of r) (bytes_of new)
  damaged-cuts partial n new is e =
      subst (λ l. IsDamagedAt partial l (bytes_of new)) (sym text-is) (subst (IsDamagedAt partial t) (sym (rest-is n new is.0.0 e)) (damaged-at partial t n is))

  -- a string that is begun is cut at the end of the input
  pub begun-cuts : (partial : Bool) (n : ℕ) (new : Source ℕ) → partial ≡ false
      → IsReading t (reading.Begun n) → new ≡ back r n
      → IsDamagedAt partial (bytes_of r) (bytes_of new)
  begun-cuts partial n new ended is e =
      subst (λ l. IsDamagedAt partial l (bytes_of new)) (sym text-is) (subst (IsDamagedAt partial t) (sym (rest-is n new is.0.0 e)) (begun-at partial t n ended is))

  -- a string that is begun needs more
  pub begun-needs : (n : ℕ) → IsReading t (reading.Begun n) → IsBegun (bytes_of r)
  begun-needs n is = subst IsBegun (sym text-is) (begun-begun t n is)

  -- an empty input needs more
  pub nothing-needs : t ≡ [] → IsBegun (bytes_of r)
  nothing-needs e = nothing-is-begun (bytes_of r) (text-is ∙ e)
