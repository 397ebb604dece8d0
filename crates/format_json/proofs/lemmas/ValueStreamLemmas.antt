-- From the value that is found in the bytes of a slice to the stream that it was taken of.
use Rattle.std.proofs.Common.{◌≡◌, ℕ, suc, ◌≤◌, Bool, List, [], length, drop, sym, subst}
use Rattle.std.specs.Prelude.{Result, Ok, IfOk}
use Rattle.std.specs.declared.alloc.AllocError.{AllocError}
use Rattle.winnow_stream.specs.Source.{Source, units}
use Rattle.winnow_stream.specs.Front.{back}
use Rattle.format_lemmas.specs.Bytes.{bytes_of}
use Rattle.format_json.specs.Language.{after_blanks, ValueAhead}
use Rattle.format_json.specs.Founds.{HasNone}
use Rattle.format_json.specs.Damage.{BreaksOff}
use Rattle.format_json.specs.Begun.{BeginsValue}
use Rattle.format_json.specs.SameValues.{SameValue}
use Rattle.format_json.specs.Answers.{NoValueAhead, IsReading}
use Rattle.format_json.specs.declared.value.Value.{Value}
use Rattle.format_json.specs.declared.reading.Reading.{Reading}
use Rattle.format_json.specs.declared.reading.Reading.TheVariants as reading
use Rattle.format_json_scalars.proofs.lemmas.StringStreamLemmas.{text-is, rest-is}
use Rattle.format_json.proofs.lemmas.GrammarLemmas.{nested-once}
use Rattle.format_json.proofs.lemmas.SameLemmas.{nested-same}
use Rattle.format_json.proofs.lemmas.FoundLemmas.{none-here}
use Rattle.format_json.proofs.lemmas.NestedLemmas.{nested-some}

module _ (depth : ℕ) (partial : Bool) where
  -- the reading that a call returned
  pub value-as : (t : List ℕ) (result : Result Reading AllocError) (x y : Reading)
      → IfOk result (IsReading depth partial t) → result ≡ Ok x → x ≡ y
      → IsReading depth partial t y
  value-as t result x y is e same =
      subst (IsReading depth partial t) same (subst (λ q. IfOk q (IsReading depth partial t)) e is)

  module _ (r : Source ℕ) (t : List ℕ) (same : r ≡ units t) where
    -- a value that is missed in the bytes is missed in the stream
    pub value-missed : NoValueAhead depth partial t → NoValueAhead depth partial (bytes_of r)
    value-missed none v after h =
        none v after (subst (λ l. ValueAhead partial depth v l after) (text-is r t same) h)

    -- no matter what follows
    pub value-none : HasNone (ValueAhead partial depth) partial t
        → HasNone (ValueAhead partial depth) partial (bytes_of r)
    value-none none = subst (HasNone (ValueAhead partial depth) partial) (sym (text-is r t same)) none

    -- no value stands in blanks
    pub blank-missed : after_blanks t ≡ [] → NoValueAhead depth partial (bytes_of r)
    blank-missed e = value-missed (λ v after h. nested-some partial (suc depth) v t after e h)

    -- a damaged value is missed
    pub damaged-missed : HasNone (ValueAhead partial depth) partial t
        → NoValueAhead depth partial (bytes_of r)
    damaged-missed none = value-missed (none-here (ValueAhead partial depth) partial t none)

    -- a value that is begun in the bytes is begun in the stream
    pub value-open : BeginsValue partial depth t → BeginsValue partial depth (bytes_of r)
    value-open = subst (BeginsValue partial depth) (sym (text-is r t same))

    -- the place where a value breaks off
    pub value-place : (n : ℕ) (new : Source ℕ) → n ≤ length t → BreaksOff partial depth t (drop n t)
        → new ≡ back r n → BreaksOff partial depth (bytes_of r) (bytes_of new)
    value-place n new fits place e =
        subst (λ l. BreaksOff partial depth l (bytes_of new)) (sym (text-is r t same))
        (subst (BreaksOff partial depth t) (sym (rest-is r t same n new fits e)) place)

    module _ (v : Value) (n : ℕ) (new : Source ℕ) (is : IsReading depth partial t (reading.Whole v n)) (e : new ≡ back r n) where
      -- the input starts with a value that is found
      pub value-answers : ValueAhead partial depth v (bytes_of r) (bytes_of new)
      value-answers =
          subst (λ l. ValueAhead partial depth v l (bytes_of new)) (sym (text-is r t same))
          (subst (ValueAhead partial depth v t) (sym (rest-is r t same n new is.0 e)) is.1)

      -- and each that does is the same
      pub value-once : (w : Value) (after : List ℕ) → ValueAhead partial depth w (bytes_of r) after
          → SameValue (suc depth) v w × (bytes_of new ≡ after)
      value-once w after h =
          (nested-same partial (suc depth) v w (bytes_of r) (bytes_of new) after value-answers h, nested-once partial (suc depth) v w (bytes_of r) (bytes_of new) after value-answers h)
