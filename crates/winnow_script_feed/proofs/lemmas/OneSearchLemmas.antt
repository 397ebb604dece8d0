-- The first answer of a script that searches for one literal.
use Rattle.std.proofs.Common.{◌≡◌, ℕ, ◌<◌, Bool, true, false, cond, List, [], ◌∷◌, length, map, Option, None, Some, Bor, refl, sym, ap, ◌∙◌, arith}
use Rattle.std.specs.Prelude.{option_map, slice_get}
use Rattle.std.specs.List.{take_while}
use Rattle.std.specs.Str.{is_utf8}
use Rattle.std.specs.declared.ops.Range.{Range}
use Rattle.std.proofs.lemmas.Bool.{false≢true}
use Rattle.std.proofs.lemmas.Str.{IsUtf8-from_is_utf8}
use Rattle.winnow_match.specs.Bytes.{written}
use Rattle.winnow_match.specs.Search.{hit}
use Rattle.winnow_match.specs.Stretch.{hit_is_definite}
use Rattle.winnow_match.specs.declared.needles.Needles.TheVariants.{One}
use Rattle.winnow_match.proofs.lemmas.ByteLemmas.{bytes_of-units, utf8_of-text_source}
use Rattle.winnow_match.proofs.lemmas.RuleLemmas.{none-definite}
use Rattle.winnow_match.proofs.lemmas.TailLemmas.{one-length}
use Rattle.winnow_script_run.specs.declared.search_steps.SearchStep.TheVariants as step
use Rattle.winnow_script_run.specs.declared.search_steps.SearchAnswer.TheVariants as answer
use Rattle.winnow_script_run.specs.Searching.{PlacedSearchAnswer}
use Rattle.winnow_script_feed.specs.Inputs.{InputRules, byte_input, text_input, joined}
use Rattle.winnow_script_feed.specs.ToldAnswers.{numbered, piece_of, first_told, TellsHit}
use Rattle.winnow_script_feed.proofs.lemmas.InputLemmas.{texts-input}
use Rattle.winnow_script_feed.proofs.lemmas.ToldLemmas.{AreInputs, AreInputs-joined}

abbrev hit_answer : Option (Range ℕ) → PlacedSearchAnswer ℕ
hit_answer found = answer.Hit found

-- the first answer of a script of one step is its answer, if that is definite
told-once : (number : ℕ → ℕ) (a : PlacedSearchAnswer ℕ) (d : Bool)
    → option_map (λ t. t.answer)
    (slice_get (numbered number 0 (map {A = PlacedSearchAnswer ℕ
    × Bool} (λ a. a.0) (take_while {X = PlacedSearchAnswer ℕ × Bool} (λ a. a.1) ((a, d) ∷ [])))) 0)
    ≡ cond d (Some a) None
told-once number a true = refl
told-once number a false = refl

-- an answer that is definite exactly if there is a hit is that hit
hit-out : (h : Option (Range ℕ)) (d : Bool) → (h ≡ None → d ≡ false)
    → ((r : Range ℕ) → h ≡ Some r → d ≡ true)
    → cond d (Some (hit_answer h)) None ≡ option_map (λ r. hit_answer (Some r)) h
hit-out None false none some = refl
hit-out None true none some = absurd (false≢true (sym (none refl)))
hit-out (Some r) true none some = refl
hit-out (Some r) false none some = absurd (false≢true (some r refl))

-- a literal that is not empty does not occur in empty input
none-fed : (literal : List ℕ) → (literal ≡ [] → 0 < 0) → hit (literal ∷ []) [] ≡ None
none-fed [] some = absurd (omega (arith, some refl))
none-fed (x ∷ literal) some = refl

-- the hit of one literal is out as soon as there is one
module _ (i : InputRules) (literal : Bor (List ℕ)) where
  -- the first answer after some pieces is the hit, if the input's bytes are read back
  told-hit : (pieces : List (List ℕ))
      → written i.pieces.write (i.source (joined pieces)) ≡ joined pieces
      → (i.pieces.literal literal ≡ [] → 0 < length pieces)
      → first_told i (step.Find (One literal) ∷ []) pieces
      ≡ option_map (λ r. hit_answer (Some r)) (hit (i.pieces.literal literal ∷ []) (joined pieces))
  told-hit [] same some = ap (option_map (λ r. hit_answer (Some r))) (sym (none-fed (i.pieces.literal literal) some))
  told-hit (p ∷ pieces) same some =
      let needles = i.pieces.literal literal ∷ [] in
      let bytes = written i.pieces.write (i.source (joined (p ∷ pieces))) in
      told-once (piece_of i (step.Find (One literal) ∷ []) (p ∷ pieces)) (hit_answer (hit needles bytes)) (hit_is_definite needles bytes)
      ∙ hit-out (hit needles bytes) (hit_is_definite needles bytes) (none-definite needles bytes) (λ r found. one-length needles bytes r refl found)
      ∙ ap (λ b. option_map (λ r. hit_answer (Some r)) (hit needles b)) same

-- the law of one search, for bytes and for text
pub told-byte_hit : (literal : Bor (List ℕ)) (pieces : List (List ℕ))
    → (literal.now ≡ [] → 0 < length pieces) → TellsHit byte_input literal pieces
told-byte_hit literal pieces some = told-hit byte_input literal pieces (bytes_of-units (joined pieces)) some

pub told-text_hit : (literal : Bor (List ℕ)) (pieces : List (List ℕ)) → AreInputs is_utf8 pieces
    → (literal.now ≡ [] → 0 < length pieces) → TellsHit text_input literal pieces
told-text_hit literal pieces us some =
    let text : is_utf8 (joined pieces) ≡ true = AreInputs-joined text_input texts-input pieces us in
    told-hit text_input literal pieces (utf8_of-text_source (joined pieces) (IsUtf8-from_is_utf8 (joined pieces) text)) some
