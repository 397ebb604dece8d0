-- What a look at a step gives, for each case of the code.
use Rattle.std.proofs.Common.{◌≡◌, ℕ, ◌+◌, ◌-◌, ◌≤◌, ◌<◌, true, List, [], ◌∷◌, length, drop, Option, None, Some, refl, sym, ap, ◌∙◌, arith}
use Rattle.winnow_stream.specs.Source.{Source, width}
use Rattle.winnow_stream.specs.Front.{is_offset}
use Rattle.winnow_stream.proofs.lemmas.FrontLemmas.{front_count-found, front_count-missing, width-back}
use Rattle.std.proofs.Common.{get_or, length-drop}
use Rattle.std.specs.Prelude.{slice_get, IfSome}
use Rattle.std.specs.declared.ops.Range.{Range}
use Rattle.std.proofs.lemmas.Option.{slice_get-get_or, slice_get_past}
use Rattle.winnow_stream.specs.Source.{units}
use Rattle.winnow_stream.proofs.lemmas.UnitLemmas.{le-from_is_offset}
use Rattle.winnow_match.specs.declared.compare.CompareResult.TheVariants as compared
use Rattle.winnow_match.specs.Comparison.{comparison}
use Rattle.winnow_match.specs.Search.{hit, AreOffsets}
use Rattle.winnow_match.proofs.lemmas.ByteLemmas.{bytes_of-units}
use Rattle.winnow_match.proofs.lemmas.ComparisonLemmas.{front-from_ok}
use Rattle.winnow_script_attempt.specs.Settled.{AreSame, NoneOccurs, shifted, longer}
use Rattle.winnow_script_attempt.specs.Looks.{first_width}
use Rattle.winnow_script_attempt.proofs.lemmas.SettledLemmas.{AreSame-on, NoneOccurs-on}

-- the width that the first token takes off what remains is its own
pub first_width-is : {T : Type 0} (r : Source T) → width r - width (drop 1 r) ≡ first_width r
first_width-is [] = refl
first_width-is (x ∷ r) = omega arith

-- a valid offset is no greater than the width
pub offset-within : {T : Type 0} (r : Source T) (n : ℕ) → is_offset r n ≡ true → n ≤ width r
offset-within r n h = omega (arith, width-back r n h)

pub ruleset looks = (first_width-is, front_count-found, front_count-missing, offset-within)

-- a number below the length has its mark, and a number past the length has none
pub mark-there : (marks : List ℕ) (k : ℕ) → k < length marks
    → Some (get_or marks k 0) ≡ slice_get marks k
mark-there marks k h = sym (slice_get-get_or marks k 0 h)

pub mark-past : (marks : List ℕ) (k : ℕ) → length marks ≤ k → None ≡ slice_get marks k
mark-past marks k h = sym (slice_get_past marks k h)

pub ruleset marks_read = (mark-there, mark-past)

-- ---- resuming after what is settled

module _ (literal bytes l b : List ℕ) (n : ℕ) (same : AreSame literal bytes n) (el : l ≡ drop n literal) (eb : b ≡ drop n bytes) where
  -- the comparison of the whole is that of the rest, longer by what is the same
  going : comparison literal bytes ≡ longer n (comparison l b)
  going = rw (el, eb) (AreSame-on n literal bytes same)

  -- each outcome for the rest, and the outcome for the whole that it means
  pub same-ok : (k : ℕ) → comparison l b ≡ compared.Ok k
      → compared.Ok (length literal) ≡ comparison literal bytes
  same-ok k h =
      let len : k ≡ length l = (front-from_ok l b k h).1 in
      let e : n + k ≡ length literal = omega (arith, length-drop n literal, same.fits, len, ap length el) in
      sym (going ∙ ap (longer n) h ∙ ap compared.Ok e)

  pub same-incomplete : comparison l b ≡ compared.Incomplete
      → compared.Incomplete ≡ comparison literal bytes
  same-incomplete h = sym (going ∙ ap (longer n) h)

  pub same-error : comparison l b ≡ compared.Error → compared.Error ≡ comparison literal bytes
  same-error h = sym (going ∙ ap (longer n) h)

module _ (needles : List (List ℕ)) (bytes b : List ℕ) (n : ℕ) (none : NoneOccurs needles bytes n) (eb : b ≡ drop n bytes) where
  -- the hit in the whole is that in the rest, moved by what is settled
  hits : hit needles bytes ≡ shifted n (hit needles b)
  hits = rw eb (NoneOccurs-on needles bytes n none)

  -- a hit in the rest, and no hit in the rest, as answers for the whole
  pub hit-later : (p : Range ℕ) → hit needles b ≡ Some p
      → Some (record { start = n + p.start; end = n + p.end }) ≡ hit needles bytes
  hit-later p h = sym (hits ∙ ap (shifted n) h)

  pub hit-never : hit needles b ≡ None → None ≡ hit needles bytes
  hit-never h = sym (hits ∙ ap (shifted n) h)

-- a hit at valid offsets fits in the bytes
pub hit-fits : (o : Option (Range ℕ)) (bytes : List ℕ) → IfSome o (AreOffsets (units bytes))
    → IfSome o (λ p. (p.start ≤ p.end) × (p.end ≤ length bytes))
hit-fits None bytes h = tt
hit-fits (Some p) bytes h = (h.0, le-from_is_offset bytes p.end h.1.1)

pub ruleset hits_fit = (bytes_of-units, hit-fits)
