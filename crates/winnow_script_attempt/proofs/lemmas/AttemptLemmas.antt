-- What a waiting step has settled, for each case of the code.
use Rattle.std.proofs.Common.{◌≡◌, ℕ, ◌+◌, ◌-◌, ◌≤◌, ◌<◌, Bool, true, false, cond, leb, List, [], ◌∷◌, ◌++◌, length, take, Option, None, Some, Ok, Err, refl, sym, ap, ◌∙◌, subst, arith, length-drop, take_all}
use Rattle.std.proofs.lemmas.List.{take_at}
use Rattle.std.specs.Prelude.{is_some, is_ok}
use Rattle.std.specs.declared.ops.Range.{Range}
use Rattle.std.proofs.lemmas.Bool.{le-leb, leb-false, and_from}
use Rattle.winnow_stream.specs.Source.{Source, width, HasPositiveWidths, first_token, first_offset}
use Rattle.winnow_stream.specs.Front.{count_to, back}
use Rattle.winnow_stream.specs.Shortage.{shortage, offset_at}
use Rattle.winnow_stream.specs.Longer.{count_to-le}
use Rattle.winnow_stream.proofs.lemmas.FrontLemmas.{is_offset-whole, count_to-place}
use Rattle.winnow_stream.specs.declared.needed.Needed.{Needed}
use Rattle.winnow_match.specs.declared.compare.CompareResult.{CompareResult}
use Rattle.winnow_match.specs.declared.compare.CompareResult.TheVariants as compared
use Rattle.winnow_match.specs.Comparison.{comparison}
use Rattle.winnow_match.specs.Search.{hit}
use Rattle.winnow_match.specs.declared.needles.Stretch.{Stretch}
use Rattle.winnow_match.specs.Stretch.{stretch_of, longest}
use Rattle.winnow_match.proofs.lemmas.MoveLemmas.{stretch-within, none-before_stretch}
use Rattle.winnow_match.proofs.lemmas.RuleLemmas.{none-definite}
use Rattle.winnow_match.proofs.lemmas.ComparisonLemmas.{incomplete-says}
use Rattle.winnow_script_run.specs.declared.need.Need.TheVariants as need
use Rattle.winnow_script_run.specs.Needs.{call_need}
use Rattle.winnow_script_run.specs.declared.search_steps.SearchStep.{SearchStep}
use Rattle.winnow_script_run.specs.declared.search_steps.SearchStep.TheVariants as step
use Rattle.winnow_script_attempt.specs.Looks.{look_of}
use Rattle.winnow_script_run.specs.declared.script.Step.{Step}
use Rattle.winnow_script_run.specs.Definite.{PieceReading, is_call_definite, is_definite, is_decided}
use Rattle.winnow_script_attempt.specs.Settled.{NoneInSet, NoneOccurs, AreSame, AreCounted}
use Rattle.winnow_script_attempt.proofs.lemmas.SettledLemmas.{NoneInSet-whole, NoneOccurs-searched, have_most}

-- an option that is not `Some` is `None`
pub none-from_is_some : {A : Type 0} (o : Option A) → is_some o ≡ false → o ≡ None
none-from_is_some None h = refl
none-from_is_some (Some x) h = absurd (cc)

-- if no token is in the set, `First` has settled all that remains
pub first-settled : {T : Type 0} (holds : T → Bool) (r : Source T) → HasPositiveWidths r
    → is_some (first_offset holds r) ≡ false → NoneInSet holds r (width r)
first-settled holds r w h = NoneInSet-whole holds r w (none-from_is_some (first_offset holds r) h)

-- a conditional that does not answer `Ok` has a false condition
short : (b : Bool) (w : ℕ) (e : Needed) → is_ok (cond b (Ok w) (Err e)) ≡ false → b ≡ false
short true w e h = h
short false w e h = refl

-- if `At` has no answer yet, no more tokens remain than it asks for
pub at-short : {T : Type 0} (counts_shortage : Bool) (r : Source T) (asked : ℕ)
    → is_ok (offset_at counts_shortage r asked) ≡ false → length r ≤ asked
at-short counts_shortage r asked h =
    let e = short (leb asked (length r)) (width (take asked r)) (shortage counts_shortage (asked - length r)) h in
    omega (arith, leb-false asked (length r) e)

-- with what remains counted too, `At` has settled all that remains
pub counted-whole : {T : Type 0} (asked : ℕ) (r : Source T) (n count total : ℕ)
    → HasPositiveWidths r → AreCounted asked r n count → length r ≤ asked
    → total ≡ count + length (back r n) → AreCounted asked r (width r) total
counted-whole asked r n count total w h l e =
    let whole : width (take (length r) r) ≡ width r = ap width (take_all (length r) r (omega arith)) in
    let k : count_to r (width r) ≡ length r = subst (λ m. count_to r m ≡ length r) whole (count_to-place r (length r) w (omega arith)) in
    let same : total ≡ length r = omega (arith, e, h.counted, length-drop (count_to r n) r, count_to-le r n) in
    record { offset = is_offset-whole r w; counted = k ∙ sym same; fits = omega (arith, same) }

-- a comparison that is not decided is `Incomplete`
undecided : (c : CompareResult) → is_decided c ≡ false → c ≡ compared.Incomplete
undecided (compared.Ok n) h = absurd (cc)
undecided compared.Incomplete h = refl
undecided compared.Error h = absurd (cc)

-- if a comparison is not decided, all bytes are the same as the literal's
pub same-whole : (literal bytes : List ℕ) → is_decided (comparison literal bytes) ≡ false
    → AreSame literal bytes (length bytes)
same-whole literal bytes h =
    let parts = (incomplete-says literal bytes).0 (undecided (comparison literal bytes) h) in
    let e : literal ≡ bytes ++ parts.0.0 = parts.0.1 in
    record {
      within = omega arith;
      fits = omega (arith, parts.1);
      same = take_all (length bytes) bytes (omega arith) ∙ sym (ap (take (length bytes)) e ∙ take_at bytes parts.0.0 (length bytes) refl);
    }

-- ---- searches

-- no needle is longer than the longest
most-longest : (w : ℕ) (ls : List (List ℕ)) → longest ls ≤ w → have_most w ls ≡ true
most-longest w [] l = refl
most-longest w (x ∷ ls) l = and_from _ _ (le-leb (length x) w (omega (arith, l))) (most-longest w ls (omega (arith, l)))

module _ (ls : List (List ℕ)) (bs : List ℕ) where
  -- if there is no hit, a search has settled all but the last places where a needle may begin
  pub searched-none : (m : ℕ) → m ≡ longest ls → None ≡ hit ls bs
      → NoneOccurs ls bs (length bs - (m - 1))
  searched-none m e none = NoneOccurs-searched (m - 1) ls bs (most-longest (m - 1 + 1) ls (omega (arith, e))) (sym none)

  -- if a needle stretches, a search has settled the places before it
  pub searched-hit : (r : Range ℕ) (s : Stretch) → Some r ≡ hit ls bs → Some s ≡ stretch_of ls bs
      → NoneOccurs ls bs s.place
  searched-hit r s h e = record { within = stretch-within ls bs r s (sym h) (sym e); none = λ m i l. none-before_stretch ls bs r s (sym h) (sym e) m i l }

pub ruleset found_hits = (none-definite)

pub ruleset passes = (first-settled, at-short, same-whole)

-- there are no more tokens than the width
pub length-width : {T : Type 0} (r : Source T) → HasPositiveWidths r → length r ≤ width r
length-width [] h = omega arith
length-width (x ∷ r) h = omega (arith, h.0, length-width r h.1)

-- a first token is at least one token
pub one-left : {T : Type 0} (r : Source T) → is_some (first_token r) ≡ true → 0 < length r
one-left [] h = absurd (cc)
one-left (x ∷ r) h = omega arith

-- ---- attempts

-- a call that needs the end is not definite
pub never : {T C : Type 0} (holds : C → T → Bool) (counts_shortage : Bool) (s : Step C)
    (r : Source T) → need.End ≡ call_need s → is_call_definite holds counts_shortage s r ≡ false
never holds counts_shortage s r e = rw (← e) refl

-- a look says whether the step is definite
pub look-definite : {T C L : Type 0} (k : PieceReading T C L) (at : ℕ) (marks : List ℕ)
    (r : Source T) (s : SearchStep C L) → (look_of k at marks r s).definite ≡ is_definite k s r
look-definite k at marks r (step.Call s) = refl
look-definite k at marks r (step.Compare l) = refl
look-definite k at marks r (step.Find ns) = refl

pub ruleset attempted = (never, look-definite)
