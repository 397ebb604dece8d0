-- A combinator of punctual parsers is punctual.
use Rattle.std.proofs.Common.{◌≡◌, ℕ, zero, suc, ◌-◌, Bool, List, Option, Some, None, subst}
use Rattle.std.specs.Prelude.{⊤}
use Rattle.winnow_stream.specs.Source.{Source}
use Rattle.winnow_stream.specs.Longer.{SlicesStay}
use Rattle.winnow_parser.specs.Outcome.{Outcome, Gives, Fails, Meaning}
use Rattle.winnow_parser.specs.Determined.{Agree, AreBothSame, AreSameIfAny, Respects, SlicesRespect}
use Rattle.winnow_parser.specs.Meanings.{Maps, First, Second, Pair, IsPreceded, IsTerminated, IsAlt2, IsOpt, Peeks, IsNot, CutsErr, BacktracksErr, Verifies, VerifyMaps}
use Rattle.winnow_parser.specs.Parts.{IsParser-Maps, IsParser-Pair, IsParser-IsAlt2, IsParser-IsOpt, IsParser-Peeks, IsParser-IsNot, IsParser-CutsErr, IsParser-BacktracksErr, IsParser-Verifies, IsParser-VerifyMaps}
use Rattle.winnow_parser.proofs.lemmas.DeterminedLemmas.{determined-maps, determined-pair, determined-alt2}
use Rattle.winnow_parser.proofs.lemmas.ImageLemmas.{determined-opt, determined-peek, determined-not, determined-cut_err, determined-backtrack_err, determined-verify, determined-verify_map}
use Rattle.winnow_token.specs.OneOf.{IsOneOf, IsParser-IsOneOf}
use Rattle.winnow_token.specs.TakeWhile.{TakesWhile, IsParser-TakesWhile}
use Rattle.winnow_token.proofs.lemmas.ToldLemmas.{determined-one_of, determined-take_while}
use Rattle.winnow_combinator.specs.Appended.{Appending, IsParser-Appending}
use Rattle.winnow_combinator.specs.Counts.{fewer}
use Rattle.winnow_combinator.specs.DeterminedLists.{AreSameEach}
use Rattle.winnow_combinator.specs.Ending.{IsEof, IsParser-IsEof}
use Rattle.winnow_combinator.specs.Gathering.{Gathered, IsParser-Gathered}
use Rattle.winnow_combinator.specs.Repeat.{Repeats, IsParser-Repeats}
use Rattle.winnow_combinator.specs.Separated.{Prepends, Chained, OrNone, IfNeeded, IsSeparated, Countable, IsParser-IsSeparated, IsParser-Countable}
use Rattle.winnow_combinator.proofs.lemmas.AgreeingLemmas.{determined-repeat}
use Rattle.winnow_combinator.proofs.lemmas.AgreeingEndLemmas.{determined-eof}
use Rattle.winnow_combinator.proofs.lemmas.CombinedLemmas.{determined-gathered, determined-appending, determined-countable, determined-separated}
use Rattle.winnow_liveness.specs.Live.{IsLive, IsPunctual}
use Rattle.winnow_liveness.proofs.lemmas.ImageLemmas.{IsLive-Maps, IsLive-Gathered, IsLive-Appending, IsLive-Countable, IsLive-IsOpt, IsLive-Peeks, IsLive-IsNot, IsLive-CutsErr, IsLive-BacktracksErr, IsLive-Verifies, IsLive-VerifyMaps}
use Rattle.winnow_liveness.proofs.lemmas.PairLemmas.{IsLive-Pair, IsLive-IsAlt2}
use Rattle.winnow_liveness.proofs.lemmas.RepeatLemmas.{IsLive-Repeats}
use Rattle.winnow_liveness.proofs.lemmas.TokenLemmas.{IsLive-IsOneOf, IsLive-TakesWhile, IsLive-IsEof}

-- a wider relation of values
wider : {O T : Type 0} (same alike : O → O → Type 0) (on : (x y : O) → same x y → alike x y)
    (v w : Outcome O T) → Agree same v w → Agree alike v w
wider same alike on (Gives x b) (Gives y c) h = (on x y h.0, h.1)
wider same alike on (Gives x b) (Fails g) h = h
wider same alike on (Fails f) (Gives y c) h = h
wider same alike on (Fails f) (Fails g) h = h

-- a parser is punctual by each relation that tells fewer values apart
pub IsPunctual-on : {O T : Type 0} {same : O → O → Type 0} {means : Meaning O T}
    (alike : O → O → Type 0) → IsPunctual same means → ((x y : O) → same x y → alike x y)
    → IsPunctual alike means
IsPunctual-on {same = same} alike p on = record {
  lawful = p.lawful;
  once = λ partial a v w s t h k. wider same alike on v w (p.once partial a v w s t h k);
  live = p.live;
}

-- ---- Tokens and the end

-- a token of a set
pub IsPunctual-IsOneOf : {T : Type 0} (holds : T → Bool) → IsPunctual ◌≡◌ (IsOneOf holds)
IsPunctual-IsOneOf holds = record {
  lawful = IsParser-IsOneOf holds;
  once = determined-one_of holds;
  live = IsLive-IsOneOf holds;
}

module _ {S T : Type 0} (is_slice : S → Source T → ℕ → Type 0) (alike : S → S → Type 0)
    (fronts : SlicesRespect is_slice alike) where
  -- the tokens of a set
  pub IsPunctual-TakesWhile : SlicesStay is_slice → (holds : T → Bool) (least : ℕ)
      (greatest : Option ℕ) → IsPunctual alike (TakesWhile is_slice holds least greatest)
  IsPunctual-TakesWhile stay holds least greatest = record {
    lawful = IsParser-TakesWhile is_slice stay holds least greatest;
    once = determined-take_while is_slice alike fronts holds least greatest;
    live = IsLive-TakesWhile is_slice holds least greatest;
  }

  -- the end of the input
  pub IsPunctual-IsEof : IsPunctual alike (IsEof is_slice)
  IsPunctual-IsEof = record {
    lawful = IsParser-IsEof is_slice;
    once = determined-eof is_slice alike fronts;
    live = IsLive-IsEof is_slice;
  }

-- ---- Another value

module _ {O T : Type 0} {same : O → O → Type 0} {inner : Meaning O T} (p : IsPunctual same inner) where
  -- `map`, `value`, `void`
  pub IsPunctual-Maps : {P : Type 0} (alike : P → P → Type 0) (gives : O → P → Type 0)
      → Respects same alike gives → IsPunctual alike (Maps gives inner)
  IsPunctual-Maps alike gives respects = record {
    lawful = IsParser-Maps gives inner p.lawful;
    once = determined-maps same alike gives respects inner p.once;
    live = IsLive-Maps inner p.live gives;
  }

  -- a value that takes memory
  pub IsPunctual-Gathered : {P : Type 0} (alike : P → P → Type 0) (refusable : Type 0)
      (gives : O → P → Type 0) → Respects same alike gives
      → IsPunctual alike (Gathered refusable gives inner)
  IsPunctual-Gathered alike refusable gives respects = record {
    lawful = IsParser-Gathered refusable gives p.lawful;
    once = determined-gathered same alike refusable gives respects inner p.once;
    live = IsLive-Gathered inner p.live refusable gives;
  }

  -- an error that is appended to
  pub IsPunctual-Appending : (refusable : Type 0) → IsPunctual same (Appending refusable inner)
  IsPunctual-Appending refusable = record {
    lawful = IsParser-Appending refusable p.lawful;
    once = determined-appending refusable same inner p.once;
    live = IsLive-Appending inner p.live refusable;
  }

  -- a list that is too long to be counted
  pub IsPunctual-Countable : IsPunctual same (Countable inner)
  IsPunctual-Countable = record {
    lawful = IsParser-Countable p.lawful;
    once = determined-countable same inner p.once;
    live = IsLive-Countable inner p.live;
  }

  -- `opt`
  pub IsPunctual-IsOpt : IsPunctual (AreSameIfAny same) (IsOpt inner)
  IsPunctual-IsOpt = record {
    lawful = IsParser-IsOpt inner p.lawful;
    once = determined-opt inner same p.once;
    live = IsLive-IsOpt inner p.live;
  }

  -- `peek`
  pub IsPunctual-Peeks : IsPunctual same (Peeks inner)
  IsPunctual-Peeks = record {
    lawful = IsParser-Peeks inner p.lawful;
    once = determined-peek inner same p.once;
    live = IsLive-Peeks inner p.live;
  }

  -- `not`
  pub IsPunctual-IsNot : IsPunctual (λ u v. ⊤) (IsNot inner)
  IsPunctual-IsNot = record {
    lawful = IsParser-IsNot inner p.lawful;
    once = determined-not inner same p.once;
    live = IsLive-IsNot inner p.live;
  }

  -- `cut_err`
  pub IsPunctual-CutsErr : IsPunctual same (CutsErr inner)
  IsPunctual-CutsErr = record {
    lawful = IsParser-CutsErr inner p.lawful;
    once = determined-cut_err inner same p.once;
    live = IsLive-CutsErr inner p.live;
  }

  -- `backtrack_err`
  pub IsPunctual-BacktracksErr : IsPunctual same (BacktracksErr inner)
  IsPunctual-BacktracksErr = record {
    lawful = IsParser-BacktracksErr inner p.lawful;
    once = determined-backtrack_err inner same p.once;
    live = IsLive-BacktracksErr inner p.live;
  }

  -- `verify`
  pub IsPunctual-Verifies : (answers : O → Bool → Type 0) → Respects same ◌≡◌ answers
      → IsPunctual same (Verifies answers inner)
  IsPunctual-Verifies answers respects = record {
    lawful = IsParser-Verifies answers inner p.lawful;
    once = determined-verify answers inner same respects p.once;
    live = IsLive-Verifies inner p.live answers;
  }

  -- `verify_map`
  pub IsPunctual-VerifyMaps : {P : Type 0} (alike : P → P → Type 0) (gives : O → Option P → Type 0)
      → Respects same (AreSameIfAny alike) gives → IsPunctual alike (VerifyMaps gives inner)
  IsPunctual-VerifyMaps alike gives respects = record {
    lawful = IsParser-VerifyMaps gives inner p.lawful;
    once = determined-verify_map gives inner same alike respects p.once;
    live = IsLive-VerifyMaps inner p.live gives;
  }

  -- `repeat`
  pub IsPunctual-Repeats : (least : ℕ) (greatest : Option ℕ)
      → IsPunctual (AreSameEach same) (Repeats least greatest inner)
  IsPunctual-Repeats least greatest = record {
    lawful = IsParser-Repeats least greatest p.lawful;
    once = determined-repeat same least greatest inner p.once;
    live = IsLive-Repeats least greatest inner p.lawful same p.once p.live;
  }

-- ---- Several parsers

module _ {O P T : Type 0} {same : O → O → Type 0} {alike : P → P → Type 0} {first : Meaning O T}
    {second : Meaning P T} (p : IsPunctual same first) (q : IsPunctual alike second) where
  -- one after another
  pub IsPunctual-Pair : IsPunctual (AreBothSame same alike) (Pair first second)
  IsPunctual-Pair = record {
    lawful = IsParser-Pair first second p.lawful q.lawful;
    once = determined-pair same alike first second p.once q.once;
    live = IsLive-Pair first second p.lawful same p.once p.live q.live;
  }

  -- `preceded`
  pub IsPunctual-IsPreceded : IsPunctual alike (IsPreceded first second)
  IsPunctual-IsPreceded =
      IsPunctual-Maps IsPunctual-Pair alike Second (λ x y u v h e f. subst_both x y u v h.1 e f)
    where
      subst_both : (x y : O × P) (u v : P) → alike x.1 y.1 → x.1 ≡ u → y.1 ≡ v → alike u v
      subst_both x y u v h e f = subst (λ w. alike w v) e (subst (alike x.1) f h)

  -- `terminated`
  pub IsPunctual-IsTerminated : IsPunctual same (IsTerminated first second)
  IsPunctual-IsTerminated =
      IsPunctual-Maps IsPunctual-Pair same First (λ x y u v h e f. subst_both x y u v h.0 e f)
    where
      subst_both : (x y : O × P) (u v : O) → same x.0 y.0 → x.0 ≡ u → y.0 ≡ v → same u v
      subst_both x y u v h e f = subst (λ w. same w v) e (subst (same x.0) f h)

-- `alt` of two
pub IsPunctual-IsAlt2 : {O T : Type 0} (refusable : Type 0) {same : O → O → Type 0}
    {first second : Meaning O T} → IsPunctual same first → IsPunctual same second
    → IsPunctual same (IsAlt2 refusable first second)
IsPunctual-IsAlt2 refusable {same} {first} {second} p q = record {
  lawful = IsParser-IsAlt2 refusable first second p.lawful q.lawful;
  once = determined-alt2 refusable same first second p.once q.once;
  live = IsLive-IsAlt2 refusable first second p.lawful same p.once p.live q.live;
}

-- ---- `separated`

module _ {O S T : Type 0} {same : O → O → Type 0} {alike : S → S → Type 0} {separator : Meaning S T}
    {inner : Meaning O T} (q : IsPunctual alike separator) (p : IsPunctual same inner) where
  -- a list is live
  live-chained : (least : ℕ) (greatest : Option ℕ) → IsLive (Chained least greatest separator inner)
  live-chained least greatest =
      let next = IsPunctual-Repeats (IsPunctual-IsPreceded q p) (least - 1) (fewer greatest) in
      IsLive-Maps (Pair inner (Repeats (least - 1) (fewer greatest) (IsPreceded separator inner)))
      (IsLive-Pair inner (Repeats (least - 1) (fewer greatest) (IsPreceded separator inner)) p.lawful same p.once p.live next.live)
      Prepends

  live-needed : (least : ℕ) (values : Meaning (List O) T) → IsLive values
      → IsLive (IfNeeded least values)
  live-needed zero values live = IsLive-Maps (IsOpt values) (IsLive-IsOpt values live) OrNone
  live-needed (suc n) values live = live

  live-separated : (least : ℕ) (greatest : Option ℕ)
      → IsLive (IsSeparated least greatest separator inner)
  live-separated least None =
      live-needed least (Chained least None separator inner) (live-chained least None)
  live-separated least (Some zero) = λ a need more h l. absurd h
  live-separated least (Some (suc n)) =
      live-needed least (Chained least (Some (suc n)) separator inner) (live-chained least (Some (suc n)))

  -- values with separators between them
  pub IsPunctual-IsSeparated : (least : ℕ) (greatest : Option ℕ)
      → IsPunctual (AreSameEach same) (IsSeparated least greatest separator inner)
  IsPunctual-IsSeparated least greatest = record {
    lawful = IsParser-IsSeparated least greatest q.lawful p.lawful;
    once = determined-separated same alike separator inner q.once p.once least greatest;
    live = live-separated least greatest;
  }
