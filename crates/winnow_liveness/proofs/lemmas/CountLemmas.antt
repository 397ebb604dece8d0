-- A number of tokens, as many values as a count says, nothing at all, and a failure.
use Rattle.std.proofs.Common.{◌≡◌, ℕ, Bool, Option, Some, None, inl, inr, arith}
use Rattle.winnow_stream.specs.Source.{Source}
use Rattle.winnow_stream.specs.Longer.{SlicesStay}
use Rattle.winnow_parser.specs.Outcome.{Meaning}
use Rattle.winnow_parser.specs.Determined.{SlicesRespect}
use Rattle.winnow_parser.specs.Meanings.{Returns}
use Rattle.winnow_parser.specs.Parts.{IsParser-Returns}
use Rattle.winnow_parser.proofs.lemmas.DeterminedLemmas.{determined-returns}
use Rattle.winnow_token.specs.Take.{Takes, IsParser-Takes}
use Rattle.winnow_token.proofs.lemmas.ToldLemmas.{determined-take}
use Rattle.winnow_combinator.specs.Counts.{Ascending, IsParser-Ascending}
use Rattle.winnow_combinator.specs.Ending.{IsFail, IsParser-IsFail}
use Rattle.winnow_combinator.proofs.lemmas.AgreeingEndLemmas.{determined-fail}
use Rattle.winnow_combinator.proofs.lemmas.CombinedLemmas.{determined-ascending}
use Rattle.winnow_liveness.specs.Live.{IsLive, IsPunctual}
use Rattle.winnow_liveness.proofs.lemmas.TokenLemmas.{IsLive-IsFail, IsLive-Takes}

-- `take`
pub IsPunctual-Takes : {S T : Type 0} (is_slice : S → Source T → ℕ → Type 0)
    (alike : S → S → Type 0) → SlicesRespect is_slice alike → SlicesStay is_slice
    → (counts_shortage : Bool) (n : ℕ) → IsPunctual alike (Takes counts_shortage is_slice n)
IsPunctual-Takes is_slice alike fronts stay counts_shortage n = record {
  lawful = IsParser-Takes counts_shortage is_slice stay n;
  once = determined-take is_slice alike fronts counts_shortage n;
  live = IsLive-Takes is_slice counts_shortage n;
}

-- a parser that takes nothing and gives one value, of which a relation holds with itself
pub IsPunctual-Returns : {O T : Type 0} (x : O) (same : O → O → Type 0) → same x x
    → IsPunctual {O = O} {T = T} same (Returns x)
IsPunctual-Returns x same self = record {
  lawful = IsParser-Returns x;
  once = determined-returns x same self;
  live = λ a need more h l. absurd h;
}

-- `fail`
pub IsPunctual-IsFail : {O T : Type 0} (same : O → O → Type 0)
    → IsPunctual {O = O} {T = T} same IsFail
IsPunctual-IsFail same = record {
  lawful = IsParser-IsFail;
  once = determined-fail same;
  live = IsLive-IsFail;
}

-- counts that are in order, or else a cut
live-ascending : {O T : Type 0} (inner : Meaning O T) → IsLive inner → (least : ℕ)
    (greatest : Option ℕ) → IsLive (Ascending least greatest inner)
live-ascending inner live least None a need more h l v k s = live a need more h l v k s
live-ascending inner live least (Some g) a need more (inl (in_order, h)) l v (inl (again, k)) s = live a need more h l v k s
live-ascending inner live least (Some g) a need more (inl (in_order, h)) l v (inr (below, k)) s = absurd (omega (arith, in_order, below))
live-ascending inner live least (Some g) a need more (inr (below, h)) l v k s = absurd (cc h)

-- a repetition whose greatest count may be below its least
pub IsPunctual-Ascending : {O T : Type 0} {same : O → O → Type 0} {inner : Meaning O T}
    → IsPunctual same inner → (least : ℕ) (greatest : Option ℕ)
    → IsPunctual same (Ascending least greatest inner)
IsPunctual-Ascending {same = same} {inner = inner} p least greatest = record {
  lawful = IsParser-Ascending least greatest p.lawful;
  once = determined-ascending same inner p.once least greatest;
  live = live-ascending inner p.live least greatest;
}
