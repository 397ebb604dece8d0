-- The tokens before the first place of a needle.
use Rattle.std.specs.Prelude.{◌≡◌, ℕ, nat_le, true, false, Bool, ◌&&◌, ◌⊎◌, ◌++◌, length, Option, Some, None, IsTrue, IsFalse}
use Rattle.std.specs.declared.ops.Range.{Range}
use Rattle.std.proofs.Common.{refl, ap, sym, ◌∙◌, subst, inl, inr}
use Rattle.winnow_stream.specs.Source.{Source}
use Rattle.winnow_stream.specs.Front.{is_offset, front}
use Rattle.winnow_stream.specs.Longer.{SlicesStay, is_offset-longer, front-longer}
use Rattle.winnow_stream.specs.declared.needed.Needed.TheVariants.{Unknown}
use Rattle.winnow_stream.proofs.lemmas.MovingLemmas.{MovesOn-front}
use Rattle.winnow_count.specs.CountRange.{is_up_to}
use Rattle.winnow_parser.specs.Outcome.{Backtracks, Cuts, Needs, Refuses, Gives, Fails, Meaning, Moves, after}
use Rattle.winnow_parser.specs.Laws.{longer, IsStable, IsFinal, IsOnward, IsParser}
use Rattle.winnow_parser.specs.Parts.{Moves-still}
use Rattle.winnow_parser.specs.Taken.{after-longer}

-- a search that finds a place finds the same place when more follows
abbrev pub HitsStay : {T : Type 0} → (Source T → Option (Range ℕ)) → Type 0
HitsStay {T} find = (r more : Source T) (hit : Range ℕ) → find r ≡ Some hit → find (r ++ more) ≡ Some hit

-- the front of width n has a number of tokens that the counts allow
abbrev pub has_counts : {T : Type 0} → ℕ → Option ℕ → Source T → ℕ → Bool
has_counts least greatest r n = nat_le least (length (front r n)) && is_up_to greatest (length (front r n))

-- the search finds this place, which is an offset
abbrev pub IsHitAt : {T : Type 0} → (Source T → Option (Range ℕ)) → Source T → Range ℕ → Type 0
IsHitAt find r hit = (find r ≡ Some hit) × IsTrue (is_offset r hit.start)

-- the slice up to the place that the search finds, if it has a number of tokens that the counts
-- allow; the needle is not taken. Where the search finds nothing, more is needed if more may
-- follow, and the parser backtracks if nothing may. Where the least count is above the greatest, no
-- number of tokens is allowed, and the parser cuts at once
abbrev pub BeforeHit : {S T : Type 0} → (S → Source T → ℕ → Type 0) → (Source T → Option (Range ℕ))
    → ℕ → Option ℕ → Meaning S T
BeforeHit is_slice find least greatest partial a (Gives s b) = (hit : Range ℕ) × (IsHitAt find a.tokens hit
    × (is_slice s a.tokens hit.start × (b ≡ after a hit.start) × IsTrue (has_counts least greatest a.tokens hit.start)))
BeforeHit is_slice find least greatest partial a (Fails (Backtracks b)) = (b ≡ a) × IsTrue (is_up_to greatest least)
    × (((find a.tokens ≡ None) × (partial ≡ false))
    ⊎ ((hit : Range ℕ) × (IsHitAt find a.tokens hit × IsFalse (has_counts least greatest a.tokens hit.start))))
BeforeHit is_slice find least greatest partial a (Fails (Cuts b)) = (b ≡ a) × IsFalse (is_up_to greatest least)
BeforeHit is_slice find least greatest partial a (Fails (Needs n)) =
    (partial ≡ true) × (find a.tokens ≡ None) × IsTrue (is_up_to greatest least) × (n ≡ Unknown)
BeforeHit is_slice find least greatest partial a (Fails Refuses) = ⊥

-- the same, for a search whose hits stay, if more may follow
abbrev pub TakesUntil : {S T : Type 0} → (S → Source T → ℕ → Type 0) → (Source T
    → Option (Range ℕ)) → ℕ → Option ℕ → Meaning S T
TakesUntil is_slice find least greatest partial a v = (partial ≡ true → HitsStay find) × BeforeHit is_slice find least greatest partial a v

module _ {T : Type 0} (find : Source T → Option (Range ℕ)) where
  -- a hit that stays is found when more follows
  hit-longer : (r more : Source T) (hit : Range ℕ) → HitsStay find → IsHitAt find r hit
      → IsHitAt find (r ++ more) hit
  hit-longer r more hit stay h = (stay r more hit h.0, is_offset-longer r more hit.start h.1)

-- a front has an allowed number of tokens when more follows exactly if it has one now
counts-longer : {T : Type 0} (least : ℕ) (greatest : Option ℕ) (r more : Source T) (n : ℕ)
    → IsTrue (is_offset r n)
    → has_counts least greatest (r ++ more) n ≡ has_counts least greatest r n
counts-longer least greatest r more n h =
    ap (λ t. nat_le least (length t) && is_up_to greatest (length t)) (front-longer r more n h)

module _ {S T : Type 0} (is_slice : S → Source T → ℕ → Type 0) (stay : SlicesStay is_slice) (find : Source T → Option (Range ℕ)) (least : ℕ) (greatest : Option ℕ) where
  -- a settled answer of `TakesUntil` stays when more input follows
  until-stable : IsStable (TakesUntil is_slice find least greatest)
  until-stable more partial a (Gives s b) settled (stays, (hit, (at, h))) =
      let n : ℕ = hit.start in (
        (λ p. stays refl),
        (
          hit,
          (
            hit-longer find a.tokens more hit (stays refl) at,
            (
              stay s a.tokens more n at.1 h.0,
              ap (longer more) h.1 ∙ sym (after-longer more a n at.1),
              counts-longer least greatest a.tokens more n at.1 ∙ h.2,
            ),
          ),
        ),
      )
  until-stable more partial a (Fails (Backtracks b)) settled (stays, (e, p, inl h)) = absurd (cc)
  until-stable more partial a (Fails (Backtracks b)) settled (stays, (e, p, inr (hit, (at, f)))) = (
    (λ q. stays refl),
    (
      ap (longer more) e,
      p,
      inr (hit, (hit-longer find a.tokens more hit (stays refl) at, counts-longer least greatest a.tokens more hit.start at.1 ∙ f)),
    ),
  )
  until-stable more partial a (Fails (Cuts b)) settled (stays, h) = ((λ p. stays refl), (ap (longer more) h.0, h.1))
  until-stable more partial a (Fails (Needs n)) settled h = absurd settled
  until-stable more partial a (Fails Refuses) settled h = absurd settled

  -- `TakesUntil` needs nothing more where nothing more may follow
  until-final : IsFinal (TakesUntil is_slice find least greatest)
  until-final a n h = let e = h.1.0 in cc

  -- `TakesUntil` only moves the stream on
  until-onward : IsOnward (TakesUntil is_slice find least greatest)
  until-onward partial a (Gives s b) (stays, (hit, (at, h))) = subst (Moves a) (sym h.1) (MovesOn-front a.location a.tokens hit.start at.1)
  until-onward partial a (Fails (Backtracks b)) h = Moves-still a b (sym h.1.0)
  until-onward partial a (Fails (Cuts b)) h = Moves-still a b (sym h.1.0)
  until-onward partial a (Fails (Needs n)) h = tt
  until-onward partial a (Fails Refuses) h = tt

  -- `TakesUntil` keeps the laws of a parser
  pub IsParser-TakesUntil : IsParser (TakesUntil is_slice find least greatest)
  IsParser-TakesUntil = record { stable = until-stable; final = until-final; onward = until-onward }
