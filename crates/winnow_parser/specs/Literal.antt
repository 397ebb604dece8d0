-- A literal.
use Rattle.std.specs.Prelude.{◌≡◌, ℕ, true, false, IsTrue, ◌⊎◌}
use Rattle.std.proofs.Common.{ap, sym, ◌∙◌, subst, inl, inr}
use Rattle.winnow_stream.specs.Source.{Source}
use Rattle.winnow_stream.specs.Front.{is_offset}
use Rattle.winnow_stream.specs.Longer.{SlicesStay, is_offset-longer}
use Rattle.winnow_stream.specs.declared.needed.Needed.TheVariants.{Unknown}
use Rattle.winnow_stream.proofs.lemmas.MovingLemmas.{MovesOn-front}
use Rattle.winnow_match.specs.declared.compare.CompareResult.{CompareResult}
use Rattle.winnow_match.specs.declared.compare.CompareResult.TheVariants as compared
use Rattle.winnow_match.specs.Staying.{ComparisonsStay}
use Rattle.winnow_parser.specs.Outcome.{Backtracks, Cuts, Needs, Refuses, Gives, Fails, Meaning, Moves, after}
use Rattle.winnow_parser.specs.Laws.{longer, IsStable, IsFinal, IsOnward, IsParser}
use Rattle.winnow_parser.specs.Parts.{Moves-still}
use Rattle.winnow_parser.specs.Taken.{after-longer}

-- the slice of the literal, if the input begins with it; where the input is too short to decide,
-- more is needed if more may follow, and the parser backtracks if nothing may
abbrev pub IsLiteral : {S T : Type 0} → (S → Source T → ℕ → Type 0) → (Source T → CompareResult)
    → Meaning S T
IsLiteral is_slice compare partial a (Gives s b) = (n : ℕ) × ((compare a.tokens ≡ compared.Ok n)
    × IsTrue (is_offset a.tokens n) × is_slice s a.tokens n × (b ≡ after a n))
IsLiteral is_slice compare partial a (Fails (Backtracks b)) = (b ≡ a)
    × ((compare a.tokens ≡ compared.Error) ⊎ ((compare a.tokens ≡ compared.Incomplete) × (partial ≡ false)))
IsLiteral is_slice compare partial a (Fails (Cuts b)) = ⊥
IsLiteral is_slice compare partial a (Fails (Needs n)) =
    (partial ≡ true) × (compare a.tokens ≡ compared.Incomplete) × (n ≡ Unknown)
IsLiteral is_slice compare partial a (Fails Refuses) = ⊥

module _ {S T : Type 0} (is_slice : S → Source T → ℕ → Type 0) (stay : SlicesStay is_slice) (compare : Source T → CompareResult) (same : ComparisonsStay compare) where
  -- a settled answer of `IsLiteral` stays when more input follows
  literal-stable : IsStable (IsLiteral is_slice compare)
  literal-stable more partial a (Gives s b) settled h =
      let n = h.0 in (
        n,
        (
          same a.tokens more (λ e. let f = sym h.1.0 ∙ e in cc) ∙ h.1.0,
          is_offset-longer a.tokens more n h.1.1,
          stay s a.tokens more n h.1.1 h.1.2,
          ap (longer more) h.1.3 ∙ sym (after-longer more a n h.1.1),
        ),
      )
  literal-stable more partial a (Fails (Backtracks b)) settled (e, inl h) =
      (ap (longer more) e, inl (same a.tokens more (λ i. let f = sym h ∙ i in cc) ∙ h))
  literal-stable more partial a (Fails (Backtracks b)) settled (e, inr h) = absurd (cc)
  literal-stable more partial a (Fails (Cuts b)) settled h = absurd h
  literal-stable more partial a (Fails (Needs n)) settled h = absurd settled
  literal-stable more partial a (Fails Refuses) settled h = absurd settled

  -- `IsLiteral` needs nothing more where nothing more may follow
  literal-final : IsFinal (IsLiteral is_slice compare)
  literal-final a n h = cc

  -- `IsLiteral` only moves the stream on
  literal-onward : IsOnward (IsLiteral is_slice compare)
  literal-onward partial a (Gives s b) h = subst (Moves a) (sym h.1.3) (MovesOn-front a.location a.tokens h.0 h.1.1)
  literal-onward partial a (Fails (Backtracks b)) h = Moves-still a b (sym h.0)
  literal-onward partial a (Fails (Cuts b)) h = absurd h
  literal-onward partial a (Fails (Needs n)) h = tt
  literal-onward partial a (Fails Refuses) h = tt

  -- `IsLiteral` keeps the laws of a parser
  pub IsParser-IsLiteral : IsParser (IsLiteral is_slice compare)
  IsParser-IsLiteral = record { stable = literal-stable; final = literal-final; onward = literal-onward }
