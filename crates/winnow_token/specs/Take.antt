-- A number of tokens.
use Rattle.std.specs.Prelude.{◌≡◌, ℕ, ◌-◌, ◌<◌, ◌≤◌, Bool, true, false, ◌++◌, length, take, IsTrue}
use Rattle.std.proofs.Common.{ap, sym, ◌∙◌, subst, arith, length-append}
use Rattle.std.proofs.lemmas.List.{take-append-le}
use Rattle.winnow_stream.specs.Source.{Source, width}
use Rattle.winnow_stream.specs.Front.{is_offset}
use Rattle.winnow_stream.specs.Shortage.{shortage}
use Rattle.winnow_stream.specs.Longer.{SlicesStay, is_offset-longer}
use Rattle.winnow_stream.proofs.lemmas.MovingLemmas.{MovesOn-front}
use Rattle.winnow_parser.specs.Outcome.{Backtracks, Cuts, Needs, Refuses, Gives, Fails, Meaning, Moves, after}
use Rattle.winnow_parser.specs.Laws.{longer, IsStable, IsFinal, IsOnward, IsParser}
use Rattle.winnow_parser.specs.Parts.{Moves-still}
use Rattle.winnow_parser.specs.Taken.{after-longer}

-- the slice of the first n tokens; where fewer remain, the parser needs the missing ones if more
-- may follow, in the stream's own count, and backtracks if nothing may
abbrev pub Takes : {S T : Type 0} → Bool → (S → Source T → ℕ → Type 0) → ℕ → Meaning S T
Takes counts_shortage is_slice n partial a (Gives s b) = let w = width (take n a.tokens) in
    (n ≤ length a.tokens) × IsTrue (is_offset a.tokens w) × is_slice s a.tokens w × (b ≡ after a w)
Takes counts_shortage is_slice n partial a (Fails (Backtracks b)) = (length a.tokens < n) × (partial ≡ false) × (b ≡ a)
Takes counts_shortage is_slice n partial a (Fails (Cuts b)) = ⊥
Takes counts_shortage is_slice n partial a (Fails (Needs missing)) =
    (length a.tokens < n) × (partial ≡ true) × (missing ≡ shortage counts_shortage (n - length a.tokens))
Takes counts_shortage is_slice n partial a (Fails Refuses) = ⊥

module _ {S T : Type 0} (counts_shortage : Bool) (is_slice : S → Source T → ℕ → Type 0) (stay : SlicesStay is_slice) (n : ℕ) where
  -- a settled answer of `Takes` stays when more input follows
  counted-stable : IsStable (Takes counts_shortage is_slice n)
  counted-stable more partial a (Gives s b) settled h =
      let w = width (take n a.tokens) in
      let same = ap width (take-append-le n a.tokens more h.0) in (
        omega (arith, h.0, length-append a.tokens more),
        subst (λ w. IsTrue (is_offset (a.tokens ++ more) w)) (sym same) (is_offset-longer a.tokens more w h.1),
        subst (λ w. is_slice s (a.tokens ++ more) w) (sym same) (stay s a.tokens more w h.1 h.2),
        ap (longer more) h.3 ∙ sym (after-longer more a w h.1) ∙ ap (after (longer more a)) (sym same),
      )
  counted-stable more partial a (Fails (Backtracks b)) settled h = absurd (cc)
  counted-stable more partial a (Fails (Cuts b)) settled h = absurd h
  counted-stable more partial a (Fails (Needs missing)) settled h = absurd settled
  counted-stable more partial a (Fails Refuses) settled h = absurd settled

  -- `Takes` needs nothing more where nothing more may follow
  counted-final : IsFinal (Takes counts_shortage is_slice n)
  counted-final a missing h = cc

  -- `Takes` only moves the stream on
  counted-onward : IsOnward (Takes counts_shortage is_slice n)
  counted-onward partial a (Gives s b) h =
      subst (Moves a) (sym h.3) (MovesOn-front a.location a.tokens (width (take n a.tokens)) h.1)
  counted-onward partial a (Fails (Backtracks b)) h = Moves-still a b (sym h.2)
  counted-onward partial a (Fails (Cuts b)) h = absurd h
  counted-onward partial a (Fails (Needs missing)) h = tt
  counted-onward partial a (Fails Refuses) h = tt

  -- `Takes` keeps the laws of a parser
  pub IsParser-Takes : IsParser (Takes counts_shortage is_slice n)
  IsParser-Takes = record { stable = counted-stable; final = counted-final; onward = counted-onward }
