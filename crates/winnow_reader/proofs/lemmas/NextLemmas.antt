-- What is read of the next record is read after what was read since a place.
use Rattle.std.specs.Prelude.{not, Result, Ok, Err}
use Rattle.std.proofs.Common.{◌≡◌, ℕ, List, [], ◌∷◌, ◌++◌, length, sym, subst, inl, inr, arith}
use Rattle.std.proofs.lemmas.Bool.{cases_lt}
use Rattle.winnow_parser.specs.Outcome.{Gives, Meaning}
use Rattle.winnow_parser.specs.Laws.{IsParser}
use Rattle.winnow_reader.specs.declared.next.Next.{Next}
use Rattle.winnow_reader.specs.declared.next.Next.TheVariants.{Value, NeedsMore, Done}
use Rattle.winnow_reader.specs.declared.next.ReadError.{ReadError}
use Rattle.winnow_reader.specs.Place.{bytes_at}
use Rattle.winnow_reader.specs.State.{ReaderState}
use Rattle.winnow_reader.specs.Answering.{ReadsNext, WaitsByNeed, StaysTillWanted}
use Rattle.winnow_reader.specs.Since.{HasReadSince, ReadsOnSince}
use Rattle.winnow_reader.proofs.lemmas.SinceLemmas.{HasReadSince-value, HasReadSince-still, HasReadSince-waits}
use Rattle.winnow_reader.proofs.lemmas.AskedLemmas.{asks-now}

module _ {R O : Type 0} (means : R → Meaning O ℕ) (place : ℕ) (old new : ReaderState R) where
  -- a reader that stays has read the same
  stays-since : (input : List ℕ) (values : List O) → new ≡ old
      → HasReadSince means place old input values → HasReadSince means place new input (values ++ [])
  stays-since input values e h =
      subst (λ s. HasReadSince means place s input (values ++ [])) (sym e) (HasReadSince-still means place old input values h)

module _ {R O E : Type 0} (means : R → Meaning O ℕ) (place : ℕ) (old new : ReaderState R) where
  -- what is read of the next record is read after what was read since the place
  pub ReadsOnSince-next : IsParser (means old.parser) → (result : Result (Next O) (ReadError E))
      → ReadsNext means (WaitsByNeed means) old result new → StaysTillWanted old result new
      → ReadsOnSince means place old result new
  ReadsOnSince-next p (Ok (Value x)) next early input values h =
      let n = next.0 in
      let is = next.1.3 in
      let given = subst (λ (s : ReaderState R). means old.parser (not old.ended) (bytes_at old.place old.ahead) (Gives x (bytes_at s.place s.ahead))) is next.1.2 in
      subst (λ s. HasReadSince means place s input (values ++ x ∷ [])) (sym is)
      (HasReadSince-value means place old x n p next.1.0 next.1.1 given input values h)
  ReadsOnSince-next p (Ok NeedsMore) next early input values h =
      elim (cases_lt (length old.ahead) old.wanted) [
        | inl less ↦ stays-since means place old new input values (early next.0 less).1 h
        | inr enough ↦
            let m = next.2 enough in
            subst (λ s. HasReadSince means place s input (values ++ [])) (sym next.3)
            (HasReadSince-waits means place old new.wanted input values h (λ l. ([], (_, (asks-now means old m.0 m.1.0, omega (arith, m.1.1))))))
      ]
  ReadsOnSince-next p (Ok Done) next early input values h = stays-since means place old new input values next.1 h
  ReadsOnSince-next p (Err error) next early input values h = stays-since means place old new input values next.1 h
