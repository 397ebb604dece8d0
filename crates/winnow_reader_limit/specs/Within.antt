-- What a record with a limit answers: it is asked of the first bytes ahead, as many as it may have.
use Rattle.std.specs.Prelude.{◌≡◌, ℕ, ◌+◌, ◌-◌, ◌<◌, ◌≤◌, min, Bool, length, ◌⊎◌}
use Rattle.winnow_stream.specs.Shortage.{needed}
use Rattle.winnow_stream.specs.declared.needed.Needed.{Needed}
use Rattle.winnow_parser.specs.Outcome.{Ahead, Backtracks, Cuts, Needs, Refuses, Outcome, Gives, Fails, Meaning}
use Rattle.winnow_reader.specs.First.{first_ahead, left_ahead, goes_on}
use Rattle.winnow_reader.specs.Wanted.{size_of}

module _ (greatest : ℕ) {O : Type 0} (means : Meaning O ℕ) where
  -- the record answers this of the first tokens
  abbrev pub AnswersFirst : Bool → Ahead ℕ → Outcome O ℕ → Type 0
  AnswersFirst partial a v = means (goes_on greatest partial a) (first_ahead greatest a) v

  -- more tokens are ahead than the record may have, and of those that it may have it needs more
  abbrev pub IsTooLong : Bool → Ahead ℕ → Type 0
  IsTooLong partial a = (greatest < length a.tokens)
      × ((n : Needed) × AnswersFirst partial a (Fails (Needs n)))

  -- no more tokens are ahead than the record may have, and it needs more: with these there are at
  -- most as many as show that it is too long
  abbrev pub NeedsWithin : Bool → Ahead ℕ → Needed → Type 0
  NeedsWithin partial a m = (length a.tokens ≤ greatest)
      × ((n : Needed) × (AnswersFirst partial a (Fails (Needs n))
      × (m ≡ needed (min (size_of n) (greatest - length a.tokens + 1)))))

  -- what the record answers of the first tokens; a cut at its start if it is too long
  abbrev pub Within : Meaning O ℕ
  Within partial a (Gives x b) = (c : Ahead ℕ) × (AnswersFirst partial a (Gives x c) × (b ≡ left_ahead greatest a c))
  Within partial a (Fails (Backtracks b)) = (c : Ahead ℕ) × (AnswersFirst partial a (Fails (Backtracks c)) × (b ≡ left_ahead greatest a c))
  Within partial a (Fails (Cuts b)) = ((c : Ahead ℕ) × (AnswersFirst partial a (Fails (Cuts c)) × (b ≡ left_ahead greatest a c)))
      ⊎ (IsTooLong partial a × (b ≡ a))
  Within partial a (Fails (Needs m)) = NeedsWithin partial a m
  Within partial a (Fails Refuses) = AnswersFirst partial a (Fails Refuses)
