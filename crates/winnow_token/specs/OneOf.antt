-- One token that a set holds.
use Rattle.std.specs.Prelude.{◌≡◌, ◌≢◌, Bool, true, false, [], ◌∷◌, ◌++◌, take, drop, Some, IfSome}
use Rattle.std.proofs.Common.{◌≤◌, length, refl, ap, sym, ◌∙◌, subst, arith}
use Rattle.std.proofs.lemmas.List.{take-append-le, drop-append-le}
use Rattle.std.proofs.lemmas.Option.{none-some}
use Rattle.winnow_stream.specs.Source.{Source, width, first_token}
use Rattle.winnow_stream.specs.Location.{location_behind}
use Rattle.winnow_stream.specs.Shortage.{needed}
use Rattle.winnow_stream.proofs.lemmas.MovingLemmas.{MovesOn-token}
use Rattle.winnow_parser.specs.Outcome.{Ahead, Backtracks, Cuts, Needs, Refuses, Gives, Fails, Meaning, Moves}
use Rattle.winnow_parser.specs.Laws.{longer, IsStable, IsFinal, IsOnward, IsParser}
use Rattle.winnow_parser.specs.Parts.{Moves-still}

-- the place after one token
abbrev pub after_one : {T : Type 0} → Ahead T → Ahead T
after_one a = record { location = location_behind a.location (width (take 1 a.tokens)); tokens = drop 1 a.tokens }

-- the first token, if the set holds it; at the end the parser needs one more where more may follow,
-- and backtracks where nothing may
abbrev pub IsOneOf : {T : Type 0} → (T → Bool) → Meaning T T
IsOneOf holds partial a (Gives x b) = (first_token a.tokens ≡ Some x) × (holds x ≡ true) × (b ≡ after_one a)
IsOneOf holds partial a (Fails (Backtracks b)) =
    IfSome (first_token a.tokens) (λ x. holds x ≡ false) × (partial ≡ true → a.tokens ≢ []) × (b ≡ a)
IsOneOf holds partial a (Fails (Cuts b)) = ⊥
IsOneOf holds partial a (Fails (Needs n)) = (a.tokens ≡ []) × (partial ≡ true) × (n ≡ needed 1)
IsOneOf holds partial a (Fails Refuses) = ⊥

module _ {T : Type 0} where
  -- the first token stays the first when more follows
  first-longer : (r more : Source T) (x : T) → first_token r ≡ Some x
      → (first_token (r ++ more) ≡ Some x) × (1 ≤ length r)
  first-longer [] more x e = absurd (none-some _ e)
  first-longer (y ∷ ys) more x e = (e, omega arith)

  -- the place after one token stays the same when more follows
  after_one-longer : (more : Source T) (a : Ahead T) → 1 ≤ length a.tokens
      → longer more (after_one a) ≡ after_one (longer more a)
  after_one-longer more a l =
      ap (λ r. record { location = location_behind a.location (width (take 1 a.tokens)); tokens = r }) (sym (drop-append-le 1 a.tokens more l))
      ∙ ap (λ front. record { location = location_behind a.location (width front); tokens = drop 1 (a.tokens ++ more) }) (sym (take-append-le 1 a.tokens more l))

module _ {T : Type 0} (holds : T → Bool) where
  -- a first token that the set does not hold stays the first when more follows
  refused-longer : (r more : Source T) → r ≢ [] → IfSome (first_token r) (λ x. holds x ≡ false)
      → IfSome (first_token (r ++ more)) (λ x. holds x ≡ false)
  refused-longer [] more n h = absurd (n refl)
  refused-longer (x ∷ xs) more n h = h

  -- input that is not empty is not empty when more follows
  some-longer : (r more : Source T) → r ≢ [] → r ++ more ≢ []
  some-longer [] more n = absurd (n refl)
  some-longer (x ∷ xs) more n = λ e. cc

  -- a settled answer of `IsOneOf` stays when more input follows
  one_of-stable : IsStable (IsOneOf holds)
  one_of-stable more partial a (Gives x b) s h =
      let first = first-longer a.tokens more x h.0 in
      (first.0, h.1, ap (longer more) h.2 ∙ after_one-longer more a first.1)
  one_of-stable more partial a (Fails (Backtracks b)) s h =
      (refused-longer a.tokens more (h.1 refl) h.0, (λ p. some-longer a.tokens more (h.1 refl)), ap (longer more) h.2)
  one_of-stable more partial a (Fails (Cuts b)) s h = absurd h
  one_of-stable more partial a (Fails (Needs n)) s h = absurd s
  one_of-stable more partial a (Fails Refuses) s h = absurd s

  -- `IsOneOf` needs nothing more where nothing more may follow
  one_of-final : IsFinal (IsOneOf holds)
  one_of-final a n h = cc

  -- `IsOneOf` only moves the stream on
  one_of-onward : IsOnward (IsOneOf holds)
  one_of-onward partial a (Gives x b) h = subst (Moves a) (sym h.2) (MovesOn-token a.location a.tokens)
  one_of-onward partial a (Fails (Backtracks b)) h = Moves-still a b (sym h.2)
  one_of-onward partial a (Fails (Cuts b)) h = absurd h
  one_of-onward partial a (Fails (Needs n)) h = tt
  one_of-onward partial a (Fails Refuses) h = tt

  -- `IsOneOf` keeps the laws of a parser
  pub IsParser-IsOneOf : IsParser (IsOneOf holds)
  IsParser-IsOneOf = record { stable = one_of-stable; final = one_of-final; onward = one_of-onward }
