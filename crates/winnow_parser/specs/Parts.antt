-- A combinator of parsers is a parser.
use Rattle.std.specs.Prelude.{◌≡◌, Bool, Option, Some, None}
use Rattle.std.proofs.Common.{ap, subst, inl, inr}
use Rattle.winnow_stream.proofs.lemmas.MovingLemmas.{MovesOn-still, MovesOn-on}
use Rattle.winnow_parser.specs.Outcome.{Ahead, Backtracks, Cuts, Needs, Refuses, Outcome, Gives, Fails, Meaning, Moves}
use Rattle.winnow_parser.specs.Laws.{longer, IsStable, IsFinal, LeavesAfter, IsOnward, IsParser}
use Rattle.winnow_parser.specs.Meanings.{Returns, Maps, Pair, Second, First, IsPreceded, IsTerminated, IsAlt2, IsOpt, Peeks, IsNot, CutsErr, BacktracksErr, Verifies, VerifyMaps}

module _ {T : Type 0} where
  -- a stream that stays moved on by nothing
  pub Moves-still : (a b : Ahead T) → a ≡ b → Moves a b
  Moves-still a b e = subst (Moves a) e (MovesOn-still a.location a.tokens)

  -- moving on twice is moving on
  pub Moves-on : (a b c : Ahead T) → Moves a b → Moves b c → Moves a c
  Moves-on a b c m n = MovesOn-on a.location b.location c.location a.tokens b.tokens c.tokens m n

-- what is left after a later place is left after the earlier one
pub LeavesAfter-on : {O T : Type 0} (a b : Ahead T) (v : Outcome O T) → Moves a b → LeavesAfter b v
    → LeavesAfter a v
LeavesAfter-on a b (Gives x c) m n = Moves-on a b c m n
LeavesAfter-on a b (Fails (Backtracks c)) m n = Moves-on a b c m n
LeavesAfter-on a b (Fails (Cuts c)) m n = Moves-on a b c m n
LeavesAfter-on a b (Fails (Needs n)) m k = tt
LeavesAfter-on a b (Fails Refuses) m k = tt

-- ---- `Returns`

module _ {O T : Type 0} (x : O) where
  -- a settled answer of `Returns` stays when more input follows
  returns-stable : IsStable {O = O} {T = T} (Returns x)
  returns-stable more partial a (Gives y b) s h = (h.0, ap (longer more) h.1)
  returns-stable more partial a (Fails f) s h = absurd h

  -- `Returns` only moves the stream on
  returns-onward : IsOnward {O = O} {T = T} (Returns x)
  returns-onward partial a (Gives y b) h = Moves-still a b h.1
  returns-onward partial a (Fails f) h = absurd h

  -- `Returns` keeps the laws of a parser
  pub IsParser-Returns : IsParser {O = O} {T = T} (Returns x)
  IsParser-Returns = record { stable = returns-stable; final = λ a n h. h; onward = returns-onward }

-- ---- `Maps`

module _ {O P T : Type 0} (gives : O → P → Type 0) (inner : Meaning O T) (p : IsParser inner) where
  -- a settled answer of `Maps` stays when more input follows
  maps-stable : IsStable (Maps gives inner)
  maps-stable more partial a (Gives y b) s h = (h.0, (h.1.0, p.stable more partial a (Gives h.0 b) tt h.1.1))
  maps-stable more partial a (Fails f) s h = p.stable more partial a (Fails f) s h

  -- `Maps` only moves the stream on
  maps-onward : IsOnward (Maps gives inner)
  maps-onward partial a (Gives y b) h = p.onward partial a (Gives h.0 b) h.1.1
  maps-onward partial a (Fails f) h = p.onward partial a (Fails f) h

  -- `Maps` keeps the laws of a parser
  pub IsParser-Maps : IsParser (Maps gives inner)
  IsParser-Maps = record { stable = maps-stable; final = p.final; onward = maps-onward }

-- ---- `Pair`

module _ {O P T : Type 0} (first : Meaning O T) (second : Meaning P T) (p : IsParser first) (q : IsParser second) where
  -- a settled answer of `Pair` stays when more input follows
  pair-stable : IsStable (Pair first second)
  pair-stable more partial a (Gives both c) s h =
      (longer more h.0, (p.stable more partial a (Gives both.0 h.0) tt h.1.0, q.stable more partial h.0 (Gives both.1 c) tt h.1.1))
  pair-stable more partial a (Fails f) s (inl h) = inl (p.stable more partial a (Fails f) s h)
  pair-stable more partial a (Fails f) s (inr h) =
      inr (h.0, (longer more h.1.0, (p.stable more partial a (Gives h.0 h.1.0) tt h.1.1.0, q.stable more partial h.1.0 (Fails f) s h.1.1.1)))

  -- `Pair` needs nothing more where nothing more may follow
  pair-final : IsFinal (Pair first second)
  pair-final a n (inl h) = p.final a n h
  pair-final a n (inr h) = q.final h.1.0 n h.1.1.1

  -- `Pair` only moves the stream on
  pair-onward : IsOnward (Pair first second)
  pair-onward partial a (Gives both c) h = Moves-on a h.0 c (p.onward partial a (Gives both.0 h.0) h.1.0) (q.onward partial h.0 (Gives both.1 c) h.1.1)
  pair-onward partial a (Fails f) (inl h) = p.onward partial a (Fails f) h
  pair-onward partial a (Fails f) (inr h) =
      LeavesAfter-on {O = P} a h.1.0 (Fails f) (p.onward partial a (Gives h.0 h.1.0) h.1.1.0) (q.onward partial h.1.0 (Fails f) h.1.1.1)

  -- `Pair` keeps the laws of a parser
  pub IsParser-Pair : IsParser (Pair first second)
  IsParser-Pair = record { stable = pair-stable; final = pair-final; onward = pair-onward }

  -- `IsPreceded` keeps the laws of a parser
  pub IsParser-IsPreceded : IsParser (IsPreceded first second)
  IsParser-IsPreceded = IsParser-Maps Second (Pair first second) IsParser-Pair

  -- `IsTerminated` keeps the laws of a parser
  pub IsParser-IsTerminated : IsParser (IsTerminated first second)
  IsParser-IsTerminated = IsParser-Maps First (Pair first second) IsParser-Pair

-- ---- `IsAlt2`

module _ {O T : Type 0} (refusable : Type 0) (first second : Meaning O T) (p : IsParser first) (q : IsParser second) where
  -- a settled answer of `IsAlt2` stays when more input follows
  either-stable : IsStable (IsAlt2 refusable first second)
  either-stable more partial a (Gives x b) s (inl h) = inl (p.stable more partial a (Gives x b) tt h)
  either-stable more partial a (Gives x b) s (inr h) =
      inr (longer more h.0, (p.stable more partial a (Fails (Backtracks h.0)) tt h.1.0, q.stable more partial a (Gives x b) tt h.1.1))
  either-stable more partial a (Fails (Backtracks b)) s h =
      (longer more h.0, (p.stable more partial a (Fails (Backtracks h.0)) tt h.1.0, q.stable more partial a (Fails (Backtracks b)) tt h.1.1))
  either-stable more partial a (Fails (Cuts b)) s (inl h) = inl (p.stable more partial a (Fails (Cuts b)) tt h)
  either-stable more partial a (Fails (Cuts b)) s (inr h) =
      inr (longer more h.0, (p.stable more partial a (Fails (Backtracks h.0)) tt h.1.0, q.stable more partial a (Fails (Cuts b)) tt h.1.1))
  either-stable more partial a (Fails (Needs n)) s h = absurd s
  either-stable more partial a (Fails Refuses) s h = absurd s

  -- `IsAlt2` needs nothing more where nothing more may follow
  either-final : IsFinal (IsAlt2 refusable first second)
  either-final a n (inl h) = p.final a n h
  either-final a n (inr h) = q.final a n h.1.1

  -- `IsAlt2` only moves the stream on
  either-onward : IsOnward (IsAlt2 refusable first second)
  either-onward partial a (Gives x b) (inl h) = p.onward partial a (Gives x b) h
  either-onward partial a (Gives x b) (inr h) = q.onward partial a (Gives x b) h.1.1
  either-onward partial a (Fails (Backtracks b)) h = q.onward partial a (Fails (Backtracks b)) h.1.1
  either-onward partial a (Fails (Cuts b)) (inl h) = p.onward partial a (Fails (Cuts b)) h
  either-onward partial a (Fails (Cuts b)) (inr h) = q.onward partial a (Fails (Cuts b)) h.1.1
  either-onward partial a (Fails (Needs n)) h = tt
  either-onward partial a (Fails Refuses) h = tt

  -- `IsAlt2` keeps the laws of a parser
  pub IsParser-IsAlt2 : IsParser (IsAlt2 refusable first second)
  IsParser-IsAlt2 = record { stable = either-stable; final = either-final; onward = either-onward }

module _ {O T : Type 0} (inner : Meaning O T) (p : IsParser inner) where
  -- ---- `IsOpt`

  -- a settled answer of `IsOpt` stays when more input follows
  optional-stable : IsStable (IsOpt inner)
  optional-stable more partial a (Gives (Some x) b) s h = p.stable more partial a (Gives x b) tt h
  optional-stable more partial a (Gives None b) s h = (ap (longer more) h.0, (longer more h.1.0, p.stable more partial a (Fails (Backtracks h.1.0)) tt h.1.1))
  optional-stable more partial a (Fails (Backtracks b)) s h = absurd h
  optional-stable more partial a (Fails (Cuts b)) s h = p.stable more partial a (Fails (Cuts b)) tt h
  optional-stable more partial a (Fails (Needs n)) s h = absurd s
  optional-stable more partial a (Fails Refuses) s h = absurd s

  -- `IsOpt` only moves the stream on
  optional-onward : IsOnward (IsOpt inner)
  optional-onward partial a (Gives (Some x) b) h = p.onward partial a (Gives x b) h
  optional-onward partial a (Gives None b) h = Moves-still a b h.0
  optional-onward partial a (Fails (Backtracks b)) h = absurd h
  optional-onward partial a (Fails (Cuts b)) h = p.onward partial a (Fails (Cuts b)) h
  optional-onward partial a (Fails (Needs n)) h = tt
  optional-onward partial a (Fails Refuses) h = tt

  -- `IsOpt` keeps the laws of a parser
  pub IsParser-IsOpt : IsParser (IsOpt inner)
  IsParser-IsOpt = record { stable = optional-stable; final = p.final; onward = optional-onward }

  -- ---- `Peeks`

  -- a settled answer of `Peeks` stays when more input follows
  looked-stable : IsStable (Peeks inner)
  looked-stable more partial a (Gives x b) s h = (ap (longer more) h.0, (longer more h.1.0, p.stable more partial a (Gives x h.1.0) tt h.1.1))
  looked-stable more partial a (Fails f) s h = p.stable more partial a (Fails f) s h

  -- `Peeks` only moves the stream on
  looked-onward : IsOnward (Peeks inner)
  looked-onward partial a (Gives x b) h = Moves-still a b h.0
  looked-onward partial a (Fails f) h = p.onward partial a (Fails f) h

  -- `Peeks` keeps the laws of a parser
  pub IsParser-Peeks : IsParser (Peeks inner)
  IsParser-Peeks = record { stable = looked-stable; final = p.final; onward = looked-onward }

  -- ---- `IsNot`

  -- a settled answer of `IsNot` stays when more input follows
  negated-stable : IsStable (IsNot inner)
  negated-stable more partial a (Gives u b) s h = (ap (longer more) h.0, (longer more h.1.0, p.stable more partial a (Fails (Backtracks h.1.0)) tt h.1.1))
  negated-stable more partial a (Fails (Backtracks b)) s h =
      (ap (longer more) h.0, (h.1.0, (longer more h.1.1.0, p.stable more partial a (Gives h.1.0 h.1.1.0) tt h.1.1.1)))
  negated-stable more partial a (Fails (Cuts b)) s h = p.stable more partial a (Fails (Cuts b)) tt h
  negated-stable more partial a (Fails (Needs n)) s h = absurd s
  negated-stable more partial a (Fails Refuses) s h = absurd s

  -- `IsNot` only moves the stream on
  negated-onward : IsOnward (IsNot inner)
  negated-onward partial a (Gives u b) h = Moves-still a b h.0
  negated-onward partial a (Fails (Backtracks b)) h = Moves-still a b h.0
  negated-onward partial a (Fails (Cuts b)) h = p.onward partial a (Fails (Cuts b)) h
  negated-onward partial a (Fails (Needs n)) h = tt
  negated-onward partial a (Fails Refuses) h = tt

  -- `IsNot` keeps the laws of a parser
  pub IsParser-IsNot : IsParser (IsNot inner)
  IsParser-IsNot = record { stable = negated-stable; final = p.final; onward = negated-onward }

  -- ---- `CutsErr`

  -- a settled answer of `CutsErr` stays when more input follows
  cut-stable : IsStable (CutsErr inner)
  cut-stable more partial a (Gives x b) s h = p.stable more partial a (Gives x b) tt h
  cut-stable more partial a (Fails (Backtracks b)) s h = absurd h
  cut-stable more partial a (Fails (Cuts b)) s (inl h) = inl (p.stable more partial a (Fails (Backtracks b)) tt h)
  cut-stable more partial a (Fails (Cuts b)) s (inr h) = inr (p.stable more partial a (Fails (Cuts b)) tt h)
  cut-stable more partial a (Fails (Needs n)) s h = absurd s
  cut-stable more partial a (Fails Refuses) s h = absurd s

  -- `CutsErr` only moves the stream on
  cut-onward : IsOnward (CutsErr inner)
  cut-onward partial a (Gives x b) h = p.onward partial a (Gives x b) h
  cut-onward partial a (Fails (Backtracks b)) h = absurd h
  cut-onward partial a (Fails (Cuts b)) (inl h) = p.onward partial a (Fails (Backtracks b)) h
  cut-onward partial a (Fails (Cuts b)) (inr h) = p.onward partial a (Fails (Cuts b)) h
  cut-onward partial a (Fails (Needs n)) h = tt
  cut-onward partial a (Fails Refuses) h = tt

  -- `CutsErr` keeps the laws of a parser
  pub IsParser-CutsErr : IsParser (CutsErr inner)
  IsParser-CutsErr = record { stable = cut-stable; final = p.final; onward = cut-onward }

  -- ---- `BacktracksErr`

  -- a settled answer of `BacktracksErr` stays when more input follows
  softened-stable : IsStable (BacktracksErr inner)
  softened-stable more partial a (Gives x b) s h = p.stable more partial a (Gives x b) tt h
  softened-stable more partial a (Fails (Backtracks b)) s (inl h) = inl (p.stable more partial a (Fails (Backtracks b)) tt h)
  softened-stable more partial a (Fails (Backtracks b)) s (inr h) = inr (p.stable more partial a (Fails (Cuts b)) tt h)
  softened-stable more partial a (Fails (Cuts b)) s h = absurd h
  softened-stable more partial a (Fails (Needs n)) s h = absurd s
  softened-stable more partial a (Fails Refuses) s h = absurd s

  -- `BacktracksErr` only moves the stream on
  softened-onward : IsOnward (BacktracksErr inner)
  softened-onward partial a (Gives x b) h = p.onward partial a (Gives x b) h
  softened-onward partial a (Fails (Backtracks b)) (inl h) = p.onward partial a (Fails (Backtracks b)) h
  softened-onward partial a (Fails (Backtracks b)) (inr h) = p.onward partial a (Fails (Cuts b)) h
  softened-onward partial a (Fails (Cuts b)) h = absurd h
  softened-onward partial a (Fails (Needs n)) h = tt
  softened-onward partial a (Fails Refuses) h = tt

  -- `BacktracksErr` keeps the laws of a parser
  pub IsParser-BacktracksErr : IsParser (BacktracksErr inner)
  IsParser-BacktracksErr = record { stable = softened-stable; final = p.final; onward = softened-onward }

-- ---- `Verifies`

module _ {O T : Type 0} (answers : O → Bool → Type 0) (inner : Meaning O T) (p : IsParser inner) where
  -- a settled answer of `Verifies` stays when more input follows
  verified-stable : IsStable (Verifies answers inner)
  verified-stable more partial a (Gives x b) s h = (p.stable more partial a (Gives x b) tt h.0, h.1)
  verified-stable more partial a (Fails (Backtracks b)) s (inl h) = inl (p.stable more partial a (Fails (Backtracks b)) tt h)
  verified-stable more partial a (Fails (Backtracks b)) s (inr h) =
      inr (ap (longer more) h.0, (h.1.0, (longer more h.1.1.0, (p.stable more partial a (Gives h.1.0 h.1.1.0) tt h.1.1.1.0, h.1.1.1.1))))
  verified-stable more partial a (Fails (Cuts b)) s h = p.stable more partial a (Fails (Cuts b)) tt h
  verified-stable more partial a (Fails (Needs n)) s h = absurd s
  verified-stable more partial a (Fails Refuses) s h = absurd s

  -- `Verifies` only moves the stream on
  verified-onward : IsOnward (Verifies answers inner)
  verified-onward partial a (Gives x b) h = p.onward partial a (Gives x b) h.0
  verified-onward partial a (Fails (Backtracks b)) (inl h) = p.onward partial a (Fails (Backtracks b)) h
  verified-onward partial a (Fails (Backtracks b)) (inr h) = Moves-still a b h.0
  verified-onward partial a (Fails (Cuts b)) h = p.onward partial a (Fails (Cuts b)) h
  verified-onward partial a (Fails (Needs n)) h = tt
  verified-onward partial a (Fails Refuses) h = tt

  -- `Verifies` keeps the laws of a parser
  pub IsParser-Verifies : IsParser (Verifies answers inner)
  IsParser-Verifies = record { stable = verified-stable; final = p.final; onward = verified-onward }

-- ---- `VerifyMaps`

module _ {O P T : Type 0} (gives : O → Option P → Type 0) (inner : Meaning O T) (p : IsParser inner) where
  -- a settled answer of `VerifyMaps` stays when more input follows
  chosen-stable : IsStable (VerifyMaps gives inner)
  chosen-stable more partial a (Gives y b) s h = (h.0, (h.1.0, p.stable more partial a (Gives h.0 b) tt h.1.1))
  chosen-stable more partial a (Fails (Backtracks b)) s (inl h) = inl (p.stable more partial a (Fails (Backtracks b)) tt h)
  chosen-stable more partial a (Fails (Backtracks b)) s (inr h) =
      inr (ap (longer more) h.0, (h.1.0, (longer more h.1.1.0, (p.stable more partial a (Gives h.1.0 h.1.1.0) tt h.1.1.1.0, h.1.1.1.1))))
  chosen-stable more partial a (Fails (Cuts b)) s h = p.stable more partial a (Fails (Cuts b)) tt h
  chosen-stable more partial a (Fails (Needs n)) s h = absurd s
  chosen-stable more partial a (Fails Refuses) s h = absurd s

  -- `VerifyMaps` only moves the stream on
  chosen-onward : IsOnward (VerifyMaps gives inner)
  chosen-onward partial a (Gives y b) h = p.onward partial a (Gives h.0 b) h.1.1
  chosen-onward partial a (Fails (Backtracks b)) (inl h) = p.onward partial a (Fails (Backtracks b)) h
  chosen-onward partial a (Fails (Backtracks b)) (inr h) = Moves-still a b h.0
  chosen-onward partial a (Fails (Cuts b)) h = p.onward partial a (Fails (Cuts b)) h
  chosen-onward partial a (Fails (Needs n)) h = tt
  chosen-onward partial a (Fails Refuses) h = tt

  -- `VerifyMaps` keeps the laws of a parser
  pub IsParser-VerifyMaps : IsParser (VerifyMaps gives inner)
  IsParser-VerifyMaps = record { stable = chosen-stable; final = p.final; onward = chosen-onward }
