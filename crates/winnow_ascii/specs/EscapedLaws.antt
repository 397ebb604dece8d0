-- Text with escapes keeps the laws of a parser.
use Rattle.std.specs.Prelude.{◌≢◌, Bool, true, false, List, [], ◌∷◌, ◌++◌, Option, Some, None}
use Rattle.std.proofs.Common.{refl, ap, sym, subst, inl, inr, arith}
use Rattle.winnow_stream.specs.Source.{Source}
use Rattle.winnow_stream.specs.declared.needed.Needed.{Needed}
use Rattle.winnow_stream.proofs.lemmas.FrontLemmas.{width-append}
use Rattle.winnow_parser.specs.Outcome.{Ahead, Backtracks, Needs, Outcome, Gives, Fails, Meaning}
use Rattle.winnow_parser.specs.Laws.{longer, outcome_longer, IsSettled, IsStable, IsFinal, LeavesAfter, IsOnward, IsParser}
use Rattle.winnow_parser.specs.Parts.{Moves-still, LeavesAfter-on, IsParser-IsPreceded, IsParser-IsOpt}
use Rattle.winnow_ascii.specs.declared.fragment.Fragment.TheVariants.{Normal, Escaped}
use Rattle.winnow_ascii.specs.Escaped.{IsAbsent, Escape, NextFragment, UpToEnd, GivesInTurn, AllInTurn, IsEscaped}

-- a parser that backtracks still does when more input follows
absent-longer : {O T : Type 0} (inner : Meaning O T) (p : IsParser inner) (more : Source T)
    (partial : Bool) (a : Ahead T) → IsAbsent inner true a → IsAbsent inner partial (longer more a)
absent-longer inner p more partial a h = (longer more h.0, p.stable more partial a (Fails (Backtracks h.0)) tt h.1)

-- ---- `Escape`

module _ {C P T : Type 0} (control : Meaning C T) (escapable : Meaning P T) (q : IsParser control) (r : IsParser escapable) where
  -- a settled answer of `Escape` stays when more input follows
  escape-stable : IsStable (Escape control escapable)
  escape-stable more partial a (Gives (Some y) b) s h = (IsParser-IsPreceded control escapable q r).stable more partial a (Gives y b) tt h
  escape-stable more partial a (Gives None b) s h = (IsParser-IsOpt control q).stable more partial a (Gives None b) tt h
  escape-stable more partial a (Fails f) s (inl h) = inl ((IsParser-IsOpt control q).stable more partial a (Fails f) s h)
  escape-stable more partial a (Fails f) s (inr h) =
      inr (h.0, (longer more h.1.0, (q.stable more partial a (Gives h.0 h.1.0) tt h.1.1.0, r.stable more partial h.1.0 (Fails f) s h.1.1.1)))

  -- `Escape` needs nothing more where nothing more may follow
  escape-final : IsFinal (Escape control escapable)
  escape-final a n (inl h) = q.final a n h
  escape-final a n (inr h) = r.final h.1.0 n h.1.1.1

  -- `Escape` only moves the stream on
  escape-onward : IsOnward (Escape control escapable)
  escape-onward partial a (Gives (Some y) b) h = (IsParser-IsPreceded control escapable q r).onward partial a (Gives y b) h
  escape-onward partial a (Gives None b) h = Moves-still a b h.0
  escape-onward partial a (Fails f) (inl h) = (IsParser-IsOpt control q).onward partial a (Fails f) h
  escape-onward partial a (Fails f) (inr h) =
      LeavesAfter-on {O = P} a h.1.0 (Fails f) (q.onward partial a (Gives h.0 h.1.0) h.1.1.0) (r.onward partial h.1.0 (Fails f) h.1.1.1)

  -- `Escape` keeps the laws of a parser
  IsParser-Escape : IsParser (Escape control escapable)
  IsParser-Escape = record { stable = escape-stable; final = escape-final; onward = escape-onward }

-- ---- `NextFragment`

module _ {O C P T : Type 0} (normal : Meaning O T) (control : Meaning C T) (escapable : Meaning P T) (p : IsParser normal) (q : IsParser control) (r : IsParser escapable) where
  -- `Escape` keeps the laws of a parser
  escape-law : IsParser (Escape control escapable)
  escape-law = IsParser-Escape control escapable q r

  -- a settled answer of `NextFragment` stays when more input follows
  fragment-stable : IsStable (NextFragment normal control escapable)
  fragment-stable more partial a (Gives (Some (Normal x)) b) s h = p.stable more partial a (Gives x b) tt h
  fragment-stable more partial a (Gives (Some (Escaped y)) b) s h =
      (absent-longer normal p more partial a h.0, escape-law.stable more partial a (Gives (Some y) b) tt h.1)
  fragment-stable more partial a (Gives None b) s h = (absent-longer normal p more partial a h.0, escape-law.stable more partial a (Gives None b) tt h.1)
  fragment-stable more partial a (Fails f) s (inl h) = inl ((IsParser-IsOpt normal p).stable more partial a (Fails f) s h)
  fragment-stable more partial a (Fails f) s (inr h) =
      inr (absent-longer normal p more partial a h.0, escape-law.stable more partial a (Fails f) s h.1)

  -- `NextFragment` needs nothing more where nothing more may follow
  fragment-final : IsFinal (NextFragment normal control escapable)
  fragment-final a n (inl h) = p.final a n h
  fragment-final a n (inr h) = escape-law.final a n h.1

  -- `NextFragment` only moves the stream on
  fragment-onward : IsOnward (NextFragment normal control escapable)
  fragment-onward partial a (Gives (Some (Normal x)) b) h = p.onward partial a (Gives x b) h
  fragment-onward partial a (Gives (Some (Escaped y)) b) h = escape-law.onward partial a (Gives (Some y) b) h.1
  fragment-onward partial a (Gives None b) h = escape-law.onward partial a (Gives None b) h.1
  fragment-onward partial a (Fails f) (inl h) = (IsParser-IsOpt normal p).onward partial a (Fails f) h
  fragment-onward partial a (Fails f) (inr h) = escape-law.onward partial a (Fails f) h.1

  -- `NextFragment` keeps the laws of a parser
  IsParser-NextFragment : IsParser (NextFragment normal control escapable)
  IsParser-NextFragment = record { stable = fragment-stable; final = fragment-final; onward = fragment-onward }

-- ---- `UpToEnd`

-- input that is not empty is not empty when more follows
some-longer : {T : Type 0} (r more : Source T) → r ≢ [] → r ++ more ≢ []
some-longer [] more n = absurd (n refl)
some-longer (x ∷ xs) more n = λ e. cc

module _ {O T : Type 0} (inner : Meaning (Option O) T) (p : IsParser inner) where
  -- a settled answer of `UpToEnd` stays when more input follows
  up_to_end-stable : IsStable (UpToEnd inner)
  up_to_end-stable more partial a v s (inl h) = inl (some-longer a.tokens more h.0, p.stable more partial a v s h.1)
  up_to_end-stable more partial a v s (inr h) = absurd (subst (λ u. IsSettled u) h.1 s)

  -- `UpToEnd` needs nothing more where nothing more may follow
  up_to_end-final : IsFinal (UpToEnd inner)
  up_to_end-final a n (inl h) = p.final a n h.1
  up_to_end-final a n (inr h) = cc

  -- `UpToEnd` only moves the stream on
  up_to_end-onward : IsOnward (UpToEnd inner)
  up_to_end-onward partial a v (inl h) = p.onward partial a v h.1
  up_to_end-onward true a v (inr h) = subst (LeavesAfter a) (sym h.1) tt
  up_to_end-onward false a v (inr h) = subst (LeavesAfter a) (sym h.1) (Moves-still a a refl)

  -- `UpToEnd` keeps the laws of a parser
  IsParser-UpToEnd : IsParser (UpToEnd inner)
  IsParser-UpToEnd = record { stable = up_to_end-stable; final = up_to_end-final; onward = up_to_end-onward }

-- ---- `AllInTurn`

module _ {O T : Type 0} (inner : Meaning (Option O) T) (p : IsParser inner) where
  -- values in turn, and their end, are the same when more input follows
  in_turn-longer : (more : Source T) (partial : Bool) (xs : List O) (a : Ahead T)
      (v : Outcome (Unit {0}) T) → IsSettled v → GivesInTurn inner true xs a v
      → GivesInTurn inner partial xs (longer more a) (outcome_longer more v)
  in_turn-longer more partial [] a (Gives u b) s h = p.stable more partial a (Gives None b) tt h
  in_turn-longer more partial [] a (Fails f) s h = p.stable more partial a (Fails f) s h
  in_turn-longer more partial (x ∷ xs) a v s (b, (h, inl k)) = (
    longer more b,
    (
      p.stable more partial a (Gives (Some x) b) tt h,
      inl (omega (arith, k.0, width-append a.tokens more, width-append b.tokens more), in_turn-longer more partial xs b v s k.1),
    ),
  )
  in_turn-longer more partial (x ∷ xs) a v s (b, (h, inr k)) = (
    longer more b,
    (
      p.stable more partial a (Gives (Some x) b) tt h,
      inr (omega (arith, k.0, width-append a.tokens more, width-append b.tokens more), k.1, ap (outcome_longer more) k.2),
    ),
  )

  -- values in turn move the stream on
  in_turn-onward : (partial : Bool) (xs : List O) (a : Ahead T) (v : Outcome (Unit {0}) T)
      → GivesInTurn inner partial xs a v → LeavesAfter a v
  in_turn-onward partial [] a (Gives u b) h = p.onward partial a (Gives None b) h
  in_turn-onward partial [] a (Fails f) h = p.onward partial a (Fails f) h
  in_turn-onward partial (x ∷ xs) a v (b, (h, inl k)) =
      LeavesAfter-on a b v (p.onward partial a (Gives (Some x) b) h) (in_turn-onward partial xs b v k.1)
  in_turn-onward partial (x ∷ xs) a v (b, (h, inr k)) =
      subst (LeavesAfter a) (sym k.2) (p.onward partial a (Gives (Some x) b) h)

  -- values in turn need nothing more where nothing more may follow
  in_turn-final : (n : Needed) (xs : List O) (a : Ahead T)
      → ¬ (GivesInTurn inner false xs a (Fails (Needs n)))
  in_turn-final n [] a h = p.final a n h
  in_turn-final n (x ∷ xs) a (b, (h, inl k)) = in_turn-final n xs b k.1
  in_turn-final n (x ∷ xs) a (b, (h, inr k)) = cc

  -- a settled answer of `AllInTurn` stays when more input follows
  all_in_turn-stable : IsStable (AllInTurn inner)
  all_in_turn-stable more partial a (Gives xs b) s h = in_turn-longer more partial xs a (Gives tt b) tt h
  all_in_turn-stable more partial a (Fails f) s h = (h.0, in_turn-longer more partial h.0 a (Fails f) s h.1)

  -- `AllInTurn` only moves the stream on
  all_in_turn-onward : IsOnward (AllInTurn inner)
  all_in_turn-onward partial a (Gives xs b) h = in_turn-onward partial xs a (Gives tt b) h
  all_in_turn-onward partial a (Fails f) h = in_turn-onward partial h.0 a (Fails f) h.1

  -- `AllInTurn` keeps the laws of a parser
  IsParser-AllInTurn : IsParser (AllInTurn inner)
  IsParser-AllInTurn = record {
    stable = all_in_turn-stable;
    final = λ a n h. in_turn-final n h.0 a h.1;
    onward = all_in_turn-onward;
  }

-- `IsEscaped` keeps the laws of a parser
pub IsParser-IsEscaped : {O C P T : Type 0} (normal : Meaning O T) (control : Meaning C T)
    (escapable : Meaning P T) → IsParser normal → IsParser control → IsParser escapable
    → IsParser (IsEscaped normal control escapable)
IsParser-IsEscaped normal control escapable p q r =
    let fragment = NextFragment normal control escapable in
    IsParser-AllInTurn (UpToEnd fragment) (IsParser-UpToEnd fragment (IsParser-NextFragment normal control escapable p q r))
