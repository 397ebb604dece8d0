-- What combinators take for a value spells it, where that holds of their parts.
use Rattle.std.specs.Prelude.{◌≡◌, ℕ, ◌≤◌, ◌<◌, Bool, true, false, List, [], ◌∷◌, ◌++◌, length, Option, Some, None, ◌⊎◌}
use Rattle.std.proofs.Common.{refl, ap, sym, ◌∙◌, subst, inl, inr, arith, append_assoc}
use Rattle.std.proofs.lemmas.List.{map-append}
use Rattle.std.proofs.lemmas.Option.{same_Some}
use Rattle.winnow_stream.specs.Source.{Source, width, HasPositiveWidths}
use Rattle.winnow_parser.specs.Outcome.{Ahead, Gives, Meaning}
use Rattle.winnow_parser.specs.Meanings.{Returns, Maps, Pair, IsPreceded, IsTerminated, IsAlt2, IsOpt, CutsErr, BacktracksErr, Verifies, VerifyMaps}
use Rattle.winnow_parser.specs.Context.{InContext}
use Rattle.winnow_combinator.specs.Appended.{AppendingIf}
use Rattle.winnow_combinator.specs.Counts.{IsBelow, IsUpTo, Ascending}
use Rattle.winnow_combinator.specs.Gathering.{Gathered}
use Rattle.winnow_combinator.specs.Repeat.{Taking, InTurn, Repeats}
use Rattle.winnow_combinator.specs.Separated.{FoldsLeft, IsSeparatedFoldl1}
use Rattle.winnow_grammar.specs.Spelling.{Spelling, tokens_of, TakesFor, IsSpelled}
use Rattle.winnow_grammar.specs.Spellings.{NoToken, Then, After, Before, InRow, Or, Perhaps, MadeOf, Such, Several, Counted, Chain}

-- what follows a front has positive widths
pub wide-after : {T : Type 0} (front rest : Source T) → HasPositiveWidths (front ++ rest)
    → HasPositiveWidths rest
wide-after [] rest h = h
wide-after (x ∷ front) rest h = wide-after front rest h.1

-- nothing is taken for a value that no token spells
pub takes-none : {O T : Type 0} (spells : Spelling O T) (x : O) (a b : Ahead T) → a ≡ b
    → spells x [] → TakesFor spells x a b
takes-none spells x a b e h = ([], (ap (λ p. p.tokens) e, h))

-- what is taken for one value has another spelling, too
pub takes-on : {O P T : Type 0} (spells : Spelling O T) (others : Spelling P T) (x : O) (y : P)
    (a b : Ahead T) → ((ts : List T) → spells x ts → others y ts) → TakesFor spells x a b
    → TakesFor others y a b
takes-on spells others x y a b on (taken, (whole, h)) = (taken, (whole, on (tokens_of taken) h))

module _ {O P T : Type 0} (p : Spelling O T) (q : Spelling P T) (first : Meaning O T) (second : Meaning P T) (one : IsSpelled p first) (two : IsSpelled q second) where
  -- two values in a row
  pub spelled-Then : IsSpelled (Then p q) (Pair first second)
  spelled-Then partial a c both wide (b, (h, k)) =
      let k1 = one partial a b both.0 wide h in
      let k2 = two partial b c both.1 (wide-after k1.0 b.tokens (subst HasPositiveWidths k1.1.0 wide)) k in (
        k1.0 ++ k2.0,
        (
          k1.1.0 ∙ ap (λ r. k1.0 ++ r) k2.1.0 ∙ sym (append_assoc k1.0 k2.0 c.tokens),
          (tokens_of k1.0, (tokens_of k2.0, (map-append (λ x. x.0) k1.0 k2.0, k1.1.1, k2.1.1))),
        ),
      )

  -- a value after one that is dropped
  pub spelled-After : IsSpelled (After p q) (IsPreceded first second)
  spelled-After partial a c y wide (both, (same, h)) =
      takes-on (Then p q) (After p q) both y a c (λ ts k. (both.0, subst (λ z. Then p q (both.0, z) ts) same k)) (spelled-Then partial a c both wide h)

  -- a value before one that is dropped
  pub spelled-Before : IsSpelled (Before p q) (IsTerminated first second)
  spelled-Before partial a c x wide (both, (same, h)) =
      takes-on (Then p q) (Before p q) both x a c (λ ts k. (both.1, subst (λ z. Then p q (z, both.1) ts) same k)) (spelled-Then partial a c both wide h)

module _ {O P T : Type 0} (makes : O → P → Type 0) (p : Spelling O T) (inner : Meaning O T) (one : IsSpelled p inner) where
  -- what a relation makes of a value
  pub spelled-MadeOf : IsSpelled (MadeOf makes p) (Maps makes inner)
  spelled-MadeOf partial a b y wide (x, (made, h)) =
      takes-on p (MadeOf makes p) x y a b (λ ts k. (x, (made, k))) (one partial a b x wide h)

  -- what it gathers, where memory may be refused
  pub spelled-Gathered : (refusable : Type 0)
      → IsSpelled (MadeOf makes p) (Gathered refusable makes inner)
  spelled-Gathered refusable partial a b y wide (x, (made, h)) =
      takes-on p (MadeOf makes p) x y a b (λ ts k. (x, (made, k))) (one partial a b x wide h)

-- what a relation may make of a value
pub spelled-VerifyMaps : {O P T : Type 0} (makes : O → Option P → Type 0) (p : Spelling O T)
    (inner : Meaning O T) → IsSpelled p inner
    → IsSpelled (MadeOf (λ x y. makes x (Some y)) p) (VerifyMaps makes inner)
spelled-VerifyMaps makes p inner one partial a b y wide (x, (made, h)) =
    takes-on p (MadeOf (λ x y. makes x (Some y)) p) x y a b (λ ts k. (x, (made, k))) (one partial a b x wide h)

-- a value of which a test holds
pub spelled-Verifies : {O T : Type 0} (answers : O → Bool → Type 0) (p : Spelling O T)
    (inner : Meaning O T) → IsSpelled p inner
    → IsSpelled (Such (λ x. answers x true) p) (Verifies answers inner)
spelled-Verifies answers p inner one partial a b x wide (h, told) =
    takes-on p (Such (λ x. answers x true) p) x x a b (λ ts k. (told, k)) (one partial a b x wide h)

-- ---- Choices

-- one of two parsers
pub spelled-Or : {O T : Type 0} (refusable : Type 0) (p q : Spelling O T)
    (first second : Meaning O T)
    → IsSpelled p first → IsSpelled q second → IsSpelled (Or p q) (IsAlt2 refusable first second)
spelled-Or refusable p q first second one two partial a b x wide (inl h) =
    takes-on p (Or p q) x x a b (λ ts k. inl k) (one partial a b x wide h)
spelled-Or refusable p q first second one two partial a b x wide (inr (c, (g, h))) =
    takes-on q (Or p q) x x a b (λ ts k. inr k) (two partial a b x wide h)

-- a value, or none
pub spelled-Perhaps : {O T : Type 0} (p : Spelling O T) (inner : Meaning O T) → IsSpelled p inner
    → IsSpelled (Perhaps p) (IsOpt inner)
spelled-Perhaps p inner one partial a b (Some x) wide h =
    takes-on p (Perhaps p) x (Some x) a b (λ ts k. k) (one partial a b x wide h)
spelled-Perhaps p inner one partial a b None wide (same, h) = takes-none (Perhaps p) None a b same refl

-- nothing at all
pub spelled-Returns : {O T : Type 0} (x : O) → IsSpelled {T = T} NoToken (Returns x)
spelled-Returns x partial a b y wide (is, same) = takes-none NoToken y a b same refl

-- what only changes a failure
pub spelled-CutsErr : {O T : Type 0} (p : Spelling O T) (inner : Meaning O T) → IsSpelled p inner
    → IsSpelled p (CutsErr inner)
spelled-CutsErr p inner one partial a b x wide h = one partial a b x wide h

pub spelled-BacktracksErr : {O T : Type 0} (p : Spelling O T) (inner : Meaning O T)
    → IsSpelled p inner → IsSpelled p (BacktracksErr inner)
spelled-BacktracksErr p inner one partial a b x wide h = one partial a b x wide h

pub spelled-InContext : {O T : Type 0} (refusable : Type 0) (p : Spelling O T)
    (inner : Meaning O T) → IsSpelled p inner → IsSpelled p (InContext refusable inner)
spelled-InContext refusable p inner one partial a b x wide h = one partial a b x wide h

-- ---- Repetition

-- so many values are not more than the greatest count
up-to : (greatest : Option ℕ) (n : ℕ) (P : Type 0)
    → (greatest ≡ Some n) ⊎ (IsBelow greatest n × P) → IsUpTo greatest n
up-to None n P h = tt
up-to (Some m) n P (inl e) = let same = same_Some _ _ e in omega (arith, same)
up-to (Some m) n P (inr (l, h)) = omega (arith, l)

module _ {O T : Type 0} (p : Spelling O T) (inner : Meaning O T) (one : IsSpelled p inner) where
  -- values in turn
  spelled-InTurn : (partial : Bool) (xs : List O) (a b : Ahead T) → HasPositiveWidths a.tokens
      → InTurn (Taking inner) partial xs a b → TakesFor (InRow p) xs a b
  spelled-InTurn partial [] a b wide same = takes-none (InRow p) [] a b same refl
  spelled-InTurn partial (x ∷ xs) a b wide (c, (h, more)) =
      let k1 = one partial a c x wide h.0 in
      let k2 = spelled-InTurn partial xs c b (wide-after k1.0 c.tokens (subst HasPositiveWidths k1.1.0 wide)) more in (
        k1.0 ++ k2.0,
        (
          k1.1.0 ∙ ap (λ r. k1.0 ++ r) k2.1.0 ∙ sym (append_assoc k1.0 k2.0 b.tokens),
          (tokens_of k1.0, (tokens_of k2.0, (map-append (λ x. x.0) k1.0 k2.0, k1.1.1, k2.1.1))),
        ),
      )

  -- so many values in a row
  pub spelled-Repeats : (least : ℕ) (greatest : Option ℕ)
      → IsSpelled (Several least greatest p) (Repeats least greatest inner)
  spelled-Repeats least greatest partial a b xs wide (turns, enough, most) =
      takes-on (InRow p) (Several least greatest p) xs xs a b (λ ts k. ((enough, up-to greatest (length xs) _ most), k))
      (spelled-InTurn partial xs a b wide turns)

  -- the same where errors may be appended to
  spelled-appended : (flag : Bool) (q : Type 0) (least : ℕ) (greatest : Option ℕ)
      → IsSpelled (Several least greatest p) (AppendingIf flag q (Repeats least greatest inner))
  spelled-appended true q least greatest partial a b xs wide h = spelled-Repeats least greatest partial a b xs wide h
  spelled-appended false q least greatest partial a b xs wide h = spelled-Repeats least greatest partial a b xs wide h

  -- of which a value is made
  pub spelled-Counted : {P : Type 0} (flag : Bool) (q : Type 0) (least : ℕ) (greatest : Option ℕ)
      (refusable : Type 0) (makes : List O → P → Type 0)
      → IsSpelled (Counted least greatest makes p) (Ascending least greatest (Gathered refusable makes (AppendingIf flag q (Repeats least greatest inner))))
  spelled-Counted flag q least None refusable makes partial a b y wide h =
      spelled-Gathered makes (Several least None p) (AppendingIf flag q (Repeats least None inner)) (spelled-appended flag q least None) refusable partial a b y wide h
  spelled-Counted flag q least (Some g) refusable makes partial a b y wide (inl (l, h)) =
      spelled-Gathered makes (Several least (Some g) p) (AppendingIf flag q (Repeats least (Some g) inner)) (spelled-appended flag q least (Some g)) refusable partial a b y wide h
  spelled-Counted flag q least (Some g) refusable makes partial a b y wide (inr (l, e)) = absurd (cc e)

-- values with separators between them, folded from the left
pub spelled-Chain : {O S T : Type 0} (step : O → S × O → O → Type 0) (s : Spelling S T)
    (p : Spelling O T) (separator : Meaning S T) (inner : Meaning O T)
    → IsSpelled s separator → IsSpelled p inner
    → IsSpelled (Chain step s p) (IsSeparatedFoldl1 step separator inner)
spelled-Chain step s p separator inner one two =
    let pair = Pair separator inner in
    spelled-MadeOf (FoldsLeft step) (Then p (Several 0 None (Then s p))) (Pair inner (Repeats 0 None pair))
    (spelled-Then p (Several 0 None (Then s p)) inner (Repeats 0 None pair) two (spelled-Repeats (Then s p) pair (spelled-Then s p separator inner one two) 0 None))
