-- What a parser with a recovery skips: the input of a failure, and what the recovery takes after.
use Rattle.std.specs.Prelude.{◌≡◌, ◌<◌, Bool, true, ◌⊎◌}
use Rattle.std.proofs.Common.{inl, inr, arith}
use Rattle.winnow_stream.specs.Source.{Source, width}
use Rattle.winnow_stream.proofs.lemmas.FrontLemmas.{width-append}
use Rattle.winnow_parser.specs.Outcome.{Ahead, Backtracks, Cuts, Needs, Refuses, Gives, Fails, Meaning, Moves}
use Rattle.winnow_parser.specs.Laws.{longer, IsStable, IsFinal, IsOnward, IsParser}
use Rattle.winnow_parser.specs.Parts.{Moves-on}

-- the parser backtracks or cuts, and leaves the stream there
abbrev pub BreaksAt : {O T : Type 0} → Meaning O T → Bool → Ahead T → Ahead T → Type 0
BreaksAt means partial a b = means partial a (Fails (Backtracks b)) ⊎ means partial a (Fails (Cuts b))

-- some tokens are taken, if they have to be
abbrev pub Advances : {T : Type 0} → Bool → Ahead T → Ahead T → Type 0
Advances advances a b = advances ≡ true → width b.tokens < width a.tokens

-- the stream may record errors, the parser fails, and the recovery succeeds from there to the end
abbrev pub Skips : {O T : Type 0} → Bool → Bool → Meaning O T → Meaning (Unit {0}) T → Bool
    → Ahead T → Ahead T → Type 0
Skips {T = T} advances records means recover partial a c = (records ≡ true)
    × ((b : Ahead T)
    × (BreaksAt means partial a b × (recover partial b (Gives tt c) × Advances advances b c)))

-- the answer of the parser; or, where it fails and the stream may record its error, the recovery
-- needs more input, or memory is refused to it or to the record
abbrev pub Attempts : {O T : Type 0} → Bool → Meaning O T → Meaning (Unit {0}) T → Meaning O T
Attempts records means recover partial a (Gives x b) = means partial a (Gives x b)
Attempts records means recover partial a (Fails (Backtracks b)) = means partial a (Fails (Backtracks b))
Attempts records means recover partial a (Fails (Cuts b)) = means partial a (Fails (Cuts b))
Attempts {T = T} records means recover partial a (Fails (Needs n)) = means partial a (Fails (Needs n))
    ⊎ ((records ≡ true)
    × ((b : Ahead T) × (BreaksAt means partial a b × recover partial b (Fails (Needs n)))))
Attempts {T = T} records means recover partial a (Fails Refuses) = means partial a (Fails Refuses)
    ⊎ ((records ≡ true)
    × ((b : Ahead T)
    × (BreaksAt means partial a b
    × (recover partial b (Fails Refuses) ⊎ ((c : Ahead T) × recover partial b (Gives tt c))))))

module _ {O T : Type 0} {means : Meaning O T} (p : IsParser means) where
  -- a failure stays when more input follows
  pub BreaksAt-longer : (more : Source T) (partial : Bool) (a b : Ahead T)
      → BreaksAt means true a b → BreaksAt means partial (longer more a) (longer more b)
  BreaksAt-longer more partial a b (inl h) = inl (p.stable more partial a (Fails (Backtracks b)) tt h)
  BreaksAt-longer more partial a b (inr h) = inr (p.stable more partial a (Fails (Cuts b)) tt h)

  -- a failing parser moves the stream on
  pub BreaksAt-moves : (partial : Bool) (a b : Ahead T) → BreaksAt means partial a b → Moves a b
  BreaksAt-moves partial a b (inl h) = p.onward partial a (Fails (Backtracks b)) h
  BreaksAt-moves partial a b (inr h) = p.onward partial a (Fails (Cuts b)) h

module _ {O T : Type 0} {means : Meaning O T} {recover : Meaning (Unit {0}) T} (p : IsParser means)
    (r : IsParser recover) (records : Bool) where
  -- what is skipped stays when more input follows
  pub Skips-longer : (advances : Bool) (more : Source T) (partial : Bool) (a c : Ahead T)
      → Skips advances records means recover true a c
      → Skips advances records means recover partial (longer more a) (longer more c)
  Skips-longer advances more partial a c (on, h) = (
    on,
    (
      longer more h.0,
      (
        BreaksAt-longer p more partial a h.0 h.1.0,
        (
          r.stable more partial h.0 (Gives tt c) tt h.1.1.0,
          λ some. omega (arith, h.1.1.1 some, width-append h.0.tokens more, width-append c.tokens more),
        ),
      ),
    ),
  )

  -- what is skipped moves the stream on
  pub Skips-moves : (advances : Bool) (partial : Bool) (a c : Ahead T)
      → Skips advances records means recover partial a c → Moves a c
  Skips-moves advances partial a c (on, h) =
      Moves-on a h.0 c (BreaksAt-moves p partial a h.0 h.1.0) (r.onward partial h.0 (Gives tt c) h.1.1.0)

  -- a settled answer of `Attempts` stays when more input follows
  attempts-stable : IsStable (Attempts records means recover)
  attempts-stable more partial a (Gives x b) s h = p.stable more partial a (Gives x b) tt h
  attempts-stable more partial a (Fails (Backtracks b)) s h = p.stable more partial a (Fails (Backtracks b)) tt h
  attempts-stable more partial a (Fails (Cuts b)) s h = p.stable more partial a (Fails (Cuts b)) tt h
  attempts-stable more partial a (Fails (Needs n)) s h = absurd s
  attempts-stable more partial a (Fails Refuses) s h = absurd s

  -- `Attempts` needs nothing more where nothing more may follow
  attempts-final : IsFinal (Attempts records means recover)
  attempts-final a n (inl h) = p.final a n h
  attempts-final a n (inr h) = r.final h.1.0 n h.1.1.1

  -- `Attempts` only moves the stream on
  attempts-onward : IsOnward (Attempts records means recover)
  attempts-onward partial a (Gives x b) h = p.onward partial a (Gives x b) h
  attempts-onward partial a (Fails (Backtracks b)) h = p.onward partial a (Fails (Backtracks b)) h
  attempts-onward partial a (Fails (Cuts b)) h = p.onward partial a (Fails (Cuts b)) h
  attempts-onward partial a (Fails (Needs n)) h = tt
  attempts-onward partial a (Fails Refuses) h = tt

  -- `Attempts` keeps the laws of a parser
  pub IsParser-Attempts : IsParser (Attempts records means recover)
  IsParser-Attempts = record { stable = attempts-stable; final = attempts-final; onward = attempts-onward }
