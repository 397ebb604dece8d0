-- A parser of a language gives other values, or reads the same tokens in other words.
use Rattle.std.proofs.Common.{◌≡◌, Bool, true, false, List, ◌++◌}
use Rattle.winnow_stream.specs.Source.{HasPositiveWidths}
use Rattle.winnow_parser.specs.Outcome.{Ahead, Backtracks, Gives, Fails, Meaning}
use Rattle.winnow_parser.specs.Meanings.{Maps}
use Rattle.winnow_combinator.specs.Appended.{Appending}
use Rattle.winnow_combinator.specs.Gathering.{Gathered}
use Rattle.winnow_grammar.specs.Spelling.{tokens_of, Spelling}
use Rattle.winnow_exact.specs.Exact.{Lacks, Ends, Leaves, IsExact}
use Rattle.winnow_exact.proofs.lemmas.ListLemmas.{starts-on}

-- the same tokens in other words, and a wider test of what may go on after them
pub IsExact-as : {O T : Type 0} {L : Spelling O T} {f : T
    → Bool} {means : Meaning O T} (K : Spelling O T)
    (g : T → Bool) → IsExact L f means → ((x : O) (p : List T) → L x p → K x p)
    → ((x : O) (p : List T) → K x p → L x p) → ((c : T) → f c ≡ true → g c ≡ true)
    → IsExact K g means
IsExact-as {f = f} K g r sound back on = record {
  gives = λ a b x w h. let n = r.gives a b x w h in (n.0, (n.1.0, (n.1.1.0, sound x n.1.0 n.1.1.1)));
  ends = λ a b x w h y p rest e k.
      let n = r.ends a b x w h y p rest e (back y p k) in (n.0, (n.1.0, starts-on f g on n.0 n.1.1));
  none = λ a b w h y p rest e k. r.none a b w h y p rest e (back y p k);
}

module _ {O P T : Type 0} {L : Spelling O T} {goes : T
    → Bool} {means : Meaning O T} (r : IsExact L goes means) (K : Spelling P T) (makes : O → P → Type 0) (sound : (x : O) (y : P) (p : List T) → makes x y → L x p → K y p) (back : (y : P) (p : List T) → K y p → (x : O) × L x p) where
  made-gives : (a b : Ahead T) (y : P) → HasPositiveWidths a.tokens
      → Maps makes means false a (Gives y b)
      → HasPositiveWidths b.tokens
      × ((front : List T) × ((tokens_of a.tokens ≡ front ++ tokens_of b.tokens) × K y front))
  made-gives a b y w (x, (m, h)) =
      let g = r.gives a b x w h in (g.0, (g.1.0, (g.1.1.0, sound x y g.1.0 m g.1.1.1)))

  made-ends : (a b : Ahead T) (y : P) → HasPositiveWidths a.tokens
      → Maps makes means false a (Gives y b)
      → Ends K goes (tokens_of a.tokens) (tokens_of b.tokens)
  made-ends a b y w (x, (m, h)) z p rest e k =
      let l = back z p k in r.ends a b x w h l.0 p rest e l.1

  made-none : (a b : Ahead T) → HasPositiveWidths a.tokens
      → Maps makes means false a (Fails (Backtracks b)) → Lacks K (tokens_of a.tokens)
  made-none a b w h z p rest e k = let l = back z p k in r.none a b w h l.0 p rest e l.1

  -- values that are made of those of a language
  pub IsExact-Maps : IsExact K goes (Maps makes means)
  IsExact-Maps = record { gives = made-gives; ends = made-ends; none = made-none }

module _ {O P T : Type 0} {L : Spelling O T} {goes : T → Bool} {means : Meaning O T} (r : IsExact L goes means) (K : Spelling P T) (refusable : Type 0) (makes : O → P → Type 0) (sound : (x : O) (y : P) (p : List T) → makes x y → L x p → K y p) (back : (y : P) (p : List T) → K y p → (x : O) × L x p) where
  gathered-gives : (a b : Ahead T) (y : P) → HasPositiveWidths a.tokens
      → Gathered refusable makes means false a (Gives y b)
      → HasPositiveWidths b.tokens
      × ((front : List T) × ((tokens_of a.tokens ≡ front ++ tokens_of b.tokens) × K y front))
  gathered-gives a b y w (x, (m, h)) =
      let g = r.gives a b x w h in (g.0, (g.1.0, (g.1.1.0, sound x y g.1.0 m g.1.1.1)))

  gathered-ends : (a b : Ahead T) (y : P) → HasPositiveWidths a.tokens
      → Gathered refusable makes means false a (Gives y b)
      → Ends K goes (tokens_of a.tokens) (tokens_of b.tokens)
  gathered-ends a b y w (x, (m, h)) z p rest e k =
      let l = back z p k in r.ends a b x w h l.0 p rest e l.1

  gathered-none : (a b : Ahead T) → HasPositiveWidths a.tokens
      → Gathered refusable makes means false a (Fails (Backtracks b)) → Lacks K (tokens_of a.tokens)
  gathered-none a b w h z p rest e k = let l = back z p k in r.none a b w h l.0 p rest e l.1

  -- the same where memory for the value may be refused
  pub IsExact-Gathered : IsExact K goes (Gathered refusable makes means)
  IsExact-Gathered = record { gives = gathered-gives; ends = gathered-ends; none = gathered-none }

-- a parser that appends to errors reads the same language
pub IsExact-Appending : {O T : Type 0} {L : Spelling O T} {goes : T → Bool} {means : Meaning O T}
    (refusable : Type 0) → IsExact L goes means → IsExact L goes (Appending refusable means)
IsExact-Appending refusable r = record { gives = r.gives; ends = r.ends; none = r.none }
