-- A reader that needs more has neither a value nor a failure ahead.
use Rattle.std.proofs.Common.{◌≡◌, ℕ, suc, ◌≤◌, ◌<◌, true, List, [], ◌∷◌, ◌++◌, length, refl, ap, sym, ◌∙◌, subst, arith}
use Rattle.std.proofs.lemmas.List.{append-nil, map-append}
use Rattle.winnow_stream.specs.Source.{Source, units}
use Rattle.winnow_stream.specs.declared.needed.Needed.{Needed}
use Rattle.winnow_stream.specs.declared.needed.Needed.TheVariants.{Unknown, Size}
use Rattle.winnow_parser.specs.Outcome.{Ahead, Backtracks, Cuts, Needs, Refuses, Gives, Fails, Meaning}
use Rattle.winnow_parser.specs.Laws.{longer}
use Rattle.winnow_parser.specs.Determined.{IsDetermined}
use Rattle.winnow_token.specs.Prompt.{IsPrompt}
use Rattle.winnow_reader.specs.Place.{bytes_at}
use Rattle.winnow_reader.specs.State.{ReaderState}
use Rattle.winnow_reader.specs.Reading.{Lacks}
use Rattle.winnow_reader.specs.Wanted.{size_of}
use Rattle.winnow_liveness.specs.Live.{IsLive, IsQuiet}

module _ {O T : Type 0} (same : O → O → Type 0) (means : Meaning O T) (d : IsDetermined same means) where
  -- a deterministic parser that needs more has no settled answer
  needs-quiet : (a : Ahead T) (need : Needed) → means true a (Fails (Needs need)) → IsQuiet means a
  needs-quiet a need h (Gives x b) k s = d true a (Fails (Needs need)) (Gives x b) tt tt h k
  needs-quiet a need h (Fails (Backtracks b)) k s = let e = d true a (Fails (Needs need)) (Fails (Backtracks b)) tt tt h k in cc
  needs-quiet a need h (Fails (Cuts b)) k s = let e = d true a (Fails (Needs need)) (Fails (Cuts b)) tt tt h k in cc
  needs-quiet a need h (Fails (Needs n)) k s = s
  needs-quiet a need h (Fails Refuses) k s = s

  none-more : (a : Ahead T) (more : Source T) → length more < 1 → a ≡ longer more a
  none-more a [] l = ap (λ r. record { location = a.location; tokens = r }) (sym (append-nil a.tokens))
  none-more a (x ∷ xs) l = absurd (omega (arith, l))

  -- a deterministic parser is live if it has no settled answer with fewer tokens than it needs
  pub IsLive-of : IsPrompt means → IsLive means
  IsLive-of p a Unknown more h l =
      subst (IsQuiet means) (none-more a more l) (needs-quiet a Unknown h)
  IsLive-of p a (Size n) more h l = λ v k. p a n more v h l k

  -- a deterministic parser is live, too, if it asks for one token alone
  pub IsLive-ones : ((a : Ahead T) (need : Needed) → means true a (Fails (Needs need))
      → size_of need ≤ 1)
      → IsLive means
  IsLive-ones one a need more h l =
      let few : length more < 1 = omega (arith, l, one a need h) in
      subst (IsQuiet means) (none-more a more few) (needs-quiet a need h)

-- bytes and more bytes, from one place
bytes-longer : (place : ℕ) (front rest : List ℕ)
    → bytes_at place (front ++ rest) ≡ longer (units rest) (bytes_at place front)
bytes-longer place front rest = ap (λ r. record { location = (bytes_at place front).location; tokens = r }) (map-append _ front rest)

length-units : (bytes : List ℕ) → length (units bytes) ≡ length bytes
length-units [] = refl
length-units (b ∷ bytes) = ap suc (length-units bytes)

-- a reader whose parser asked for more than came since has no settled answer ahead
pub lacks-quiet : {R O : Type 0} (means : R → Meaning O ℕ) (f : ReaderState R)
    → IsLive (means f.parser) → Lacks means f → IsQuiet (means f.parser) (bytes_at f.place f.ahead)
lacks-quiet means f live (rest, (n, (asks, l))) =
    let whole : bytes_at f.place f.ahead ≡ longer (units rest) (bytes_at f.place asks.front) =
    ap (bytes_at f.place) asks.whole ∙ bytes-longer f.place asks.front rest in
    subst (IsQuiet (means f.parser)) (sym whole)
    (live (bytes_at f.place asks.front) asks.need (units rest) asks.needs (omega (arith, l, asks.size, length-units rest)))
