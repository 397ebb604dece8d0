-- What a stream that moved on has taken.
use Rattle.std.proofs.Common.{◌≡◌, ◌-◌, true, [], ◌∷◌, ◌++◌, drop, ap, sym, ◌∙◌, subst, arith}
use Rattle.std.proofs.Math.Seq.{drop-append_seam}
use Rattle.winnow_stream.specs.Source.{Source, width, HasPositiveWidths}
use Rattle.winnow_stream.specs.Front.{is_offset, back}
use Rattle.winnow_stream.specs.Location.{location_behind}
use Rattle.winnow_stream.proofs.lemmas.FrontLemmas.{width-append, is_offset-seam, count_to-seam}
use Rattle.winnow_parser.specs.Outcome.{Ahead, Moves, after}

module _ {T : Type 0} where
  -- the tokens of a front have positive widths too
  HasPositiveWidths-front : (xs ys : Source T) → HasPositiveWidths (xs ++ ys) → HasPositiveWidths xs
  HasPositiveWidths-front [] ys h = tt
  HasPositiveWidths-front (x ∷ xs) ys h = (h.0, HasPositiveWidths-front xs ys h.1)

  -- the width of what was taken is the difference of the widths
  taken-width : (a b : Ahead T) (m : Moves a b) → width m.taken ≡ width a.tokens - width b.tokens
  taken-width a b m = omega (arith, ap width m.whole, width-append m.taken b.tokens)

  -- the tokens that were taken have positive widths
  taken-positive : (a b : Ahead T) (m : Moves a b) → HasPositiveWidths a.tokens
      → HasPositiveWidths m.taken
  taken-positive a b m h = HasPositiveWidths-front m.taken b.tokens (subst HasPositiveWidths m.whole h)

  -- the width of what was taken is an offset
  pub offset-taken : (a b : Ahead T) → HasPositiveWidths a.tokens → Moves a b
      → is_offset a.tokens (width a.tokens - width b.tokens) ≡ true
  offset-taken a b h m =
      ap (is_offset a.tokens) (sym (taken-width a b m))
      ∙ ap (λ r. is_offset r (width m.taken)) m.whole
      ∙ is_offset-seam m.taken b.tokens (taken-positive a b m h)

  -- what remains after the front of that width is what remains now
  back-taken : (a b : Ahead T) (m : Moves a b) → HasPositiveWidths a.tokens
      → back a.tokens (width m.taken) ≡ b.tokens
  back-taken a b m h =
      ap (λ r. back r (width m.taken)) m.whole
      ∙ ap (λ k. drop k (m.taken ++ b.tokens)) (count_to-seam m.taken b.tokens (taken-positive a b m h))
      ∙ drop-append_seam m.taken b.tokens

  -- the place after the front of that width is where the stream stands now
  pub after-taken : (a b : Ahead T) → HasPositiveWidths a.tokens → Moves a b
      → after a (width a.tokens - width b.tokens) ≡ b
  after-taken a b h m =
      ap (after a) (sym (taken-width a b m))
      ∙ ap (λ r. record { location = location_behind a.location (width m.taken); tokens = r }) (back-taken a b m h)
      ∙ ap (λ l. record { location = l; tokens = b.tokens }) (sym m.place)

  -- two places are equal where their locations and tokens are
  pub same-place : (a b : Ahead T) → a.location ≡ b.location → a.tokens ≡ b.tokens → a ≡ b
  same-place a b l t = ap (λ location. record { location = location; tokens = a.tokens }) l ∙ ap (λ tokens. record { location = b.location; tokens = tokens }) t
