-- A call of a stream moves it on: by what the call's contract says of where it leaves the stream.
use Rattle.std.proofs.Common.{◌≡◌, ℕ, true, [], ◌++◌, Option, take, drop, ap, subst, sym, ◌∙◌}
use Rattle.std.proofs.lemmas.List.{append-nil}
use Rattle.winnow_stream.specs.Source.{Source, width}
use Rattle.winnow_stream.specs.Front.{is_offset, back}
use Rattle.winnow_stream.specs.Location.{location_behind}
use Rattle.winnow_stream.specs.Moving.{MovesOn}
use Rattle.winnow_parser.specs.Outcome.{Ahead}
use Rattle.winnow_stream.proofs.lemmas.MovingLemmas.{MovesOn-still, MovesOn-token, MovesOn-front, MovesOn-on}

-- where a stream stands, by its two parts
abbrev pub place_of : {T : Type 0} → Option ℕ → Source T → Ahead T
place_of a r = record { location = a; tokens = r }

module _ {A : Type 0} where
  -- the same move, to the same place
  moved_as : (a b k : Option ℕ) (r s t : Source A) → b ≡ k → s ≡ t → MovesOn a k r t
      → MovesOn a b r s
  moved_as a b k r s t p q m = subst (λ l. MovesOn a l r s) (sym p) (subst (λ x. MovesOn a k r x) (sym q) m)

  -- a stream that stays moves on by nothing
  pub onward_still : (a b : Option ℕ) (r s : Source A) → b ≡ a → s ≡ r → MovesOn a b r s
  onward_still a b r s p q = moved_as a b a r s r p q (MovesOn-still a r)

  -- a stream that is reset to where it began moves on by nothing
  pub onward_reset : (a k b : Option ℕ) (r t s : Source A) → k ≡ a → t ≡ r → b ≡ k → s ≡ t
      → MovesOn a b r s
  onward_reset a k b r t s k_is t_is b_is s_is = onward_still a b r s (b_is ∙ k_is) (s_is ∙ t_is)

  -- a token that is taken is a move
  pub onward_token : (a b : Option ℕ) (r s : Source A) → b ≡ location_behind a (width (take 1 r))
      → s ≡ drop 1 r → MovesOn a b r s
  onward_token a b r s p q = moved_as a b (location_behind a (width (take 1 r))) r s (drop 1 r) p q (MovesOn-token a r)

  -- a front that is taken is a move
  pub onward_front : (a b : Option ℕ) (r s : Source A) (n : ℕ) → is_offset r n ≡ true
      → b ≡ location_behind a n → s ≡ back r n → MovesOn a b r s
  onward_front a b r s n h p q = moved_as a b (location_behind a n) r s (back r n) p q (MovesOn-front a r n h)

  -- all that remains is a move, if it is taken
  pub onward_finish : (a b : Option ℕ) (r s : Source A) → b ≡ location_behind a (width r) → s ≡ []
      → MovesOn a b r s
  onward_finish a b r s p q = record {
    taken = r;
    whole = sym (append-nil r) ∙ ap (λ x. r ++ x) (sym q);
    place = p;
  }

  -- a move to the same place as another, where both are given as places
  pub onward_as : (a b k : Option ℕ) (r s t : Source A)
      → place_of b s ≡ place_of k t → MovesOn a k r t → MovesOn a b r s
  onward_as a b k r s t e m = moved_as a b k r s t (ap (λ p. p.location) e) (ap (λ p. p.tokens) e) m

  -- two moves in a row are one
  pub onward_on : (a b c : Option ℕ) (r s t : Source A) → MovesOn a b r s → MovesOn b c s t
      → MovesOn a c r t
  onward_on a b c r s t m n = MovesOn-on a b c r s t m n

pub ruleset onward_steps = (onward_still, onward_reset, onward_token, onward_front, onward_finish, onward_as, onward_on)
