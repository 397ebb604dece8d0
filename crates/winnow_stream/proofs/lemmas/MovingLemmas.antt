-- Moves over a source, and two of them in a row.
use Rattle.std.proofs.Common.{◌≡◌, ℕ, ◌+◌, true, [], ◌++◌, length, take, drop, Option, Some, None, refl, ap, sym, ◌∙◌, arith, take-append-drop, append_assoc}
use Rattle.std.proofs.Math.Seq.{drop-append_seam}
use Rattle.winnow_stream.specs.Source.{Source, width, IsEndOf}
use Rattle.winnow_stream.specs.Front.{is_offset, front, back}
use Rattle.winnow_stream.specs.Location.{location_behind}
use Rattle.winnow_stream.specs.Moving.{MovesOn}
use Rattle.winnow_stream.proofs.lemmas.FrontLemmas.{width-append, width-front}

-- a location after no width is the same, and after two widths it is after their sum
location_behind-zero : (a : Option ℕ) → a ≡ location_behind a 0
location_behind-zero None = refl
location_behind-zero (Some n) = ap Some (omega arith)

location_behind-sum : (a : Option ℕ) (m n : ℕ)
    → location_behind (location_behind a m) n ≡ location_behind a (m + n)
location_behind-sum None m n = refl
location_behind-sum (Some l) m n = ap Some (omega arith)

module _ {A : Type 0} where
  -- standing still, taking a token and taking a front are moves
  pub MovesOn-still : (a : Option ℕ) (r : Source A) → MovesOn a a r r
  MovesOn-still a r = record { taken = []; whole = refl; place = location_behind-zero a }

  pub MovesOn-token : (a : Option ℕ) (r : Source A)
      → MovesOn a (location_behind a (width (take 1 r))) r (drop 1 r)
  MovesOn-token a r = record { taken = take 1 r; whole = sym (take-append-drop 1 r); place = refl }

  pub MovesOn-front : (a : Option ℕ) (r : Source A) (n : ℕ) → is_offset r n ≡ true
      → MovesOn a (location_behind a n) r (back r n)
  MovesOn-front a r n h = record {
    taken = front r n;
    whole = sym (take-append-drop _ r);
    place = ap (location_behind a) (sym (width-front r n h));
  }

  -- two moves in a row are one move
  pub MovesOn-on : (a b c : Option ℕ) (r s t : Source A) → MovesOn a b r s → MovesOn b c s t
      → MovesOn a c r t
  MovesOn-on a b c r s t first second = record {
    taken = first.taken ++ second.taken;
    whole = first.whole ∙ ap (λ x. first.taken ++ x) second.whole ∙ sym (append_assoc first.taken second.taken t);
    place = second.place ∙ ap (λ l. location_behind l (width second.taken)) first.place
        ∙ location_behind-sum a (width first.taken) (width second.taken)
        ∙ ap (location_behind a) (sym (width-append first.taken second.taken));
  }

  -- a move leaves the place at which the input ends
  pub MovesOn-end : (a b : Option ℕ) (r s : Source A) → MovesOn a b r s
      → location_behind b (width s) ≡ location_behind a (width r)
  MovesOn-end a b r s m =
      ap (λ l. location_behind l (width s)) m.place
      ∙ location_behind-sum a (width m.taken) (width s)
      ∙ ap (location_behind a) (sym (width-append m.taken s) ∙ ap width (sym m.whole))

  -- what remains after a move is an end of what was there
  pub IsEndOf-moved : (a b : Option ℕ) (r s : Source A) → MovesOn a b r s → IsEndOf s r
  IsEndOf-moved a b r s m = (length m.taken, sym (ap (drop (length m.taken)) m.whole ∙ drop-append_seam m.taken s))
