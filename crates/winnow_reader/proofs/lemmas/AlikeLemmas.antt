-- Two readings of one input by a parser that has one answer to each question.
use Rattle.std.specs.Prelude.{Bool, false}
use Rattle.std.proofs.Common.{◌≡◌, ℕ, List, [], ◌∷◌, ◌++◌, length, ap, sym, subst, inl, inr, arith}
use Rattle.winnow_stream.specs.Source.{units}
use Rattle.winnow_parser.specs.Outcome.{Ahead, Gives, Meaning}
use Rattle.winnow_parser.specs.Determined.{IsDetermined}
use Rattle.winnow_reader.specs.Place.{bytes_at}
use Rattle.winnow_reader.specs.State.{ReaderState}
use Rattle.winnow_reader.specs.Reading.{Reads, HasRead}
use Rattle.winnow_reader.specs.InTurn.{may-follow_none}
use Rattle.winnow_reader.specs.SameValues.{AreAlike, AreFronts, IsThrough}

module _ {O : Type 0} (same : O → O → Type 0) (means : Meaning O ℕ) (d : IsDetermined same means) (partial : Bool) where
  -- the values of one reading are a front of the other's
  fronts-read : (a : Ahead ℕ) (xs ys : List O) (b c : Ahead ℕ) → Reads means partial a xs b
      → Reads means partial a ys c → AreFronts same xs ys
  fronts-read a [] ys b c r s = inl tt
  fronts-read a (x ∷ xs) [] b c r s = inr tt
  fronts-read a (x ∷ xs) (y ∷ ys) b c r s =
      let there = d partial a (Gives x r.0) (Gives y s.0) tt tt r.1.0 s.1.0 in
      let back = d partial a (Gives y s.0) (Gives x r.0) tt tt s.1.0 r.1.0 in
      let rest = fronts-read r.0 xs ys b c r.1.2 (subst (λ q. Reads means partial q ys c) (sym there.1) s.1.2) in
      elim rest [ inl h ↦ inl (there.0, h) | inr h ↦ inr (back.0, h) ]

  -- where nothing remains after either, they are the same
  alike-read : (a : Ahead ℕ) (xs ys : List O) (b c : Ahead ℕ) → Reads means partial a xs b
      → Reads means partial a ys c → b.tokens ≡ [] → c.tokens ≡ [] → AreAlike same xs ys
  alike-read a [] [] b c r s e g = tt
  alike-read a [] (y ∷ ys) b c r s e g = absurd (omega (arith, s.1.1, ap (λ (q : Ahead ℕ). length q.tokens) r, ap length e))
  alike-read a (x ∷ xs) [] b c r s e g = absurd (omega (arith, r.1.1, ap (λ (q : Ahead ℕ). length q.tokens) s, ap length g))
  alike-read a (x ∷ xs) (y ∷ ys) b c r s e g =
      let there = d partial a (Gives x r.0) (Gives y s.0) tt tt r.1.0 s.1.0 in
      (there.0, alike-read r.0 xs ys b c r.1.2 (subst (λ q. Reads means partial q ys c) (sym there.1) s.1.2) e g)

module _ {R O : Type 0} (means : R → Meaning O ℕ) (same : O → O → Type 0)
    (f g : ReaderState R) (input : List ℕ) (xs ys : List O)
    (d : IsDetermined same (means f.parser)) (e : f.parser ≡ g.parser)
    (h : HasRead means f input xs) (k : HasRead means g input ys) where
  -- the other's reading, as one of the first one's parser
  other-read : Reads (means f.parser) false (bytes_at 0 (input ++ [])) ys
      (bytes_at g.place (g.ahead ++ []))
  other-read = subst (λ r. Reads (means r) false (bytes_at 0 (input ++ [])) ys (bytes_at g.place (g.ahead ++ []))) (sym e) (k.reads [] false (may-follow_none g.ended))

  -- the values of one reader are a front of the other's
  pub fronts-readers : AreFronts same xs ys
  fronts-readers = fronts-read same (means f.parser) d false _ xs ys _ _ (h.reads [] false (may-follow_none f.ended)) other-read

  -- where both are through, they are the same
  pub alike-readers : IsThrough f → IsThrough g → AreAlike same xs ys
  alike-readers t u = alike-read same (means f.parser) d false _ xs ys _ _ (h.reads [] false (may-follow_none f.ended)) other-read
      (ap (λ bytes. units (bytes ++ [])) t.1) (ap (λ bytes. units (bytes ++ [])) u.1)
