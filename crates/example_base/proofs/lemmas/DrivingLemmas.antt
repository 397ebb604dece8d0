-- What a program tells of an input that it is passed piece by piece.
use Rattle.std.proofs.Common.{◌≡◌, ℕ, List, ◌++◌, ap, sym, ◌∙◌, subst, append_assoc}
use Rattle.std.specs.Prelude.{Option, None, Some, IfSome}
use Rattle.std.specs.Io.KnownBytes.{Consumes}
use Rattle.example_base.specs.Driving.{FollowsOn}

module _ {D : Type 0} (follows : D → List ℕ → Option (List ℕ) → Option (List ℕ) → D → Type 0)
    (old : D) (output : Option (List ℕ)) (tells : D → List ℕ → Option (List ℕ) → Type 0) where
  -- what is told with a piece, whatever follows it, is told of the whole input
  pub tells-piece : (source left more now : Option (List ℕ)) (middle : D) (piece : List ℕ)
      → FollowsOn follows old source output middle left now → Consumes left more piece
      → ((start : D) (bytes rest : List ℕ) (had : Option (List ℕ))
      → follows start bytes had now middle → tells start (bytes ++ (piece ++ rest)) had)
      → (start : D) (bytes : List ℕ) (had : Option (List ℕ)) → follows start bytes had output old
      → IfSome source (λ rest. tells start (bytes ++ rest) had)
  tells-piece None left more now middle piece on took told start bytes had h = tt
  tells-piece (Some whole) None more now middle piece on took told start bytes had h =
      absurd ((on start bytes had h).1.0)
  tells-piece (Some whole) (Some xs) None now middle piece on took told start bytes had h = absurd took
  tells-piece (Some whole) (Some xs) (Some ys) now middle piece on took told start bytes had h =
      let f = on start bytes had h in
      let is : bytes ++ (f.0 ++ (piece ++ ys)) ≡ bytes ++ whole =
      ap (λ l. bytes ++ (f.0 ++ l)) (sym took) ∙ ap (λ l. bytes ++ l) (sym f.1.0) in
      subst (λ l. tells start l had) (append_assoc bytes f.0 (piece ++ ys) ∙ is) (told start (bytes ++ f.0) ys had f.1.1)
