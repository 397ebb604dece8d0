-- What a program that is passed an input piece by piece has made of it.
use Rattle.std.specs.Prelude.{ℕ, List, ◌++◌, Option, IfSome}
use Rattle.std.specs.Io.KnownBytes.{Consumes}

-- whatever it followed before, it follows now, with the bytes that the input lost
abbrev pub FollowsOn : {D : Type 0} → (D → List ℕ → Option (List ℕ) → Option (List ℕ) → D → Type 0)
    → D → Option (List ℕ) → Option (List ℕ) → D → Option (List ℕ) → Option (List ℕ) → Type 0
FollowsOn {D} follows old source output new left now = (start : D) (bytes : List ℕ) (had : Option (List ℕ))
    → follows start bytes had output old
    → IfSome source (λ whole. (fed : List ℕ) × (Consumes source left fed × follows start (bytes ++ fed) had now new))
