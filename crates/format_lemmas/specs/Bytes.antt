-- The bytes that stand at the front.
use Rattle.std.specs.Prelude.{◌≡◌, ◌≢◌, ℕ, Bool, true, List, [], ◌∷◌, map, ⊤}
use Rattle.winnow_stream.specs.Source.{Source}

-- the bytes of a source
abbrev pub bytes_of : Source ℕ → List ℕ
bytes_of r = map (λ x. x.0) r

-- the test holds of each byte
abbrev pub Each : (ℕ → Bool) → List ℕ → Type 0
Each test [] = ⊤
Each test (byte ∷ bytes) = (test byte ≡ true) × Each test bytes

-- the bytes begin with this byte
abbrev pub StartsWith : ℕ → List ℕ → Type 0
StartsWith n [] = ⊥
StartsWith n (byte ∷ bytes) = byte ≡ n

-- the bytes begin with one of which the test holds
abbrev pub Starts : (ℕ → Bool) → List ℕ → Type 0
Starts test [] = ⊥
Starts test (byte ∷ bytes) = test byte ≡ true

-- a run of bytes of which the test holds ends before the rest: the rest begins with no such byte,
-- and where more may follow it does begin
abbrev pub EndsRun : (ℕ → Bool) → Bool → List ℕ → Type 0
EndsRun test partial rest = ¬ (Starts test rest) × (partial ≡ true → rest ≢ [])
