-- Sequences of lines, and one more line.
use Rattle.std.proofs.Common.{◌≡◌, ℕ, List, [], ◌∷◌, ◌++◌, length, ap, arith, refl}
use Rattle.winnow_script_lines.specs.Newline.{first_line, rest_lines}
use Rattle.winnow_script_lines.specs.Lines.{AreLines}

-- one more line means one more item
pub AreLines-push : {T : Type 0} (Denotes : List ℕ → T
    → Type 0) (text : List ℕ) (items : List T) (rest : List ℕ) (item : T)
    → AreLines Denotes text items rest → Denotes (first_line rest) item → AreLines Denotes text (items ++ item ∷ []) (rest_lines rest)
AreLines-push Denotes text [] rest item e told = (rw e told, ap rest_lines e)
AreLines-push Denotes text (x ∷ items) rest item lines told =
    (lines.0, AreLines-push Denotes (rest_lines text) items rest item lines.1 told)

-- a list of length 0 is empty
pub empty_of_length : {T : Type 0} (items : List T) → length items ≡ 0 → items ≡ []
empty_of_length [] e = refl
empty_of_length (x ∷ xs) e = absurd (omega (arith, e))
