-- Words in a row, each at its span, with gaps between them.
use Rattle.std.specs.Prelude.{◌≡◌, ℕ, ◌+◌, ◌<◌, ◌≤◌, false, List, [], ◌∷◌, ◌++◌, length, slice_range}
use Rattle.std.specs.declared.ops.Range.{Range}
use Rattle.winnow_stream.specs.Source.{Source, units, width, HasPositiveWidths}
use Rattle.winnow_parser.specs.Outcome.{Ahead, Backtracks, Cuts, Gives, Fails, Meaning, Moves}

-- the input is a gap, the text of a word, and the rest; the span is where the text stands
pub record IsNextWord {T : Type 0} (gap : Source T → Type 0) (word : Source T → Source T → Type 0) (ahead : Source T) (place : ℕ) (span : Range ℕ) (rest : Source T) : Type 0 where
  pub before : Source T
  pub text : Source T
  pub whole : ahead ≡ before ++ text ++ rest
  pub is_gap : gap before
  pub is_word : word text rest
  pub starts : span.start ≡ place + width before
  pub ends : span.end ≡ span.start + width text

-- the words of the input from a place on; only a gap follows the last
abbrev pub AreWords : {O T : Type 0} → (Source T → Type 0) → (O → Source T → Source T → Type 0)
    → (O → Range ℕ) → Source T → ℕ → List O → Type 0
AreWords gap word span ahead place [] = gap ahead
AreWords {T = T} gap word span ahead place (x ∷ xs) =
    (rest : Source T)
    × (IsNextWord gap (word x) ahead place (span x) rest
    × AreWords gap word span rest (span x).end xs)

-- a parser of gaps that neither backtracks nor cuts, and leaves the stream clear; and a parser of
-- words that never cuts, takes at least one token, and backtracks only at the end
pub record IsLexer {S K T : Type 0} (skip : Meaning S T) (read : Meaning K T) (gap clear : Source T → Type 0) (word : K → Source T → Source T → Type 0) : Type 0 where
  pub skips : (s : S) (a b : Ahead T) → HasPositiveWidths a.tokens → skip false a (Gives s b)
      → (m : Moves a b) × (gap m.taken × clear b.tokens)
  pub skips_one : (s t : S) (a b c : Ahead T) → skip false a (Gives s b) → skip false a (Gives t c)
      → b ≡ c
  pub skips_on : (a b : Ahead T) → ¬ (skip false a (Fails (Backtracks b)))
  pub skips_uncut : (a b : Ahead T) → ¬ (skip false a (Fails (Cuts b)))
  pub reads : (x : K) (a b : Ahead T) → HasPositiveWidths a.tokens → clear a.tokens
      → read false a (Gives x b)
      → (m : Moves a b) × (word x m.taken b.tokens × (1 ≤ length m.taken))
  pub reads_uncut : (a b : Ahead T) → ¬ (read false a (Fails (Cuts b)))
  pub reads_all : (a b : Ahead T) → read false a (Fails (Backtracks b)) → a.tokens ≡ []

-- the part of the list at this span is the text of a word
pub record StandsAt {T : Type 0} (is_text : Source T → Type 0) (xs : List T) (span : Range ℕ) : Type 0 where
  pub starts : span.start < span.end
  pub within : span.end ≤ length xs
  pub text : is_text (units (slice_range xs span.start span.end))
