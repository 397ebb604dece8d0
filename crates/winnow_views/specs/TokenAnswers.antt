-- The locations and the comparison of a slice of tokens, by those of its tokens.
use Rattle.std.specs.Prelude.{ℕ, ◌-◌, Bool, if◌then◌else◌, [], ◌∷◌, length, slice_get, Option, Some, None, refl}
use Rattle.std.specs.Borrow.{Bor}
use Rattle.winnow_stream.specs.Source.{first_token}
use Rattle.winnow_match.specs.Staying.{ComparisonsStay}
use Rattle.winnow_match.specs.declared.compare.CompareResult.{CompareResult}
use Rattle.winnow_match.specs.declared.compare.CompareResult.TheVariants as compared
use Rattle.winnow_views.specs.TokenPlaces.{rest_of, taken_of}
use Rattle.winnow_views.specs.declared.token_slice.TokenSlice.{TokenSlice}

-- the token that was taken last, and the token that comes next
abbrev pub last_of : {T : Type 0} → TokenSlice T → Option T
last_of s = slice_get (taken_of s) (length (taken_of s) - 1)

abbrev pub next_of : {T : Type 0} → TokenSlice T → Option T
next_of s = slice_get (rest_of s) 0

module _ {T : Type 0} (ends starts : T → ℕ) where
  -- the end of the last token, or the start of the next one if there is no last, or 0
  abbrev pub end_before : Option T → Option T → ℕ
  end_before (Some last) next = ends last
  end_before None (Some next) = starts next
  end_before None None = 0

  -- the start of the next token, or the end of the last one if there is no next, or 0
  abbrev pub start_behind : Option T → Option T → ℕ
  start_behind last (Some next) = starts next
  start_behind (Some last) None = ends last
  start_behind None None = 0

-- a literal is compared with the first token, and is all of it
abbrev pub first_comparison : {T : Type 0} → (T → T → Bool) → T → Option (Bor T) → CompareResult
first_comparison equal literal (Some token) = if equal token.now literal then compared.Ok 1 else compared.Error
first_comparison equal literal None = compared.Incomplete

-- a comparison that is decided stays when more tokens come
pub ComparisonsStay-first : {T : Type 0} (equal : T → T → Bool) (literal : T)
    → ComparisonsStay (λ r. first_comparison equal literal (first_token r))
ComparisonsStay-first equal literal [] more n = absurd (n refl)
ComparisonsStay-first equal literal (x ∷ xs) more n = refl
