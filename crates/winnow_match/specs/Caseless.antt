-- The answer of a comparison that takes no account of the case of ASCII letters.
use Rattle.std.specs.Prelude.{◌≡◌, ℕ, List, [], ◌∷◌, ◌++◌}
use Rattle.std.specs.Char.{to_ascii_lowercase}
use Rattle.std.specs.Str.{str_to_ascii_lowercase}
use Rattle.std.proofs.Common.{refl, ap, ◌∙◌}
use Rattle.winnow_match.specs.declared.compare.CompareResult.{CompareResult}
use Rattle.winnow_match.specs.Bytes.{written}
use Rattle.winnow_match.specs.Comparison.{comparison}
use Rattle.winnow_match.specs.Staying.{ComparisonsStay, comparison-stays, written-append}

-- that of the literal and the bytes, each with its capital ASCII letters made small
abbrev pub caseless : List ℕ → List ℕ → CompareResult
caseless literal bytes = comparison (str_to_ascii_lowercase literal) (str_to_ascii_lowercase bytes)

-- ---- The law

-- the small letters of two lists in a row are those of the first and then those of the second
small-append : (xs ys : List ℕ)
    → str_to_ascii_lowercase (xs ++ ys) ≡ str_to_ascii_lowercase xs ++ str_to_ascii_lowercase ys
small-append [] ys = refl
small-append (x ∷ xs) ys = ap (λ l. to_ascii_lowercase x ∷ l) (small-append xs ys)

-- a decided comparison of the bytes of tokens stays when more tokens follow
pub ComparisonsStay-caseless : {T : Type 0} (write : T → List ℕ) (literal : List ℕ)
    → ComparisonsStay (λ r. caseless literal (written write r))
ComparisonsStay-caseless write literal r more n =
    let small = str_to_ascii_lowercase in
    ap (λ bytes. comparison (small literal) (small bytes)) (written-append write r more)
    ∙ ap (comparison (small literal)) (small-append (written write r) (written write more))
    ∙ comparison-stays (small literal) (small (written write r)) (small (written write more)) n
