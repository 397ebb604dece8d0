-- Blanks, and lines of them.
use Rattle.std.proofs.Common.{◌≡◌, ℕ, zero, suc, ◌≤◌, Bool, true, false, cond, List, [], ◌∷◌, ◌++◌, length, take, drop, refl, ap, sym, ◌∙◌, arith, length-drop}
use Rattle.format_json.specs.Language.{is_blank, after_blanks}
use Rattle.wb_json.specs.Texts.{IsBlank}

-- the step of `blanks-before`
blanks-step : (t : Bool) (x : ℕ) (xs : List ℕ) (n : ℕ) → is_blank x ≡ t
    → (drop n xs ≡ after_blanks xs → IsBlank (take n xs))
    → drop n xs ≡ after_blanks (x ∷ xs) → IsBlank (x ∷ take n xs)
blanks-step true x xs n e more is =
    let whole : after_blanks (x ∷ xs) ≡ after_blanks xs = ap (λ t. cond t (after_blanks xs) (x ∷ xs)) e in
    ap (λ t. cond t (after_blanks (take n xs)) (x ∷ take n xs)) e ∙ more (is ∙ whole)
blanks-step false x xs n e more is =
    let whole : after_blanks (x ∷ xs) ≡ x ∷ xs = ap (λ t. cond t (after_blanks xs) (x ∷ xs)) e in
    absurd (omega (arith, ap length (is ∙ whole), length-drop n xs))

-- the bytes before the first that is no blank are blanks
pub blanks-before : (xs : List ℕ) (n : ℕ) → n ≤ length xs → drop n xs ≡ after_blanks xs
    → IsBlank (take n xs)
blanks-before xs zero fits is = refl
blanks-before [] (suc n) fits is = refl
blanks-before (x ∷ xs) (suc n) fits is =
    blanks-step (is_blank x) x xs n refl (λ e. blanks-before xs n (omega (arith, fits)) e) is

-- the step of `blanks-append`
append-step : (t : Bool) (x : ℕ) (xs ys : List ℕ) → is_blank x ≡ t
    → (IsBlank xs → IsBlank (xs ++ ys)) → IsBlank (x ∷ xs) → IsBlank (x ∷ (xs ++ ys))
append-step true x xs ys e more is =
    let whole : after_blanks (x ∷ xs) ≡ after_blanks xs = ap (λ t. cond t (after_blanks xs) (x ∷ xs)) e in
    ap (λ t. cond t (after_blanks (xs ++ ys)) (x ∷ (xs ++ ys))) e ∙ more (sym whole ∙ is)
append-step false x xs ys e more is =
    let whole : after_blanks (x ∷ xs) ≡ x ∷ xs = ap (λ t. cond t (after_blanks xs) (x ∷ xs)) e in
    absurd (omega (arith, ap length (sym whole ∙ is)))

-- blanks after blanks are blanks
pub blanks-append : (xs ys : List ℕ) → IsBlank xs → IsBlank ys → IsBlank (xs ++ ys)
blanks-append [] ys h k = k
blanks-append (x ∷ xs) ys h k =
    append-step (is_blank x) x xs ys refl (λ g. blanks-append xs ys g k) h
