-- A comparison, by cases of what the code found.
use Rattle.std.proofs.Common.{◌≡◌, ◌↔◌, ℕ, ◌≤◌, ◌<◌, Bool, true, false, cond, List, ◌++◌, length, refl, ap, sym, ◌∙◌, inl, inr}
use Rattle.std.proofs.lemmas.Bool.{cases_lt, false_from_ne_true, false≢true}
use Rattle.winnow_match.specs.declared.compare.CompareResult.TheVariants as compared
use Rattle.winnow_match.specs.Comparison.{is_prefix, IsPrefixOf, comparison}
use Rattle.winnow_match.specs.Staying.{comparison-stays}
use Rattle.winnow_match.proofs.lemmas.ByteFrontLemmas.{is_prefix-long, is_prefix-whole, no_front, IsPrefixOf-is_prefix, is_prefix-IsPrefixOf}

module _ (literal bytes : List ℕ) where
  -- the answer of the code is `comparison`, if the literal stands and if it may still come
  pub comparison-ok : is_prefix literal bytes ≡ true
      → compared.Ok (length literal) ≡ comparison literal bytes
  comparison-ok h = rw h refl

  pub comparison-incomplete : length bytes < length literal → is_prefix bytes literal ≡ true
      → compared.Incomplete ≡ comparison literal bytes
  comparison-incomplete l h = let n = is_prefix-long literal bytes l in rw (n, h) refl

  -- the answer is `Error` if neither list is a front of the other
  pub comparison-error : is_prefix literal bytes ≡ false → is_prefix bytes literal ≡ false
      → compared.Error ≡ comparison literal bytes
  comparison-error h g = rw (h, g) refl

  -- the answer is `Error` if enough bytes remain and the literal is no front of them
  pub comparison-differs : length literal ≤ length bytes → is_prefix literal bytes ≡ false
      → compared.Error ≡ comparison literal bytes
  comparison-differs l h =
      comparison-error h (false_from_ne_true (is_prefix bytes literal) (λ g. false≢true (sym h ∙ is_prefix-whole bytes literal g l)))

pub ruleset comparisons = (comparison-ok, comparison-incomplete, comparison-differs, comparison-error)

-- ---- the meaning of each answer

-- each answer of a comparison says how its two tests came out
ok-parts : (a b : Bool) (m n : ℕ)
    → cond a (compared.Ok m) (cond b compared.Incomplete compared.Error) ≡ compared.Ok n
    → (a ≡ true) × (n ≡ m)
ok-parts true b m n h = (refl, cc)
ok-parts false true m n h = absurd (cc)
ok-parts false false m n h = absurd (cc)

incomplete-parts : (a b : Bool) (m : ℕ)
    → cond a (compared.Ok m) (cond b compared.Incomplete compared.Error) ≡ compared.Incomplete
    → (a ≡ false) × (b ≡ true)
incomplete-parts true b m h = absurd (cc)
incomplete-parts false true m h = (refl, refl)
incomplete-parts false false m h = absurd (cc)

error-parts : (a b : Bool) (m : ℕ)
    → cond a (compared.Ok m) (cond b compared.Incomplete compared.Error) ≡ compared.Error
    → (a ≡ false) × (b ≡ false)
error-parts true b m h = absurd (cc)
error-parts false true m h = absurd (cc)
error-parts false false m h = (refl, refl)

module _ (literal bytes : List ℕ) where
  -- the tests of an `Ok` and of an `Error`
  pub front-from_ok : (n : ℕ) → comparison literal bytes ≡ compared.Ok n
      → (is_prefix literal bytes ≡ true) × (n ≡ length literal)
  front-from_ok n h = ok-parts (is_prefix literal bytes) (is_prefix bytes literal) (length literal) n h

  pub fronts-from_error : comparison literal bytes ≡ compared.Error
      → (is_prefix literal bytes ≡ false) × (is_prefix bytes literal ≡ false)
  fronts-from_error h = error-parts (is_prefix literal bytes) (is_prefix bytes literal) (length literal) h

  -- `Ok` as a fact, in both directions
  pub ok-says : (n : ℕ)
      → comparison literal bytes ≡ compared.Ok n ↔ (IsPrefixOf literal bytes × (n ≡ length literal))
  ok-says n = (
    λ h. let parts = front-from_ok n h in (IsPrefixOf-is_prefix literal bytes parts.0, parts.1),
    λ f. sym (comparison-ok literal bytes (is_prefix-IsPrefixOf literal bytes f.0)) ∙ ap compared.Ok (sym f.1),
  )

  -- bytes that are a front of the literal, while it is none of them, are shorter
  pub shorter-front : is_prefix literal bytes ≡ false → is_prefix bytes literal ≡ true
      → length bytes < length literal
  shorter-front h g =
      elim (cases_lt (length bytes) (length literal)) [
        | inl l ↦ l
        | inr l ↦ absurd (false≢true (sym h ∙ is_prefix-whole bytes literal g l))
      ]

  -- `Incomplete` and `Error` as facts, in both directions
  pub incomplete-says : comparison literal bytes
      ≡ compared.Incomplete ↔ (IsPrefixOf bytes literal × (length bytes < length literal))
  incomplete-says = (
    λ h.
        let parts = incomplete-parts (is_prefix literal bytes) (is_prefix bytes literal) (length literal) h in
        (IsPrefixOf-is_prefix bytes literal parts.1, shorter-front parts.0 parts.1),
    λ f. sym (comparison-incomplete literal bytes f.1 (is_prefix-IsPrefixOf bytes literal f.0)),
  )

  pub error-says : comparison literal bytes
      ≡ compared.Error ↔ ((¬ IsPrefixOf literal bytes) × (¬ IsPrefixOf bytes literal))
  error-says = (
    λ h.
        let parts = fronts-from_error h in
        (λ f. false≢true (sym parts.0 ∙ is_prefix-IsPrefixOf literal bytes f), λ f. false≢true (sym parts.1 ∙ is_prefix-IsPrefixOf bytes literal f)),
    λ f. sym (comparison-error literal bytes (no_front literal bytes f.0) (no_front bytes literal f.1)),
  )

  -- ---- more input

  -- `Ok` and `Error` stay when more bytes follow
  pub ok-more : (more : List ℕ) (n : ℕ) → comparison literal bytes ≡ compared.Ok n
      → comparison literal (bytes ++ more) ≡ compared.Ok n
  ok-more more n h = comparison-stays literal bytes more (λ e. let f = sym h ∙ e in cc) ∙ h

  pub error-more : (more : List ℕ) → comparison literal bytes ≡ compared.Error
      → comparison literal (bytes ++ more) ≡ compared.Error
  error-more more h = comparison-stays literal bytes more (λ e. let f = sym h ∙ e in cc) ∙ h
