-- The bytes ahead in two parts: those that a scan has seen, and those that it has not.
use Rattle.std.proofs.Common.{◌≡◌, ℕ, ◌-◌, List, ◌++◌, length, take, drop, ap, sym, ◌∙◌, subst, arith, length-drop}
use Rattle.std.proofs.lemmas.List.{take-append-drop, take_all}
use Rattle.winnow_parser.specs.Outcome.{Meaning}
use Rattle.winnow_reader.specs.State.{ReaderState}
use Rattle.winnow_scan.specs.Scanning.{AwaitsMore}
use Rattle.winnow_scan.specs.Waiting.{ScansOn}

-- all bytes from an index on, as a slice
slice-from : (xs : List ℕ) (n : ℕ) → take (length xs - n) (drop n xs) ≡ drop n xs
slice-from xs n = take_all (length xs - n) (drop n xs) (omega (arith, length-drop n xs))

-- the two parts, one after the other
both-parts : (xs ahead : List ℕ) (n : ℕ) → ahead ≡ xs
    → take n xs ++ take (length ahead - n) (drop n ahead) ≡ xs
both-parts xs ahead n e =
    ap (λ ys. take n xs ++ ys) (slice-from ahead n ∙ ap (drop n) e) ∙ take-append-drop n xs

module _ {R O S : Type 0} (means : R → Meaning O ℕ) (scanned : R → List ℕ → S → Type 0) where
  -- a scan that went over both parts went over all of them
  pub seen-both : (p q : R) (xs ahead : List ℕ) (n : ℕ) (state : S) → p ≡ q → ahead ≡ xs
      → scanned p (take n xs ++ take (length ahead - n) (drop n ahead)) state
      × AwaitsMore (means p) (take n xs ++ take (length ahead - n) (drop n ahead))
      → scanned q xs state × AwaitsMore (means q) xs
  seen-both p q xs ahead n state e d h =
      subst (λ r. scanned r xs state × AwaitsMore (means r) xs) e
      (subst (λ ys. scanned p ys state × AwaitsMore (means p) ys) (both-parts xs ahead n d) h)

  -- all of them are the first part now
  pub seen-all : (r : R) (xs ahead : List ℕ) (state : S) → ahead ≡ xs → scanned r xs state
      → scanned r (take (length ahead) xs) state
  seen-all r xs ahead state e h =
      subst (λ ys. scanned r ys state) (sym (take_all (length ahead) xs (omega (arith, ap length e)))) h

  -- a scan goes on for each reader that shows the same
  pub scans-same : (f g : ReaderState R) → f ≡ g → ScansOn means scanned f → ScansOn means scanned g
  scans-same f g e h = subst (λ s. ScansOn means scanned s) e h
