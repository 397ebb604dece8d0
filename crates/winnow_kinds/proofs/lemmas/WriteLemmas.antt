-- Writes under any options, and writes of one item after the other.
use Rattle.std.proofs.Common.{◌≡◌, ◌+◌, ◌<◌, ◌≤◌, ℕ, false, nat_lt, IsTrue, List, [], ◌++◌, length, get_or, take, sym, ap, subst, ◌∙◌, arith, ⊎_elim, true≢false}
use Rattle.std.proofs.lemmas.Bool.{cases_lt}
use Rattle.std.proofs.lemmas.Bool.Decides.{nat_tests}
use Rattle.std.proofs.lemmas.List.{take_more, flat_map_more}
use Rattle.std.proofs.lemmas.List.Folds.{list_all_at}
use Rattle.std.specs.Fmt.{IsDefaultSpec, WritesOnOk, WritesStyledOnOk}
use Rattle.std.specs.List.{flat_map}
use Rattle.std.specs.Prelude.{Result}
use Rattle.std.specs.declared.fmt.Error.{Error}
use Rattle.std.specs.declared.fmt.Formatter.{Formatter}
use Rattle.winnow_kinds.specs.Escapes.{is_ascii}

module _ {W : Type 0} (took : W → List ℕ → W → Type 0) where
  -- what is written under any options is written without options
  pub WritesOnOk-from_styled : (f g : Formatter W) (r : Result (Unit {0}) Error) (text : List ℕ)
      → WritesStyledOnOk took f r text g → WritesOnOk took f r text g
  WritesOnOk-from_styled f g r text writes plain ok =
      let wrote = writes plain.flush ok in
      record { wrote = wrote.wrote; plain = record { bare = subst IsDefaultSpec (sym wrote.spec) plain.bare; flush = wrote.flush } }

-- the text of one more item is appended
pub flat_map-more : (text : ℕ → List ℕ) (xs : List ℕ) (i : ℕ) → i < length xs
    → flat_map text (take i xs) ++ text (get_or xs i 0) ≡ flat_map text (take (i + 1) xs)
flat_map-more text xs i within =
    flat_map_more text [] (take i xs) (get_or xs i 0) ∙ sym (ap (flat_map text) (take_more xs i 0 within))

-- each of some ASCII bytes is below 128
pub is_ascii-byte : (bytes : List ℕ) (i : ℕ) → i < length bytes → IsTrue (is_ascii bytes)
    → get_or bytes i 0 < 128
is_ascii-byte bytes i within ascii =
    let byte = get_or bytes i 0 in
    ⊎_elim
    (λ (small : byte < 128). small)
    (λ (past : 128 ≤ byte).
    let no : nat_lt byte 128 ≡ false = grind (arith, nat_tests) in
    absurd (true≢false (sym ascii ∙ list_all_at (λ b. nat_lt b 128) bytes i 0 within no)))
    (cases_lt byte 128)
