-- From the token that is found in bytes to the stream that they were taken of.
use Rattle.std.proofs.Common.{◌≡◌, ℕ, ◌+◌, ◌≤◌, Bool, true, List, length, drop, ap, sym, ◌∙◌, subst}
use Rattle.std.specs.Prelude.{Result, Ok, IfOk}
use Rattle.std.specs.declared.alloc.AllocError.{AllocError}
use Rattle.std.proofs.lemmas.List.{drop-drop}
use Rattle.winnow_stream.specs.Source.{Source, units}
use Rattle.winnow_stream.specs.Front.{back}
use Rattle.format_lemmas.specs.Bytes.{bytes_of}
use Rattle.format_json.specs.Language.{after_blanks}
use Rattle.format_json.specs.Tokens.{TokenAhead}
use Rattle.format_json.specs.TokenAnswers.{IsWrongAt, MayBecome, IsTokenFound}
use Rattle.format_json.specs.declared.found.Found.{Found}
use Rattle.format_json.specs.declared.found.Found.TheVariants.{Whole, Begun, Damaged}
use Rattle.format_json.specs.declared.tokens.Token.{Token}
use Rattle.format_json.proofs.lemmas.FoundLemmas.{fits-both}
use Rattle.format_json_scalars.proofs.lemmas.StringStreamLemmas.{text-is, rest-is}

-- what is found, as the same
pub token-as : (partial : Bool) (t here : List ℕ) (result : Result (Found Token) AllocError)
    (x y : Found Token) → IfOk result (IsTokenFound partial t here) → result ≡ Ok x → x ≡ y
    → IsTokenFound partial t here y
token-as partial t here result x y is e same =
    subst (IsTokenFound partial t here) same (subst (λ q. IfOk q (IsTokenFound partial t here)) e is)

-- damage after blanks
pub damage-after : (partial : Bool) (bytes rest : List ℕ) (at n : ℕ) → at ≤ length bytes
    → drop at bytes ≡ after_blanks bytes → rest ≡ drop at bytes
    → IsTokenFound partial rest rest (Damaged n)
    → IsTokenFound partial bytes (after_blanks bytes) (Damaged (at + n))
damage-after partial bytes rest at n within blanks same (fits, wrong) = (
  fits-both bytes at n within (subst (λ l. n ≤ length l) same fits),
  subst (λ l. IsWrongAt partial l (drop (at + n) bytes)) (same ∙ blanks)
      (subst (IsWrongAt partial rest) (ap (drop n) same ∙ drop-drop n at bytes) wrong),
)

module _ (partial : Bool) (r : Source ℕ) (t : List ℕ) (same : r ≡ units t) where
  -- the input starts with a token that is found
  pub token-answers : (token : Token) (n : ℕ) (new : Source ℕ)
      → IsTokenFound partial t (after_blanks t) (Whole token n) → new ≡ back r n
      → TokenAhead partial token (bytes_of r) (bytes_of new)
  token-answers token n new is e =
      subst (λ l. TokenAhead partial token l (bytes_of new)) (sym (text-is r t same))
      (subst (TokenAhead partial token t) (sym (rest-is r t same n new is.0 e)) is.1)

  -- one that is damaged is damaged there
  pub damage-answers : (n : ℕ) (new : Source ℕ)
      → IsTokenFound partial t (after_blanks t) (Damaged n) → new ≡ back r n
      → IsWrongAt partial (after_blanks (bytes_of r)) (bytes_of new)
  damage-answers n new is e =
      subst (λ l. IsWrongAt partial (after_blanks l) (bytes_of new)) (sym (text-is r t same))
      (subst (IsWrongAt partial (after_blanks t)) (sym (rest-is r t same n new is.0 e)) is.1)

  -- and one that is begun needs more
  pub begun-answers : IsTokenFound partial t (after_blanks t) Begun
      → (partial ≡ true) × MayBecome (after_blanks (bytes_of r))
  begun-answers (may, needs) =
      (may, subst (λ l. MayBecome (after_blanks l)) (sym (text-is r t same)) needs)
