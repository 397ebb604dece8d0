-- The next token, from what a reader of records answers.
use Rattle.std.proofs.Common.{◌≡◌, ℕ, Bool, true, false, not, length, ap, sym, ◌∙◌, subst, refl, arith, length-drop, inl}
use Rattle.std.specs.Prelude.{Result, Ok, Err}
use Rattle.winnow_stream.specs.Source.{units}
use Rattle.winnow_parser.specs.Outcome.{Gives}
use Rattle.winnow_reader.specs.Place.{bytes_at}
use Rattle.winnow_reader.specs.State.{ReaderState}
use Rattle.winnow_reader.specs.Answering.{ReadsNext, FailsAt-by, IsDoneAtEnd}
use Rattle.winnow_scan.specs.Waiting.{WaitsByScan}
use Rattle.winnow_reader.specs.declared.next.Next.{Next}
use Rattle.winnow_reader.specs.declared.next.Next.TheVariants as next
use Rattle.winnow_reader.specs.declared.next.ReadError.{ReadError}
use Rattle.winnow_reader.specs.declared.next.ReadError.TheVariants.{Failed, TakesNothing}
use Rattle.format_lemmas.specs.Bytes.{bytes_of}
use Rattle.format_lemmas.proofs.lemmas.ByteLemmas.{bytes-units}
use Rattle.format_json.specs.Tokens.{TokenAhead}
use Rattle.format_json.specs.TokenAnswers.{OneToken}
use Rattle.format_json.specs.Reading.{FindsDamage}
use Rattle.format_json.specs.Scan.{IsScanned}
use Rattle.format_json_events.specs.Blanks.{TakesAlso}
use Rattle.format_json_events.specs.Reading.{Brings, BringsEnd}
use Rattle.format_json.specs.declared.tokens.Token.{Token}
use Rattle.format_json.specs.declared.tokens.Token.TheVariants as token
use Rattle.format_json.specs.declared.reading.JsonToken.{JsonToken}
use Rattle.format_json.proofs.lemmas.TokenReadingLemmas.{fails-damaged}
use Rattle.format_json_events.proofs.lemmas.DroppedLemmas.{taken-token}
use Rattle.format_json_events.proofs.lemmas.TakingLemmas.{idles-at-end}

-- nothing follows the end
pub end-brings : (old new : ReaderState JsonToken) → Brings old token.End new → BringsEnd old new
end-brings old new b = ((b.ended ∙ not-false old.ended b.stands.0, b.stands.2), inl b)
  where
    not-false : (ended : Bool) → not ended ≡ false → ended ≡ true
    not-false true e = refl
    not-false false e = absurd (cc)

-- what a reader of tokens returns, and what it is then
abbrev ReadsToken : {E : Type 0} → ReaderState JsonToken → Result (Next Token) (ReadError E)
    → ReaderState JsonToken → Type 0
ReadsToken old result new =
    ReadsNext (λ p. OneToken) (WaitsByScan (λ p. OneToken) (λ p. IsScanned)) old result new

module _ {E : Type 0} (old new : ReaderState JsonToken) where
  -- a token that was read stood ahead
  pub value-brings : (t : Token) (result : Result (Next Token) (ReadError E))
      → result ≡ Ok (next.Value t) → ReadsToken old result new → Brings old t new
  value-brings t result e value =
      let h = subst (λ r. ReadsToken old r new) e value in
      let gives = subst (λ (f : ReaderState JsonToken). OneToken (not old.ended) (bytes_at old.place old.ahead) (Gives t (bytes_at f.place f.ahead))) h.1.3 h.1.2 in
      record {
        read = subst (TakesAlso old t) (sym h.1.3) (taken-token old t h.0 h.1.0 h.1.1 gives);
        stands = subst (λ l. TokenAhead (not old.ended) t l new.ahead) (bytes-units old.ahead)
            (subst (TokenAhead (not old.ended) t (bytes_of (units old.ahead))) (bytes-units new.ahead) h.1.2.1);
        fewer = omega (arith, h.1.0, h.1.1, ap (λ f. length f.ahead) h.1.3, length-drop h.0 old.ahead);
        ended = ap (λ f. f.ended) h.1.3;
      }

  -- where the record failed, the token is damaged, and nothing changed
  pub failed-there : (x : E) (place : ℕ) (cut : Bool) (result : Result (Next Token) (ReadError E))
      → result ≡ Err (Failed x place cut) → ReadsToken old result new
      → (new ≡ old) × FindsDamage old place
  failed-there x place cut result e reads =
      let fails = subst (λ r. ReadsToken old r new) e reads in
      (fails.1, fails-damaged old place (FailsAt-by (λ (p : JsonToken). OneToken) old cut place fails.0))

-- no token takes nothing: a reader with nothing left is done
pub never-idle : {E : Type 0} (f new : ReaderState JsonToken) (place : ℕ)
    (result : Result (Next Token) (ReadError E)) → result ≡ Err (TakesNothing place)
    → ReadsToken f result new → IsDoneAtEnd f result → ⊥
never-idle f new place result e reads done =
    let idles = (subst (λ r. ReadsToken f r new) e reads).0 in
    let both = idles-at-end f.ended f.ahead place idles.1.0 idles.1.1 in
    absurd (cc (sym (done.1 both) ∙ e))
