-- While the scan of a record goes on, and no more bytes are ahead than it may have, so does the
-- scan with the limit.
use Rattle.std.specs.Prelude.{Bool, true, false}
use Rattle.std.proofs.Common.{◌≡◌, ℕ, ◌+◌, ◌-◌, ◌≤◌, List, ◌++◌, length, refl, ap, sym, subst, inl, inr, arith, length-append}
use Rattle.std.proofs.lemmas.List.{take_all}
use Rattle.winnow_stream.proofs.lemmas.UnitLemmas.{length-units}
use Rattle.winnow_parser.specs.Outcome.{Ahead, Outcome, Gives, Fails, Backtracks, Cuts, Needs, Refuses, Meaning}
use Rattle.winnow_reader.specs.Place.{bytes_at}
use Rattle.winnow_scan.specs.Scanning.{IsOpen, Awaits, AwaitsMore, GoesOn}
use Rattle.winnow_reader_limit.specs.Scanned.{ScansWithin}
use Rattle.winnow_reader.specs.First.{first_ahead}
use Rattle.winnow_reader_limit.specs.Within.{AnswersFirst, Within}

module _ {O : Type 0} (greatest : ℕ) (means : Meaning O ℕ) (a : Ahead ℕ) (within : length a.tokens ≤ greatest) where
  -- all tokens ahead are the first ones
  first-all : first_ahead greatest a ≡ a
  first-all = ap (λ r. record { location = a.location; tokens = r }) (take_all greatest a.tokens within)

  -- so an answer of the first ones is one of all
  all-answers : (v : Outcome O ℕ) → AnswersFirst greatest means true a v → means true a v
  all-answers v h = subst (λ b. means true b v) first-all h

  -- a parser without an answer has none with the limit
  open-within : IsOpen means a → IsOpen (Within greatest means) a
  open-within none (Gives x b) s h = none (Gives x h.0) tt (all-answers (Gives x h.0) h.1.0)
  open-within none (Fails (Backtracks b)) s h =
      none (Fails (Backtracks h.0)) tt (all-answers (Fails (Backtracks h.0)) h.1.0)
  open-within none (Fails (Cuts b)) s (inl h) =
      none (Fails (Cuts h.0)) tt (all-answers (Fails (Cuts h.0)) h.1.0)
  open-within none (Fails (Cuts b)) s (inr h) = omega (arith, h.0.0, within)
  open-within none (Fails (Needs n)) s h = absurd s
  open-within none (Fails Refuses) s h = absurd s

  -- a parser that awaits more awaits more with the limit
  pub awaits-within : Awaits means a → Awaits (Within greatest means) a
  awaits-within (inl h) =
      inl (_, (within, (h.0, (subst (λ b. means true b (Fails (Needs h.0))) (sym first-all) h.1, refl))))
  awaits-within (inr none) = inr (open-within none)

module _ {O S : Type 0} (greatest : ℕ) (means : Meaning O ℕ) (scanned : List ℕ → S → Type 0) where
  -- of bytes within the limit a parser awaits more with the limit, at each place
  awaits-bytes : (bytes : List ℕ) → length bytes ≤ greatest → AwaitsMore means bytes
      → AwaitsMore (Within greatest means) bytes
  awaits-bytes bytes within awaits place =
      awaits-within greatest means (bytes_at place bytes) (omega (arith, within, length-units bytes)) (awaits place)

  -- a scan that goes on goes on with the limit
  pub goes_on-within : (front more : List ℕ) (found : Bool) (state : S) (seen : ℕ)
      → seen ≡ length front → length more ≤ greatest - seen → length front ≤ greatest
      → GoesOn means scanned (front ++ more) found state
      → GoesOn (Within greatest means) (ScansWithin greatest scanned) (front ++ more) found
      (record { inner = state; seen = seen + length more })
  goes_on-within front more true state seen is room within h = tt
  goes_on-within front more false state seen is room within h =
      let len = length-append front more in
      let fits : length (front ++ more) ≤ greatest = omega (arith, len, is, room, within) in
      ((h.0, omega (arith, len, is), fits), awaits-bytes (front ++ more) fits h.1)
