-- The text of an input, of which the start is read before the rest has come.
use Rattle.std.proofs.Common.{◌≡◌, ℕ, Bool, true, false, List, [], ◌++◌, inl, inr, refl, ap, sym, ◌∙◌, subst}
use Rattle.std.proofs.lemmas.List.{append-nil}
use Rattle.std.specs.Prelude.{Option, None, Some, IfSome, Result, Ok, Err, OnOk, IfErr}
use Rattle.std.specs.Io.KnownBytes.{Consumes, IsAtEnd, prepend_known}
use Rattle.winnow_reader.specs.Reading.{MayFollow}
use Rattle.format_csv.specs.Marks.{HasText, IsRefused, BeginsText, RefusesText}
use Rattle.format_csv.specs.declared.marks.Mark.{Mark}
use Rattle.wb_csv.specs.Copying.{CopiesAll, CopiesUntil, TellsText, StopsBytes}
use Rattle.wb_csv.specs.declared.settings.Settings.{Settings}
use Rattle.wb_csv.specs.declared.failure.Failure.{Failure}
use Rattle.wb_csv.specs.declared.failure.Failure.TheVariants.{Marked}
use Rattle.wb_base.specs.Exchanging.{exchanged, exchanged_known}
use Rattle.wb_base.proofs.lemmas.KnownLemmas.{appends-start}

-- any bytes may follow a start, unless the input has ended
may-follow : (ended : Bool) (ys : List ℕ) → (ended ≡ true → ys ≡ []) → MayFollow ended ys false
may-follow false ys end = tt
may-follow true ys end = (end refl, refl)

-- a property of the bytes, if they are known, implies each weaker one
if-some : {P Q : List ℕ → Type 0} (known : Option (List ℕ)) → ((bytes : List ℕ) → P bytes → Q bytes)
    → IfSome known P → IfSome known Q
if-some None f h = tt
if-some (Some bytes) f h = f bytes h

-- what holds of exchanged bytes holds of the bytes by way of the exchange
pub exchanged-some : (P : List ℕ → Type 0) (one other : ℕ) (known : Option (List ℕ))
    → IfSome (exchanged_known one other known) P → IfSome known (λ bytes. P (exchanged one other bytes))
exchanged-some P one other None h = tt
exchanged-some P one other (Some bytes) h = h

-- the bytes so far were consumed of an input, of which nothing remains if it has ended
pub record HasStart (ended : Bool) (had has : Option (List ℕ)) (start : List ℕ) : Type 0 where
  pub took : Consumes had has start
  pub end : ended ≡ true → IsAtEnd has

-- bytes that are equal to the consumed ones are a start
pub start-is : (ended : Bool) (had has : Option (List ℕ)) (start bytes : List ℕ) → start ≡ bytes
    → Consumes had has bytes → (ended ≡ true → IsAtEnd has) → HasStart ended had has start
start-is ended had has start bytes is took end =
    record { took = subst (λ xs. Consumes had has xs) (sym is) took; end = end }

module _ (s : Settings) (ended : Bool) where
  -- the step of `text-known`
  known-step : (P : List ℕ → Type 0) (had has : Option (List ℕ)) (start text : List ℕ)
      → Consumes had has start → (ended ≡ true → IsAtEnd has) → BeginsText true ended start text
      → IfSome (prepend_known text has) P
      → IfSome had (λ bytes. (t : List ℕ) × (HasText true bytes t × P t))
  known-step P None has start text took end begins h = tt
  known-step P (Some xs) None start text took end begins h = absurd took
  known-step P (Some xs) (Some ys) start text took end begins h = (
    text ++ ys,
    (subst (λ b. HasText true b (text ++ ys)) (sym took) (begins ys (may-follow ended ys end)), h),
  )

  -- a property of a start's text and the rest is one of the input's text
  pub text-known : (P : List ℕ → Type 0) (had has : Option (List ℕ)) (start text : List ℕ)
      → HasStart ended had has start → BeginsText true ended start text
      → IfSome (prepend_known text has) P
      → IfSome had (λ bytes. (t : List ℕ) × (HasText true bytes t × P t))
  text-known P had has start text from begins h = known-step P had has start text from.took from.end begins h

  -- a failure of the text is one of the input
  pub text-stops : (had has held now : Option (List ℕ)) (start text : List ℕ) (failure : Failure)
      → HasStart ended had has start → BeginsText true ended start text
      → IfSome (prepend_known text has) (λ t. CopiesUntil s t failure held now)
      → IfSome had (λ bytes. StopsBytes s bytes failure held now)
  text-stops had has held now start text failure from begins h =
      if-some had (λ bytes k told. inr k) (text-known (λ t. CopiesUntil s t failure held now) had has start text from begins h)

  -- the step of `mark-stops`
  mark-step : (had has held : Option (List ℕ)) (start : List ℕ) (mark : Mark)
      → Consumes had has start → (ended ≡ true → IsAtEnd has) → RefusesText true ended start mark
      → IfSome had (λ bytes. StopsBytes s bytes (Marked mark) held held)
  mark-step None has held start mark took end refuses = tt
  mark-step (Some xs) None held start mark took end refuses = absurd took
  mark-step (Some xs) (Some ys) held start mark took end refuses = λ told. inl (
    mark,
    (
      refl,
      subst (λ b. IsRefused true b mark) (sym took) (refuses ys (may-follow ended ys end)),
      appends-start held,
    ),
  )

  -- nothing is written if a mark is refused
  pub mark-stops : (had has held : Option (List ℕ)) (start : List ℕ) (mark : Mark)
      → HasStart ended had has start → RefusesText true ended start mark
      → IfSome had (λ bytes. StopsBytes s bytes (Marked mark) held held)
  mark-stops had has held start mark from refuses =
      mark-step had has held start mark from.took from.end refuses

-- what holds whatever the rest is holds of a rest that is known
pub all-known : {P : List ℕ → Type 0} (rest : Option (List ℕ)) → ((more : List ℕ) → P more)
    → IfSome rest P
all-known None h = tt
all-known (Some more) h = h more

-- what holds of a text holds of it with the rest, if nothing remains
pub end-known : (P : List ℕ → Type 0) (text : List ℕ) (rest : Option (List ℕ)) → IsAtEnd rest
    → P text → IfSome rest (λ more. P (text ++ more))
end-known P text None end h = tt
end-known P text (Some more) end h =
    subst P (sym (append-nil text) ∙ ap (λ l. text ++ l) (sym end)) h

-- what is told of the text and the rest, if the rest is known
module _ (s : Settings) (text : List ℕ) (held now : Option (List ℕ)) where
  pub copied-known : (rest : Option (List ℕ)) (result : Result (Unit {0}) Failure)
      → IfSome rest (λ more. TellsText s (text ++ more) held now result)
      → OnOk result (IfSome (prepend_known text rest) (λ bytes. CopiesAll s bytes held now))
  copied-known rest (Err failure) told = tt
  copied-known None (Ok done) told = tt
  copied-known (Some more) (Ok done) told = told

  pub stopped-known : (rest : Option (List ℕ)) (result : Result (Unit {0}) Failure)
      → IfSome rest (λ more. TellsText s (text ++ more) held now result)
      → IfErr result (λ failure. IfSome (prepend_known text rest) (λ bytes. CopiesUntil s bytes failure held now))
  stopped-known rest (Ok done) told = tt
  stopped-known None (Err failure) told = tt
  stopped-known (Some more) (Err failure) told = told
