-- Where a parser fails, what it reads breaks off.
use Rattle.std.proofs.Common.{◌≡◌, ℕ, zero, suc, ◌<◌, ◌==◌, Bool, true, false, List, [], ◌∷◌, inl, inr, Option, Some, None, ap, sym, ◌∙◌, subst, refl, arith, true≢false}
use Rattle.std.specs.Prelude.{⊤, ◌⊎◌}
use Rattle.std.proofs.lemmas.Bool.Decides.{nat_tests}
use Rattle.std.proofs.lemmas.Option.{none-some}
use Rattle.winnow_stream.specs.Source.{Source, width, HasPositiveWidths}
use Rattle.winnow_stream.specs.SliceBytes.{SlicesHaveBytes}
use Rattle.winnow_count.specs.Reading.{IsSomeExactly}
use Rattle.winnow_parser.specs.Outcome.{Ahead, Failed, Backtracks, Cuts, Needs, Refuses, Gives, Fails, Meaning}
use Rattle.winnow_parser.specs.Meanings.{IsTerminated, CutsErr, VerifyMaps}
use Rattle.winnow_token.specs.OneOf.{IsOneOf}
use Rattle.winnow_token.specs.Take.{Takes}
use Rattle.winnow_combinator.specs.Counts.{Ascending}
use Rattle.winnow_combinator.specs.Ending.{IsFail}
use Rattle.winnow_combinator.specs.Repeat.{Repeats, Taking}
use Rattle.winnow_combinator.specs.Gathering.{Gathered}
use Rattle.format_lemmas.specs.Bytes.{bytes_of, StartsWith}
use Rattle.format_lemmas.proofs.lemmas.TokenLemmas.{itself, byte-missing}
use Rattle.format_resp.specs.Language.{line, IsInteger, IsLength, greatest_count, SpellsNone, Spells}
use Rattle.format_resp.specs.Meanings.{is_kind, most_digits, HasReplies, LineEnd, Line, Text, Length, Bytes, BulkString, Elements, ArrayReply, Body, Layer, Nested}
use Rattle.format_resp.specs.Ahead.{IsAhead}
use Rattle.format_resp.specs.Damage.{HasNoKind, cause_at, EndBreaksOff, LineBreaksOff, NumberBreaksOff, IsWrongInteger, IsWrongLength, BytesBreakOff, BulkBreaksOff, ElementsBreakOff, ArrayBreaksOff, BodyBreaksOff, LayerBreaksOff, BeginsNone, StopsAt, BreaksOff}
use Rattle.format_resp.specs.Answers.{IsSettled}
use Rattle.format_resp.specs.Causes.{IsDamaged}
use Rattle.format_resp.specs.declared.causes.Cause.{Cause}
use Rattle.format_resp.specs.declared.causes.Cause.TheVariants.{EndsInside, NoKind, TooDeep, NoInteger, NoLength, TooLong, NoLineEnd}
use Rattle.format_resp.proofs.lemmas.LengthLemmas.{length-decided}
use Rattle.format_resp.specs.declared.reply.Reply.{Reply}
use Rattle.format_resp.proofs.lemmas.AheadLemmas.{ahead-wide, ahead-narrower}
use Rattle.format_resp.proofs.lemmas.YieldLemmas.{Yields, yields-one, held-stands, held-short, yields-line, yields-length, yields-counted}
use Rattle.format_resp.proofs.lemmas.ReplyLemmas.{Begins, turns-stand, spells-begins, yields-nested}

-- a relation holds of what stood ahead and of what the failure leaves, for a cause; nothing is left
-- where more is needed, and the input ends
abbrev pub Stops : (Bool → Cause → Source ℕ → Source ℕ → Type 0) → Bool → Source ℕ → Failed ℕ
    → Type 0
Stops breaks partial r (Backtracks b) = (cause : Cause) × (IsSettled partial cause × breaks false cause r b.tokens)
Stops breaks partial r (Cuts b) = (cause : Cause) × (IsSettled partial cause × breaks false cause r b.tokens)
Stops breaks partial r (Needs n) = breaks true EndsInside r []
Stops breaks partial r Refuses = ⊤

-- where a relation holds of what a failure leaves, a weaker one does
stops-on : (A B : Bool → Cause → Source ℕ → Source ℕ → Type 0) (partial : Bool) (q r : Source ℕ)
    (f : Failed ℕ)
    → ((needs_more : Bool) (cause : Cause) (s : Source ℕ) → A needs_more cause q s → B needs_more cause r s)
    → Stops A partial q f → Stops B partial r f
stops-on A B partial q r (Backtracks b) on (cause, (settled, h)) = (cause, (settled, on false cause b.tokens h))
stops-on A B partial q r (Cuts b) on (cause, (settled, h)) = (cause, (settled, on false cause b.tokens h))
stops-on A B partial q r (Needs n) on h = on true EndsInside [] h
stops-on A B partial q r Refuses on h = tt

-- something stands at the rest, so the input does not end there
settled-at : (cause : Cause) (s : Source ℕ) → ¬ (cause ≡ EndsInside) → ¬ (s ≡ [])
    → ¬ (cause_at s cause ≡ EndsInside)
settled-at cause [] other some e = some refl
settled-at cause (x ∷ xs) other some e = other e

-- ---- Line ends

-- a byte is missing at the rest, which is all that stands there
abbrev IsMissing : ℕ → Bool → Cause → Source ℕ → Source ℕ → Type 0
IsMissing c needs_more cause r s = (cause ≡ cause_at s NoLineEnd) × (r ≡ s) × ¬ (StartsWith c (bytes_of s))

-- a byte fails where it is missing
byte-stops : (c : ℕ) (partial : Bool) (f : Failed ℕ) (a : Ahead ℕ)
    → IsOneOf (λ token. c == token) partial a (Fails f) → Stops (IsMissing c) partial a.tokens f
byte-stops c partial (Backtracks b) a h =
    let missing = byte-missing c partial a b h in
    let same : a.tokens ≡ b.tokens = ap (λ p. p.tokens) (sym missing.1) in (
      cause_at b.tokens NoLineEnd,
      (
        λ p. settled-at NoLineEnd b.tokens (λ e. cc) (λ e. h.1 p (same ∙ e)),
        (refl, same, subst (λ p. ¬ (StartsWith c (bytes_of p.tokens))) (sym missing.1) missing.0),
      ),
    )
byte-stops c partial (Cuts b) a h = absurd h
byte-stops c partial (Needs n) a h = (refl, h.0, λ e. e)
byte-stops c partial Refuses a h = tt

-- a line end breaks off, whether more is needed or not
abbrev EndStops : Bool → Cause → Source ℕ → Source ℕ → Type 0
EndStops needs_more cause = EndBreaksOff cause

-- a line end fails where it breaks off
end-stops : (partial : Bool) (f : Failed ℕ) (a : Ahead ℕ) → HasPositiveWidths a.tokens
    → LineEnd itself partial a (Fails f) → Stops EndStops partial a.tokens f
end-stops partial f a wide (inl h) =
    stops-on (IsMissing 13) EndStops partial a.tokens a.tokens f (λ needs_more cause s k. (k.0, inl (k.1, k.2))) (byte-stops 13 partial f a h)
end-stops partial f a wide (inr (x, (b, (h, g)))) =
    let k = yields-one (λ token. 13 == token) partial a b x wide h in
    let cr : x ≡ 13 = grind (arith, nat_tests, k.1.1.0) in
    let stands : IsAhead a.tokens (13 ∷ []) b.tokens = subst (λ t. IsAhead a.tokens t b.tokens) (k.1.1.1 ∙ ap (λ c. c ∷ []) cr) k.1.0 in
    stops-on (IsMissing 10) EndStops partial b.tokens a.tokens f (λ needs_more cause s m. (m.0, inr (subst (IsAhead a.tokens (13 ∷ [])) m.1 stands, m.2))) (byte-stops 10 partial f b g)

-- ---- Kinds

-- no reply begins, whether more is needed or not
abbrev NoneStops : Bool → Cause → Source ℕ → Source ℕ → Type 0
NoneStops needs_more cause = BeginsNone cause

-- a reply fails where none begins
abbrev pub FailsFirst : Bool → Ahead ℕ → Failed ℕ → Type 0
FailsFirst partial a f = IsOneOf is_kind partial a (Fails f) × Stops NoneStops partial a.tokens f

-- no reply begins where the byte of a kind fails
kind-stops : (partial : Bool) (f : Failed ℕ) (a : Ahead ℕ) → IsOneOf is_kind partial a (Fails f)
    → FailsFirst partial a f
kind-stops partial (Backtracks b) a h =
    let same : a.tokens ≡ b.tokens = ap (λ p. p.tokens) (sym h.2) in (
      h,
      (
        cause_at b.tokens NoKind,
        (λ p. settled-at NoKind b.tokens (λ e. cc) (λ e. h.1 p (same ∙ e)), (same, h.0, refl)),
      ),
    )
kind-stops partial (Cuts b) a h = absurd h
kind-stops partial (Needs n) a h = (h, (h.0, subst HasNoKind (sym h.0) tt, refl))
kind-stops partial Refuses a h = absurd h

-- ---- Numbers

-- what is wrong with a text
abbrev Wrong : (Cause → List ℕ → Type 0) → List ℕ → Type 0
Wrong is_wrong text = (cause : Cause) × (¬ (cause ≡ EndsInside) × is_wrong cause text)

-- a text that is no integer is wrong
wrong-integer : (text : List ℕ) → Wrong IsWrongInteger text
wrong-integer text = (NoInteger, (λ e. cc, refl))

-- a text is no length above 64 bits, if it is no length within a limit
none-above : (greatest : ℕ) (text : List ℕ) → ((n : Option ℕ) → ¬ (IsLength greatest text n))
    → ((n : ℕ) → ¬ (IsLength greatest_count text (Some n))) → (n : Option ℕ)
    → ¬ (IsLength greatest_count text n)
none-above greatest text none lacks None h = none None h
none-above greatest text none lacks (Some m) h = lacks m h

-- a text that is no length within a limit is wrong
wrong-length : (above : Cause) → ¬ (above ≡ EndsInside) → (greatest : ℕ) (text : List ℕ)
    → ((n : Option ℕ) → ¬ (IsLength greatest text n)) → Wrong (IsWrongLength above) text
wrong-length above other greatest text none = elim (length-decided text) [
  | inl is ↦ (above, (other, inr (refl, is)))
  | inr lacks ↦ (NoLength, (λ e. cc, inl (refl, none-above greatest text none lacks)))
]

-- ---- Depth 0

-- a layer breaks off, where no replies stand in an array
abbrev DeepStops : ℕ → (Source ℕ → Source ℕ → Type 0) → Bool → Cause → Source ℕ → Source ℕ → Type 0
DeepStops longest stops needs_more cause = LayerBreaksOff SpellsNone stops needs_more cause longest 0

-- after the byte of a kind none breaks off in an array
body-none : (needs_more : Bool) (cause : Cause) (longest kind : ℕ) (r s : Source ℕ)
    (stops : Source ℕ → Source ℕ → Type 0)
    → BodyBreaksOff SpellsNone stops needs_more cause longest 0 kind r s
    → BodyBreaksOff SpellsNone (λ x y. ⊥) needs_more cause longest 0 kind r s
body-none needs_more cause longest kind r s stops (inl h) = inl h
body-none needs_more cause longest kind r s stops (inr (inl h)) = inr (inl h)
body-none needs_more cause longest kind r s stops (inr (inr (inl h))) = inr (inr (inl h))
body-none needs_more cause longest kind r s stops (inr (inr (inr (e, inl h)))) = inr (inr (inr (e, inl h)))
body-none needs_more cause longest kind r s stops (inr (inr (inr (e, inr (text, (count, (after, (is, a, few)))))))) =
    absurd (omega (arith, is.0, few.1.1.1.2))

-- so none does in an array at depth 0
layer-none : (longest : ℕ) (needs_more : Bool) (cause : Cause) (r s : Source ℕ)
    → DeepStops longest (λ x y. x ≡ y) needs_more cause r s
    → DeepStops longest (λ x y. ⊥) needs_more cause r s
layer-none longest needs_more cause r s (kind, (after, (is, a, h))) =
    (kind, (after, (is, a, body-none needs_more cause longest kind after s (λ x y. x ≡ y) h)))

-- so a layer at depth 0 breaks off elsewhere
deep-either : (longest : ℕ) (partial : Bool) (f : Failed ℕ) (a : Ahead ℕ)
    → FailsFirst partial a f ⊎ Stops (DeepStops longest (λ x y. x ≡ y)) partial a.tokens f
    → FailsFirst partial a f ⊎ Stops (DeepStops longest (λ x y. ⊥)) partial a.tokens f
deep-either longest partial f a (inl h) = inl h
deep-either longest partial f a (inr h) =
    inr (stops-on (DeepStops longest (λ x y. x ≡ y)) (DeepStops longest (λ x y. ⊥)) partial a.tokens a.tokens f (λ needs_more cause s k. layer-none longest needs_more cause a.tokens s k) h)

module _ {S : Type 0} (counts_shortage : Bool) (is_slice : S → Source ℕ → ℕ → Type 0) (bytes : S → List ℕ) (have : SlicesHaveBytes is_slice bytes) where
  -- ---- Lines

  -- a line breaks off, whether more is needed or not
  abbrev LineStops : ℕ → Bool → Cause → Source ℕ → Source ℕ → Type 0
  LineStops longest needs_more cause = LineBreaksOff cause longest

  -- a line fails where it breaks off
  line-stops : (longest : ℕ) (partial : Bool) (f : Failed ℕ) (a : Ahead ℕ)
      → HasPositiveWidths a.tokens
      → Line itself counts_shortage is_slice bytes longest partial a (Fails f)
      → Stops (LineStops longest) partial a.tokens f
  line-stops longest partial (Backtracks b) a wide (inl h) = absurd (omega (arith, h.1))
  line-stops longest partial (Cuts b) a wide (inl h) = absurd (grind (arith, nat_tests, h.1))
  line-stops longest partial (Needs n) a wide (inl h) =
      let k = held-short counts_shortage is_slice bytes have longest partial a.tokens h.2 in
      (k.0, ([], (k.1.0, k.1.1, inr tt, (refl, inl (refl, λ e. e)))))
  line-stops longest partial Refuses a wide (inl h) = tt
  line-stops longest partial f a wide (inr (slice, (b, (h, g)))) =
      let k = held-stands counts_shortage is_slice bytes have longest partial a b slice wide h in
      stops-on EndStops (LineStops longest) partial b.tokens a.tokens f (λ needs_more cause s m. (k.0, (b.tokens, (k.1.0, k.1.1, k.1.2, m))))
      (end-stops partial f b (ahead-wide k.0 a.tokens b.tokens k.1.0 wide) g)

  -- the text of a line fails where the line breaks off
  text-stops : (longest : ℕ) (partial : Bool) (f : Failed ℕ) (a : Ahead ℕ)
      → HasPositiveWidths a.tokens
      → Text itself counts_shortage is_slice bytes longest partial a (Fails f)
      → Stops (LineStops longest) partial a.tokens f
  text-stops longest partial (Backtracks b) a wide h = absurd h
  text-stops longest partial (Cuts b) a wide (inl h) = line-stops longest partial (Backtracks b) a wide h
  text-stops longest partial (Cuts b) a wide (inr h) = line-stops longest partial (Cuts b) a wide h
  text-stops longest partial (Needs n) a wide h = line-stops longest partial (Needs n) a wide h
  text-stops longest partial Refuses a wide h = tt

  module _ {R : Type 0} (reads : List ℕ → R → Type 0) (is_wrong : Cause → List ℕ → Type 0) (decides : (text : List ℕ) → ((n : R) → ¬ (reads text n)) → Wrong is_wrong text) where
    -- what a line is read as
    abbrev Read : Meaning R ℕ
    Read = CutsErr
        (VerifyMaps (λ slice n. IsSomeExactly (reads (bytes slice)) n) (Line itself counts_shortage is_slice bytes most_digits))

    -- a number breaks off, whether more is needed or not
    abbrev NumberStops : Bool → Cause → Source ℕ → Source ℕ → Type 0
    NumberStops needs_more cause = NumberBreaksOff reads (is_wrong cause) cause

    -- where its line fails, it does
    number-line : (partial : Bool) (f : Failed ℕ) (a : Ahead ℕ)
        → Stops (LineStops most_digits) partial a.tokens f
        → Stops NumberStops partial a.tokens f
    number-line partial f a h =
        stops-on (LineStops most_digits) NumberStops partial a.tokens a.tokens f (λ needs_more cause s k. inl k) h

    -- a number fails where it breaks off
    number-stops : (partial : Bool) (f : Failed ℕ) (a : Ahead ℕ) → HasPositiveWidths a.tokens
        → Read partial a (Fails f) → Stops NumberStops partial a.tokens f
    number-stops partial (Backtracks b) a wide h = absurd h
    number-stops partial (Cuts b) a wide (inl (inl h)) = number-line partial (Cuts b) a (line-stops most_digits partial (Backtracks b) a wide h)
    number-stops partial (Cuts b) a wide (inl (inr (same, (slice, (c, (h, none)))))) =
        let k = yields-line counts_shortage is_slice bytes have most_digits partial a c slice wide h in
        let lacks : (n : R) → ¬ (reads (bytes slice) n) = λ n is. none-some _ ((none n).1 is) in
        let wrong = decides (bytes slice) lacks in (
          wrong.0,
          (
            λ p. wrong.1.0,
            inr (
              ap (λ p. p.tokens) same,
              (bytes slice, (c.tokens, (subst (λ t. IsAhead a.tokens t c.tokens) k.1.1.1 k.1.0, k.1.1.0, lacks, wrong.1.1))),
            ),
          ),
        )
    number-stops partial (Cuts b) a wide (inr h) = number-line partial (Cuts b) a (line-stops most_digits partial (Cuts b) a wide h)
    number-stops partial (Needs n) a wide h = number-line partial (Needs n) a (line-stops most_digits partial (Needs n) a wide h)
    number-stops partial Refuses a wide h = tt

  -- ---- Bulk strings

  -- a number of bytes breaks off
  abbrev BytesStop : ℕ → Bool → Cause → Source ℕ → Source ℕ → Type 0
  BytesStop n needs_more cause = BytesBreakOff needs_more cause n

  -- a bulk string breaks off
  abbrev BulkStops : ℕ → Bool → Cause → Source ℕ → Source ℕ → Type 0
  BulkStops longest needs_more cause = BulkBreaksOff needs_more cause longest

  -- a number of bytes and a line end fail where they break off
  counted-stops : (n : ℕ) (partial : Bool) (f : Failed ℕ) (a : Ahead ℕ) → HasPositiveWidths a.tokens
      → IsTerminated (Takes counts_shortage is_slice n) (LineEnd itself) partial a (Fails f)
      → Stops (BytesStop n) partial a.tokens f
  counted-stops n partial (Backtracks b) a wide (inl h) = (EndsInside, (λ p. absurd (true≢false (sym p ∙ h.1)), inl (refl, h.0, ap (λ p. p.tokens) h.2)))
  counted-stops n partial (Cuts b) a wide (inl h) = absurd h
  counted-stops n partial (Needs i) a wide (inl h) = inl (refl, h.0, refl)
  counted-stops n partial Refuses a wide (inl h) = tt
  counted-stops n partial f a wide (inr (slice, (b, (h, g)))) =
      let k = yields-counted counts_shortage is_slice bytes have n partial a b slice wide h in
      stops-on EndStops (BytesStop n) partial b.tokens a.tokens f (λ needs_more cause s m. inr (k.0, (b.tokens, (k.1.0, k.1.1.0, m))))
      (end-stops partial f b (ahead-wide k.0 a.tokens b.tokens k.1.0 wide) g)

  -- the bytes of a bulk string fail so
  bytes-stops : (n : ℕ) (partial : Bool) (f : Failed ℕ) (a : Ahead ℕ) → HasPositiveWidths a.tokens
      → Bytes itself counts_shortage is_slice bytes n partial a (Fails f)
      → Stops (BytesStop n) partial a.tokens f
  bytes-stops n partial (Backtracks b) a wide h = absurd h
  bytes-stops n partial (Cuts b) a wide (inl h) = counted-stops n partial (Backtracks b) a wide h
  bytes-stops n partial (Cuts b) a wide (inr h) = counted-stops n partial (Cuts b) a wide h
  bytes-stops n partial (Needs i) a wide h = counted-stops n partial (Needs i) a wide h
  bytes-stops n partial Refuses a wide h = tt

  -- the source begins with a length that is returned
  length-stands : (greatest n : ℕ) (partial : Bool) (a b : Ahead ℕ) (x : Option ℕ)
      → HasPositiveWidths a.tokens
      → Length itself counts_shortage is_slice bytes greatest partial a (Gives x b) → x ≡ Some n
      → (text : List ℕ) × (IsLength greatest text (Some n) × IsAhead a.tokens (line text) b.tokens)
  length-stands greatest n partial a b x wide h same =
      let k = yields-length counts_shortage is_slice bytes have greatest partial a b x wide h in
      (k.1.1.0, (subst (IsLength greatest k.1.1.0) same k.1.1.1.0, subst (λ t. IsAhead a.tokens t b.tokens) k.1.1.1.1 k.1.0))

  -- a bulk string fails where it breaks off
  bulk-stops : (longest : ℕ) (partial : Bool) (f : Failed ℕ) (a : Ahead ℕ)
      → HasPositiveWidths a.tokens
      → BulkString itself counts_shortage is_slice bytes longest partial a (Fails f)
      → Stops (BulkStops longest) partial a.tokens f
  bulk-stops longest partial f a wide (inl h) =
      stops-on (NumberStops (IsLength longest) (IsWrongLength TooLong) (wrong-length TooLong (λ e. cc) longest)) (BulkStops longest) partial a.tokens a.tokens f (λ needs_more cause s k. inl k) (number-stops (IsLength longest) (IsWrongLength TooLong) (wrong-length TooLong (λ e. cc) longest) partial f a wide h)
  bulk-stops longest partial f a wide (inr (x, (b, (None, (h, same, g))))) = absurd g
  bulk-stops longest partial f a wide (inr (x, (b, (Some n, (h, same, g))))) =
      let k = length-stands longest n partial a b x wide h same in
      stops-on (BytesStop n) (BulkStops longest) partial b.tokens a.tokens f (λ needs_more cause s m. inr (k.0, (n, (b.tokens, (k.1.0, k.1.1, m)))))
      (bytes-stops n partial f b (ahead-wide (line k.0) a.tokens b.tokens k.1.1 wide) g)

  -- ---- Arrays

  module _ (longest most : ℕ) (spells : Reply → List ℕ → Type 0) (stops : Bool → Cause → Source ℕ → Source ℕ → Type 0) (inner : Meaning Reply ℕ) (one : Yields inner spells) (begins : (y : Reply) (t : List ℕ) → spells y t → Begins t) (fails : (partial : Bool) (f : Failed ℕ) (a : Ahead ℕ) → HasPositiveWidths a.tokens → inner partial a (Fails f) → Stops stops partial a.tokens f) where
    -- a reply takes something
    takes : (partial : Bool) (x : Reply) (a b : Ahead ℕ) → HasPositiveWidths a.tokens
        → inner partial a (Gives x b) → width b.tokens < width a.tokens
    takes partial x a b wide h =
        let k = one partial a b x wide h in
        let first = begins x k.0 k.1.1 in
        ahead-narrower first.0 first.1.0 a.tokens b.tokens wide (subst (λ t. IsAhead a.tokens t b.tokens) first.1.1 k.1.0)

    -- so one more reply fails as a reply does
    taking-stops : (partial : Bool) (f : Failed ℕ) (a : Ahead ℕ) → HasPositiveWidths a.tokens
        → Taking inner partial a (Fails f) → Stops stops partial a.tokens f
    taking-stops partial (Backtracks b) a wide h = fails partial (Backtracks b) a wide h
    taking-stops partial (Cuts b) a wide (inl h) = fails partial (Cuts b) a wide h
    taking-stops partial (Cuts b) a wide (inr (x, (h, still))) = absurd (omega (arith, takes partial x a b wide h, still))
    taking-stops partial (Needs n) a wide h = fails partial (Needs n) a wide h
    taking-stops partial Refuses a wide h = tt

    -- one of a number of replies breaks off
    abbrev ElementsStop : ℕ → Bool → Cause → Source ℕ → Source ℕ → Type 0
    ElementsStop n needs_more cause = ElementsBreakOff spells (stops needs_more cause) n

    -- an array breaks off
    abbrev ArrayStops : Bool → Cause → Source ℕ → Source ℕ → Type 0
    ArrayStops needs_more cause = ArrayBreaksOff spells (stops needs_more cause) cause most

    -- replies in turn fail where one breaks off
    repeated-stops : (n : ℕ) (partial : Bool) (f : Failed ℕ) (a : Ahead ℕ)
        → HasPositiveWidths a.tokens → Repeats n (Some n) inner partial a (Fails f)
        → Stops (ElementsStop n) partial a.tokens f
    repeated-stops n partial f a wide (xs, (b, (turns, below, (few, h)))) =
        let k = turns-stand counts_shortage is_slice bytes have longest greatest_count spells inner one (λ text m is. is) partial xs a b wide turns in
        stops-on stops (ElementsStop n) partial b.tokens a.tokens f (λ needs_more cause s m. (xs, (k.0, (b.tokens, (k.1.0, k.1.1, below, m)))))
        (taking-stops partial f b (ahead-wide k.0 a.tokens b.tokens k.1.0 wide) h)

    -- the number of replies is always allowed
    ascending-stops : (n : ℕ) (partial : Bool) (f : Failed ℕ) (a : Ahead ℕ)
        → HasPositiveWidths a.tokens
        → Ascending n (Some n) (Gathered ⊤ HasReplies (Repeats n (Some n) inner)) partial a (Fails f)
        → Stops (ElementsStop n) partial a.tokens f
    ascending-stops n partial (Backtracks b) a wide (inl h) = repeated-stops n partial (Backtracks b) a wide h.1
    ascending-stops n partial (Cuts b) a wide (inl h) = repeated-stops n partial (Cuts b) a wide h.1
    ascending-stops n partial (Needs i) a wide (inl h) = repeated-stops n partial (Needs i) a wide h.1
    ascending-stops n partial Refuses a wide (inl h) = tt
    ascending-stops n partial f a wide (inr h) = absurd (omega (arith, h.0))

    -- the replies in an array fail so
    elements-stops : (n : ℕ) (partial : Bool) (f : Failed ℕ) (a : Ahead ℕ)
        → HasPositiveWidths a.tokens
        → Elements itself counts_shortage is_slice bytes inner n partial a (Fails f)
        → Stops (ElementsStop n) partial a.tokens f
    elements-stops n partial (Backtracks b) a wide h = absurd h
    elements-stops n partial (Cuts b) a wide (inl h) = ascending-stops n partial (Backtracks b) a wide h
    elements-stops n partial (Cuts b) a wide (inr h) = ascending-stops n partial (Cuts b) a wide h
    elements-stops n partial (Needs i) a wide h = ascending-stops n partial (Needs i) a wide h
    elements-stops n partial Refuses a wide h = tt

    -- an array fails where it breaks off
    array-stops : (partial : Bool) (f : Failed ℕ) (a : Ahead ℕ) → HasPositiveWidths a.tokens
        → ArrayReply itself counts_shortage is_slice bytes most inner partial a (Fails f)
        → Stops ArrayStops partial a.tokens f
    array-stops partial f a wide (inl h) =
        stops-on (NumberStops (IsLength most) (IsWrongLength TooDeep) (wrong-length TooDeep (λ e. cc) most)) ArrayStops partial a.tokens a.tokens f (λ needs_more cause s k. inl k) (number-stops (IsLength most) (IsWrongLength TooDeep) (wrong-length TooDeep (λ e. cc) most) partial f a wide h)
    array-stops partial f a wide (inr (x, (b, (None, (h, same, g))))) = absurd g
    array-stops partial f a wide (inr (x, (b, (Some n, (h, same, g))))) =
        let k = length-stands most n partial a b x wide h same in
        stops-on (ElementsStop n) ArrayStops partial b.tokens a.tokens f (λ needs_more cause s m. inr (k.0, (n, (b.tokens, (k.1.0, k.1.1, m)))))
        (elements-stops n partial f b (ahead-wide (line k.0) a.tokens b.tokens k.1.1 wide) g)

    -- ---- Replies

    -- what follows the byte of a kind breaks off
    abbrev BodyStops : ℕ → Bool → Cause → Source ℕ → Source ℕ → Type 0
    BodyStops kind needs_more cause = BodyBreaksOff spells (stops needs_more cause) needs_more cause longest most kind

    -- what follows the byte of a kind fails where it breaks off
    body-stops : (kind : ℕ) (partial : Bool) (f : Failed ℕ) (a : Ahead ℕ)
        → HasPositiveWidths a.tokens
        → Body itself counts_shortage is_slice bytes longest most inner kind partial a (Fails f)
        → Stops (BodyStops kind) partial a.tokens f
    body-stops kind partial f a wide (inl (e, h)) =
        stops-on ArrayStops (BodyStops kind) partial a.tokens a.tokens f (λ needs_more cause s k. inr (inr (inr (e, k)))) (array-stops partial f a wide h)
    body-stops kind partial f a wide (inr (inl (e, h))) =
        stops-on (LineStops longest) (BodyStops kind) partial a.tokens a.tokens f (λ needs_more cause s k. inl (inl e, k)) (text-stops longest partial f a wide h)
    body-stops kind partial f a wide (inr (inr (inl (e, h)))) =
        stops-on (LineStops longest) (BodyStops kind) partial a.tokens a.tokens f (λ needs_more cause s k. inl (inr e, k)) (text-stops longest partial f a wide h)
    body-stops kind partial f a wide (inr (inr (inr (inl (e, h))))) =
        stops-on (NumberStops IsInteger IsWrongInteger (λ text lacks. wrong-integer text)) (BodyStops kind) partial a.tokens a.tokens f (λ needs_more cause s k. inr (inl (e, k))) (number-stops IsInteger IsWrongInteger (λ text lacks. wrong-integer text) partial f a wide h)
    body-stops kind partial f a wide (inr (inr (inr (inr (e, h))))) =
        stops-on (BulkStops longest) (BodyStops kind) partial a.tokens a.tokens f (λ needs_more cause s k. inr (inr (inl (e, k)))) (bulk-stops longest partial f a wide h)

    -- a reply breaks off
    abbrev LayerStops : Bool → Cause → Source ℕ → Source ℕ → Type 0
    LayerStops needs_more cause = LayerBreaksOff spells (stops needs_more cause) needs_more cause longest most

    -- a reply fails where none begins, or where it breaks off
    layer-stops : (partial : Bool) (f : Failed ℕ) (a : Ahead ℕ) → HasPositiveWidths a.tokens
        → Layer itself counts_shortage is_slice bytes longest most inner partial a (Fails f)
        → FailsFirst partial a f ⊎ Stops LayerStops partial a.tokens f
    layer-stops partial f a wide (inl h) = inl (kind-stops partial f a h)
    layer-stops partial f a wide (inr (x, (b, (kind, (h, same, g))))) =
        let k = yields-one is_kind partial a b x wide h in
        let stands : IsAhead a.tokens (kind ∷ []) b.tokens = subst (λ t. IsAhead a.tokens t b.tokens) (k.1.1.1 ∙ ap (λ c. c ∷ []) same) k.1.0 in
        inr (stops-on (BodyStops kind) LayerStops partial b.tokens a.tokens f (λ needs_more cause s m. (kind, (b.tokens, (subst (λ c. is_kind c ≡ true) same k.1.1.0, stands, m))))
        (body-stops kind partial f b (ahead-wide (kind ∷ []) a.tokens b.tokens stands wide) g))

  -- a reply breaks off within limits
  abbrev NestedStops : ℕ → ℕ → Bool → Cause → Source ℕ → Source ℕ → Type 0
  NestedStops longest depth needs_more cause = BreaksOff needs_more cause longest depth

  -- no reply begins, or one breaks off within limits
  abbrev EitherStops : ℕ → ℕ → Bool → Cause → Source ℕ → Source ℕ → Type 0
  EitherStops longest depth needs_more cause = StopsAt cause (BreaksOff needs_more cause longest depth)

  -- where none begins or it breaks off, it stops
  pub stops-either : (longest depth : ℕ) (partial : Bool) (f : Failed ℕ) (a : Ahead ℕ)
      → FailsFirst partial a f ⊎ Stops (NestedStops longest depth) partial a.tokens f
      → Stops (EitherStops longest depth) partial a.tokens f
  stops-either longest depth partial f a (inl h) =
      stops-on NoneStops (EitherStops longest depth) partial a.tokens a.tokens f (λ needs_more cause s k. inl k) h.1
  stops-either longest depth partial f a (inr h) =
      stops-on (NestedStops longest depth) (EitherStops longest depth) partial a.tokens a.tokens f (λ needs_more cause s k. inr k) h

  -- the parser that returns no reply consumes nothing
  deep-stops : (partial : Bool) (f : Failed ℕ) (a : Ahead ℕ) → HasPositiveWidths a.tokens
      → IsFail {O = Reply} partial a (Fails f) → Stops (λ needs_more cause r s. r ≡ s) partial a.tokens f
  deep-stops partial (Backtracks b) a wide h = (NoKind, (λ p e. cc, ap (λ p. p.tokens) h))
  deep-stops partial (Cuts b) a wide h = absurd h
  deep-stops partial (Needs n) a wide h = absurd h
  deep-stops partial Refuses a wide h = tt

  -- the parser of replies fails where none begins, or where one breaks off
  pub nested-stops : (longest depth : ℕ) (partial : Bool) (f : Failed ℕ) (a : Ahead ℕ)
      → HasPositiveWidths a.tokens
      → Nested itself counts_shortage is_slice bytes longest depth partial a (Fails f)
      → FailsFirst partial a f ⊎ Stops (NestedStops longest depth) partial a.tokens f
  nested-stops longest zero partial f a wide h =
      deep-either longest partial f a (layer-stops longest 0 SpellsNone (λ needs_more cause r s. r ≡ s) IsFail (λ partial a b x wide h. absurd h) (λ y t h. absurd h) deep-stops partial f a wide h)
  nested-stops longest (suc depth) partial f a wide h =
      layer-stops longest greatest_count (Spells longest depth) (EitherStops longest depth) (Nested itself counts_shortage is_slice bytes longest depth)
      (yields-nested counts_shortage is_slice bytes have longest depth) (spells-begins counts_shortage is_slice bytes have longest depth)
      (λ partial f a wide h. stops-either longest depth partial f a (nested-stops longest depth partial f a wide h)) partial f a wide h

  -- where the parser of replies stops, that is for a cause
  pub damage-of : (longest depth : ℕ) (partial : Bool) (a b : Ahead ℕ) → HasPositiveWidths a.tokens
      → Nested itself counts_shortage is_slice bytes longest depth partial a (Fails (Backtracks b))
      ⊎ Nested itself counts_shortage is_slice bytes longest depth partial a (Fails (Cuts b))
      → (cause : Cause) × (IsSettled partial cause × IsDamaged longest depth cause a.tokens b.tokens)
  damage-of longest depth partial a b wide (inl h) =
      stops-either longest depth partial (Backtracks b) a (nested-stops longest depth partial (Backtracks b) a wide h)
  damage-of longest depth partial a b wide (inr h) =
      stops-either longest depth partial (Cuts b) a (nested-stops longest depth partial (Cuts b) a wide h)
