-- What a record of text answered of the text at the front of bytes.
use Rattle.std.specs.Prelude.{Bool, true, false, not, ◌||◌, Some, Result, Ok, Err}
use Rattle.std.specs.Str.Lossy.{utf8_valid_len, utf8_error_len}
use Rattle.std.proofs.Common.{◌≡◌, ℕ, ◌-◌, ◌≤◌, ◌==◌, List, [], ◌∷◌, ◌++◌, length, take, drop, refl, ap, sym, ◌∙◌, subst, arith, length-take, length-drop, take-append-drop}
use Rattle.std.proofs.lemmas.List.{nil_from_length}
use Rattle.std.proofs.lemmas.Str.{utf8_valid_len_le, utf8_valid_len-IsUtf8}
use Rattle.std.specs.Prelude.{IsUtf8}
use Rattle.winnow_stream.specs.Source.{units, width}
use Rattle.winnow_stream.specs.Front.{back}
use Rattle.winnow_stream.specs.Location.{location_behind}
use Rattle.winnow_stream.proofs.lemmas.TextLemmas.{width-text_source}
use Rattle.winnow_stream.proofs.lemmas.UnitLemmas.{count_to-units, width-take_units}
use Rattle.winnow_stream.specs.Source.{Source}
use Rattle.winnow_stream.specs.declared.needed.Needed.{Needed}
use Rattle.winnow_stream.proofs.lemmas.UnitLemmas.{length-units}
use Rattle.winnow_error.specs.declared.failure.Failure.{Failure}
use Rattle.winnow_error.specs.declared.failure.Failure.TheVariants.{Incomplete, Backtrack, Cut, Refused}
use Rattle.winnow_parser.specs.Answer.{outcome}
use Rattle.winnow_parser.specs.Laws.{longer, outcome_longer, IsSettled, IsParser}
use Rattle.winnow_parser.specs.Outcome.{Ahead, Outcome, Meaning}
use Rattle.winnow_reader.specs.Utf8Laws.{past-longer, IsParser-InUtf8}
use Rattle.winnow_reader.proofs.lemmas.PlaceLemmas.{longer-bytes}
use Rattle.winnow_reader.specs.Place.{bytes_at}
use Rattle.winnow_reader.specs.TextPlace.{text_at}
use Rattle.winnow_reader.specs.InUtf8.{bytes_in, text_in, past_text, is_damaged, goes_on, past, text_ahead, left_at, AnswersText, InUtf8}
use Rattle.winnow_reader.specs.TextFrontLaws.{IsUtf8-text_in}

-- the bytes of tokens of width 1 are those that they were made of
bytes_in-units : (bs : List ℕ) → bytes_in (units bs) ≡ bs
bytes_in-units [] = refl
bytes_in-units (b ∷ bs) = ap (λ xs. b ∷ xs) (bytes_in-units bs)

-- nothing is not damaged
none-damaged : (partial : Bool) → is_damaged partial [] ≡ false
unfolding utf8_error_len
none-damaged true = refl
none-damaged false = refl

-- nor is what follows bytes that are a text
pub whole-undamaged : (partial : Bool) (bs : List ℕ) → IsUtf8 bs
    → is_damaged partial (past_text bs) ≡ false
whole-undamaged partial bs u =
    let none = nil_from_length (past_text bs) (omega (arith, length-drop (utf8_valid_len bs) bs, utf8_valid_len-IsUtf8 bs u)) in
    ap (is_damaged partial) none ∙ none-damaged partial

module _ (place : ℕ) (bs : List ℕ) where
  -- the text ahead of bytes is a text at their place
  text_at-ahead : text_at place (text_in bs) ≡ text_ahead (bytes_at place bs)
  text_at-ahead = ap (λ l. text_at place (text_in l)) (sym (bytes_in-units bs))

  -- what a record is told
  told-is : (partial : Bool) → (partial || not (length bs - utf8_valid_len bs == 0))
      ≡ goes_on partial (past_text (bytes_in (units bs)))
  told-is partial =
      ap (λ n. partial || not (n == 0)) (sym (length-drop (utf8_valid_len bs) bs)) ∙ ap (λ l. goes_on partial (past_text l)) (sym (bytes_in-units bs))

  -- what is said of the stream over the text is said of the text ahead
  pub told-of-text : (says : Bool → Ahead ℕ → Type 0) (partial flag : Bool) (n : ℕ) (b : Ahead ℕ)
      (text : List ℕ) → n ≡ utf8_valid_len bs → text ≡ text_in bs
      → flag ≡ (partial || not (length bs - n == 0)) → b ≡ text_at place text → says flag b
      → says (goes_on partial (past_text (bytes_in (units bs)))) (text_ahead (bytes_at place bs))
  told-of-text says partial flag n b text len is told stands h =
      let flag_is = told ∙ ap (λ k. partial || not (length bs - k == 0)) len ∙ told-is partial in
      let place_is = stands ∙ ap (text_at place) is ∙ text_at-ahead in
      subst (λ q. says q (text_ahead (bytes_at place bs))) flag_is (subst (λ a. says flag a) place_is h)

  -- what was answered of the stream over the text is an answer of the text ahead
  pub answers-of : {O : Type 0} (inner : Meaning O ℕ) (partial flag : Bool) (n : ℕ) (b : Ahead ℕ)
      (text : List ℕ) (v : Outcome O ℕ) → n ≡ utf8_valid_len bs → text ≡ text_in bs
      → flag ≡ (partial || not (length bs - n == 0)) → b ≡ text_at place text → inner flag b v
      → AnswersText inner partial (bytes_at place bs) v
  answers-of inner partial flag n b text v =
      told-of-text (λ more a. inner more a v) partial flag n b text

  -- the place after the bytes of the text that are taken
  pub left-of : (c : Ahead ℕ) (n m taken : ℕ) → taken ≡ n - m → n ≡ utf8_valid_len bs
      → m ≡ width c.tokens → past (bytes_at place bs) taken ≡ left_at (bytes_at place bs) c
  left-of c n m taken is len rest =
      let text = text_in bs in
      let same : taken ≡ width (text_ahead (bytes_at place bs)).tokens - width c.tokens =
      omega (arith, is, len, rest, ap (λ (a : Ahead ℕ). width a.tokens) text_at-ahead, width-text_source text (IsUtf8-text_in bs), length-take (utf8_valid_len bs) bs, utf8_valid_len_le bs) in
      ap (past (bytes_at place bs)) same

  -- the place of what follows the text
  pub damage-place : (n : ℕ) → n ≡ utf8_valid_len bs
      → past (bytes_at place bs) n ≡ past (bytes_at place bs) (utf8_valid_len (bytes_in (units bs)))
  damage-place n len = ap (past (bytes_at place bs)) (len ∙ ap utf8_valid_len (sym (bytes_in-units bs)))

  -- whether that is damaged
  pub damage-of : (partial damaged : Bool) → damaged ≡ is_damaged partial (past_text bs)
      → is_damaged partial (past_text (bytes_in (units bs))) ≡ damaged
  damage-of partial damaged is = ap (λ l. is_damaged partial (past_text l)) (bytes_in-units bs) ∙ sym is

  -- how many bytes follow it
  pub following-of : (n : ℕ) → n ≡ utf8_valid_len bs
      → length bs - n ≡ length (past_text (bytes_in (units bs)))
  following-of n len =
      omega (arith, len, length-drop (utf8_valid_len bs) bs, ap (λ l. length (past_text l)) (bytes_in-units bs))

  -- the place after n bytes, as a stream tells it
  pub past-told : (n there : ℕ) (rest : List ℕ) → n ≤ length bs → units rest ≡ back (units bs) n
      → Some there ≡ location_behind (Some place) n → bytes_at there rest ≡ past (bytes_at place bs) n
  past-told n there rest within tokens location =
      let tokens_is = tokens ∙ ap (λ k. drop k (units bs)) (count_to-units bs n within) in
      let location_is = location ∙ ap (location_behind (Some place)) (width-take_units bs n within) in
      ap (λ l. record { location = l; tokens = units rest }) location_is
      ∙ ap (λ r. record { location = location_behind (Some place) (width (take n (units bs))); tokens = r }) tokens_is

-- what was answered of the bytes of a stream is an answer of the stream
pub asked-of : {O : Type 0} (inner : Meaning O ℕ) (answer : Ahead ℕ → Outcome O ℕ)
    (told flag : Bool)
    (place location : ℕ) (bs now : List ℕ) (n : ℕ) (b : Ahead ℕ) → told ≡ flag → place ≡ location
    → bs ≡ now → b ≡ past (bytes_at location now) n
    → InUtf8 inner told (bytes_at place bs) (answer (past (bytes_at place bs) n))
    → InUtf8 inner flag (bytes_at location now) (answer b)
asked-of inner answer told flag place location bs now n b flag_is place_is bs_is there h =
    let at = ap (λ p. bytes_at p bs) place_is ∙ ap (bytes_at location) bs_is in
    subst (λ a. InUtf8 inner flag (bytes_at location now) (answer a)) (sym there)
    (subst (λ a. InUtf8 inner flag a (answer (past a n))) at (subst (λ q. InUtf8 inner q (bytes_at place bs) (answer (past (bytes_at place bs) n))) flag_is h))

-- an answer, at a place with more input after it
answer-longer : {O E : Type 0} (answer : Result O (Failure E Needed)) (more : Source ℕ)
    (a : Ahead ℕ)
    → outcome_longer more (outcome answer a) ≡ outcome answer (longer more a)
answer-longer (Ok x) more a = refl
answer-longer (Err (Backtrack e)) more a = refl
answer-longer (Err (Cut e)) more a = refl
answer-longer (Err (Incomplete n)) more a = refl
answer-longer (Err (Refused r)) more a = refl

-- a settled answer of the first bytes is an answer of all
pub front-answers : {O E : Type 0} (inner : Meaning O ℕ) → IsParser inner → (partial : Bool)
    (place : ℕ) (bs front : List ℕ) (len n : ℕ) (answer : Result O (Failure E Needed))
    → front ≡ take len bs → n ≤ length front
    → ((a : Ahead ℕ) → IsSettled (outcome answer a))
    → InUtf8 inner true (bytes_at place front) (outcome answer (past (bytes_at place front) n))
    → InUtf8 inner partial (bytes_at place bs) (outcome answer (past (bytes_at place bs) n))
front-answers inner p partial place bs front len n answer is within settled h =
    let here = bytes_at place front in
    let more = units (drop len bs) in
    let whole : longer more here ≡ bytes_at place bs =
    longer-bytes place front (drop len bs) ∙ ap (bytes_at place) (ap (λ l. l ++ drop len bs) is ∙ take-append-drop len bs) in
    let told = (IsParser-InUtf8 inner p).stable more partial here (outcome answer (past here n)) (settled (past here n)) h in
    let there : outcome_longer more (outcome answer (past here n)) ≡ outcome answer (past (longer more here) n) =
    answer-longer answer more (past here n) ∙ ap (outcome answer) (sym (past-longer here more n (omega (arith, within, length-units front)))) in
    subst (λ a. InUtf8 inner partial a (outcome answer (past a n))) whole (subst (λ v. InUtf8 inner partial (longer more here) v) there told)
