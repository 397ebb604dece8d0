-- Which error a failure of a record of text carries, over bytes.
use Rattle.std.specs.Prelude.{◌≡◌, ℕ, ◌*◌, ◌<◌, zero, suc, Bool, true, ◌⊎◌, ⊤}
use Rattle.std.specs.Str.Lossy.{utf8_valid_len}
use Rattle.winnow_stream.specs.declared.needed.Needed.{Needed}
use Rattle.winnow_error.specs.declared.failure.Failure.{Failure}
use Rattle.winnow_error.specs.declared.failure.Failure.TheVariants.{Incomplete, Backtrack, Cut, Refused}
use Rattle.winnow_parser.specs.Outcome.{Ahead, Backtracks, Cuts, Needs, Refuses, Fails, Meaning}
use Rattle.winnow_parser.specs.Errors.{Errors}
use Rattle.winnow_reader.specs.declared.utf8_record.TextError.{TextError}
use Rattle.winnow_reader.specs.declared.utf8_record.TextError.TheVariants.{Text, Damaged}
use Rattle.winnow_reader.specs.First.{first_ahead, left_ahead, goes_on}
use Rattle.winnow_reader.specs.InUtf8.{bytes_in, past_text, past, text_ahead, left_at, AnswersText, MeetsDamage, InUtf8}
use Rattle.winnow_reader.specs.InUtf8 as utf8

module _ {O E : Type 0} (means : Meaning O ℕ) where
  -- a cut is told as damage only where the record of text meets what is no UTF-8; with any other
  -- error the record of text itself cuts or backtracks in the text ahead
  abbrev pub TellsDamage : Bool → Ahead ℕ → Ahead ℕ → Failure (TextError E) Needed → Type 0
  TellsDamage partial a left (Cut Damaged) =
      MeetsDamage means partial a × (left ≡ past a (utf8_valid_len (bytes_in a.tokens)))
  TellsDamage partial a left (Cut (Text e)) =
      (c : Ahead ℕ) × (AnswersText means partial a (Fails (Cuts c)) × (left ≡ left_at a c))
  TellsDamage partial a left (Backtrack Damaged) = ⊥
  TellsDamage partial a left (Backtrack (Text e)) =
      (c : Ahead ℕ) × (AnswersText means partial a (Fails (Backtracks c)) × (left ≡ left_at a c))
  TellsDamage partial a left (Incomplete n) = ⊤
  TellsDamage partial a left (Refused r) = ⊤

module _ {E : Type 0} (errors : Errors E (Ahead ℕ) ℕ) where
  -- asked of the text at the front of the bytes ahead, the record of text fails so
  abbrev pub FailsInText : Bool → Ahead ℕ → Ahead ℕ → Failure E Needed → Type 0
  FailsInText partial a left failure = (c : Ahead ℕ)
      × (errors (utf8.goes_on partial (past_text (bytes_in a.tokens))) (text_ahead a) c failure
      × (left ≡ left_at a c))

  -- an error that does not say damage is one of the record of text
  abbrev pub TextTold : Bool → Ahead ℕ → Ahead ℕ → Failure (TextError E) Needed → Type 0
  TextTold partial a left (Backtrack (Text e)) = FailsInText partial a left (Backtrack e)
  TextTold partial a left (Backtrack Damaged) = ⊥
  TextTold partial a left (Cut (Text e)) = FailsInText partial a left (Cut e)
  TextTold partial a left (Cut Damaged) = ⊤
  TextTold partial a left (Incomplete n) = ⊤
  TextTold partial a left (Refused r) = ⊤

-- if the failure carries an error, it is a cut that is told as damage
abbrev pub IsDamageIfTold : {E : Type 0} → Failure (TextError E) Needed → Type 0
IsDamageIfTold (Cut Damaged) = ⊤
IsDamageIfTold (Cut (Text e)) = ⊥
IsDamageIfTold (Backtrack Damaged) = ⊥
IsDamageIfTold (Backtrack (Text e)) = ⊥
IsDamageIfTold (Incomplete n) = ⊤
IsDamageIfTold (Refused r) = ⊤

-- the numbers of bytes that a record of text is asked of in turn, as long as it has no answer and
-- more are ahead: 256, and each time twice as many
abbrev pub front_length : ℕ → ℕ
front_length zero = 256
front_length (suc k) = 2 * front_length k

-- if more may follow, the record of text has no answer to these bytes: it needs more, or was
-- refused memory
abbrev pub IsUnanswered : {O : Type 0} → Meaning O ℕ → Ahead ℕ → Type 0
IsUnanswered means a = ((n : Needed) × InUtf8 means true a (Fails (Needs n))) ⊎ InUtf8 means true a (Fails Refuses)

module _ {O E : Type 0} (means : Meaning O ℕ) where
  -- an error is told of the first of these fronts to which there is an answer, or of all bytes
  abbrev pub FrontTold : Errors E (Ahead ℕ) ℕ → Bool → Ahead ℕ → Ahead ℕ
      → Failure (TextError E) Needed → Type 0
  FrontTold errors partial a left failure = (k : ℕ)
      × (((j : ℕ) → j < k → IsUnanswered means (first_ahead (front_length j) a))
      × ((c : Ahead ℕ)
      × (TextTold errors (goes_on (front_length k) partial a) (first_ahead (front_length k) a) c failure
      × (left ≡ left_ahead (front_length k) a c))))

  -- the errors of a record of text, as those of a record of bytes: whether a failure is damage is
  -- told of all bytes ahead, and the error of the front that was asked
  abbrev pub Utf8Errors : Errors E (Ahead ℕ) ℕ → Errors (TextError E) (Ahead ℕ) ℕ
  Utf8Errors errors partial a left failure =
      TellsDamage means partial a left failure × FrontTold errors partial a left failure
