-- What a record of text answers of bytes: it is asked of the text at their front.
use Rattle.std.specs.Prelude.{◌≡◌, ℕ, ◌-◌, ◌==◌, Bool, true, false, not, ◌||◌, List, map, length, take, drop, is_some, ◌⊎◌}
use Rattle.std.specs.Str.Lossy.{utf8_valid_len, utf8_error_len}
use Rattle.winnow_stream.specs.Source.{Source, width}
use Rattle.winnow_stream.specs.Text.{text_source}
use Rattle.winnow_stream.specs.Shortage.{needed}
use Rattle.winnow_stream.specs.Location.{location_behind}
use Rattle.winnow_stream.specs.declared.needed.Needed.{Needed}
use Rattle.winnow_parser.specs.Outcome.{Ahead, Backtracks, Cuts, Needs, Refuses, Outcome, Gives, Fails, Meaning}
use Rattle.winnow_reader.specs.Wanted.{size_of}

-- the bytes of these tokens
abbrev pub bytes_in : Source ℕ → List ℕ
bytes_in r = map (λ x. x.0) r

-- the text at the front: the longest front that is UTF-8
abbrev pub text_in : List ℕ → List ℕ
text_in bytes = take (utf8_valid_len bytes) bytes

-- what follows that text
abbrev pub past_text : List ℕ → List ℕ
past_text bytes = drop (utf8_valid_len bytes) bytes

-- whether what follows a text is damaged, by whether more may follow: if so, where no bytes more
-- make it begin with a character; if not, where anything is there
abbrev pub is_damaged : Bool → List ℕ → Bool
is_damaged true rest = is_some (utf8_error_len rest)
is_damaged false rest = not (length rest == 0)

-- whether a record of text is told that more may follow: if it may, or if bytes follow its text
abbrev pub goes_on : Bool → List ℕ → Bool
goes_on partial rest = partial || not (length rest == 0)

-- the place after n tokens
abbrev pub past : Ahead ℕ → ℕ → Ahead ℕ
past a n = record { location = location_behind a.location (width (take n a.tokens)); tokens = drop n a.tokens }

-- the text at the front of the bytes ahead, at the same place
abbrev pub text_ahead : Ahead ℕ → Ahead ℕ
text_ahead a = record { location = a.location; tokens = text_source (text_in (bytes_in a.tokens)) }

-- the place after the bytes of the text that are taken where c is left of it
abbrev pub left_at : Ahead ℕ → Ahead ℕ → Ahead ℕ
left_at a c = past a (width (text_ahead a).tokens - width c.tokens)

module _ {O : Type 0} (inner : Meaning O ℕ) where
  -- the record of text answers this of the text at the front
  abbrev pub AnswersText : Bool → Ahead ℕ → Outcome O ℕ → Type 0
  AnswersText partial a v = inner (goes_on partial (past_text (bytes_in a.tokens))) (text_ahead a) v

  -- what follows the text is damaged, and the record of text needs more
  abbrev pub MeetsDamage : Bool → Ahead ℕ → Type 0
  MeetsDamage partial a = (is_damaged partial (past_text (bytes_in a.tokens)) ≡ true)
      × ((n : Needed) × AnswersText partial a (Fails (Needs n)))

  -- the bytes after the text count for those that the record of text needs
  abbrev pub NeedsBytes : Bool → Ahead ℕ → Needed → Type 0
  NeedsBytes partial a m = (is_damaged partial (past_text (bytes_in a.tokens)) ≡ false)
      × ((n : Needed) × (AnswersText partial a (Fails (Needs n))
      × (m ≡ needed (size_of n - length (past_text (bytes_in a.tokens))))))

  -- what the record of text answers of the text at the front; where it needs more, and what follows
  -- the text is damaged, a cut at that place
  abbrev pub InUtf8 : Meaning O ℕ
  InUtf8 partial a (Gives x b) = (c : Ahead ℕ) × (AnswersText partial a (Gives x c) × (b ≡ left_at a c))
  InUtf8 partial a (Fails (Backtracks b)) = (c : Ahead ℕ) × (AnswersText partial a (Fails (Backtracks c)) × (b ≡ left_at a c))
  InUtf8 partial a (Fails (Cuts b)) = ((c : Ahead ℕ) × (AnswersText partial a (Fails (Cuts c)) × (b ≡ left_at a c)))
      ⊎ (MeetsDamage partial a × (b ≡ past a (utf8_valid_len (bytes_in a.tokens))))
  InUtf8 partial a (Fails (Needs m)) = NeedsBytes partial a m
  InUtf8 partial a (Fails Refuses) = AnswersText partial a (Fails Refuses)
