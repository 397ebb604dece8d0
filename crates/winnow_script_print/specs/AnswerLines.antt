-- The line that is printed for an answer.
use Rattle.std.specs.Prelude.{ℕ, Bool, true, false, List, [], ◌∷◌, ◌++◌, flat_map, Option, Some, None, Result, Ok, Err, codes, decimal}
use Rattle.std.specs.declared.ops.Range.{Range}
use Rattle.hex.specs.Hex.{encode_lower}
use Rattle.winnow_match.specs.declared.compare.CompareResult.{CompareResult}
use Rattle.winnow_match.specs.declared.compare.CompareResult.TheVariants as compared
use Rattle.winnow_script_run.specs.declared.script.Answer.{Answer}
use Rattle.winnow_script_run.specs.declared.script.Answer.TheVariants as answer
use Rattle.winnow_script_run.specs.declared.search_steps.SearchAnswer.{SearchAnswer}
use Rattle.winnow_script_run.specs.declared.search_steps.SearchAnswer.TheVariants as search
use Rattle.winnow_stream.specs.declared.needed.Needed.{Needed}
use Rattle.winnow_stream.specs.declared.needed.Needed.TheVariants.{Unknown, Size}

-- the word for bytes: `-` for none, else two digits for each byte
abbrev pub bytes_word : List ℕ → List ℕ
bytes_word [] = codes " -"
bytes_word (byte ∷ bytes) = codes " " ++ encode_lower (byte ∷ bytes)

-- the word for a place: its start and its end
abbrev pub place_word : Range ℕ → List ℕ
place_word place = codes " " ++ decimal place.start ++ codes ".." ++ decimal place.end

-- the word for an item: its offset, and the number of its token
abbrev pub item_word : {T : Type 0} → (T → ℕ) → ℕ × T → List ℕ
item_word code item = codes " " ++ decimal item.0 ++ codes ":" ++ decimal (code item.1)

-- the words for a list of items
abbrev pub item_words : {T : Type 0} → (T → ℕ) → List (ℕ × T) → List ℕ
item_words code items = flat_map (item_word code) items

abbrev pub token_words : {T : Type 0} → (T → ℕ) → Option T → List ℕ
token_words code None = codes "token none"
token_words code (Some token) = codes "token " ++ decimal (code token)

abbrev pub at_words : Result ℕ Needed → List ℕ
at_words (Ok offset) = codes "at " ++ decimal offset
at_words (Err (Size missing)) = codes "at needs " ++ decimal missing.value
at_words (Err Unknown) = codes "at needs more"

abbrev pub flag_words : Bool → List ℕ
flag_words true = codes "is true"
flag_words false = codes "is false"

abbrev pub offset_words : Option ℕ → List ℕ
offset_words None = codes "first none"
offset_words (Some offset) = codes "first " ++ decimal offset

abbrev pub compared_words : CompareResult → List ℕ
compared_words (compared.Ok width) = codes "compare ok " ++ decimal width
compared_words compared.Incomplete = codes "compare incomplete"
compared_words compared.Error = codes "compare error"

abbrev pub hit_words : Option (Range ℕ) → List ℕ
hit_words None = codes "find none"
hit_words (Some place) = codes "find" ++ place_word place

-- a line of words, with its newline
abbrev pub line : List ℕ → List ℕ
line words = words ++ codes "\n"

-- the word for the piece that made an answer definite: its number, or `end`
abbrev pub piece_word : Option ℕ → List ℕ
piece_word None = codes "end "
piece_word (Some number) = decimal number ++ codes " "

-- the words for an answer, where `code` gives the number of a token, and the others the words of a
-- slice and of items
module _ {T S L : Type 0} (code : T → ℕ) (slice_words : S → List ℕ) (list_words : L → List ℕ) where
  abbrev pub call_words : Answer T S L Needed → List ℕ
  call_words (answer.Token token) = token_words code token
  call_words (answer.Slice slice) = codes "slice" ++ slice_words slice
  call_words (answer.Offset width) = codes "offset " ++ decimal width
  call_words (answer.At offset) = at_words offset
  call_words (answer.Flag flag) = flag_words flag
  call_words (answer.First offset) = offset_words offset
  call_words (answer.Items items) = codes "items" ++ list_words items
  call_words (answer.Marked number) = codes "mark " ++ decimal number
  call_words answer.Done = codes "done"
  call_words answer.BadOffset = codes "bad offset"
  call_words answer.NoMark = codes "no mark"
  call_words answer.LaterMark = codes "later mark"

  abbrev pub answer_words : SearchAnswer T S L → List ℕ
  answer_words (search.Call call) = call_words call
  answer_words (search.Compared compared) = compared_words compared
  answer_words (search.Hit hit) = hit_words hit

  -- the line of an answer
  abbrev pub answer_line : SearchAnswer T S L → List ℕ
  answer_line given = line (answer_words given)

  -- the lines of all answers, in order
  abbrev pub answer_lines : List (SearchAnswer T S L) → List ℕ
  answer_lines given = flat_map answer_line given

  -- the line of an answer over pieces
  abbrev pub numbered_line : Option ℕ → SearchAnswer T S L → List ℕ
  numbered_line piece given = piece_word piece ++ answer_line given
