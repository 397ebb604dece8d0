-- The lines of the answers that a run gives are those of the script's answers.
use Rattle.std.proofs.Common.{◌≡◌, ℕ, Bool, List, [], ◌∷◌, ◌++◌, codes, refl, ap, sym, ◌∙◌}
use Rattle.std.specs.Borrow.{Bor}
use Rattle.std.specs.Global.{Vec}
use Rattle.winnow_match.specs.Bytes.{written}
use Rattle.winnow_sets.specs.declared.char_set.CharSet.{CharSet}
use Rattle.winnow_stream.specs.Cursor.{Cursor, start, answers_from}
use Rattle.winnow_script_run.specs.Definite.{PieceReading, kind_on_pieces}
use Rattle.winnow_stream.specs.Front.{front}
use Rattle.winnow_script_feed.specs.Inputs.{PieceStep}
use Rattle.winnow_match.specs.Comparison.{comparison}
use Rattle.winnow_script_run.specs.Script.{PlacedAnswer, StandsFor, AreGiven}
use Rattle.winnow_match.specs.Search.{hit, needle_list}
use Rattle.winnow_script_run.specs.Searching.{PlacedSearchAnswer, search_answer, search_next, SearchStandsFor, SearchComputes, IsSearchAnswer}
use Rattle.winnow_stream.specs.Source.{Source}
use Rattle.winnow_script_run.specs.declared.script.Answer.{Answer}
use Rattle.winnow_script_run.specs.declared.script.Answer.TheVariants as answer
use Rattle.winnow_script_run.specs.declared.need.Need.{Need}
use Rattle.winnow_script_run.specs.declared.need.Need.TheVariants as need
use Rattle.winnow_script_run.specs.Needs.{call_need}
use Rattle.winnow_script_run.specs.declared.search_steps.SearchAnswer.{SearchAnswer}
use Rattle.winnow_script_run.specs.declared.search_steps.SearchAnswer.TheVariants as search
use Rattle.winnow_script_run.specs.declared.search_steps.SearchStep.TheVariants as step
use Rattle.winnow_stream.specs.declared.needed.Needed.{Needed}
use Rattle.winnow_script_print.specs.AnswerLines.{bytes_word, item_words, call_words, answer_line, answer_lines}
use Rattle.winnow_script_lines.specs.ScriptLines.{slice_word, listed_words}
use Rattle.std.specs.Prelude.{true, false}
use Rattle.winnow_match.proofs.lemmas.ByteLemmas.{bytes_of-units}
use Rattle.winnow_script_run.specs.declared.search_steps.SearchStep.{SearchStep}
use Rattle.winnow_script_attempt.specs.Looks.{in_set}
use Rattle.winnow_script_feed.specs.Inputs.{byte_reading, text_reading}
use Rattle.winnow_match.specs.Bytes.{bytes_of, utf8_of}
use Rattle.winnow_script_run.specs.Script.{NeedComputes}
use Rattle.winnow_match.specs.Search.{bytes_of_needles}
use Rattle.winnow_script_run.specs.Searching.{AreSearchAnswers}
use Rattle.winnow_stream.specs.Source.{units}
use Rattle.winnow_stream.specs.Text.{text_source}
use Rattle.winnow_script_lines.specs.ScriptLines.{whole_lines}
use Rattle.winnow_script_print.specs.HeldNumbers.{HoldsNumber}

-- a given answer has the same line as the answer of the definition that it stands for
module _ {S : Type 0} (k : PieceReading ℕ CharSet (Bor (List ℕ))) (all : Source ℕ) (is_slice : S → Source ℕ → ℕ → Type 0) (words : S → List ℕ) (slice_is : (s : S) (r : Source ℕ) (n : ℕ) → is_slice s r n → words s ≡ bytes_word (written k.write (front r n))) where
  call-line : (a : PlacedAnswer ℕ) (given : Answer ℕ S (Vec (ℕ × ℕ)) Needed)
      → StandsFor is_slice all a given
      → call_words (λ t. t) words (λ v. item_words (λ t. t) v.items) given ≡ call_words (λ t. t) (slice_word k all) (listed_words k all) a
  call-line (answer.Token t) given e = rw e refl
  call-line (answer.Slice p) given h = rw h.1 (ap (λ w. codes "slice" ++ w) (slice_is h.0 _ _ h.2))
  call-line (answer.Offset n) given e = rw e refl
  call-line (answer.At r) given e = rw e refl
  call-line (answer.Flag b) given e = rw e refl
  call-line (answer.First o) given e = rw e refl
  call-line (answer.Items p) given h = rw h.1 (ap (λ xs. codes "items" ++ item_words (λ t. t) xs) h.2)
  call-line (answer.Marked k) given e = rw e refl
  call-line answer.Done given e = rw e refl
  call-line answer.BadOffset given e = rw e refl
  call-line answer.NoMark given e = rw e refl
  call-line answer.LaterMark given e = rw e refl

  -- the given answer of any step has the same line, too
  line-given : (a : PlacedSearchAnswer ℕ) (given : SearchAnswer ℕ S (Vec (ℕ × ℕ)))
      → SearchStandsFor is_slice all a given
      → answer_line (λ t. t) words (λ v. item_words (λ t. t) v.items) given ≡ answer_line (λ t. t) (slice_word k all) (listed_words k all) a
  line-given (search.Call a) given h = rw h.1 (ap (λ w. w ++ codes "\n") (call-line a h.0 h.2))
  line-given (search.Compared c) given e = rw e refl
  line-given (search.Hit o) given e = rw e refl

  module _ (may_answer : CharSet → ℕ → Bool → Type 0) (computes : (s : PieceStep) → SearchComputes may_answer k.holds s) where
    -- the given answers of a script have the lines of the definition's
    pub lines-given : (script : List PieceStep) (at : Cursor)
        (given : List (SearchAnswer ℕ S (Vec (ℕ × ℕ))))
        → AreGiven (IsSearchAnswer may_answer is_slice k.counts_shortage (λ literal r. comparison (k.literal literal) (written k.write r)) (λ needles r. hit (needle_list k.literal needles) (written k.write r)) all) (search_next all) script at given
        → answer_lines (λ t. t) words (λ v. item_words (λ t. t) v.items) given ≡ answer_lines (λ t. t) (slice_word k all) (listed_words k all) (answers_from (search_answer (kind_on_pieces k) all) (search_next all) script at)
    lines-given [] at [] are = refl
    lines-given [] at (g ∷ given) are = absurd are
    lines-given (s ∷ script) at [] are = absurd are
    lines-given (s ∷ script) at (g ∷ given) are =
        ap (λ l. l ++ answer_lines (λ t. t) words (λ v. item_words (λ t. t) v.items) given) (line-given _ g (are.0 k.holds (computes s)))
        ∙ ap (λ l. answer_line (λ t. t) (slice_word k all) (listed_words k all) (search_answer (kind_on_pieces k) all s at) ++ l) (lines-given script (search_next all s at) given are.1)

-- each set answers whether it holds a token
module _ {T : Type 0} (code : T → ℕ) where
  need-computes : (n : Need CharSet) → NeedComputes (HoldsNumber code) (in_set code) n
  need-computes (need.TokenOf set) = λ token answer is. is
  need-computes need.Nothing = tt
  need-computes need.Token = tt
  need-computes (need.Width n) = tt
  need-computes (need.Tokens n) = tt
  need-computes need.End = tt

  -- the set of any step answers whether it holds a token
  step-computes : {L : Type 0} (s : SearchStep CharSet L)
      → SearchComputes (HoldsNumber code) (in_set code) s
  step-computes (step.Call s) = need-computes (call_need s)
  step-computes (step.Compare literal) = tt
  step-computes (step.Find needles) = tt

-- the lines that a run on bytes gives are those of the script's answers
pub byte_lines-given : (input : List ℕ) (script : List PieceStep)
    (given : List (SearchAnswer ℕ (Bor (List ℕ)) (Vec (ℕ × ℕ))))
    → AreSearchAnswers (HoldsNumber (λ byte. byte)) (λ s r n. units s.now ≡ front r n) true (λ literal r. comparison literal.now (bytes_of r)) (λ needles r. hit (bytes_of_needles needles) (bytes_of r)) (units input) script given
    → answer_lines (λ byte. byte) (λ s. bytes_word s.now) (λ v. item_words (λ byte. byte) v.items) given ≡ whole_lines byte_reading (units input) script
byte_lines-given input script given are =
    lines-given byte_reading (units input) (λ s r n. units s.now ≡ front r n) (λ s. bytes_word s.now) (λ s r n e. ap bytes_word (sym (bytes_of-units s.now) ∙ ap bytes_of e)) (HoldsNumber (λ byte. byte)) (step-computes (λ byte. byte)) script start given are

-- the lines that a run on text gives are those of the script's answers
pub text_lines-given : (input : List ℕ) (script : List PieceStep)
    (given : List (SearchAnswer ℕ (Bor (List ℕ)) (Vec (ℕ × ℕ))))
    → AreSearchAnswers (HoldsNumber (λ c. c)) (λ s r n. text_source s.now ≡ front r n) false (λ literal r. comparison literal.now (utf8_of r)) (λ needles r. hit (bytes_of_needles needles) (utf8_of r)) (text_source input) script given
    → answer_lines (λ c. c) (λ s. bytes_word (utf8_of (text_source s.now))) (λ v. item_words (λ c. c) v.items) given ≡ whole_lines text_reading (text_source input) script
text_lines-given input script given are =
    lines-given text_reading (text_source input) (λ s r n. text_source s.now ≡ front r n) (λ s. bytes_word (utf8_of (text_source s.now))) (λ s r n e. ap (λ r. bytes_word (utf8_of r)) e) (HoldsNumber (λ c. c)) (step-computes (λ c. c)) script start given are
