-- What a run over pieces has printed, line by line.
use Rattle.std.proofs.Common.{◌≡◌, ℕ, ◌+◌, ◌<◌, ◌≤◌, List, [], ◌∷◌, ◌++◌, length, take, drop, get_or, sum_by, refl, ap, sym, ◌∙◌, append_assoc, arith, length-append, string_bytes}
use Rattle.std.proofs.lemmas.List.{drop_more, drop_all}
use Rattle.winnow_script_attempt.specs.declared.told.Told.{Told}
use Rattle.winnow_script_feed.specs.Feeding.{FeedState, Fits, FitsWith, Finishes, answers_in, script_of}
use Rattle.winnow_script_feed.specs.Inputs.{InputRules, PieceStep, joined}
use Rattle.winnow_script_feed.specs.ToldAnswers.{capped, told_of}
use Rattle.winnow_script_feed.specs.Waits.{WaitsFor, GivesWaiting}
use Rattle.winnow_script_feed.specs.declared.finished.Finished.{Finished}
use Rattle.winnow_script_feed.specs.declared.waiting.Waiting.{Waiting}
use Rattle.winnow_script_lines.specs.Inputs.{piece_length}
use Rattle.winnow_script_lines.specs.declared.fed_lines.FedLine.{FedLine}
use Rattle.winnow_script_lines.specs.declared.fed_lines.FedLine.TheVariants.{Piece, Waits}
use Rattle.winnow_script_print.specs.AnswerLines.{bytes_word}
use Rattle.winnow_script_lines.specs.TakenLines.{TakesLine}
use Rattle.winnow_script_lines.specs.ReportLines.{told_lines, waiting_line, Prints}
use Rattle.winnow_script_lines.specs.declared.report.Report.{Report}
use Rattle.winnow_script_lines.proofs.lemmas.FedPieceLemmas.{length-joined_push, length-joined_same}

module _ {L : Type 0} (i : InputRules) (script : List PieceStep) (bytes : L → List ℕ) (lines : List (FedLine L)) where
  -- the first k lines were run: their pieces were fed, n answers are printed, and what the further
  -- lines print is appended to the text
  pub record HasPrinted (k : ℕ) (f : FeedState) (n count : ℕ) (text : List ℕ) : Type 0 where
    pub pieces : List (List ℕ)
    pub fits : Fits i f pieces
    pub script_is : script_of f ≡ script
    pub length_is : length (joined pieces) ≡ sum_by (piece_length bytes) (take k lines)
    pub count_is : count ≡ capped (length pieces)
    pub further : (later : List ℕ) → Prints i script bytes pieces n (drop k lines) later
        → Prints i script bytes [] 0 lines (text ++ later)

  -- before the first line, nothing is printed
  pub printed-none : (f : FeedState) (text : List ℕ) → Fits i f [] → script_of f ≡ script
      → text ≡ [] → HasPrinted 0 f 0 0 text
  printed-none f text fits same none = record {
    pieces = [];
    fits = fits;
    script_is = same;
    length_is = refl;
    count_is = refl;
    further = λ later prints. rw none prints;
  }

  -- a count that stops at the greatest `u64` may be capped before or after it grows
  capped-more : (n : ℕ) → capped (capped n + 1) ≡ capped (n + 1)
  capped-more n = omega arith

  module _ (k : ℕ) (line d : FedLine L) (lt : k < length lines) (is : get_or lines k d ≡ line) where
    -- the lines from the k-th on are that line and the further ones
    further-lines : drop k lines ≡ line ∷ drop (k + 1) lines
    further-lines = drop_more lines k d lt ∙ ap (λ l. l ∷ drop (k + 1) lines) is

    -- a line with a piece feeds the piece, and prints nothing
    printed-piece : (f g : FeedState) (n count counted : ℕ) (text : List ℕ) (literal : L)
        (piece : List ℕ) → HasPrinted k f n count text
        → line ≡ Piece literal → piece ≡ bytes literal → FitsWith i f piece g → script_of g ≡ script_of f → counted ≡ capped (count + 1) → HasPrinted (k + 1) g n counted text
    printed-piece f g n count counted text literal piece before tells same more kept counts = record {
      pieces = before.pieces ++ piece ∷ [];
      fits = more before.pieces before.fits;
      script_is = kept ∙ before.script_is;
      length_is = length-joined_push bytes lines k d lt before.pieces before.length_is piece (ap length same ∙ sym (ap (piece_length bytes) (is ∙ tells)));
      count_is = counts ∙ ap (λ c. capped (c + 1)) before.count_is ∙ capped-more (length before.pieces) ∙ ap capped (sym (length-append before.pieces (piece ∷ [])));
      further = λ later prints. before.further later (rw (further-lines, tells) (rw (← same) prints));
    }

    -- a line that asks prints the answers that are out, then what the feed waits for
    printed-waits : (f : FeedState) (n count : ℕ) (text : List ℕ) (answers : List (Told ℕ))
        (waiting : Waiting L) → HasPrinted k f n count text
        → line ≡ Waits → ((pieces : List (List ℕ)) → Fits i f pieces → answers ≡ told_of i (script_of f) pieces) → GivesWaiting i bytes f waiting
        → HasPrinted (k + 1) f (length answers) count ((text ++ told_lines (λ t. t) (drop n answers)) ++ waiting_line (λ more. bytes_word (bytes more)) count waiting)
    printed-waits f n count text answers waiting before asks out waits =
        let told : answers ≡ told_of i script before.pieces = rw (← before.script_is) (out before.pieces before.fits) in
        let waits_for : WaitsFor i script bytes before.pieces waiting = rw (← before.script_is) (waits before.pieces before.fits) in
        let told_text = told_lines (λ t. t) (drop n answers) in
        let asked = waiting_line (λ more. bytes_word (bytes more)) count waiting in
        record {
          pieces = before.pieces;
          fits = before.fits;
          script_is = before.script_is;
          length_is = length-joined_same bytes lines k d lt before.pieces before.length_is (ap (piece_length bytes) (is ∙ asks));
          count_is = before.count_is;
          further = λ later prints.
              let here : Prints i script bytes before.pieces n (Waits ∷ drop (k + 1) lines) ((told_text ++ asked) ++ later) =
              (waiting, later, waits_for, rw told at prints, rw (told, before.count_is) refl) in
              rw (append_assoc text told_text asked, append_assoc text (told_text ++ asked) later)
              (before.further ((told_text ++ asked) ++ later) (rw (further-lines, asks) here));
        }

    -- each line that is taken keeps `HasPrinted`
    pub printed-line : (taken : FedLine L) (f g : FeedState) (r s : Report)
        → HasPrinted k f r.answers r.pieces (string_bytes r.text)
        → line ≡ taken → TakesLine i bytes taken f r g s → HasPrinted (k + 1) g s.answers s.pieces (string_bytes s.text)
    printed-line (Piece piece) f g r s before same takes =
        rw (takes.text, takes.told) (printed-piece f g r.answers r.pieces s.pieces (string_bytes r.text) piece (bytes piece) before same refl takes.fits takes.script takes.pieces)
    printed-line Waits f g r s before same takes =
        let tells = takes.1 in
        rw (takes.0, tells.text, tells.told, tells.pieces) (printed-waits f r.answers r.pieces (string_bytes r.text) tells.answers tells.waiting before same tells.out tells.waits)

  -- the end of the input prints all further answers
  pub printed-all : (k : ℕ) (f : FeedState) (n count : ℕ) (text : List ℕ) (finished : Finished ℕ)
      → HasPrinted k f n count text → length lines ≤ k
      → ((pieces : List (List ℕ)) → Fits i f pieces → Finishes i (script_of f) pieces finished) → Prints i script bytes [] 0 lines (text ++ told_lines (λ t. t) (drop n (answers_in finished)))
  printed-all k f n count text finished before done ends =
      let all = rw before.script_is at (ends before.pieces before.fits).answers in
      before.further _ (rw (drop_all k lines done) (ap (λ a. told_lines (λ t. t) (drop n a)) all))
