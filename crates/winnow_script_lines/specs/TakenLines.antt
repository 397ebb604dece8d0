-- What a line of pieces does to a feed and to a report.
use Rattle.std.specs.Prelude.{◌≡◌, ℕ, ◌+◌, List, ◌++◌, length, drop, string_bytes}
use Rattle.winnow_script_attempt.specs.declared.told.Told.{Told}
use Rattle.winnow_script_feed.specs.Feeding.{FeedState, Fits, FitsWith, Finishes, answers_in, script_of}
use Rattle.winnow_script_feed.specs.Inputs.{InputRules}
use Rattle.winnow_script_feed.specs.ToldAnswers.{capped, told_of}
use Rattle.winnow_script_feed.specs.Waits.{GivesWaiting}
use Rattle.winnow_script_feed.specs.declared.finished.Finished.{Finished}
use Rattle.winnow_script_feed.specs.declared.waiting.Waiting.{Waiting}
use Rattle.winnow_script_lines.specs.declared.fed_lines.FedLine.{FedLine}
use Rattle.winnow_script_lines.specs.declared.fed_lines.FedLine.TheVariants.{Piece, Waits}
use Rattle.winnow_script_print.specs.AnswerLines.{bytes_word}
use Rattle.winnow_script_lines.specs.ReportLines.{told_lines, waiting_line}
use Rattle.winnow_script_lines.specs.declared.report.Report.{Report}

module _ {P : Type 0} (i : InputRules) (bytes : P → List ℕ) where
  -- the report has the further answers that are out, then what the feed waits for
  pub record DenotesWaiting (f : FeedState) (r s : Report) : Type 0 where
    pub answers : List (Told ℕ)
    pub waiting : Waiting P
    pub out : (pieces : List (List ℕ)) → Fits i f pieces → answers ≡ told_of i (script_of f) pieces
    pub waits : GivesWaiting i bytes f waiting
    pub text : string_bytes s.text
        ≡ (string_bytes r.text ++ told_lines (λ t. t) (drop r.answers answers))
        ++ waiting_line (λ more. bytes_word (bytes more)) r.pieces waiting
    pub told : s.answers ≡ length answers
    pub pieces : s.pieces ≡ r.pieces

  -- the feed has taken the piece, and the report has counted it
  pub record CountsPiece (piece : P) (f : FeedState) (r : Report) (g : FeedState) (s : Report) : Type 0 where
    pub fits : FitsWith i f (bytes piece) g
    pub script : script_of g ≡ script_of f
    pub text : s.text ≡ r.text
    pub told : s.answers ≡ r.answers
    pub pieces : s.pieces ≡ capped (r.pieces + 1)

  -- the feed and the report have taken the line
  abbrev pub TakesLine : FedLine P → FeedState → Report → FeedState → Report → Type 0
  TakesLine (Piece piece) f r g s = CountsPiece piece f r g s
  TakesLine Waits f r g s = (g ≡ f) × DenotesWaiting f r s

-- the report has all answers that it did not have before, after the input has ended
pub record ReportsAll (i : InputRules) (f : FeedState) (r s : Report) : Type 0 where
  pub finished : Finished ℕ
  pub ends : (pieces : List (List ℕ)) → Fits i f pieces → Finishes i (script_of f) pieces finished
  pub text : string_bytes s.text ≡ string_bytes r.text
      ++ told_lines (λ t. t) (drop r.answers (answers_in finished))
