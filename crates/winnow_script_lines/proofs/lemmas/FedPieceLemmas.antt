-- A feed that was fed the pieces of the first n lines.
use Rattle.std.proofs.Common.{◌≡◌, ℕ, ◌+◌, ◌<◌, ◌≤◌, List, [], ◌∷◌, ◌++◌, length, take, get_or, sum_by, arith, length-append}
use Rattle.std.proofs.lemmas.List.Sums.{sum_by_more, sum_by_more_le}
use Rattle.winnow_script_feed.specs.Inputs.{InputRules, joined}
use Rattle.winnow_script_feed.specs.Feeding.{FeedState, Fits, bytes_fed}
use Rattle.winnow_script_feed.proofs.lemmas.FeedLemmas.{fed}
use Rattle.winnow_script_feed.proofs.lemmas.InputLemmas.{IsInput, joined-push}
use Rattle.winnow_script_lines.specs.Inputs.{piece_length}
use Rattle.winnow_script_lines.specs.declared.fed_lines.FedLine.{FedLine}

module _ {L : Type 0} (bytes : L → List ℕ) (lines : List (FedLine L)) (n : ℕ) (line : FedLine L) (lt : n < length lines) (pieces : List (List ℕ)) (so_far : length (joined pieces) ≡ sum_by (piece_length bytes) (take n lines)) where
  -- what was fed and the next piece are together no longer than the pieces of all lines
  pub bytes_fed-le : (i : InputRules) (law : IsInput i) (f : FeedState) → Fits i f pieces
      → bytes_fed f + piece_length bytes (get_or lines n line) ≤ sum_by (piece_length bytes) lines
  bytes_fed-le i law f fits =
      let stored = fed i law (joined pieces) f fits.stands in
      let within = sum_by_more_le (piece_length bytes) lines n line lt in
      omega (arith, stored, within, so_far)

  -- one more piece adds its length
  pub length-joined_push : (piece : List ℕ)
      → length piece ≡ piece_length bytes (get_or lines n line)
      → length (joined (pieces ++ piece ∷ [])) ≡ sum_by (piece_length bytes) (take (n + 1) lines)
  length-joined_push piece same =
      let more = sum_by_more (piece_length bytes) lines n line lt in
      let both = length-append (joined pieces) piece in
      rw (joined-push pieces piece) (omega (arith, more, both, same, so_far))

  -- a line without a piece adds no length
  pub length-joined_same : piece_length bytes (get_or lines n line) ≡ 0
      → length (joined pieces) ≡ sum_by (piece_length bytes) (take (n + 1) lines)
  length-joined_same none =
      let more = sum_by_more (piece_length bytes) lines n line lt in
      omega (arith, more, none, so_far)
