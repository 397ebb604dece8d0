-- What a feed waits for.
use Rattle.std.specs.Prelude.{◌≡◌, ℕ, ◌≤◌, ◌<◌, true, false, List, [], ◌++◌, length, take, Option, Some, IsSome, IfSome, slice_get, ⊤}
use Rattle.std.specs.List.{AllByRecursion}
use Rattle.winnow_stream.specs.Source.{Source}
use Rattle.winnow_stream.specs.Cursor.{start, rest, cursor_after}
use Rattle.winnow_sets.specs.declared.char_set.CharSet.{CharSet}
use Rattle.winnow_sets.specs.Sets.{char_ranges, least_of_first}
use Rattle.winnow_match.specs.Search.{needle_list}
use Rattle.winnow_script_run.specs.declared.need.Need.{Need}
use Rattle.winnow_script_run.specs.declared.need.Need.TheVariants as need
use Rattle.winnow_script_run.specs.declared.script.Step.{Step}
use Rattle.winnow_script_run.specs.Needs.{call_need}
use Rattle.winnow_script_run.specs.declared.search_steps.SearchStep.{SearchStep}
use Rattle.winnow_script_run.specs.declared.search_steps.SearchStep.TheVariants as step
use Rattle.winnow_script_run.specs.Searching.{PlacedSearchAnswer, search_answers, search_next}
use Rattle.winnow_script_run.specs.Definite.{PieceReading, kind_on_pieces}
use Rattle.winnow_script_feed.specs.declared.progress.Progress.{Progress}
use Rattle.winnow_script_feed.specs.declared.waiting.Waiting.{Waiting}
use Rattle.winnow_script_feed.specs.declared.waiting.Waiting.TheVariants as waiting
use Rattle.winnow_script_feed.specs.Inputs.{PieceStep, InputRules, joined}
use Rattle.winnow_script_attempt.specs.Missing.{missing}
use Rattle.winnow_script_feed.specs.JoinedInput.{IsRunOver, next_step}
use Rattle.winnow_script_feed.specs.ToldAnswers.{out_on, told_of}
use Rattle.winnow_script_feed.specs.Feeding.{FeedState, Fits, script_of}

-- for each joined input that the run stands for, this is what its next step is missing there
abbrev pub GivesMissing : {T L : Type 0} → PieceReading T CharSet L → ℕ → (ℕ → List ℕ) → Source T
    → Progress T L → Option (List ℕ) → Type 0
GivesMissing {T} {L} k greatest spell kept p told =
    (all : Source T) (stands : IsRunOver true k all kept p) (s : SearchStep CharSet L)
    → next_step p ≡ Some s → told ≡ missing k greatest spell (rest all stands.at) s

-- for each joined input that the run stands for, its next step is missing something there
abbrev pub MissesSome : {T L : Type 0} → PieceReading T CharSet L → ℕ → (ℕ → List ℕ) → Source T
    → Progress T L → Type 0
MissesSome {T} {L} k greatest spell kept p =
    (all : Source T) (stands : IsRunOver true k all kept p) (s : SearchStep CharSet L)
    → next_step p ≡ Some s → IsSome (missing k greatest spell (rest all stands.at) s)

-- the token that `least_of_first` gives for the set of which a token is needed, if there is one, is
-- one of the kind
abbrev pub IsNeedSpelt : InputRules → Need CharSet → Type 0
IsNeedSpelt i (need.TokenOf set) = IfSome (least_of_first i.greatest (char_ranges set)) (λ token. i.is_token token ≡ true)
IsNeedSpelt i _ = ⊤

-- what a step names fits the kind of input: its literals are valid, and so is the token that stands
-- for its set
abbrev pub IsSpelt : InputRules → PieceStep → Type 0
IsSpelt i (step.Call s) = IsNeedSpelt i (call_need s)
IsSpelt i (step.Compare literal) = i.valid (i.pieces.literal literal) ≡ true
IsSpelt i (step.Find needles) = AllByRecursion (λ needle. i.valid needle ≡ true) (needle_list i.pieces.literal needles)

module _ (i : InputRules) (script : List PieceStep) where
  -- what a step of the script answers on a joined input
  abbrev pub answer_on : ℕ → List ℕ → Option (PlacedSearchAnswer ℕ)
  answer_on n input = slice_get (search_answers (kind_on_pieces i.pieces) (i.source input) script) n

  -- the number of the step that waits on a joined input, the step, and what remains there
  abbrev pub waiting_number : List ℕ → ℕ
  waiting_number input = length (out_on i script input)

  abbrev pub waiting_step : List ℕ → Option PieceStep
  waiting_step input = slice_get script (waiting_number input)

  abbrev pub waiting_rest : List ℕ → Source ℕ
  waiting_rest input = rest (i.source input) (cursor_after (search_next (i.source input)) (take (waiting_number input) script) start)

  -- what that step is missing
  abbrev pub missing_on : List ℕ → PieceStep → Option (List ℕ)
  missing_on input s = missing i.pieces i.greatest i.pieces.write (waiting_rest input) s

  -- these bytes are valid, they are what the waiting step is missing, and appending them changes
  -- its answer
  pub record IsMissing (input more : List ℕ) : Type 0 where
    pub s : PieceStep
    pub waits : waiting_step input ≡ Some s
    pub named : missing_on input s ≡ Some more
    pub valid : i.valid more ≡ true
    pub changes : ¬ (answer_on (waiting_number input) (input ++ more)
        ≡ answer_on (waiting_number input) input)

  -- the waiting step needs a token of a set that holds none, as `First` may, and no further input
  -- changes its answer
  pub record WaitsToEnd (input : List ℕ) : Type 0 where
    pub call : Step CharSet
    pub waits : waiting_step input ≡ Some (step.Call call)
    pub set : CharSet
    pub needs : call_need call ≡ need.TokenOf set
    pub holds_none : (token : ℕ) → i.is_token token ≡ true → i.pieces.holds set token ≡ false
    pub never : (more : List ℕ) → AllByRecursion (λ byte. byte ≤ 255) more → i.valid more ≡ true
        → answer_on (waiting_number input) (input ++ more) ≡ answer_on (waiting_number input) input

  -- what a feed waits for after these pieces, where `bytes` gives the bytes of what is missing
  abbrev pub WaitsFor : {P : Type 0} → (P → List ℕ) → List (List ℕ) → Waiting P → Type 0
  WaitsFor bytes pieces waiting.NotFed = pieces ≡ []
  WaitsFor bytes pieces waiting.NotWaiting = (0 < length pieces) × (length script ≤ length (told_of i script pieces))
  WaitsFor bytes pieces (waiting.Until more) = (0 < length pieces) × IsMissing (joined pieces) (bytes more)
  WaitsFor bytes pieces waiting.ToEnd = (0 < length pieces) × WaitsToEnd (joined pieces)

  -- after these pieces, a step waits and is missing something
  abbrev pub MissesMore : List (List ℕ) → Type 0
  MissesMore pieces = (0 < length pieces) × ((s : PieceStep) × (waiting_step (joined pieces) ≡ Some s) × IsSome (missing_on (joined pieces) s))

-- this is what the feed waits for, for all pieces that it fits
abbrev pub GivesWaiting : {P : Type 0} → InputRules → (P → List ℕ) → FeedState → Waiting P → Type 0
GivesWaiting i bytes f waiting = (pieces : List (List ℕ)) → Fits i f pieces → WaitsFor i (script_of f) bytes pieces waiting

-- for all pieces that the feed fits, a step waits and is missing something
abbrev pub WantsMore : InputRules → FeedState → Type 0
WantsMore i f = (pieces : List (List ℕ)) → Fits i f pieces → MissesMore i (script_of f) pieces
