-- What a waiting step is missing: bytes that, appended to the input, change its answer.
use Rattle.std.specs.Prelude.{ℕ, Bool, ◌-◌, if◌then◌else◌, List, [], length, drop, replicate, Option, None, Some, is_some, option_map}
use Rattle.winnow_stream.specs.Source.{Source, width}
use Rattle.winnow_script_run.specs.declared.need.Need.{Need}
use Rattle.winnow_script_run.specs.declared.need.Need.TheVariants as need
use Rattle.winnow_script_run.specs.Needs.{call_need}
use Rattle.winnow_match.specs.Bytes.{written}
use Rattle.winnow_match.specs.Search.{hit, needle_of, needle_list}
use Rattle.winnow_match.specs.Stretch.{stretch_of}
use Rattle.winnow_match.specs.declared.needles.Stretch.{Stretch}
use Rattle.winnow_sets.specs.Sets.{char_ranges, least_of_first}
use Rattle.winnow_sets.specs.declared.char_set.CharSet.{CharSet}
use Rattle.winnow_script_run.specs.declared.search_steps.SearchStep.{SearchStep}
use Rattle.winnow_script_run.specs.declared.search_steps.SearchStep.TheVariants as step
use Rattle.winnow_script_run.specs.Definite.{PieceReading}

-- the greatest number of a byte, and that of a character
abbrev pub greatest_byte : ℕ
greatest_byte = 255

abbrev pub greatest_char : ℕ
greatest_char = 1114111

-- n letters `a`
abbrev pub letters : ℕ → List ℕ
letters n = replicate n 97

-- the rest of a needle inside which the bytes end
abbrev pub rest_of_needle : List (List ℕ) → List ℕ → Option Stretch → List ℕ
rest_of_needle needles bytes None = []
rest_of_needle needles bytes (Some s) = drop (length bytes - s.place) (needle_of needles s.needle)

-- what a search is missing: the first listed needle if there is no hit, and else the rest of the
-- needle that stretches
abbrev pub needle_missing : List (List ℕ) → List ℕ → List ℕ
needle_missing needles bytes = if is_some (hit needles bytes) then rest_of_needle needles bytes (stretch_of needles bytes) else needle_of needles 0

-- what a need is missing if r remains, where tokens have numbers up to `greatest` and `spell` gives
-- their bytes; `None` for a set that holds no such token
module _ {T : Type 0} (counts_shortage : Bool) (greatest : ℕ) (spell : ℕ → List ℕ) (r : Source T) where
  abbrev pub need_missing : Need CharSet → Option (List ℕ)
  need_missing (need.Width n) = Some (letters (n - width r))
  need_missing (need.Tokens n) = Some (letters (if counts_shortage then 1 else n - length r))
  need_missing (need.TokenOf set) = option_map spell (least_of_first greatest (char_ranges set))
  need_missing _ = Some (letters 1)

-- what a step is missing; for a comparison, that is the rest of the literal
module _ {T L : Type 0} (k : PieceReading T CharSet L) (greatest : ℕ) (spell : ℕ → List ℕ) (r : Source T) where
  abbrev pub missing : SearchStep CharSet L → Option (List ℕ)
  missing (step.Call s) = need_missing k.counts_shortage greatest spell r (call_need s)
  missing (step.Compare literal) = Some (drop (length (written k.write r)) (k.literal literal))
  missing (step.Find needles) = Some (needle_missing (needle_list k.literal needles) (written k.write r))
