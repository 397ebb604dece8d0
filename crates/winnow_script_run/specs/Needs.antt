-- What a call needs of what remains, which mark it names, and how it moves the cursor.
use Rattle.std.specs.Prelude.{ℕ, Bool, true, false, nat_le, is_some, is_ok, List, Option, None, Some, slice_get}
use Rattle.winnow_stream.specs.Source.{Source, width, first_token, first_offset}
use Rattle.winnow_stream.specs.Shortage.{offset_at}
use Rattle.winnow_script_run.specs.declared.need.Need.{Need}
use Rattle.winnow_script_run.specs.declared.need.Need.TheVariants as need
use Rattle.winnow_script_run.specs.declared.script.Step.{Step}
use Rattle.winnow_script_run.specs.declared.script.Step.TheVariants as step

-- what a call needs of what remains
abbrev pub call_need : {C : Type 0} → Step C → Need C
call_need step.Next = need.Token
call_need step.Peek = need.Token
call_need (step.Take n) = need.Width n
call_need (step.Look n) = need.Width n
call_need step.Finish = need.End
call_need step.PeekFinish = need.End
call_need step.Eof = need.End
call_need (step.At n) = need.Tokens n
call_need (step.IsOffset n) = need.Width n
call_need (step.First c) = need.TokenOf c
call_need step.Each = need.End
call_need step.Mark = need.Nothing
call_need (step.Reset k) = need.Nothing
call_need (step.Since k) = need.Nothing

-- what is needed is there if r remains
abbrev pub is_met : {C T : Type 0} → (C → T → Bool) → Bool → Need C → Source T → Bool
is_met holds counts_shortage need.Nothing r = true
is_met holds counts_shortage need.Token r = is_some (first_token r)
is_met holds counts_shortage (need.Width n) r = nat_le n (width r)
is_met holds counts_shortage (need.Tokens n) r = is_ok (offset_at counts_shortage r n)
is_met holds counts_shortage (need.TokenOf c) r = is_some (first_offset (holds c) r)
is_met holds counts_shortage need.End r = false

-- no input meets the need
abbrev pub is_end : {C : Type 0} → Need C → Bool
is_end need.End = true
is_end _ = false

-- the number of the mark that a call names, if it names one
abbrev pub call_mark : {C : Type 0} → Step C → Option ℕ
call_mark (step.Reset k) = Some k
call_mark (step.Since k) = Some k
call_mark _ = None

-- the mark with that number, if there is one
abbrev pub mark_of : List ℕ → Option ℕ → Option ℕ
mark_of marks None = None
mark_of marks (Some k) = slice_get marks k

-- how a call moves the cursor: not at all, past the first token, past a front of that width if
-- there is one, to the end, or back to the mark that it names. A call that marks adds the cursor to
-- the marks
pub data Move : Type 0 where
  stays : Move
  past_token : Move
  past_width : ℕ → Move
  to_end : Move
  to_mark : Move
  marking : Move

abbrev pub call_move : {C : Type 0} → Step C → Move
call_move step.Next = past_token
call_move (step.Take n) = past_width n
call_move step.Finish = to_end
call_move step.Mark = marking
call_move (step.Reset k) = to_mark
call_move _ = stays
