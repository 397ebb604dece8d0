use Rattle.std.proofs.lemmas.Result.{on_ok_weaker}
use Rattle.winnow_script_lines.proofs.runs.end_byte_feed.Goals as goal

-- the report has the answers that the end gave
pub returns : goal.returns
returns c =
    on_ok_weaker c.push_answers.result (λ text. record {
      finished = c.end.result;
      ends = c.end.ensures;
      text = rw c.answers.ensures at text;
    }) c.push_answers.ensures.text
