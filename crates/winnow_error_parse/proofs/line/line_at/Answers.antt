use Rattle.std.proofs.Common.{◌≡◌, ◌∙◌, ◌-◌, ◌≤◌, length, take, drop, min, ap, arith, length-take, length-drop}
use Rattle.std.specs.Prelude.{count_by}
use Rattle.std.specs.List.{before_first}
use Rattle.std.proofs.lemmas.List.{take_all}
use Rattle.winnow_error_parse.specs.Position.{is_newline}
use Rattle.winnow_error_parse.specs.ParseErrorText.{nth_line}
use Rattle.winnow_error_parse.proofs.lemmas.NthLineLemmas.{nth_line-at}
use Rattle.winnow_error_parse.proofs.line.line_at.Goals as goal

pub returns : goal.returns
returns c =
    let bytes = c.args.bytes.now in
    let place = c.min-place.result in
    let start = c.line_start-start.result in
    let is_place = c.min-place.ensures ∙ ap (min c.args.offset) c.saturating_sub.ensures in
    let in_bytes : place ≤ length bytes = omega (arith, is_place) in
    let before : length (take place bytes) ≡ place = simp length-take (omega arith) in
    let whole : length (drop start bytes) ≤ length bytes - start = simp length-drop (omega arith) in
    c.first_line.ensures
    ∙ ap (before_first is_newline) (take_all (length bytes - start) (drop start bytes) whole)
    ∙ nth_line-at bytes place start in_bytes (omega (arith, before, c.line_start-start.ensures.within)) (λ k p q. c.line_start-start.ensures.on_line k p (omega (arith, before, q))) c.line_start-start.ensures.behind_newline
    ∙ ap (λ n. nth_line bytes (count_by is_newline (take n bytes))) is_place
