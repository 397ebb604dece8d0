use Rattle.std.proofs.Common.{rules, ◌≡◌, ℕ, ◌+◌, List, [], ◌++◌, take, get_or, ap, sym, ◌∙◌, subst, arith}
use Rattle.std.proofs.lemmas.List.{take_all}
use Rattle.std.specs.Borrow.{Bor}
use Rattle.winnow.specs.InTurn.{StandInTurn, StandInTurn-read}
use Rattle.winnow_base.specs.Inputs.{joined, pieces_in}
use Rattle.winnow_script_feed.proofs.lemmas.InputLemmas.{joined-push}
use Rattle.winnow_script_feed.proofs.lemmas.PieceLemmas.{taken-more}
use Rattle.example_lines.specs.Lines.{HasLines, LineStands, OneLine, IsParser-OneLine, first_end}
use Rattle.example_lines.proofs.lemmas.ReadingLemmas.{lacks-end, gives-lines}
use Rattle.example_lines.proofs.program.print_lines.Goals as goal

pub loop-i-preserved : goal.loop-i-preserved
loop-i-preserved g c =
    let i = c.loop-i.i in
    let pieces = c.args.pieces.now in
    let none : Bor (List ℕ) = record { ref_ptr = (0, 0); now = [] } in
    let piece : List ℕ = (get_or pieces i none).now in
    let before : List ℕ = joined (pieces_in (take i pieces)) in
    let more : before ++ piece ≡ joined (pieces_in (take (i + 1) pieces)) =
    sym (ap joined (taken-more pieces i none c.loop-i-test.true) ∙ joined-push (pieces_in (take i pieces)) piece) in
    let fed = c.in_ok-push.ensures.read before c.loop-i.lines.items c.loop-i.invariant.read in
    record {
      goes_on = c.in_ok-read_lines.ensures.ended;
      read = subst (λ input. HasLines c.read_lines.new.reader input c.read_lines.new.lines.items) more (c.in_ok-read_lines.ensures.read (before ++ piece) fed);
      all = lacks-end c.read_lines.new.reader (c.in_ok-read_lines.ensures.all (before ++ piece) fed);
    }

pub returns : goal.returns
returns g c =
    let i = c.loop-i.i in
    let pieces = c.args.pieces.now in
    let whole : take i pieces ≡ pieces = take_all i pieces (omega (arith, c.loop-i-test.false)) in
    let rest : c.in_ok-rest.rest.items ≡ c.loop-i.reader.ahead = search rules in
    let lines = c.loop-i.lines.items in
    let split = StandInTurn-read (λ r. OneLine) (λ r. IsParser-OneLine) LineStands c.loop-i.reader (joined (pieces_in (take i pieces))) lines gives-lines c.loop-i.invariant.read in (
      subst (λ ps. StandInTurn LineStands (joined (pieces_in ps)) lines c.in_ok-rest.rest.items) whole (subst (λ r. StandInTurn LineStands (joined (pieces_in (take i pieces))) lines r) (sym rest) split),
      ap first_end rest ∙ c.loop-i.invariant.all,
    )
