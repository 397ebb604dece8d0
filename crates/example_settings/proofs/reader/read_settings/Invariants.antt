use Rattle.std.proofs.Common.{◌≡◌, false, IsTrue, length}
use Rattle.winnow_recover.specs.Recovering.{recoverable_inner, recorded_errors, records_errors}
use Rattle.winnow_parser.specs.Answer.{ahead}
use Rattle.example_settings.specs.Lines.{AreRead}
use Rattle.example_settings.proofs.reader.read_settings.Given as goal

-- all lines so far are read
abbrev pub invariant-lines : goal.invariant-lines
invariant-lines g l =
    let stands = ahead g.I.Rest.location g.I.Stream.remaining in
    record {
      valid : g.I.Stream.valid (recoverable_inner l.input);
      complete : g.I.StreamIsPartial.expects_more (recoverable_inner l.input) ≡ false;
      records : IsTrue (records_errors l.input);
      read : AreRead g.I.Stream.is_slice (stands (recoverable_inner l.fn.input)) l.settings.items
          (recorded_errors l.fn.input) (recorded_errors l.input)
          (stands (recoverable_inner l.input));
    }

abbrev pub decreases-lines : goal.decreases-lines
decreases-lines g l = length (g.I.Stream.remaining (recoverable_inner l.input))
