use Rattle.std.proofs.Common.{◌≡◌, ◌<◌, ◌^◌, take}
use Rattle.winnow_match.specs.Bytes.{bytes_of}
use Rattle.winnow_parser.specs.Answer.{ahead}
use Rattle.winnow_binary.specs.Numerals.{number_in, after_tokens}
use Rattle.winnow_binary.proofs.bit_number.next_number.Given as goal

abbrev pub invariant-loop-taken : goal.invariant-loop-taken
invariant-loop-taken g l =
    let stands = ahead g.I.Rest.location g.I.Stream.remaining in
    record {
      valid : g.I.Stream.valid l.input;
      kept : g.I.Stream.keeps l.initial.input l.input;
      stands : stands l.input ≡ after_tokens l.taken (stands l.initial.input);
      number : l.number ≡ number_in l.order
          (bytes_of (take l.taken (g.I.Stream.remaining l.initial.input)));
      bound : l.number < 256 ^ l.taken;
    }
