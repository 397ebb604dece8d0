use Rattle.std.proofs.Common.{ap}
use Rattle.winnow_token.specs.OneOf.{after_one}
use Rattle.example_settings.proofs.reader.skip_line.Goals as goal

pub returns-clause-behind : goal.returns-clause-behind
returns-clause-behind g c =
    let rest = rw (c.take_till.ensures.set, c.take_till.ensures.counts.0, c.take_till.ensures.counts.1) at c.in-Ok.ensures.means in
    rw (c.next_token.ensures.remains, c.next_token.ensures.location) (ap after_one rest.1)
