use Rattle.std.proofs.Common.{subst}
use Rattle.winnow_codec.specs.RoundTrips.{ReadsWhatItWrites, WritesWhatItReads}
use Rattle.format_cbor.specs.Items.{SpellsItem, AreSame}
use Rattle.format_cbor.proofs.exchange.item_law.Goals as goal

pub returns-clause-read : goal.returns-clause-read
returns-clause-read c =
    subst (λ f. ReadsWhatItWrites AreSame (SpellsItem f.longest f.depth)) c.items.ensures c.round_trip_law.ensures.read

pub returns-clause-written : goal.returns-clause-written
returns-clause-written c =
    subst (λ f. WritesWhatItReads (SpellsItem f.longest f.depth)) c.items.ensures c.round_trip_law.ensures.written
