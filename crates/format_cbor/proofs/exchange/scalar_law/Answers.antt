use Rattle.std.proofs.Common.{subst}
use Rattle.winnow_codec.specs.RoundTrips.{ReadsWhatItWrites, WritesWhatItReads}
use Rattle.format_cbor.specs.Scalars.{SpellsScalar, AreSameScalar}
use Rattle.format_cbor.proofs.exchange.scalar_law.Goals as goal

pub returns-clause-read : goal.returns-clause-read
returns-clause-read c = subst (λ n. ReadsWhatItWrites AreSameScalar (SpellsScalar n)) c.scalars.ensures c.round_trip_law.ensures.read

pub returns-clause-written : goal.returns-clause-written
returns-clause-written c = subst (λ n. WritesWhatItReads (SpellsScalar n)) c.scalars.ensures c.round_trip_law.ensures.written
