use Rattle.std.proofs.Common.{true}
use Rattle.winnow_reader.specs.Place.{IsByteSlice, SlicesStay-bytes}
use Rattle.law_formats.proofs.lemmas.ReplyLemmas.{reply-punctual, bytes-respect}
use Rattle.law_formats.proofs.liveness.reply_live_law.Goals as goal

pub returns : goal.returns
returns c = λ limits. (reply-punctual (λ byte. byte) true IsByteSlice (λ s. s.now) SlicesStay-bytes bytes-respect limits.longest limits.depth).live
