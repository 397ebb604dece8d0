use Rattle.winnow_parser.specs.Determined.{Shows}
use Rattle.winnow_liveness.proofs.lemmas.ReaderLemmas.{IsLive-of}
use Rattle.winnow_liveness.proofs.laws.live_law.Goals as goal

pub returns : goal.returns
returns g c view p d prompt = IsLive-of (Shows view) _ d prompt
