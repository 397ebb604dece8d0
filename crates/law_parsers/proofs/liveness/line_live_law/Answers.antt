use Rattle.std.specs.Prelude.{None}
use Rattle.winnow_parser.specs.Meanings.{First, Pair}
use Rattle.winnow_token.specs.OneOf.{IsOneOf}
use Rattle.winnow_token.specs.TakeWhile.{TakesWhile, IsParser-TakesWhile}
use Rattle.winnow_token.proofs.lemmas.ToldLemmas.{determined-take_while}
use Rattle.winnow_reader.specs.Place.{IsByteSlice, SlicesStay-bytes}
use Rattle.winnow_liveness.proofs.lemmas.ImageLemmas.{IsLive-Maps}
use Rattle.winnow_liveness.proofs.lemmas.PairLemmas.{IsLive-Pair}
use Rattle.winnow_liveness.proofs.lemmas.TokenLemmas.{IsLive-IsOneOf, IsLive-TakesWhile}
use Rattle.law_parsers.proofs.liveness.line_live_law.Goals as goal

pub returns : goal.returns
returns c holds end least =
    let held = TakesWhile IsByteSlice holds least None in
    let same = determined-take_while IsByteSlice (λ s t. Unit {0}) (λ s t a b h k. tt) holds least None in
    IsLive-Maps (Pair held (IsOneOf end))
    (IsLive-Pair held (IsOneOf end) (IsParser-TakesWhile IsByteSlice SlicesStay-bytes holds least None) (λ s t. Unit {0}) same
    (IsLive-TakesWhile IsByteSlice holds least None) (IsLive-IsOneOf end)) First
