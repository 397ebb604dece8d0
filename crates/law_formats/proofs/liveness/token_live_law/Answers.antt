use Rattle.std.proofs.Common.{ap, arith}
use Rattle.winnow_parser.specs.Determined.{Shows}
use Rattle.winnow_reader.specs.Wanted.{size_of}
use Rattle.winnow_liveness.proofs.lemmas.ReaderLemmas.{IsLive-ones}
use Rattle.format_json.specs.TokenAnswers.{OneToken}
use Rattle.format_json.proofs.lemmas.JsonTokenLemmas.{token-determined}
use Rattle.law_formats.proofs.liveness.token_live_law.Goals as goal

pub returns : goal.returns
returns c = IsLive-ones _ OneToken token-determined (λ a need h. omega (arith, ap size_of h.1))
