use Rattle.std.proofs.Common.{rules}
use Rattle.format_resp.proofs.lemmas.NumberLemmas.{length_nothing}
use Rattle.format_resp.proofs.numbers.length_in.Goals as goal

pub returns-then-eq : goal.returns-then-eq
returns-then-eq c = length_nothing c.args.greatest c.args.text.now (search rules)
