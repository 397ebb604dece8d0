use Rattle.std.proofs.Common.{arith}
use Rattle.format_json.proofs.lemmas.BegunLemmas.{word-begins}
use Rattle.format_json.proofs.found.word_at.Goals as goal

pub returns-then-partial-clause-begun : goal.returns-then-partial-clause-begun
returns-then-partial-clause-begun c =
    word-begins c.args.bytes.now c.args.word.now c.loop-index.index (omega (arith, c.if-index-bytes.true)) c.loop-index.invariant.1
