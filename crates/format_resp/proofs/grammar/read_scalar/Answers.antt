use Rattle.std.proofs.Common.{rules, inl, inr}
use Rattle.format_resp.specs.declared.reply.Reply.TheViews.{the_lemmas}
use Rattle.format_resp.proofs.grammar.read_scalar.Goals as goal

pub returns-in-Ok-clause-means : goal.returns-in-Ok-clause-means
returns-in-Ok-clause-means g c = inl (c.if-kind-eq43.true, (c.in-Ok.text, (search (rules, the_lemmas), c.in-Ok.ensures.means)))

pub returns-in-Ok-read_text-clause-means : goal.returns-in-Ok-read_text-clause-means
returns-in-Ok-read_text-clause-means g c =
    inr (inl (c.if-kind-eq45.true, (c.in-Ok-read_text.text, (search (rules, the_lemmas), c.in-Ok-read_text.ensures.means))))
