use Rattle.std.proofs.Common.{◌+◌, ◌∷◌, ap, ◌∙◌, arith}
use Rattle.format_resp.proofs.lemmas.WantedLemmas.{last-more}
use Rattle.format_resp.proofs.wanted.Wanted.append.Goals as goal

pub returns : goal.returns
returns c = λ e.
    let r = c.self.inside in
    last-more r.len (r.len + 1) r.counts c.args.count (omega (arith, c.if-self-ge-DEEPEST.false, c.self.told)) (omega arith)
    ∙ ap (λ l. c.args.count ∷ l) c.self.view_is
