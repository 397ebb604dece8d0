use Rattle.std.proofs.Common.{length, ap, sym, ◌∙◌}
use Rattle.format_resp.proofs.lemmas.WantedLemmas.{last-length}
use Rattle.format_resp.proofs.wanted.Wanted.len.Goals as goal

pub returns : goal.returns
returns c = sym (last-length c.self.inside.len c.self.inside.counts) ∙ ap length c.self.view_is
