use Rattle.format_resp.proofs.lemmas.StepLemmas.{text-next}
use Rattle.format_resp.proofs.scan.ReplyScan.text_ends.Goals as goal

pub returns : goal.returns
returns c = λ bytes h e.
    text-next c.args.limits.longest c.args.limits.depth bytes c.args.self.now c.begins_next.new.self c.args.byte c.if-byte-ne10.false
    c.begins_next.ensures.part (c.begins_next.ensures.wanted e) h c.requires
