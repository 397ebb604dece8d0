use Rattle.format_resp.proofs.lemmas.PartLemmas.{count-read}
use Rattle.format_resp.proofs.causes.count_of.Goals as goal

pub returns : goal.returns
returns c = count-read c.args.text.now c.number_in.result c.number_in.ensures
