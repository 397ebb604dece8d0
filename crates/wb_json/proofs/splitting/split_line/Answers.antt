use Rattle.wb_json.proofs.lemmas.FeedLemmas.{line-whole, line-split}
use Rattle.wb_json.proofs.splitting.split_line.Goals as goal

pub returns-in-Some-clause-some : goal.returns-in-Some-clause-some
returns-in-Some-clause-some c =
    line-split c.args.bytes.now c.split_at.result.0.now c.split_at.result.1.now c.in-Some.end c.split_at.ensures.front c.split_at.ensures.back c.in-Some.ensures

pub returns-in-None-clause-none : goal.returns-in-None-clause-none
returns-in-None-clause-none c = line-whole c.args.bytes.now c.in-None.ensures
