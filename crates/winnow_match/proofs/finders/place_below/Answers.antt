use Rattle.std.proofs.Common.{arith, ap, length}
use Rattle.winnow_match.proofs.lemmas.SearchLemmas.{place-below}
use Rattle.winnow_match.proofs.finders.place_below.Goals as goal

pub returns : goal.returns
returns c =
    let n = c.args.needle.now in
    place-below c.args.input.now n c.args.limit c.min.result c.find.result c.requires (omega (arith, ap length c.needle.ensures)) c.find.ensures
