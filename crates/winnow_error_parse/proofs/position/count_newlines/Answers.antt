use Rattle.std.proofs.Common.{◌≡◌, ◌∙◌, length, rules}
use Rattle.memchr.specs.Find.{is_byte, places}
use Rattle.memchr.proofs.lemmas.CallerLemmas.{length-places}
use Rattle.winnow_error_parse.proofs.position.count_newlines.Goals as goal

pub returns : goal.returns
returns c =
    let counts : c.count.result ≡ length (places (is_byte 10) c.args.bytes.now) = search rules in
    counts ∙ length-places (is_byte 10) c.args.bytes.now
