use Rattle.std.proofs.Common.{◌≡◌, ◌-◌, length, min, arith}
use Rattle.std.specs.Prelude.{IfSome}
use Rattle.wb_base.specs.Excerpts.{IsExcerpt}
use Rattle.wb_replies.proofs.lemmas.CauseLemmas.{sides-within}
use Rattle.wb_replies.proofs.session.excerpt_ahead.Goals as goal

pub returns : goal.returns
returns c =
    let f = c.args.reader.now in
    let bytes = c.ahead-ahead.result.now in
    let k = c.args.bytes - f.place in
    let within : c.min-width.result ≡ min k (length bytes) =
    omega (arith, c.min-width.ensures, c.saturating_sub.ensures, c.place.ensures) in
    sides-within (λ before rest. IfSome c.excerpt_of.result (IsExcerpt before rest)) k c.min-width.result bytes f.ahead c.ahead-ahead.ensures within c.excerpt_of.ensures
