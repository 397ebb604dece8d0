use Rattle.std.proofs.Common.{[], ◌∷◌, ◌+◌, refl, arith}
use Rattle.format_resp.specs.declared.scan.Part.TheVariants.{Text, TextEnd}
use Rattle.format_resp.proofs.lemmas.StepLemmas.{goes-on, text-return, text-more}
use Rattle.format_resp.proofs.scan.ReplyScan.text_goes_on.Goals as goal

pub returns-then-byte-eq13 : goal.returns-then-byte-eq13
returns-then-byte-eq13 c = λ bytes h e.
    let limits = c.args.limits in
    let old = c.args.self.now in
    goes-on limits.longest limits.depth bytes old (record old { part = TextEnd }) (c.args.byte ∷ []) (Text c.args.len) TextEnd c.requires refl refl
    (λ begun k. text-return limits.longest old.digits begun c.args.len c.args.byte c.if-byte-eq13.true k) h

pub returns : goal.returns
returns c = λ bytes h e.
    let limits = c.args.limits in
    let old = c.args.self.now in
    goes-on limits.longest limits.depth bytes old (record old { part = Text (c.args.len + 1) }) (c.args.byte ∷ []) (Text c.args.len) (Text (c.args.len + 1)) c.requires refl refl
    (λ begun k. text-more limits.longest old.digits begun c.args.len c.args.byte c.if-byte-eq13.false c.if-byte-eq10.false (omega (arith, c.if-len-limits.false)) k) h
