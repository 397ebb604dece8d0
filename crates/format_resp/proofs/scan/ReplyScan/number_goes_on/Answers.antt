use Rattle.std.proofs.Common.{[], ◌∷◌, refl}
use Rattle.format_resp.specs.declared.scan.Part.TheVariants.{Number, NumberEnd}
use Rattle.format_resp.proofs.lemmas.StepLemmas.{goes-on, number-return, number-more}
use Rattle.format_resp.proofs.scan.ReplyScan.number_goes_on.Goals as goal

pub returns-then-byte-eq13 : goal.returns-then-byte-eq13
returns-then-byte-eq13 c = λ bytes h e.
    let limits = c.args.limits in
    let old = c.args.self.now in
    goes-on limits.longest limits.depth bytes old (record old { part = NumberEnd c.args.kind }) (c.args.byte ∷ []) (Number c.args.kind) (NumberEnd c.args.kind) c.requires refl refl
    (λ begun k. number-return limits.longest old.digits begun c.args.kind c.args.byte c.if-byte-eq13.true k) h

pub returns : goal.returns
returns c = λ bytes h e.
    let limits = c.args.limits in
    let old = c.args.self.now in
    let there = c.append.ensures e in
    goes-on limits.longest limits.depth bytes old (record old { digits = c.append.new.self }) (c.args.byte ∷ []) (Number c.args.kind) (Number c.args.kind) c.requires c.requires refl
    (λ begun k. number-more limits.longest old.digits begun c.args.kind c.args.byte c.append.new.self c.if-byte-eq13.false c.if-byte-eq10.false there.0 there.1 k) h
