use Rattle.std.proofs.Common.{[], ◌∷◌, ◌-◌, refl, arith}
use Rattle.format_resp.specs.declared.scan.Part.TheVariants.{Held, HeldEnd}
use Rattle.format_resp.proofs.lemmas.StepLemmas.{goes-on, held-more, held-return}
use Rattle.format_resp.proofs.scan.ReplyScan.held_goes_on.Goals as goal

pub returns-then-left-gt0 : goal.returns-then-left-gt0
returns-then-left-gt0 c = λ bytes h e.
    let limits = c.args.limits in
    let old = c.args.self.now in
    let now = c.args.left - 1 in
    goes-on limits.longest limits.depth bytes old (record old { part = Held now }) (c.args.byte ∷ []) (Held c.args.left) (Held now) c.requires refl refl
    (λ begun k. held-more limits.longest old.digits begun c.args.left now (c.args.byte ∷ []) (omega (arith, c.if-left-gt0.true)) k) h

pub returns : goal.returns
returns c = λ bytes h e.
    let limits = c.args.limits in
    let old = c.args.self.now in
    goes-on limits.longest limits.depth bytes old (record old { part = HeldEnd }) (c.args.byte ∷ []) (Held c.args.left) HeldEnd c.requires refl refl
    (λ begun k. held-return limits.longest old.digits begun c.args.left c.args.byte (omega (arith, c.if-left-gt0.false)) c.if-byte-ne13.false k) h
