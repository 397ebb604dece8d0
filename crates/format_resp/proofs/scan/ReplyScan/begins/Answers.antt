use Rattle.std.proofs.Common.{[], ◌∷◌, refl, sym, ◌∙◌}
use Rattle.format_resp.specs.declared.scan.Part.TheVariants.{Begin, Text, Number}
use Rattle.format_resp.proofs.lemmas.StepLemmas.{goes-on, text-kinds, number-kinds, text-begins, number-begins}
use Rattle.format_resp.proofs.scan.ReplyScan.begins.Goals as goal

pub returns-then-begins_text : goal.returns-then-begins_text
returns-then-begins_text c = λ bytes h e.
    let limits = c.args.limits in
    let old = c.args.self.now in
    let is = text-kinds c.args.byte (sym c.begins_text.ensures ∙ c.if-begins_text.true) in
    goes-on limits.longest limits.depth bytes old (record old { part = Text 0 }) (c.args.byte ∷ []) Begin (Text 0) c.requires refl refl
    (λ begun k. text-begins limits.longest old.digits begun c.args.byte is k) h

pub returns-then-begins_number : goal.returns-then-begins_number
returns-then-begins_number c = λ bytes h e.
    let limits = c.args.limits in
    let old = c.args.self.now in
    let is = number-kinds c.args.byte (sym c.begins_number.ensures ∙ c.if-begins_number.true) in
    let new = record old { digits = c.clear.new.self; part = Number c.args.byte } in
    goes-on limits.longest limits.depth bytes old new (c.args.byte ∷ []) Begin (Number c.args.byte) c.requires refl refl
    (λ begun k. number-begins limits.longest old.digits begun c.args.byte c.clear.new.self c.clear.ensures is k) h
