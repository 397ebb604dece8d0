use Rattle.std.proofs.Common.{◌++◌, ◌∷◌, [], ◌∙◌, subst, sym}
use Rattle.format_json.specs.Language.{after_blanks}
use Rattle.format_json.specs.Scan.{IsIn}
use Rattle.format_json.proofs.lemmas.ScanLemmas.{blank-comes, quote-comes, digit-comes, digit-follows, text-follows, not-false}
use Rattle.format_json.proofs.scan.TokenScan.stops_at.Goals as goal

pub returns-then-is_blank : goal.returns-then-is_blank
returns-then-is_blank c = λ bytes h e.
    let scan = c.args.self.now in
    subst (λ p. IsIn p (after_blanks (bytes ++ c.args.byte ∷ [])) scan.tail) (sym c.in-Blanks.is)
    (blank-comes scan.part bytes scan.tail c.args.byte h c.in-Blanks.is (sym c.is_blank.ensures ∙ c.if-is_blank.true))

pub returns-then-byte-eq34 : goal.returns-then-byte-eq34
returns-then-byte-eq34 c = λ bytes h e.
    let scan = c.args.self.now in
    quote-comes scan.part bytes scan.tail c.args.byte h c.in-Blanks.is c.if-byte-eq34.true

pub returns-then-is_number_byte : goal.returns-then-is_number_byte
returns-then-is_number_byte c = λ bytes h e.
    let scan = c.args.self.now in
    digit-comes scan.part bytes scan.tail c.args.byte h c.in-Blanks.is (sym c.is_blank.ensures ∙ c.if-is_blank.false) (sym c.is_number_byte.ensures ∙ c.if-is_number_byte.true)

pub returns-in-Number : goal.returns-in-Number
returns-in-Number c = λ bytes h e.
    let scan = c.args.self.now in
    subst (λ p. IsIn p (after_blanks (bytes ++ c.args.byte ∷ [])) scan.tail) (sym c.in-Number.is)
    (digit-follows scan.part bytes scan.tail c.args.byte h c.in-Number.is (sym c.is_number_byte-in-Number.ensures ∙ not-false c.is_number_byte-in-Number.result e))

pub returns-in-Text : goal.returns-in-Text
returns-in-Text c = λ bytes h e.
    let scan = c.args.self.now in
    let new = c.stops_at.new.self in
    subst (λ p. IsIn p (after_blanks (bytes ++ c.args.byte ∷ [])) new) (sym c.in-Text.is)
    (text-follows scan.part bytes scan.tail c.args.byte h new c.in-Text.is (c.stops_at.ensures (after_blanks bytes) e))
