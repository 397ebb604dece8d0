use Rattle.std.proofs.Common.{◌≡◌, true, false, sym, ◌∙◌, arith}
use Rattle.memchr.specs.Find.{Passes}
use Rattle.format_csv.specs.Fields.{is_special}
use Rattle.format_csv.proofs.lemmas.FillByteLemmas.{nowhere-more}
use Rattle.format_csv_fields.proofs.special.first_special.Goals as goal

pub returns-then-is_special : goal.returns-then-is_special
returns-then-is_special c =
    (record { low = omega arith; high = omega arith; before = c.loop-index.invariant }, sym c.is_special.ensures ∙ c.if-is_special.true)

pub loop-index-preserved : goal.loop-index-preserved
loop-index-preserved c =
    nowhere-more (Passes is_special c.args.bytes.now) c.loop-index.index c.loop-index.invariant
    (λ p. let x : true ≡ false = sym p ∙ (sym c.is_special.ensures ∙ c.if-is_special.false) in cc)
