use Rattle.std.proofs.Common.{[], take, refl, arith}
use Rattle.csv.specs.Records.{fields_of, partial_of}
use Rattle.format_csv.proofs.lemmas.FillByteLemmas.{no-quote}
use Rattle.format_csv.proofs.lemmas.FillQuoteLemmas.{pushed-field, chunk-more}
use Rattle.format_csv.proofs.filling_fields.read_quoted.Goals as goal

pub returns-in_default-clause-field : goal.returns-in_default-clause-field
returns-in_default-clause-field c =
    ([], (c.args.inside.now, (refl, no-quote c.args.inside.now c.in_default.ensures)))

pub returns-clause-field : goal.returns-clause-field
returns-clause-field c =
    let xs = c.args.inside.now in
    let n = c.in-Some.length in (
      take n xs,
      (
        omega (arith, c.in-Some.ensures.0.high),
        pushed-field (fields_of c.push_field.new.self) (fields_of c.args.row.now) (partial_of c.args.row.now) (take n xs) (take n xs) c.in_ok-push_field.ensures.fields c.requires refl,
        (chunk-more xs xs [] n refl c.in-Some.ensures, c.if-has_quote.ensures.other refl),
      ),
    )
