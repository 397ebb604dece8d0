use Rattle.std.proofs.Common.{◌+◌, [], ◌∷◌, ◌++◌, drop, refl, ap, sym, ◌∙◌}
use Rattle.csv.specs.Records.{fields_of, partial_of}
use Rattle.format_csv.specs.Fields.{doubled}
use Rattle.format_csv.proofs.lemmas.FillByteLemmas.{slice-from}
use Rattle.format_csv.proofs.lemmas.FillQuoteLemmas.{pushed-field, chunk-open, chunk-within, chunk-step, quote-within, quote-more}
use Rattle.format_csv.proofs.filling_fields.read_doubled.Goals as goal

pub returns-in_default-clause-field : goal.returns-in_default-clause-field
returns-in_default-clause-field c =
    let l = c.loop-length in
    let xs = c.args.inside.now in
    chunk-open xs l.value.items _ l.at (slice-from xs l.at) l.invariant.1 c.in_default.ensures

pub returns-then-not-has_quote-clause-field : goal.returns-then-not-has_quote-clause-field
returns-then-not-has_quote-clause-field c =
    let l = c.loop-length in
    let xs = c.args.inside.now in
    let n = c.in-Some.length in
    let same = l.invariant.2 in
    let value = c.extend_from_slice.new.self.items in (
      value,
      (
        chunk-within xs l.value.items _ l.at (slice-from xs l.at) l.invariant.1 n c.in-Some.ensures l.invariant.0,
        pushed-field (fields_of c.push_field.new.self) (fields_of c.args.row.now) (partial_of l.row) c.deref.result.now value
            (c.in_ok-push_field.ensures.fields ∙ ap (λ r. fields_of r ++ (partial_of l.row ++ c.deref.result.now) ∷ []) same) (ap partial_of same ∙ c.requires) c.deref.ensures.value,
        (
          chunk-step xs l.value.items _ l.at (slice-from xs l.at) l.invariant.1 n c.in-Some.ensures value c.in_ok-extend_from_slice.ensures.items,
          c.if-not-has_quote.ensures.other refl,
        ),
      ),
    )

pub loop-length-preserved : goal.loop-length-preserved
loop-length-preserved c =
    let l = c.loop-length in
    let xs = c.args.inside.now in
    let n = c.in-Some.length in
    let at = l.at + (n + 1) in
    let value = c.extend_from_slice.new.self.items in
    let quote = c.if-not-has_quote.ensures.quote refl in
    let step = chunk-step xs l.value.items _ l.at (slice-from xs l.at) l.invariant.1 n c.in-Some.ensures value c.in_ok-extend_from_slice.ensures.items in (
      quote-within xs (drop (at + 1) xs) at quote,
      quote-more xs (drop at xs) (drop (at + 1) xs) value step quote
          ∙ ap (λ v. doubled v ++ drop (at + 1) xs) (sym c.in_ok-push.ensures.items),
      l.invariant.2,
    )
