use Rattle.std.proofs.Common.{refl}
use Rattle.format_csv.proofs.lemmas.FillByteLemmas.{slice-from}
use Rattle.format_csv_fields.proofs.lemmas.LookLemmas.{text-open, text-quoted, text-doubled}
use Rattle.format_csv_fields.proofs.looking.look_quoted.Goals as goal

pub returns-in_default : goal.returns-in_default
returns-in_default c =
    let l = c.loop-length in
    let bytes = c.args.bytes.now in
    let v = l.invariant.1 in
    text-open bytes v.0 _ l.at l.doubled (slice-from bytes l.at) v.1.0 v.1.1 c.in_default.ensures

pub returns-then-not-has_quote : goal.returns-then-not-has_quote
returns-then-not-has_quote c =
    let l = c.loop-length in
    let bytes = c.args.bytes.now in
    let v = l.invariant.1 in
    text-quoted bytes v.0 _ l.at l.doubled (slice-from bytes l.at) v.1.0 v.1.1 c.in-Some.length c.in-Some.ensures l.invariant.0 (c.if-not-has_quote.ensures.other refl)

pub loop-length-preserved : goal.loop-length-preserved
loop-length-preserved c =
    let l = c.loop-length in
    let bytes = c.args.bytes.now in
    let v = l.invariant.1 in
    text-doubled bytes v.0 _ l.at l.doubled (slice-from bytes l.at) v.1.0 v.1.1 c.in-Some.length c.in-Some.ensures l.invariant.0 (c.if-not-has_quote.ensures.quote refl)
