use Rattle.std.proofs.Common.{◌+◌}
use Rattle.csv.specs.Records.{fields_of}
use Rattle.format_csv.proofs.lemmas.FillByteLemmas.{slice-from}
use Rattle.format_csv.proofs.lemmas.FillStepLemmas.{goes-on, after-comma, ends, opens, breaks, opens-quoted, ends-quoted}
use Rattle.format_csv.proofs.filling.fill.Goals as goal

pub returns-then-ended : goal.returns-then-ended
returns-then-ended c =
    let l = c.loop-length in
    let bytes = c.args.bytes.now in
    ends-quoted bytes _ (fields_of l.row) (fields_of c.read_field.new.row) l.at (slice-from bytes l.at) l.invariant.1 (rw c.in_default.is at c.in_ok-length.ensures.field) c.args.ended c.if-ended.true

pub returns-in_default : goal.returns-in_default
returns-in_default c =
    let l = c.loop-length in
    let bytes = c.args.bytes.now in
    opens-quoted bytes _ (fields_of l.row) (fields_of c.read_field.new.row) l.at (slice-from bytes l.at) l.invariant.1 (rw c.in_default.is at c.in_ok-length.ensures.field) c.args.ended c.if-ended.false

pub loop-length-preserved : goal.loop-length-preserved
loop-length-preserved c =
    let l = c.loop-length in
    let bytes = c.args.bytes.now in
    let n = c.in-Some.length in
    let fills = rw c.in-Some.is at c.in_ok-length.ensures.field in (
      after-comma bytes _ _ (fields_of l.row) (fields_of c.read_field.new.row) l.at n (slice-from bytes l.at) (slice-from bytes (l.at + n)) l.invariant.1 fills c.args.ended l.invariant.0 c.in-Comma.ensures,
      goes-on bytes _ _ (fields_of l.row) (fields_of c.read_field.new.row) l.at n (slice-from bytes l.at) (slice-from bytes (l.at + n)) l.invariant.1 fills c.args.ended c.in-Comma.ensures,
      c.in_ok-length.ensures.whole,
    )

pub returns-in-End : goal.returns-in-End
returns-in-End c =
    let l = c.loop-length in
    let bytes = c.args.bytes.now in
    let n = c.in-Some.length in
    ends bytes _ _ (fields_of l.row) (fields_of c.read_field.new.row) l.at n (slice-from bytes l.at) (slice-from bytes (l.at + n)) l.invariant.1 (rw c.in-Some.is at c.in_ok-length.ensures.field) c.args.ended c.in-End.length c.requires l.invariant.0 c.in-End.ensures

pub returns-in-Open : goal.returns-in-Open
returns-in-Open c =
    let l = c.loop-length in
    let bytes = c.args.bytes.now in
    let n = c.in-Some.length in
    opens bytes _ _ (fields_of l.row) (fields_of c.read_field.new.row) l.at n (slice-from bytes l.at) (slice-from bytes (l.at + n)) l.invariant.1 (rw c.in-Some.is at c.in_ok-length.ensures.field) c.args.ended c.in-Open.ensures

pub returns-in-Broken : goal.returns-in-Broken
returns-in-Broken c =
    let l = c.loop-length in
    let bytes = c.args.bytes.now in
    let n = c.in-Some.length in
    breaks bytes _ _ (fields_of l.row) (fields_of c.read_field.new.row) l.at n (slice-from bytes l.at) (slice-from bytes (l.at + n)) l.invariant.1 (rw c.in-Some.is at c.in_ok-length.ensures.field) c.args.ended l.invariant.0 c.in-Broken.ensures
