use Rattle.format_csv_fields.proofs.lemmas.FindLemmas.{finds-plain, finds-quoted, open-long, open-ended, open-more}
use Rattle.format_csv_fields.proofs.finding.find.Goals as goal

pub returns-in-Plain : goal.returns-in-Plain
returns-in-Plain c =
    rw c.in-Plain.is
    (finds-plain c.args.ended c.args.limit c.args.bytes.now c.in-Plain.length c.find_ending.result (rw c.in-Plain.is at c.requires) c.find_ending.ensures)

pub returns-in-Quoted : goal.returns-in-Quoted
returns-in-Quoted c =
    rw c.in-Quoted.is
    (finds-quoted c.args.ended c.args.limit c.args.bytes.now c.in-Quoted.close c.in-Quoted.field-1 c.find_ending-in-Quoted.result (rw c.in-Quoted.is at c.requires) c.find_ending-in-Quoted.ensures)

pub returns-then-bytes-limit : goal.returns-then-bytes-limit
returns-then-bytes-limit c =
    open-long c.args.limit c.args.bytes.now c.in-Open.field-0 (rw c.in-Open.is at c.requires) c.args.ended c.if-bytes-limit.true

pub returns-then-ended : goal.returns-then-ended
returns-then-ended c =
    open-ended c.args.limit c.args.bytes.now c.in-Open.field-0 (rw c.in-Open.is at c.requires) c.args.ended c.if-ended.true

pub returns-else-ended : goal.returns-else-ended
returns-else-ended c =
    open-more c.args.limit c.args.bytes.now c.in-Open.field-0 (rw c.in-Open.is at c.requires) c.args.ended c.if-ended.false c.if-bytes-limit.false
