use Rattle.std.proofs.Common.{◌≡◌, ◌≢◌, [], ◌∙◌, sym}
use Rattle.format_json_scalars.proofs.lemmas.TailLemmas.{text-plain, text-goes, none-of, some-of}
use Rattle.format_json_scalars.proofs.tails.Tail.stops_at.Goals as goal
use Rattle.format_json_scalars.proofs.tails.Tail.stops_at.Goals.{then-is_empty+else-byte-eq34+else-byte-ne92, else-is_empty}

pub returns-then-byte-lt128 : goal.returns-then-byte-lt128
returns-then-byte-lt128 c = λ bytes e h.
    let none = none-of c.seen-seen.result.now c.is_empty.result c.is_empty.ensures c.if-is_empty.true in
    text-plain bytes c.args.self.now c.args.byte (sym c.seen-seen.ensures ∙ none) c.if-byte-eq34.false c.if-byte-ne92.true c.if-byte-ge32.true c.if-byte-lt128.true h

pub returns : goal.returns
returns c = λ bytes e h.
    let other : c.args.self.now ≡ [] → c.args.byte ≢ 34 = λ none. elim c.if-is_empty.branch [
      | then-is_empty+else-byte-eq34+else-byte-ne92 w ↦ w.if-byte-eq34.false
      | else-is_empty w ↦ absurd (some-of c.seen-seen.result.now c.is_empty.result c.is_empty.ensures w.if-is_empty.false (c.seen-seen.ensures ∙ none))
    ] in
    text-goes bytes c.args.self.now c.append.new.self c.settles.new.self c.args.byte c.append.ensures other (c.settles.ensures e) h
