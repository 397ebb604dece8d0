use Rattle.std.proofs.Common.{ℕ, Bool, rules, refl, subst, inr, Some, None}
use Rattle.std.specs.Prelude.{⊤}
use Rattle.std.specs.declared.vec.Vec.{Vec}
use Rattle.std.specs.declared.alloc.Global.{Global}
use Rattle.winnow_parser.specs.Answer.{ahead, failed}
use Rattle.winnow_parser.specs.Outcome.{Ahead, Outcome, Gives, Fails, Meaning}
use Rattle.winnow_parser.specs.Meanings.{CutsErr}
use Rattle.winnow_combinator.specs.Appended.{AppendingIf, needs_some}
use Rattle.winnow_combinator.specs.Counts.{Ascending}
use Rattle.winnow_combinator.specs.Gathering.{Gathered}
use Rattle.winnow_combinator.specs.Repeat.{Repeats}
use Rattle.winnow_combinator.proofs.lemmas.AppendedLemmas.{Gathered-plain, Ascending-moves, CutsErr-moves}
use Rattle.format_resp.specs.Meanings.{Elements, HasReplies}
use Rattle.format_resp.specs.declared.reply.Reply.{Reply}
use Rattle.format_resp.specs.declared.reply.Reply.TheViews.{the_lemmas}
use Rattle.format_resp.proofs.grammar.read_array.Goals as goal

-- what is read of an array is its elements: memory may be refused for their vector, and so also
-- while an error is appended to
elements-plain : {T : Type 0} (inner : Meaning Reply T) (n : ℕ) (q : Type 0) (partial : Bool)
    (a : Ahead T) (v : Outcome (Vec Reply Global) T)
    → CutsErr (Ascending n (Some n) (Gathered ⊤ HasReplies (AppendingIf (needs_some n) q (Repeats n (Some n) inner)))) partial a v
    → CutsErr (Ascending n (Some n) (Gathered ⊤ HasReplies (Repeats n (Some n) inner))) partial a v
elements-plain inner n q partial a v =
    let values = Repeats n (Some n) inner in
    let appending = AppendingIf (needs_some n) q values in
    let plain = Gathered-plain (needs_some n) q HasReplies values partial a in
    CutsErr-moves (Ascending n (Some n) (Gathered ⊤ HasReplies appending)) (Ascending n (Some n) (Gathered ⊤ HasReplies values)) partial a
    (λ w. Ascending-moves (Gathered ⊤ HasReplies appending) (Gathered ⊤ HasReplies values) partial a plain n (Some n) w) v

pub returns-in_default-clause-means : goal.returns-in_default-clause-means
returns-in_default-clause-means g c =
    let b = ahead g.I.Rest.location g.I.Stream.remaining c.read_length.new.input in
    (c.in_ok-count.field-0, (b, (None, (c.in_ok-count.ensures.means, c.in_default.is, (tt, (search (rules, the_lemmas), (refl, refl)))))))

pub returns-in-Ok-clause-means : goal.returns-in-Ok-clause-means
returns-in-Ok-clause-means g c =
    let b = ahead g.I.Rest.location g.I.Stream.remaining c.read_length.new.input in
    let flag = g.met.I.StreamIsPartial.keeps_flag c.args.input.now c.read_length.new.input c.in_ok-count.ensures.kept in
    let gives = Gives c.in-Ok.replies (ahead g.I.Rest.location g.I.Stream.remaining c.parse_next.new.input) in
    let answer = elements-plain (g.P.Parser.means c.args.inner) c.in-Some.count g.E.ParserError.append_refusable (g.I.StreamIsPartial.expects_more c.read_length.new.input) b gives
    (rw (c.cut_err.ensures, c.repeat.ensures.counts.0, c.repeat.ensures.counts.1, c.repeat.ensures.inner) at c.in-Ok.ensures.means) in
    let means = subst (λ partial. Elements g.I.Token.AsChar.code g.I.Stream.counts_shortage g.I.Stream.is_slice g.I.Slice.AsBytes.bytes (g.P.Parser.means c.args.inner) c.in-Some.count partial b gives) flag answer in
    (c.in_ok-count.field-0, (b, (Some c.in-Some.count, (c.in_ok-count.ensures.means, c.in-Some.is, (c.in-Ok.replies, (search (rules, the_lemmas), means))))))

pub returns-clause-means : goal.returns-clause-means
returns-clause-means g c =
    let b = ahead g.I.Rest.location g.I.Stream.remaining c.read_length.new.input in
    let flag = g.met.I.StreamIsPartial.keeps_flag c.args.input.now c.read_length.new.input c.in_ok-count.ensures.kept in
    let fails = Fails (failed c.in-Err.failure (ahead g.I.Rest.location g.I.Stream.remaining c.parse_next.new.input)) in
    let answer = elements-plain (g.P.Parser.means c.args.inner) c.in-Some.count g.E.ParserError.append_refusable (g.I.StreamIsPartial.expects_more c.read_length.new.input) b fails
    (rw (c.cut_err.ensures, c.repeat.ensures.counts.0, c.repeat.ensures.counts.1, c.repeat.ensures.inner) at c.in-Err.ensures.means) in
    let means = subst (λ partial. Elements g.I.Token.AsChar.code g.I.Stream.counts_shortage g.I.Stream.is_slice g.I.Slice.AsBytes.bytes (g.P.Parser.means c.args.inner) c.in-Some.count partial b fails) flag answer in
    inr (c.in_ok-count.field-0, (b, (Some c.in-Some.count, (c.in_ok-count.ensures.means, c.in-Some.is, means))))
