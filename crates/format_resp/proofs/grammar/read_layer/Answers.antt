use Rattle.std.proofs.Common.{inl, inr, sym, subst}
use Rattle.winnow_parser.specs.Answer.{ahead, outcome}
use Rattle.winnow_token.specs.OneOf.{IsOneOf}
use Rattle.format_resp.specs.Meanings.{is_kind, IsCode, ArrayReply, Scalar, Body}
use Rattle.format_resp.proofs.lemmas.FailLemmas.{continued-goes}
use Rattle.format_resp.proofs.grammar.read_layer.Goals as goal

pub returns-then-kind-eq42-clause-means : goal.returns-then-kind-eq42-clause-means
returns-then-kind-eq42-clause-means g c =
    let stands = ahead g.I.Rest.location g.I.Stream.remaining in
    let b = stands c.parse_next.new.input in
    let flag = g.met.I.StreamIsPartial.keeps_flag c.args.input.now c.parse_next.new.input c.in_ok-parse_next.ensures.kept in
    let answer = outcome c.read_array.result (stands c.read_array.new.input) in
    let means = subst (λ partial. ArrayReply g.I.Token.AsChar.code g.I.Stream.counts_shortage g.I.Stream.is_slice g.I.Slice.AsBytes.bytes c.args.most (g.P.Parser.means c.args.inner) partial b answer) flag c.read_array.ensures.means in
    continued-goes (IsCode g.I.Token.AsChar.code) (Body g.I.Token.AsChar.code g.I.Stream.counts_shortage g.I.Stream.is_slice g.I.Slice.AsBytes.bytes c.args.longest c.args.most (g.P.Parser.means c.args.inner)) (IsOneOf (λ token. is_kind (g.I.Token.AsChar.code token)))
    (g.I.StreamIsPartial.expects_more c.args.input.now) (stands c.args.input.now) b c.in_ok-parse_next.field-0 c.as_char-kind.result answer
    (rw c.one_of-kinds.ensures at c.in_ok-parse_next.ensures.means) (sym c.as_char-kind.ensures) (inl (c.if-kind-eq42.true, means))

pub returns-clause-means : goal.returns-clause-means
returns-clause-means g c =
    let stands = ahead g.I.Rest.location g.I.Stream.remaining in
    let b = stands c.parse_next.new.input in
    let flag = g.met.I.StreamIsPartial.keeps_flag c.args.input.now c.parse_next.new.input c.in_ok-parse_next.ensures.kept in
    let answer = outcome c.read_scalar.result (stands c.read_scalar.new.input) in
    let means = subst (λ partial. Scalar g.I.Token.AsChar.code g.I.Stream.counts_shortage g.I.Stream.is_slice g.I.Slice.AsBytes.bytes c.args.longest c.as_char-kind.result partial b answer) flag c.read_scalar.ensures.means in
    continued-goes (IsCode g.I.Token.AsChar.code) (Body g.I.Token.AsChar.code g.I.Stream.counts_shortage g.I.Stream.is_slice g.I.Slice.AsBytes.bytes c.args.longest c.args.most (g.P.Parser.means c.args.inner)) (IsOneOf (λ token. is_kind (g.I.Token.AsChar.code token)))
    (g.I.StreamIsPartial.expects_more c.args.input.now) (stands c.args.input.now) b c.in_ok-parse_next.field-0 c.as_char-kind.result answer
    (rw c.one_of-kinds.ensures at c.in_ok-parse_next.ensures.means) (sym c.as_char-kind.ensures) (inr means)
