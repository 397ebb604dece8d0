use Rattle.std.specs.Prelude.{◌≡◌}
use Rattle.std.proofs.Common.{refl}
use Rattle.winnow_parser.specs.Outcome.{Gives}
use Rattle.winnow_parser.specs.Answer.{ahead}
use Rattle.winnow_permutation.specs.declared.turns.Turn.TheVariants.{This, Other}
use Rattle.winnow_permutation.specs.Permutation.{AfterTurn4}
use Rattle.winnow_permutation.proofs.lemmas.TurnLemmas.{after-turn}
use Rattle.winnow_permutation.proofs.parsers.permutation.Tuple4AfterTurn.finish.Goals as goal

pub returns-in-Ok-clause-means : goal.returns-in-Ok-clause-means
returns-in-Ok-clause-means g c =
    let after = AfterTurn4 g.E.ParserError.or_refusable g.E.ParserError.append_refusable (g.A.Parser.means c.args.self.now.0) (g.B.Parser.means c.args.self.now.1) (g.C.Parser.means c.args.self.now.2) (g.D.Parser.means c.args.self.now.3) in
    let stands = ahead g.I.Rest.location g.I.Stream.remaining in
    let is1 = c.in-This-This-This.is in
    let is2 = c.in-This-This-This.field-0-is in
    let is3 = c.in-This-This-This.field-0-0-is in
    let known = This (This (This c.in-This-This-This.first)) in
    let turn : c.args.turn ≡ known = cc in
    after-turn after (g.I.StreamIsPartial.expects_more c.args.input.now) (stands c.args.input.now) (Gives (c.in-This-This-This.first, c.in-Ok.second, c.in-Ok.third, c.in-Ok.fourth) (stands c.parse_next.new.input)) c.args.turn known turn
    ((c.in-Ok.second, c.in-Ok.third, c.in-Ok.fourth), (refl, c.in-Ok.ensures.means))

pub returns-in-Ok-parse_next-clause-means : goal.returns-in-Ok-parse_next-clause-means
returns-in-Ok-parse_next-clause-means g c =
    let after = AfterTurn4 g.E.ParserError.or_refusable g.E.ParserError.append_refusable (g.A.Parser.means c.args.self.now.0) (g.B.Parser.means c.args.self.now.1) (g.C.Parser.means c.args.self.now.2) (g.D.Parser.means c.args.self.now.3) in
    let stands = ahead g.I.Rest.location g.I.Stream.remaining in
    let is1 = c.in-This-This-Other.is in
    let is2 = c.in-This-This-Other.field-0-is in
    let is3 = c.in-This-This-Other.field-0-0-is in
    let known = This (This (Other c.in-This-This-Other.second)) in
    let turn : c.args.turn ≡ known = cc in
    after-turn after (g.I.StreamIsPartial.expects_more c.args.input.now) (stands c.args.input.now) (Gives (c.in-Ok-parse_next.first, c.in-This-This-Other.second, c.in-Ok-parse_next.third, c.in-Ok-parse_next.fourth) (stands c.parse_next-in-This-This-Other.new.input)) c.args.turn known turn
    ((c.in-Ok-parse_next.first, c.in-Ok-parse_next.third, c.in-Ok-parse_next.fourth), (refl, c.in-Ok-parse_next.ensures.means))

pub returns-in-Ok-parse_next-2-clause-means : goal.returns-in-Ok-parse_next-2-clause-means
returns-in-Ok-parse_next-2-clause-means g c =
    let after = AfterTurn4 g.E.ParserError.or_refusable g.E.ParserError.append_refusable (g.A.Parser.means c.args.self.now.0) (g.B.Parser.means c.args.self.now.1) (g.C.Parser.means c.args.self.now.2) (g.D.Parser.means c.args.self.now.3) in
    let stands = ahead g.I.Rest.location g.I.Stream.remaining in
    let is1 = c.in-This-Other.is in
    let is2 = c.in-This-Other.field-0-is in
    let known = This (Other c.in-This-Other.third) in
    let turn : c.args.turn ≡ known = cc in
    after-turn after (g.I.StreamIsPartial.expects_more c.args.input.now) (stands c.args.input.now) (Gives (c.in-Ok-parse_next-2.first, c.in-Ok-parse_next-2.second, c.in-This-Other.third, c.in-Ok-parse_next-2.fourth) (stands c.parse_next-in-This-Other.new.input)) c.args.turn known turn
    ((c.in-Ok-parse_next-2.first, c.in-Ok-parse_next-2.second, c.in-Ok-parse_next-2.fourth), (refl, c.in-Ok-parse_next-2.ensures.means))

pub returns-in-Ok-parse_next-3-clause-means : goal.returns-in-Ok-parse_next-3-clause-means
returns-in-Ok-parse_next-3-clause-means g c =
    let after = AfterTurn4 g.E.ParserError.or_refusable g.E.ParserError.append_refusable (g.A.Parser.means c.args.self.now.0) (g.B.Parser.means c.args.self.now.1) (g.C.Parser.means c.args.self.now.2) (g.D.Parser.means c.args.self.now.3) in
    let stands = ahead g.I.Rest.location g.I.Stream.remaining in
    let is1 = c.in-Other.is in
    let known = Other c.in-Other.fourth in
    let turn : c.args.turn ≡ known = cc in
    after-turn after (g.I.StreamIsPartial.expects_more c.args.input.now) (stands c.args.input.now) (Gives (c.in-Ok-parse_next-3.first, c.in-Ok-parse_next-3.second, c.in-Ok-parse_next-3.third, c.in-Other.fourth) (stands c.parse_next-in-Other.new.input)) c.args.turn known turn
    ((c.in-Ok-parse_next-3.first, c.in-Ok-parse_next-3.second, c.in-Ok-parse_next-3.third), (refl, c.in-Ok-parse_next-3.ensures.means))
