use Rattle.std.specs.Prelude.{◌≡◌}
use Rattle.std.proofs.Common.{ap, ◌∙◌, refl}
use Rattle.winnow_parser.specs.Outcome.{Gives}
use Rattle.winnow_parser.specs.Answer.{ahead}
use Rattle.winnow_permutation.specs.declared.turns.Turn.TheVariants.{This, Other}
use Rattle.winnow_permutation.specs.Permutation.{AfterTurn5}
use Rattle.winnow_permutation.proofs.lemmas.TurnLemmas.{after-turn}
use Rattle.winnow_permutation.proofs.parsers.permutation.Tuple5AfterTurn.finish.Goals as goal

pub returns-in-Ok-clause-means : goal.returns-in-Ok-clause-means
returns-in-Ok-clause-means g c =
    let after = AfterTurn5 g.E.ParserError.or_refusable g.E.ParserError.append_refusable (g.A.Parser.means c.args.self.now.0) (g.B.Parser.means c.args.self.now.1) (g.C.Parser.means c.args.self.now.2) (g.D.Parser.means c.args.self.now.3) (g.F.Parser.means c.args.self.now.4) in
    let stands = ahead g.I.Rest.location g.I.Stream.remaining in
    let known = This (This (This (This c.in-This-This-This-This.first))) in
    let turn : c.args.turn ≡ known = c.in-This-This-This-This.is ∙ ap This (c.in-This-This-This-This.field-0-is ∙ ap This (c.in-This-This-This-This.field-0-0-is ∙ ap This c.in-This-This-This-This.field-0-0-0-is)) in
    after-turn after (g.I.StreamIsPartial.expects_more c.args.input.now) (stands c.args.input.now) (Gives (c.in-This-This-This-This.first, c.in-Ok.second, c.in-Ok.third, c.in-Ok.fourth, c.in-Ok.fifth) (stands c.parse_next.new.input)) c.args.turn known turn
    ((c.in-Ok.second, c.in-Ok.third, c.in-Ok.fourth, c.in-Ok.fifth), (refl, c.in-Ok.ensures.means))

pub returns-in-Ok-parse_next-clause-means : goal.returns-in-Ok-parse_next-clause-means
returns-in-Ok-parse_next-clause-means g c =
    let after = AfterTurn5 g.E.ParserError.or_refusable g.E.ParserError.append_refusable (g.A.Parser.means c.args.self.now.0) (g.B.Parser.means c.args.self.now.1) (g.C.Parser.means c.args.self.now.2) (g.D.Parser.means c.args.self.now.3) (g.F.Parser.means c.args.self.now.4) in
    let stands = ahead g.I.Rest.location g.I.Stream.remaining in
    let known = This (This (This (Other c.in-This-This-This-Other.second))) in
    let turn : c.args.turn ≡ known = c.in-This-This-This-Other.is ∙ ap This (c.in-This-This-This-Other.field-0-is ∙ ap This (c.in-This-This-This-Other.field-0-0-is ∙ ap This c.in-This-This-This-Other.field-0-0-0-is)) in
    after-turn after (g.I.StreamIsPartial.expects_more c.args.input.now) (stands c.args.input.now) (Gives (c.in-Ok-parse_next.first, c.in-This-This-This-Other.second, c.in-Ok-parse_next.third, c.in-Ok-parse_next.fourth, c.in-Ok-parse_next.fifth) (stands c.parse_next-in-This-This-This-Other.new.input)) c.args.turn known turn
    ((c.in-Ok-parse_next.first, c.in-Ok-parse_next.third, c.in-Ok-parse_next.fourth, c.in-Ok-parse_next.fifth), (refl, c.in-Ok-parse_next.ensures.means))

pub returns-in-Ok-parse_next-2-clause-means : goal.returns-in-Ok-parse_next-2-clause-means
returns-in-Ok-parse_next-2-clause-means g c =
    let after = AfterTurn5 g.E.ParserError.or_refusable g.E.ParserError.append_refusable (g.A.Parser.means c.args.self.now.0) (g.B.Parser.means c.args.self.now.1) (g.C.Parser.means c.args.self.now.2) (g.D.Parser.means c.args.self.now.3) (g.F.Parser.means c.args.self.now.4) in
    let stands = ahead g.I.Rest.location g.I.Stream.remaining in
    let known = This (This (Other c.in-This-This-Other.third)) in
    let turn : c.args.turn ≡ known = c.in-This-This-Other.is ∙ ap This (c.in-This-This-Other.field-0-is ∙ ap This c.in-This-This-Other.field-0-0-is) in
    after-turn after (g.I.StreamIsPartial.expects_more c.args.input.now) (stands c.args.input.now) (Gives (c.in-Ok-parse_next-2.first, c.in-Ok-parse_next-2.second, c.in-This-This-Other.third, c.in-Ok-parse_next-2.fourth, c.in-Ok-parse_next-2.fifth) (stands c.parse_next-in-This-This-Other.new.input)) c.args.turn known turn
    ((c.in-Ok-parse_next-2.first, c.in-Ok-parse_next-2.second, c.in-Ok-parse_next-2.fourth, c.in-Ok-parse_next-2.fifth), (refl, c.in-Ok-parse_next-2.ensures.means))

pub returns-in-Ok-parse_next-3-clause-means : goal.returns-in-Ok-parse_next-3-clause-means
returns-in-Ok-parse_next-3-clause-means g c =
    let after = AfterTurn5 g.E.ParserError.or_refusable g.E.ParserError.append_refusable (g.A.Parser.means c.args.self.now.0) (g.B.Parser.means c.args.self.now.1) (g.C.Parser.means c.args.self.now.2) (g.D.Parser.means c.args.self.now.3) (g.F.Parser.means c.args.self.now.4) in
    let stands = ahead g.I.Rest.location g.I.Stream.remaining in
    let known = This (Other c.in-This-Other.fourth) in
    let turn : c.args.turn ≡ known = c.in-This-Other.is ∙ ap This c.in-This-Other.field-0-is in
    after-turn after (g.I.StreamIsPartial.expects_more c.args.input.now) (stands c.args.input.now) (Gives (c.in-Ok-parse_next-3.first, c.in-Ok-parse_next-3.second, c.in-Ok-parse_next-3.third, c.in-This-Other.fourth, c.in-Ok-parse_next-3.fifth) (stands c.parse_next-in-This-Other.new.input)) c.args.turn known turn
    ((c.in-Ok-parse_next-3.first, c.in-Ok-parse_next-3.second, c.in-Ok-parse_next-3.third, c.in-Ok-parse_next-3.fifth), (refl, c.in-Ok-parse_next-3.ensures.means))

pub returns-in-Ok-parse_next-4-clause-means : goal.returns-in-Ok-parse_next-4-clause-means
returns-in-Ok-parse_next-4-clause-means g c =
    let after = AfterTurn5 g.E.ParserError.or_refusable g.E.ParserError.append_refusable (g.A.Parser.means c.args.self.now.0) (g.B.Parser.means c.args.self.now.1) (g.C.Parser.means c.args.self.now.2) (g.D.Parser.means c.args.self.now.3) (g.F.Parser.means c.args.self.now.4) in
    let stands = ahead g.I.Rest.location g.I.Stream.remaining in
    let known = Other c.in-Other.fifth in
    let turn : c.args.turn ≡ known = c.in-Other.is in
    after-turn after (g.I.StreamIsPartial.expects_more c.args.input.now) (stands c.args.input.now) (Gives (c.in-Ok-parse_next-4.first, c.in-Ok-parse_next-4.second, c.in-Ok-parse_next-4.third, c.in-Ok-parse_next-4.fourth, c.in-Other.fifth) (stands c.parse_next-in-Other.new.input)) c.args.turn known turn
    ((c.in-Ok-parse_next-4.first, c.in-Ok-parse_next-4.second, c.in-Ok-parse_next-4.third, c.in-Ok-parse_next-4.fourth), (refl, c.in-Ok-parse_next-4.ensures.means))
