use Rattle.winnow_parser.specs.Answer.{ahead, failed}
use Rattle.winnow_codec.specs.FormatRows.{SpellsRow8, SpellsPair, nested9}
use Rattle.winnow_codec.proofs.lemmas.Reading.{both-given, both-unfinished, both-unbegun, parts-unread}
use Rattle.winnow_codec.proofs.rows_to_ten.Tuple9Format.read.Goals as goal

pub returns-in-Ok-read-clause-means : goal.returns-in-Ok-read-clause-means
returns-in-Ok-read-clause-means g c =
    let rest = SpellsRow8 (g.B.Format.spells c.args.self.now.1) (g.C.Format.spells c.args.self.now.2) (g.D.Format.spells c.args.self.now.3) (g.F.Format.spells c.args.self.now.4) (g.G.Format.spells c.args.self.now.5) (g.H.Format.spells c.args.self.now.6) (g.J.Format.spells c.args.self.now.7) (g.K.Format.spells c.args.self.now.8) in
    both-given (g.A.Format.spells c.args.self.now.0) (λ _. rest) (g.I.StreamIsPartial.expects_more c.args.input.now)
    _ _ _ _ _ c.in-Ok.ensures.means c.in-Ok-read.ensures.means

pub returns-in-Err-read-clause-means : goal.returns-in-Err-read-clause-means
returns-in-Err-read-clause-means g c =
    let first = g.A.Format.spells c.args.self.now.0 in
    let rest = SpellsRow8 (g.B.Format.spells c.args.self.now.1) (g.C.Format.spells c.args.self.now.2) (g.D.Format.spells c.args.self.now.3) (g.F.Format.spells c.args.self.now.4) (g.G.Format.spells c.args.self.now.5) (g.H.Format.spells c.args.self.now.6) (g.J.Format.spells c.args.self.now.7) (g.K.Format.spells c.args.self.now.8) in
    let partial = g.I.StreamIsPartial.expects_more c.args.input.now in
    let flag = g.met.I.StreamIsPartial.keeps_flag c.args.input.now c.read.new.input c.in-Ok.ensures.kept in
    let f = failed c.in-Err-read.failure (ahead g.I.Rest.location g.I.Stream.remaining c.read-in-Ok.new.input) in
    parts-unread nested9 (SpellsPair first rest) partial _ f
    (both-unfinished first (λ _. rest) partial _ g.A.Format.same (g.met.A.Format.lawful c.args.self.now.0).prefix_free (λ _ _ _ _ _ h. h)
    _ _ f c.in-Ok.ensures.means (rw flag at c.in-Err-read.ensures.means))

pub returns-in-Err-clause-means : goal.returns-in-Err-clause-means
returns-in-Err-clause-means g c =
    let first = g.A.Format.spells c.args.self.now.0 in
    let rest = SpellsRow8 (g.B.Format.spells c.args.self.now.1) (g.C.Format.spells c.args.self.now.2) (g.D.Format.spells c.args.self.now.3) (g.F.Format.spells c.args.self.now.4) (g.G.Format.spells c.args.self.now.5) (g.H.Format.spells c.args.self.now.6) (g.J.Format.spells c.args.self.now.7) (g.K.Format.spells c.args.self.now.8) in
    let f = failed c.in-Err.failure (ahead g.I.Rest.location g.I.Stream.remaining c.read.new.input) in
    parts-unread nested9 (SpellsPair first rest) (g.I.StreamIsPartial.expects_more c.args.input.now) _ f (both-unbegun first (λ _. rest) _ _ f c.in-Err.ensures.means)
