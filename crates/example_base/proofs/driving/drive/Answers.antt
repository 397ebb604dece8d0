use Rattle.std.specs.Prelude.{Err}
use Rattle.example_base.proofs.lemmas.DrivingLemmas.{tells-piece}
use Rattle.example_base.proofs.driving.drive.Goals as goal

pub returns-in-Err-piece : goal.returns-in-Err-piece
returns-in-Err-piece g c =
    let remaining = g.R.Read.remaining in
    let contents = g.W.Write.contents in
    tells-piece g.D.Driven.follows c.args.driven.now (contents c.args.output.now)
    (λ start bytes had. g.D.Driven.tells start bytes had (contents c.piece.new.output) (Err c.in-Err-piece.failure))
    (remaining c.args.input.now) (remaining c.loop.input) (remaining c.read_piece.new.input) (contents c.loop.output) c.loop.driven _
    c.loop.invariant.follows c.in-Ok.ensures.taken c.in-Err-piece.ensures.tells
