use Rattle.std.specs.Prelude.{IfErr}
use Rattle.std.proofs.Common.{◌<◌, ◌≤◌, ◌^◌, length, take, refl, subst, sym, arith, below_more}
use Rattle.std.proofs.lemmas.Bool.Decides.{nat_tests}
use Rattle.winnow_parser.specs.Answer.{outcome}
use Rattle.winnow_reader.specs.Place.{bytes_at}
use Rattle.winnow_reader.specs.InUtf8.{InUtf8, past}
use Rattle.winnow_reader.specs.TextTelling.{TellsDamage, front_length, IsUnanswered, FrontTold}
use Rattle.winnow_reader.specs.First.{first_ahead}
use Rattle.winnow_reader.proofs.lemmas.Utf8Lemmas.{front-answers}
use Rattle.winnow_reader.proofs.lemmas.FrontToldLemmas.{min-below, length-twice, min-at_most, length-last, IsUnanswered-front, TellsDamage-front, FrontTold-front, FrontTold-all}
use Rattle.winnow_reader.proofs.asking_text.ask_fronts.Goals as goal
use Rattle.winnow_reader.proofs.asking_text.ask_fronts.Goals.{else-loop-test, then-loop-test+then-bytes-len}

pub returns-in-Some-clause-answer : goal.returns-in-Some-clause-answer
returns-in-Some-clause-answer g c =
    let means = g.R.TextRecord.means c.args.parser.now in
    let asked = c.ask_text-answer in
    let bytes = c.args.bytes.now in
    let here = bytes_at c.args.place bytes in
    subst (λ answer. InUtf8 means c.args.partial here (outcome answer (past here asked.result.1))) (sym c.in-Some.ensures.0)
    (front-answers means (g.met.R.TextRecord.lawful c.args.parser.now) c.args.partial c.args.place bytes (take c.loop.len bytes) c.loop.len asked.result.1 asked.result.0 refl asked.ensures.within c.in-Some.ensures.1 asked.ensures.answer)

pub loop-init : goal.loop-init
loop-init g c = (grind (arith, nat_tests), λ j less. absurd (omega (arith, less)))

pub loop-preserved : goal.loop-preserved
loop-preserved g c =
    let means = g.R.TextRecord.means c.args.parser.now in
    let asked = c.ask_text-answer in
    let bytes = c.args.bytes.now in
    let here = bytes_at c.args.place bytes in
    let less : c.loop.len < length bytes = omega (arith, c.if-bytes-len.false) in
    let is = min-below (front_length c.loop.counter) c.loop.len (length bytes) c.loop.invariant.0 (omega (arith, c.requires.fits)) less in
    let open_front = IsUnanswered-front c.args.place bytes c.loop.len means asked.result.1 asked.result.0 c.in_default.ensures asked.ensures.answer in (
      length-twice c.loop.counter c.loop.len c.saturating_mul-len.result c.loop.invariant.0 c.saturating_mul-len.ensures,
      below_more (λ j. IsUnanswered means (first_ahead (front_length j) here)) c.loop.counter c.loop.invariant.1 (subst (λ n. IsUnanswered means (first_ahead n here)) is open_front),
    )

pub returns-in-Some-clause-damage : goal.returns-in-Some-clause-damage
returns-in-Some-clause-damage g c =
    let means = g.R.TextRecord.means c.args.parser.now in
    let asked = c.ask_text-answer in
    let bytes = c.args.bytes.now in
    subst (λ answer. IfErr answer (TellsDamage means c.args.partial (bytes_at c.args.place bytes) (past (bytes_at c.args.place bytes) asked.result.1))) (sym c.in-Some.ensures.0)
    (TellsDamage-front c.args.place bytes c.loop.len means (g.met.R.TextRecord.lawful c.args.parser.now) c.args.partial asked.result.1 asked.result.0 asked.ensures.within asked.ensures.damage)

pub returns-in-Some-clause-error : goal.returns-in-Some-clause-error
returns-in-Some-clause-error g c =
    let means = g.R.TextRecord.means c.args.parser.now in
    let errors = g.R.TextRecord.errors c.args.parser.now in
    let asked = c.ask_text-answer in
    let bytes = c.args.bytes.now in
    let less : c.loop.len < length bytes = omega (arith, c.if-bytes-len.false) in
    let is = min-below (front_length c.loop.counter) c.loop.len (length bytes) c.loop.invariant.0 (omega (arith, c.requires.fits)) less in
    subst (λ answer. IfErr answer (FrontTold means errors c.args.partial (bytes_at c.args.place bytes) (past (bytes_at c.args.place bytes) asked.result.1))) (sym c.in-Some.ensures.0)
    (FrontTold-front means errors c.args.partial c.args.place bytes c.loop.counter c.loop.invariant.1 c.loop.len asked.result.1 asked.result.0 is less asked.ensures.within asked.ensures.error)

pub returns-clause-error : goal.returns-clause-error
returns-clause-error g c =
    let means = g.R.TextRecord.means c.args.parser.now in
    let errors = g.R.TextRecord.errors c.args.parser.now in
    let bytes = c.args.bytes.now in
    let fits : length bytes < 2 ^ 64 = omega (arith, c.requires.fits) in
    let enough : length bytes ≤ front_length c.loop.counter = elim c.loop-test.branch [
      | else-loop-test w ↦ length-last c.loop.counter (length bytes) (omega (arith, w.loop-test.false)) fits
      | then-loop-test+then-bytes-len w ↦
          min-at_most (front_length c.loop.counter) c.loop.len (length bytes) c.loop.invariant.0 (omega (arith, w.if-bytes-len.true))
    ] in
    FrontTold-all means errors c.args.partial c.args.place bytes c.loop.counter c.loop.invariant.1 c.ask_text.result.1 c.ask_text.result.0 enough c.ask_text.ensures.error
