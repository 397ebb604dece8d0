use Rattle.std.proofs.lemmas.Result.{IfOk-from_err}
use Rattle.std.proofs.Common.{◌≡◌, ap, codes, length, arith, sym, ◌∙◌}
use Rattle.winnow_script_lines.specs.Readings.{DenotesNothing}
use Rattle.winnow_script_lines.specs.Steps.{DenotesCall}
use Rattle.winnow_script_lines.specs.Words.{first_word}
use Rattle.winnow_script_lines.proofs.lemmas.StepLemmas.{DenotesStep-nothing, DenotesStep-alone}
use Rattle.winnow_script_lines.proofs.steps.read_step.Goals as goal

-- the line is one word, which is that of no call
pub returns-in_default-split_word : goal.returns-in_default-split_word
returns-in_default-split_word g c =
    let call : DenotesNothing DenotesCall c.args.line.now = rw c.in_default.is at c.read_call.ensures in
    DenotesStep-alone g.L.Contents.bytes c.args.line.now call (λ spaced. cc (c.in_default-split_word.ensures.found.1 spaced))

-- the line begins with `first`, and no ranges follow
pub returns-in-None : goal.returns-in-None
returns-in-None g c =
    let line = c.args.line.now in
    let call : DenotesNothing DenotesCall line = rw c.in_default.is at c.read_call.ensures in
    let words = c.in-Some-split_word.ensures in
    let named : first_word line ≡ codes "first" = sym words.first ∙ c.in-first.is in
    let none = rw (words.later, c.in-None.is) at c.in_ok-ranges-in-first.ensures in
    DenotesStep-nothing g.L.Contents.bytes line call (λ first ranges. none ranges)
    (λ compare. absurd (omega (arith, ap length (sym compare ∙ named))))
    (λ find. absurd (omega (arith, ap length (sym find ∙ named))))

-- the first word of the line is that of no step
pub returns-in_default-name : goal.returns-in_default-name
returns-in_default-name g c =
    let line = c.args.line.now in
    let call : DenotesNothing DenotesCall line = rw c.in_default.is at c.read_call.ensures in
    let words = c.in-Some-split_word.ensures in
    DenotesStep-nothing g.L.Contents.bytes line call
    (λ first. absurd (c.in_default-name.not-first (words.first ∙ first)))
    (λ compare. absurd (c.in_default-name.not-compare (words.first ∙ compare)))
    (λ find. absurd (c.in_default-name.not-find (words.first ∙ find)))

-- if memory is refused, there is no value and nothing to promise of it
pub returns-in_err-ranges-in-first : goal.returns-in_err-ranges-in-first
returns-in_err-ranges-in-first g c = IfOk-from_err _ _ c.from_residual.ensures.0

pub returns-in_err-literal-in-compare : goal.returns-in_err-literal-in-compare
returns-in_err-literal-in-compare g c = IfOk-from_err _ _ c.from_residual-in_err-literal-in-compare.ensures.0

pub returns-in_err-needles-in-find : goal.returns-in_err-needles-in-find
returns-in_err-needles-in-find g c = IfOk-from_err _ _ c.from_residual-in_err-needles-in-find.ensures.0
