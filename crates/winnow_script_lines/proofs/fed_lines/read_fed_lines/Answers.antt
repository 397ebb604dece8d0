use Rattle.std.proofs.lemmas.Result.{IfOk-from_err}
use Rattle.std.proofs.Common.{◌≡◌, ◌≢◌, [], ◌∷◌, ◌∙◌, ap, arith, length, length-append, sym, true}
use Rattle.std.specs.Prelude.{◌==◌}
use Rattle.std.proofs.lemmas.Bool.{eqb-true}
use Rattle.winnow_script_lines.specs.Inputs.{DenotesFed}
use Rattle.winnow_script_lines.proofs.lemmas.FaultLemmas.{IfErr-handed, IsLineWhere-more}
use Rattle.winnow_script_lines.proofs.lemmas.FedLineLemmas.{BeginsWithPiece-push, FaultsFed-line}
use Rattle.winnow_script_lines.proofs.lemmas.LengthLemmas.{length-AreLines}
use Rattle.winnow_script_lines.proofs.lemmas.LineLemmas.{AreLines-push, empty_of_length}
use Rattle.winnow_script_lines.proofs.fed_lines.read_fed_lines.Goals as goal

pub loop-alloc-preserved : goal.loop-alloc-preserved
loop-alloc-preserved g c =
    let line = c.in_ok-line.ensures in
    let more = AreLines-push (DenotesFed g.L.Contents.bytes) _ _ _ _ c.loop-alloc.invariant.told line.told in
    record {
      told = rw (c.in_ok-push.ensures.items, line.rest) more;
      first = rw c.in_ok-push.ensures.items (BeginsWithPiece-push _ _ c.loop-alloc.invariant.first (λ none. line.first (c.is_empty-in-loop-alloc.ensures ∙ ap (λ n. n == 0) (c.loop-alloc.told.ok.0 ∙ ap length none))));
      number = omega (arith, c.loop-alloc.invariant.number, line.number, ap length c.in_ok-push.ensures.items, length-append c.loop-alloc.told.items (c.in_ok-line.line ∷ []));
      reach = omega (arith, c.loop-alloc.invariant.reach, line.reach);
    }

pub returns-clause-short : goal.returns-clause-short
returns-clause-short g c = length-AreLines g.L.Contents.bytes _ _ _ c.loop-alloc.invariant.told

-- the next line means nothing that may follow those before it
pub returns-in_err-line-clause-fault : goal.returns-in_err-line-clause-fault
returns-in_err-line-clause-fault g c =
    let before = c.loop-alloc.invariant in
    let bytes = g.L.Contents.bytes in
    let left = c.loop-alloc.lines.rest.now in
    let told = c.loop-alloc.told in
    let filled : left ≢ [] = λ none. cc (sym (c.is_empty.ensures.1 (ap length none)) ∙ c.loop-alloc-test.true) in
    let empty : c.is_empty-in-loop-alloc.result ≡ true → told.items ≡ [] = λ is. empty_of_length told.items (omega (arith, eqb-true, sym c.is_empty-in-loop-alloc.ensures ∙ is, told.ok.0)) in
    IfErr-handed _ c.from_residual.result c.in_err-line.field-0.0 c.from_residual.ensures.1
    (IsLineWhere-more _ _ c.in_err-line.field-0.0 (λ k fault. FaultsFed-line bytes c.args.lines.now.number c.args.lines.now.rest.now told.items left c.is_empty-in-loop-alloc.result k before.told before.first filled empty fault.1 (fault.0 ∙ before.number)) c.in_err-line.ensures.fault)

-- if memory is refused, there is no value and nothing to promise of it
pub returns-in_err-line-clause-told : goal.returns-in_err-line-clause-told
returns-in_err-line-clause-told g c = IfOk-from_err _ _ c.from_residual.ensures.0

pub returns-in_err-line-clause-first : goal.returns-in_err-line-clause-first
returns-in_err-line-clause-first g c = IfOk-from_err _ _ c.from_residual.ensures.0

pub returns-in_err-line-clause-short : goal.returns-in_err-line-clause-short
returns-in_err-line-clause-short g c = IfOk-from_err _ _ c.from_residual.ensures.0

pub returns-in_err-push-clause-told : goal.returns-in_err-push-clause-told
returns-in_err-push-clause-told g c = IfOk-from_err _ _ c.from_residual-in_err-push.ensures.0

pub returns-in_err-push-clause-first : goal.returns-in_err-push-clause-first
returns-in_err-push-clause-first g c = IfOk-from_err _ _ c.from_residual-in_err-push.ensures.0

pub returns-in_err-push-clause-short : goal.returns-in_err-push-clause-short
returns-in_err-push-clause-short g c = IfOk-from_err _ _ c.from_residual-in_err-push.ensures.0
