use Rattle.std.proofs.Common.{◌≡◌, ◌++◌, ◌<◌, length, ap, sym, ◌∙◌, append_assoc, append-nil, rules}
use Rattle.std.proofs.Output.{has_written_styled_append, has_written_styled_of_eq}
use Rattle.std.proofs.lemmas.Str.{utf8_lossy_empty}
use Rattle.std.specs.Str.Lossy.{replacement_bytes}
use Rattle.winnow_kinds.proofs.lemmas.LossyLemmas.{utf8_lossy-damaged, utf8_lossy-last}
use Rattle.winnow_kinds.proofs.lossy.write_whole.Goals as goal

pub loop-chunk-preserved-in-Continue-branch-2 : goal.loop-chunk-preserved-in-Continue-branch-2
loop-chunk-preserved-in-Continue-branch-2 g c = λ flush.
    let now = c.loop-chunk.invariant flush in
    let steps = c.in-Some.ensures.steps in
    let some : 0 < length c.in-Some.chunk.invalid.now = search rules in
    let text = utf8_lossy-damaged _ _ _ _ steps.0 (steps.4 some) (steps.5 some) some in
    let first = has_written_styled_append _ _ _ c.loop-chunk.f _ _ now.1 (c.write_str.ensures.styled now.1.flush (search rules)) in (
      (now.0 ++ c.valid.result.now) ++ replacement_bytes,
      has_written_styled_append _ _ _ c.write_str.new.self _ _ first (c.write_str-then-not-is_empty.ensures.styled first.flush (search rules)),
      rw c.valid.ensures (simp append_assoc (rw text at now.2)),
    )

pub loop-chunk-preserved : goal.loop-chunk-preserved
loop-chunk-preserved g c = λ flush.
    let now = c.loop-chunk.invariant flush in
    let steps = c.in-Some.ensures.steps in
    let none : length c.in-Some.chunk.invalid.now ≡ 0 = search rules in
    let text = utf8_lossy-last _ _ _ _ steps.0 steps.1 none (steps.3 none) in (
      now.0 ++ c.valid.result.now,
      has_written_styled_append _ _ _ c.loop-chunk.f _ _ now.1 (c.write_str.ensures.styled now.1.flush (search rules)),
      rw c.valid.ensures (rw append_assoc (rw text at now.2)),
    )

pub returns : goal.returns
returns g c = λ flush ok.
    let now = c.loop-chunk.invariant flush in
    has_written_styled_of_eq _ _ _ _ _ (sym (append-nil now.0) ∙ ap (λ t. now.0 ++ t) (sym (utf8_lossy_empty _ c.in-None.ensures.steps.0)) ∙ now.2) now.1
