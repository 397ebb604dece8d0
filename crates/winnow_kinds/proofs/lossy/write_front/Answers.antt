use Rattle.std.proofs.Common.{◌≡◌, ◌-◌, ◌<◌, ℕ, zero, suc, List, [], ◌∷◌, ◌++◌, take, encode_utf8, encode_utf8_all, refl, sym, ap, ◌∙◌, append_assoc, append-nil, arith}
use Rattle.std.proofs.Output.{has_written_styled_nil, has_written_styled_append, has_written_styled_of_eq}
use Rattle.winnow_kinds.proofs.lossy.write_front.Goals as goal

-- the front of the characters that are left: the first of them and then the others, or nothing at
-- the end
take-first : (left : ℕ) (c : ℕ) (cs : List ℕ) → 0 < left
    → take left (c ∷ cs) ≡ c ∷ take (left - 1) cs
take-first zero c cs some = absurd (omega arith)
take-first (suc left) c cs some = let less : left ≡ suc left - 1 = omega arith in ap (λ n. c ∷ take n cs) less

take-none : (left : ℕ) → encode_utf8_all (take left []) ≡ []
take-none zero = refl
take-none (suc left) = refl

pub loop-left-init : goal.loop-left-init
loop-left-init g c = λ flush. ([], has_written_styled_nil _ _ flush, ap (λ cs. encode_utf8_all (take c.args.count cs)) c.chars-chars.ensures.value)

pub returns-in_default : goal.returns-in_default
returns-in_default g c = λ flush ok.
    let now = c.loop-left.invariant flush in
    let none = ap (λ cs. encode_utf8_all (take c.loop-left.left cs)) c.in_default.ensures.steps.0 ∙ take-none c.loop-left.left in
    has_written_styled_of_eq _ _ _ _ _ (sym (append-nil now.0) ∙ ap (λ t. now.0 ++ t) (sym none) ∙ now.2) now.1

pub loop-left-preserved : goal.loop-left-preserved
loop-left-preserved g c = λ flush.
    let now = c.loop-left.invariant flush in
    let ch = c.in-Some.c in
    let some = ap (take c.loop-left.left) c.in-Some.ensures.steps ∙ take-first c.loop-left.left ch c.next.new.self c.loop-left-test.true in (
      now.0 ++ encode_utf8 ch,
      has_written_styled_append _ _ _ c.loop-left.f _ _ now.1 (c.in_ok-write_char.ensures.styled now.1.flush refl),
      append_assoc now.0 (encode_utf8 ch) _ ∙ ap (λ cs. now.0 ++ encode_utf8_all cs) (sym some) ∙ now.2,
    )

pub returns : goal.returns
returns g c = λ flush ok.
    let now = c.loop-left.invariant flush in
    let end : c.loop-left.left ≡ 0 = omega (arith, c.loop-left-test.false) in
    has_written_styled_of_eq _ _ _ _ _ (sym (append-nil now.0) ∙ ap (λ n. now.0 ++ encode_utf8_all (take n c.loop-left.chars)) (sym end) ∙ now.2) now.1
