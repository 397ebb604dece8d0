use Rattle.std.proofs.Common.{◌≡◌, [], ◌∷◌, ◌∙◌, ap, sym}
use Rattle.std.proofs.lemmas.Result.{IfOk-weaker}
use Rattle.winnow_tree.specs.TreeContents.{tree_contents, frame_contents, with_frame, stack}
use Rattle.winnow_tree.specs.declared.tree.TreeError.{Alt}
use Rattle.winnow_tree.proofs.lemmas.MapLemmas.{pushes_stack, pushes_alt}
use Rattle.winnow_tree.proofs.pushing.push_frame.Goals as goal

pub returns-in_ok-push-in-Stack : goal.returns-in_ok-push-in-Stack
returns-in_ok-push-in-Stack g c = rw c.in-Stack.is (pushes_stack c.in-Stack.base c.in-Stack.stack c.push.new.self c.args.frame c.in_ok-push-in-Stack.ensures.items)

pub returns-in-Alt : goal.returns-in-Alt
returns-in-Alt g c =
    IfOk-weaker c.over-in-Alt.result (λ r. tree_contents r ≡ stack (tree_contents (Alt c.in-Alt.entries)) (frame_contents c.args.frame ∷ [])) (λ r. tree_contents r ≡ with_frame (frame_contents c.args.frame) (tree_contents c.args.error)) (λ r h. h ∙ pushes_alt c.in-Alt.entries c.args.frame ∙ sym (ap (λ t. with_frame (frame_contents c.args.frame) (tree_contents t)) c.in-Alt.is)) c.over-in-Alt.ensures
