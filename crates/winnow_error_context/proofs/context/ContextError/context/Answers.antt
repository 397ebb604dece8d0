use Rattle.std.proofs.Common.{◌≡◌, ap, ◌∙◌}
use Rattle.std.proofs.lemmas.Iterator.Consumers.{YieldsList-from_first}
use Rattle.winnow_error_context.proofs.context.ContextError.context.Goals as goal

pub returns-clause-items : goal.returns-clause-items
returns-clause-items g c =
    let whole : c.new.result ≡ c.args.self.now.contexts = c.new.ensures ∙ c.as_slice.ensures.value ∙ ap (λ e. e.contexts) c.self.view_is in
    (YieldsList-from_first (λ x. x.now) (λ items. items) c.args.self.now.contexts whole).runs
