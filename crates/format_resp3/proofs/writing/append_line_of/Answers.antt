use Rattle.std.proofs.Common.{◌≡◌, ℕ, List, subst}
use Rattle.format_resp3.specs.Replies.{first_of, SpellsFirst}
use Rattle.format_resp3.specs.Exchange.{Appends}
use Rattle.format_resp3.specs.declared.reply.Reply.TheViews.{out-Reply}
use Rattle.format_resp3.proofs.writing.append_line_of.Goals as goal

pub returns : goal.returns
returns c =
    let is : ◌≡◌ {A = ℕ × List ℕ} (c.kind_of.result, c.text_of.result.now) (first_of (out-Reply c.args.reply.now)) = λ i. (c.kind_of.ensures.kind i, c.text_of.ensures i) in
    subst (λ first. Appends (SpellsFirst c.args.longest) first c.args.bytes.now.items c.append_first.result c.append_first.new.bytes.items) is c.append_first.ensures
