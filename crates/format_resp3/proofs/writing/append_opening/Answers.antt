use Rattle.format_resp3.specs.Replies.{first_of, SpellsFirst}
use Rattle.format_resp3.specs.Exchange.{SpellsOpening}
use Rattle.format_resp3.specs.declared.reply.Reply.TheViews.{out-Reply}
use Rattle.format_resp3.proofs.lemmas.Written.{unwritten-as}
use Rattle.format_resp3.proofs.writing.append_opening.Goals as goal

pub returns-in-Err : goal.returns-in-Err
returns-in-Err c =
    let x = out-Reply c.args.reply.now in
    unwritten-as (SpellsFirst c.args.longest) (SpellsOpening c.args.longest) (first_of x) x (λ bytes (f, (s, e)). (f, s))
    c.args.bytes.now.items c.append_line_of.new.bytes.items c.args.bytes.now.items c.append_line_of.new.bytes.items c.in-Err.unwritten c.in-Err.ensures
