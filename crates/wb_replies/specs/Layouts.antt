-- How a reply is printed.
use Rattle.std.specs.Prelude.{ℕ, List, []}
use Rattle.std.specs.List.{flat_map}
use Rattle.format_resp.specs.declared.reply.Reply.{Reply}
use Rattle.wb_replies.specs.declared.layout.Layout.{Layout}
use Rattle.wb_replies.specs.declared.layout.Layout.TheVariants.{Terminal, Raw, Nothing}
use Rattle.wb_replies.specs.Printing.{shown}
use Rattle.wb_replies.specs.Raw.{raw}

-- a reply as the layout says
abbrev pub printed : Layout → Reply → List ℕ
printed Terminal reply = shown reply []
printed Raw reply = raw reply
printed Nothing reply = []

-- replies as the layout says, one after the other
abbrev pub printed_all : Layout → List Reply → List ℕ
printed_all layout replies = flat_map (printed layout) replies
