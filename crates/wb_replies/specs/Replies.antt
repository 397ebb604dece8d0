-- What the program prints of an input, in the words of the protocol.
use Rattle.std.specs.Prelude.{◌≡◌, ℕ, List, [], ◌++◌, Option, Some, IfSome, Result, Ok, Err, ⊤}
use Rattle.format_resp.specs.Language.{SpellAll, Spells}
use Rattle.format_resp.specs.declared.grammar.ReplyTo.{ReplyTo}
use Rattle.format_resp.specs.declared.reply.Reply.{Reply}
use Rattle.wb_base.specs.Excerpts.{IsExcerpt}
use Rattle.wb_base.specs.declared.excerpt.Excerpt.{Excerpt}
use Rattle.wb_replies.specs.Positions.{start, position_after}
use Rattle.wb_replies.specs.Layouts.{printed_all}
use Rattle.wb_replies.specs.declared.layout.Layout.{Layout}
use Rattle.wb_replies.specs.declared.positions.Position.{Position}
use Rattle.wb_replies.specs.declared.failure.Failure.{Failure}
use Rattle.wb_replies.specs.declared.failure.Failure.TheVariants.{NoReply, EndsInside, Stopped}

-- the input is what spells these replies within the limits, one after the other, and then the rest;
-- they were printed after what the output had before
pub record PrintsFront (layout : Layout) (limits : ReplyTo) (whole before rest : List ℕ) (new : Option (List ℕ)) : Type 0 where
  pub replies : List Reply
  pub front : List ℕ
  pub splits : whole ≡ front ++ rest
  pub spells : SpellAll (Spells limits.longest limits.depth) replies front
  pub printed : new ≡ Some (before ++ printed_all layout replies)

-- the place is the one after this front of the input, and the excerpt is from there
pub record IsPlaceIn (front rest : List ℕ) (place : Position) (excerpt : Option Excerpt) : Type 0 where
  pub begun : List ℕ
  pub after : List ℕ
  pub splits : rest ≡ begun ++ after
  pub leads : place ≡ position_after start (front ++ begun)
  pub shows : IfSome excerpt (IsExcerpt (front ++ begun) after)

-- all of the input is replies, which were printed; or those before the failure were, whose place is
-- in the rest; or memory was refused, or reading or writing failed
abbrev pub PrintsInput : Layout → ReplyTo → List ℕ → List ℕ → Option (List ℕ)
    → Result (Unit {0}) Failure → Type 0
PrintsInput layout limits whole before new (Ok done) =
    PrintsFront layout limits whole before [] new
PrintsInput layout limits whole before new (Err (NoReply place cause excerpt)) = (rest : List ℕ)
    × ((prints : PrintsFront layout limits whole before rest new)
    × IsPlaceIn prints.front rest place excerpt)
PrintsInput layout limits whole before new (Err (EndsInside place excerpt)) = (rest : List ℕ)
    × ((prints : PrintsFront layout limits whole before rest new)
    × (place ≡ position_after start prints.front))
PrintsInput layout limits whole before new (Err (Stopped trouble)) = ⊤
