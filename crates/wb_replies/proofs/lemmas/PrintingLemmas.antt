-- The lines that show an array.
use Rattle.std.proofs.Common.{◌≡◌, ℕ, ◌<◌, List, [], length, map, ap, sym, ◌∙◌}
use Rattle.std.specs.Prelude.{decimal, codes}
use Rattle.std.specs.declared.vec.Vec.{Vec}
use Rattle.std.specs.declared.alloc.Global.{Global}
use Rattle.format_resp.specs.declared.reply.Reply.{Reply}
use Rattle.format_resp.specs.declared.reply.Reply.TheOpen.{Array}
use Rattle.format_resp.specs.declared.reply.Reply.TheVariants as kind
use Rattle.format_resp.specs.declared.reply.Reply.TheVariants.{rolls-Array}
use Rattle.format_resp.specs.declared.reply.Reply.TheFolds.{fold-roll-Reply}
use Rattle.wb_replies.specs.Lines.{list_shown, entries, line_of}
use Rattle.wb_replies.specs.Printing.{layer_shown, shown}
use Rattle.wb_replies.proofs.lemmas.LineLemmas.{list_shown-empty, list_shown-entries}

-- how an array is shown, from how its replies are
pub shown-array : (y : Reply) (v : Vec Reply Global) (margin : List ℕ) → y ≡ kind.Array v
    → shown y margin ≡ list_shown 41 (codes "(empty array)") margin (map shown v.items)
shown-array y v margin e =
    ap (λ f. f margin) (ap shown (e ∙ sym (rolls-Array v)) ∙ fold-roll-Reply (List ℕ → List ℕ) layer_shown (Array v))

-- how an array with no replies is shown
pub shown-empty : (y : Reply) (v : Vec Reply Global) (margin : List ℕ) → y ≡ kind.Array v
    → v.items ≡ [] → shown y margin ≡ line_of [] (codes "(empty array)")
shown-empty y v margin is e =
    shown-array y v margin is ∙ list_shown-empty shown 41 (codes "(empty array)") margin v.items e

-- how an array with replies is shown
pub shown-entries : (y : Reply) (v : Vec Reply Global) (margin : List ℕ) (width : ℕ)
    → y ≡ kind.Array v → 0 < length v.items → width ≡ length (decimal (length v.items))
    → shown y margin ≡ entries 41 margin width 0 (map shown v.items)
shown-entries y v margin width is h e =
    shown-array y v margin is ∙ list_shown-entries shown 41 (codes "(empty array)") margin v.items width h e
