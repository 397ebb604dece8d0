-- The text of a reply of version 3, from those of the replies in it.
use Rattle.std.proofs.Common.{◌≡◌, ℕ, List, [], ◌∷◌, ◌++◌, map, refl, ap, sym, ◌∙◌, append_assoc}
use Rattle.std.specs.declared.vec.Vec.{Vec}
use Rattle.std.specs.declared.alloc.Global.{Global}
use Rattle.format_resp3.specs.declared.reply.Reply.{Reply}
use Rattle.format_resp3.specs.declared.reply.Reply.TheOpen as layer
use Rattle.format_resp3.specs.declared.reply.Reply.TheVariants as kind
use Rattle.format_resp3.specs.declared.reply.Reply.TheVariants.{rolls-Map}
use Rattle.format_resp3.specs.declared.reply.Reply.TheFolds.{fold-roll-Reply}
use Rattle.wb_replies.specs.Raw.{raw_entries}
use Rattle.wb_replies3.specs.Raw.{layer_raw, pair_raw, raw, raw_pair}

-- the texts of pairs are made of those of their parts
pairs-raw : (pairs : List (Reply × Reply))
    → map pair_raw (map (λ p. (raw p.0, raw p.1)) pairs) ≡ map raw_pair pairs
pairs-raw [] = refl
pairs-raw (p ∷ pairs) = ap (λ l. raw_pair p ∷ l) (pairs-raw pairs)

-- the text of a map
pub raw-map : (y : Reply) (v : Vec (Reply × Reply) Global) (pairs : List (Reply × Reply))
    → y ≡ kind.Map v → pairs ≡ v.items
    → raw y ≡ raw_entries 0 (map raw_pair pairs)
raw-map y v pairs e is =
    ap raw (e ∙ sym (rolls-Map v)) ∙ fold-roll-Reply (List ℕ) layer_raw (layer.Map v)
    ∙ ap (raw_entries 0) (pairs-raw v.items)
    ∙ ap (λ l. raw_entries 0 (map raw_pair l)) (sym is)

-- a pair is appended: its key, a space and its value
pub pair-raw-appended : (pair one : Reply × Reply) (old keyed spaced new : List ℕ) → pair ≡ one
    → keyed ≡ old ++ raw pair.0 → spaced ≡ keyed ++ 32 ∷ [] → new ≡ spaced ++ raw pair.1
    → new ≡ old ++ raw_pair one
pair-raw-appended pair one old keyed spaced new is k s n =
    n ∙ ap (λ t. t ++ raw pair.1) (s ∙ ap (λ t. t ++ 32 ∷ []) k)
    ∙ ap (λ (p : Reply × Reply). old ++ raw p.0 ++ 32 ∷ [] ++ raw p.1) is
    ∙ append_assoc (old ++ raw one.0) (32 ∷ []) (raw one.1)
    ∙ append_assoc old (raw one.0) (32 ∷ raw one.1)
