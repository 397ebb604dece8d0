-- The text of an array.
use Rattle.std.proofs.Common.{◌≡◌, ℕ, suc, ◌+◌, ◌<◌, ◌≤◌, List, [], ◌∷◌, ◌++◌, length, map, take, get_or, ap, sym, ◌∙◌, arith, append_assoc, add-zero, zero-add}
use Rattle.std.proofs.lemmas.List.{append-nil, length-map, length-take-le, map_more}
use Rattle.std.specs.declared.vec.Vec.{Vec}
use Rattle.std.specs.declared.alloc.Global.{Global}
use Rattle.format_resp.specs.declared.reply.Reply.{Reply}
use Rattle.format_resp.specs.declared.reply.Reply.TheOpen.{Array}
use Rattle.format_resp.specs.declared.reply.Reply.TheVariants as kind
use Rattle.format_resp.specs.declared.reply.Reply.TheVariants.{rolls-Array}
use Rattle.format_resp.specs.declared.reply.Reply.TheFolds.{fold-roll-Reply}
use Rattle.wb_replies.specs.Raw.{separator, raw_entries, layer_raw, raw}

-- the text of an array, from those of its replies
pub raw-array : (y : Reply) (v : Vec Reply Global) → y ≡ kind.Array v
    → raw y ≡ raw_entries 0 (map raw v.items)
raw-array y v e =
    ap raw (e ∙ sym (rolls-Array v)) ∙ fold-roll-Reply (List ℕ) layer_raw (Array v)

-- the texts with one more
raw_entries-more : (i : ℕ) (xs : List (List ℕ)) (x : List ℕ)
    → raw_entries i (xs ++ x ∷ []) ≡ raw_entries i xs ++ separator (i + length xs) ++ x
raw_entries-more i [] x =
    append-nil (separator i ++ x) ∙ ap (λ n. separator n ++ x) (sym (add-zero i))
raw_entries-more i (y ∷ ys) x =
    let first = separator i ++ y in
    let next : i + 1 + length ys ≡ i + suc (length ys) = omega arith in
    ap (λ t. first ++ t) (raw_entries-more (i + 1) ys x)
    ∙ sym (append_assoc first (raw_entries (i + 1) ys ++ separator (i + 1 + length ys)) x)
    ∙ ap (λ t. t ++ x) (sym (append_assoc first (raw_entries (i + 1) ys) (separator (i + 1 + length ys))))
    ∙ ap (λ n. first ++ raw_entries (i + 1) ys ++ separator n ++ x) next

-- the texts up to the next index are those before, and the next
pub raw_entries-next : {T : Type 0} (text : T → List ℕ) (items : List T) (i : ℕ) (d : T)
    → i < length items
    → raw_entries 0 (map text (take (i + 1) items))
    ≡ raw_entries 0 (map text (take i items)) ++ separator i ++ text (get_or items i d)
raw_entries-next text items i d h =
    let le : i ≤ length items = omega (arith, h) in
    let count : 0 + length (map text (take i items)) ≡ i =
    zero-add (length (map text (take i items))) ∙ length-map (take i items) text ∙ length-take-le i items le in
    ap (raw_entries 0) (map_more text items i d h)
    ∙ raw_entries-more 0 (map text (take i items)) (text (get_or items i d))
    ∙ ap (λ n. raw_entries 0 (map text (take i items)) ++ separator n ++ text (get_or items i d)) count
