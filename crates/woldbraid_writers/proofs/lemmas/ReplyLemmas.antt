-- What the calls of a reply write.
use Rattle.std.proofs.Common.{◌≡◌, ℕ, Bool, true, false, not, ◌&&◌, List, [], ◌∷◌, ◌++◌, map, length, decimal, ap, sym, ◌∙◌, subst, refl, append-nil}
use Rattle.std.specs.List.{flat_map, list_any, list_all, All}
use Rattle.std.proofs.lemmas.Grind.{flat_map-append}
use Rattle.std.proofs.lemmas.List.{length-map}
use Rattle.std.proofs.lemmas.List.Elements.{All-append, All-nil, All-cons}
use Rattle.format_resp.specs.Language.{line}
use Rattle.format_resp.specs.Writing.{ends_line, layer_written, written, layer_writable, is_writable}
use Rattle.woldbraid_writers.specs.Replies.{Part, part_text, IsWritable}
use Rattle.woldbraid_writers.specs.Replies as part
use Rattle.woldbraid_writers.specs.WholeReplies.{layer_parts, parts_of, parts_text}
use Rattle.format_resp.specs.declared.reply.Reply.{Reply, map-Reply}
use Rattle.format_resp.specs.declared.reply.Reply.TheOpen.{Reply-F, Simple, Error, Integer, Bulk, NullBulk, Array, NullArray}
use Rattle.format_resp.specs.declared.reply.Reply.TheFolds.{fold-roll-Reply, ind-Reply}

-- the calls of the reply write it
abbrev IsWritten : Reply → Type 0
IsWritten r = parts_text (parts_of r) ≡ written r

-- what the calls of each reply write, those of all of them do, one after the other
all-written : (rs : List ((r : Reply) × IsWritten r))
    → parts_text (flat_map (λ one. one) (map parts_of (map (λ e. e.0) rs)))
    ≡ flat_map (λ one. one) (map written (map (λ e. e.0) rs))
all-written [] = refl
all-written (e ∷ rs) =
    flat_map-append part_text (parts_of e.0) (flat_map (λ one. one) (map parts_of (map (λ e. e.0) rs)))
    ∙ ap (λ l. l ++ parts_text (flat_map (λ one. one) (map parts_of (map (λ e. e.0) rs)))) e.1
    ∙ ap (λ l. written e.0 ++ l) (all-written rs)

-- a layer whose replies are written by their calls
layer-written : (y : Reply-F ((r : Reply) × IsWritten r))
    → let x = map-Reply ((r : Reply) × IsWritten r) Reply (λ e. e.0) y in
    parts_text (layer_parts (map-Reply Reply (List Part) parts_of x)) ≡ layer_written (map-Reply Reply (List ℕ) written x)
layer-written (Simple text) = append-nil _
layer-written (Error text) = append-nil _
layer-written (Integer n) = append-nil _
layer-written (Bulk held) = append-nil _
layer-written NullBulk = append-nil _
layer-written (Array replies) =
    let rs = map (λ e. e.0) replies.items in
    ap (λ n. 42 ∷ (line (decimal n) ++ parts_text (flat_map (λ one. one) (map parts_of rs)))) (length-map rs parts_of ∙ sym (length-map rs written))
    ∙ ap (λ l. 42 ∷ (line (decimal (length (map written rs))) ++ l)) (all-written replies.items)
layer-written NullArray = append-nil _

pub calls-write : (r : Reply) → IsWritten r
calls-write = ind-Reply IsWritten (λ x y is.
    ap parts_text (fold-roll-Reply (List Part) layer_parts x)
    ∙ subst (λ z. parts_text (layer_parts (map-Reply Reply (List Part) parts_of z)) ≡ layer_written (map-Reply Reply (List ℕ) written z)) is (layer-written y)
    ∙ sym (fold-roll-Reply (List ℕ) layer_written x))

-- no text of a line in the reply has a line end, and so none of its calls is refused for one
abbrev IsFree : Reply → Type 0
IsFree r = is_writable r ≡ true → All IsWritable (parts_of r)

-- both of two
both : (a b : Bool) → (a && b) ≡ true → (a ≡ true) × (b ≡ true)
both true b e = (refl, e)
both false b e = absurd (cc e)

-- not true is false
is-false : (a : Bool) → not a ≡ true → a ≡ false
is-false true e = absurd (cc e)
is-false false e = refl

one-free : (p : Part) → IsWritable p → All IsWritable (p ∷ [])
one-free p h = All-cons IsWritable p [] h (All-nil IsWritable)

all-free : (rs : List ((r : Reply) × IsFree r))
    → list_all (λ one. one) (map is_writable (map (λ e. e.0) rs)) ≡ true
    → All IsWritable (flat_map (λ one. one) (map parts_of (map (λ e. e.0) rs)))
all-free [] h = All-nil IsWritable
all-free (e ∷ rs) h =
    let (first, others) = both (is_writable e.0) (list_all (λ one. one) (map is_writable (map (λ e. e.0) rs))) h in
    All-append IsWritable (parts_of e.0) (flat_map (λ one. one) (map parts_of (map (λ e. e.0) rs))) (e.1 first) (all-free rs others)

layer-free : (y : Reply-F ((r : Reply) × IsFree r))
    → let x = map-Reply ((r : Reply) × IsFree r) Reply (λ e. e.0) y in
    layer_writable (map-Reply Reply Bool is_writable x) ≡ true → All IsWritable (layer_parts (map-Reply Reply (List Part) parts_of x))
layer-free (Simple text) h = one-free (part.Simple text.items) (is-false (list_any ends_line text.items) h)
layer-free (Error text) h = one-free (part.Error text.items) (is-false (list_any ends_line text.items) h)
layer-free (Integer n) h = one-free (part.Integer n) tt
layer-free (Bulk held) h = one-free (part.Bulk held.items) tt
layer-free NullBulk h = one-free part.NullBulk tt
layer-free (Array replies) h =
    let rs = map (λ e. e.0) replies.items in
    All-cons IsWritable (part.Array (length (map parts_of rs))) (flat_map (λ one. one) (map parts_of rs)) tt (all-free replies.items h)
layer-free NullArray h = one-free part.NullArray tt

pub calls-free : (r : Reply) → IsFree r
calls-free = ind-Reply IsFree (λ x y is free.
    subst (All IsWritable) (sym (fold-roll-Reply (List Part) layer_parts x))
    (subst (λ z. layer_writable (map-Reply Reply Bool is_writable z) ≡ true → All IsWritable (layer_parts (map-Reply Reply (List Part) parts_of z))) is (layer-free y)
    (sym (fold-roll-Reply Bool layer_writable x) ∙ free)))
