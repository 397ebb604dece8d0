-- What is written spells the reply, and nothing else does.
use Rattle.std.proofs.Common.{◌≡◌, ℕ, zero, suc, Bool, true, false, List, [], ◌∷◌, ◌++◌, length, map, ap, sym, ◌∙◌, subst, refl, arith, append_assoc}
use Rattle.std.specs.Prelude.{◌||◌, ◌&&◌, not, IsTrue, decimal}
use Rattle.std.specs.List.{flat_map, list_any, list_all}
use Rattle.std.specs.Fmt.{signed_decimal}
use Rattle.std.specs.declared.vec.Vec.{Vec}
use Rattle.std.specs.declared.alloc.Global.{Global}
use Rattle.std.proofs.lemmas.List.{length-map}
use Rattle.std.proofs.lemmas.List.Folds.{flat_map-map, list_all-map}
use Rattle.format_resp.specs.Language.{AreInLine, line, SpellAll, SpellsLayer, SpellsNone, Spells}
use Rattle.format_resp.specs.Writing.{ends_line, layer_writable, is_writable, layer_written, written, EachIsWithin, LayerIsWithin, IsNever, IsWithin}
use Rattle.format_resp.specs.declared.reply.Reply.{Reply, map-Reply}
use Rattle.format_resp.specs.declared.reply.Reply.TheOpen.{Reply-F, Simple, Error, Integer, Bulk, NullBulk, Array, NullArray}
use Rattle.format_resp.specs.declared.reply.Reply.TheVariants as kind
use Rattle.format_resp.specs.declared.reply.Reply.TheVariants.{rolls-Array}
use Rattle.format_resp.specs.declared.reply.Reply.TheViews.{out-Reply}
use Rattle.format_resp.specs.declared.reply.Reply.TheFolds.{fold-roll-Reply, fold_out-Reply}

-- the bytes of an array, from those of its replies
pub written-array : (y : Reply) (v : Vec Reply Global) → y ≡ kind.Array v
    → written y ≡ 42 ∷ (line (decimal (length v.items)) ++ flat_map written v.items)
written-array y v e =
    ap written (e ∙ sym (rolls-Array v)) ∙ fold-roll-Reply (List ℕ) layer_written (Array v)
    ∙ ap (λ n. 42 ∷ (line (decimal n) ++ flat_map (λ one. one) (map written v.items))) (length-map v.items written)
    ∙ ap (λ s. 42 ∷ (line (decimal (length v.items)) ++ s)) (flat_map-map (λ one. one) written v.items)

-- a length and the replies after it are what is written for an array
pub writes-array : (y : Reply) (v : Vec Reply Global) → y ≡ kind.Array v → (n : ℕ)
    → n ≡ length v.items → (old mid new : List ℕ) → mid ≡ old ++ 42 ∷ line (decimal n)
    → new ≡ mid ++ flat_map written v.items → new ≡ old ++ written y
writes-array y v is n e old mid new p q =
    q ∙ ap (λ m. m ++ flat_map written v.items) p ∙ append_assoc old (42 ∷ line (decimal n)) (flat_map written v.items)
    ∙ ap (λ k. old ++ 42 ∷ (line (decimal k) ++ flat_map written v.items)) e ∙ ap (λ t. old ++ t) (sym (written-array y v is))

-- an array can be written if its replies can
pub writable-array : (y : Reply) (v : Vec Reply Global) → y ≡ kind.Array v
    → is_writable y ≡ list_all is_writable v.items
writable-array y v e =
    ap is_writable (e ∙ sym (rolls-Array v)) ∙ fold-roll-Reply Bool layer_writable (Array v)
    ∙ list_all-map (λ one. one) is_writable v.items

-- ---- What is written spells the reply

module _ (spells : Reply → List ℕ → Type 0) (within : Reply → Type 0) (one : (y : Reply) → within y → spells y (written y)) where
  -- what is written for some replies spells them
  each-spelled : (xs : List Reply) → EachIsWithin within xs
      → SpellAll spells xs (flat_map (λ t. t) (map written xs))
  each-spelled [] h = refl
  each-spelled (x ∷ xs) h = (written x, (flat_map (λ t. t) (map written xs), (refl, one x h.0, each-spelled xs h.1)))

  -- what is written for a layer spells it
  layer-spelled : (longest : ℕ) (f : Reply-F Reply) → LayerIsWithin longest within f
      → SpellsLayer longest spells f (layer_written (map-Reply Reply (List ℕ) written f))
  layer-spelled longest (Simple v) h = (h, refl)
  layer-spelled longest (Error v) h = (h, refl)
  layer-spelled longest (Integer n) h = (signed_decimal n, ((h, refl), refl))
  layer-spelled longest (Bulk v) h = (decimal (length v.items), ((h.0, h.1, refl), refl))
  layer-spelled longest NullBulk h = refl
  layer-spelled longest (Array v) h =
      (decimal (length v.items), (flat_map (λ t. t) (map written v.items), ((omega (arith, h.1), h.1, refl), each-spelled v.items h.0, ap (λ n. 42 ∷ (line (decimal n) ++ flat_map (λ t. t) (map written v.items))) (length-map v.items written))))
  layer-spelled longest NullArray h = refl

-- what is written for a reply within limits spells it
pub spelled : (longest depth : ℕ) (y : Reply) → IsWithin longest depth y
    → Spells longest depth y (written y)
spelled longest zero y h =
    subst (SpellsLayer longest SpellsNone (out-Reply y)) (sym (fold_out-Reply (List ℕ) layer_written y))
    (layer-spelled SpellsNone IsNever (λ y h. absurd h) longest (out-Reply y) h)
spelled longest (suc depth) y h =
    subst (SpellsLayer longest (Spells longest depth) (out-Reply y)) (sym (fold_out-Reply (List ℕ) layer_written y))
    (layer-spelled (Spells longest depth) (IsWithin longest depth) (spelled longest depth) longest (out-Reply y) h)

-- ---- Nothing else spells it

module _ (spells : Reply → List ℕ → Type 0) (one : (y : Reply) (t : List ℕ) → spells y t → t ≡ written y) where
  -- what spells some replies is what is written for them
  each-once : (xs : List Reply) (t : List ℕ) → SpellAll spells xs t
      → t ≡ flat_map (λ t. t) (map written xs)
  each-once [] t h = h
  each-once (x ∷ xs) t (a, (b, (e, h, k))) =
      e ∙ ap (λ s. s ++ b) (one x a h) ∙ ap (λ s. written x ++ s) (each-once xs b k)

  -- what spells a layer is what is written for it
  layer-once : (longest : ℕ) (f : Reply-F Reply) (t : List ℕ) → SpellsLayer longest spells f t
      → t ≡ layer_written (map-Reply Reply (List ℕ) written f)
  layer-once longest (Simple v) t h = h.1
  layer-once longest (Error v) t h = h.1
  layer-once longest (Integer n) t (text, (is, e)) = e ∙ ap (λ s. 58 ∷ line s) is.1
  layer-once longest (Bulk v) t (text, (is, e)) = e ∙ ap (λ s. 36 ∷ (line s ++ line v.items)) is.2
  layer-once longest NullBulk t h = h
  layer-once longest (Array v) t (text, (more, (is, all, e))) =
      e ∙ ap (λ s. 42 ∷ (line s ++ more)) is.2 ∙ ap (λ s. 42 ∷ (line (decimal (length v.items)) ++ s)) (each-once v.items more all)
      ∙ ap (λ n. 42 ∷ (line (decimal n) ++ flat_map (λ t. t) (map written v.items))) (sym (length-map v.items written))
  layer-once longest NullArray t h = h

-- what spells a reply is what is written for it
pub once : (longest depth : ℕ) (y : Reply) (t : List ℕ) → Spells longest depth y t → t ≡ written y
once longest zero y t h =
    layer-once SpellsNone (λ y t h. absurd h) longest (out-Reply y) t h ∙ sym (fold_out-Reply (List ℕ) layer_written y)
once longest (suc depth) y t h =
    layer-once (Spells longest depth) (once longest depth) longest (out-Reply y) t h ∙ sym (fold_out-Reply (List ℕ) layer_written y)

-- ---- What has a spelling can be written

-- where neither of two holds, their alternative does not
neither : (b c : Bool) → IsTrue (not b) → c ≡ false → (b || c) ≡ false
neither true c h e = absurd (cc)
neither false c h e = e

-- the text of a line has no line end
no-end : (text : List ℕ) → AreInLine text → list_any ends_line text ≡ false
no-end [] h = refl
no-end (c ∷ cs) h = neither (ends_line c) (list_any ends_line cs) h.0 (no-end cs h.1)

-- two that hold, hold together
both : (b c : Bool) → b ≡ true → c ≡ true → (b && c) ≡ true
both true c e f = f
both false c e f = absurd (cc)

module _ (spells : Reply → List ℕ → Type 0) (one : (y : Reply) (t : List ℕ) → spells y t → is_writable y ≡ true) where
  -- replies that are spelled can be written
  each-writable : (xs : List Reply) (t : List ℕ) → SpellAll spells xs t
      → list_all (λ b. b) (map is_writable xs) ≡ true
  each-writable [] t h = refl
  each-writable (x ∷ xs) t (a, (b, (e, h, k))) = both (is_writable x) (list_all (λ b. b) (map is_writable xs)) (one x a h) (each-writable xs b k)

  -- a layer that is spelled can be written
  layer-can : (longest : ℕ) (f : Reply-F Reply) (t : List ℕ) → SpellsLayer longest spells f t
      → layer_writable (map-Reply Reply Bool is_writable f) ≡ true
  layer-can longest (Simple v) t h = ap not (no-end v.items h.0.0)
  layer-can longest (Error v) t h = ap not (no-end v.items h.0.0)
  layer-can longest (Integer n) t h = refl
  layer-can longest (Bulk v) t h = refl
  layer-can longest NullBulk t h = refl
  layer-can longest (Array v) t (text, (more, (is, all, e))) = each-writable v.items more all
  layer-can longest NullArray t h = refl

-- a reply that is spelled can be written
pub writable : (longest depth : ℕ) (y : Reply) (t : List ℕ) → Spells longest depth y t
    → is_writable y ≡ true
writable longest zero y t h =
    fold_out-Reply Bool layer_writable y ∙ layer-can SpellsNone (λ y t h. absurd h) longest (out-Reply y) t h
writable longest (suc depth) y t h =
    fold_out-Reply Bool layer_writable y ∙ layer-can (Spells longest depth) (writable longest depth) longest (out-Reply y) t h
