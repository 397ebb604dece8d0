-- How a reply of version 3 is shown, from how the replies in it are.
use Rattle.std.proofs.Common.{◌≡◌, ℕ, ◌<◌, Bool, true, false, List, [], ◌∷◌, ◌++◌, length, map, get_or, refl, ap, sym, ◌∙◌, append_assoc, arith}
use Rattle.std.specs.Prelude.{codes}
use Rattle.std.specs.declared.vec.Vec.{Vec}
use Rattle.std.specs.declared.alloc.Global.{Global}
use Rattle.format_resp3.specs.declared.reply.Reply.{Reply}
use Rattle.format_resp3.specs.declared.reply.Reply.TheOpen as layer
use Rattle.format_resp3.specs.declared.reply.Reply.TheVariants as kind
use Rattle.format_resp3.specs.declared.reply.Reply.TheVariants.{rolls-Array, rolls-BigNumber, rolls-Map, rolls-Push, rolls-Set}
use Rattle.format_resp3.specs.declared.reply.Reply.TheFolds.{fold-roll-Reply}
use Rattle.wb_replies.specs.Lines.{line_of, list_shown}
use Rattle.wb_replies3.specs.Printing.{Shape, layer_shown, list_breaks, listed, mapped, pair_shown, shape_of, shown, shown_pair, breaks, breaks_after, break_before, without_last}

-- how a big number is shown
pub shown-big : (y : Reply) (v : Vec ℕ Global) (held margin : List ℕ) → y ≡ kind.BigNumber v
    → held ≡ v.items → shown y margin ≡ line_of (codes "(big number) ") held
shown-big y v held margin e is =
    ap (λ (s : Shape). s.lines margin) (ap shape_of (e ∙ sym (rolls-BigNumber v)) ∙ fold-roll-Reply Shape layer_shown (layer.BigNumber v))
    ∙ ap (line_of (codes "(big number) ")) (sym is)

-- ---- Lists of replies

-- the lines of replies, and whether each breaks the line, from how they are shown
lines-shown : (replies : List Reply)
    → map (λ (s : Shape). s.lines) (map shape_of replies) ≡ map shown replies
lines-shown [] = refl
lines-shown (r ∷ replies) = ap (λ l. shown r ∷ l) (lines-shown replies)

breaks-shown : (replies : List Reply)
    → map (λ (s : Shape). s.breaks) (map shape_of replies) ≡ map breaks replies
breaks-shown [] = refl
breaks-shown (r ∷ replies) = ap (λ l. breaks r ∷ l) (breaks-shown replies)

module _ (y : Reply) (mark : ℕ) (empty : List ℕ) (items replies : List Reply)
    (e : shape_of y ≡ listed mark empty (map shape_of items)) (is : replies ≡ items) where
  -- how a list of replies is shown
  pub shown-list : (margin : List ℕ)
      → shown y margin ≡ list_shown mark empty margin (map shown replies)
  shown-list margin =
      ap (λ (s : Shape). s.lines margin) e ∙ ap (list_shown mark empty margin) (lines-shown items)
      ∙ ap (λ l. list_shown mark empty margin (map shown l)) (sym is)

  -- whether it breaks the line
  pub breaks-list : breaks y ≡ list_breaks (map breaks replies)
  breaks-list =
      ap (λ (s : Shape). s.breaks) e ∙ ap list_breaks (breaks-shown items)
      ∙ ap (λ l. list_breaks (map breaks l)) (sym is)

-- how an array, a set and a push are
pub shape-array : (y : Reply) (v : Vec Reply Global) → y ≡ kind.Array v
    → shape_of y ≡ listed 41 (codes "(empty array)") (map shape_of v.items)
shape-array y v e = ap shape_of (e ∙ sym (rolls-Array v)) ∙ fold-roll-Reply Shape layer_shown (layer.Array v)

pub shape-set : (y : Reply) (v : Vec Reply Global) → y ≡ kind.Set v
    → shape_of y ≡ listed 126 (codes "(empty set)") (map shape_of v.items)
shape-set y v e = ap shape_of (e ∙ sym (rolls-Set v)) ∙ fold-roll-Reply Shape layer_shown (layer.Set v)

pub shape-push : (y : Reply) (v : Vec Reply Global) → y ≡ kind.Push v
    → shape_of y ≡ listed 41 (codes "(empty push)") (map shape_of v.items)
shape-push y v e = ap shape_of (e ∙ sym (rolls-Push v)) ∙ fold-roll-Reply Shape layer_shown (layer.Push v)

-- ---- Maps

-- the lines of pairs, and whether their values break the line, from how their parts are shown
pairs-shown : (pairs : List (Reply × Reply))
    → map pair_shown (map (λ p. (shape_of p.0, shape_of p.1)) pairs) ≡ map shown_pair pairs
pairs-shown [] = refl
pairs-shown (p ∷ pairs) = ap (λ l. shown_pair p ∷ l) (pairs-shown pairs)

pairs-breaks : (pairs : List (Reply × Reply))
    → map (λ (p : Shape × Shape). p.1.breaks) (map (λ p. (shape_of p.0, shape_of p.1)) pairs) ≡ map breaks_after pairs
pairs-breaks [] = refl
pairs-breaks (p ∷ pairs) = ap (λ l. breaks_after p ∷ l) (pairs-breaks pairs)

module _ (y : Reply) (v : Vec (Reply × Reply) Global) (pairs : List (Reply × Reply))
    (e : y ≡ kind.Map v) (is : pairs ≡ v.items) where
  shape-map : shape_of y ≡ mapped (map (λ p. (shape_of p.0, shape_of p.1)) v.items)
  shape-map = ap shape_of (e ∙ sym (rolls-Map v)) ∙ fold-roll-Reply Shape layer_shown (layer.Map v)

  -- how a map is shown
  pub shown-map : (margin : List ℕ)
      → shown y margin ≡ list_shown 35 (codes "(empty hash)") margin (map shown_pair pairs)
  shown-map margin =
      ap (λ (s : Shape). s.lines margin) shape-map
      ∙ ap (list_shown 35 (codes "(empty hash)") margin) (pairs-shown v.items)
      ∙ ap (λ l. list_shown 35 (codes "(empty hash)") margin (map shown_pair l)) (sym is)

  -- whether it breaks the line
  pub breaks-map : breaks y ≡ list_breaks (map breaks_after pairs)
  breaks-map =
      ap (λ (s : Shape). s.breaks) shape-map ∙ ap list_breaks (pairs-breaks v.items)
      ∙ ap (λ l. list_breaks (map breaks_after l)) (sym is)

-- a pair is appended: its key without the last byte, an arrow, what stands before its value, and
-- the value
pub pair-appended : (pair one : Reply × Reply) (margin key held old keyed broken new : List ℕ)
    → pair ≡ one → key ≡ shown pair.0 margin → held ≡ key
    → keyed ≡ old ++ without_last held ++ codes " => "
    → broken ≡ keyed ++ break_before (breaks pair.1) margin → new ≡ broken ++ shown pair.1 margin
    → new ≡ old ++ shown_pair one margin
pair-appended pair one margin key held old keyed broken new is k same e b n =
    let first = without_last (shown one.0 margin) in
    let arrow = codes " => " in
    let break = break_before (breaks one.1) margin in
    let second = shown one.1 margin in
    n ∙ ap (λ t. t ++ shown pair.1 margin) (b ∙ ap (λ t. t ++ break_before (breaks pair.1) margin) (e ∙ ap (λ t. old ++ without_last t ++ arrow) (same ∙ k)))
    ∙ ap (λ (p : Reply × Reply). old ++ without_last (shown p.0 margin) ++ arrow ++ break_before (breaks p.1) margin ++ shown p.1 margin) is
    ∙ ap (λ t. t ++ second) (append_assoc (old ++ first) arrow break ∙ append_assoc old first (arrow ++ break)
    ∙ ap (λ t. old ++ t) (sym (append_assoc first arrow break)))
    ∙ append_assoc old (first ++ arrow ++ break) second

-- ---- Lists of tests

module _ {T : Type 0} (test : T → Bool) where
  -- one entry breaks the line as it does itself
  pub breaks-one : (items : List T) (d : T) → length items ≡ 1
      → list_breaks (map test items) ≡ test (get_or items 0 d)
  breaks-one [] d h = absurd (omega (arith, h))
  breaks-one (x ∷ []) d h = refl
  breaks-one (x ∷ y ∷ items) d h = absurd (omega (arith, h))

  -- no entries do not, and several do
  pub breaks-none : (items : List T) → length items ≡ 0 → list_breaks (map test items) ≡ false
  breaks-none [] h = refl
  breaks-none (x ∷ items) h = absurd (omega (arith, h))

  pub breaks-some : (items : List T) → 1 < length items → list_breaks (map test items) ≡ true
  breaks-some [] h = absurd (omega (arith, h))
  breaks-some (x ∷ []) h = absurd (omega (arith, h))
  breaks-some (x ∷ y ∷ items) h = refl
