-- The entries of a map have one spelling, which is not the front of another's.
use Rattle.std.specs.Prelude.{◌≡◌, ℕ, List, [], ◌∷◌, ◌++◌, length}
use Rattle.std.proofs.Common.{ap, sym, ◌∙◌, subst, append_assoc, arith}
use Rattle.std.proofs.lemmas.List.{append_cancel_left}
use Rattle.winnow_codec.specs.Formats.{Spelling, IsFormat}
use Rattle.winnow_codec.specs.FormatRows.{AreBothSame}
use Rattle.winnow_codec.specs.Lists.{AreSameEach}
use Rattle.format_cbor.specs.Entries.{SpellsEntries}
use Rattle.format_cbor.specs.declared.item.Item.{Item}

-- three parts before the rest
pub three-parts : (x y z whole r : List ℕ) → whole ≡ x ++ (y ++ z)
    → whole ++ r ≡ x ++ (y ++ (z ++ r))
three-parts x y z whole r e = ap (λ l. l ++ r) e ∙ append_assoc x (y ++ z) r ∙ ap (λ l. x ++ l) (append_assoc y z r)

-- three parts that are equal
same-parts : (x y z u v w b c : List ℕ) → b ≡ x ++ (y ++ z) → c ≡ u ++ (v ++ w)
    → x ≡ u → y ≡ v → z ≡ w → b ≡ c
same-parts x y z u v w b c e d f g h =
    e ∙ ap (λ l. l ++ (y ++ z)) f ∙ ap (λ l. u ++ (l ++ z)) g ∙ ap (λ l. u ++ (v ++ l)) h ∙ sym d

module _ (same : Item → Item → Type 0) (inner : Spelling Item) (f : IsFormat same inner) where
  -- entries at the front of the same bytes are the same, and before the same bytes
  pub same-entry : (v w : Item × Item) (x y z u a t b c r s : List ℕ) → inner v.0 x → inner v.1 y
      → inner w.0 u → inner w.1 a → b ≡ x ++ (y ++ z) → c ≡ u ++ (a ++ t) → b ++ r ≡ c ++ s
      → (same v.0 w.0 × (x ≡ u)) × ((same v.1 w.1 × (y ≡ a)) × (z ++ r ≡ t ++ s))
  same-entry v w x y z u a t b c r s h j l n e d whole =
      let start : x ++ (y ++ (z ++ r)) ≡ u ++ (a ++ (t ++ s)) = sym (three-parts x y z b r e) ∙ whole ∙ three-parts u a t c s d in
      let keys = f.prefix_free v.0 w.0 x u (y ++ (z ++ r)) (a ++ (t ++ s)) h l start in
      let after : y ++ (z ++ r) ≡ a ++ (t ++ s) = append_cancel_left x (y ++ (z ++ r)) (a ++ (t ++ s)) (start ∙ ap (λ p. p ++ (a ++ (t ++ s))) (sym keys.1)) in
      let values = f.prefix_free v.1 w.1 y a (z ++ r) (t ++ s) j n after in
      (keys, (values, append_cancel_left y (z ++ r) (t ++ s) (after ∙ ap (λ p. p ++ (t ++ s)) (sym values.1))))

  -- the same entries after the same key have one spelling
  pub entries-canonical : (vs : List (Item × Item)) (last b c : List ℕ)
      → SpellsEntries inner last vs b → SpellsEntries inner last vs c → b ≡ c
  entries-canonical [] last b c h k = h ∙ sym k
  entries-canonical (v ∷ vs) last b c (x, y, z, (h, i, j, k, e)) (u, w, t, (l, m, n, o, d)) =
      let keys : x ≡ u = f.canonical v.0 x u h l in
      let values : y ≡ w = f.canonical v.1 y w j n in
      let more : z ≡ t = entries-canonical vs u z t (subst (λ p. SpellsEntries inner p vs z) keys k) o in
      same-parts x y z u w t b c e d keys values more

  -- as many entries after the same key at the front of the same bytes are the same
  pub entries-prefix_free : (vs ws : List (Item × Item)) (last b c r s : List ℕ)
      → length vs ≡ length ws → SpellsEntries inner last vs b → SpellsEntries inner last ws c
      → b ++ r ≡ c ++ s → AreSameEach (AreBothSame same same) vs ws × (b ≡ c)
  entries-prefix_free [] [] last b c r s q h k e = (tt, h ∙ sym k)
  entries-prefix_free [] (w ∷ ws) last b c r s q h k e = absurd (omega (arith, q))
  entries-prefix_free (v ∷ vs) [] last b c r s q h k e = absurd (omega (arith, q))
  entries-prefix_free (v ∷ vs) (w ∷ ws) last b c r s q (x, y, z, (h, i, j, k, e)) (u, a, t, (l, m, n, o, d)) whole =
      let both = same-entry v w x y z u a t b c r s h j l n e d whole in
      let fewer : length vs ≡ length ws = omega (arith, q) in
      let more = entries-prefix_free vs ws u z t r s fewer (subst (λ p. SpellsEntries inner p vs z) both.0.1 k) o both.1.1 in
      (((both.0.0, both.1.0.0), more.0), same-parts x y z u a t b c e d both.0.1 both.1.0.1 more.1)
