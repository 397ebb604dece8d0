-- Values with a code that is computed from their bytes.
use Rattle.std.specs.Prelude.{◌≡◌, ℕ, List, ◌++◌}
use Rattle.std.proofs.Common.{ap, sym, ◌∙◌, subst, append_assoc}
use Rattle.std.proofs.lemmas.List.{append_cancel_left}
use Rattle.winnow_codec.specs.Formats.{Spelling, IsFormat}
use Rattle.winnow_codec.specs.Known.{SpellsExactly, IsNothing, IsFormat-Exactly}

-- the spelling of the value, and then that of the code of its bytes
abbrev pub SpellsChecked : {V C : Type 0} → Spelling V → Spelling C → (List ℕ → C) → Spelling V
SpellsChecked inner codes code_of v bytes =
    (front back : List ℕ) × (inner v front × codes (code_of front) back × (bytes ≡ front ++ back))

module _ {V C : Type 0} (same : V → V → Type 0) (inner : Spelling V) (f : IsFormat same inner) (codes : Spelling C) (g : (code : C) → IsFormat IsNothing (SpellsExactly codes code)) (code_of : List ℕ → C) where
  checked-canonical : (v : V) (b c : List ℕ) → SpellsChecked inner codes code_of v b
      → SpellsChecked inner codes code_of v c → b ≡ c
  checked-canonical v b c (x, y, (h, k, e)) (z, w, (i, j, d)) =
      let one = f.canonical v x z h i in
      e ∙ ap (λ l. l ++ y) one ∙ ap (λ l. z ++ l) ((g (code_of z)).canonical tt y w (subst (λ l. codes (code_of l) y) one k) j) ∙ sym d

  checked-prefix_free : (v u : V) (b c r s : List ℕ) → SpellsChecked inner codes code_of v b
      → SpellsChecked inner codes code_of u c → b ++ r ≡ c ++ s → same v u × (b ≡ c)
  checked-prefix_free v u b c r s (x, y, (h, k, e)) (z, w, (i, j, d)) t =
      let whole : x ++ (y ++ r) ≡ z ++ (w ++ s) = sym (append_assoc x y r) ∙ ap (λ l. l ++ r) (sym e) ∙ t ∙ ap (λ l. l ++ s) d ∙ append_assoc z w s in
      let one = f.prefix_free v u x z (y ++ r) (w ++ s) h i whole in
      let left : y ++ r ≡ w ++ s = append_cancel_left x (y ++ r) (w ++ s) (whole ∙ ap (λ l. l ++ (w ++ s)) (sym one.1)) in
      let two = (g (code_of z)).prefix_free tt tt y w r s (subst (λ l. codes (code_of l) y) one.1 k) j left in
      (one.0, e ∙ ap (λ l. l ++ y) one.1 ∙ ap (λ l. z ++ l) two.1 ∙ sym d)

  -- values before a code, each code alone a format
  pub IsFormat-Followed : IsFormat same (SpellsChecked inner codes code_of)
  IsFormat-Followed = record { canonical = checked-canonical; prefix_free = checked-prefix_free }

pub IsFormat-Checked : {V C : Type 0} (same : V → V → Type 0) (inner : Spelling V)
    → IsFormat same inner → (alike : C → C → Type 0) (codes : Spelling C) → IsFormat alike codes
    → (code_of : List ℕ → C) → IsFormat same (SpellsChecked inner codes code_of)
IsFormat-Checked same inner f alike codes g code_of =
    IsFormat-Followed same inner f codes (λ code. IsFormat-Exactly alike codes code g) code_of
