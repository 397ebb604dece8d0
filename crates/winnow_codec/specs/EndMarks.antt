-- Parts up to an end mark.
use Rattle.std.specs.Prelude.{◌≡◌, ℕ, ◌≤◌, List, [], ◌++◌, length, take, drop}
use Rattle.std.proofs.Common.{inl, inr, ap, sym, ◌∙◌, arith, append_assoc}
use Rattle.std.proofs.lemmas.List.{append-nil, append_cancel_right, take-append-drop, length-take}
use Rattle.std.proofs.lemmas.Bool.Decides.{leb_tells}
use Rattle.winnow_codec.specs.Formats.{Spelling, IsFormat, IsEqual}
use Rattle.winnow_codec.specs.Bytes.{same-front}

-- each mark in the bytes is at their end
abbrev pub EndsOnly : List ℕ → List ℕ → Type 0
EndsOnly mark bytes = (front back : List ℕ) → bytes ≡ front ++ (mark ++ back) → back ≡ []

-- the bytes of the part and then the mark, the first one that they hold
abbrev pub SpellsMarked : List ℕ → Spelling (List ℕ)
SpellsMarked mark part bytes = (bytes ≡ part ++ mark) × EndsOnly mark bytes

-- of two fronts of the same bytes, the longer one begins with the other
front-of : (b c r s : List ℕ) → length b ≤ length c → b ++ r ≡ c ++ s
    → b ++ drop (length b) c ≡ c
front-of b c r s l t =
    let front = take (length b) c in
    let back = drop (length b) c in
    let whole : front ++ (back ++ s) ≡ b ++ r = sym (append_assoc front back s) ∙ ap (λ x. x ++ s) (take-append-drop (length b) c) ∙ sym t in
    let same = same-front front b (back ++ s) r (length-take (length b) c ∙ omega (arith, l)) whole in
    ap (λ x. x ++ back) (sym same) ∙ take-append-drop (length b) c

module _ (mark : List ℕ) where
  -- of two parts with their marks at the front of the same bytes, the second is no longer
  marked-one : (v w b c r s : List ℕ) → SpellsMarked mark v b → SpellsMarked mark w c
      → length b ≤ length c → b ++ r ≡ c ++ s → b ≡ c
  marked-one v w b c r s h k l t =
      let back = drop (length b) c in
      let whole = front-of b c r s l t in
      let none = k.1 v back (sym whole ∙ ap (λ x. x ++ back) h.0 ∙ append_assoc v mark back) in
      sym (append-nil b) ∙ ap (λ x. b ++ x) (sym none) ∙ whole

  marked-prefix_free : (v w b c r s : List ℕ) → SpellsMarked mark v b → SpellsMarked mark w c
      → b ++ r ≡ c ++ s → (v ≡ w) × (b ≡ c)
  marked-prefix_free v w b c r s h k t =
      let same : b ≡ c = elim (leb_tells (length b) (length c)) [
        | inl fits ↦ marked-one v w b c r s h k (omega (arith, fits.1)) t
        | inr more ↦ sym (marked-one w v c b s r k h (omega (arith, more.1)) (sym t))
      ] in
      (append_cancel_right v w mark (sym h.0 ∙ same ∙ k.0), same)

  pub IsFormat-Marked : IsFormat IsEqual (SpellsMarked mark)
  IsFormat-Marked = record {
    canonical = λ v b c h k. h.0 ∙ sym k.0;
    prefix_free = marked-prefix_free;
  }
