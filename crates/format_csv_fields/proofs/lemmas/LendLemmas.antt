-- Lemmas on lending the value of a text.
use Rattle.std.specs.Prelude.{Bool, false, drop, take}
use Rattle.std.proofs.Common.{◌≡◌, ℕ, ◌+◌, ◌-◌, List, ◌∷◌, ◌++◌, length, ap, sym, ◌∙◌, arith, length-drop, length-append}
use Rattle.std.proofs.Math.Seq.{take-append_seam}
use Rattle.std.proofs.lemmas.List.{drop-drop}
use Rattle.format_lemmas.proofs.lemmas.ByteLemmas.{tails}
use Rattle.format_csv.specs.Fields.{doubled}
use Rattle.format_csv.specs.FillingFields.{ClosesQuoted}
use Rattle.format_csv.proofs.lemmas.ByteLemmas.{closed-once, doubled-others}
use Rattle.format_csv_fields.specs.declared.looking.Text.TheVariants.{Quoted}
use Rattle.format_csv_fields.specs.declared.lending.Lent.TheVariants.{Kept}
use Rattle.format_csv_fields.specs.Looking.{IsText, IsQuoted}
use Rattle.format_csv_fields.specs.Lending.{Lends}

-- the first bytes of a value with further bytes, as many as the value has, are the value
front-of : (value rest bytes : List ℕ) (n : ℕ) → bytes ≡ value ++ rest → n ≡ length value
    → take n bytes ≡ value
front-of value rest bytes n e l = ap (λ k. take k bytes) l ∙ ap (take (length value)) e ∙ take-append_seam value rest

module _ (kept : List ℕ) (at n : ℕ) (doubles : Bool) (h : IsText (drop at kept) (Quoted n doubles)) where
  -- the bytes after the opening quote
  after-quote : (value : List ℕ) → IsQuoted (drop at kept) n value
      → drop (at + 1) kept ≡ doubled value ++ 34 ∷ drop (n + 1) (drop at kept)
  after-quote value is = sym (drop-drop 1 at kept) ∙ ap (drop 1) is.0

  -- each value of the text closes before what stands after the closing quote
  pub value-closes : (field inside : List ℕ) → inside ≡ drop (at + 1) kept
      → IsQuoted (drop at kept) n field → ClosesQuoted field inside (drop (n + 1) (drop at kept))
  value-closes field inside e is = (e ∙ after-quote field is, is.1)

  -- the closing quote stands after the value
  value-long : n ≡ length (doubled h.2.0) + 1
  value-long =
      omega (arith, h.0, ap length h.2.1.0.0, length-append (doubled h.2.0) (34 ∷ drop (n + 1) (drop at kept)), length-drop (n + 1) (drop at kept))

  -- without doubled quotes the value is in the kept bytes
  pub lends-quoted : (value : List ℕ) → doubles ≡ false
      → Lends (drop at kept) (Quoted n doubles) (Kept (at + 1) (at + n)) kept value
  lends-quoted value none = λ field is.
      let own = h.2.0 in
      let bare = doubled-others own (h.2.1.1 none) in
      let same = (closed-once own field (drop (n + 1) (drop at kept)) (drop (n + 1) (drop at kept)) is.1 is.1 (tails 34 34 _ _ (sym h.2.1.0.0 ∙ is.0))).0 in
      front-of own (34 ∷ drop (n + 1) (drop at kept)) (drop (at + 1) kept) ((at + n) - (at + 1))
      (after-quote own h.2.1.0 ∙ ap (λ t. t ++ 34 ∷ drop (n + 1) (drop at kept)) bare)
      (omega (arith, value-long, ap length bare))
      ∙ same
