-- The contents of an inline text after writes to it.
use Rattle.std.proofs.Common.{◌≡◌, ℕ, List, [], ◌∷◌, ◌++◌, sym, ap, ◌∙◌}
use Rattle.std.specs.Fmt.{WritesInCalls}
use Rattle.std.specs.Fmt.InlineText.{inline_text, IsIntact, AppendsIfIntact}
use Rattle.std.specs.List.{FoldsTo, concat}
use Rattle.std.specs.declared.fmt.InlineText.{InlineText}
use Rattle.std.proofs.lemmas.List.{append-nil, append_assoc}

module _ {n : ℕ} where
  -- each call appends, so all of them append their parts
  appended : (w : InlineText n) (parts : List (List ℕ)) (v : InlineText n) → IsIntact w
      → FoldsTo AppendsIfIntact w parts v → inline_text v ≡ inline_text w ++ concat parts
  appended w [] v intact p = ap inline_text (sym p) ∙ sym (append-nil (inline_text w))
  appended w (part ∷ parts) v intact p =
      let first = p.1 intact in
      appended p.0 parts v first.0 p.2 ∙ ap (λ text. text ++ concat parts) first.1 ∙ append_assoc (inline_text w) part (concat parts)

  -- an inline text that was empty holds exactly what was written
  pub inline_text-written : (w : InlineText n) (text : List ℕ) (v : InlineText n)
      → inline_text w ≡ [] → IsIntact w → WritesInCalls AppendsIfIntact w text v
      → inline_text v ≡ text
  inline_text-written w text v empty intact p = appended w p.parts v intact p.calls ∙ ap (λ front. front ++ concat p.parts) empty ∙ p.whole
