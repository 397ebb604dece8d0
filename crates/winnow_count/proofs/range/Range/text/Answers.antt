use Rattle.std.proofs.Common.{◌≡◌, ◌≢◌, ℕ, ◌++◌, Some, inl, inr, ap, sym, ◌∙◌, rules}
use Rattle.std.proofs.lemmas.Bool.Decides.{eqb_tells}
use Rattle.std.proofs.lemmas.List.{append_assoc}
use Rattle.std.specs.Prelude.{codes, decimal, if◌then◌else◌}
use Rattle.winnow_count.specs.CountRange.{counts_text}
use Rattle.winnow_count.proofs.InlineTexts.{inline_text-written}
use Rattle.winnow_count.proofs.range.Range.text.Goals as goal

-- the text if the greatest count differs from the least
counts_text-apart : (least greatest : ℕ) → greatest ≢ least
    → decimal least ++ (codes "..=" ++ decimal greatest) ≡ counts_text least (Some greatest)
counts_text-apart least greatest other = sym (append_assoc (decimal least) (codes "..=") (decimal greatest)) ∙ elim (eqb_tells greatest least) [
  | inl (_, is) ↦ absurd (other is)
  | inr (differ, _) ↦ ap (λ same. if same then decimal least else decimal least ++ codes "..=" ++ decimal greatest) (sym differ)
]

pub returns-in_ok-write-in-None : goal.returns-in_ok-write-in-None
returns-in_ok-write-in-None c =
    inline_text-written _ _ _ c.new-text.ensures.text c.new-text.ensures.intact c.in_ok-write-in-None.ensures.writes
    ∙ ap (counts_text c.args.self.now.least) (sym c.in-None.is)

pub returns-in_ok-write-in-Some : goal.returns-in_ok-write-in-Some
returns-in_ok-write-in-Some c =
    inline_text-written _ _ _ c.new-text.ensures.text c.new-text.ensures.intact c.in_ok-write-in-Some.ensures.writes
    ∙ search rules

pub returns-in_ok-write-in-Some-2 : goal.returns-in_ok-write-in-Some-2
returns-in_ok-write-in-Some-2 c =
    inline_text-written _ _ _ c.new-text.ensures.text c.new-text.ensures.intact c.in_ok-write-in-Some-2.ensures.writes
    ∙ counts_text-apart c.args.self.now.least c.in-Some-2.greatest (λ is. c.if-greatest-least.false (search (rules, is)))
    ∙ ap (counts_text c.args.self.now.least) (sym c.in-Some-2.is)
