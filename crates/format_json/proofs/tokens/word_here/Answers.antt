use Rattle.std.proofs.Common.{◌≡◌, true, ◌++◌, List, ℕ, sym, ◌∙◌, ap, arith}
use Rattle.std.proofs.lemmas.Bool.Decides.{Decides-eqb}
use Rattle.std.proofs.lemmas.Slice.Eq.{starts_is}
use Rattle.format_json.specs.Tokens.{word_from}
use Rattle.format_json.proofs.lemmas.JsonTokenLemmas.{word-damaged, word-begun}
use Rattle.format_json.proofs.tokens.word_here.Goals.{else-partial-via-then-partial+else-starts_with-2, else-partial-via-else-partial}
use Rattle.format_json.proofs.tokens.word_here.Goals as goal

pub returns-then-starts_with-2 : goal.returns-then-starts_with-2
returns-then-starts_with-2 c =
    let b = c.args.bytes.now in
    let word = c.in-Some.both.1.now in
    let same = c.in-Some.ensures.1 in
    let whole : (rest : List ℕ) → ¬ (b ≡ word_from c.args.first ++ rest) =
    λ rest e. let t = (starts_is Decides-eqb b word _ c.starts_with.ensures.value).1 rest (e ∙ ap (λ l. l ++ rest) (sym same)) in
    let z = sym t ∙ c.if-starts_with.false in cc z in
    let front = (starts_is Decides-eqb word b _ c.starts_with-then-partial.ensures.value).0 c.if-starts_with-2.true in (
      c.if-partial.true,
      word-begun c.args.first c.requires.no_quote c.requires.no_number true b c.requires.first whole c.in-Some.both.0 _ c.in-Some.ensures.0 (sym same ∙ front),
    )

pub returns : goal.returns
returns c =
    let b = c.args.bytes.now in
    let word = c.in-Some.both.1.now in
    let same = c.in-Some.ensures.1 in
    let whole : (rest : List ℕ) → ¬ (b ≡ word_from c.args.first ++ rest) =
    λ rest e. let t = (starts_is Decides-eqb b word _ c.starts_with.ensures.value).1 rest (e ∙ ap (λ l. l ++ rest) (sym same)) in
    let z = sym t ∙ c.if-starts_with.false in cc z in
    let begun : c.args.partial ≡ true → (rest : List ℕ) → ¬ (word_from c.args.first ≡ b ++ rest) =
    λ p rest e. elim c.else-partial.branch [
      | else-partial-via-then-partial+else-starts_with-2 w ↦
          let t = (starts_is Decides-eqb word b _ w.starts_with-then-partial.ensures.value).1 rest (same ∙ e) in
          let z = sym t ∙ w.if-starts_with-2.false in cc z
      | else-partial-via-else-partial w ↦ let z = sym p ∙ w.if-partial.false in cc z
    ] in
    (omega arith, word-damaged c.args.first c.requires.no_quote c.requires.no_number c.args.partial b c.requires.first whole begun)
