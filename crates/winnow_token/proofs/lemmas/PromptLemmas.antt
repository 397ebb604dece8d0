-- Parsers of tokens have no settled answer with fewer tokens than they asked for.
use Rattle.std.specs.Prelude.{Bool, true, false, Option}
use Rattle.std.proofs.Common.{◌≡◌, ℕ, suc, ◌-◌, ◌<◌, [], ◌∷◌, ◌++◌, length, refl, ap, sym, ◌∙◌, subst, arith, length-append}
use Rattle.std.proofs.lemmas.List.{append-nil}
use Rattle.std.proofs.lemmas.Option.{none-some}
use Rattle.std.specs.declared.num.NonZeroUsize.{NonZeroUsize}
use Rattle.winnow_stream.specs.Source.{Source, first_token}
use Rattle.winnow_stream.specs.Shortage.{needed, shortage}
use Rattle.winnow_stream.specs.declared.needed.Needed.{Needed}
use Rattle.winnow_stream.specs.declared.needed.Needed.TheVariants.{Unknown, Size}
use Rattle.winnow_stream.proofs.lemmas.CountedShortageLemmas.{number, number-needed}
use Rattle.winnow_parser.specs.Outcome.{Ahead, Backtracks, Cuts, Needs, Refuses, Outcome, Gives, Fails, Meaning}
use Rattle.winnow_parser.specs.Laws.{IsSettled}
use Rattle.winnow_token.specs.OneOf.{IsOneOf}
use Rattle.winnow_token.specs.Take.{Takes}
use Rattle.winnow_token.specs.TakeWhile.{TakesWhile}
use Rattle.winnow_token.specs.Prompt.{IsPrompt}

-- a shortage that has a size has the size k
number-shortage : (counts_shortage : Bool) (k : ℕ) (n : NonZeroUsize)
    → Size n ≡ shortage counts_shortage k → n.value ≡ k
number-shortage true k n e = ap number e ∙ number-needed k
number-shortage false k n e = absurd (cc)

-- fewer than one more token is no more
none-more : {T : Type 0} (r more : Source T) → length more < 1 → r ++ more ≡ r
none-more r [] l = append-nil r
none-more r (x ∷ xs) l = absurd (omega (arith, l))

-- a parser that needs one token at most, and has no settled answer where it needs one
module _ {O T : Type 0} (means : Meaning O T) (one : (a : Ahead T) (n : Needed) → means true a (Fails (Needs n)) → n ≡ needed 1) (apart : (a : Ahead T) (n : Needed) (v : Outcome O T) → means true a (Fails (Needs n)) → means true a v → ¬ IsSettled v) where
  -- a parser that needs one token at most has no settled answer before it comes
  prompt-one : IsPrompt means
  prompt-one a n more v h l m =
      let k : n.value ≡ 1 = ap number (one a (Size n) h) in
      let same = ap (λ r. record { location = a.location; tokens = r }) (none-more a.tokens more (omega (arith, l, k))) in
      apart a (Size n) v h (subst (λ b. means true b v) same m)

module _ {T : Type 0} (holds : T → Bool) where
  -- where `IsOneOf` needs a token, it has no settled answer
  one_of-apart : (a : Ahead T) (n : Needed) (v : Outcome T T)
      → IsOneOf holds true a (Fails (Needs n)) → IsOneOf holds true a v → ¬ IsSettled v
  one_of-apart a n (Gives x b) h m = λ s. none-some _ (sym (ap first_token h.0) ∙ m.0)
  one_of-apart a n (Fails (Backtracks b)) h m = λ s. m.1 refl h.0
  one_of-apart a n (Fails (Cuts b)) h m = λ s. m
  one_of-apart a n (Fails (Needs k)) h m = λ s. s
  one_of-apart a n (Fails Refuses) h m = λ s. s

  -- `IsOneOf` has no settled answer with fewer tokens than it needs
  pub prompt-one_of : IsPrompt (IsOneOf holds)
  prompt-one_of = prompt-one (IsOneOf holds) (λ a n h. h.2) one_of-apart

module _ {S T : Type 0} (is_slice : S → Source T → ℕ → Type 0) (holds : T → Bool) (least : ℕ) (greatest : Option ℕ) where
  -- where `TakesWhile` needs a token, it has no settled answer
  held-apart : (a : Ahead T) (n : Needed) (v : Outcome S T)
      → TakesWhile is_slice holds least greatest true a (Fails (Needs n))
      → TakesWhile is_slice holds least greatest true a v → ¬ IsSettled v
  held-apart a n (Gives x b) h m = λ s. let e = sym h.2 ∙ m.3 in cc
  held-apart a n (Fails (Backtracks b)) h m = λ s. let e = sym h.2 ∙ m.3 in cc
  held-apart a n (Fails (Cuts b)) h m = λ s. let e = sym h.1 ∙ m.1 in cc
  held-apart a n (Fails (Needs k)) h m = λ s. s
  held-apart a n (Fails Refuses) h m = λ s. s

  -- `TakesWhile` has no settled answer with fewer tokens than it needs
  pub prompt-take_while : IsPrompt (TakesWhile is_slice holds least greatest)
  prompt-take_while = prompt-one (TakesWhile is_slice holds least greatest) (λ a n h. h.0) held-apart

module _ {S T : Type 0} (counts_shortage : Bool) (is_slice : S → Source T → ℕ → Type 0) (count : ℕ) where
  -- `Takes` has no settled answer with fewer tokens than it needs
  pub prompt-take : IsPrompt (Takes counts_shortage is_slice count)
  prompt-take a n more (Gives s b) h l m = λ t. omega (arith, m.0, h.0, l, number-shortage counts_shortage (count - length a.tokens) n h.2, length-append a.tokens more)
  prompt-take a n more (Fails (Backtracks b)) h l m = λ t. let e = m.1 in cc
  prompt-take a n more (Fails (Cuts b)) h l m = λ t. m
  prompt-take a n more (Fails (Needs k)) h l m = λ t. t
  prompt-take a n more (Fails Refuses) h l m = λ t. t
