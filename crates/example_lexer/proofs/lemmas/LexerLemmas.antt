-- From the meaning of the lexer to the words of tokens.
use Rattle.std.proofs.Common.{◌≡◌, ℕ, ◌≤◌, Bool, true, false, [], ◌∷◌, ◌++◌, length, Option, None, inl, inr, sym, ◌∙◌, subst, refl, arith}
use Rattle.std.specs.Char.{is_ascii_alphabetic, is_ascii_digit}
use Rattle.std.proofs.lemmas.Bool.Decides.{nat_tests}
use Rattle.winnow_stream.specs.Source.{Source, HasPositiveWidths, HoldsAll}
use Rattle.winnow_parser.specs.Outcome.{Ahead, Cuts, Gives, Fails, Meaning, Moves}
use Rattle.winnow_parser.specs.Meanings.{Maps, IsAlways}
use Rattle.winnow_token.specs.OneOf.{IsOneOf}
use Rattle.winnow_token.specs.TakeWhile.{TakesWhile}
use Rattle.winnow_token.specs.Run.{IsRun}
use Rattle.winnow_token.proofs.lemmas.RunLemmas.{held-run, held-few, held-none, held-never-cuts, one_of-taken, any-none}
use Rattle.winnow_combinator.specs.Appended.{Appending}
use Rattle.winnow_combinator.specs.Alt.{IsAlt3}
use Rattle.winnow_combinator.specs.Words.{IsLexer}
use Rattle.example_lexer.specs.Tokens.{is_blank, kind_of, goes_on, IsClear, IsText, IsWord}
use Rattle.example_lexer.specs.declared.token.Kind.{Kind}
use Rattle.example_lexer.specs.declared.token.Kind.TheVariants.{Name, Number, Punctuation}

-- the text of a token has at least one byte
pub length-text : (kind : Kind) (text : Source ℕ) → IsText kind text → 1 ≤ length text
length-text kind [] h = absurd h
length-text kind (x ∷ xs) h = omega arith

-- a byte with which a kind goes on begins a token of that kind
kind-says : (kind : Kind) (x : ℕ) → goes_on kind x ≡ true → kind ≡ kind_of x
kind-says Name x on = sym (rw on refl)
kind-says Number x on = let none : is_ascii_alphabetic x ≡ false = grind (arith, nat_tests, on) in sym (rw none (rw on refl))
kind-says Punctuation x on = absurd (cc)

-- a run of bytes with which a kind goes on is the text of a token
is-text : (kind : Kind) (text rest : Source ℕ) → 1 ≤ length text → HoldsAll (goes_on kind) text
    → IsClear (text ++ rest) → IsText kind text
is-text kind [] rest some held clear = absurd (omega (arith, some))
is-text kind (x ∷ xs) rest some held clear = (clear x.0 refl, kind-says kind x.0 held.0, held.1)

-- the stream moved on over the text of a token of this kind
abbrev IsTaken : Ahead ℕ → Ahead ℕ → Kind → Type 0
IsTaken a b kind = (m : Moves a b) × (IsWord kind m.taken b.tokens × (1 ≤ length m.taken))

-- a run of bytes with which a kind goes on is a token that is taken
run-taken : (kind : Kind) (a b : Ahead ℕ) → IsClear a.tokens → IsRun (goes_on kind) 1 a b
    → IsTaken a b kind
run-taken kind a b clear run =
    (run.over, ((is-text kind run.over.taken b.tokens run.enough run.held (subst IsClear run.over.whole clear), run.ends), run.enough))

module _ {S : Type 0} (is_slice : S → Source ℕ → ℕ → Type 0) {l m n : ℕ} {i j k : Option ℕ} (any : (l ≡ 0) × (i ≡ None)) (one : (m ≡ 1) × (j ≡ None)) (some : (n ≡ 1) × (k ≡ None)) where
  -- the meaning of the parser of kinds
  abbrev Kinds : Meaning Kind ℕ
  Kinds = Appending ⊥ (IsAlt3 ⊥ (Maps (IsAlways Name) (TakesWhile is_slice is_ascii_alphabetic m j)) (Maps (IsAlways Number) (TakesWhile is_slice is_ascii_digit n k)) (Maps (IsAlways Punctuation) (IsOneOf (λ _. true))))

  -- the parser of kinds takes a token of the kind that it gives
  reads : (kind : Kind) (a b : Ahead ℕ) → HasPositiveWidths a.tokens → IsClear a.tokens
      → Kinds false a (Gives kind b) → IsTaken a b kind
  reads kind a b wide clear (inl (inl (s, (e, h)))) =
      subst (IsTaken a b) e (run-taken Name a b clear (held-run is_slice is_ascii_alphabetic false a b 1 one s wide h))
  reads kind a b wide clear (inl (inr (c, (other, (s, (e, h)))))) =
      subst (IsTaken a b) e (run-taken Number a b clear (held-run is_slice is_ascii_digit false a b 1 some s wide h))
  reads kind a b wide clear (inr (d, ((c, (other, none)), (x, (e, h))))) =
      let first = one_of-taken false a b (λ _. true) x h in
      let name = held-none is_ascii_alphabetic a.tokens x (held-few is_slice is_ascii_alphabetic false a c 1 one other) h.0 in
      let number = held-none is_ascii_digit a.tokens x (held-few is_slice is_ascii_digit false a d 1 some none) h.0 in
      subst (IsTaken a b) e (first.1.0, subst (λ t. IsWord Punctuation t b.tokens × (1 ≤ length t)) (sym first.1.1) (((clear x h.0, sym (rw name (rw number refl)), tt), λ y f. refl), omega arith))

  -- the parser of kinds never cuts
  uncut : (a b : Ahead ℕ) → ¬ (Kinds false a (Fails (Cuts b)))
  uncut a b (inl (inl h)) = held-never-cuts is_slice is_ascii_alphabetic false a b 1 one h
  uncut a b (inl (inr (c, (other, h)))) = held-never-cuts is_slice is_ascii_digit false a b 1 some h
  uncut a b (inr (d, ((c, (other, none)), h))) = h

  -- the parsers of blanks and kinds make a lexer
  plain : IsLexer (TakesWhile is_slice is_blank l i) Kinds (HoldsAll is_blank) IsClear IsWord
  plain = record {
    skips = λ s a b wide h. let run = held-run is_slice is_blank false a b 0 any s wide h in (run.over, (run.held, run.ends));
    skips_one = λ s t a b c h g. h.1 ∙ sym g.1;
    skips_on = λ a b h. omega (arith, held-few is_slice is_blank false a b 0 any h);
    skips_uncut = λ a b h. held-never-cuts is_slice is_blank false a b 0 any h;
    reads = reads;
    reads_uncut = uncut;
    reads_all = λ a b h. any-none false a b h.1.1;
  }

  -- the same for sets and values that are equal to these
  pub lexer : {blanks letters digits : ℕ → Bool} {x y z : Kind} → blanks ≡ is_blank
      → letters ≡ is_ascii_alphabetic → digits ≡ is_ascii_digit → x ≡ Name → y ≡ Number
      → z ≡ Punctuation
      → IsLexer (TakesWhile is_slice blanks l i) (Appending ⊥ (IsAlt3 ⊥ (Maps (IsAlways x) (TakesWhile is_slice letters m j)) (Maps (IsAlways y) (TakesWhile is_slice digits n k)) (Maps (IsAlways z) (IsOneOf (λ _. true))))) (HoldsAll is_blank) IsClear IsWord
  lexer blank letter digit e f g = rw (blank, letter, digit, e, f, g) plain
