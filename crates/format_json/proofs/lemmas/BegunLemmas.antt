-- Where a value is begun, from where a part of it is.
use Rattle.std.proofs.Common.{◌≡◌, ℕ, zero, suc, ◌+◌, ◌≤◌, Bool, List, [], ◌∷◌, ◌++◌, length, take, drop, inl, inr, ap, sym, ◌∙◌, subst, refl, arith, take_all, take-append-drop}
use Rattle.std.proofs.lemmas.List.{drop-drop}
use Rattle.std.specs.declared.string.String.{String}
use Rattle.std.specs.declared.alloc.Global.{Global}
use Rattle.format_lemmas.specs.Bytes.{StartsWith}
use Rattle.format_json.specs.Language.{after_blanks, null_word}
use Rattle.format_json_scalars.specs.StringAnswers.{StringHere}
use Rattle.format_json.specs.Damage.{EachWithComma}
use Rattle.format_json.specs.Begun.{BeginsWord, BeginsScalar, BeginsElements, BeginsBrackets, BeginsMember, BeginsHere, BeginsArray, BeginsObject, IsOpen}
use Rattle.format_json.specs.declared.found.Found.{Found}
use Rattle.format_json.specs.declared.found.Found.TheVariants.{Whole, Begun, Damaged}
use Rattle.format_json_scalars.proofs.lemmas.StringLemmas.{starts-split}

-- what is begun in bytes that are the same
pub open-same : {T : Type 0} (R : List ℕ → Type 0) (t u : List ℕ) (x y : Found T) → IsOpen R t x
    → t ≡ u → x ≡ y → IsOpen R u y
open-same R t u x y h e f = subst (λ z. IsOpen R u z) f (subst (λ l. IsOpen R l x) e h)

-- what is begun as one thing is begun as another
pub open-as : {T : Type 0} (R S : List ℕ → Type 0) (b : List ℕ) → (R b → S b) → (x : Found T)
    → IsOpen R b x → IsOpen S b x
open-as R S b on (Whole v n) h = tt
open-as R S b on Begun h = on h
open-as R S b on (Damaged n) h = tt

-- no bytes begin a scalar
pub nothing-begins : (b : List ℕ) → length b ≡ 0 → BeginsScalar b
nothing-begins [] e = inl (null_word, refl)
nothing-begins (x ∷ b) e = absurd (omega (arith, e))

-- bytes that are a prefix of a word begin it
pub word-begins : (bytes word : List ℕ) (i : ℕ) → length bytes ≤ i → take i bytes ≡ take i word
    → BeginsWord word bytes
word-begins bytes word i all same =
    (drop i word, ap (λ l. l ++ drop i word) (sym (take_all i bytes all) ∙ same) ∙ take-append-drop i word)

module _ {T : Type 0} (inner : T → List ℕ → List ℕ → Type 0) (begins : List ℕ → Type 0) (b : List ℕ) (at : ℕ) (items : List T) (chain : EachWithComma inner items b (drop at b)) where
  -- elements are begun where the next one is
  pub elements-begin : begins (drop at b) → BeginsElements inner begins b
  elements-begin h = (items, (drop at b, (chain, inl h)))

  -- elements are begun if the next one is
  pub elements-wait : (v : T) (n : ℕ) → inner v (drop at b) (drop n (drop at b))
      → after_blanks (drop (at + n) b) ≡ [] → BeginsElements inner begins b
  elements-wait v n is blanks =
      (items, (drop at b, (chain, inr (v, (drop (at + n) b, (subst (inner v (drop at b)) (drop-drop n at b) is, blanks))))))

module _ (inside : List ℕ → Type 0) (begin : ℕ) (b : List ℕ) (first : StartsWith begin b) where
  -- brackets are begun if what stands inside is
  pub brackets-begin : inside (drop 1 b) → BeginsBrackets inside begin b
  brackets-begin h = (drop 1 b, (starts-split b begin first, inr h))

module _ (partial : Bool) where
  -- an array and an object are begun where only blanks follow the opening bracket
  pub array-waits : (depth : ℕ) (b : List ℕ) → StartsWith 91 b → after_blanks (drop 1 b) ≡ []
      → BeginsArray partial depth b
  array-waits zero b first blanks = (drop 1 b, (starts-split b 91 first, inl blanks))
  array-waits (suc depth) b first blanks = (drop 1 b, (starts-split b 91 first, inl blanks))

  pub object-waits : (depth : ℕ) (b : List ℕ) → StartsWith 123 b → after_blanks (drop 1 b) ≡ []
      → BeginsObject partial depth b
  object-waits zero b first blanks = (drop 1 b, (starts-split b 123 first, inl blanks))
  object-waits (suc depth) b first blanks = (drop 1 b, (starts-split b 123 first, inl blanks))

  -- each of them and a scalar is begun as a value is
  pub here-begins-scalar : (depth : ℕ) (b : List ℕ) → BeginsScalar b → BeginsHere partial depth b
  here-begins-scalar zero b h = inl h
  here-begins-scalar (suc depth) b h = inl h

  pub here-begins-array : (depth : ℕ) (b : List ℕ) → BeginsArray partial depth b
      → BeginsHere partial depth b
  here-begins-array zero b h = inr (inl h)
  here-begins-array (suc depth) b h = inr (inl h)

  pub here-begins-object : (depth : ℕ) (b : List ℕ) → BeginsObject partial depth b
      → BeginsHere partial depth b
  here-begins-object zero b h = inr (inr h)
  here-begins-object (suc depth) b h = inr (inr h)

  module _ (begins : List ℕ → Type 0) (b : List ℕ) (name : String Global) (start : ℕ) (named : StringHere name (after_blanks b) (drop start b)) where
    -- a member is begun where only blanks follow its name
    pub name-waits : after_blanks (drop start b) ≡ [] → BeginsMember begins b
    name-waits blanks = inr (name, (drop start b, (named, inl blanks)))

    -- a member is begun if its value is
    pub value-begins : (at : ℕ) → after_blanks (drop start b) ≡ 58 ∷ drop at b → begins (drop at b)
        → BeginsMember begins b
    value-begins at is h = inr (name, (drop start b, (named, inr (drop at b, (is, h)))))
