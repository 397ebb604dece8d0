-- Where a value breaks off, from the place at which a part of it does.
use Rattle.std.proofs.Common.{◌≡◌, ℕ, zero, suc, ◌+◌, Bool, List, [], ◌∷◌, drop, inl, inr, sym, ◌∙◌, subst, refl, append-nil}
use Rattle.std.proofs.lemmas.List.{drop-drop}
use Rattle.std.specs.Prelude.{Result, Ok, Err, IfOk}
use Rattle.std.specs.declared.string.String.{String}
use Rattle.std.specs.declared.alloc.Global.{Global}
use Rattle.format_lemmas.specs.Bytes.{StartsWith}
use Rattle.format_json.specs.Language.{after_blanks, ValueHere}
use Rattle.format_json_scalars.specs.StringAnswers.{StringHere}
use Rattle.format_json.specs.Founds.{IsFound, IsNext}
use Rattle.format_json.specs.Damage.{StringBreaksOff, ByteIsMissing, EachWithComma, ElementsBreakOff, BracketsBreakOff, MemberBreaksOff, HereBreaksOff, BreaksOff, ArrayBreaksOff, ObjectBreaksOff, ScalarBreaksOff, IsPlaced}
use Rattle.format_json.specs.declared.value.Value.{Value}
use Rattle.format_json.specs.declared.found.Found.{Found}
use Rattle.format_json.specs.declared.found.Found.TheVariants.{Whole, Begun, Damaged}
use Rattle.format_json.specs.declared.found.Next.TheVariants as next
use Rattle.format_json_scalars.proofs.lemmas.StringLemmas.{starts-split}

-- two facts of an answer give a third
pub if-both : {X Y : Type 0} (r : Result X Y) (P Q R : X → Type 0)
    → ((x : X) → P x → Q x → R x) → IfOk r P → IfOk r Q → IfOk r R
if-both (Ok x) P Q R on p q = on x p q
if-both (Err e) P Q R on p q = tt

-- the place in bytes that are the same
pub placed-same : {T : Type 0} (R : List ℕ → List ℕ → Type 0) (t u : List ℕ) (x y : Found T)
    → IsPlaced R t x → t ≡ u → x ≡ y → IsPlaced R u y
placed-same R t u x y h e f =
    subst (λ z. IsPlaced R u z) f (subst (λ l. IsPlaced R l x) e h)

-- the place in the rest of the bytes is a place in the bytes
pub place-after : (R : List ℕ → List ℕ → Type 0) (whole b : List ℕ) (at n : ℕ)
    → R whole (drop n (drop at b)) → R whole (drop (at + n) b)
place-after R whole b at n h = subst (R whole) (drop-drop n at b) h

-- ---- Arrays and objects

module _ {T : Type 0} (inner : T → List ℕ → List ℕ → Type 0) (breaks : List ℕ → List ℕ → Type 0) (close : ℕ) (partial : Bool) (b : List ℕ) (at : ℕ) (items : List T) (chain : EachWithComma inner items b (drop at b)) where
  -- elements break off where the next one does
  pub elements-stop : (n : ℕ) → breaks (drop at b) (drop n (drop at b))
      → ElementsBreakOff inner breaks close b (drop (at + n) b)
  elements-stop n h = (items, (drop at b, (chain, inl (place-after breaks (drop at b) b at n h))))

  -- elements break off if neither a comma nor the closing bracket follows a value
  pub elements-end : (v : T) (n m : ℕ) → inner v (drop at b) (drop n (drop at b))
      → IsNext close partial (drop (at + n) b) (next.Damaged m)
      → ElementsBreakOff inner breaks close b (drop (at + n + m) b)
  elements-end v n m is (fits, never, e) =
      let after = drop (at + n) b in
      let same : drop (at + n + m) b ≡ after_blanks after = sym (drop-drop m (at + n) b) ∙ e in
      let none = never [] (λ may. refl) in
      let here = append-nil after in
      (items, (drop at b, (chain, inr (v, (after, (subst (inner v (drop at b)) (drop-drop n at b) is, (same, λ s. none.0 (subst (λ l. StartsWith 44 (after_blanks l)) (sym here) (subst (StartsWith 44) same s))), (same, λ s. none.1 (subst (λ l. StartsWith close (after_blanks l)) (sym here) (subst (StartsWith close) same s)))))))))

-- what stands between brackets breaks off where its parts do
pub brackets-stop : (inside : List ℕ → List ℕ → Type 0) (close begin : ℕ) (b : List ℕ) (k n : ℕ)
    → StartsWith begin b → ByteIsMissing close (drop 1 b) (drop k (drop 1 b))
    → inside (drop 1 b) (drop n (drop 1 b))
    → BracketsBreakOff inside close begin b (drop (1 + n) b)
brackets-stop inside close begin b k n first missing h =
    (drop 1 b, (starts-split b begin first, (λ s. missing.1 (subst (StartsWith close) (sym missing.0) s)), place-after inside (drop 1 b) b 1 n h))

module _ (partial : Bool) where
  -- an array breaks off as a value does
  pub here-array : (depth : ℕ) (b rest : List ℕ) → ArrayBreaksOff partial depth b rest
      → HereBreaksOff partial depth b rest
  here-array zero b rest h = inr (inr (inl h))
  here-array (suc depth) b rest h = inr (inr (inl h))

  -- a value breaks off if an object does
  pub here-object : (depth : ℕ) (b rest : List ℕ) → ObjectBreaksOff partial depth b rest
      → HereBreaksOff partial depth b rest
  here-object zero b rest h = inr (inr (inr h))
  here-object (suc depth) b rest h = inr (inr (inr h))

  -- a value breaks off if a scalar does
  pub here-scalar : (depth : ℕ) (b : List ℕ) (x : Found Value)
      → IsFound (ValueHere partial zero) partial b x → IsPlaced (ScalarBreaksOff partial) b x
      → IsPlaced (HereBreaksOff partial depth) b x
  here-scalar depth b (Whole v n) found h = tt
  here-scalar depth b Begun found h = tt
  here-scalar zero b (Damaged n) found (inl h) = inl (h, found.1)
  here-scalar zero b (Damaged n) found (inr h) = inr (inl h)
  here-scalar (suc depth) b (Damaged n) found (inl h) = inl (h, found.1)
  here-scalar (suc depth) b (Damaged n) found (inr h) = inr (inl h)

  -- a value after blanks breaks off as the value does
  pub ahead-placed : (depth : ℕ) (b : List ℕ) (at n : ℕ) → drop at b ≡ after_blanks b
      → HereBreaksOff partial depth (drop at b) (drop n (drop at b))
      → BreaksOff partial depth b (drop (at + n) b)
  ahead-placed depth b at n e h =
      subst (λ l. HereBreaksOff partial depth l (drop (at + n) b)) e
      (place-after (HereBreaksOff partial depth) (drop at b) b at n h)

  module _ (breaks : List ℕ → List ℕ → Type 0) (b : List ℕ) where
    -- a member breaks off where its name does
    pub name-stop : (at n : ℕ) → drop at b ≡ after_blanks b
        → StringBreaksOff partial (drop at b) (drop n (drop at b))
        → MemberBreaksOff partial breaks b (drop (at + n) b)
    name-stop at n e h =
        inl (subst (λ l. StringBreaksOff partial l (drop (at + n) b)) e (place-after (StringBreaksOff partial) (drop at b) b at n h))

    module _ (name : String Global) (start : ℕ) (named : StringHere name (after_blanks b) (drop start b)) where
      -- a member breaks off if the colon after its name is missing
      pub colon-stop : (n : ℕ) → ByteIsMissing 58 (drop start b) (drop n (drop start b))
          → MemberBreaksOff partial breaks b (drop (start + n) b)
      colon-stop n h =
          inr (name, (drop start b, (named, inl (place-after (ByteIsMissing 58) (drop start b) b start n h))))

      -- a member breaks off if its value does
      pub value-stop : (at n : ℕ) → after_blanks (drop start b) ≡ 58 ∷ drop at b
          → breaks (drop at b) (drop n (drop at b))
          → MemberBreaksOff partial breaks b (drop (at + n) b)
      value-stop at n is h =
          inr (name, (drop start b, (named, inr (drop at b, (is, place-after breaks (drop at b) b at n h)))))
