-- Arrays, objects, members and values after blanks that are found in bytes.
use Rattle.std.proofs.Common.{◌≡◌, ℕ, zero, suc, ◌+◌, ◌≤◌, Bool, List, [], ◌∷◌, ◌++◌, length, drop, ap, sym, ◌∙◌, subst, arith}
use Rattle.std.proofs.lemmas.List.{drop-drop}
use Rattle.std.specs.declared.string.String.{String}
use Rattle.std.specs.declared.alloc.Global.{Global}
use Rattle.std.specs.declared.vec.Vec.{Vec}
use Rattle.format_lemmas.specs.Bytes.{StartsWith}
use Rattle.format_lemmas.proofs.lemmas.ByteLemmas.{tails}
use Rattle.format_json.specs.Language.{after_blanks, MemberAhead, Elements, Inside, Bracketed, Nested, ValueHere, ValueAhead}
use Rattle.format_json_scalars.specs.StringAnswers.{StringHere}
use Rattle.format_json.specs.Founds.{HasNone, IsFound, IsByte, ByteAhead}
use Rattle.format_json.specs.declared.found.Found.TheVariants.{Whole, Begun, Damaged}
use Rattle.format_json.specs.declared.value.Value.{Value}
use Rattle.format_json.specs.declared.value.Value.TheViews.{out-Value}
use Rattle.format_json.specs.TokenLaws.{blanks-more}
use Rattle.format_json_scalars.proofs.lemmas.StringLemmas.{starts-split}
use Rattle.format_json.proofs.lemmas.GrammarLemmas.{elements-first, name-once, name-stable, name-quote, layer-kind}
use Rattle.format_json.proofs.lemmas.FoundLemmas.{Covers, missed-as, none-as, fits-both, after-covers}

-- ---- Values after blanks

module _ (partial : Bool) (depth : ℕ) (b : List ℕ) (at : ℕ) (within : at ≤ length b) (e : drop at b ≡ after_blanks b) where
  -- a value after blanks is one at the first byte that is no blank
  value-covers : Covers (ValueHere partial depth) (drop at b) (ValueAhead partial depth) b partial
  value-covers = after-covers (ValueHere partial depth) partial b (drop at b) e

  pub value-whole : (v : Value) (n : ℕ)
      → IsFound (ValueHere partial depth) partial (drop at b) (Whole v n)
      → IsFound (ValueAhead partial depth) partial b (Whole v (at + n))
  value-whole v n (fits, h) =
      (fits-both b at n within fits, subst (λ l. ValueHere partial depth v l (drop (at + n) b)) e (subst (ValueHere partial depth v (drop at b)) (drop-drop n at b) h))

  pub value-begun : IsFound (ValueHere partial depth) partial (drop at b) Begun
      → IsFound (ValueAhead partial depth) partial b Begun
  value-begun (may, none) =
      (may, missed-as (ValueHere partial depth) (ValueAhead partial depth) partial (drop at b) b value-covers none)

  pub value-damaged : (n : ℕ) → IsFound (ValueHere partial depth) partial (drop at b) (Damaged n)
      → IsFound (ValueAhead partial depth) partial b (Damaged (at + n))
  value-damaged n (fits, none) =
      (fits-both b at n within fits, none-as (ValueHere partial depth) (ValueAhead partial depth) partial (drop at b) b value-covers none)

-- ---- Brackets

-- blanks alone begin with no value
abbrev pub NoneInBlanks : {T : Type 0} → (T → List ℕ → List ℕ → Type 0) → Type 0
NoneInBlanks {T} inner = (v : T) (b r : List ℕ) → after_blanks b ≡ [] → ¬ (inner v b r)

-- no value stands in blanks
pub nested-some : (partial : Bool) (depth : ℕ) → NoneInBlanks (Nested partial depth)
nested-some partial zero v b r e h = h
nested-some partial (suc depth) v b r e h =
    let k = layer-kind partial (Nested partial depth) (out-Value v) (after_blanks b) r h in
    let f = sym e ∙ k.1.1.0 in cc f

-- nor does a member
pub members-some : (partial : Bool) (depth : ℕ) → NoneInBlanks (MemberAhead (Nested partial depth))
members-some partial depth v b r e (a, (n, (h, f, k))) =
    let quote = name-quote v.0 (after_blanks b) a h in
    let g = sym e ∙ quote.1 in cc g

module _ {T U : Type 0} (inner : T → List ℕ → List ℕ → Type 0) (close begin : ℕ) (items_of : U → List T) (partial : Bool) (b : List ℕ) (first : StartsWith begin b) where
  -- the bytes after the opening bracket
  inside-at : (n more : List ℕ) → b ++ more ≡ begin ∷ n → drop 1 b ++ more ≡ n
  inside-at n more e =
      tails begin begin (drop 1 b ++ more) n (ap (λ l. l ++ more) (sym (starts-split b begin first)) ∙ e)

  -- no elements stand where only blanks do
  inside-blanks : NoneInBlanks inner → (vs : List T) (n r : List ℕ) → after_blanks n ≡ []
      → ¬ (Inside inner close vs n r)
  inside-blanks some [] n r e h = let f = sym e ∙ h in cc f
  inside-blanks some (v ∷ vs) n r e h =
      let k = elements-first inner close v vs n r h in some v n k.0 e k.1

  -- where only blanks follow the opening bracket, more is missing
  pub brackets-begun : NoneInBlanks inner → IsByte close partial (drop 1 b) Begun
      → IsFound (λ u. Bracketed inner close begin (items_of u)) partial b Begun
  brackets-begun some (may, blanks) = (
    may,
    λ u r h.
        inside-blanks some (items_of u) (drop 1 b) r blanks (subst (λ l. Inside inner close (items_of u) l r) (tails begin begin h.0 (drop 1 b) (sym h.1.0 ∙ starts-split b begin first)) h.1.1),
  )

  -- where the closing bracket does not follow, elements do
  inside-elements : (vs : List T) (n r : List ℕ) → ¬ (ByteAhead close tt n r)
      → Inside inner close vs n r → Elements inner close vs n r
  inside-elements [] n r never h = absurd (never h)
  inside-elements (v ∷ vs) n r never h = h

  module _ (never : HasNone (ByteAhead close) partial (drop 1 b)) where
    elements-cover : Covers (λ u. Elements inner close (items_of u)) (drop 1 b)
        (λ u. Bracketed inner close begin (items_of u)) b partial
    elements-cover more may u r (n, (e, h)) =
        let same = inside-at n more e in
        let here = subst (λ l. Inside inner close (items_of u) l r) (sym same) h in
        (more, (λ none. none, (u, (r, inside-elements (items_of u) (drop 1 b ++ more) r (never more may tt r) here))))

    pub brackets-missed : IsFound (λ u. Elements inner close (items_of u)) partial (drop 1 b) Begun
        → IsFound (λ u. Bracketed inner close begin (items_of u)) partial b Begun
    brackets-missed (may, none) =
        (may, missed-as (λ u. Elements inner close (items_of u)) (λ u. Bracketed inner close begin (items_of u)) partial (drop 1 b) b elements-cover none)

    pub brackets-damaged : (n : ℕ) → 1 + n ≤ length b
        → IsFound (λ u. Elements inner close (items_of u)) partial (drop 1 b) (Damaged n)
        → IsFound (λ u. Bracketed inner close begin (items_of u)) partial b (Damaged (1 + n))
    brackets-damaged n fit (fits, none) =
        (fit, none-as (λ u. Elements inner close (items_of u)) (λ u. Bracketed inner close begin (items_of u)) partial (drop 1 b) b elements-cover none)

    -- where no element may stand, none does
    pub brackets-deep : ((v : T) (c r : List ℕ) → ¬ (inner v c r)) → (n : ℕ) → 1 + n ≤ length b
        → n ≤ length (drop 1 b)
        → IsFound (λ u. Bracketed inner close begin (items_of u)) partial b (Damaged (1 + n))
    brackets-deep none n fit fits =
        brackets-damaged n fit (fits, λ more may u r h. elements-none (items_of u) (drop 1 b ++ more) r h)
      where
        elements-none : (vs : List T) (c r : List ℕ) → ¬ (Elements inner close vs c r)
        elements-none [] c r h = h
        elements-none (v ∷ vs) c r h = let first = elements-first inner close v vs c r h in none v c first.0 first.1

  -- elements stand inside
  elements-inside : (vs : List T) (n r : List ℕ) → Elements inner close vs n r
      → Inside inner close vs n r
  elements-inside [] n r h = absurd h
  elements-inside (v ∷ vs) n r h = h

  pub brackets-whole : (u : U) (n : ℕ) → 1 + n ≤ length b
      → IsFound (λ u. Elements inner close (items_of u)) partial (drop 1 b) (Whole u n)
      → IsFound (λ u. Bracketed inner close begin (items_of u)) partial b (Whole u (1 + n))
  brackets-whole u n fit (fits, h) =
      (fit, (drop 1 b, (starts-split b begin first, subst (Inside inner close (items_of u) (drop 1 b)) (drop-drop n 1 b) (elements-inside (items_of u) (drop 1 b) (drop n (drop 1 b)) h))))

-- ---- Members

module _ (partial : Bool) (inner : Value → List ℕ → List ℕ → Type 0) (b : List ℕ) where
  -- a member begins with its name
  pub name-covers : (at : ℕ) → drop at b ≡ after_blanks b
      → Covers StringHere (drop at b) (MemberAhead inner) b partial
  name-covers at e more may m r (a, (n, (h, f, k))) =
      after-covers StringHere partial b (drop at b) e more may m.0 a h

  module _ (name : String Global) (start : ℕ) (named : StringHere name (after_blanks b) (drop start b)) where
    -- the bytes after the name
    after-name : (m : String Global) (a more : List ℕ) → StringHere m (after_blanks (b ++ more)) a
        → drop start b ++ more ≡ a
    after-name m a more h =
        let quote = name-quote name (after_blanks b) (drop start b) named in
        let on = blanks-more b 34 quote.0 more quote.1 ∙ ap (λ l. l ++ more) (sym quote.1) in
        name-once name m (after_blanks b ++ more) (drop start b ++ more) a (name-stable name (after_blanks b) (drop start b) more named) (subst (λ l. StringHere m l a) on h)

    -- a colon follows the name
    pub colon-covers : Covers (ByteAhead 58) (drop start b) (MemberAhead inner) b partial
    colon-covers more may m r (a, (n, (h, f, k))) =
        (more, (λ none. none, (tt, (n, ap after_blanks (after-name m.0 a more h) ∙ f))))

    module _ (at : ℕ) (colon : after_blanks (drop start b) ≡ 58 ∷ drop at b) where
      -- the value follows the colon
      pub member-covers : Covers inner (drop at b) (MemberAhead inner) b partial
      member-covers more may m r (a, (n, (h, f, k))) =
          let there = blanks-more (drop start b) 58 (drop at b) more colon in
          let same = tails 58 58 n (drop at b ++ more) (sym f ∙ ap after_blanks (sym (after-name m.0 a more h)) ∙ there) in
          (more, (λ none. none, (m.1, (r, subst (λ l. inner m.1 l r) same k))))

-- bytes that begin with a byte are at least one
pub starts-some : (byte : ℕ) (b : List ℕ) → StartsWith byte b → 1 ≤ length b
starts-some byte [] s = absurd s
starts-some byte (x ∷ b) s = omega arith

-- the elements of a vector
abbrev pub vec_items : {T : Type 0} → Vec T Global → List T
vec_items v = v.items
