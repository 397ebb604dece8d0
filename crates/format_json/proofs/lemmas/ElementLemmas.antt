-- Elements of arrays and members of objects: what a reader of them finds, from what it finds next.
use Rattle.std.proofs.Common.{◌≡◌, ℕ, suc, ◌+◌, ◌-◌, ◌≤◌, Bool, List, [], ◌∷◌, ◌++◌, length, take, drop, sym, subst, arith}
use Rattle.std.proofs.lemmas.List.{take_rest}
use Rattle.std.specs.declared.alloc.Global.{Global}
use Rattle.std.specs.declared.vec.Vec.{Vec}
use Rattle.format_lemmas.specs.Bytes.{StartsWith}
use Rattle.format_json.specs.Language.{MemberAhead, Elements, Bracketed, Nested}
use Rattle.format_json.specs.Founds.{IsFound, IsNext, IsByte}
use Rattle.format_json.specs.Begun.{BeginsElements, BeginsBrackets, IsOpen}
use Rattle.format_json.specs.Damage.{ByteIsMissing, ElementsBreakOff, BracketsBreakOff, IsTooDeep, IsPlaced}
use Rattle.format_json.specs.declared.found.Found.{Found}
use Rattle.format_json.specs.declared.found.Found.TheVariants.{Whole, Begun, Damaged}
use Rattle.format_json.specs.declared.found.Next.TheVariants as next
use Rattle.format_json.proofs.lemmas.GrammarLemmas.{Once, Stable, nested-once, nested-stable, members-once, members-stable}
use Rattle.format_json.proofs.lemmas.FoundLemmas.{HasRead, found-same, begun-as, damaged-as, fits-both, element-covers, read-on, read-ends, read-stops, read-begun}
use Rattle.format_json.proofs.lemmas.NestedLemmas.{vec_items, starts-some, NoneInBlanks, brackets-begun, brackets-missed, brackets-damaged, brackets-deep, brackets-whole}
use Rattle.format_json.proofs.lemmas.BegunLemmas.{open-same, elements-begin, elements-wait, brackets-begin}
use Rattle.format_json.proofs.lemmas.DamageLemmas.{placed-same, elements-stop, elements-end, brackets-stop}

-- ---- Elements one after the other

-- bytes begin with an element in one way, and still do if more follows; the closing bracket is no
-- comma
module _ {T : Type 0} (inner : T → List ℕ → List ℕ → Type 0) (close : ℕ) (partial : Bool) where
  pub record AreInOneWay : Type 0 where
    pub comma : ¬ (close ≡ 44)
    pub once : Once inner
    pub stable : Stable partial inner

-- the elements of an array
pub values-in-one-way : (partial : Bool) (depth : ℕ)
    → AreInOneWay (Nested partial depth) 93 partial
values-in-one-way partial depth = record {
  comma = λ e. omega (arith, e);
  once = nested-once partial depth;
  stable = nested-stable partial depth;
}

-- the members of an object
pub members-in-one-way : (partial : Bool) (depth : ℕ)
    → AreInOneWay (MemberAhead (Nested partial depth)) 125 partial
members-in-one-way partial depth = record {
  comma = λ e. omega (arith, e);
  once = members-once partial depth;
  stable = members-stable partial depth;
}

module _ {T : Type 0} (inner : T → List ℕ → List ℕ → Type 0) (close : ℕ) (partial : Bool) (b : List ℕ) (at : ℕ) (items : List T) (read : HasRead inner close partial b at items) (one : Found T) where
  -- an element breaks off after those that are read, so they do
  pub element-placed : (breaks : List ℕ → List ℕ → Type 0) (n : ℕ)
      → IsPlaced breaks (take (length b - at) (drop at b)) one → one ≡ Damaged n
      → ElementsBreakOff inner breaks close b (drop (at + n) b)
  element-placed breaks n place is =
      elements-stop inner breaks close partial b at items read.chain n (placed-same breaks (take (length b - at) (drop at b)) (drop at b) one (Damaged n) place (take_rest b at) is)

  -- an element is begun after those that are read, so they are
  pub element-opens : (begins : List ℕ → Type 0)
      → IsOpen begins (take (length b - at) (drop at b)) one → one ≡ Begun
      → BeginsElements inner begins b
  element-opens begins held is =
      elements-begin inner begins b at items read.chain (open-same begins (take (length b - at) (drop at b)) (drop at b) one Begun held (take_rest b at) is)

  module _ (found : IsFound inner partial (take (length b - at) (drop at b)) one) where
    -- what is found in the rest
    in-rest : (same : Found T) → one ≡ same → IsFound inner partial (drop at b) same
    in-rest same is =
        found-same inner partial (take (length b - at) (drop at b)) (drop at b) one same found (take_rest b at) is

    -- where an element is begun, the elements are
    pub element-begun : one ≡ Begun
        → IsFound (λ u. Elements inner close (vec_items u)) partial b Begun
    element-begun is =
        begun-as inner (λ u. Elements inner close (vec_items u)) partial (drop at b) b (element-covers inner close partial b at items read vec_items) (in-rest Begun is)

    -- where an element is damaged, the elements are
    pub element-damaged : (n : ℕ) → one ≡ Damaged n
        → IsFound (λ u. Elements inner close (vec_items u)) partial b (Damaged (at + n))
    element-damaged n is =
        let here = in-rest (Damaged n) is in
        damaged-as inner (λ u. Elements inner close (vec_items u)) partial (drop at b) b (element-covers inner close partial b at items read vec_items) n (at + n) (fits-both b at n read.within here.0) here

    module _ (v : T) (n : ℕ) (whole : one ≡ Whole v n) where
      -- the bytes after the element are in the bytes
      after-fits : at + n ≤ length b
      after-fits = fits-both b at n read.within (in-rest (Whole v n) whole).0

      -- elements break off where neither a comma nor the bracket follows one
      pub next-placed : (breaks : List ℕ → List ℕ → Type 0) (m : ℕ)
          → IsNext close partial (take (length b - (at + n)) (drop (at + n) b)) (next.Damaged m)
          → ElementsBreakOff inner breaks close b (drop (at + n + m) b)
      next-placed breaks m follows =
          elements-end inner breaks close partial b at items read.chain v n m (in-rest (Whole v n) whole).1 (subst (λ l. IsNext close partial l (next.Damaged m)) (take_rest b (at + n)) follows)

      -- elements are begun where only blanks follow one
      pub next-opens : (begins : List ℕ → Type 0)
          → IsNext close partial (take (length b - (at + n)) (drop (at + n) b)) next.Begun
          → BeginsElements inner begins b
      next-opens begins follows =
          elements-wait inner begins b at items read.chain v n (in-rest (Whole v n) whole).1 (subst (λ l. IsNext close partial l next.Begun) (take_rest b (at + n)) follows).1

      module _ (way : AreInOneWay inner close partial) where
        -- an element and the comma after it are read
        pub comma-read : (m : ℕ) (all : List T)
            → IsNext close partial (take (length b - (at + n)) (drop (at + n) b)) (next.More m)
            → all ≡ items ++ v ∷ [] → HasRead inner close partial b (at + n + m) all
        comma-read m all follows pushed =
            let ahead = subst (λ l. IsNext close partial l (next.More m)) (take_rest b (at + n)) follows in
            subst (HasRead inner close partial b (at + n + m)) (sym pushed)
            (read-on inner close partial b at items read way.comma way.once way.stable v n (in-rest (Whole v n) whole).1 m ahead.1 ahead.2 after-fits)

        -- the last element and the bracket after it are read
        pub close-read : (m : ℕ) (all : List T)
            → IsNext close partial (take (length b - (at + n)) (drop (at + n) b)) (next.Closed m)
            → all ≡ items ++ v ∷ []
            → (at + n + m ≤ length b) × Elements inner close all b (drop (at + n + m) b)
        close-read m all follows pushed =
            let ahead = subst (λ l. IsNext close partial l (next.Closed m)) (take_rest b (at + n)) follows in
            (fits-both b (at + n) m after-fits ahead.0, subst (λ l. Elements inner close l b (drop (at + n + m) b)) (sym pushed) (read-ends inner close partial b at items read way.comma way.once way.stable v n (in-rest (Whole v n) whole).1 m ahead.0 ahead.1))

        -- where only blanks follow an element, the elements are begun
        pub next-begun :
            IsNext close partial (take (length b - (at + n)) (drop (at + n) b)) next.Begun
            → IsFound (λ u. Elements inner close (vec_items u)) partial b Begun
        next-begun follows =
            let ahead = subst (λ l. IsNext close partial l next.Begun) (take_rest b (at + n)) follows in
            (ahead.0, read-begun inner close partial b at items read way.comma way.once way.stable v n (in-rest (Whole v n) whole).1 vec_items ahead.1)

        -- where neither a comma nor the bracket follows an element, the elements are damaged
        pub next-damaged : (m : ℕ)
            → IsNext close partial (take (length b - (at + n)) (drop (at + n) b)) (next.Damaged m)
            → IsFound (λ u. Elements inner close (vec_items u)) partial b (Damaged (at + n + m))
        next-damaged m follows =
            let ahead = subst (λ l. IsNext close partial l (next.Damaged m)) (take_rest b (at + n)) follows in
            (fits-both b (at + n) m after-fits ahead.0, read-stops inner close partial b at items read way.comma way.once way.stable v n (in-rest (Whole v n) whole).1 vec_items ahead.1)

-- ---- Elements between brackets

-- for each depth a relation says which bytes begin with an element
module _ {T : Type 0} (inner : ℕ → T → List ℕ → List ℕ → Type 0) (close begin : ℕ) (partial : Bool) (b : List ℕ) (first : StartsWith begin b) (depth : ℕ) where
  -- where only blanks follow the opening bracket, more is missing
  pub brackets-wait : NoneInBlanks (inner depth)
      → IsByte close partial (take (length b - 1) (drop 1 b)) Begun
      → IsFound (λ u. Bracketed (inner depth) close begin (vec_items u)) partial b Begun
  brackets-wait some byte =
      brackets-begun (inner depth) close begin vec_items partial b first some (subst (λ l. IsByte close partial l Begun) (take_rest b 1) byte)

  -- where no element may stand, the closing bracket is missing
  pub brackets-full : 0 ≡ depth → ((v : T) (c r : List ℕ) → ¬ (inner 0 v c r)) → (k : ℕ)
      → IsByte close partial (take (length b - 1) (drop 1 b)) (Damaged k)
      → IsFound (λ u. Bracketed (inner depth) close begin (vec_items u)) partial b (Damaged (1 + k))
  brackets-full deep none k missing =
      let byte = subst (λ l. IsByte close partial l (Damaged k)) (take_rest b 1) missing in
      subst (λ d. IsFound (λ u. Bracketed (inner d) close begin (vec_items u)) partial b (Damaged (1 + k))) deep
      (brackets-deep (inner 0) close begin vec_items partial b first byte.1 none k (fits-both b 1 k (starts-some begin b first) byte.0) byte.0)

  module _ (less : suc (depth - 1) ≡ depth) (inside : Found (Vec T Global)) (found : IsFound (λ u. Elements (inner (suc (depth - 1))) close (vec_items u)) partial (take (length b - 1) (drop 1 b)) inside) where
    -- what is found after the opening bracket
    in-brackets : (same : Found (Vec T Global)) → inside ≡ same
        → IsFound (λ u. Elements (inner (suc (depth - 1))) close (vec_items u)) partial (drop 1 b) same
    in-brackets same is =
        found-same (λ u. Elements (inner (suc (depth - 1))) close (vec_items u)) partial (take (length b - 1) (drop 1 b)) (drop 1 b) inside same found (take_rest b 1) is

    -- where the elements stand, they do between brackets
    pub brackets-read : (v : Vec T Global) (n : ℕ) → inside ≡ Whole v n
        → IsFound (λ u. Bracketed (inner depth) close begin (vec_items u)) partial b (Whole v (1 + n))
    brackets-read v n is =
        let here = in-brackets (Whole v n) is in
        subst (λ d. IsFound (λ u. Bracketed (inner d) close begin (vec_items u)) partial b (Whole v (1 + n))) less
        (brackets-whole (inner (suc (depth - 1))) close begin vec_items partial b first v n (fits-both b 1 n (starts-some begin b first) here.0) here)

    module _ (k : ℕ) (missing : IsByte close partial (take (length b - 1) (drop 1 b)) (Damaged k)) where
      -- the closing bracket does not follow the opening one
      no-close : IsByte close partial (drop 1 b) (Damaged k)
      no-close = subst (λ l. IsByte close partial l (Damaged k)) (take_rest b 1) missing

      -- where the elements are begun, the brackets are
      pub brackets-open : inside ≡ Begun
          → IsFound (λ u. Bracketed (inner depth) close begin (vec_items u)) partial b Begun
      brackets-open is =
          subst (λ d. IsFound (λ u. Bracketed (inner d) close begin (vec_items u)) partial b Begun) less
          (brackets-missed (inner (suc (depth - 1))) close begin vec_items partial b first no-close.1 (in-brackets Begun is))

      -- where the elements are damaged, the brackets are
      pub brackets-wrong : (n : ℕ) → inside ≡ Damaged n
          → IsFound (λ u. Bracketed (inner depth) close begin (vec_items u)) partial b (Damaged (1 + n))
      brackets-wrong n is =
          let here = in-brackets (Damaged n) is in
          subst (λ d. IsFound (λ u. Bracketed (inner d) close begin (vec_items u)) partial b (Damaged (1 + n))) less
          (brackets-damaged (inner (suc (depth - 1))) close begin vec_items partial b first no-close.1 n (fits-both b 1 n (starts-some begin b first) here.0) here)

-- for each depth a relation says at which rests brackets break off, or whether they are begun
module _ (b : List ℕ) (begin : ℕ) (first : StartsWith begin b) (depth : ℕ) where
  -- where no element may stand, brackets break off at the byte in place of the closing one
  pub full-placed : (breaks : ℕ → List ℕ → List ℕ → Type 0) (close k : ℕ)
      → ((r : List ℕ) → BracketsBreakOff IsTooDeep close begin b r → breaks 0 b r) → 0 ≡ depth
      → ByteIsMissing close (take (length b - 1) (drop 1 b)) (drop k (take (length b - 1) (drop 1 b)))
      → breaks depth b (drop (1 + k) b)
  full-placed breaks close k so deep missing =
      let byte = subst (λ l. ByteIsMissing close l (drop k l)) (take_rest b 1) missing in
      subst (λ d. breaks d b (drop (1 + k) b)) deep
      (so (drop (1 + k) b) (brackets-stop IsTooDeep close begin b k k first byte byte.0))

  -- brackets break off where the elements between them do
  pub brackets-placed : {T : Type 0} (breaks : ℕ → List ℕ → List ℕ → Type 0)
      (stops : List ℕ → List ℕ → Type 0) (close k : ℕ)
      → ((r : List ℕ) → BracketsBreakOff stops close begin b r → breaks (suc (depth - 1)) b r)
      → suc (depth - 1) ≡ depth
      → ByteIsMissing close (take (length b - 1) (drop 1 b)) (drop k (take (length b - 1) (drop 1 b)))
      → (inside : Found T) (n : ℕ) → IsPlaced stops (take (length b - 1) (drop 1 b)) inside
      → inside ≡ Damaged n → breaks depth b (drop (1 + n) b)
  brackets-placed breaks stops close k so less missing inside n place is =
      let byte = subst (λ l. ByteIsMissing close l (drop k l)) (take_rest b 1) missing in
      let here = placed-same stops (take (length b - 1) (drop 1 b)) (drop 1 b) inside (Damaged n) place (take_rest b 1) is in
      subst (λ d. breaks d b (drop (1 + n) b)) less
      (so (drop (1 + n) b) (brackets-stop stops close begin b k n first byte here))

  -- brackets are begun if the elements between them are
  pub brackets-opens : {T : Type 0} (begins : ℕ → List ℕ → Type 0) (opens : List ℕ → Type 0)
      → (BeginsBrackets opens begin b → begins (suc (depth - 1)) b) → suc (depth - 1) ≡ depth
      → (inside : Found T) → IsOpen opens (take (length b - 1) (drop 1 b)) inside → inside ≡ Begun
      → begins depth b
  brackets-opens begins opens so less inside held is =
      subst (λ d. begins d b) less
      (so (brackets-begin opens begin b first (open-same opens (take (length b - 1) (drop 1 b)) (drop 1 b) inside Begun held (take_rest b 1) is)))
