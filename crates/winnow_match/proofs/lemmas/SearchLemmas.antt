-- The places at which needles stand: for lists of needles, in windows, and the hit from its place.
use Rattle.std.proofs.Common.{◌≡◌, ℕ, zero, suc, ◌+◌, ◌-◌, ◌≤◌, ◌<◌, ◌==◌, min, Bool, true, false, cond, ◌||◌, ◌⊎◌, List, [], ◌∷◌, ◌++◌, length, take, drop, get_or, Option, Some, None, refl, ap, sym, ◌∙◌, arith, subst, inl, inr, length-drop, length-take}
use Rattle.std.specs.Prelude.{is_some, unwrap_or, slice_index, MatchOption, ⊤}
use Rattle.std.specs.List.{list_any}
use Rattle.std.proofs.lemmas.Bool.{and_parts, or_cases, or_parts, or_left, or_right, false≢true, cases_lt, cases_Bool}
use Rattle.std.proofs.lemmas.Bool.Decides.{nat_tests}
use Rattle.std.proofs.lemmas.List.{drop-drop, drop_all, drop_more, get_or-take, get_or-drop}
use Rattle.std.proofs.lemmas.List.Prefix.{at_from_reads, at_reads}
use Rattle.memchr.specs.Find.{IsFirst, IsFirstByte, Passes, is_byte, is_byte2, is_byte3, Nowhere, NoneBefore, OccursAt, FindsNeedle}
use Rattle.winnow_stream.specs.Span.{span}
use Rattle.winnow_match.specs.Comparison.{is_prefix}
use Rattle.winnow_match.specs.Search.{is_empty, needle_at, SomeOccurs, first_hit, hit}
use Rattle.winnow_match.proofs.lemmas.ByteFrontLemmas.{length-front, is_prefix-append, front_rest}

-- a needle that is not empty has a positive length
pub nonempty-length : (xs : List ℕ) → is_empty xs ≡ false → 0 < length xs
nonempty-length [] h = absurd (false≢true (sym h))
nonempty-length (x ∷ xs) h = omega arith

-- ---- lists of needles

-- the cases of `needle_at` for one more needle
some-cond : (b : Bool) (m : ℕ) → is_some (cond b (Some m) None) ≡ b
some-cond true m = refl
some-cond false m = refl

or-step : (b : Bool) (m : ℕ) (o p : Option ℕ) (f : Bool) → is_some p ≡ (is_some o || f)
    → is_some (cond b (Some m) p) ≡ (is_some (cond b (Some m) o) || f)
or-step true m o p f h = refl
or-step false m o p f h = h

-- whether one needle of one, or of some and one more, stands
pub needle_at-one : (n xs : List ℕ) → is_some (needle_at (n ∷ []) xs) ≡ is_prefix n xs
needle_at-one n xs = some-cond (is_prefix n xs) (length n)

pub needle_at-append : (ls : List (List ℕ)) (n xs : List ℕ)
    → is_some (needle_at (ls ++ n ∷ []) xs) ≡ (is_some (needle_at ls xs) || is_prefix n xs)
needle_at-append [] n xs = needle_at-one n xs
needle_at-append (l ∷ ls) n xs = or-step (is_prefix l xs) (length l) (needle_at ls xs) (needle_at (ls ++ n ∷ []) xs) (is_prefix n xs) (needle_at-append ls n xs)

module _ (ls : List (List ℕ)) (n bytes : List ℕ) (k : ℕ) where
  -- a needle of two lists stands exactly if one of either list does
  pub SomeOccurs-split : SomeOccurs (ls ++ n ∷ []) bytes k
      → SomeOccurs ls bytes k ⊎ SomeOccurs (n ∷ []) bytes k
  SomeOccurs-split s =
      elim (or_cases (is_some (needle_at ls (drop k bytes))) (is_prefix n (drop k bytes)) (sym (needle_at-append ls n (drop k bytes)) ∙ s)) [
        | inl h ↦ inl h
        | inr h ↦ inr (needle_at-one n (drop k bytes) ∙ h)
      ]

  pub SomeOccurs-left : SomeOccurs ls bytes k → SomeOccurs (ls ++ n ∷ []) bytes k
  SomeOccurs-left s = needle_at-append ls n (drop k bytes) ∙ or_left _ (is_prefix n (drop k bytes)) s

  pub SomeOccurs-right : SomeOccurs (n ∷ []) bytes k → SomeOccurs (ls ++ n ∷ []) bytes k
  SomeOccurs-right s =
      needle_at-append ls n (drop k bytes) ∙ or_right (is_some (needle_at ls (drop k bytes))) _ (sym (needle_at-one n (drop k bytes)) ∙ s)

-- needles of two lists stand nowhere if those of each do
Nowhere-append : (ls : List (List ℕ)) (n bytes : List ℕ) (j : ℕ)
    → Nowhere (SomeOccurs ls bytes) 0 j → Nowhere (SomeOccurs (n ∷ []) bytes) 0 j
    → Nowhere (SomeOccurs (ls ++ n ∷ []) bytes) 0 j
Nowhere-append ls n bytes j f g k low high s = elim (SomeOccurs-split ls n bytes k s) [ inl h ↦ f k low high h | inr h ↦ g k low high h ]

-- nowhere up to a place is nowhere up to a lesser one
pub Nowhere-less : (P : ℕ → Type 0) (i j m : ℕ) → m ≤ j → Nowhere P i j → Nowhere P i m
Nowhere-less P i j m l f k low high = f k low (omega arith)

-- one more needle, which is searched for up to the place that the others gave
pub sooner-some : (ls : List (List ℕ)) (n bytes : List ℕ) (limit at : ℕ) (r : Option ℕ)
    → IsFirst (SomeOccurs ls bytes) 0 limit (Some at) → IsFirst (SomeOccurs (n ∷ []) bytes) 0 at r
    → IsFirst (SomeOccurs (ls ++ n ∷ []) bytes) 0 limit (Some (unwrap_or r at))
sooner-some ls n bytes limit at None f g =
    (record { low = f.0.low; high = f.0.high; before = Nowhere-append ls n bytes at f.0.before g }, SomeOccurs-left ls n bytes at f.1)
sooner-some ls n bytes limit at (Some j) f g =
    let first : Nowhere (SomeOccurs ls bytes) 0 j = Nowhere-less (SomeOccurs ls bytes) 0 at j (omega (arith, g.0.high)) f.0.before in
    (record { low = g.0.low; high = omega (arith, g.0.high, f.0.high); before = Nowhere-append ls n bytes j first g.0.before }, SomeOccurs-right ls n bytes j g.1)

-- one more needle, where the others stand nowhere
pub sooner-none : (ls : List (List ℕ)) (n bytes : List ℕ) (limit : ℕ) (r : Option ℕ)
    → IsFirst (SomeOccurs ls bytes) 0 limit None → IsFirst (SomeOccurs (n ∷ []) bytes) 0 limit r
    → IsFirst (SomeOccurs (ls ++ n ∷ []) bytes) 0 limit r
sooner-none ls n bytes limit None f g = Nowhere-append ls n bytes limit f g
sooner-none ls n bytes limit (Some j) f g =
    let first : Nowhere (SomeOccurs ls bytes) 0 j = Nowhere-less (SomeOccurs ls bytes) 0 limit j (omega (arith, g.0.high)) f in
    (record { low = g.0.low; high = g.0.high; before = Nowhere-append ls n bytes j first g.0.before }, SomeOccurs-right ls n bytes j g.1)

-- ---- one needle in a front of the bytes

module _ (bytes n : List ℕ) (k : ℕ) where
  -- a needle that stands ends within the bytes
  SomeOccurs-fits : is_empty n ≡ false → SomeOccurs (n ∷ []) bytes k → k + length n ≤ length bytes
  SomeOccurs-fits some s =
      let f = length-front n (drop k bytes) (sym (needle_at-one n (drop k bytes)) ∙ s) in
      let l = nonempty-length n some in
      omega (arith, f, l, length-drop k bytes)

  module _ (reach : ℕ) (short : reach ≤ length bytes) where
    -- a needle stands in a front of the bytes exactly if it stands in the bytes and ends in the
    -- front
    SomeOccurs-occurs : OccursAt (take reach bytes) n k → SomeOccurs (n ∷ []) bytes k
    SomeOccurs-occurs o =
        let fits : k + length n ≤ reach = omega (arith, o.fits, length-take reach bytes) in
        let reads : (i : ℕ) → i < length n → get_or bytes (k + i) 0 ≡ get_or n i 0 = λ i l. sym (get_or-take reach bytes (k + i) 0 (omega (arith, l, fits))) ∙ o.reads i l in
        let e : drop k bytes ≡ n ++ drop (k + length n) bytes = at_from_reads 0 bytes n k (omega (arith, fits, short)) reads in
        needle_at-one n (drop k bytes) ∙ ap (is_prefix n) e ∙ is_prefix-append n (drop (k + length n) bytes)

    occurs-SomeOccurs : k + length n ≤ reach → SomeOccurs (n ∷ []) bytes k
        → OccursAt (take reach bytes) n k
    occurs-SomeOccurs fits s =
        let e : drop k bytes ≡ n ++ drop (length n) (drop k bytes) = front_rest n (drop k bytes) (sym (needle_at-one n (drop k bytes)) ∙ s) in
        record {
          fits = omega (arith, fits, short, length-take reach bytes);
          reads = λ i l. get_or-take reach bytes (k + i) 0 (omega (arith, l, fits)) ∙ at_reads 0 bytes n k (drop (length n) (drop k bytes)) e i l;
        }

-- a needle that begins below the limit ends within the reach of the search
pub place-below : (bytes n : List ℕ) (limit reach : ℕ) (r : Option ℕ) → is_empty n ≡ false
    → reach ≡ min (limit + (length n - 1)) (length bytes) → FindsNeedle (take reach bytes) n 0 r
    → IsFirst (SomeOccurs (n ∷ []) bytes) 0 limit r
place-below bytes n limit reach None some e f =
    let l = nonempty-length n some in
    let short : reach ≤ length bytes = omega (arith, e) in
    λ k low high s.
    let fits = SomeOccurs-fits bytes n k some s in
    f k low (omega (arith, e, l, fits, high, length-take reach bytes)) (occurs-SomeOccurs bytes n k reach short (omega (arith, e, l, fits, high)) s)
place-below bytes n limit reach (Some at) some e f =
    let l = nonempty-length n some in
    let short : reach ≤ length bytes = omega (arith, e) in
    let below : at < limit = omega (arith, e, l, f.1.fits, length-take reach bytes) in
    let none : Nowhere (SomeOccurs (n ∷ []) bytes) 0 at =
    λ k low high s. f.0.before k low high (occurs-SomeOccurs bytes n k reach short (omega (arith, e, l, SomeOccurs-fits bytes n k some s, high, below)) s)
    in
    (record { low = omega arith; high = below; before = none }, SomeOccurs-occurs bytes n at reach short f.1)

-- ---- what remains after some bytes

module _ (ls : List (List ℕ)) (bytes : List ℕ) where
  -- a needle stands in what remains exactly if it stands further on in the whole
  pub SomeOccurs-shift : (p k : ℕ) → SomeOccurs ls (drop p bytes) k → SomeOccurs ls bytes (p + k)
  SomeOccurs-shift p k s = sym (ap (λ xs. is_some (needle_at ls xs)) (drop-drop k p bytes)) ∙ s

  pub SomeOccurs-unshift : (p k : ℕ) → p ≤ k → SomeOccurs ls bytes k
      → SomeOccurs ls (drop p bytes) (k - p)
  SomeOccurs-unshift p k l s =
      let e : drop (k - p) (drop p bytes) ≡ drop k bytes = drop-drop (k - p) p bytes ∙ ap (λ m. drop m bytes) (omega (arith, l)) in
      ap (λ xs. is_some (needle_at ls xs)) e ∙ s

  -- no needle stands below p, nor at the next m places
  pub Nowhere-more : (p m : ℕ) → Nowhere (SomeOccurs ls bytes) 0 p
      → Nowhere (SomeOccurs ls (drop p bytes)) 0 m → Nowhere (SomeOccurs ls bytes) 0 (p + m)
  Nowhere-more p m f g k low high s =
      elim (cases_lt k p) [
        | inl l ↦ f k low l s
        | inr l ↦ g (k - p) (omega arith) (omega (arith, l, high)) (SomeOccurs-unshift p k l s)
      ]

-- no needle stands in no bytes, if none is empty
pub needle_at-nil : (ls : List (List ℕ)) → list_any is_empty ls ≡ false → needle_at ls [] ≡ None
needle_at-nil [] h = refl
needle_at-nil ([] ∷ ls) h = absurd (false≢true (sym h))
needle_at-nil ((x ∷ l) ∷ ls) h = needle_at-nil ls h

-- a needle stands only within the bytes
pub SomeOccurs-within : (ls : List (List ℕ)) (bytes : List ℕ) (k : ℕ)
    → list_any is_empty ls ≡ false → SomeOccurs ls bytes k → k < length bytes
SomeOccurs-within ls bytes k some s =
    elim (cases_lt k (length bytes)) [
      | inl l ↦ l
      | inr l ↦ absurd (false≢true (sym (ap is_some (ap (needle_at ls) (drop_all k bytes l) ∙ needle_at-nil ls some)) ∙ s))
    ]

-- the first place after those that were passed is the first of all
pub first-behind : (ls : List (List ℕ)) (bytes : List ℕ) (p m : ℕ) (at : ℕ)
    → list_any is_empty ls ≡ false → Nowhere (SomeOccurs ls bytes) 0 p
    → IsFirst (SomeOccurs ls (drop p bytes)) 0 m (Some at)
    → IsFirst (SomeOccurs ls bytes) 0 (length bytes) (Some (p + at))
first-behind ls bytes p m at some f g =
    let s : SomeOccurs ls bytes (p + at) = SomeOccurs-shift ls bytes p at g.1 in
    (record { low = omega arith; high = SomeOccurs-within ls bytes (p + at) some s; before = Nowhere-more ls bytes p at f g.0.before }, s)

-- ---- the hit

-- an option that is not `Some` is `None`
pub none-parts : (o : Option ℕ) → ¬ (is_some o ≡ true) → o ≡ None
none-parts None h = refl
none-parts (Some n) h = absurd (h refl)

-- the first hit is at the first place at which a needle stands, and `None` without one
pub first_hit-some : (ls : List (List ℕ)) (bytes : List ℕ) (base q n : ℕ)
    → Nowhere (SomeOccurs ls bytes) 0 q → q < length bytes → needle_at ls (drop q bytes) ≡ Some n
    → first_hit ls base bytes ≡ Some (span (base + q) n)
first_hit-some ls [] base q n none l e = absurd (omega (arith, l))
first_hit-some ls (y ∷ bytes) base zero n none l e = rw e (ap (λ k. Some (span k n)) (omega arith))
first_hit-some ls (y ∷ bytes) base (suc q) n none l e =
    let here : needle_at ls (y ∷ bytes) ≡ None = none-parts (needle_at ls (y ∷ bytes)) (none 0 (omega arith) (omega arith)) in
    let later : Nowhere (SomeOccurs ls bytes) 0 q = λ k low high s. none (suc k) (omega arith) (omega (arith, high)) s in
    rw here (first_hit-some ls bytes (base + 1) q n later (omega (arith, l)) e ∙ ap (λ k. Some (span k n)) (omega arith))

pub first_hit-none : (ls : List (List ℕ)) (bytes : List ℕ) (base : ℕ)
    → Nowhere (SomeOccurs ls bytes) 0 (length bytes) → first_hit ls base bytes ≡ None
first_hit-none ls [] base none = refl
first_hit-none ls (y ∷ bytes) base none =
    let here : needle_at ls (y ∷ bytes) ≡ None = none-parts (needle_at ls (y ∷ bytes)) (none 0 (omega arith) (omega arith)) in
    let later : Nowhere (SomeOccurs ls bytes) 0 (length bytes) = λ k low high s. none (suc k) (omega arith) (omega (arith, high)) s in
    rw here (first_hit-none ls bytes (base + 1) later)

module _ (ls : List (List ℕ)) (bytes : List ℕ) where
  -- `hit` finds the first place at which a needle stands, and nothing without one
  pub hit-some : (q n : ℕ) → list_any is_empty ls ≡ false → Nowhere (SomeOccurs ls bytes) 0 q
      → needle_at ls (drop q bytes) ≡ Some n → Some (span q n) ≡ hit ls bytes
  hit-some q n some none e =
      let l = SomeOccurs-within ls bytes q some (ap is_some e) in
      rw some (sym (first_hit-some ls bytes 0 q n none l e ∙ ap (λ k. Some (span k n)) (omega arith)))

  pub hit-none : list_any is_empty ls ≡ false → Nowhere (SomeOccurs ls bytes) 0 (length bytes)
      → None ≡ hit ls bytes
  hit-none some none = rw some (sym (first_hit-none ls bytes 0 none))

-- ---- first bytes

-- each needle has a first byte, and it passes the test
abbrev pub BeginWith : (ℕ → Bool) → List (List ℕ) → Type 0
BeginWith test [] = ⊤
BeginWith test (n ∷ ls) = ((is_empty n ≡ false) × (test (slice_index n 0) ≡ true)) × BeginWith test ls

-- a needle that stands begins with the byte at its place
first-byte : (n xs : List ℕ) → is_empty n ≡ false → is_prefix n xs ≡ true
    → slice_index n 0 ≡ slice_index xs 0
first-byte [] xs some h = absurd (false≢true (sym some))
first-byte (x ∷ n) [] some h = absurd (false≢true h)
first-byte (x ∷ n) (y ∷ xs) some h = grind (arith, nat_tests, and_parts (x == y) (is_prefix n xs) h)

-- so that byte passes the test
first-passes : (test : ℕ → Bool) (ls : List (List ℕ)) (xs : List ℕ) → BeginWith test ls
    → is_some (needle_at ls xs) ≡ true → test (slice_index xs 0) ≡ true
first-passes test [] xs w h = absurd (false≢true h)
first-passes test (n ∷ ls) xs w h =
    elim (cases_Bool (is_prefix n xs)) [
      | inl f ↦ ap test (sym (first-byte n xs w.0.0 f)) ∙ w.0.1
      | inr f ↦ first-passes test ls xs w.1 (let g : is_some (cond (is_prefix n xs) (Some (length n)) (needle_at ls xs)) ≡ true = h in rw f at g)
    ]

-- a place at which a needle stands passes the test
pub Passes-SomeOccurs : (test : ℕ → Bool) (ls : List (List ℕ)) (bytes : List ℕ) (k : ℕ)
    → BeginWith test ls → SomeOccurs ls bytes k → Passes test bytes k
Passes-SomeOccurs test ls bytes k w s =
    let e : get_or (drop k bytes) 0 0 ≡ get_or bytes k 0 = get_or-drop k bytes 0 0 ∙ ap (λ m. get_or bytes m 0) (omega arith) in
    sym (ap test e) ∙ first-passes test ls (drop k bytes) w s

-- no needle stands before the first byte that passes
pub next-first : (test : ℕ → Bool) (ls : List (List ℕ)) (bytes : List ℕ) (r : Option ℕ)
    → BeginWith test ls → IsFirstByte test bytes r
    → MatchOption r (Nowhere (SomeOccurs ls bytes) 0 (length bytes))
    (λ at. NoneBefore (SomeOccurs ls bytes) 0 (length bytes) at)
next-first test ls bytes None w f = λ k low high s. f k low high (Passes-SomeOccurs test ls bytes k w s)
next-first test ls bytes (Some at) w f =
    record { low = f.0.low; high = f.0.high; before = λ k low high s. f.0.before k low high (Passes-SomeOccurs test ls bytes k w s) }

-- the tests for the first bytes of one, two and three needles
module _ (ls : List (List ℕ)) (some : list_any is_empty ls ≡ false) where
  -- each test passes for the first bytes of its needles
  pub begin-one : (a : List ℕ) (x : ℕ) → ls ≡ a ∷ [] → x ≡ slice_index a 0
      → BeginWith (is_byte x) ls
  begin-one a x e p =
      let none : list_any is_empty (a ∷ []) ≡ false = sym (ap (list_any is_empty) e) ∙ some in
      let P : List (List ℕ) → Type 0 = BeginWith (is_byte x) in
      subst P (sym e) (((or_parts _ false none).0, grind (arith, nat_tests)), tt)

  pub begin-two : (a b : List ℕ) (x y : ℕ) → ls ≡ a ∷ b ∷ [] → x ≡ slice_index a 0
      → y ≡ slice_index b 0 → BeginWith (is_byte2 x y) ls
  begin-two a b x y e p q =
      let none : list_any is_empty (a ∷ b ∷ []) ≡ false = sym (ap (list_any is_empty) e) ∙ some in
      let first = or_parts (is_empty a) (is_empty b || false) none in
      let second = or_parts (is_empty b) false first.1 in
      let P : List (List ℕ) → Type 0 = BeginWith (is_byte2 x y) in
      subst P (sym e) ((first.0, grind (arith, nat_tests)), ((second.0, grind (arith, nat_tests)), tt))

  pub begin-three : (a b c : List ℕ) (x y z : ℕ) → ls ≡ a ∷ b ∷ c ∷ [] → x ≡ slice_index a 0
      → y ≡ slice_index b 0 → z ≡ slice_index c 0 → BeginWith (is_byte3 x y z) ls
  begin-three a b c x y z e p q t =
      let none : list_any is_empty (a ∷ b ∷ c ∷ []) ≡ false = sym (ap (list_any is_empty) e) ∙ some in
      let first = or_parts (is_empty a) (is_empty b || (is_empty c || false)) none in
      let second = or_parts (is_empty b) (is_empty c || false) first.1 in
      let third = or_parts (is_empty c) false second.1 in
      let P : List (List ℕ) → Type 0 = BeginWith (is_byte3 x y z) in
      subst P (sym e) ((first.0, grind (arith, nat_tests)), ((second.0, grind (arith, nat_tests)), ((third.0, grind (arith, nat_tests)), tt)))

-- ---- the hit of a search that has passed p places

module _ (ls : List (List ℕ)) (bytes : List ℕ) (p : ℕ) (some : list_any is_empty ls ≡ false) (passed : Nowhere (SomeOccurs ls bytes) 0 p) where
  -- if no needle stands in what remains, there is no hit
  pub hit-nowhere : p ≤ length bytes
      → Nowhere (SomeOccurs ls (drop p bytes)) 0 (length (drop p bytes)) → None ≡ hit ls bytes
  hit-nowhere l none =
      let m : ℕ = length (drop p bytes) in
      hit-none ls bytes some (Nowhere-less (SomeOccurs ls bytes) 0 (p + m) (length bytes) (omega (arith, l, length-drop p bytes)) (Nowhere-more ls bytes p m passed none))

  -- a needle at the next place whose byte passes is the hit
  pub hit-behind : (k m n : ℕ) → NoneBefore (SomeOccurs ls (drop p bytes)) 0 m k
      → Some n ≡ needle_at ls (drop (p + k) bytes) → Some (span (p + k) n) ≡ hit ls bytes
  hit-behind k m n none e = hit-some ls bytes (p + k) n some (Nowhere-more ls bytes p k passed none.before) (sym e)

  -- if no needle stands there, the search passes that place
  pub pass-one : (k m : ℕ) → NoneBefore (SomeOccurs ls (drop p bytes)) 0 m k
      → None ≡ needle_at ls (drop (p + k) bytes) → Nowhere (SomeOccurs ls bytes) 0 (p + k + 1)
  pass-one k m none e i low high s =
      elim (cases_lt i (p + k)) [
        | inl l ↦ Nowhere-more ls bytes p k passed none.before i low l s
        | inr l ↦
            let at : i ≡ p + k = omega (arith, l, high) in
            let here : is_some (needle_at ls (drop i bytes)) ≡ false = ap (λ q. is_some (needle_at ls (drop q bytes))) at ∙ ap is_some (sym e) in
            false≢true (sym here ∙ s)
      ]

-- ---- needles of one byte

-- the test holds exactly of the bytes of the needles, which have one byte each
abbrev TestsFor : (ℕ → Bool) → List (List ℕ) → Type 0
TestsFor test ls = (y : ℕ) (ys : List ℕ) → needle_at ls (y ∷ ys) ≡ cond (test y) (Some 1) None

module _ (test : ℕ → Bool) (ls : List (List ℕ)) (bytes : List ℕ) (tests : TestsFor test ls) where
  -- a needle of one byte stands exactly where the test passes
  needle_at-byte : (k : ℕ) → k < length bytes
      → needle_at ls (drop k bytes) ≡ cond (test (get_or bytes k 0)) (Some 1) None
  needle_at-byte k l = ap (needle_at ls) (drop_more bytes k 0 l) ∙ tests (get_or bytes k 0) (drop (k + 1) bytes)

  -- a place at which a needle stands passes the test
  passes-from_Stands : (k : ℕ) → k < length bytes → SomeOccurs ls bytes k → Passes test bytes k
  passes-from_Stands k l s = sym (some-cond (test (get_or bytes k 0)) 1) ∙ sym (ap is_some (needle_at-byte k l)) ∙ s

  -- the first byte that passes is the hit, and without one there is no hit
  byte-hit : (at : ℕ) → list_any is_empty ls ≡ false → IsFirstByte test bytes (Some at)
      → Some (span at 1) ≡ hit ls bytes
  byte-hit at some f =
      let none : Nowhere (SomeOccurs ls bytes) 0 at = λ k low high s. f.0.before k low high (passes-from_Stands k (omega (arith, high, f.0.high)) s) in
      hit-some ls bytes at 1 some none (needle_at-byte at f.0.high ∙ ap (λ b. cond b (Some 1) None) f.1)

  byte-none : list_any is_empty ls ≡ false → IsFirstByte test bytes None → None ≡ hit ls bytes
  byte-none some f = hit-none ls bytes some (λ k low high s. f k low high (passes-from_Stands k high s))

-- the tests for one, two and three bytes are such tests
one-tests : (a : ℕ) → TestsFor (is_byte a) ((a ∷ []) ∷ [])
one-tests a y ys = grind (arith, nat_tests)

two-tests : (a b : ℕ) → TestsFor (is_byte2 a b) ((a ∷ []) ∷ (b ∷ []) ∷ [])
two-tests a b y ys = grind (arith, nat_tests)

three-tests : (a b c : ℕ) → TestsFor (is_byte3 a b c) ((a ∷ []) ∷ (b ∷ []) ∷ (c ∷ []) ∷ [])
three-tests a b c y ys = grind (arith, nat_tests)

module _ (bytes : List ℕ) (at a : ℕ) where
  -- the answers of a search for one, two or three bytes, found or not
  pub byte-some_one : IsFirstByte (is_byte a) bytes (Some at)
      → Some (span at 1) ≡ hit ((a ∷ []) ∷ []) bytes
  byte-some_one f = byte-hit (is_byte a) ((a ∷ []) ∷ []) bytes (one-tests a) at refl f

  pub byte-some_two : (b : ℕ) → IsFirstByte (is_byte2 a b) bytes (Some at)
      → Some (span at 1) ≡ hit ((a ∷ []) ∷ (b ∷ []) ∷ []) bytes
  byte-some_two b f = byte-hit (is_byte2 a b) ((a ∷ []) ∷ (b ∷ []) ∷ []) bytes (two-tests a b) at refl f

  pub byte-some_three : (b c : ℕ) → IsFirstByte (is_byte3 a b c) bytes (Some at)
      → Some (span at 1) ≡ hit ((a ∷ []) ∷ (b ∷ []) ∷ (c ∷ []) ∷ []) bytes
  byte-some_three b c f = byte-hit (is_byte3 a b c) ((a ∷ []) ∷ (b ∷ []) ∷ (c ∷ []) ∷ []) bytes (three-tests a b c) at refl f

module _ (bytes : List ℕ) (a : ℕ) where
  pub byte-none_one : IsFirstByte (is_byte a) bytes None → None ≡ hit ((a ∷ []) ∷ []) bytes
  byte-none_one f = byte-none (is_byte a) ((a ∷ []) ∷ []) bytes (one-tests a) refl f

  pub byte-none_two : (b : ℕ) → IsFirstByte (is_byte2 a b) bytes None
      → None ≡ hit ((a ∷ []) ∷ (b ∷ []) ∷ []) bytes
  byte-none_two b f = byte-none (is_byte2 a b) ((a ∷ []) ∷ (b ∷ []) ∷ []) bytes (two-tests a b) refl f

  pub byte-none_three : (b c : ℕ) → IsFirstByte (is_byte3 a b c) bytes None
      → None ≡ hit ((a ∷ []) ∷ (b ∷ []) ∷ (c ∷ []) ∷ []) bytes
  byte-none_three b c f = byte-none (is_byte3 a b c) ((a ∷ []) ∷ (b ∷ []) ∷ (c ∷ []) ∷ []) bytes (three-tests a b c) refl f

-- the rules for searches for bytes
pub ruleset single_bytes = (byte-some_one, byte-some_two, byte-some_three, byte-none_one, byte-none_two, byte-none_three)
