-- Searches as facts: the needle that stands and its place, and what more input leaves as it was.
use Rattle.std.proofs.Common.{◌≡◌, ℕ, zero, suc, ◌+◌, ◌≤◌, ◌<◌, ◌==◌, ◌⊎◌, ◌↔◌, true, false, cond, List, [], ◌∷◌, ◌++◌, length, take, drop, Option, Some, None, refl, ap, sym, ◌∙◌, arith, subst, inl, inr, length-append, length-drop, append_assoc}
use Rattle.std.proofs.Math.Seq.{drop-append_seam}
use Rattle.std.specs.Prelude.{is_some, Contains, Bool, ◌&&◌, if◌then◌else◌}
use Rattle.std.specs.Option.{option_map}
use Rattle.std.specs.List.{list_any}
use Rattle.std.specs.declared.ops.Range.{Range}
use Rattle.std.proofs.lemmas.Bool.{or_cases, false≢true, false_from_ne_true, cases_Bool}
use Rattle.std.proofs.lemmas.List.{take-append-drop, drop-drop}
use Rattle.std.proofs.lemmas.Option.{same_Some, none-some}
use Rattle.memchr.specs.Find.{Nowhere}
use Rattle.winnow_stream.specs.Source.{units, offsets_from, first_held, first_offset}
use Rattle.winnow_stream.specs.Span.{span}
use Rattle.winnow_match.specs.Comparison.{is_prefix}
use Rattle.winnow_match.specs.Search.{is_empty, needle_at, SomeOccurs, Occurs, needle_of, IsFirstHit, OccursNowhere, hit_or, first_hit, hit}
use Rattle.winnow_match.proofs.lemmas.ByteFrontLemmas.{IsPrefixOf-is_prefix, is_prefix-IsPrefixOf, no_front}
use Rattle.winnow_match.proofs.lemmas.SearchLemmas.{hit-some, hit-none, none-parts, SomeOccurs-within}

-- ---- an empty needle

-- a list that tests as empty has no byte
nil-from_empty : (l : List ℕ) → is_empty l ≡ true → l ≡ []
nil-from_empty [] h = refl
nil-from_empty (x ∷ l) h = absurd (false≢true h)

-- the test for an empty needle and the fact agree
some-empty : (ls : List (List ℕ)) → list_any is_empty ls ≡ true → Contains ls []
some-empty [] h = absurd (false≢true h)
some-empty (n ∷ ls) h =
    elim (or_cases (is_empty n) (list_any is_empty ls) h) [
      | inl e ↦ (0, omega arith, nil-from_empty n e)
      | inr e ↦ let later = some-empty ls e in (suc later.0, omega (arith, later.1), later.2)
    ]

-- without an empty needle the test fails
pub none-empty : (ls : List (List ℕ)) → ¬ Contains ls [] → list_any is_empty ls ≡ false
none-empty ls n = false_from_ne_true (list_any is_empty ls) (λ h. n (some-empty ls h))

-- ---- the first listed needle that is a front

-- needle i begins xs, and no needle listed before it does
record IsFirstListed (ls : List (List ℕ)) (xs : List ℕ) (i : ℕ) : Type 0 where
  listed : i < length ls
  front : is_prefix (needle_of ls i) xs ≡ true
  before : (j : ℕ) → j < i → is_prefix (needle_of ls j) xs ≡ false

-- a property of all numbers below `suc i`, from 0 and from those after 0
pub below-suc : (P : ℕ → Type 0) (i : ℕ) → P zero → ((j : ℕ) → j < i → P (suc j)) → (j : ℕ)
    → j < suc i → P j
below-suc P i here later zero l = here
below-suc P i here later (suc j) l = later j (omega (arith, l))

-- a needle before the others that is no front leaves the first listed one
IsFirstListed-next : (n : List ℕ) (ls : List (List ℕ)) (xs : List ℕ) (i : ℕ)
    → is_prefix n xs ≡ false → IsFirstListed ls xs i → IsFirstListed (n ∷ ls) xs (suc i)
IsFirstListed-next n ls xs i f h =
    record {
      listed = omega (arith, h.listed);
      front = h.front;
      before = below-suc (λ j. is_prefix (needle_of (n ∷ ls) j) xs ≡ false) i f h.before;
    }

-- `needle_at` gives the length of the first listed needle that stands
first-listed : (ls : List (List ℕ)) (xs : List ℕ) (m : ℕ) → needle_at ls xs ≡ Some m
    → (i : ℕ) × (IsFirstListed ls xs i) × (m ≡ length (needle_of ls i))
first-listed [] xs m h = absurd (none-some m h)
first-listed (n ∷ ls) xs m h =
    elim (cases_Bool (is_prefix n xs)) [
      | inl f ↦
          let e : cond (is_prefix n xs) (Some (length n)) (needle_at ls xs) ≡ Some m = h in
          (0, record { listed = omega arith; front = f; before = λ j l. absurd (omega (arith, l)) }, sym (same_Some (length n) m (rw f at e)))
      | inr f ↦
          let e : cond (is_prefix n xs) (Some (length n)) (needle_at ls xs) ≡ Some m = h in
          let later = first-listed ls xs m (rw f at e) in
          (suc later.0, IsFirstListed-next n ls xs later.0 f later.1, later.2)
    ]

-- the first listed needle that stands is the answer of `needle_at`
needle_at-first : (ls : List (List ℕ)) (xs : List ℕ) (i : ℕ) → IsFirstListed ls xs i
    → needle_at ls xs ≡ Some (length (needle_of ls i))
needle_at-first [] xs i h = absurd (omega (arith, h.listed))
needle_at-first (n ∷ ls) xs zero h = let f : is_prefix n xs ≡ true = h.front in rw f refl
needle_at-first (n ∷ ls) xs (suc i) h =
    let f : is_prefix n xs ≡ false = h.before 0 (omega arith) in
    let later : IsFirstListed ls xs i = record { listed = omega (arith, h.listed); front = h.front; before = λ j l. h.before (suc j) (omega (arith, l)) } in
    rw f (needle_at-first ls xs i later)

-- `needle_at` is `None` exactly if no needle stands
pub no-needle : (ls : List (List ℕ)) (xs : List ℕ) → needle_at ls xs ≡ None → (i : ℕ)
    → i < length ls → is_prefix (needle_of ls i) xs ≡ false
no-needle [] xs h i l = absurd (omega (arith, l))
no-needle (n ∷ ls) xs h i l =
    elim (cases_Bool (is_prefix n xs)) [
      | inl f ↦
          let e : cond (is_prefix n xs) (Some (length n)) (needle_at ls xs) ≡ None = h in
          absurd (none-some (length n) (sym (rw f at e)))
      | inr f ↦
          let e : cond (is_prefix n xs) (Some (length n)) (needle_at ls xs) ≡ None = h in
          let later : needle_at ls xs ≡ None = rw f at e in
          below-suc (λ j. is_prefix (needle_of (n ∷ ls) j) xs ≡ false) (length ls) f (λ j k. no-needle ls xs later j k) i l
    ]

-- the other direction of `no-needle`
pub needle_at-nowhere : (ls : List (List ℕ)) (xs : List ℕ)
    → ((i : ℕ) → i < length ls → is_prefix (needle_of ls i) xs ≡ false) → needle_at ls xs ≡ None
needle_at-nowhere [] xs h = refl
needle_at-nowhere (n ∷ ls) xs h =
    let f : is_prefix n xs ≡ false = h 0 (omega arith) in
    rw f (needle_at-nowhere ls xs (λ i l. h (suc i) (omega (arith, l))))

-- ---- the first hit

-- an option is `None` or has a value
some-or-none : (o : Option ℕ) → (o ≡ None) ⊎ ((n : ℕ) × (o ≡ Some n))
some-or-none None = inl refl
some-or-none (Some n) = inr (n, refl)

-- the first place at which a needle stands, and the range of that needle, counted from base
record IsHitAt (ls : List (List ℕ)) (bytes : List ℕ) (base : ℕ) (r : Range ℕ) : Type 0 where
  place : ℕ
  len : ℕ
  is : r ≡ span (base + place) len
  here : needle_at ls (drop place bytes) ≡ Some len
  before : (k : ℕ) → k < place → needle_at ls (drop k bytes) ≡ None

-- if no needle stands here, the first hit is the later one
none-first_hit : (ls : List (List ℕ)) (y : ℕ) (bytes : List ℕ) (base : ℕ) (o : Option (Range ℕ))
    → needle_at ls (y ∷ bytes) ≡ None → first_hit ls base (y ∷ bytes) ≡ o
    → first_hit ls (base + 1) bytes ≡ o
none-first_hit ls y bytes base o e h =
    let g : hit_or base (needle_at ls (y ∷ bytes)) (first_hit ls (base + 1) bytes) ≡ o = h in
    rw e at g

-- what `first_hit` gives is a hit, and none stands before it
first_hit-hit : (ls : List (List ℕ)) (bytes : List ℕ) (base : ℕ) (r : Range ℕ)
    → first_hit ls base bytes ≡ Some r → IsHitAt ls bytes base r
first_hit-hit ls [] base r h = absurd (none-some r h)
first_hit-hit ls (y ∷ bytes) base r h =
    elim (some-or-none (needle_at ls (y ∷ bytes))) [
      | inl e ↦
          let later = first_hit-hit ls bytes (base + 1) r (none-first_hit ls y bytes base (Some r) e h) in
          record {
            place = suc later.place;
            len = later.len;
            is = later.is ∙ ap (λ k. span k later.len) (omega arith);
            here = later.here;
            before = below-suc (λ k. needle_at ls (drop k (y ∷ bytes)) ≡ None) later.place e later.before;
          }
      | inr e ↦
          let g : hit_or base (needle_at ls (y ∷ bytes)) (first_hit ls (base + 1) bytes) ≡ Some r = h in
          record {
            place = 0;
            len = e.0;
            is = sym (same_Some (span base e.0) r (rw e.1 at g)) ∙ ap (λ k. span k e.0) (omega arith);
            here = e.1;
            before = λ k l. absurd (omega (arith, l));
          }
    ]

-- if `first_hit` is `None`, no needle stands at any place
pub first_hit-nowhere : (ls : List (List ℕ)) (bytes : List ℕ) (base : ℕ)
    → first_hit ls base bytes ≡ None → (k : ℕ) → k < length bytes
    → needle_at ls (drop k bytes) ≡ None
first_hit-nowhere ls [] base h k l = absurd (omega (arith, l))
first_hit-nowhere ls (y ∷ bytes) base h k l =
    elim (some-or-none (needle_at ls (y ∷ bytes))) [
      | inl e ↦
          let later = first_hit-nowhere ls bytes (base + 1) (none-first_hit ls y bytes base None e h) in
          below-suc (λ j. needle_at ls (drop j (y ∷ bytes)) ≡ None) (length bytes) e later k l
      | inr e ↦
          let g : hit_or base (needle_at ls (y ∷ bytes)) (first_hit ls (base + 1) bytes) ≡ None = h in
          absurd (none-some (span base e.0) (sym (rw e.1 at g)))
    ]

module _ (ls : List (List ℕ)) (bytes : List ℕ) (some : list_any is_empty ls ≡ false) where
  -- without an empty needle, `hit` is `first_hit` from place 0
  hit-first_hit : (o : Option (Range ℕ)) → hit ls bytes ≡ o → first_hit ls 0 bytes ≡ o
  hit-first_hit o h = let g : cond (list_any is_empty ls) (Some (span 0 0)) (first_hit ls 0 bytes) ≡ o = h in rw some at g

  -- a needle at place q, with none before, is the first hit
  IsFirstHit-at : (q n : ℕ) → needle_at ls (drop q bytes) ≡ Some n
      → ((k : ℕ) → k < q → needle_at ls (drop k bytes) ≡ None) → IsFirstHit ls bytes (span q n)
  IsFirstHit-at q n e before =
      let f = first-listed ls (drop q bytes) n e in
      record {
        index = f.0;
        listed = f.1.listed;
        stands = IsPrefixOf-is_prefix (needle_of ls f.0) (drop q bytes) f.1.front;
        whole = ap (λ m. q + m) f.2;
        first_listed = λ i l s. false≢true (sym (f.1.before i l) ∙ is_prefix-IsPrefixOf (needle_of ls i) (drop q bytes) s);
        first_place = λ i k l low s. false≢true (sym (no-needle ls (drop k bytes) (before k low) i l) ∙ is_prefix-IsPrefixOf (needle_of ls i) (drop k bytes) s);
      }

  -- a hit is the first hit, as a fact
  pub hit-IsFirstHit : (r : Range ℕ) → hit ls bytes ≡ Some r → IsFirstHit ls bytes r
  hit-IsFirstHit r h =
      let t = first_hit-hit ls bytes 0 r (hit-first_hit (Some r) h) in
      let e : r ≡ span t.place t.len = t.is ∙ ap (λ k. span k t.len) (omega arith) in
      subst (IsFirstHit ls bytes) (sym e) (IsFirstHit-at t.place t.len t.here t.before)

  -- if no listed needle stands at k, `SomeOccurs` fails there
  none-here : (k : ℕ) → ((i : ℕ) → i < length ls → ¬ Occurs (needle_of ls i) bytes k)
      → ¬ SomeOccurs ls bytes k
  none-here k none s =
      let e = needle_at-nowhere ls (drop k bytes) (λ i l. no_front (needle_of ls i) (drop k bytes) (none i l)) in
      false≢true (sym (ap is_some e) ∙ s)

  -- the first hit, as a fact, is what the search finds
  IsFirstHit-hit : (r : Range ℕ) → IsFirstHit ls bytes r → hit ls bytes ≡ Some r
  IsFirstHit-hit r h =
      let n : ℕ = length (needle_of ls h.index) in
      let first : IsFirstListed ls (drop r.start bytes) h.index =
      record {
        listed = h.listed;
        front = is_prefix-IsPrefixOf (needle_of ls h.index) (drop r.start bytes) h.stands;
        before = λ j l. no_front (needle_of ls j) (drop r.start bytes) (h.first_listed j l);
      }
      in
      let before : Nowhere (SomeOccurs ls bytes) 0 r.start = λ k low high. none-here k (λ i l. h.first_place i k l high) in
      let e : r ≡ span r.start n = ap (λ m. let q : Range ℕ = record { start = r.start; end = m } in q) h.whole in
      sym (hit-some ls bytes r.start n some before (needle_at-first ls (drop r.start bytes) h.index first)) ∙ ap Some (sym e)

  -- `None` and the fact that no needle stands anywhere, in both directions
  hit-OccursNowhere : hit ls bytes ≡ None → OccursNowhere ls bytes
  hit-OccursNowhere h i k l s =
      let none : needle_at ls (drop k bytes) ≡ None =
      none-parts (needle_at ls (drop k bytes)) (λ t.
      false≢true (sym (ap is_some (first_hit-nowhere ls bytes 0 (hit-first_hit None h) k (SomeOccurs-within ls bytes k some t))) ∙ t))
      in
      false≢true (sym (no-needle ls (drop k bytes) none i l) ∙ is_prefix-IsPrefixOf (needle_of ls i) (drop k bytes) s)

  OccursNowhere-hit : OccursNowhere ls bytes → hit ls bytes ≡ None
  OccursNowhere-hit h = sym (hit-none ls bytes some (λ k low high. none-here k (λ i l. h i k l)))

module _ (ls : List (List ℕ)) (bytes : List ℕ) (some : ¬ Contains ls []) where
  -- the two meanings of an answer, as equivalences
  pub some-says : (r : Range ℕ) → hit ls bytes ≡ Some r ↔ IsFirstHit ls bytes r
  some-says r = let none = none-empty ls some in (hit-IsFirstHit ls bytes none r, IsFirstHit-hit ls bytes none r)

  pub none-says : hit ls bytes ≡ None ↔ OccursNowhere ls bytes
  none-says = let none = none-empty ls some in (hit-OccursNowhere ls bytes none, OccursNowhere-hit ls bytes none)

-- ---- one byte

-- the step of `first_hit-byte`
byte-later : (base : ℕ) (b : Bool) (later : Option ℕ)
    → hit_or base (if b && true then Some 1 else None) (option_map (λ n. span n 1) later)
    ≡ option_map (λ n. span n 1) (cond b (Some base) later)
byte-later base true later = refl
byte-later base false later = refl

-- a search for one byte is the search for the first token equal to it
first_hit-byte : (byte base : ℕ) (bytes : List ℕ)
    → first_hit ((byte ∷ []) ∷ []) base bytes
    ≡ option_map (λ n. span n 1) (first_held (λ x. byte == x) (offsets_from base (units bytes)))
first_hit-byte byte base [] = refl
first_hit-byte byte base (y ∷ bytes) =
    ap (hit_or base (needle_at ((byte ∷ []) ∷ []) (y ∷ bytes))) (first_hit-byte byte (base + 1) bytes)
    ∙ byte-later base (byte == y) (first_held (λ x. byte == x) (offsets_from (base + 1) (units bytes)))

-- the same from place 0
pub hit-byte : (byte : ℕ) (bytes : List ℕ)
    → hit ((byte ∷ []) ∷ []) bytes
    ≡ option_map (λ n. span n 1) (first_offset (λ x. byte == x) (units bytes))
hit-byte byte bytes = first_hit-byte byte 0 bytes

-- ---- one needle

-- the bytes are those before the needle, the needle, and those after it
abbrev SplitsAt : List ℕ → List ℕ → Range ℕ → Type 0
SplitsAt needle bytes r = (r.end ≡ r.start + length needle) × (r.end ≤ length bytes) × (bytes ≡ take r.start bytes ++ needle ++ drop r.end bytes)

-- a needle that stands at n splits the bytes there
splits : (needle bytes rest : List ℕ) (n : ℕ) → 0 < length needle → drop n bytes ≡ needle ++ rest
    → SplitsAt needle bytes (span n (length needle))
splits needle bytes rest n some h =
    let behind : drop (n + length needle) bytes ≡ rest = sym (drop-drop (length needle) n bytes) ∙ ap (drop (length needle)) h ∙ drop-append_seam needle rest in (
      refl,
      omega (arith, some, ap length h, length-append needle rest, length-drop n bytes),
      sym (take-append-drop n bytes)
          ∙ ap (λ d. take n bytes ++ d) (h ∙ ap (λ t. needle ++ t) (sym behind))
          ∙ sym (append_assoc (take n bytes) needle (drop (n + length needle) bytes)),
    )

-- the hit of a single needle splits the bytes
pub hit-splits : (needle bytes : List ℕ) (r : Range ℕ) → hit (needle ∷ []) bytes ≡ Some r
    → SplitsAt needle bytes r
hit-splits [] bytes r h = subst (SplitsAt [] bytes) (same_Some (span 0 0) r h) (refl, omega arith, refl)
hit-splits (x ∷ xs) bytes r h =
    let needle : List ℕ = x ∷ xs in
    let first = hit-IsFirstHit (needle ∷ []) bytes refl r h in
    let index : first.index ≡ 0 = omega (arith, first.listed) in
    let is : needle_of (needle ∷ []) first.index ≡ needle = ap (needle_of (needle ∷ [])) index in
    let e : r ≡ span r.start (length needle) =
    ap (λ m. let q : Range ℕ = record { start = r.start; end = m } in q) (first.whole ∙ ap (λ l. r.start + length l) is)
    in
    subst (SplitsAt needle bytes) (sym e) (splits needle bytes first.stands.0 r.start (omega arith) (first.stands.1 ∙ ap (λ l. l ++ first.stands.0) is))
