-- What readers of formats answer, from what the readers of their parts answer.
use Rattle.std.proofs.Common.{◌≡◌, ℕ, ◌+◌, Bool, false, Option, Some, None, List, [], ◌∷◌, ◌++◌, drop, take, ap, sym, ◌∙◌, refl, arith, append_assoc}
use Rattle.std.proofs.lemmas.List.{map-append, append_cancel_left}
use Rattle.winnow_stream.specs.Source.{Source, width, first_token}
use Rattle.winnow_stream.specs.Location.{location_behind}
use Rattle.winnow_stream.proofs.lemmas.FrontLemmas.{width-append}
use Rattle.winnow_parser.specs.Outcome.{Ahead, Failed, Backtracks, Cuts, Needs, Refuses, Gives, Fails, Moves}
use Rattle.winnow_codec.specs.Formats.{bytes_of, Spelling, Takes, SpellsNone, Reads, IsPrefixFree}
use Rattle.winnow_codec.specs.FormatRows.{SpellsBoth, ChoosesBySame}
use Rattle.winnow_codec.specs.FormatParts.{SpellsParts}

-- ---- Bytes that are taken

-- a location after two widths is after their sum
pub location-sum : (a : Option ℕ) (m n : ℕ)
    → location_behind (location_behind a m) n ≡ location_behind a (m + n)
location-sum None m n = refl
location-sum (Some l) m n = ap Some (omega arith)

-- a stream that moved on twice moved on
abbrev pub moves-both : {a b c : Ahead ℕ} → Moves a b → Moves b c → Moves a c
moves-both {a} {b} {c} m n = record {
  taken = m.taken ++ n.taken;
  whole = m.whole ∙ ap (λ r. m.taken ++ r) n.whole ∙ sym (append_assoc m.taken n.taken c.tokens);
  place = n.place ∙ ap (λ l. location_behind l (width n.taken)) m.place ∙ location-sum a.location (width m.taken) (width n.taken)
      ∙ ap (location_behind a.location) (sym (width-append m.taken n.taken));
}

-- bytes that are taken one after the other
pub takes-both : {x y : List ℕ} {a b c : Ahead ℕ} → Takes x a b → Takes y b c → Takes (x ++ y) a c
takes-both {x} {y} s t = record {
  moves = moves-both s.moves t.moves;
  taken = map-append (λ n. n.0) s.moves.taken t.moves.taken ∙ ap (λ l. l ++ bytes_of t.moves.taken) s.taken ∙ ap (λ l. x ++ l) t.taken;
}

-- the bytes that are taken stand first
pub takes-front : {x : List ℕ} {a b : Ahead ℕ} → Takes x a b
    → bytes_of a.tokens ≡ x ++ bytes_of b.tokens
takes-front {x} {a} {b} t = ap bytes_of t.moves.whole ∙ map-append (λ n. n.0) t.moves.taken b.tokens ∙ ap (λ l. l ++ bytes_of b.tokens) t.taken

-- ---- One after the other

module _ {V W : Type 0} (first : Spelling V) (second : V → Spelling W) (partial : Bool) (a : Ahead ℕ) where
  -- where no first value is spelled, no two are
  none-first : (partial : Bool) (ahead : List ℕ) → SpellsNone first partial ahead
      → SpellsNone (SpellsBoth first second) partial ahead
  none-first partial ahead h p bytes more rest follows (x, y, (s, t, e)) whole =
      h p.0 x more (y ++ rest) follows s (whole ∙ ap (λ l. l ++ rest) e ∙ append_assoc x y rest)

  -- both values are read
  pub both-given : (b c : Ahead ℕ) (v : V) (w : W) → Reads first partial a (Gives v b)
      → Reads (second v) partial b (Gives w c) → Reads (SpellsBoth first second) partial a (Gives (v, w) c)
  both-given b c v w h k = (h.0 ++ k.0, ((h.0, k.0, (h.1.0, k.1.0, refl)), takes-both h.1.1 k.1.1))

  -- the first value is not read
  pub both-unbegun : (f : Failed ℕ) → Reads first partial a (Fails f)
      → Reads (SpellsBoth first second) partial a (Fails f)
  both-unbegun (Backtracks b) h = (h.0, none-first partial _ h.1)
  both-unbegun (Cuts b) h = absurd h
  both-unbegun (Needs n) h = (h.0, none-first false _ h.1)
  both-unbegun Refuses h = tt

  module _ (same : V → V → Type 0) (laws : IsPrefixFree same first) (chooses : ChoosesBySame same second) where
    -- where no second value is spelled after a first, no two are
    none-second : (partial : Bool) (b : Ahead ℕ) (v : V) (x : List ℕ) → first v x → Takes x a b
        → SpellsNone (second v) partial (bytes_of b.tokens)
        → SpellsNone (SpellsBoth first second) partial (bytes_of a.tokens)
    none-second partial b v x s t h p bytes more rest follows (y, z, (i, j, e)) whole =
        let one : x ++ (bytes_of b.tokens ++ more) ≡ y ++ (z ++ rest) =
        sym (append_assoc x (bytes_of b.tokens) more) ∙ ap (λ l. l ++ more) (sym (takes-front t)) ∙ whole ∙ ap (λ l. l ++ rest) e ∙ append_assoc y z rest in
        let free = laws v p.0 x y (bytes_of b.tokens ++ more) (z ++ rest) s i one in
        let left = append_cancel_left x (bytes_of b.tokens ++ more) (z ++ rest) (one ∙ ap (λ l. l ++ (z ++ rest)) (sym free.1)) in
        h p.1 z more rest follows (chooses v p.0 p.1 z free.0 j) left

    -- the second value is not read
    pub both-unfinished : (b : Ahead ℕ) (v : V) (f : Failed ℕ) → Reads first partial a (Gives v b)
        → Reads (second v) partial b (Fails f) → Reads (SpellsBoth first second) partial a (Fails f)
    both-unfinished b v (Backtracks c) h k = (moves-both h.1.1.moves k.0, none-second partial b v h.0 h.1.0 h.1.1 k.1)
    both-unfinished b v (Cuts c) h k = absurd k
    both-unfinished b v (Needs n) h k = (k.0, none-second false b v h.0 h.1.0 h.1.1 k.1)
    both-unfinished b v Refuses h k = tt

-- ---- A byte

-- the first token is taken
taken-first : (r s : Source ℕ) (x : ℕ) → Some x ≡ first_token r → s ≡ drop 1 r
    → (r ≡ take 1 r ++ s) × (bytes_of (take 1 r) ≡ x ∷ [])
taken-first [] s x e f = absurd (cc)
taken-first (y ∷ ys) s x e f = let one : x ≡ y.0 = cc in (ap (λ l. y ∷ l) (sym f), ap (λ n. n ∷ []) (sym one))

-- the first token is taken
pub takes-one : (a b : Ahead ℕ) (x : ℕ) → Some x ≡ first_token a.tokens → b.tokens ≡ drop 1 a.tokens
    → b.location ≡ location_behind a.location (width (take 1 a.tokens)) → Takes (x ∷ []) a b
takes-one a b x e f g = let both = taken-first a.tokens b.tokens x e f in
    record { moves = record { taken = take 1 a.tokens; whole = both.0; place = g }; taken = both.1 }

-- ---- Parts

-- where the parts are not read, what has them is not
pub parts-unread : {S V : Type 0} (parts : S → V) (spells : Spelling V) (partial : Bool)
    (a : Ahead ℕ) (f : Failed ℕ)
    → Reads spells partial a (Fails f) → Reads (SpellsParts parts spells) partial a (Fails f)
parts-unread parts spells partial a (Backtracks b) h = (h.0, λ s. h.1 (parts s))
parts-unread parts spells partial a (Cuts b) h = h
parts-unread parts spells partial a (Needs n) h = (h.0, λ s. h.1 (parts s))
parts-unread parts spells partial a Refuses h = h

-- where a value is not read, none that spells it is
pub fewer-unread : {V W : Type 0} (spells : Spelling V) (fewer : Spelling W) (part : W → V)
    → ((w : W) (bytes : List ℕ) → fewer w bytes → spells (part w) bytes) → (partial : Bool) (a : Ahead ℕ) (f : Failed ℕ)
    → Reads spells partial a (Fails f) → Reads fewer partial a (Fails f)
fewer-unread spells fewer part is partial a (Backtracks b) h =
    (h.0, λ w bytes more rest follows s. h.1 (part w) bytes more rest follows (is w bytes s))
fewer-unread spells fewer part is partial a (Cuts b) h = h
fewer-unread spells fewer part is partial a (Needs n) h =
    (h.0, λ w bytes more rest follows s. h.1 (part w) bytes more rest follows (is w bytes s))
fewer-unread spells fewer part is partial a Refuses h = h

-- where no value is read, none is that has such a value
pub none-has : {V W : Type 0} (spells : Spelling V) (fewer : Spelling W)
    → ((w : W) (bytes : List ℕ) → fewer w bytes → (v : V) × spells v bytes)
    → (partial : Bool) (a : Ahead ℕ) (f : Failed ℕ)
    → Reads spells partial a (Fails f) → Reads fewer partial a (Fails f)
none-has spells fewer has partial a (Backtracks b) h =
    (h.0, λ w bytes more rest follows s. let v = has w bytes s in h.1 v.0 bytes more rest follows v.1)
none-has spells fewer has partial a (Cuts b) h = h
none-has spells fewer has partial a (Needs n) h =
    (h.0, λ w bytes more rest follows s. let v = has w bytes s in h.1 v.0 bytes more rest follows v.1)
none-has spells fewer has partial a Refuses h = h

-- ---- Tests

module _ {V W : Type 0} (same : V → V → Type 0) (inner : Spelling V) (laws : IsPrefixFree same inner) (spells : Spelling W) (part : W → V) (spelled : (w : W) (bytes : List ℕ) → spells w bytes → inner (part w) bytes) where
  -- a value is read that is no part of any
  pub none-other : (partial : Bool) (a b : Ahead ℕ) (v : V) → Reads inner partial a (Gives v b)
      → ((w : W) (bytes : List ℕ) → spells w bytes → same v (part w) → ⊥) → Reads spells partial a (Fails (Backtracks b))
  none-other partial a b v (x, (s, t)) other = (
    t.moves,
    λ w bytes more rest follows k whole.
        other w bytes k (laws v (part w) x bytes (bytes_of b.tokens ++ more) rest s (spelled w bytes k)
        (sym (append_assoc x (bytes_of b.tokens) more) ∙ ap (λ l. l ++ more) (sym (takes-front t)) ∙ whole)).0,
  )
