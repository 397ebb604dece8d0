-- Parts of a number of bytes.
use Rattle.std.proofs.Common.{◌≡◌, ℕ, Bool, List, ◌++◌, length, ap, sym, ◌∙◌, subst, refl, append_assoc}
use Rattle.std.specs.Prelude.{Vec}
use Rattle.std.specs.declared.alloc.Global.{Global}
use Rattle.winnow_parser.specs.Outcome.{Ahead, Failed, Backtracks, Cuts, Needs, Refuses, Gives, Fails}
use Rattle.winnow_codec.specs.Formats.{bytes_of, Spelling, Reads, IsPrefixFree}
use Rattle.winnow_codec.specs.FormatRows.{SpellsBoth}
use Rattle.winnow_codec.specs.Bytes.{SpellsBytes, SpellsBytesAfter, TakesBytes, same-front}
use Rattle.winnow_codec.specs.WholeFormats.{SpellsFilling, SpellsWithin}
use Rattle.winnow_codec.proofs.lemmas.Reading.{takes-both, takes-front, moves-both, both-unfinished, parts-unread}
use Rattle.std.proofs.lemmas.List.{append_cancel_left}
use Rattle.winnow_codec.proofs.lemmas.Fixed.{short-needs, short-backtracks}

-- where that number of bytes is not read, nothing that they spell is
pub bytes-unread : {V : Type 0} (spells : Spelling V) (n : ℕ)
    → ((v : V) (bytes : List ℕ) → spells v bytes → length bytes ≡ n)
    → (partial : Bool) (a : Ahead ℕ) (f : Failed ℕ) → TakesBytes n partial a (Fails f) → Reads spells partial a (Fails f)
bytes-unread spells n counted partial a (Backtracks b) h =
    subst (λ c. Reads spells partial a (Fails (Backtracks c))) (sym h.2) (short-backtracks spells n counted partial a h.1 h.0)
bytes-unread spells n counted partial a (Cuts b) h = absurd h
bytes-unread spells n counted partial a (Needs missing) h = short-needs spells n counted partial a missing h.1 h.0
bytes-unread spells n counted partial a Refuses h = tt

module _ (count : Spelling ℕ) (partial : Bool) (a b : Ahead ℕ) (n : ℕ) where
  -- a count and its bytes are read
  pub bytes-given : (c : Ahead ℕ) (v : Vec ℕ Global) → Reads count partial a (Gives n b)
      → TakesBytes n partial b (Gives v c) → Reads (SpellsBytesAfter count) partial a (Gives v c)
  bytes-given c v (x, (h, s)) (l, t) =
      (x ++ v.items, ((x, v.items, (subst (λ m. count m x) (sym l) h, (refl, refl), refl)), takes-both s t))

  -- a count is read, and not its bytes
  pub bytes-unfinished : (same : ℕ → ℕ → Type 0) → ((k m : ℕ) → same k m → k ≡ m)
      → IsPrefixFree same count → (f : Failed ℕ)
      → Reads count partial a (Gives n b) → TakesBytes n partial b (Fails f)
      → Reads (SpellsBytesAfter count) partial a (Fails f)
  bytes-unfinished same exact laws f h k =
      parts-unread (λ v. (length v.items, v.items)) (SpellsBoth count SpellsBytes) partial a f
      (both-unfinished count SpellsBytes partial a same laws (λ m x v bytes e s. subst (λ i. SpellsBytes i v bytes) (sym (exact m x e)) s) b n f h
      (bytes-unread (SpellsBytes n) n (λ v bytes s. ap length s.1 ∙ s.0) partial b f k))

-- where no pair of a number and a value is read, no value is
hidden-unread : {V : Type 0} (spells : Spelling (ℕ × V)) (partial : Bool) (a : Ahead ℕ)
    (f : Failed ℕ) → Reads spells partial a (Fails f)
    → Reads (λ v bytes. (n : ℕ) × spells (n, v) bytes) partial a (Fails f)
hidden-unread spells partial a (Backtracks b) h = (h.0, λ v bytes more rest follows s. h.1 (s.0, v) bytes more rest follows s.1)
hidden-unread spells partial a (Cuts b) h = h
hidden-unread spells partial a (Needs n) h = (h.0, λ v bytes more rest follows s. h.1 (s.0, v) bytes more rest follows s.1)
hidden-unread spells partial a Refuses h = h

module _ {V : Type 0} (count : Spelling ℕ) (inner : Spelling V) (partial : Bool) (a b : Ahead ℕ) (n : ℕ) where
  -- a count and a part are read
  pub within-given : (c : Ahead ℕ) (part : Vec ℕ Global) (v : V) → Reads count partial a (Gives n b)
      → TakesBytes n partial b (Gives part c) → inner v part.items → Reads (SpellsWithin count inner) partial a (Gives v c)
  within-given c part v (x, (h, s)) (l, t) i =
      (x ++ part.items, ((n, (x, part.items, (h, (l, i), refl))), takes-both s t))

  module _ (same : ℕ → ℕ → Type 0) (exact : (k m : ℕ) → same k m → k ≡ m) (laws : IsPrefixFree same count) where
    -- a count is read, and not that number of bytes
    pub within-unfinished : (f : Failed ℕ) → Reads count partial a (Gives n b)
        → TakesBytes n partial b (Fails f)
        → Reads (SpellsWithin count inner) partial a (Fails f)
    within-unfinished f h k =
        hidden-unread (SpellsBoth count (SpellsFilling inner)) partial a f
        (both-unfinished count (SpellsFilling inner) partial a same laws (λ m x v bytes e s. subst (λ i. SpellsFilling inner i v bytes) (sym (exact m x e)) s) b n f h
        (bytes-unread (SpellsFilling inner n) n (λ v bytes s. s.0) partial b f k))

    -- the bytes of the part spell no value
    pub within-malformed : (c : Ahead ℕ) (part : Vec ℕ Global) → Reads count partial a (Gives n b)
        → TakesBytes n partial b (Gives part c)
        → ((v : V) → inner v part.items → ⊥) → Reads (SpellsWithin count inner) partial a (Fails (Backtracks c))
    within-malformed c part (x, (h, s)) (l, t) none = (
      moves-both s.moves t.moves,
      λ v bytes more rest follows (m, (y, z, (i, (k, j), e))) whole.
          let one : x ++ (bytes_of b.tokens ++ more) ≡ y ++ (z ++ rest) =
          sym (append_assoc x (bytes_of b.tokens) more) ∙ ap (λ u. u ++ more) (sym (takes-front s)) ∙ whole ∙ ap (λ u. u ++ rest) e ∙ append_assoc y z rest in
          let free = laws n m x y (bytes_of b.tokens ++ more) (z ++ rest) h i one in
          let left : bytes_of b.tokens ++ more ≡ z ++ rest = append_cancel_left x (bytes_of b.tokens ++ more) (z ++ rest) (one ∙ ap (λ u. u ++ (z ++ rest)) (sym free.1)) in
          let two : part.items ++ (bytes_of c.tokens ++ more) ≡ z ++ rest =
          sym (append_assoc part.items (bytes_of c.tokens) more) ∙ ap (λ u. u ++ more) (sym (takes-front t)) ∙ left in
          let body = same-front part.items z (bytes_of c.tokens ++ more) rest (l ∙ exact n m free.0 ∙ sym k) two in
          none v (subst (inner v) (sym body) j),
    )
