-- Values of at least a byte, and values that fill a part.
use Rattle.std.proofs.Common.{◌≡◌, ◌≢◌, ℕ, ◌+◌, ◌<◌, ◌≤◌, Bool, List, [], ◌∷◌, ◌++◌, ap, sym, ◌∙◌, subst, refl, arith, append_assoc}
use Rattle.std.proofs.lemmas.List.{append-nil}
use Rattle.winnow_stream.specs.Source.{Source, width, units, HasPositiveWidths}
use Rattle.winnow_stream.proofs.lemmas.FrontLemmas.{width-append}
use Rattle.winnow_parser.specs.Outcome.{Ahead, Backtracks, Gives, Fails}
use Rattle.winnow_codec.specs.Formats.{bytes_of, Spelling, Takes, IsFormat, IsPrefixFree, Reads}
use Rattle.std.specs.Prelude.{Vec, Err}
use Rattle.std.specs.declared.alloc.Global.{Global}
use Rattle.std.proofs.lemmas.List.{append_cancel_left}
use Rattle.winnow_codec.specs.Lists.{SpellsEach}
use Rattle.winnow_codec.specs.WholeFormats.{SpellsSome, SpellsToEnd, ReadsFirst, ReadsWhole, some-more}
use Rattle.winnow_codec.specs.declared.unread.Unread.{Unread}
use Rattle.winnow_codec.specs.declared.unread.Unread.TheVariants.{Malformed, Refused}
use Rattle.winnow_codec.proofs.lemmas.Reading.{takes-front}

-- no bytes are those of no tokens
bytes-none : (t : Source ℕ) → bytes_of t ≡ [] → t ≡ []
bytes-none [] e = refl
bytes-none (x ∷ xs) e = absurd (cc)

-- tokens of no width are none
width-none : (t r : Source ℕ) → HasPositiveWidths (t ++ r) → width t ≡ 0 → t ≡ []
width-none [] r h e = refl
width-none (x ∷ xs) r h e = absurd (omega (arith, h.0, e))

-- where fewer tokens are left, some bytes were taken
pub some-taken : (x : List ℕ) (a b : Ahead ℕ) → Takes x a b → width b.tokens < width a.tokens
    → x ≢ []
some-taken x a b t less e =
    let none = bytes-none t.moves.taken (t.taken ∙ e) in
    let same : a.tokens ≡ b.tokens = t.moves.whole ∙ ap (λ l. l ++ b.tokens) none in
    omega (arith, less, ap width same)

-- where no fewer are, none were
pub none-taken : (x : List ℕ) (a b : Ahead ℕ) → HasPositiveWidths a.tokens → Takes x a b
    → width a.tokens ≤ width b.tokens
    → x ≡ []
none-taken x a b positive t more =
    let sum : width a.tokens ≡ width t.moves.taken + width b.tokens = ap width t.moves.whole ∙ width-append t.moves.taken b.tokens in
    let zero : width t.moves.taken ≡ 0 = omega (arith, more, sum) in
    sym t.taken ∙ ap bytes_of (width-none t.moves.taken b.tokens (subst HasPositiveWidths t.moves.whole positive) zero)

module _ {V : Type 0} (same : V → V → Type 0) (inner : Spelling V) (laws : IsPrefixFree same inner) (partial : Bool) (a b : Ahead ℕ) (v : V) where
  -- a value of some bytes is read
  pub some-given : Reads inner partial a (Gives v b) → width b.tokens < width a.tokens
      → Reads (SpellsSome inner) partial a (Gives v b)
  some-given (x, (s, t)) less = (x, ((s, some-taken x a b t less), t))

  -- a value of no bytes is read
  pub none-given : HasPositiveWidths a.tokens → Reads inner partial a (Gives v b)
      → width a.tokens ≤ width b.tokens
      → Reads (SpellsSome inner) partial a (Fails (Backtracks b))
  none-given positive (x, (s, t)) more = (
    t.moves,
    λ w bytes after rest follows k whole.
        k.1 (sym (laws v w x bytes (bytes_of b.tokens ++ after) rest s k.0
        (sym (append_assoc x (bytes_of b.tokens) after) ∙ ap (λ l. l ++ after) (sym (takes-front t)) ∙ whole)).1
        ∙ none-taken x a b positive t more),
  )

-- the bytes of bytes as tokens are they
pub bytes-units : (xs : List ℕ) → bytes_of (units xs) ≡ xs
bytes-units [] = refl
bytes-units (x ∷ xs) = ap (λ l. x ∷ l) (bytes-units xs)

-- where no value is spelled first, none is spelled by the whole
pub first-unread : {V : Type 0} (spells : Spelling V) (part left : List ℕ) (unread : Unread)
    → ReadsFirst spells part (Err unread) left → ReadsWhole spells part (Err unread)
first-unread spells part left Malformed h = λ v s. h v part [] s (sym (append-nil part))
first-unread spells part left (Refused r) h = tt

-- what is left after the whole is nothing
pub none-left : (front part left : List ℕ) → part ≡ front ++ left → front ≡ part → left ≡ []
none-left front part left e f = append_cancel_left front left [] (sym e ∙ sym f ∙ sym (append-nil front))

module _ {V : Type 0} (same : V → V → Type 0) (inner : Spelling V) (laws : IsFormat same inner) where
  -- a list that spells a whole goes on where another list ends before its end
  end-left : (vs ws : List V) (x rest part : List ℕ) → SpellsEach (SpellsSome inner) vs x
      → SpellsEach (SpellsSome inner) ws part
      → part ≡ x ++ rest → rest ≢ [] → (w : V) × ((front : List ℕ) × ((left : List ℕ) × (SpellsSome inner w front × (rest ≡ front ++ left))))
  end-left [] [] x rest part h k e some = absurd (some (sym (ap (λ l. l ++ rest) h) ∙ sym e ∙ k))
  end-left [] (w ∷ ws) x rest part h (front, back, (i, j, d)) e some =
      (w, (front, (back, (i, sym (ap (λ l. l ++ rest) h) ∙ sym e ∙ d))))
  end-left (v ∷ vs) [] x rest part (p, q, (h, l, d)) k e some =
      absurd (some-more same inner laws p (q ++ rest) part h.1 (e ∙ ap (λ m. m ++ rest) d ∙ append_assoc p q rest) k)
  end-left (v ∷ vs) (w ∷ ws) x rest part (p, q, (h, l, d)) (front, back, (i, j, c)) e some =
      let whole : p ++ (q ++ rest) ≡ front ++ back = sym (append_assoc p q rest) ∙ ap (λ m. m ++ rest) (sym d) ∙ sym e ∙ c in
      let one = laws.prefix_free v w p front (q ++ rest) back h.0 i.0 whole in
      let left : q ++ rest ≡ back = append_cancel_left p (q ++ rest) back (whole ∙ ap (λ m. m ++ back) (sym one.1)) in
      end-left vs ws q rest back l j (sym left) some

  -- a value is not read, so the list is not
  pub end-unread : (v : Vec V Global) (x rest part after : List ℕ) (unread : Unread) → SpellsEach
      (SpellsSome inner) v.items x
      → part ≡ x ++ rest → rest ≢ [] → ReadsFirst (SpellsSome inner) rest (Err unread) after
      → ReadsWhole (SpellsToEnd inner) part (Err unread)
  end-unread v x rest part after Malformed h e some none = λ w s.
      let next = end-left v.items w.items x rest part h s e some in
      none next.0 next.1.0 next.1.1.0 next.1.1.1.0 next.1.1.1.1
  end-unread v x rest part after (Refused r) h e some none = tt
