-- What readers and writers of nested values do, from what those of their heads and of the values
-- inside do.
use Rattle.std.proofs.Common.{◌≡◌, ℕ, zero, ◌<◌, Bool, false, List, [], ◌∷◌, ◌++◌, length, take, ap, sym, ◌∙◌, subst, refl, arith, append_assoc, Ok, Err}
use Rattle.std.proofs.Math.Seq.{take-append_seam}
use Rattle.std.proofs.lemmas.List.{append_cancel_left}
use Rattle.winnow_parser.specs.Outcome.{Ahead, Failed, Backtracks, Cuts, Needs, Refuses, Gives, Fails}
use Rattle.winnow_codec.specs.Formats.{bytes_of, Spelling, Takes, SpellsNone, Reads, IsPrefixFree}
use Rattle.winnow_codec.specs.FormatRows.{SpellsBoth}
use Rattle.winnow_codec.specs.Lists.{SpellsEach, SpellsTimes}
use Rattle.winnow_codec.specs.Writing.{Writes}
use Rattle.winnow_codec.specs.declared.unwritten.Unwritten.{Unwritten}
use Rattle.winnow_codec.specs.declared.unwritten.Unwritten.TheVariants.{Unspelled, Refused}
use Rattle.winnow_codec.proofs.lemmas.Lists.{takes-none}
use Rattle.winnow_codec.proofs.lemmas.Reading.{takes-front, moves-both, both-given, both-unbegun, both-unfinished, parts-unread}
use Rattle.winnow_codec_nested.specs.Layered.{layer_of, SpellsLayer, SpellsNested, CountsAlike, chooses}

-- ---- The values inside

module _ {V : Type 0} (inner : Spelling V) (same : V → V → Type 0) (laws : IsPrefixFree same inner) where
  -- the bytes of the first values are the front of those of more values, and those of the next
  -- value follow
  next-left : (vs ws : List V) (x y ahead rest : List ℕ) → length vs < length ws
      → SpellsEach inner vs x → SpellsEach inner ws y → x ++ ahead ≡ y ++ rest
      → (w : V) × ((front : List ℕ) × ((left : List ℕ) × (inner w front × (ahead ≡ front ++ left))))
  next-left vs [] x y ahead rest l h k e = absurd (omega (arith, l))
  next-left [] (w ∷ ws) x y ahead rest l h (front, back, (i, j, d)) e =
      (w, (front, (back ++ rest, (i, ap (λ m. m ++ ahead) (sym h) ∙ e ∙ ap (λ m. m ++ rest) d ∙ append_assoc front back rest))))
  next-left (v ∷ vs) (w ∷ ws) x y ahead rest l (p, q, (h, k, e)) (front, back, (i, j, d)) t =
      let whole : p ++ (q ++ ahead) ≡ front ++ (back ++ rest) =
      sym (append_assoc p q ahead) ∙ ap (λ m. m ++ ahead) (sym e) ∙ t ∙ ap (λ m. m ++ rest) d ∙ append_assoc front back rest in
      let one = laws v w p front (q ++ ahead) (back ++ rest) h i whole in
      let left = append_cancel_left p (q ++ ahead) (back ++ rest) (whole ∙ ap (λ m. m ++ (back ++ rest)) (sym one.1)) in
      next-left vs ws q back ahead rest (omega (arith, l)) k j left

  module _ (a b : Ahead ℕ) (n : ℕ) (vs : List V) (x : List ℕ) (fewer : length vs < n) (spelled : SpellsEach inner vs x) (taken : Takes x a b) where
    -- where no value follows fewer values, none are spelled
    none-next : (partial : Bool) → SpellsNone inner partial (bytes_of b.tokens)
        → SpellsNone (SpellsTimes inner n) partial (bytes_of a.tokens)
    none-next partial none ws bytes more rest follows (e, each) whole =
        let start : x ++ (bytes_of b.tokens ++ more) ≡ bytes ++ rest =
        sym (append_assoc x (bytes_of b.tokens) more) ∙ ap (λ l. l ++ more) (sym (takes-front taken)) ∙ whole in
        let found = next-left vs ws x bytes (bytes_of b.tokens ++ more) rest (omega (arith, fewer, e)) spelled each start in
        none found.0 found.1.0 more found.1.1.0 follows found.1.1.1.0 found.1.1.1.1

    -- a value that is not read after fewer values
    pub next-unread : (partial : Bool) (f : Failed ℕ) → Reads inner partial b (Fails f)
        → Reads (SpellsTimes inner n) partial a (Fails f)
    next-unread partial (Backtracks c) h = (moves-both taken.moves h.0, none-next partial h.1)
    next-unread partial (Cuts c) h = absurd h
    next-unread partial (Needs m) h = (h.0, none-next false h.1)
    next-unread partial Refuses h = tt

-- ---- A layer

module _ {H V : Type 0} (heads : Spelling H) (head_of : V → H) (held : V → List V) (count : H → ℕ) (inner : Spelling V) (partial : Bool) (a b : Ahead ℕ) where
  -- a head and the values are read
  pub layer-given : (c : Ahead ℕ) (h : H) (vs : List V) (v : V) → head_of v ≡ h → held v ≡ vs
      → Reads heads partial a (Gives h b) → Reads (SpellsTimes inner (count h)) partial b (Gives vs c)
      → Reads (SpellsLayer heads head_of held count inner) partial a (Gives v c)
  layer-given c h vs v e d i j =
      let both = both-given heads (λ k. SpellsTimes inner (count k)) partial a b c h vs i j in (
        both.0,
        (
          subst (λ k. SpellsBoth heads (λ l. SpellsTimes inner (count l)) (k, held v) both.0) (sym e)
              (subst (λ k. SpellsBoth heads (λ l. SpellsTimes inner (count l)) (h, k) both.0) (sym d) both.1.0),
          both.1.1,
        ),
      )

  -- a head is not read
  pub layer-unbegun : (f : Failed ℕ) → Reads heads partial a (Fails f)
      → Reads (SpellsLayer heads head_of held count inner) partial a (Fails f)
  layer-unbegun f h =
      parts-unread (layer_of head_of held) (SpellsBoth heads (λ k. SpellsTimes inner (count k))) partial a f
      (both-unbegun heads (λ k. SpellsTimes inner (count k)) partial a f h)

  -- a head is read, and not the values
  pub layer-unfinished : (alike : H → H → Type 0) → CountsAlike alike count
      → IsPrefixFree alike heads
      → (h : H) (f : Failed ℕ) → Reads heads partial a (Gives h b)
      → Reads (SpellsTimes inner (count h)) partial b (Fails f)
      → Reads (SpellsLayer heads head_of held count inner) partial a (Fails f)
  layer-unfinished alike counts laws h f i j =
      parts-unread (layer_of head_of held) (SpellsBoth heads (λ k. SpellsTimes inner (count k))) partial a f
      (both-unfinished heads (λ k. SpellsTimes inner (count k)) partial a alike laws
      (chooses alike heads head_of held count counts inner) b h f i j)

-- ---- No layer

-- in no layer, no value is spelled
pub none-inside : {H V : Type 0} (heads : Spelling H) (head_of : V → H) (held : V → List V)
    (count : H → ℕ) (partial : Bool) (a : Ahead ℕ)
    → Reads (SpellsNested heads head_of held count zero) partial a (Fails (Backtracks a))
none-inside heads head_of held count partial a = ((takes-none a).moves, λ v bytes more rest follows s e. s)

-- ---- Writing

module _ {H V : Type 0} (heads : Spelling H) (head_of : V → H) (held : V → List V) (count : H → ℕ) (inner : Spelling V) (v : V) (old mid new : List ℕ) where
  -- a head is not written
  pub head-unwritten : (u : Unwritten) → Writes heads (head_of v) old (Err u) new
      → Writes (SpellsLayer heads head_of held count inner) v old (Err u) new
  head-unwritten Unspelled h = (λ bytes (x, y, (s, t, e)). h.0 x s, h.1)
  head-unwritten (Refused r) h = h

  -- a head and the values are written
  pub layer-written : length (held v) ≡ count (head_of v) → Writes heads (head_of v) old (Ok tt) mid
      → Writes (SpellsEach inner) (held v) mid (Ok tt) new
      → Writes (SpellsLayer heads head_of held count inner) v old (Ok tt) new
  layer-written l (x, (s, d)) (y, (t, k)) =
      (x ++ y, ((x, y, (s, (l, t), refl)), k ∙ ap (λ m. m ++ y) d ∙ append_assoc old x y))

  -- a head is written, and not the values
  pub layer-unwritten : (u : Unwritten) → Writes heads (head_of v) old (Ok tt) mid
      → Writes (SpellsEach inner) (held v) mid (Err u) new
      → Writes (SpellsLayer heads head_of held count inner) v old (Err u) (take (length old) new)
  layer-unwritten Unspelled (x, (s, d)) h =
      (λ bytes (p, q, (i, (l, j), e)). h.0 q j, ap (take (length old)) (h.1 ∙ d) ∙ take-append_seam old x)
  layer-unwritten (Refused r) (x, (s, d)) h = ap (take (length old)) (h ∙ d) ∙ take-append_seam old x
