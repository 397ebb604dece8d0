-- Lists of values that are read and written one after the other.
use Rattle.std.proofs.Common.{◌≡◌, ℕ, suc, zero, ◌<◌, Bool, false, Option, Some, None, List, [], ◌∷◌, ◌++◌, length, take, get_or, ap, sym, ◌∙◌, subst, refl, arith, append_assoc}
use Rattle.std.specs.Prelude.{Err, Vec}
use Rattle.std.specs.declared.alloc.Global.{Global}
use Rattle.std.proofs.Math.Seq.{take-append_seam}
use Rattle.std.proofs.lemmas.List.{append-nil, append_cancel_left}
use Rattle.winnow_stream.specs.Location.{location_behind}
use Rattle.winnow_parser.specs.Outcome.{Ahead, Failed, Backtracks, Cuts, Needs, Refuses, Gives, Fails}
use Rattle.winnow_codec.specs.Formats.{bytes_of, Spelling, Takes, SpellsNone, Reads, IsPrefixFree}
use Rattle.winnow_codec.specs.Lists.{SpellsEach, SpellsItems, SpellsItemsAfter}
use Rattle.winnow_codec.specs.FormatRows.{SpellsBoth}
use Rattle.winnow_codec.specs.Writing.{Writes}
use Rattle.winnow_codec.specs.declared.unwritten.Unwritten.{Unwritten}
use Rattle.winnow_codec.specs.declared.unwritten.Unwritten.TheVariants.{Unspelled, Refused}
use Rattle.winnow_codec.proofs.lemmas.Reading.{takes-front, takes-both, moves-both, both-unfinished, parts-unread}

-- a location after no width
location-still : (a : Option ℕ) → a ≡ location_behind a 0
location-still None = refl
location-still (Some l) = ap Some (omega arith)

-- nothing is taken
pub takes-none : (a : Ahead ℕ) → Takes [] a a
takes-none a = record { moves = record { taken = []; whole = refl; place = location-still a.location }; taken = refl }

module _ {V : Type 0} (inner : Spelling V) where
  -- one value more is spelled
  pub each-more : (vs : List V) (v : V) (x y : List ℕ) → SpellsEach inner vs x → inner v y
      → SpellsEach inner (vs ++ v ∷ []) (x ++ y)
  each-more [] v x y h k = (y, [], (k, refl, ap (λ l. l ++ y) h ∙ sym (append-nil y)))
  each-more (w ∷ ws) v x y (front, back, (i, j, e)) k =
      (front, back ++ y, (i, each-more ws v back y j k, ap (λ l. l ++ y) e ∙ append_assoc front back y))

  -- each value of a list that is spelled is spelled
  each-at : (vs : List V) (y : List ℕ) → SpellsEach inner vs y → (i : ℕ) (d : V) → i < length vs
      → (front : List ℕ) × inner (get_or vs i d) front
  each-at [] y h i d l = absurd (omega (arith, l))
  each-at (v ∷ vs) y (front, back, (h, k, e)) zero d l = (front, h)
  each-at (v ∷ vs) y (front, back, (h, k, e)) (suc i) d l = each-at vs back k i d (omega (arith, l))

  -- the bytes of the first values are the front of those of more values, and those of the next
  -- value follow
  each-left : (same : V → V → Type 0) → IsPrefixFree same inner → (vs ws : List V)
      (x y ahead rest : List ℕ)
      → length vs < length ws → SpellsEach inner vs x → SpellsEach inner ws y → x ++ ahead ≡ y ++ rest
      → (w : V) × ((front : List ℕ) × ((left : List ℕ) × (inner w front × (ahead ≡ front ++ left))))
  each-left same laws vs [] x y ahead rest l h k e = absurd (omega (arith, l))
  each-left same laws [] (w ∷ ws) x y ahead rest l h (front, back, (i, j, d)) e =
      (w, (front, (back ++ rest, (i, ap (λ m. m ++ ahead) (sym h) ∙ e ∙ ap (λ m. m ++ rest) d ∙ append_assoc front back rest))))
  each-left same laws (v ∷ vs) (w ∷ ws) x y ahead rest l (p, q, (h, k, e)) (front, back, (i, j, d)) t =
      let whole : p ++ (q ++ ahead) ≡ front ++ (back ++ rest) =
      sym (append_assoc p q ahead) ∙ ap (λ m. m ++ ahead) (sym e) ∙ t ∙ ap (λ m. m ++ rest) d ∙ append_assoc front back rest in
      let one = laws v w p front (q ++ ahead) (back ++ rest) h i whole in
      let left = append_cancel_left p (q ++ ahead) (back ++ rest) (whole ∙ ap (λ m. m ++ (back ++ rest)) (sym one.1)) in
      each-left same laws vs ws q back ahead rest (omega (arith, l)) k j left

  module _ (same : V → V → Type 0) (laws : IsPrefixFree same inner) (a b : Ahead ℕ) (n : ℕ) (vs : List V) (x : List ℕ) (fewer : length vs < n) (spelled : SpellsEach inner vs x) (taken : Takes x a b) where
    -- where no value follows fewer values, none are spelled
    none-follows : (partial : Bool) → SpellsNone inner partial (bytes_of b.tokens)
        → SpellsNone (SpellsItems inner n) partial (bytes_of a.tokens)
    none-follows partial none v bytes more rest follows (e, each) whole =
        let start : x ++ (bytes_of b.tokens ++ more) ≡ bytes ++ rest =
        sym (append_assoc x (bytes_of b.tokens) more) ∙ ap (λ l. l ++ more) (sym (takes-front taken)) ∙ whole in
        let found = each-left same laws vs v.items x bytes (bytes_of b.tokens ++ more) rest (omega (arith, fewer, e)) spelled each start in
        none found.0 found.1.0 more found.1.1.0 follows found.1.1.1.0 found.1.1.1.1

    -- a value that is not read after fewer values
    pub items-unread : (partial : Bool) (f : Failed ℕ) → Reads inner partial b (Fails f)
        → Reads (SpellsItems inner n) partial a (Fails f)
    items-unread partial (Backtracks c) h = (moves-both taken.moves h.0, none-follows partial h.1)
    items-unread partial (Cuts c) h = absurd h
    items-unread partial (Needs m) h = (h.0, none-follows false h.1)
    items-unread partial Refuses h = tt

  -- a value that is not written
  pub items-unwritten : (vs : List V) (i : ℕ) (v : V) (old mid new x : List ℕ)
      (unwritten : Unwritten)
      → i < length vs → v ≡ get_or vs i v → mid ≡ old ++ x → Writes inner v mid (Err unwritten) new
      → Writes (SpellsEach inner) vs old (Err unwritten) (take (length old) new)
  items-unwritten vs i v old mid new x Unspelled l e f h =
      (λ bytes k. let one = each-at vs bytes k i v l in h.0 one.0 (subst (λ w. inner w one.0) (sym e) one.1), ap (take (length old)) (h.1 ∙ f) ∙ take-append_seam old x)
  items-unwritten vs i v old mid new x (Refused r) l e f h = ap (take (length old)) (h ∙ f) ∙ take-append_seam old x

module _ {V : Type 0} (count : Spelling ℕ) (inner : Spelling V) (partial : Bool) (a b : Ahead ℕ) (n : ℕ) where
  -- a count and the values are read
  pub list-given : (c : Ahead ℕ) (v : Vec V Global) → Reads count partial a (Gives n b)
      → Reads (SpellsItems inner n) partial b (Gives v c) → Reads (SpellsItemsAfter count inner) partial a (Gives v c)
  list-given c v (x, (h, s)) (y, (k, t)) =
      (x ++ y, ((x, y, (subst (λ m. count m x) (sym k.0) h, (refl, k.1), refl)), takes-both s t))

  -- a count is read, and not the values
  pub list-unfinished : (same : ℕ → ℕ → Type 0) → ((k m : ℕ) → same k m → k ≡ m)
      → IsPrefixFree same count → (f : Failed ℕ)
      → Reads count partial a (Gives n b) → Reads (SpellsItems inner n) partial b (Fails f)
      → Reads (SpellsItemsAfter count inner) partial a (Fails f)
  list-unfinished same exact laws f h k =
      parts-unread (λ v. (length v.items, v)) (SpellsBoth count (SpellsItems inner)) partial a f
      (both-unfinished count (SpellsItems inner) partial a same laws (λ m x v bytes e s. subst (λ i. SpellsItems inner i v bytes) (sym (exact m x e)) s) b n f h k)
