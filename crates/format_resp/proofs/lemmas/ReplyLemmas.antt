-- From the meaning of the parser of replies to the bytes that spell them, and back.
use Rattle.std.proofs.Common.{◌≡◌, ℕ, zero, suc, ◌+◌, ◌<◌, ◌≤◌, Bool, true, List, [], ◌∷◌, ◌++◌, length, map, inl, inr, Option, Some, None, ap, sym, ◌∙◌, subst, refl, arith, append_assoc}
use Rattle.std.specs.Prelude.{⊤, ◌⊎◌}
use Rattle.std.proofs.lemmas.List.{append-nil, nil_from_length}
use Rattle.std.proofs.lemmas.Option.{same_Some}
use Rattle.std.specs.declared.vec.Vec.{Vec}
use Rattle.std.specs.declared.alloc.Global.{Global}
use Rattle.winnow_stream.specs.Source.{Source, width, HasPositiveWidths}
use Rattle.winnow_stream.specs.SliceBytes.{SlicesHaveBytes}
use Rattle.winnow_parser.specs.Outcome.{Ahead, Failed, Backtracks, Cuts, Needs, Refuses, Gives, Fails, Meaning}
use Rattle.winnow_parser.specs.Meanings.{Maps, Returns}
use Rattle.winnow_token.specs.OneOf.{IsOneOf}
use Rattle.winnow_combinator.specs.Counts.{Ascending}
use Rattle.winnow_combinator.specs.Ending.{IsFail}
use Rattle.winnow_combinator.specs.Repeat.{Repeats, Taking, InTurn}
use Rattle.winnow_combinator.specs.Gathering.{Gathered}
use Rattle.format_lemmas.proofs.lemmas.TokenLemmas.{itself}
use Rattle.format_resp.specs.Language.{line, no_length, IsText, IsInteger, IsLength, greatest_count, SpellAll, SpellsLayer, SpellsNone, Spells}
use Rattle.format_resp.specs.Meanings.{IsSimple, IsError, IsNumber, IsBulk, IsNullBulk, IsArray, IsNullArray, is_kind, HasReplies, IsSame, IsCode, Text, Number, Length, Bytes, BulkOf, BulkString, Elements, ArrayOf, ArrayReply, Body, Layer, Nested}
use Rattle.format_resp.specs.Ahead.{IsAhead}
use Rattle.format_resp.specs.Contents.{Value, simple, error, integer, bulk, array, values_of, layer_contents, contents}
use Rattle.format_resp.specs.declared.reply.Reply.{Reply, map-Reply}
use Rattle.format_resp.specs.declared.reply.Reply.TheOpen.{Reply-F, Simple, Error, Integer, Bulk, NullBulk, Array, NullArray}
use Rattle.format_resp.specs.declared.reply.Reply.TheViews.{out-Reply}
use Rattle.format_resp.specs.declared.reply.Reply.TheFolds.{fold_out-Reply}
use Rattle.format_resp.proofs.lemmas.AheadLemmas.{ahead-nothing, ahead-join, ahead-split, ahead-wide, ahead-none, ahead-narrower}
use Rattle.format_resp.proofs.lemmas.NumberLemmas.{integer-line, length-line, no_length-line}
use Rattle.format_resp.proofs.lemmas.YieldLemmas.{Stands, Yields, yields-one, yields-continued, yields-text, yields-number, yields-length, yields-bytes}
use Rattle.format_resp.proofs.lemmas.AcceptLemmas.{Reads, reads-weaker, reads-one, reads-continued, reads-maps, reads-gathered, reads-cut, reads-returns, reads-text, reads-number, reads-length, reads-bytes}

-- the list begins with some number
abbrev pub Begins : List ℕ → Type 0
Begins t = (c : ℕ) × ((u : List ℕ) × (t ≡ c ∷ u))

-- the bytes of a reply begin with a byte
layer-begins : (longest : ℕ) (spells : Reply → List ℕ → Type 0) (f : Reply-F Reply) (t : List ℕ)
    → SpellsLayer longest spells f t → Begins t
layer-begins longest spells (Simple v) t h = (43, (line v.items, h.1))
layer-begins longest spells (Error v) t h = (45, (line v.items, h.1))
layer-begins longest spells (Integer n) t h = (58, (line h.0, h.1.1))
layer-begins longest spells (Bulk v) t h = (36, (line h.0 ++ line v.items, h.1.1))
layer-begins longest spells NullBulk t h = (36, (line no_length, h))
layer-begins longest spells (Array v) t h = (42, (line h.0 ++ h.1.0, h.1.1.2))
layer-begins longest spells NullArray t h = (42, (line no_length, h))

-- the contents of a layer
abbrev value_of : Reply-F Reply → Value
value_of f = layer_contents (map-Reply Reply Value contents f)

-- replies whose layers have the same contents have the same contents
same-contents : (y z : Reply) → value_of (out-Reply z) ≡ value_of (out-Reply y)
    → contents z ≡ contents y
same-contents y z e = fold_out-Reply Value layer_contents z ∙ e ∙ sym (fold_out-Reply Value layer_contents y)

-- a full count is the number of the values
full-count : {P : Type 0} (n m : ℕ) → n ≤ m → ((Some n ≡ Some m) ⊎ ((m < n) × P)) → m ≡ n
full-count n m l (inl e) = sym (same_Some _ _ e)
full-count n m l (inr h) = absurd (omega (arith, l, h.0))

-- a number of values that is both least and greatest is allowed
reads-ascending : {O : Type 0} (n : ℕ) (t : List ℕ) (inner : Meaning O ℕ) (A : O → Type 0)
    → Reads inner t A → Reads (Ascending n (Some n) inner) t A
reads-ascending n t inner A one r s wide stands partial a v e (inl h) = one r s wide stands partial a v e h.1
reads-ascending n t inner A one r s wide stands partial a v e (inr h) = absurd (omega (arith, h.0))

-- a length of at most 0 is a length
pub wider-none : (text : List ℕ) (n : Option ℕ) → IsLength 0 text n → IsLength greatest_count text n
wider-none text None h = h
wider-none text (Some n) h = (omega (arith, h.0), h.1, h.2)

-- no replies at all are at most 0
pub none-within : (ys : List Reply) (t text : List ℕ) → SpellAll SpellsNone ys t
    → IsLength greatest_count text (Some (length ys)) → IsLength 0 text (Some (length ys))
none-within [] t text all h = (omega arith, h.1, h.2)
none-within (y ∷ ys) t text (one, (more, (e, none, all))) h = absurd none

module _ {S : Type 0} (counts_shortage : Bool) (is_slice : S → Source ℕ → ℕ → Type 0) (bytes : S → List ℕ) (have : SlicesHaveBytes is_slice bytes) where
  -- ---- The source begins with each reply that is returned

  -- what stands after the length of a bulk string
  abbrev AfterBulk : Option ℕ → Reply → List ℕ → Type 0
  AfterBulk None y u = (out-Reply y ≡ NullBulk) × (u ≡ [])
  AfterBulk (Some n) y u = (v : Vec ℕ Global) × ((out-Reply y ≡ Bulk v) × (length v.items ≡ n) × (u ≡ line v.items))

  -- a bulk string stands after its length
  bulk-after : (n : Option ℕ)
      → Yields (BulkOf itself counts_shortage is_slice bytes n) (AfterBulk n)
  bulk-after None partial a b y wide h = ([], (ahead-nothing _ _ (ap (λ s. s.tokens) h.1.1.1), (h.1.0, refl)))
  bulk-after (Some n) partial a b y wide h =
      let k = yields-bytes counts_shortage is_slice bytes have n partial a b h.0 wide h.1.1 in
      (k.0, (k.1.0, (h.0, (h.1.0, k.1.1.0, k.1.1.1))))

  -- a length and what stands after it spell a bulk string
  bulk-whole : (longest : ℕ) (spells : Reply → List ℕ
      → Type 0) (n : Option ℕ) (y : Reply) (t u : List ℕ)
      → (text : List ℕ) × (IsLength longest text n × (t ≡ line text)) → AfterBulk n y u
      → SpellsLayer longest spells (out-Reply y) (36 ∷ (t ++ u))
  bulk-whole longest spells None y t u (text, (is, e)) h =
      subst (λ f. SpellsLayer longest spells f (36 ∷ (t ++ u))) (sym h.0)
      (ap (λ s. 36 ∷ s) (ap (λ s. t ++ s) h.1 ∙ append-nil t ∙ e ∙ ap line is))
  bulk-whole longest spells (Some n) y t u (text, (is, e)) (v, h) =
      subst (λ f. SpellsLayer longest spells f (36 ∷ (t ++ u))) (sym h.0)
      (text, (subst (λ m. IsLength longest text (Some m)) (sym h.1) is, ap (λ s. 36 ∷ s) (ap (λ s. s ++ u) e ∙ ap (λ s. line text ++ s) h.2)))

  -- the source begins with a bulk string
  yields-bulk : (longest : ℕ) (spells : Reply → List ℕ → Type 0)
      → Yields (BulkString itself counts_shortage is_slice bytes longest)
      (λ y t. SpellsLayer longest spells (out-Reply y) (36 ∷ t))
  yields-bulk longest spells =
      yields-continued IsSame (BulkOf itself counts_shortage is_slice bytes) (Length itself counts_shortage is_slice bytes longest) (λ n t. (text : List ℕ) × (IsLength longest text n × (t ≡ line text))) AfterBulk (λ y t. SpellsLayer longest spells (out-Reply y) (36 ∷ t)) (yields-length counts_shortage is_slice bytes have longest)
      (λ x n same. subst (λ m. Yields (BulkOf itself counts_shortage is_slice bytes m) (AfterBulk x)) same (bulk-after x))
      (bulk-whole longest spells)

  module _ (longest most : ℕ) (spells : Reply → List ℕ → Type 0) (inner : Meaning Reply ℕ) (one : Yields inner spells) (wider : (text : List ℕ) (n : Option ℕ) → IsLength most text n → IsLength greatest_count text n) where
    -- replies that are given in turn stand one after the other
    pub turns-stand : (partial : Bool) (xs : List Reply) (a b : Ahead ℕ)
        → HasPositiveWidths a.tokens → InTurn (Taking inner) partial xs a b → Stands (SpellAll spells) a.tokens xs b.tokens
    turns-stand partial [] a b wide e = ([], (ahead-nothing _ _ (ap (λ s. s.tokens) e), refl))
    turns-stand partial (x ∷ xs) a b wide h =
        let c = h.0 in
        let k = one partial a c x wide h.1.0.0 in
        let l = turns-stand partial xs c b (ahead-wide k.0 a.tokens c.tokens k.1.0 wide) h.1.1 in
        (k.0 ++ l.0, (ahead-join k.0 l.0 a.tokens c.tokens b.tokens k.1.0 l.1.0, (k.0, (l.0, (refl, k.1.1, l.1.1)))))

    -- the source begins with the elements of an array
    yields-elements : (n : ℕ)
        → Yields (Elements itself counts_shortage is_slice bytes inner n)
        (λ v t. SpellAll spells v.items t × (length v.items ≡ n))
    yields-elements n partial a b v wide (inl (l, (xs, (has, (turn, enough, more))))) =
        let k = turns-stand partial xs a b wide turn in
        (k.0, (k.1.0, (subst (λ ys. SpellAll spells ys k.0) (sym has) k.1.1, ap length has ∙ full-count n (length xs) enough more)))
    yields-elements n partial a b v wide (inr (l, e)) = absurd (omega (arith, l))

    -- what stands after the length of an array
    abbrev AfterArray : Option ℕ → Reply → List ℕ → Type 0
    AfterArray None y u = (out-Reply y ≡ NullArray) × (u ≡ [])
    AfterArray (Some n) y u = (v : Vec Reply Global) × ((out-Reply y ≡ Array v) × (length v.items ≡ n) × SpellAll spells v.items u)

    -- the elements of an array stand after its length
    array-after : (n : Option ℕ)
        → Yields (ArrayOf itself counts_shortage is_slice bytes inner n) (AfterArray n)
    array-after None partial a b y wide h = ([], (ahead-nothing _ _ (ap (λ s. s.tokens) h.1.1.1), (h.1.0, refl)))
    array-after (Some n) partial a b y wide h =
        let k = yields-elements n partial a b h.0 wide h.1.1 in
        (k.0, (k.1.0, (h.0, (h.1.0, k.1.1.1, k.1.1.0))))

    -- a length and what stands after it spell an array
    array-whole : (n : Option ℕ) (y : Reply) (t u : List ℕ)
        → (text : List ℕ) × (IsLength most text n × (t ≡ line text)) → AfterArray n y u
        → SpellsLayer longest spells (out-Reply y) (42 ∷ (t ++ u))
    array-whole None y t u (text, (is, e)) h =
        subst (λ f. SpellsLayer longest spells f (42 ∷ (t ++ u))) (sym h.0)
        (ap (λ s. 42 ∷ s) (ap (λ s. t ++ s) h.1 ∙ append-nil t ∙ e ∙ ap line is))
    array-whole (Some n) y t u (text, (is, e)) (v, h) =
        subst (λ f. SpellsLayer longest spells f (42 ∷ (t ++ u))) (sym h.0)
        (text, (u, (subst (λ m. IsLength greatest_count text (Some m)) (sym h.1) (wider text (Some n) is), h.2, ap (λ s. 42 ∷ (s ++ u)) e)))

    -- the source begins with an array
    yields-array : Yields (ArrayReply itself counts_shortage is_slice bytes most inner)
        (λ y t. SpellsLayer longest spells (out-Reply y) (42 ∷ t))
    yields-array =
        yields-continued IsSame (ArrayOf itself counts_shortage is_slice bytes inner) (Length itself counts_shortage is_slice bytes most) (λ n t. (text : List ℕ) × (IsLength most text n × (t ≡ line text))) AfterArray (λ y t. SpellsLayer longest spells (out-Reply y) (42 ∷ t)) (yields-length counts_shortage is_slice bytes have most)
        (λ x n same. subst (λ m. Yields (ArrayOf itself counts_shortage is_slice bytes inner m) (AfterArray x)) same (array-after x))
        array-whole

    -- a reply stands after the byte of its kind
    yields-body : (kind : ℕ)
        → Yields (Body itself counts_shortage is_slice bytes longest most inner kind)
        (λ y t. SpellsLayer longest spells (out-Reply y) (kind ∷ t))
    yields-body kind partial a b y wide (inl (e, h)) =
        let k = yields-array partial a b y wide h in
        (k.0, (k.1.0, subst (λ c. SpellsLayer longest spells (out-Reply y) (c ∷ k.0)) (sym e) k.1.1))
    yields-body kind partial a b y wide (inr (inl (e, (v, (is, h))))) =
        let k = yields-text counts_shortage is_slice bytes have longest partial a b v wide h in
        (k.0, (k.1.0, subst (λ f. SpellsLayer longest spells f (kind ∷ k.0)) (sym is) (k.1.1.0, ap (λ c. c ∷ k.0) e ∙ ap (λ t. 43 ∷ t) k.1.1.1)))
    yields-body kind partial a b y wide (inr (inr (inl (e, (v, (is, h)))))) =
        let k = yields-text counts_shortage is_slice bytes have longest partial a b v wide h in
        (k.0, (k.1.0, subst (λ f. SpellsLayer longest spells f (kind ∷ k.0)) (sym is) (k.1.1.0, ap (λ c. c ∷ k.0) e ∙ ap (λ t. 45 ∷ t) k.1.1.1)))
    yields-body kind partial a b y wide (inr (inr (inr (inl (e, (n, (is, h))))))) =
        let k = yields-number counts_shortage is_slice bytes have partial a b n wide h in
        (k.0, (k.1.0, subst (λ f. SpellsLayer longest spells f (kind ∷ k.0)) (sym is) (k.1.1.0, (k.1.1.1.0, ap (λ c. c ∷ k.0) e ∙ ap (λ t. 58 ∷ t) k.1.1.1.1))))
    yields-body kind partial a b y wide (inr (inr (inr (inr (e, h))))) =
        let k = yields-bulk longest spells partial a b y wide h in
        (k.0, (k.1.0, subst (λ c. SpellsLayer longest spells (out-Reply y) (c ∷ k.0)) (sym e) k.1.1))

    -- the source begins with a reply
    yields-layer : Yields (Layer itself counts_shortage is_slice bytes longest most inner)
        (λ y t. SpellsLayer longest spells (out-Reply y) t)
    yields-layer =
        yields-continued (IsCode itself) (Body itself counts_shortage is_slice bytes longest most inner) (IsOneOf is_kind) (λ x t. (is_kind x ≡ true) × (t ≡ x ∷ [])) (λ x y u. SpellsLayer longest spells (out-Reply y) (x ∷ u)) (λ y t. SpellsLayer longest spells (out-Reply y) t) (yields-one is_kind)
        (λ x k same. subst (λ c. Yields (Body itself counts_shortage is_slice bytes longest most inner c) (λ y u. SpellsLayer longest spells (out-Reply y) (x ∷ u))) same (yields-body x))
        (λ x y t u q r. subst (λ s. SpellsLayer longest spells (out-Reply y) (s ++ u)) (sym q.1) r)

  -- the source begins with the reply that the parser returns
  pub yields-nested : (longest depth : ℕ)
      → Yields (Nested itself counts_shortage is_slice bytes longest depth) (Spells longest depth)
  yields-nested longest zero = yields-layer longest 0 SpellsNone IsFail (λ partial a b x wide h. absurd h) wider-none
  yields-nested longest (suc depth) = yields-layer longest greatest_count (Spells longest depth) (Nested itself counts_shortage is_slice bytes longest depth) (yields-nested longest depth) (λ text n h. h)

  -- ---- Each reply with which the source begins is returned

  module _ (longest most : ℕ) (spells : Reply → List ℕ → Type 0) (inner : Meaning Reply ℕ) (begins : (y : Reply) (t : List ℕ) → spells y t → Begins t) (one : (y : Reply) (t : List ℕ) → spells y t → Reads inner t (λ z. spells z t × (contents z ≡ contents y))) (within : (ys : List Reply) (t text : List ℕ) → SpellAll spells ys t → IsLength greatest_count text (Some (length ys)) → IsLength most text (Some (length ys))) where
    -- the bytes spell the second layer, which has the contents of the first
    abbrev Says : Reply-F Reply → Reply-F Reply → List ℕ → Type 0
    Says f g t = SpellsLayer longest spells g t × (value_of g ≡ value_of f)

    -- after some elements that are returned the source begins with the others
    record Left (ys xs : List Reply) (text : List ℕ) (r s : Source ℕ) : Type 0 where
      others : List Reply
      taken : List ℕ
      more : List ℕ
      number : length ys + length others ≡ length xs
      whole : text ≡ taken ++ more
      given : SpellAll spells ys taken
      alike : map contents xs ≡ map contents ys ++ map contents others
      stand : SpellAll spells others more
      ahead : IsAhead r more s
      wide : HasPositiveWidths r

    -- elements that are returned in turn are those with which the source begins
    turns-left : (partial : Bool) (ys xs : List Reply) (text : List ℕ) (a b : Ahead ℕ)
        (s : Source ℕ) → HasPositiveWidths a.tokens → IsAhead a.tokens text s
        → SpellAll spells xs text → length ys ≤ length xs → InTurn (Taking inner) partial ys a b
        → Left ys xs text b.tokens s
    turns-left partial [] xs text a b s wide stands all l e =
        record {
          others = xs;
          taken = [];
          more = text;
          number = omega arith;
          whole = refl;
          given = refl;
          alike = refl;
          stand = all;
          ahead = subst (λ c. IsAhead c.tokens text s) e stands;
          wide = subst (λ c. HasPositiveWidths c.tokens) e wide;
        }
    turns-left partial (y ∷ ys) [] text a b s wide stands all l h = absurd (omega (arith, l))
    turns-left partial (y ∷ ys) (x ∷ xs) text a b s wide stands (t, (u, (e, first, rest))) l h =
        let c = h.0 in
        let k = ahead-split t u a.tokens s (subst (λ w. IsAhead a.tokens w s) e stands) in
        let got = one x t first a.tokens k.0 wide k.1.0 partial a (Gives y c) refl h.1.0.0 in
        let here : IsAhead c.tokens u s = subst (λ q. IsAhead q u s) (sym got.1) k.1.1 in
        let narrow : HasPositiveWidths c.tokens = subst HasPositiveWidths (sym got.1) (ahead-wide t a.tokens k.0 k.1.0 wide) in
        let left = turns-left partial ys xs u c b s narrow here rest (omega (arith, l)) h.1.1 in
        record {
          others = left.others;
          taken = t ++ left.taken;
          more = left.more;
          number = omega (arith, left.number);
          whole = e ∙ ap (λ w. t ++ w) left.whole ∙ sym (append_assoc t left.taken left.more);
          given = (t, (left.taken, (refl, got.0.0, left.given)));
          alike = ap (λ c. c ∷ map contents xs) (sym got.0.1) ∙ ap (λ l. contents y ∷ l) left.alike;
          stand = left.stand;
          ahead = left.ahead;
          wide = left.wide;
        }

    -- a failure on an element with which the source begins is a refusal
    element-fails : (partial : Bool) (x : Reply) (t : List ℕ) (b : Ahead ℕ) (s : Source ℕ)
        (f : Failed ℕ) → spells x t → HasPositiveWidths b.tokens → IsAhead b.tokens t s
        → Taking inner partial b (Fails f) → f ≡ Refuses
    element-fails partial x t b s (Backtracks c) h wide stands k = one x t h b.tokens s wide stands partial b (Fails (Backtracks c)) refl k
    element-fails partial x t b s (Cuts c) h wide stands (inl k) = one x t h b.tokens s wide stands partial b (Fails (Cuts c)) refl k
    element-fails partial x t b s (Cuts c) h wide stands (inr (y, (k, l))) =
        let got = one x t h b.tokens s wide stands partial b (Gives y c) refl k in
        let first = begins x t h in
        absurd (omega (arith, l, ap width got.1, ahead-narrower first.0 first.1.0 b.tokens s wide (subst (λ w. IsAhead b.tokens w s) first.1.1 stands)))
    element-fails partial x t b s (Needs n) h wide stands k = one x t h b.tokens s wide stands partial b (Fails (Needs n)) refl k
    element-fails partial x t b s Refuses h wide stands k = refl

    -- if elements are left, the source begins with one of them
    more-fails : (partial : Bool) (others : List Reply) (more : List ℕ) (b : Ahead ℕ)
        (s : Source ℕ) (f : Failed ℕ) → 0 < length others → SpellAll spells others more
        → HasPositiveWidths b.tokens → IsAhead b.tokens more s → Taking inner partial b (Fails f)
        → f ≡ Refuses
    more-fails partial [] more b s f l all wide stands k = absurd (omega (arith, l))
    more-fails partial (x ∷ xs) more b s f l (t, (u, (e, first, rest))) wide stands k =
        let split = ahead-split t u b.tokens s (subst (λ w. IsAhead b.tokens w s) e stands) in
        element-fails partial x t b split.0 f first wide split.1.0 k

    -- no elements are spelled by no bytes
    none-left : (others : List Reply) (more : List ℕ) → length others ≡ 0
        → SpellAll spells others more → more ≡ []
    none-left [] more e h = h
    none-left (x ∷ xs) more e h = absurd (omega (arith, e))

    -- the elements with which the source begins are read, if their number is asked for
    reads-repeated : (xs : List Reply) (text : List ℕ) → SpellAll spells xs text
        → Reads (Repeats (length xs) (Some (length xs)) inner) text (λ ys. SpellAll spells ys text
        × (length ys ≡ length xs) × (map contents ys ≡ map contents xs))
    reads-repeated xs text all r s wide stands partial a (Gives ys b) e (turn, enough, more) =
        let same = full-count (length xs) (length ys) enough more in
        let left = turns-left partial ys xs text a b s (subst HasPositiveWidths (sym e) wide) (subst (λ q. IsAhead q text s) (sym e) stands) all (omega (arith, same)) turn in
        let none : left.more ≡ [] = none-left left.others left.more (omega (arith, left.number, same)) left.stand in
        let taken : text ≡ left.taken = left.whole ∙ ap (λ w. left.taken ++ w) none ∙ append-nil left.taken in
        let over : left.others ≡ [] = nil_from_length left.others (omega (arith, left.number, same)) in
        let alike = left.alike ∙ ap (λ l. map contents ys ++ map contents l) over ∙ append-nil (map contents ys) in
        ((subst (SpellAll spells ys) (sym taken) left.given, same, sym alike), ahead-none b.tokens s (subst (λ w. IsAhead b.tokens w s) none left.ahead))
    reads-repeated xs text all r s wide stands partial a (Fails f) e (ys, (b, (turn, below, k))) =
        let left = turns-left partial ys xs text a b s (subst HasPositiveWidths (sym e) wide) (subst (λ q. IsAhead q text s) (sym e) stands) all (omega (arith, below)) turn in
        more-fails partial left.others left.more b s f (omega (arith, left.number, below)) left.stand left.wide left.ahead k.1

    -- the elements of an array are read
    reads-elements : (n : ℕ) (xs : List Reply) (text : List ℕ) → SpellAll spells xs text
        → length xs ≡ n
        → Reads (Elements itself counts_shortage is_slice bytes inner n) text
        (λ v. SpellAll spells v.items text × (length v.items ≡ n)
        × (map contents v.items ≡ map contents xs))
    reads-elements n xs text all count =
        subst (λ m. Reads (Elements itself counts_shortage is_slice bytes inner m) text (λ v. SpellAll spells v.items text × (length v.items ≡ m) × (map contents v.items ≡ map contents xs))) count
        (reads-cut (Ascending (length xs) (Some (length xs)) (Gathered ⊤ HasReplies (Repeats (length xs) (Some (length xs)) inner))) text (λ v. SpellAll spells v.items text × (length v.items ≡ length xs) × (map contents v.items ≡ map contents xs)) (reads-ascending (length xs) text (Gathered ⊤ HasReplies (Repeats (length xs) (Some (length xs)) inner)) (λ v. SpellAll spells v.items text × (length v.items ≡ length xs) × (map contents v.items ≡ map contents xs))
        (reads-gathered HasReplies (Repeats (length xs) (Some (length xs)) inner) text (λ ys. SpellAll spells ys text × (length ys ≡ length xs) × (map contents ys ≡ map contents xs)) (λ v. SpellAll spells v.items text × (length v.items ≡ length xs) × (map contents v.items ≡ map contents xs)) (reads-repeated xs text all)
        (λ ys v h has. (subst (λ zs. SpellAll spells zs text) (sym has) h.0, ap length has ∙ h.1, ap (map contents) has ∙ h.2)))))

    -- an array is read after the byte of its kind
    reads-array : (v : Vec Reply Global) (text more : List ℕ)
        → IsLength greatest_count text (Some (length v.items)) → SpellAll spells v.items more
        → Reads (ArrayReply itself counts_shortage is_slice bytes most inner) (line text
        ++ more) (λ y. Says (Array v) (out-Reply y) (42 ∷ (line text ++ more)))
    reads-array v text more is all =
        reads-continued IsSame (ArrayOf itself counts_shortage is_slice bytes inner) (Length itself counts_shortage is_slice bytes most) (line text) more (λ m. m ≡ Some (length v.items)) (λ y. Says (Array v) (out-Reply y) (42 ∷ (line text ++ more)))
        (reads-length counts_shortage is_slice bytes have most text (Some (length v.items)) (within v.items more text all is) (length-line greatest_count text (Some (length v.items)) is))
        (λ x n given same. subst (λ m. Reads (ArrayOf itself counts_shortage is_slice bytes inner m) more (λ y. Says (Array v) (out-Reply y) (42 ∷ (line text ++ more)))) (sym given ∙ same)
        (reads-maps IsArray (Elements itself counts_shortage is_slice bytes inner (length v.items)) more (λ w. SpellAll spells w.items more × (length w.items ≡ length v.items) × (map contents w.items ≡ map contents v.items)) (λ y. Says (Array v) (out-Reply y) (42 ∷ (line text ++ more))) (reads-elements (length v.items) v.items more all refl)
        (λ w y h out. subst (λ g. Says (Array v) g (42 ∷ (line text ++ more))) (sym out)
        ((text, (more, (subst (λ m. IsLength greatest_count text (Some m)) (sym h.1) is, h.0, refl))), ap (λ l. array (values_of l)) h.2))))

    -- the null array is read after the byte of its kind
    reads-null_array : Reads (ArrayReply itself counts_shortage is_slice bytes most inner)
        (line no_length) (λ y. Says NullArray (out-Reply y) (42 ∷ line no_length))
    reads-null_array =
        reads-continued IsSame (ArrayOf itself counts_shortage is_slice bytes inner) (Length itself counts_shortage is_slice bytes most) (line no_length) [] (λ m. m ≡ None) (λ y. Says NullArray (out-Reply y) (42 ∷ line no_length))
        (reads-length counts_shortage is_slice bytes have most no_length None refl no_length-line)
        (λ x n given same. subst (λ m. Reads (ArrayOf itself counts_shortage is_slice bytes inner m) [] (λ y. Says NullArray (out-Reply y) (42 ∷ line no_length))) (sym given ∙ same)
        (reads-maps IsNullArray (Returns tt) [] (λ x. ⊤) (λ y. Says NullArray (out-Reply y) (42 ∷ line no_length)) reads-returns
        (λ w y h out. subst (λ g. Says NullArray g (42 ∷ line no_length)) (sym out) (refl, refl))))

    -- a bulk string is read after the byte of its kind
    reads-bulk : (v : Vec ℕ Global) (text : List ℕ) → IsLength longest text (Some (length v.items))
        → Reads (BulkString itself counts_shortage is_slice bytes longest) (line text
        ++ line v.items) (λ y. Says (Bulk v) (out-Reply y) (36
        ∷ (line text ++ line v.items)))
    reads-bulk v text is =
        reads-continued IsSame (BulkOf itself counts_shortage is_slice bytes) (Length itself counts_shortage is_slice bytes longest) (line text) (line v.items) (λ m. m ≡ Some (length v.items)) (λ y. Says (Bulk v) (out-Reply y) (36 ∷ (line text ++ line v.items)))
        (reads-length counts_shortage is_slice bytes have longest text (Some (length v.items)) is (length-line longest text (Some (length v.items)) is))
        (λ x n given same. subst (λ m. Reads (BulkOf itself counts_shortage is_slice bytes m) (line v.items) (λ y. Says (Bulk v) (out-Reply y) (36 ∷ (line text ++ line v.items)))) (sym given ∙ same)
        (reads-maps IsBulk (Bytes itself counts_shortage is_slice bytes (length v.items)) (line v.items) (λ w. w.items ≡ v.items) (λ y. Says (Bulk v) (out-Reply y) (36 ∷ (line text ++ line v.items))) (reads-bytes counts_shortage is_slice bytes have (length v.items) v.items refl)
        (λ w y h out. subst (λ g. Says (Bulk v) g (36 ∷ (line text ++ line v.items))) (sym out)
        ((text, (subst (λ m. IsLength longest text (Some m)) (ap length (sym h)) is, ap (λ s. 36 ∷ (line text ++ line s)) (sym h))), ap bulk h))))

    -- the null bulk string is read after the byte of its kind
    reads-null_bulk : Reads (BulkString itself counts_shortage is_slice bytes longest)
        (line no_length) (λ y. Says NullBulk (out-Reply y) (36 ∷ line no_length))
    reads-null_bulk =
        reads-continued IsSame (BulkOf itself counts_shortage is_slice bytes) (Length itself counts_shortage is_slice bytes longest) (line no_length) [] (λ m. m ≡ None) (λ y. Says NullBulk (out-Reply y) (36 ∷ line no_length))
        (reads-length counts_shortage is_slice bytes have longest no_length None refl no_length-line)
        (λ x n given same. subst (λ m. Reads (BulkOf itself counts_shortage is_slice bytes m) [] (λ y. Says NullBulk (out-Reply y) (36 ∷ line no_length))) (sym given ∙ same)
        (reads-maps IsNullBulk (Returns tt) [] (λ x. ⊤) (λ y. Says NullBulk (out-Reply y) (36 ∷ line no_length)) reads-returns
        (λ w y h out. subst (λ g. Says NullBulk g (36 ∷ line no_length)) (sym out) (refl, refl))))

    module _ (u : List ℕ) (P : Reply → Type 0) where
      -- after the byte of an array, an array is read
      body-array : Reads (ArrayReply itself counts_shortage is_slice bytes most inner) u P
          → Reads (Body itself counts_shortage is_slice bytes longest most inner 42) u P
      body-array one r s wide stands partial a v e (inl h) = one r s wide stands partial a v e h.1
      body-array one r s wide stands partial a v e (inr (inl h)) = absurd (omega (arith, h.0))
      body-array one r s wide stands partial a v e (inr (inr (inl h))) = absurd (omega (arith, h.0))
      body-array one r s wide stands partial a v e (inr (inr (inr (inl h)))) = absurd (omega (arith, h.0))
      body-array one r s wide stands partial a v e (inr (inr (inr (inr h)))) = absurd (omega (arith, h.0))

      -- after the byte of a simple string, its text is read
      body-simple : Reads (Maps IsSimple (Text itself counts_shortage is_slice bytes longest)) u P
          → Reads (Body itself counts_shortage is_slice bytes longest most inner 43) u P
      body-simple one r s wide stands partial a v e (inl h) = absurd (omega (arith, h.0))
      body-simple one r s wide stands partial a v e (inr (inl h)) = one r s wide stands partial a v e h.1
      body-simple one r s wide stands partial a v e (inr (inr (inl h))) = absurd (omega (arith, h.0))
      body-simple one r s wide stands partial a v e (inr (inr (inr (inl h)))) = absurd (omega (arith, h.0))
      body-simple one r s wide stands partial a v e (inr (inr (inr (inr h)))) = absurd (omega (arith, h.0))

      -- after the byte of an error, its text is read
      body-error : Reads (Maps IsError (Text itself counts_shortage is_slice bytes longest)) u P
          → Reads (Body itself counts_shortage is_slice bytes longest most inner 45) u P
      body-error one r s wide stands partial a v e (inl h) = absurd (omega (arith, h.0))
      body-error one r s wide stands partial a v e (inr (inl h)) = absurd (omega (arith, h.0))
      body-error one r s wide stands partial a v e (inr (inr (inl h))) = one r s wide stands partial a v e h.1
      body-error one r s wide stands partial a v e (inr (inr (inr (inl h)))) = absurd (omega (arith, h.0))
      body-error one r s wide stands partial a v e (inr (inr (inr (inr h)))) = absurd (omega (arith, h.0))

      -- after the byte of an integer, its number is read
      body-number : Reads (Maps IsNumber (Number itself counts_shortage is_slice bytes)) u P
          → Reads (Body itself counts_shortage is_slice bytes longest most inner 58) u P
      body-number one r s wide stands partial a v e (inl h) = absurd (omega (arith, h.0))
      body-number one r s wide stands partial a v e (inr (inl h)) = absurd (omega (arith, h.0))
      body-number one r s wide stands partial a v e (inr (inr (inl h))) = absurd (omega (arith, h.0))
      body-number one r s wide stands partial a v e (inr (inr (inr (inl h)))) = one r s wide stands partial a v e h.1
      body-number one r s wide stands partial a v e (inr (inr (inr (inr h)))) = absurd (omega (arith, h.0))

      -- after the byte of a bulk string, a bulk string is read
      body-bulk : Reads (BulkString itself counts_shortage is_slice bytes longest) u P
          → Reads (Body itself counts_shortage is_slice bytes longest most inner 36) u P
      body-bulk one r s wide stands partial a v e (inl h) = absurd (omega (arith, h.0))
      body-bulk one r s wide stands partial a v e (inr (inl h)) = absurd (omega (arith, h.0))
      body-bulk one r s wide stands partial a v e (inr (inr (inl h))) = absurd (omega (arith, h.0))
      body-bulk one r s wide stands partial a v e (inr (inr (inr (inl h)))) = absurd (omega (arith, h.0))
      body-bulk one r s wide stands partial a v e (inr (inr (inr (inr h)))) = one r s wide stands partial a v e h.1

      -- after a byte of a kind, what the kind asks for is read
      reads-kind : (kind : ℕ) → is_kind kind ≡ true
          → Reads (Body itself counts_shortage is_slice bytes longest most inner kind) u P
          → Reads (Layer itself counts_shortage is_slice bytes longest most inner) (kind ∷ u) P
      reads-kind kind held body =
          reads-continued (IsCode itself) (Body itself counts_shortage is_slice bytes longest most inner) (IsOneOf is_kind) (kind ∷ []) u (λ x. x ≡ kind) P (reads-one is_kind kind held)
          (λ x k given same. subst (λ c. Reads (Body itself counts_shortage is_slice bytes longest most inner c) u P) (sym given ∙ same) body)

    -- a reply is read, with the contents of a layer
    abbrev LayerIsRead : Reply-F Reply → List ℕ → Type 0
    LayerIsRead f t = Reads (Layer itself counts_shortage is_slice bytes longest most inner) t (λ y. Says f (out-Reply y) t)

    -- a reply with which the source begins is read, kind by kind
    reads-layer : (f : Reply-F Reply) (t : List ℕ) → SpellsLayer longest spells f t
        → LayerIsRead f t
    reads-layer (Simple v) t h =
        subst (LayerIsRead (Simple v)) (sym h.1)
        (reads-kind (line v.items) (λ y. Says (Simple v) (out-Reply y) (43 ∷ line v.items)) 43 refl (body-simple (line v.items) (λ y. Says (Simple v) (out-Reply y) (43 ∷ line v.items))
        (reads-maps IsSimple (Text itself counts_shortage is_slice bytes longest) (line v.items) (λ w. w.items ≡ v.items) (λ y. Says (Simple v) (out-Reply y) (43 ∷ line v.items)) (reads-text counts_shortage is_slice bytes have longest v.items h.0)
        (λ w y is out. subst (λ g. Says (Simple v) g (43 ∷ line v.items)) (sym out) ((subst (IsText longest) (sym is) h.0, ap (λ s. 43 ∷ line s) (sym is)), ap simple is)))))
    reads-layer (Error v) t h =
        subst (LayerIsRead (Error v)) (sym h.1)
        (reads-kind (line v.items) (λ y. Says (Error v) (out-Reply y) (45 ∷ line v.items)) 45 refl (body-error (line v.items) (λ y. Says (Error v) (out-Reply y) (45 ∷ line v.items))
        (reads-maps IsError (Text itself counts_shortage is_slice bytes longest) (line v.items) (λ w. w.items ≡ v.items) (λ y. Says (Error v) (out-Reply y) (45 ∷ line v.items)) (reads-text counts_shortage is_slice bytes have longest v.items h.0)
        (λ w y is out. subst (λ g. Says (Error v) g (45 ∷ line v.items)) (sym out) ((subst (IsText longest) (sym is) h.0, ap (λ s. 45 ∷ line s) (sym is)), ap error is)))))
    reads-layer (Integer n) t (text, (is, e)) =
        subst (LayerIsRead (Integer n)) (sym e)
        (reads-kind (line text) (λ y. Says (Integer n) (out-Reply y) (58 ∷ line text)) 58 refl (body-number (line text) (λ y. Says (Integer n) (out-Reply y) (58 ∷ line text))
        (reads-maps IsNumber (Number itself counts_shortage is_slice bytes) (line text) (λ m. m ≡ n) (λ y. Says (Integer n) (out-Reply y) (58 ∷ line text)) (reads-number counts_shortage is_slice bytes have text n is (integer-line text n is))
        (λ m y same out. subst (λ g. Says (Integer n) g (58 ∷ line text)) (sym out) ((text, (subst (IsInteger text) (sym same) is, refl)), ap integer same)))))
    reads-layer (Bulk v) t (text, (is, e)) =
        subst (LayerIsRead (Bulk v)) (sym e) (reads-kind (line text ++ line v.items) (λ y. Says (Bulk v) (out-Reply y) (36 ∷ (line text ++ line v.items))) 36 refl (body-bulk (line text ++ line v.items) (λ y. Says (Bulk v) (out-Reply y) (36 ∷ (line text ++ line v.items))) (reads-bulk v text is)))
    reads-layer NullBulk t h = subst (LayerIsRead NullBulk) (sym h) (reads-kind (line no_length) (λ y. Says NullBulk (out-Reply y) (36 ∷ line no_length)) 36 refl (body-bulk (line no_length) (λ y. Says NullBulk (out-Reply y) (36 ∷ line no_length)) reads-null_bulk))
    reads-layer (Array v) t (text, (more, (is, all, e))) =
        subst (LayerIsRead (Array v)) (sym e) (reads-kind (line text ++ more) (λ y. Says (Array v) (out-Reply y) (42 ∷ (line text ++ more))) 42 refl (body-array (line text ++ more) (λ y. Says (Array v) (out-Reply y) (42 ∷ (line text ++ more))) (reads-array v text more is all)))
    reads-layer NullArray t h = subst (LayerIsRead NullArray) (sym h) (reads-kind (line no_length) (λ y. Says NullArray (out-Reply y) (42 ∷ line no_length)) 42 refl (body-array (line no_length) (λ y. Says NullArray (out-Reply y) (42 ∷ line no_length)) reads-null_array))

  -- a reply begins with a byte
  pub spells-begins : (longest depth : ℕ) (y : Reply) (t : List ℕ) → Spells longest depth y t
      → Begins t
  spells-begins longest zero y t h = layer-begins longest SpellsNone (out-Reply y) t h
  spells-begins longest (suc depth) y t h = layer-begins longest (Spells longest depth) (out-Reply y) t h

  -- the parser reads each reply with which the source begins, and returns one with its contents
  pub reads-nested : (longest depth : ℕ) (y : Reply) (t : List ℕ) → Spells longest depth y t
      → Reads (Nested itself counts_shortage is_slice bytes longest depth) t
      (λ z. Spells longest depth z t × (contents z ≡ contents y))
  reads-nested longest zero y t h =
      reads-weaker (Nested itself counts_shortage is_slice bytes longest zero) t (λ z. SpellsLayer longest SpellsNone (out-Reply z) t × (value_of (out-Reply z) ≡ value_of (out-Reply y))) (λ z. Spells longest zero z t × (contents z ≡ contents y))
      (λ z k. (k.0, same-contents y z k.1)) (reads-layer longest 0 SpellsNone IsFail (λ y t h. absurd h) (λ y t h. absurd h) none-within (out-Reply y) t h)
  reads-nested longest (suc depth) y t h =
      reads-weaker (Nested itself counts_shortage is_slice bytes longest (suc depth)) t (λ z. SpellsLayer longest (Spells longest depth) (out-Reply z) t × (value_of (out-Reply z) ≡ value_of (out-Reply y))) (λ z. Spells longest (suc depth) z t × (contents z ≡ contents y))
      (λ z k. (k.0, same-contents y z k.1)) (reads-layer longest greatest_count (Spells longest depth) (Nested itself counts_shortage is_slice bytes longest depth) (spells-begins longest depth) (reads-nested longest depth) (λ ys t text all is. is) (out-Reply y) t h)
