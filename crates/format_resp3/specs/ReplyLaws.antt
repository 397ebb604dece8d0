-- A reply has one spelling, and no spelling of a reply is the front of another's.
use Rattle.std.specs.Prelude.{◌≡◌, ℕ, zero, suc, ◌+◌, ◌<◌, ◌^◌, ◌==◌, Bool, true, false, ◌&&◌, ◌||◌, not, if◌then◌else◌, List, [], ◌∷◌, ◌++◌, length, drop, get_or, decimal}
use Rattle.std.specs.List.{list_any}
use Rattle.std.specs.Str.Parse.{AllDigits, digits_value}
use Rattle.std.proofs.Common.{ap, sym, ◌∙◌, refl, arith, append_assoc, length-append}
use Rattle.std.proofs.lemmas.Fmt.{decimal_is_IsNumeral}
use Rattle.std.proofs.lemmas.Str.Parse.{digit_from_value}
use Rattle.winnow_codec.specs.Formats.{Spelling, IsFormat, IsEqual, IsFormat-Exact}
use Rattle.winnow_codec.specs.FormatRows.{SpellsPair, AreBothSame, IsFormat-Pair}
use Rattle.winnow_codec.specs.Byte.{SpellsByte, IsFormat-Byte}
use Rattle.winnow_codec.specs.Verified.{IsFormat-Allowed}
use Rattle.winnow_codec.specs.Cases.{AreCases, IsFormat-Tagged}
use Rattle.winnow_codec.specs.Lists.{AreSameEach, SpellsTimes, IsFormat-Times}
use Rattle.winnow_codec.specs.Bytes.{SpellsBytes, IsFormat-Bytes}
use Rattle.format_resp3.specs.Texts.{ends_line}
use Rattle.format_resp3.specs.Replies.{line_end, first_of, held_of, pairs_of, replies_of, IsWithin, is_kind, SpellsKind, SpellsLine, line_limit, SpellsFirst, SpellsAfter, SpellsLayer, SpellsInner, SpellsReply, AreSameLayer, AreSameDown, AreSameReply}
use Rattle.format_resp3.specs.declared.reply.Reply.{Reply}
use Rattle.format_resp3.specs.declared.reply.Reply.TheOpen.{Reply-F, Bulk, Array, BulkError, Verbatim, Map, Set, Push, Attributed}
use Rattle.format_resp3.specs.declared.reply.Reply.TheViews.{out-Reply}

-- ---- First lines

pub neither : (a b : Bool) → (a || b) ≡ false → b ≡ false
neither true b h = absurd (cc)
neither false b h = h

-- no text without a line end goes on where the line of another ends
pub text-free : (v w r s : List ℕ) → list_any ends_line v ≡ false → list_any ends_line w ≡ false
    → v ++ (line_end ++ r) ≡ w ++ (line_end ++ s) → v ≡ w
text-free [] [] r s h k e = refl
text-free [] (y ∷ ys) r s h k e = absurd (cc)
text-free (x ∷ xs) [] r s h k e = absurd (cc)
text-free (x ∷ xs) (y ∷ ys) r s h k e =
    let first : x ≡ y = cc in
    let others = text-free xs ys r s (neither (ends_line x) (list_any ends_line xs) h) (neither (ends_line y) (list_any ends_line ys) k) (ap (drop 1) e) in
    ap (λ l. x ∷ l) others ∙ ap (λ n. n ∷ ys) first

pub IsFormat-Kind : IsFormat IsEqual SpellsKind
IsFormat-Kind = IsFormat-Allowed (λ kind. is_kind kind ≡ true) IsEqual SpellsByte IsFormat-Byte

pub IsFormat-Line : (most : ℕ) → IsFormat IsEqual (SpellsLine most)
IsFormat-Line most = record {
  canonical = λ v b c h k. h.2 ∙ sym k.2;
  prefix_free = λ v w b c r s h k e.
      let whole : v ++ (line_end ++ r) ≡ w ++ (line_end ++ s) =
      sym (append_assoc v line_end r) ∙ ap (λ l. l ++ r) (sym h.2) ∙ e ∙ ap (λ l. l ++ s) k.2 ∙ append_assoc w line_end s in
      let same = text-free v w r s h.0 k.0 whole in
      (same, h.2 ∙ ap (λ l. l ++ line_end) same ∙ sym k.2);
}

pub IsFormat-First : (longest : ℕ) → IsFormat IsEqual (SpellsFirst longest)
IsFormat-First longest = IsFormat-Exact (AreBothSame IsEqual IsEqual) (SpellsFirst longest) (λ v w e i. (e.0 i, e.1 i))
    (IsFormat-Pair IsEqual IsEqual SpellsKind (SpellsLine (line_limit longest)) IsFormat-Kind (IsFormat-Line (line_limit longest)))

-- ---- What a first line says of what follows it

-- the number in the text of a line is none
abbrev pub is_null : ℕ × List ℕ → Bool
is_null first = 45 == get_or first.1 0 0

-- how many bytes a first line says that a reply holds, with their line end
abbrev held_width : ℕ × List ℕ → ℕ
held_width first = if (36 == first.0 || (33 == first.0 || 61 == first.0)) && not (is_null first) then digits_value 10 first.1 + 2 else 0

-- how many keys with their values, and how many other replies, a first line says that follow
abbrev pair_count : ℕ × List ℕ → ℕ
pair_count first = if 37 == first.0 || 124 == first.0 then digits_value 10 first.1 else 0

abbrev reply_count : ℕ × List ℕ → ℕ
reply_count first = if 124 == first.0 then 1 else if (42 == first.0 || (126 == first.0 || 62 == first.0)) && not (is_null first) then digits_value 10 first.1 else 0

pub value-of : (n : ℕ) → n < 2 ^ 64 → digits_value 10 (decimal n) ≡ n
value-of n small = (decimal_is_IsNumeral n small).1

-- digits begin with no minus
unsigned-digits : (ds : List ℕ) → AllDigits 10 ds → (45 == get_or ds 0 0) ≡ false
unsigned-digits [] h = refl
unsigned-digits (d ∷ ds) h = grind (arith, digit_from_value d h.0)

pub not-null : (n : ℕ) → n < 2 ^ 64 → (45 == get_or (decimal n) 0 0) ≡ false
not-null n small = unsigned-digits (decimal n) (decimal_is_IsNumeral n small).0.1

-- the number of held bytes, and that of replies, as a first line says them
number-held : (n : ℕ) → n < 2 ^ 64
    → n + 2 ≡ (if not (45 == get_or (decimal n) 0 0) then digits_value 10 (decimal n) + 2 else 0)
number-held n small = ap (λ m. m + 2) (sym (value-of n small)) ∙ ap (λ b. if not b then digits_value 10 (decimal n) + 2 else 0) (sym (not-null n small))

number-listed : (n : ℕ) → n < 2 ^ 64
    → n ≡ (if not (45 == get_or (decimal n) 0 0) then digits_value 10 (decimal n) else 0)
number-listed n small = sym (value-of n small) ∙ ap (λ b. if not b then digits_value 10 (decimal n) else 0) (sym (not-null n small))

module _ (longest : ℕ) where
  held-counted : (x : Reply-F Reply) → IsWithin longest x
      → length (held_of x) ≡ held_width (first_of x)
  held-counted (Bulk v) h = length-append v.items line_end ∙ number-held (length v.items) h.1
  held-counted (BulkError v) h = length-append v.items line_end ∙ number-held (length v.items) h.1
  held-counted (Verbatim f t) h = let v = f.items ++ 58 ∷ t.items in length-append v line_end ∙ number-held (length v) h.1.1
  held-counted x h = refl

  pairs-counted : (x : Reply-F Reply) → IsWithin longest x
      → length (pairs_of x) ≡ pair_count (first_of x)
  pairs-counted (Map ps) h = sym (value-of (length ps.items) h)
  pairs-counted (Attributed ps r) h = sym (value-of (length ps.items) h)
  pairs-counted x h = refl

  replies-counted : (x : Reply-F Reply) → IsWithin longest x
      → length (replies_of x) ≡ reply_count (first_of x)
  replies-counted (Array rs) h = number-listed (length rs.items) h
  replies-counted (Set rs) h = number-listed (length rs.items) h
  replies-counted (Push rs) h = number-listed (length rs.items) h
  replies-counted x h = refl

-- ---- Replies

-- where the members of lists are the same, they are so by a weaker relation
each-weaker : {V : Type 0} (same alike : V → V → Type 0) → ((v w : V) → same v w → alike v w)
    → (vs ws : List V) → AreSameEach same vs ws → AreSameEach alike vs ws
each-weaker same alike is [] [] h = tt
each-weaker same alike is [] (w ∷ ws) h = h
each-weaker same alike is (v ∷ vs) [] h = h
each-weaker same alike is (v ∷ vs) (w ∷ ws) h = (is v w h.0, each-weaker same alike is vs ws h.1)

-- the layers are the same, and the replies inside in all layers
same-down : (v w : Reply) → AreSameLayer AreSameReply (out-Reply v) (out-Reply w)
    → AreSameReply v w
same-down v w h zero = tt
same-down v w h (suc depth) = (
  h.0,
  h.1,
  each-weaker (AreBothSame AreSameReply AreSameReply) (AreBothSame (AreSameDown depth) (AreSameDown depth)) (λ p q s. (s.0 depth, s.1 depth))
      (pairs_of (out-Reply v)) (pairs_of (out-Reply w)) h.2,
  each-weaker AreSameReply (AreSameDown depth) (λ p q s. s depth) (replies_of (out-Reply v)) (replies_of (out-Reply w)) h.3,
)

module _ (longest : ℕ) (inner : Spelling Reply) (f : IsFormat AreSameReply inner) where
  -- as many bytes, keys with their values and replies as the first line says
  abbrev SpellsCounted : ℕ × List ℕ → Spelling (List ℕ × (List (Reply × Reply) × List Reply))
  SpellsCounted first = SpellsPair (SpellsBytes (held_width first)) (SpellsPair (SpellsTimes (SpellsPair inner inner) (pair_count first)) (SpellsTimes inner (reply_count first)))

  -- the held bytes are equal, and the replies inside the same
  abbrev AreSameParts : List ℕ × (List (Reply × Reply) × List Reply)
      → List ℕ × (List (Reply × Reply) × List Reply) → Type 0
  AreSameParts = AreBothSame IsEqual (AreBothSame (AreSameEach (AreBothSame AreSameReply AreSameReply)) (AreSameEach AreSameReply))

  IsFormat-Counted : (first : ℕ × List ℕ) → IsFormat AreSameParts (SpellsCounted first)
  IsFormat-Counted first =
      IsFormat-Pair IsEqual _ (SpellsBytes (held_width first)) _ (IsFormat-Bytes (held_width first))
      (IsFormat-Pair _ _ (SpellsTimes (SpellsPair inner inner) (pair_count first)) (SpellsTimes inner (reply_count first))
      (IsFormat-Times (AreBothSame AreSameReply AreSameReply) (SpellsPair inner inner) (IsFormat-Pair AreSameReply AreSameReply inner inner f f) (pair_count first))
      (IsFormat-Times AreSameReply inner f (reply_count first)))

  abbrev parts : Reply → List ℕ × (List (Reply × Reply) × List Reply)
  parts r = (held_of (out-Reply r), (pairs_of (out-Reply r), replies_of (out-Reply r)))

  counted : (first : ℕ × List ℕ) (r : Reply) (bytes : List ℕ)
      → SpellsAfter longest inner first r bytes → SpellsCounted first (parts r) bytes
  counted first r bytes (is, within, (p, q, (i, j, e))) =
      let x = out-Reply r in (
        held_of x,
        p ++ q,
        (
          (held-counted longest x within ∙ ap held_width (sym is), refl),
          (p, q, ((pairs-counted longest x within ∙ ap pair_count (sym is), i), (replies-counted longest x within ∙ ap reply_count (sym is), j), refl)),
          e,
        ),
      )

  AreCases-After : AreCases AreSameReply (λ r. first_of (out-Reply r)) (SpellsAfter longest inner)
  AreCases-After = record {
    formats = λ first. record {
      canonical = λ v b c h k. (IsFormat-Counted first).canonical (parts v) b c (counted first v b h) (counted first v c k);
      prefix_free = λ v w b c r s h k e.
          let p = (IsFormat-Counted first).prefix_free (parts v) (parts w) b c r s (counted first v b h) (counted first w c k) e in
          (same-down v w (sym h.0 ∙ k.0, p.0.0, p.0.1.0, p.0.1.1), p.1);
    };
    one_tag = λ first r bytes h. h.0;
  }

  pub IsFormat-Layer : IsFormat AreSameReply (SpellsLayer longest inner)
  IsFormat-Layer = IsFormat-Tagged IsEqual (SpellsFirst longest) (λ t u e. e) (IsFormat-First longest) AreSameReply (λ r. first_of (out-Reply r)) (SpellsAfter longest inner) AreCases-After

pub IsFormat-Inner : (longest depth : ℕ) → IsFormat AreSameReply (SpellsInner longest depth)
IsFormat-Inner longest zero = record {
  canonical = λ v b c h k. absurd h;
  prefix_free = λ v w b c r s h k e. absurd h;
}
IsFormat-Inner longest (suc depth) = IsFormat-Layer longest (SpellsInner longest depth) (IsFormat-Inner longest depth)

pub IsFormat-Reply : (longest depth : ℕ) → IsFormat AreSameReply (SpellsReply longest depth)
IsFormat-Reply longest depth = IsFormat-Layer longest (SpellsInner longest depth) (IsFormat-Inner longest depth)
