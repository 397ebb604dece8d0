-- Where a reply breaks off for a cause, that is wrong with the part that has begun there.
use Rattle.std.proofs.Common.{◌≡◌, ℕ, zero, suc, ◌+◌, ◌≤◌, ◌<◌, ◌==◌, nat_lt, Bool, true, false, ◌&&◌, List, [], ◌∷◌, ◌++◌, length, get_or, inl, inr, Option, Some, None, ap, sym, ◌∙◌, subst, refl, arith, append_assoc, length-append}
use Rattle.std.specs.Prelude.{not, if◌then◌else◌}
use Rattle.std.proofs.lemmas.Bool.Decides.{nat_tests}
use Rattle.std.proofs.lemmas.List.{append-nil, map-append, append_cancel_right}
use Rattle.winnow_stream.specs.Source.{Source}
use Rattle.format_lemmas.specs.Bytes.{bytes_of, StartsWith}
use Rattle.format_resp.specs.Language.{is_in_line, AreInLine, line, no_length, IsInteger, IsLength, greatest_count, SpellAll, SpellsLayer, SpellsNone, Spells}
use Rattle.format_resp.specs.Meanings.{most_digits}
use Rattle.format_resp.specs.Ahead.{IsAhead}
use Rattle.format_resp.specs.Damage.{cause_at, EndsText, LineBreaksOff, NumberBreaksOff, IsWrongInteger, IsWrongLength, BulkBreaksOff, ArrayBreaksOff, BodyBreaksOff, LayerBreaksOff, BeginsNone, StopsAt, BreaksOff}
use Rattle.format_resp.specs.Parts.{line_width, count_of, part_width, EndsInPart, is_number_kind, length_fault, number_fault, line_fault, first_fault, lacks_held, begun_fault, fault, IsFault}
use Rattle.format_resp.specs.Causes.{IsDamaged, IsCauseOf}
use Rattle.format_resp.specs.declared.causes.Cause.{Cause}
use Rattle.format_resp.specs.declared.causes.Cause.TheVariants.{EndsInside, NoKind, TooDeep, TooLong, NoLineEnd}
use Rattle.format_resp.specs.declared.reply.Reply.{Reply}
use Rattle.format_resp.specs.declared.reply.Reply.TheOpen.{Reply-F, Simple, Error, Integer, Bulk, NullBulk, Array, NullArray}
use Rattle.format_resp.specs.declared.reply.Reply.TheViews.{out-Reply}
use Rattle.format_resp.proofs.lemmas.NumberLemmas.{integer-line}
use Rattle.format_resp.proofs.lemmas.PartLemmas.{length-line-of, line-whole, line-text, text-alone, text-return, line-stands, count-none, count-length, length-in_line, part-other, part-null, part-held, part-short, part-lacking, short-bulk, null-count, ends-more, ends-once}

-- this is wrong where the bytes break off at the rest
abbrev pub HasFault : Cause → List ℕ → List ℕ → Type 0
HasFault cause bytes rest = (before : List ℕ) × ((bytes ≡ before ++ rest) × IsFault cause before rest)

-- the bytes of a source are those with which it begins, and the rest
ahead-bytes : (r s : Source ℕ) (t : List ℕ) → IsAhead r t s → bytes_of r ≡ t ++ bytes_of s
ahead-bytes r s t h = ap bytes_of h.1.0 ∙ map-append (λ x. x.0) h.0 s ∙ ap (λ u. u ++ bytes_of s) h.1.1

-- the first part breaks off
part-at : (cause : Cause) (bytes begun rest : List ℕ) → bytes ≡ begun ++ rest
    → part_width begun ≡ None → cause ≡ fault begun rest → HasFault cause bytes rest
part-at cause bytes begun rest e none is = (begun, (e, (begun, ((0, (refl, none)), is))))

-- what is wrong, unless the input ends
over-at : (s : Source ℕ) (cause : Cause) (begun : List ℕ)
    → ((x : ℕ × ℕ) (xs : Source ℕ) → s ≡ x ∷ xs → begun_fault begun (bytes_of s) ≡ cause)
    → cause_at s cause ≡ fault begun (bytes_of s)
over-at [] cause begun on = refl
over-at (x ∷ xs) cause begun on = sym (on x xs refl)

-- no reply begins at the rest
none-at : (cause : Cause) (whole rest : Source ℕ) → BeginsNone cause whole rest
    → HasFault cause (bytes_of whole) (bytes_of rest)
none-at cause whole rest h =
    part-at cause (bytes_of whole) [] (bytes_of rest) (ap bytes_of h.0) refl (h.2 ∙ over-at rest NoKind [] (λ x xs e. refl))

-- ---- Lines

-- a line end is missing in a part that has begun with no line
fault-lacking : (kind : ℕ) (bytes rest : List ℕ) → line_width bytes ≡ None → 0 < length bytes
    → begun_fault (kind ∷ bytes) rest ≡ NoLineEnd
fault-lacking kind [] rest e some = absurd (omega (arith, some))
fault-lacking kind (b ∷ bs) rest e some =
    ap (λ w. if lacks_held kind (b ∷ bs) w then EndsInside else NoLineEnd) e

-- a byte that is neither in a line nor CR is LF
is-newline : (c : ℕ) → is_in_line c ≡ false → ¬ (c ≡ 13) → (10 == c) ≡ true
is-newline c h other = grind (arith, nat_tests, h, other)

-- a byte in a line is no LF
no-newline : (c : ℕ) → is_in_line c ≡ true → (10 == c) ≡ false
no-newline c h = grind (arith, nat_tests, h)

-- a line end is missing right after the byte of a kind
first-lacking : (kind longest : ℕ) (b : Bool) (x : ℕ × ℕ) (xs : Source ℕ) → is_number_kind kind ≡ b
    → (is_number_kind kind ≡ true → 0 < longest) → EndsText longest [] (x ∷ xs) → ¬ (x.0 ≡ 13)
    → first_fault kind (bytes_of (x ∷ xs)) ≡ NoLineEnd
first-lacking kind longest false x xs e some over other =
    let bytes = bytes_of (x ∷ xs) in
    ap (λ t. if t && not (10 == x.0) then line_fault kind bytes (line_width bytes) else NoLineEnd) e
first-lacking kind longest true x xs e some (inl full) other = absurd (omega (arith, some e, full))
first-lacking kind longest true x xs e some (inr ends) other =
    let bytes = bytes_of (x ∷ xs) in
    ap (λ t. if t && not (10 == x.0) then line_fault kind bytes (line_width bytes) else NoLineEnd) e
    ∙ ap (λ t. if not t then line_fault kind bytes (line_width bytes) else NoLineEnd) (is-newline x.0 ends other)

-- a line end is missing after a text
text-lacking : (kind longest : ℕ) (text : List ℕ) (rest : Source ℕ) → AreInLine text
    → (is_number_kind kind ≡ true → 0 < longest) → EndsText longest text rest
    → ¬ (StartsWith 13 (bytes_of rest)) → (x : ℕ × ℕ) (xs : Source ℕ) → rest ≡ x ∷ xs
    → begun_fault (kind ∷ text) (bytes_of rest) ≡ NoLineEnd
text-lacking kind longest [] rest h some over none x xs e =
    subst (λ r. first_fault kind (bytes_of r) ≡ NoLineEnd) (sym e)
    (first-lacking kind longest (is_number_kind kind) x xs refl some (subst (EndsText longest []) e over) (subst (λ r. ¬ (StartsWith 13 (bytes_of r))) e none))
text-lacking kind longest (t ∷ ts) rest h some over none x xs e =
    fault-lacking kind (t ∷ ts) (bytes_of rest) (text-alone (t ∷ ts) h) (omega arith)

-- a line breaks off after the byte of a kind
line-at : (kind longest : ℕ) (cause : Cause) (whole rest : Source ℕ)
    → (is_number_kind kind ≡ true → 0 < longest) → LineBreaksOff cause longest whole rest
    → HasFault cause (kind ∷ bytes_of whole) (bytes_of rest)
line-at kind longest cause whole rest some (text, (end, (a, fits, over, (is, inl (same, none))))) =
    part-at cause (kind ∷ bytes_of whole) (kind ∷ text) (bytes_of rest) (ap (λ t. kind ∷ t) (ahead-bytes whole end text a ∙ ap (λ s. text ++ bytes_of s) same)) (part-lacking kind text (text-alone text fits.0))
    (is ∙ over-at rest NoLineEnd (kind ∷ text) (text-lacking kind longest text rest fits.0 some (subst (EndsText longest text) same over) none))
line-at kind longest cause whole rest some (text, (end, (a, fits, over, (is, inr (stands, none))))) =
    let held = text ++ 13 ∷ [] in
    let lacks : line_width held ≡ None = text-return text fits.0 in
    part-at cause (kind ∷ bytes_of whole) (kind ∷ held) (bytes_of rest)
    (ap (λ t. kind ∷ t) (ahead-bytes whole end text a ∙ ap (λ t. text ++ t) (ahead-bytes end rest (13 ∷ []) stands) ∙ sym (append_assoc text (13 ∷ []) (bytes_of rest))))
    (part-lacking kind held lacks) (is ∙ over-at rest NoLineEnd (kind ∷ held) (λ x xs e. fault-lacking kind held (bytes_of rest) lacks (omega (arith, length-append text (13 ∷ [])))))

-- ---- Numbers

-- what is wrong with the text of the number that stands first
first-of : (kind : ℕ) (text s : List ℕ) → is_number_kind kind ≡ true → AreInLine text
    → (10 == get_or (line text ++ s) 0 0) ≡ false
    → first_fault kind (line text ++ s) ≡ number_fault kind text
first-of kind text s is h other =
    let bytes = line text ++ s in
    let faults = line_fault kind bytes (line_width bytes) in
    ap (λ t. if t && not (10 == get_or bytes 0 0) then faults else NoLineEnd) is ∙ ap (λ t. if not t then faults else NoLineEnd) other
    ∙ ap (line_fault kind bytes) (line-whole text s h) ∙ ap (number_fault kind) (line-text text s)

-- it is wrong right after the byte of the kind
number-first : (kind : ℕ) (text s : List ℕ) → is_number_kind kind ≡ true → AreInLine text
    → fault (kind ∷ []) (line text ++ s) ≡ number_fault kind text
number-first kind [] s is h = first-of kind [] s is h refl
number-first kind (t ∷ ts) s is h = first-of kind (t ∷ ts) s is h (no-newline t h.0)

-- the line of a number is left, since it is wrong
wrong-at : (kind : ℕ) (cause : Cause) (whole rest after : Source ℕ) (text : List ℕ)
    → is_number_kind kind ≡ true → whole ≡ rest → IsAhead whole (line text) after
    → AreInLine text → cause ≡ number_fault kind text
    → HasFault cause (kind ∷ bytes_of whole) (bytes_of rest)
wrong-at kind cause whole rest after text is same a h wrong =
    let stands : bytes_of rest ≡ line text ++ bytes_of after = sym (ap bytes_of same) ∙ ahead-bytes whole after (line text) a in
    part-at cause (kind ∷ bytes_of whole) (kind ∷ []) (bytes_of rest) (ap (λ r. kind ∷ bytes_of r) same) (part-lacking kind [] refl)
    (wrong ∙ sym (number-first kind text (bytes_of after) is h) ∙ ap (fault (kind ∷ [])) (sym stands))

-- the text of a length is wrong
length-wrong : (above cause : Cause) (text : List ℕ) → IsWrongLength above cause text
    → cause ≡ length_fault above (count_of text)
length-wrong above cause text (inl (is, lacks)) =
    is ∙ ap (length_fault above) (sym (count-none text (λ n small e. lacks (Some n) (omega (arith, small), small, e))))
length-wrong above cause text (inr (is, (n, counts))) =
    is ∙ ap (length_fault above) (sym (count-length greatest_count text n counts))

-- an integer breaks off
integer-at : (cause : Cause) (whole rest : Source ℕ)
    → NumberBreaksOff IsInteger (IsWrongInteger cause) cause whole rest
    → HasFault cause (58 ∷ bytes_of whole) (bytes_of rest)
integer-at cause whole rest (inl h) = line-at 58 most_digits cause whole rest (λ e. omega arith) h
integer-at cause whole rest (inr (same, (text, (after, (a, fits, lacks, wrong))))) =
    wrong-at 58 cause whole rest after text refl same a fits.0 wrong

-- ---- Bulk strings

-- what is wrong with the bytes of a bulk string that has begun
bulk-begun : (text more rest : List ℕ) (count : ℕ) → AreInLine text → count_of text ≡ Some count
    → begun_fault (36 ∷ (line text ++ more)) rest ≡ (if nat_lt (length more) count then EndsInside else NoLineEnd)
bulk-begun [] more rest count h is = ap (λ b. if b then EndsInside else NoLineEnd) (short-bulk [] more count h is)
bulk-begun (t ∷ ts) more rest count h is = ap (λ b. if b then EndsInside else NoLineEnd) (short-bulk (t ∷ ts) more count h is)

-- the input ends in the bytes of a bulk string
short-at : (text : List ℕ) (count : ℕ) (rest : Source ℕ) → AreInLine text
    → count_of text ≡ Some count → 0 < count
    → fault (36 ∷ (line text ++ [])) (bytes_of rest) ≡ EndsInside
short-at text count [] h is some = refl
short-at text count (x ∷ xs) h is some =
    let few : nat_lt 0 count ≡ true = grind (arith, nat_tests, some) in
    bulk-begun text [] (bytes_of (x ∷ xs)) count h is ∙ ap (λ b. if b then EndsInside else NoLineEnd) few

-- a line end is missing after the bytes of a bulk string
held-at : (cause : Cause) (text held : List ℕ) (count : ℕ) (whole after rest : Source ℕ)
    → AreInLine text → count_of text ≡ Some count → count ≤ length held → length held < count + 2
    → IsAhead whole (line text) after → bytes_of after ≡ held ++ bytes_of rest
    → cause ≡ cause_at rest NoLineEnd → HasFault cause (36 ∷ bytes_of whole) (bytes_of rest)
held-at cause text held count whole after rest h is enough few a e wrong =
    let full : nat_lt (length held) count ≡ false = grind (arith, nat_tests, enough) in
    part-at cause (36 ∷ bytes_of whole) (36 ∷ (line text ++ held)) (bytes_of rest)
    (ap (λ t. 36 ∷ t) (ahead-bytes whole after (line text) a ∙ ap (λ t. line text ++ t) e ∙ sym (append_assoc (line text) held (bytes_of rest))))
    (part-short text held count h is few)
    (wrong ∙ over-at rest NoLineEnd (36 ∷ (line text ++ held)) (λ x xs s. bulk-begun text held (bytes_of rest) count h is ∙ ap (λ b. if b then EndsInside else NoLineEnd) full))

-- a bulk string breaks off
bulk-at : (cause : Cause) (longest : ℕ) (whole rest : Source ℕ)
    → BulkBreaksOff false cause longest whole rest
    → HasFault cause (36 ∷ bytes_of whole) (bytes_of rest)
bulk-at cause longest whole rest (inl (inl h)) = line-at 36 most_digits cause whole rest (λ e. omega arith) h
bulk-at cause longest whole rest (inl (inr (same, (text, (after, (a, fits, lacks, wrong)))))) =
    wrong-at 36 cause whole rest after text refl same a fits.0 (length-wrong TooLong cause text wrong)
bulk-at cause longest whole rest (inr (text, (count, (after, (is, a, inl (over, few, left)))))) =
    let h = length-in_line longest text (Some count) is in
    let counts = count-length longest text count is in
    part-at cause (36 ∷ bytes_of whole) (36 ∷ (line text ++ [])) (bytes_of rest)
    (ap (λ t. 36 ∷ t) (ahead-bytes whole after (line text) a ∙ ap (λ s. line text ++ bytes_of s) (sym left) ∙ ap (λ t. t ++ bytes_of rest) (sym (append-nil (line text)))))
    (part-short text [] count h counts (omega arith)) (over ∙ sym (short-at text count rest h counts (omega (arith, few))))
bulk-at cause longest whole rest (inr (text, (count, (after, (is, a, inr (held, (end, (b, enough, (wrong, inl (same, none)))))))))) =
    held-at cause text held count whole after rest (length-in_line longest text (Some count) is) (count-length longest text count is) (omega (arith, enough)) (omega (arith, enough)) a
    (ahead-bytes after end held b ∙ ap (λ s. held ++ bytes_of s) same) wrong
bulk-at cause longest whole rest (inr (text, (count, (after, (is, a, inr (held, (end, (b, enough, (wrong, inr (stands, none)))))))))) =
    let long = length-append held (13 ∷ []) in
    held-at cause text (held ++ 13 ∷ []) count whole after rest (length-in_line longest text (Some count) is) (count-length longest text count is) (omega (arith, enough, long)) (omega (arith, enough, long)) a
    (ahead-bytes after end held b ∙ ap (λ t. held ++ t) (ahead-bytes end rest (13 ∷ []) stands) ∙ sym (append_assoc held (13 ∷ []) (bytes_of rest))) wrong

-- ---- Whole parts before

-- what follows these bytes ends in the same part with them
abbrev Skips : List ℕ → Type 0
Skips bytes = (s begun : List ℕ) → EndsInPart s begun → EndsInPart (bytes ++ s) begun

-- bytes, and then more bytes
skips-join : (a b : List ℕ) → Skips a → Skips b → Skips (a ++ b)
skips-join a b one two s begun h = subst (λ t. EndsInPart t begun) (sym (append_assoc a b s)) (one (b ++ s) begun (two s begun h))

-- the byte of a kind and a line are a part
line-skips : (kind : ℕ) (text : List ℕ) → (36 == kind) ≡ false → AreInLine text
    → Skips (kind ∷ line text)
line-skips kind text other h s begun k =
    ends-more (length text + 3) (kind ∷ line text) s begun (part-other kind text s other h) (omega (arith, length-line-of text)) k

-- a bulk string is a part
bulk-skips : (longest : ℕ) (text held : List ℕ) → IsLength longest text (Some (length held))
    → Skips (36 ∷ (line text ++ line held))
bulk-skips longest text held is s begun k =
    let whole : part_width ((36 ∷ (line text ++ line held)) ++ s) ≡ Some (length text + length held + 5) =
    ap (λ t. part_width (36 ∷ t)) (append_assoc (line text) (line held) s)
    ∙ part-held text held s (length-in_line longest text (Some (length held)) is) (count-length longest text (length held) is) in
    ends-more (length text + length held + 5) (36 ∷ (line text ++ line held)) s begun whole (omega (arith, length-append (line text) (line held), length-line-of text, length-line-of held)) k

-- the null bulk string is a part
null-skips : Skips (36 ∷ line no_length)
null-skips s begun k = ends-more 5 (36 ∷ line no_length) s begun (part-null s null-count) refl k

module _ (longest : ℕ) (spells : Reply → List ℕ → Type 0) (one : (y : Reply) (t : List ℕ) → spells y t → Skips t) where
  -- replies in a row are parts
  all-skips : (ys : List Reply) (t : List ℕ) → SpellAll spells ys t → Skips t
  all-skips [] t h = subst Skips (sym h) (λ s begun k. k)
  all-skips (y ∷ ys) t (first, (more, (e, s, all))) =
      subst Skips (sym e) (skips-join first more (one y first s) (all-skips ys more all))

  -- a reply is parts
  layer-skips : (f : Reply-F Reply) (t : List ℕ) → SpellsLayer longest spells f t → Skips t
  layer-skips (Simple v) t h = subst Skips (sym h.1) (line-skips 43 v.items refl h.0.0)
  layer-skips (Error v) t h = subst Skips (sym h.1) (line-skips 45 v.items refl h.0.0)
  layer-skips (Integer n) t (text, (is, e)) = subst Skips (sym e) (line-skips 58 text refl (integer-line text n is).0)
  layer-skips (Bulk v) t (text, (is, e)) = subst Skips (sym e) (bulk-skips longest text v.items is)
  layer-skips NullBulk t h = subst Skips (sym h) null-skips
  layer-skips (Array v) t (text, (more, (is, all, e))) =
      subst Skips (sym e) (skips-join (42 ∷ line text) more (line-skips 42 text refl (length-in_line greatest_count text (Some (length v.items)) is)) (all-skips v.items more all))
  layer-skips NullArray t h = subst Skips (sym h) (line-skips 42 no_length refl (refl, (refl, tt)))

-- the bytes of a reply are whole parts
spells-skips : (longest depth : ℕ) (y : Reply) (t : List ℕ) → Spells longest depth y t → Skips t
spells-skips longest zero y t h = layer-skips longest SpellsNone (λ z u k. absurd k) (out-Reply y) t h
spells-skips longest (suc depth) y t h = layer-skips longest (Spells longest depth) (spells-skips longest depth) (out-Reply y) t h

-- after whole parts the same is wrong
after-at : (cause : Cause) (p bytes more rest : List ℕ) → Skips p → bytes ≡ p ++ more
    → HasFault cause more rest → HasFault cause bytes rest
after-at cause p bytes more rest skips e (before, (f, (begun, (last, is)))) =
    (p ++ before, (e ∙ ap (λ t. p ++ t) f ∙ sym (append_assoc p before rest), (begun, (skips before begun last, is))))

-- ---- Replies

module _ (cause : Cause) (longest : ℕ) (spells : Reply → List ℕ → Type 0) (one : (y : Reply) (t : List ℕ) → spells y t → Skips t) (stops : Source ℕ → Source ℕ → Type 0) (stop : (r s : Source ℕ) → stops r s → HasFault cause (bytes_of r) (bytes_of s)) where
  -- an array breaks off
  array-at : (most : ℕ) (whole rest : Source ℕ) → ArrayBreaksOff spells stops cause most whole rest
      → HasFault cause (42 ∷ bytes_of whole) (bytes_of rest)
  array-at most whole rest (inl (inl h)) = line-at 42 most_digits cause whole rest (λ e. omega arith) h
  array-at most whole rest (inl (inr (same, (text, (after, (a, fits, lacks, wrong)))))) =
      wrong-at 42 cause whole rest after text refl same a fits.0 (length-wrong TooDeep cause text wrong)
  array-at most whole rest (inr (text, (count, (after, (is, a, (replies, (bytes, (next, (b, all, few, h))))))))) =
      after-at cause (42 ∷ line text) (42 ∷ bytes_of whole) (bytes_of after) (bytes_of rest) (line-skips 42 text refl (length-in_line most text (Some count) is)) (ap (λ t. 42 ∷ t) (ahead-bytes whole after (line text) a))
      (after-at cause bytes (bytes_of after) (bytes_of next) (bytes_of rest) (all-skips longest spells one replies bytes all) (ahead-bytes after next bytes b) (stop next rest h))

  -- what follows the byte of a kind breaks off
  body-at : (most kind : ℕ) (whole rest : Source ℕ)
      → BodyBreaksOff spells stops false cause longest most kind whole rest
      → HasFault cause (kind ∷ bytes_of whole) (bytes_of rest)
  body-at most kind whole rest (inl (inl e, h)) =
      subst (λ c. HasFault cause (c ∷ bytes_of whole) (bytes_of rest)) (sym e) (line-at 43 longest cause whole rest (λ k. cc) h)
  body-at most kind whole rest (inl (inr e, h)) =
      subst (λ c. HasFault cause (c ∷ bytes_of whole) (bytes_of rest)) (sym e) (line-at 45 longest cause whole rest (λ k. cc) h)
  body-at most kind whole rest (inr (inl (e, h))) =
      subst (λ c. HasFault cause (c ∷ bytes_of whole) (bytes_of rest)) (sym e) (integer-at cause whole rest h)
  body-at most kind whole rest (inr (inr (inl (e, h)))) =
      subst (λ c. HasFault cause (c ∷ bytes_of whole) (bytes_of rest)) (sym e) (bulk-at cause longest whole rest h)
  body-at most kind whole rest (inr (inr (inr (e, h)))) =
      subst (λ c. HasFault cause (c ∷ bytes_of whole) (bytes_of rest)) (sym e) (array-at most whole rest h)

  -- a reply breaks off
  layer-at : (most : ℕ) (whole rest : Source ℕ)
      → LayerBreaksOff spells stops false cause longest most whole rest
      → HasFault cause (bytes_of whole) (bytes_of rest)
  layer-at most whole rest (kind, (after, (is, a, h))) =
      subst (λ t. HasFault cause t (bytes_of rest)) (sym (ahead-bytes whole after (kind ∷ []) a)) (body-at most kind after rest h)

-- a reply within the limits breaks off
breaks-at : (cause : Cause) (longest depth : ℕ) (whole rest : Source ℕ)
    → BreaksOff false cause longest depth whole rest
    → HasFault cause (bytes_of whole) (bytes_of rest)
breaks-at cause longest zero whole rest h =
    layer-at cause longest SpellsNone (λ y t k. absurd k) (λ r s. ⊥) (λ r s k. absurd k) 0 whole rest h
breaks-at cause longest (suc depth) whole rest h =
    layer-at cause longest (Spells longest depth) (spells-skips longest depth) (StopsAt cause (BreaksOff false cause longest depth))
    (λ r s k. elim k [
      | inl none ↦ none-at cause r s none
      | inr breaks ↦ breaks-at cause longest depth r s breaks
    ]) greatest_count whole rest h

-- a damaged reply has the fault
damaged-at : (longest depth : ℕ) (cause : Cause) (whole rest : Source ℕ)
    → IsDamaged longest depth cause whole rest
    → HasFault cause (bytes_of whole) (bytes_of rest)
damaged-at longest depth cause whole rest (inl h) = none-at cause whole rest h
damaged-at longest depth cause whole rest (inr h) = breaks-at cause longest depth whole rest h

-- ---- The cause that is told

-- what is wrong with the part that the bytes before end in is the cause
pub cause-told : (told : Cause) (before rest begun : List ℕ) → EndsInPart before begun
    → told ≡ fault begun rest → IsCauseOf told before rest
cause-told told before rest begun last is longest depth whole after cause e f h =
    let k = damaged-at longest depth cause whole after h in
    let same : k.0 ≡ before = append_cancel_right k.0 before rest (ap (λ t. k.0 ++ t) (sym f) ∙ sym k.1.0 ∙ e) in
    let other = subst (λ b. EndsInPart b k.1.1.0) same k.1.1.1.0 in
    let one : k.1.1.0 ≡ begun = ends-once other.0 last.0 before k.1.1.0 begun other.1 last.1 in
    is ∙ ap (λ b. fault b rest) (sym one) ∙ ap (fault k.1.1.0) (sym f) ∙ sym k.1.1.1.1

-- ---- More input

-- the text of the line that stands first is wrong in the same way when more follows
line-stays : (kind : ℕ) (bytes more : List ℕ) (w : Option ℕ) → line_width bytes ≡ w
    → ¬ (line_fault kind bytes (line_width bytes) ≡ EndsInside)
    → line_fault kind (bytes ++ more) (line_width (bytes ++ more)) ≡ line_fault kind bytes (line_width bytes)
line-stays kind bytes more None e other = absurd (other (ap (line_fault kind bytes) e))
line-stays kind bytes more (Some w) e other =
    let k = line-stands bytes w e in
    let text = k.0 in
    let after = k.1.0 in
    let longer : bytes ++ more ≡ line text ++ (after ++ more) = ap (λ t. t ++ more) k.1.1.0 ∙ append_assoc (line text) after more in
    let faults = λ (t : List ℕ). line_fault kind t (line_width t) in
    let here : (s : List ℕ) → faults (line text ++ s) ≡ number_fault kind text = λ s.
    ap (line_fault kind (line text ++ s)) (line-whole text s k.1.1.1) ∙ ap (number_fault kind) (line-text text s) in
    ap faults longer ∙ here (after ++ more) ∙ sym (here after) ∙ ap faults (sym k.1.1.0)

-- what is wrong right after the byte of a kind stays so
first-stays : (kind c : ℕ) (rest more : List ℕ) (b : Bool)
    → (is_number_kind kind && not (10 == c)) ≡ b → ¬ (first_fault kind (c ∷ rest) ≡ EndsInside)
    → first_fault kind (c ∷ (rest ++ more)) ≡ first_fault kind (c ∷ rest)
first-stays kind c rest more false e other =
    let here = line_fault kind (c ∷ rest) (line_width (c ∷ rest)) in
    let there = line_fault kind (c ∷ (rest ++ more)) (line_width (c ∷ (rest ++ more))) in
    ap (λ t. if t then there else NoLineEnd) e ∙ sym (ap (λ t. if t then here else NoLineEnd) e)
first-stays kind c rest more true e other =
    let here = line_fault kind (c ∷ rest) (line_width (c ∷ rest)) in
    let there = line_fault kind (c ∷ (rest ++ more)) (line_width (c ∷ (rest ++ more))) in
    let one : first_fault kind (c ∷ rest) ≡ here = ap (λ t. if t then here else NoLineEnd) e in
    ap (λ t. if t then there else NoLineEnd) e ∙ line-stays kind (c ∷ rest) more (line_width (c ∷ rest)) refl (λ k. other (one ∙ k)) ∙ sym one

-- what is wrong stays so when more follows, unless the input ended
fault-stays : (begun rest more : List ℕ) → ¬ (fault begun rest ≡ EndsInside)
    → fault begun (rest ++ more) ≡ fault begun rest
fault-stays begun [] more other = absurd (other refl)
fault-stays [] (c ∷ rest) more other = refl
fault-stays (kind ∷ []) (c ∷ rest) more other = first-stays kind c rest more (is_number_kind kind && not (10 == c)) refl other
fault-stays (kind ∷ b ∷ begun) (c ∷ rest) more other = refl

-- no more input changes a cause but that the input ends
pub cause-stays : (longest depth : ℕ) (whole rest more : Source ℕ) (cause later : Cause)
    → ¬ (cause ≡ EndsInside) → IsDamaged longest depth cause whole rest
    → IsDamaged longest depth later (whole ++ more) (rest ++ more) → later ≡ cause
cause-stays longest depth whole rest more cause later other h k =
    let one = damaged-at longest depth cause whole rest h in
    let two = damaged-at longest depth later (whole ++ more) (rest ++ more) k in
    let over : bytes_of (rest ++ more) ≡ bytes_of rest ++ bytes_of more = map-append (λ x. x.0) rest more in
    let all : bytes_of (whole ++ more) ≡ one.0 ++ bytes_of (rest ++ more) =
    map-append (λ x. x.0) whole more ∙ ap (λ t. t ++ bytes_of more) one.1.0 ∙ append_assoc one.0 (bytes_of rest) (bytes_of more) ∙ ap (λ t. one.0 ++ t) (sym over) in
    let same : two.0 ≡ one.0 = append_cancel_right two.0 one.0 (bytes_of (rest ++ more)) (sym two.1.0 ∙ all) in
    let begun = one.1.1.0 in
    let last = subst (λ b. EndsInPart b two.1.1.0) same two.1.1.1.0 in
    let part : two.1.1.0 ≡ begun = ends-once last.0 one.1.1.1.0.0 one.0 two.1.1.0 begun last.1 one.1.1.1.0.1 in
    let is : cause ≡ fault begun (bytes_of rest) = one.1.1.1.1 in
    two.1.1.1.1 ∙ ap (λ b. fault b (bytes_of (rest ++ more))) part ∙ ap (fault begun) over
    ∙ fault-stays begun (bytes_of rest) (bytes_of more) (λ e. other (is ∙ e)) ∙ sym is
