-- The parser of a reply of the Redis protocol is punctual.
use Rattle.std.proofs.Common.{◌≡◌, ◌==◌, ℕ, zero, suc, Bool, true, List, ◌++◌, Option, Some, None, refl, inl, inr, sym, ap, ◌∙◌, subst, take-append-drop}
use Rattle.std.specs.Prelude.{⊤}
use Rattle.std.proofs.lemmas.List.{append_cancel_right}
use Rattle.std.proofs.lemmas.Option.{none-some, same_Some}
use Rattle.winnow_stream.specs.Source.{Source}
use Rattle.winnow_stream.specs.Front.{front, back}
use Rattle.winnow_stream.proofs.lemmas.UnitLemmas.{units-same}
use Rattle.winnow_stream.specs.Longer.{SlicesStay}
use Rattle.winnow_count.specs.Reading.{IsSomeExactly}
use Rattle.winnow_reader.specs.Place.{IsByteSlice}
use Rattle.winnow_parser.specs.Outcome.{Ahead, Needs, Outcome, Fails, Meaning}
use Rattle.winnow_parser.specs.Laws.{longer, IsStable, IsFinal, IsOnward}
use Rattle.winnow_parser.specs.Determined.{IsDetermined, AreBothSame, AreSameIfAny, Respects, Shows, SlicesRespect}
use Rattle.winnow_combinator.specs.Ending.{IsFail}
use Rattle.winnow_liveness.specs.Live.{IsLive, IsPunctual}
use Rattle.winnow_liveness.proofs.lemmas.PunctualLemmas.{IsPunctual-IsOneOf, IsPunctual-TakesWhile, IsPunctual-Maps, IsPunctual-Gathered, IsPunctual-CutsErr, IsPunctual-VerifyMaps, IsPunctual-Repeats, IsPunctual-Pair, IsPunctual-IsTerminated}
use Rattle.winnow_liveness.proofs.lemmas.CountLemmas.{IsPunctual-Takes, IsPunctual-Returns, IsPunctual-IsFail, IsPunctual-Ascending}
use Rattle.winnow_liveness.proofs.lemmas.NextLemmas.{IsPunctual-FlatMaps}
use Rattle.format_resp.specs.Language.{is_in_line, IsInteger, IsLength, greatest_count}
use Rattle.format_resp.specs.Meanings.{IsSimple, IsError, IsNumber, IsBulk, IsNullBulk, IsArray, IsNullArray, is_kind, most_digits, HasBytes, HasReplies, IsSame, IsCode, Of, Or, LineEnd, Line, Text, Number, Length, Bytes, BulkOf, BulkString, ArrayOf, Scalar, Body, Layer, Nested}
use Rattle.format_resp.specs.declared.reply.Reply.{Reply}

-- of values nothing is compared
abbrev any : {O : Type 0} → O → O → Type 0
any x y = ⊤

no-respect : {O P : Type 0} (same : O → O → Type 0) (gives : O → P → Type 0)
    → Respects same any gives
no-respect same gives x y p q h e f = tt

-- two options that hold exactly the values of one property are the same
exactly-same : {A : Type 0} (P : A → Type 0) (r s : Option A) → IsSomeExactly P r
    → IsSomeExactly P s → AreSameIfAny ◌≡◌ r s
exactly-same P (Some x) (Some y) h k = by ((k x).1 ((h x).0 refl))
  where
    by : Some y ≡ Some x → x ≡ y
    by e = sym (same_Some _ _ e)
exactly-same P (Some x) None h k = absurd (none-some _ ((k x).1 ((h x).0 refl)))
exactly-same P None (Some y) h k = absurd (none-some _ ((h y).1 ((k y).0 refl)))
exactly-same P None None h k = tt

-- ---- A choice by the kind

module _ {O T : Type 0} {same : O → O → Type 0} (byte kind : ℕ) {means : Meaning O T}
    (p : IsPunctual same means) where
  -- a part that answers at one kind alone
  of-punctual : IsPunctual same (Of byte kind means)
  of-punctual = record {
    lawful = record {
      stable = λ more partial a v s h. (h.0, p.lawful.stable more partial a v s h.1);
      final = λ a n h. p.lawful.final a n h.1;
      onward = λ partial a v h. p.lawful.onward partial a v h.1;
    };
    once = λ partial a v w s t h k. p.once partial a v w s t h.1 k.1;
    live = λ a need more h l v k s. p.live a need more h.1 l v k.1 s;
  }

-- a meaning that answers at other kinds alone
abbrev Avoids : {O T : Type 0} → ℕ → ℕ → Meaning O T → Type 0
Avoids {O} {T} byte kind means = (partial : Bool) (a : Ahead T) (v : Outcome O T) → means partial a v → kind ≡ byte → ⊥

module _ {O T : Type 0} {same : O → O → Type 0} (byte kind : ℕ) {first second : Meaning O T}
    (p : IsPunctual same first) (q : IsPunctual same second) (apart : Avoids byte kind second) where
  -- a part of one kind, or one that avoids it, has one answer
  once-or : IsDetermined same (Or (Of byte kind first) second)
  once-or partial a v w s t (inl h) (inl k) = p.once partial a v w s t h.1 k.1
  once-or partial a v w s t (inl h) (inr k) = absurd (apart partial a w k h.0)
  once-or partial a v w s t (inr h) (inl k) = absurd (apart partial a v h k.0)
  once-or partial a v w s t (inr h) (inr k) = q.once partial a v w s t h k

  -- it is live
  live-or : IsLive (Or (Of byte kind first) second)
  live-or a need more (inl h) l v (inl k) s = p.live a need more h.1 l v k.1 s
  live-or a need more (inl h) l v (inr k) s = apart true (longer more a) v k h.0
  live-or a need more (inr h) l v (inl k) s = apart true a (Fails (Needs need)) h k.0
  live-or a need more (inr h) l v (inr k) s = q.live a need more h l v k s

  -- it keeps the laws of a parser
  or-stable : IsStable (Or (Of byte kind first) second)
  or-stable more partial a v s (inl h) = inl (h.0, p.lawful.stable more partial a v s h.1)
  or-stable more partial a v s (inr h) = inr (q.lawful.stable more partial a v s h)

  or-final : IsFinal (Or (Of byte kind first) second)
  or-final a n (inl h) = p.lawful.final a n h.1
  or-final a n (inr h) = q.lawful.final a n h

  or-onward : IsOnward (Or (Of byte kind first) second)
  or-onward partial a v (inl h) = p.lawful.onward partial a v h.1
  or-onward partial a v (inr h) = q.lawful.onward partial a v h

  -- so it is punctual
  or-punctual : IsPunctual same (Or (Of byte kind first) second)
  or-punctual = record {
    lawful = record { stable = or-stable; final = or-final; onward = or-onward };
    once = once-or;
    live = live-or;
  }

-- a part of one kind avoids another kind
of-avoids : {O T : Type 0} (byte other kind : ℕ) (means : Meaning O T) → (other ≡ byte → ⊥)
    → Avoids byte kind (Of other kind means)
of-avoids byte other kind means apart partial a v h e = apart (sym h.0 ∙ e)

-- one of two parts avoids it if both of them avoid it
or-avoids : {O T : Type 0} (byte kind : ℕ) (first second : Meaning O T) → Avoids byte kind first
    → Avoids byte kind second → Avoids byte kind (Or first second)
or-avoids byte kind first second p q partial a v (inl h) e = p partial a v h e
or-avoids byte kind first second p q partial a v (inr h) e = q partial a v h e

-- ---- The parts of a reply

module _ {S T : Type 0} (code : T → ℕ) (counts_shortage : Bool)
    (is_slice : S → Source T → ℕ → Type 0) (bytes : S → List ℕ) (stay : SlicesStay is_slice)
    (fronts : SlicesRespect is_slice (Shows bytes)) where
  -- the end of a line
  end : IsPunctual (AreBothSame ◌≡◌ ◌≡◌) (LineEnd code)
  end = IsPunctual-Pair (IsPunctual-IsOneOf (λ token. 13 == code token)) (IsPunctual-IsOneOf (λ token. 10 == code token))

  -- a line
  text_line : (longest : ℕ)
      → IsPunctual (Shows bytes) (Line code counts_shortage is_slice bytes longest)
  text_line longest =
      IsPunctual-IsTerminated (IsPunctual-TakesWhile is_slice (Shows bytes) fronts stay (λ token. is_in_line (code token)) 0 (Some longest)) end

  -- the text of a line
  text : (longest : ℕ) → IsPunctual any (Text code counts_shortage is_slice bytes longest)
  text longest =
      IsPunctual-Gathered (IsPunctual-CutsErr (text_line longest)) any ⊤ (HasBytes bytes) (no-respect (Shows bytes) (HasBytes bytes))

  -- the integer on a line
  number : IsPunctual ◌≡◌ (Number code counts_shortage is_slice bytes)
  number =
      IsPunctual-CutsErr (IsPunctual-VerifyMaps (text_line most_digits) ◌≡◌ (λ slice n. IsSomeExactly (IsInteger (bytes slice)) n)
      (λ x y r s e h k. exactly-same (IsInteger (bytes y)) r s (subst (λ t. IsSomeExactly (IsInteger t) r) e h) k))

  -- the length on a line
  size : (greatest : ℕ) → IsPunctual ◌≡◌ (Length code counts_shortage is_slice bytes greatest)
  size greatest =
      IsPunctual-CutsErr (IsPunctual-VerifyMaps (text_line most_digits) ◌≡◌ (λ slice n. IsSomeExactly (IsLength greatest (bytes slice)) n)
      (λ x y r s e h k. exactly-same (IsLength greatest (bytes y)) r s (subst (λ t. IsSomeExactly (IsLength greatest t) r) e h) k))

  -- a number of bytes, and the end of a line
  held : (n : ℕ) → IsPunctual any (Bytes code counts_shortage is_slice bytes n)
  held n =
      IsPunctual-Gathered (IsPunctual-CutsErr (IsPunctual-IsTerminated (IsPunctual-Takes is_slice (Shows bytes) fronts stay counts_shortage n) end)) any ⊤ (HasBytes bytes) (no-respect (Shows bytes) (HasBytes bytes))

  -- the bytes of a bulk string of a known length
  bulk_of : (n : Option ℕ) → IsPunctual any (BulkOf code counts_shortage is_slice bytes n)
  bulk_of None = IsPunctual-Maps (IsPunctual-Returns tt any tt) any IsNullBulk (no-respect any IsNullBulk)
  bulk_of (Some n) = IsPunctual-Maps (held n) any IsBulk (no-respect any IsBulk)

  -- the same length makes the same parser
  one-parser : Respects {O = Option ℕ} ◌≡◌ ◌≡◌ IsSame
  one-parser x y q r e f g = sym f ∙ e ∙ g

  -- a bulk string
  bulk : (longest : ℕ) → IsPunctual any (BulkString code counts_shortage is_slice bytes longest)
  bulk longest =
      IsPunctual-FlatMaps (size longest) any IsSame (BulkOf code counts_shortage is_slice bytes) one-parser bulk_of

  -- a reply that is no array
  scalar : (longest kind : ℕ)
      → IsPunctual any (Scalar code counts_shortage is_slice bytes longest kind)
  scalar longest kind =
      let simple = IsPunctual-Maps (text longest) any IsSimple (no-respect any IsSimple) in
      let error = IsPunctual-Maps (text longest) any IsError (no-respect any IsError) in
      let integer = IsPunctual-Maps number any IsNumber (no-respect ◌≡◌ IsNumber) in
      or-punctual 43 kind simple
      (or-punctual 45 kind error
      (or-punctual 58 kind integer (of-punctual 36 kind (bulk longest)) (of-avoids 58 36 kind _ (λ e. cc)))
      (or-avoids 45 kind _ _ (of-avoids 45 58 kind _ (λ e. cc)) (of-avoids 45 36 kind _ (λ e. cc))))
      (or-avoids 43 kind _ _ (of-avoids 43 45 kind _ (λ e. cc)) (or-avoids 43 kind _ _ (of-avoids 43 58 kind _ (λ e. cc)) (of-avoids 43 36 kind _ (λ e. cc))))

  -- it has no answer at the kind of an array
  scalar-avoids : (longest kind : ℕ)
      → Avoids 42 kind (Scalar code counts_shortage is_slice bytes longest kind)
  scalar-avoids longest kind =
      or-avoids 42 kind _ _ (of-avoids 42 43 kind _ (λ e. cc)) (or-avoids 42 kind _ _ (of-avoids 42 45 kind _ (λ e. cc))
      (or-avoids 42 kind _ _ (of-avoids 42 58 kind _ (λ e. cc)) (of-avoids 42 36 kind _ (λ e. cc))))

  module _ (inner : Meaning Reply T) (p : IsPunctual any inner) where
    -- an array of a known length
    array_of : (n : Option ℕ)
        → IsPunctual any (ArrayOf code counts_shortage is_slice bytes inner n)
    array_of None = IsPunctual-Maps (IsPunctual-Returns tt any tt) any IsNullArray (no-respect any IsNullArray)
    array_of (Some n) =
        let replies = IsPunctual-Gathered (IsPunctual-Repeats p n (Some n)) any ⊤ HasReplies (no-respect _ HasReplies) in
        IsPunctual-Maps (IsPunctual-CutsErr (IsPunctual-Ascending replies n (Some n))) any IsArray (no-respect any IsArray)

    -- a reply, after the byte of its kind
    body : (longest most kind : ℕ)
        → IsPunctual any (Body code counts_shortage is_slice bytes longest most inner kind)
    body longest most kind =
        or-punctual 42 kind
        (IsPunctual-FlatMaps (size most) any IsSame (ArrayOf code counts_shortage is_slice bytes inner) one-parser array_of)
        (scalar longest kind) (scalar-avoids longest kind)

    -- a reply, in which the inner parser reads the elements of an array
    layer : (longest most : ℕ)
        → IsPunctual any (Layer code counts_shortage is_slice bytes longest most inner)
    layer longest most =
        IsPunctual-FlatMaps (IsPunctual-IsOneOf (λ token. is_kind (code token))) any (IsCode code) (Body code counts_shortage is_slice bytes longest most inner)
        (λ x y q r e f g. sym f ∙ ap code e ∙ g) (body longest most)

  -- a reply, nested to a depth
  pub reply-punctual : (longest depth : ℕ)
      → IsPunctual any (Nested code counts_shortage is_slice bytes longest depth)
  reply-punctual longest zero = layer IsFail (IsPunctual-IsFail any) longest 0
  reply-punctual longest (suc depth) =
      layer (Nested code counts_shortage is_slice bytes longest depth) (reply-punctual longest depth) longest greatest_count

-- ---- Bytes

-- slices of one front have the same bytes
pub bytes-respect : SlicesRespect IsByteSlice (Shows (λ s. s.now))
bytes-respect s t a b (m, (o, h, p)) (n, (q, k, r)) =
    let rest : back a.tokens m ≡ back a.tokens n = ap (λ place. place.tokens) (p ∙ sym r) in
    let whole : front a.tokens m ++ back a.tokens m ≡ front a.tokens n ++ back a.tokens n = take-append-drop _ a.tokens ∙ sym (take-append-drop _ a.tokens) in
    let same : front a.tokens m ++ back a.tokens n ≡ front a.tokens n ++ back a.tokens n = ap (λ l. front a.tokens m ++ l) (sym rest) ∙ whole in
    units-same s.now t.now (h ∙ append_cancel_right _ _ _ same ∙ sym k)
