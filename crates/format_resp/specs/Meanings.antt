-- The meaning of the parser of replies, as it is written with the combinators.
use Rattle.std.specs.Prelude.{◌≡◌, ℕ, zero, suc, ◌-◌, ◌<◌, ◌==◌, Bool, ◌||◌, List, Option, Some, None, ◌⊎◌, ⊤, ℤ}
use Rattle.std.proofs.Common.{ap, sym, inl, inr, arith}
use Rattle.std.specs.declared.vec.Vec.{Vec}
use Rattle.std.specs.declared.alloc.Global.{Global}
use Rattle.winnow_stream.specs.Source.{Source}
use Rattle.winnow_stream.specs.Longer.{SlicesStay}
use Rattle.winnow_count.specs.CountRange.{HasCounts}
use Rattle.winnow_count.specs.Reading.{IsSomeExactly}
use Rattle.winnow_parser.specs.Outcome.{Meaning}
use Rattle.winnow_parser.specs.Laws.{IsParser, IsStable, IsFinal, IsOnward}
use Rattle.winnow_parser.specs.Meanings.{Returns, Maps, Pair, IsTerminated, CutsErr, VerifyMaps}
use Rattle.winnow_parser.specs.Parts.{IsParser-Returns, IsParser-Maps, IsParser-Pair, IsParser-IsTerminated, IsParser-CutsErr, IsParser-VerifyMaps}
use Rattle.winnow_parser.specs.FlatMap.{FlatMaps, IsParser-FlatMaps}
use Rattle.winnow_token.specs.OneOf.{IsOneOf, IsParser-IsOneOf}
use Rattle.winnow_token.specs.TakeWhile.{TakesWhile, IsParser-TakesWhile}
use Rattle.winnow_token.specs.declared.parsers.take_till.TakeTill.{TakeTill}
use Rattle.winnow_token.specs.declared.parsers.one_of.OneOf.{OneOf}
use Rattle.winnow_combinator.specs.declared.parsers.terminated.Terminated.{Terminated}
use Rattle.winnow_token.specs.Take.{Takes, IsParser-Takes}
use Rattle.winnow_combinator.specs.Counts.{Ascending, IsParser-Ascending}
use Rattle.winnow_combinator.specs.Ending.{IsFail, IsParser-IsFail}
use Rattle.winnow_combinator.specs.Repeat.{Repeats, IsParser-Repeats}
use Rattle.winnow_combinator.specs.Gathering.{Gathered, IsParser-Gathered}
use Rattle.format_resp.specs.Language.{is_in_line, IsInteger, IsLength, greatest_count}
use Rattle.format_resp.specs.declared.reply.Reply.{Reply}
use Rattle.format_resp.specs.declared.reply.Reply.TheOpen.{Simple, Error, Integer, Bulk, NullBulk, Array, NullArray}
use Rattle.format_resp.specs.declared.reply.Reply.TheViews.{out-Reply}

-- the reply is a simple string with the bytes of the vector as its text
abbrev pub IsSimple : Vec ℕ Global → Reply → Type 0
IsSimple text reply = out-Reply reply ≡ Simple text

-- the reply is an error with the bytes of the vector as its text
abbrev pub IsError : Vec ℕ Global → Reply → Type 0
IsError text reply = out-Reply reply ≡ Error text

-- the reply is this integer
abbrev pub IsNumber : ℤ → Reply → Type 0
IsNumber n reply = out-Reply reply ≡ Integer n

-- the reply is a bulk string of the bytes of the vector
abbrev pub IsBulk : Vec ℕ Global → Reply → Type 0
IsBulk held reply = out-Reply reply ≡ Bulk held

-- the reply is the bulk string that is null
abbrev pub IsNullBulk : Unit {0} → Reply → Type 0
IsNullBulk nothing reply = out-Reply reply ≡ NullBulk

-- the reply is an array of the replies in the vector
abbrev pub IsArray : Vec Reply Global → Reply → Type 0
IsArray replies reply = out-Reply reply ≡ Array replies

-- the reply is the array that is null
abbrev pub IsNullArray : Unit {0} → Reply → Type 0
IsNullArray nothing reply = out-Reply reply ≡ NullArray

-- the byte is that of a kind: + - : $ or *
abbrev pub is_kind : ℕ → Bool
is_kind c = 43 == c || (45 == c || (58 == c || (36 == c || 42 == c)))

-- the more digits of a number, with its sign, that are read: no number of 64 bits has as many
abbrev pub most_digits : ℕ
most_digits = 21

-- the vector has the bytes of the slice
abbrev pub HasBytes : {S : Type 0} → (S → List ℕ) → S → Vec ℕ Global → Type 0
HasBytes bytes slice vector = vector.items ≡ bytes slice

-- the vector has these replies
abbrev pub HasReplies : List Reply → Vec Reply Global → Type 0
HasReplies replies vector = vector.items ≡ replies

-- both values are the same
abbrev pub IsSame : {A : Type 0} → A → A → Type 0
IsSame x y = x ≡ y

-- the token has this code
abbrev pub IsCode : {T : Type 0} → (T → ℕ) → T → ℕ → Type 0
IsCode code token c = code token ≡ c

-- the second meaning, where the kind is this one
abbrev pub Of : {O T : Type 0} → ℕ → ℕ → Meaning O T → Meaning O T
Of byte kind means partial a v = (kind ≡ byte) × means partial a v

-- what one meaning allows, or the other
abbrev pub Or : {O T : Type 0} → Meaning O T → Meaning O T → Meaning O T
Or first second partial a v = first partial a v ⊎ second partial a v

-- `Of` keeps the laws of a parser
IsParser-Of : {O T : Type 0} (byte kind : ℕ) (means : Meaning O T) → IsParser means
    → IsParser (Of byte kind means)
IsParser-Of byte kind means p = record {
  stable = λ more partial a v s h. (h.0, p.stable more partial a v s h.1);
  final = λ a n h. p.final a n h.1;
  onward = λ partial a v h. p.onward partial a v h.1;
}

module _ {O T : Type 0} (first second : Meaning O T) (p : IsParser first) (q : IsParser second) where
  -- a settled answer of `Or` stays when more input follows
  or-stable : IsStable (Or first second)
  or-stable more partial a v s (inl h) = inl (p.stable more partial a v s h)
  or-stable more partial a v s (inr h) = inr (q.stable more partial a v s h)

  -- `Or` needs nothing more where nothing more may follow
  or-final : IsFinal (Or first second)
  or-final a n (inl h) = p.final a n h
  or-final a n (inr h) = q.final a n h

  -- `Or` only moves the stream on
  or-onward : IsOnward (Or first second)
  or-onward partial a v (inl h) = p.onward partial a v h
  or-onward partial a v (inr h) = q.onward partial a v h

  -- `Or` keeps the laws of a parser
  IsParser-Or : IsParser (Or first second)
  IsParser-Or = record { stable = or-stable; final = or-final; onward = or-onward }

-- the end of a line
abbrev pub LineEnd : {T : Type 0} → (T → ℕ) → Meaning (T × T) T
LineEnd code = Pair (IsOneOf (λ token. 13 == code token)) (IsOneOf (λ token. 10 == code token))

-- `LineEnd` keeps the laws of a parser
IsParser-LineEnd : {T : Type 0} (code : T → ℕ) → IsParser (LineEnd code)
IsParser-LineEnd code = IsParser-Pair _ _ (IsParser-IsOneOf (λ token. 13 == code token)) (IsParser-IsOneOf (λ token. 10 == code token))

-- the parser takes a text of at most that many bytes, and the end of its line
abbrev pub IsLine : ℕ → Terminated (TakeTill (ℕ × ℕ)) (OneOf ℕ × OneOf ℕ) → Type 0
IsLine longest p = (p.first.set ≡ (13, 10)) × HasCounts 0 (Some longest) p.first.counts
    × (p.second.0.set ≡ 13) × (p.second.1.set ≡ 10)

module _ {S T : Type 0} (code : T → ℕ) (counts_shortage : Bool) (is_slice : S → Source T → ℕ → Type 0) (bytes : S → List ℕ) where
  -- a text of at most that many bytes, and the end of its line
  abbrev pub Line : ℕ → Meaning S T
  Line longest = IsTerminated (TakesWhile is_slice (λ token. is_in_line (code token)) 0 (Some longest)) (LineEnd code)

  -- the bytes of such a text; the parser cuts where it is missing
  abbrev pub Text : ℕ → Meaning (Vec ℕ Global) T
  Text longest = Gathered ⊤ (HasBytes bytes) (CutsErr (Line longest))

  -- the integer on a line; the parser cuts where it is missing, at the start of the line
  abbrev pub Number : Meaning ℤ T
  Number = CutsErr (VerifyMaps (λ slice n. IsSomeExactly (IsInteger (bytes slice)) n) (Line most_digits))

  -- the length on a line; the parser cuts where it is missing, at the start of the line
  abbrev pub Length : ℕ → Meaning (Option ℕ) T
  Length greatest = CutsErr (VerifyMaps (λ slice n. IsSomeExactly (IsLength greatest (bytes slice)) n) (Line most_digits))

  -- that many bytes, and the end of a line; the parser cuts where they are missing
  abbrev pub Bytes : ℕ → Meaning (Vec ℕ Global) T
  Bytes n = Gathered ⊤ (HasBytes bytes) (CutsErr (IsTerminated (Takes counts_shortage is_slice n) (LineEnd code)))

  -- what follows the length of a bulk string
  abbrev pub BulkOf : Option ℕ → Meaning Reply T
  BulkOf None = Maps IsNullBulk (Returns tt)
  BulkOf (Some n) = Maps IsBulk (Bytes n)

  -- a bulk string, after the byte of its kind
  abbrev pub BulkString : ℕ → Meaning Reply T
  BulkString longest = FlatMaps IsSame BulkOf (Length longest)

  -- that many replies that the inner meaning gives; the parser cuts where one is missing
  abbrev pub Elements : Meaning Reply T → ℕ → Meaning (Vec Reply Global) T
  Elements inner n = CutsErr (Ascending n (Some n) (Gathered ⊤ HasReplies (Repeats n (Some n) inner)))

  -- what follows the length of an array
  abbrev pub ArrayOf : Meaning Reply T → Option ℕ → Meaning Reply T
  ArrayOf inner None = Maps IsNullArray (Returns tt)
  ArrayOf inner (Some n) = Maps IsArray (Elements inner n)

  -- an array of at most that many replies, after the byte of its kind
  abbrev pub ArrayReply : ℕ → Meaning Reply T → Meaning Reply T
  ArrayReply most inner = FlatMaps IsSame (ArrayOf inner) (Length most)

  -- a reply that is no array, after the byte of its kind
  abbrev pub Scalar : ℕ → ℕ → Meaning Reply T
  Scalar longest kind = Or (Of 43 kind (Maps IsSimple (Text longest))) (Or (Of 45 kind (Maps IsError (Text longest)))
      (Or (Of 58 kind (Maps IsNumber Number)) (Of 36 kind (BulkString longest))))

  -- a reply, after the byte of its kind
  abbrev pub Body : ℕ → ℕ → Meaning Reply T → ℕ → Meaning Reply T
  Body longest most inner kind = Or (Of 42 kind (ArrayReply most inner)) (Scalar longest kind)

  -- a reply, with at most that many replies in it if it is an array
  abbrev pub Layer : ℕ → ℕ → Meaning Reply T → Meaning Reply T
  Layer longest most inner = FlatMaps (IsCode code) (Body longest most inner) (IsOneOf (λ token. is_kind (code token)))

  -- a reply that stands within at most `depth` arrays: at depth 0 no reply stands in an array
  abbrev pub Nested : ℕ → ℕ → Meaning Reply T
  Nested longest zero = Layer longest 0 IsFail
  Nested longest (suc depth) = Layer longest greatest_count (Nested longest depth)

  -- `Nested` at depth 0 has no elements
  pub Nested-zero : (longest depth : ℕ) → depth ≡ 0 → Layer longest 0 IsFail ≡ Nested longest depth
  Nested-zero longest depth e = ap (Nested longest) (sym e)

  -- `Nested` at another depth is the layer over the one below
  pub Nested-suc : (longest depth : ℕ) → 0 < depth
      → Layer longest greatest_count (Nested longest (depth - 1)) ≡ Nested longest depth
  Nested-suc longest zero l = absurd (omega (arith, l))
  Nested-suc longest (suc depth) l = ap (λ n. Layer longest greatest_count (Nested longest n)) (omega arith)

  -- ---- The laws

  module _ (stay : SlicesStay is_slice) where
    -- `Line` keeps the laws of a parser
    IsParser-Line : (longest : ℕ) → IsParser (Line longest)
    IsParser-Line longest = IsParser-IsTerminated _ _ (IsParser-TakesWhile is_slice stay (λ token. is_in_line (code token)) 0 (Some longest)) (IsParser-LineEnd code)

    -- `Text` keeps the laws of a parser
    IsParser-Text : (longest : ℕ) → IsParser (Text longest)
    IsParser-Text longest = IsParser-Gathered ⊤ (HasBytes bytes) (IsParser-CutsErr _ (IsParser-Line longest))

    -- `Number` keeps the laws of a parser
    IsParser-Number : IsParser Number
    IsParser-Number = IsParser-CutsErr _ (IsParser-VerifyMaps (λ slice n. IsSomeExactly (IsInteger (bytes slice)) n) _ (IsParser-Line most_digits))

    -- `Length` keeps the laws of a parser
    IsParser-Length : (greatest : ℕ) → IsParser (Length greatest)
    IsParser-Length greatest =
        IsParser-CutsErr _ (IsParser-VerifyMaps (λ slice n. IsSomeExactly (IsLength greatest (bytes slice)) n) _ (IsParser-Line most_digits))

    -- `Bytes` keeps the laws of a parser
    IsParser-Bytes : (n : ℕ) → IsParser (Bytes n)
    IsParser-Bytes n = IsParser-Gathered ⊤ (HasBytes bytes)
        (IsParser-CutsErr _ (IsParser-IsTerminated _ _ (IsParser-Takes counts_shortage is_slice stay n) (IsParser-LineEnd code)))

    -- `BulkOf` keeps the laws of a parser
    IsParser-BulkOf : (n : Option ℕ) → IsParser (BulkOf n)
    IsParser-BulkOf None = IsParser-Maps IsNullBulk _ (IsParser-Returns tt)
    IsParser-BulkOf (Some n) = IsParser-Maps IsBulk _ (IsParser-Bytes n)

    -- `Scalar` keeps the laws of a parser
    IsParser-Scalar : (longest kind : ℕ) → IsParser (Scalar longest kind)
    IsParser-Scalar longest kind =
        IsParser-Or _ _ (IsParser-Of 43 kind _ (IsParser-Maps IsSimple _ (IsParser-Text longest)))
        (IsParser-Or _ _ (IsParser-Of 45 kind _ (IsParser-Maps IsError _ (IsParser-Text longest)))
        (IsParser-Or _ _ (IsParser-Of 58 kind _ (IsParser-Maps IsNumber _ IsParser-Number))
        (IsParser-Of 36 kind _ (IsParser-FlatMaps IsSame BulkOf _ IsParser-BulkOf (IsParser-Length longest)))))

    module _ (inner : Meaning Reply T) (p : IsParser inner) where
      -- `Elements` keeps the laws of a parser
      IsParser-Elements : (n : ℕ) → IsParser (Elements inner n)
      IsParser-Elements n = IsParser-CutsErr _ (IsParser-Ascending n (Some n) (IsParser-Gathered ⊤ HasReplies (IsParser-Repeats n (Some n) p)))

      -- `ArrayOf` keeps the laws of a parser
      IsParser-ArrayOf : (n : Option ℕ) → IsParser (ArrayOf inner n)
      IsParser-ArrayOf None = IsParser-Maps IsNullArray _ (IsParser-Returns tt)
      IsParser-ArrayOf (Some n) = IsParser-Maps IsArray _ (IsParser-Elements n)

      -- `Body` keeps the laws of a parser
      IsParser-Body : (longest most kind : ℕ) → IsParser (Body longest most inner kind)
      IsParser-Body longest most kind =
          IsParser-Or _ _ (IsParser-Of 42 kind _ (IsParser-FlatMaps IsSame (ArrayOf inner) _ IsParser-ArrayOf (IsParser-Length most)))
          (IsParser-Scalar longest kind)

      -- `Layer` keeps the laws of a parser
      IsParser-Layer : (longest most : ℕ) → IsParser (Layer longest most inner)
      IsParser-Layer longest most = IsParser-FlatMaps (IsCode code) (Body longest most inner) _ (IsParser-Body longest most) (IsParser-IsOneOf (λ token. is_kind (code token)))

    -- `Nested` keeps the laws of a parser
    pub IsParser-Nested : (longest depth : ℕ) → IsParser (Nested longest depth)
    IsParser-Nested longest zero = IsParser-Layer IsFail IsParser-IsFail longest 0
    IsParser-Nested longest (suc depth) = IsParser-Layer (Nested longest depth) (IsParser-Nested longest depth) longest greatest_count
