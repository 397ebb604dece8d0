-- What readers and writers of heads do, from what those of their parts do.
use Rattle.std.proofs.Common.{◌≡◌, ℕ, Bool, List, [], Result, Ok, Err, sym, subst, refl}
use Rattle.winnow_parser.specs.Outcome.{Ahead, Failed, Backtracks, Gives, Fails, Outcome}
use Rattle.winnow_parser.specs.Parts.{Moves-still}
use Rattle.winnow_codec.specs.Formats.{Reads, IsEqual}
use Rattle.winnow_codec.specs.FormatNumbers.{bytes_in}
use Rattle.winnow_codec.specs.FormatRows.{AreBothSame}
use Rattle.winnow_codec.specs.Writing.{Writes}
use Rattle.winnow_codec.specs.declared.unwritten.Unwritten.{Unwritten}
use Rattle.winnow_codec.specs.declared.unwritten.Unwritten.TheVariants.{Unspelled, Refused}
use Rattle.winnow_codec.specs.declared.widths.Width.{Width}
use Rattle.winnow_codec.proofs.lemmas.Lists.{takes-none}
use Rattle.winnow_codec.proofs.lemmas.Reading.{none-other, fewer-unread}
use Rattle.format_cbor.specs.Arguments.{SpellsBig, SpellsArgument}
use Rattle.format_cbor.specs.Heads.{initial_of, SpellsInitial, SpellsHead, IsHeadOf}
use Rattle.format_cbor.specs.HeadLaws.{IsFormat-Initial}
use Rattle.format_cbor.specs.declared.argument.Argument.{Argument}
use Rattle.format_cbor.specs.declared.argument.Argument.TheVariants.{Held, Following, Missing}
use Rattle.format_cbor.specs.declared.head.Head.{Head}

module _ (f : Argument) (partial : Bool) (a : Ahead ℕ) where
  -- an argument that the initial byte holds is read
  pub held-given : (n number : ℕ) → f ≡ Held number → n ≡ number
      → Reads (SpellsArgument f) partial a (Gives n a)
  held-given n number e is = subst (λ x. Reads (SpellsArgument x) partial a (Gives n a)) (sym e) ([], ((is, refl), takes-none a))

  -- an argument that follows is read, or not
  pub following-read : (width : Width) (out : Outcome ℕ ℕ) → f ≡ Following width
      → Reads (SpellsBig (bytes_in width)) partial a out → Reads (SpellsArgument f) partial a out
  following-read width out e h = subst (λ x. Reads (SpellsArgument x) partial a out) (sym e) h

  -- where there is no argument, none is read
  pub missing-unread : f ≡ Missing → Reads (SpellsArgument f) partial a (Fails (Backtracks a))
  missing-unread e = subst (λ x. Reads (SpellsArgument x) partial a (Fails (Backtracks a))) (sym e)
      (Moves-still a a refl, λ v bytes more rest follows s whole. s)

-- an argument that follows is written, or not
pub following-written : (f : Argument) (width : Width) (n : ℕ) (old new : List ℕ)
    (result : Result (Unit {0}) Unwritten) → f ≡ Following width
    → Writes (SpellsBig (bytes_in width)) n old result new
    → Writes (SpellsArgument f) n old result new
following-written f width n old new result e w = subst (λ x. Writes (SpellsArgument x) n old result new) (sym e) w

-- ---- Heads

module _ (first n : ℕ) (h : Head) (is : IsHeadOf first n h) where
  -- the head has the initial byte and the argument
  parts-are : ◌≡◌ {A = ℕ × ℕ} (initial_of h.kind h.argument, h.argument) (first, n)
  parts-are = λ i. (is.1 i, is.2 i)

  -- what spells the initial byte and the argument spells the head
  pub head-spelled : (bytes : List ℕ) → SpellsInitial (first, n) bytes → SpellsHead h bytes
  head-spelled bytes s = (is.0, subst (λ p. SpellsInitial p bytes) (sym parts-are) s)

  -- the head is read
  pub head-given : (partial : Bool) (a b : Ahead ℕ)
      → Reads SpellsInitial partial a (Gives (first, n) b)
      → Reads SpellsHead partial a (Gives h b)
  head-given partial a b (bytes, (s, t)) = (bytes, (head-spelled bytes s, t))

  -- the head is written
  pub head-written : (old new : List ℕ) (result : Result (Unit {0}) Unwritten)
      → Writes SpellsInitial (first, n) old result new → Writes SpellsHead h old result new
  head-written old new (Ok done) (bytes, (s, e)) = (bytes, (head-spelled bytes s, e))
  head-written old new (Err Unspelled) w =
      (λ bytes s. w.0 bytes (subst (λ p. SpellsInitial p bytes) parts-are s.1), w.1)
  head-written old new (Err (Refused r)) w = w

-- an initial byte and an argument are read that no head has
pub head-other : (first n : ℕ) → ((h : Head) → IsHeadOf first n h → ⊥)
    → (partial : Bool) (a b : Ahead ℕ) → Reads SpellsInitial partial a (Gives (first, n) b)
    → Reads SpellsHead partial a (Fails (Backtracks b))
head-other first n other partial a b reads =
    none-other (AreBothSame IsEqual IsEqual) SpellsInitial IsFormat-Initial.prefix_free SpellsHead (λ h. (initial_of h.kind h.argument, h.argument))
    (λ h bytes s. s.1) partial a b (first, n) reads
    (λ h bytes s same. other h (s.0, sym same.0, sym same.1))

-- no initial byte with its argument is read
pub head-unread : (partial : Bool) (a : Ahead ℕ) (f : Failed ℕ)
    → Reads SpellsInitial partial a (Fails f) → Reads SpellsHead partial a (Fails f)
head-unread = fewer-unread SpellsInitial SpellsHead (λ h. (initial_of h.kind h.argument, h.argument)) (λ h bytes s. s.1)
