-- What readers of cases answer.
use Rattle.std.proofs.Common.{◌≡◌, ℕ, Bool, List, ◌++◌, Result, Ok, Err, sym, subst, refl}
use Rattle.winnow_parser.specs.Outcome.{Ahead, Failed, Gives, Fails}
use Rattle.winnow_codec.specs.Formats.{Spelling, Reads, IsPrefixFree}
use Rattle.winnow_codec.specs.FormatRows.{SpellsBoth}
use Rattle.winnow_codec.specs.Byte.{SpellsByte}
use Rattle.winnow_codec.specs.Cases.{AreCases, SpellsTagged, SpellsLast, only_tag, with_tag}
use Rattle.winnow_codec.specs.Writing.{Writes}
use Rattle.winnow_codec.specs.declared.unwritten.Unwritten.{Unwritten}
use Rattle.winnow_codec.specs.declared.unwritten.Unwritten.TheVariants.{Unspelled, Refused}
use Rattle.winnow_codec.proofs.lemmas.Reading.{takes-both, both-unfinished, parts-unread}

module _ {T V : Type 0} (tags : Spelling T) (tag_of : V → T) (cases : T → Spelling V) (partial : Bool) (a b : Ahead ℕ) (tag : T) where
  -- a tag and what follows it are read
  pub tagged-given : (same : V → V → Type 0) → AreCases same tag_of cases → (c : Ahead ℕ) (v : V)
      → Reads tags partial a (Gives tag b)
      → Reads (cases tag) partial b (Gives v c) → Reads (SpellsTagged tags tag_of cases) partial a (Gives v c)
  tagged-given same laws c v (x, (h, s)) (y, (k, t)) =
      let e = laws.one_tag tag v y k in
      (x ++ y, ((x, y, (subst (λ u. tags u x) e h, subst (λ u. cases u v y) e k, refl)), takes-both s t))

  -- a tag is read, and not what follows it
  pub tagged-unfinished : (alike : T → T → Type 0) → ((t u : T) → alike t u → t ≡ u)
      → IsPrefixFree alike tags → (f : Failed ℕ)
      → Reads tags partial a (Gives tag b) → Reads (cases tag) partial b (Fails f) → Reads (SpellsTagged tags tag_of cases) partial a (Fails f)
  tagged-unfinished alike exact laws f h k =
      parts-unread (with_tag tag_of) (SpellsBoth tags cases) partial a f
      (both-unfinished tags cases partial a alike laws (λ t u v bytes e s. subst (λ x. cases x v bytes) (sym (exact t u e)) s) b tag f h k)

-- a tag and what follows it alone are written as one of the cases is
pub case-written : {V W : Type 0} (inner : Spelling V) (tag_of : W → ℕ) (cases : ℕ → Spelling W)
    (v : V) (w : W)
    → ((b : List ℕ) → inner v b → cases (tag_of w) w b) → ((b : List ℕ) → cases (tag_of w) w b → inner v b)
    → (old new : List ℕ) (result : Result (Unit {0}) Unwritten)
    → Writes (SpellsTagged SpellsByte (only_tag (tag_of w)) (SpellsLast (tag_of w) inner)) v old result new
    → Writes (SpellsTagged SpellsByte tag_of cases) w old result new
case-written inner tag_of cases v w to from old new (Ok done) (bytes, ((x, y, (h, k, e)), f)) =
    (bytes, ((x, y, (h, to y k.1, e)), f))
case-written inner tag_of cases v w to from old new (Err Unspelled) h =
    (λ bytes (x, y, (i, j, e)). h.0 bytes (x, y, (i, (refl, from y j), e)), h.1)
case-written inner tag_of cases v w to from old new (Err (Refused r)) h = h
