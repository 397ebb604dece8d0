-- Where in the whole input a parser read.
use Rattle.std.specs.Prelude.{◌≡◌, ℕ, Some}
use Rattle.std.specs.declared.ops.Range.{Range}
use Rattle.winnow_parser.specs.Outcome.{Ahead, Gives, Fails, Meaning}
use Rattle.winnow_parser.specs.Laws.{IsStable, IsOnward, IsParser}

-- the range from one place to the other, in offsets of the whole input
abbrev pub IsRangeOf : {T : Type 0} → Range ℕ → Ahead T → Ahead T → Type 0
IsRangeOf range a b = (a.location ≡ Some range.start) × (b.location ≡ Some range.end)

-- the value, and the range from where the inner parser began to where it ended
abbrev pub HasSpan : {O T : Type 0} → Meaning O T → Meaning (O × Range ℕ) T
HasSpan inner partial a (Gives both b) = inner partial a (Gives both.0 b) × IsRangeOf both.1 a b
HasSpan inner partial a (Fails f) = inner partial a (Fails f)

-- that range alone: the value is dropped
abbrev pub Spans : {O T : Type 0} → Meaning O T → Meaning (Range ℕ) T
Spans {O} inner partial a (Gives range b) = ((x : O) × inner partial a (Gives x b)) × IsRangeOf range a b
Spans inner partial a (Fails f) = inner partial a (Fails f)

module _ {O T : Type 0} (inner : Meaning O T) (p : IsParser inner) where
  -- a settled answer of `HasSpan` stays when more input follows
  with_span-stable : IsStable (HasSpan inner)
  with_span-stable more partial a (Gives both b) s h = (p.stable more partial a (Gives both.0 b) tt h.0, h.1)
  with_span-stable more partial a (Fails f) s h = p.stable more partial a (Fails f) s h

  -- `HasSpan` only moves the stream on
  with_span-onward : IsOnward (HasSpan inner)
  with_span-onward partial a (Gives both b) h = p.onward partial a (Gives both.0 b) h.0
  with_span-onward partial a (Fails f) h = p.onward partial a (Fails f) h

  -- `HasSpan` keeps the laws of a parser
  pub IsParser-HasSpan : IsParser (HasSpan inner)
  IsParser-HasSpan = record { stable = with_span-stable; final = p.final; onward = with_span-onward }

  -- a settled answer of `Spans` stays when more input follows
  spanned-stable : IsStable (Spans inner)
  spanned-stable more partial a (Gives range b) s h = ((h.0.0, p.stable more partial a (Gives h.0.0 b) tt h.0.1), h.1)
  spanned-stable more partial a (Fails f) s h = p.stable more partial a (Fails f) s h

  -- `Spans` only moves the stream on
  spanned-onward : IsOnward (Spans inner)
  spanned-onward partial a (Gives range b) h = p.onward partial a (Gives h.0.0 b) h.0.1
  spanned-onward partial a (Fails f) h = p.onward partial a (Fails f) h

  -- `Spans` keeps the laws of a parser
  pub IsParser-Spans : IsParser (Spans inner)
  IsParser-Spans = record { stable = spanned-stable; final = p.final; onward = spanned-onward }
