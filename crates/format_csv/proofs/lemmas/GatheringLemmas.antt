-- Failures of a parser whose values are gathered.
use Rattle.std.proofs.Common.{◌≡◌, ℕ, Bool, List, None, inl, inr}
use Rattle.std.specs.Prelude.{⊤}
use Rattle.winnow_stream.specs.Source.{Source}
use Rattle.winnow_parser.specs.Outcome.{Ahead, Failed, Backtracks, Cuts, Needs, Refuses, Fails}
use Rattle.winnow_token.specs.TakeWhile.{TakesWhile}
use Rattle.winnow_combinator.specs.Appended.{Appending}
use Rattle.winnow_combinator.specs.Repeat.{Repeats}
use Rattle.winnow_combinator.specs.Gathering.{Gathered}
use Rattle.format_csv.specs.Fields.{is_plain}
use Rattle.format_csv.specs.Meanings.{Chunk, QuotedField, PlainField}
use Rattle.format_csv.specs.declared.gathering.Chunks.{Chunks}
use Rattle.format_csv.proofs.lemmas.ByteLemmas.{ended}

-- the chunks hold these slices, with a quote after each
abbrev pub HoldChunks : {S : Type 0} → (S → List ℕ) → List S → Chunks → Type 0
HoldChunks bytes chunks all = all.bytes.items ≡ ended bytes chunks

module _ {S : Type 0} (is_slice : S → Source ℕ → ℕ → Type 0) (bytes : S → List ℕ) (partial : Bool) (a : Ahead ℕ) where
  -- where the bytes of a plain field fail, the field does
  pub plain-failed : (f : Failed ℕ) → TakesWhile is_slice is_plain 0 None partial a (Fails f)
      → PlainField is_slice bytes partial a (Fails f)
  plain-failed (Backtracks b) h = h
  plain-failed (Cuts b) h = h
  plain-failed (Needs n) h = h
  plain-failed Refuses h = inr h

  -- where the chunks of a quoted field fail, the field does: memory may be refused for a field, and
  -- so also while an error is appended to
  pub quoted-failed : (appends : Type 0) (f : Failed ℕ)
      → Gathered ⊤ (HoldChunks bytes) (Appending appends (Repeats 1 None (Chunk is_slice bytes))) partial a (Fails f)
      → QuotedField is_slice bytes partial a (Fails f)
  quoted-failed appends (Backtracks b) h = h
  quoted-failed appends (Cuts b) h = h
  quoted-failed appends (Needs n) h = h
  quoted-failed appends Refuses h = inl tt
