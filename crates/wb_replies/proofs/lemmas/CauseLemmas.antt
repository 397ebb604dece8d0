-- The cause for which a reply breaks off in what a reader has ahead.
use Rattle.std.proofs.Common.{◌≡◌, ℕ, ◌+◌, ◌-◌, Bool, true, false, List, [], ◌++◌, length, min, take, drop, refl, ap, sym, ◌∙◌, subst, inl, inr, arith}
use Rattle.std.specs.Prelude.{◌⊎◌, not}
use Rattle.std.specs.Borrow.{Bor}
use Rattle.std.proofs.lemmas.List.{append-nil, length-drop, take-append-drop, take_all, take_min, drop_min}
use Rattle.std.proofs.lemmas.Option.{same_Some}
use Rattle.winnow_stream.specs.Source.{units}
use Rattle.winnow_stream.specs.Units.{HasPositiveWidths-units}
use Rattle.winnow_stream.specs.SliceBytes.{SlicesHaveBytes}
use Rattle.winnow_parser.specs.Outcome.{Ahead, Fails, Backtracks, Cuts, Meaning, Moves}
use Rattle.format_lemmas.proofs.lemmas.ByteLemmas.{bytes-units}
use Rattle.format_lemmas.proofs.lemmas.TokenLemmas.{itself}
use Rattle.winnow_reader.specs.Place.{bytes_at, IsByteSlice, SlicesStay-bytes}
use Rattle.winnow_reader.specs.State.{ReaderState}
use Rattle.winnow_reader.specs.Reading.{MayFollow}
use Rattle.winnow_reader.specs.Answering.{StopsAt, FailsAt}
use Rattle.winnow_reader.proofs.lemmas.PlaceLemmas.{moved-bytes}
use Rattle.format_resp.specs.Meanings.{Nested, IsParser-Nested}
use Rattle.format_resp.specs.Causes.{IsDamaged, IsCauseOf}
use Rattle.format_resp.specs.declared.causes.Cause.{Cause}
use Rattle.format_resp.specs.declared.reply.Reply.{Reply}
use Rattle.format_resp.proofs.lemmas.DamageLemmas.{damage-of}
use Rattle.wb_replies.specs.declared.placed.PlacedReply.{PlacedReply}
use Rattle.wb_replies.specs.Placing.{Placing}
use Rattle.wb_replies.specs.Session.{IsCauseAt}

-- nothing may follow what a reader has ahead, and then all of it is there, or more may come
may-none : (ended : Bool) → MayFollow ended [] (not ended)
may-none false = tt
may-none true = (refl, refl)

-- slices of bytes have their own bytes
have-bytes : SlicesHaveBytes IsByteSlice (λ (slice : Bor (List ℕ)). slice.now)
have-bytes s r n o h = h

-- what a stream leaves that moved on is the end of what was ahead
moved-rest : (place there : ℕ) (ahead rest : List ℕ)
    → Moves (bytes_at place ahead) (bytes_at there rest)
    → units rest ≡ units (drop (there - place) ahead)
moved-rest place there ahead rest m =
    let n : ℕ = length ahead - length rest in
    let moved = moved-bytes place ahead there rest n m refl in
    let at : there ≡ place + n = same_Some _ _ (ap (λ (a : Ahead ℕ). a.location) moved) in
    let same : n ≡ there - place = omega (arith, at) in
    ap (λ (a : Ahead ℕ). a.tokens) moved ∙ ap (λ k. units (drop k ahead)) same

-- the cause that is told is the one for which the bytes that are ahead break off
told-at : (longest depth n : ℕ) (cause told : Cause) (ahead : List ℕ)
    → IsDamaged longest depth cause (units ahead) (units (drop n ahead))
    → IsCauseOf told (take n ahead) (drop n ahead) → told ≡ cause
told-at longest depth n cause told ahead h is =
    is longest depth (units ahead) (units (drop n ahead)) cause (bytes-units ahead ∙ sym (take-append-drop n ahead)) (bytes-units (drop n ahead)) h

-- what holds of the bytes on both sides of a place that is within them holds of all that is ahead
pub sides-within : (P : List ℕ → List ℕ → Type 0) (k width : ℕ) (bytes ahead : List ℕ)
    → bytes ≡ ahead → width ≡ min k (length bytes)
    → P (take width bytes) (take (length bytes - width) (drop width bytes))
    → P (take k ahead) (drop k ahead)
sides-within P k width bytes ahead same within h =
    let rest = take (length bytes - width) (drop width bytes) in
    let front : take width bytes ≡ take k ahead = ap (λ n. take n bytes) within ∙ take_min k bytes ∙ ap (take k) same in
    let all : rest ≡ drop width bytes = take_all (length bytes - width) (drop width bytes) (omega (arith, length-drop width bytes)) in
    let back : rest ≡ drop k ahead = all ∙ ap (λ n. drop n bytes) within ∙ drop_min k bytes ∙ ap (drop k) same in
    subst (P (take k ahead)) back (subst (λ b. P b rest) front h)

module _ (counts_shortage : Bool) where
  -- the parser of replies, over the bytes that a reader has ahead
  abbrev Reading : ℕ → ℕ → Meaning Reply ℕ
  Reading longest depth = Nested itself counts_shortage IsByteSlice (λ (slice : Bor (List ℕ)). slice.now) longest depth

  -- where it stops, the stream moved on
  stops-moves : (longest depth : ℕ) (partial : Bool) (a b : Ahead ℕ)
      → Reading longest depth partial a (Fails (Backtracks b)) ⊎ Reading longest depth partial a (Fails (Cuts b)) → Moves a b
  stops-moves longest depth partial a b (inl h) = (IsParser-Nested itself counts_shortage IsByteSlice (λ slice. slice.now) SlicesStay-bytes longest depth).onward partial a (Fails (Backtracks b)) h
  stops-moves longest depth partial a b (inr h) = (IsParser-Nested itself counts_shortage IsByteSlice (λ slice. slice.now) SlicesStay-bytes longest depth).onward partial a (Fails (Cuts b)) h

  -- where the parser of a reader fails, no matter what follows, the cause that is told is the one
  pub fails-for : (f : ReaderState PlacedReply) (there : ℕ) (told : Cause)
      → FailsAt (λ (r : PlacedReply). Placing (Reading r.limits.longest r.limits.depth)) f there
      → IsCauseOf told (take (there - f.place) f.ahead) (drop (there - f.place) f.ahead)
      → IsCauseAt f there told
  fails-for f there told h is =
      let longest = f.parser.limits.longest in
      let depth = f.parser.limits.depth in
      let partial = not f.ended in
      let a = bytes_at f.place f.ahead in
      let b = bytes_at there h.0 in
      let stops = h.1 [] partial (may-none f.ended) in
      let here = subst (λ xs. StopsAt (Reading longest depth) partial (bytes_at f.place xs) (bytes_at there (h.0 ++ []))) (append-nil f.ahead) stops in
      let there_too = subst (λ xs. StopsAt (Reading longest depth) partial a (bytes_at there xs)) (append-nil h.0) here in
      let damage = damage-of counts_shortage IsByteSlice (λ slice. slice.now) have-bytes longest depth partial a b (HasPositiveWidths-units f.ahead) there_too in
      let rest = moved-rest f.place there f.ahead h.0 (stops-moves longest depth partial a b there_too) in
      let damaged = subst (IsDamaged longest depth damage.0 (units f.ahead)) rest damage.1.1 in
      let same : told ≡ damage.0 = told-at longest depth (there - f.place) damage.0 told f.ahead damaged is in
      subst (IsCauseAt f there) (sym same) (damage.1.0, damaged)
