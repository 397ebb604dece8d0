-- What a reader makes of an answer of its record keeps what its calls promise.
use Rattle.std.specs.Prelude.{Bool, true, false, not}
use Rattle.std.proofs.Common.{ℕ, ◌<◌, List, [], ◌++◌, refl, ap, sym, inl, inr, arith}
use Rattle.std.proofs.lemmas.List.{append-nil}
use Rattle.winnow_stream.specs.declared.needed.Needed.{Needed}
use Rattle.winnow_stream.specs.declared.needed.Needed.TheVariants.{Unknown, Size}
use Rattle.winnow_parser.specs.Outcome.{Fails, Needs, Meaning}
use Rattle.winnow_parser.specs.Laws.{IsParser}
use Rattle.winnow_reader.specs.declared.asking.Asked.{Asked}
use Rattle.winnow_reader.specs.declared.asking.Asked.TheVariants as asked
use Rattle.winnow_reader.specs.Place.{bytes_at}
use Rattle.winnow_reader.specs.Wanted.{size_of}
use Rattle.winnow_reader.specs.State.{ReaderState, waiting_for}
use Rattle.winnow_reader.specs.Reading.{MayFollow, Asks, ReadsOn}
use Rattle.winnow_reader.specs.Answering.{StopsBy, ReadsNext, WaitsByNeed, IsDoneAtEnd, StaysTillWanted}
use Rattle.winnow_reader.specs.Asked.{IsAsked, IsWithin, settled, answer_of}
use Rattle.winnow_reader.proofs.lemmas.PlaceLemmas.{value-stays, backtrack-stays, cut-stays}
use Rattle.winnow_reader.proofs.lemmas.ReadingLemmas.{HasRead-value, HasRead-waits, HasRead-still}

-- a need is at least one byte
size_of-positive : (need : Needed) → 0 < size_of need
size_of-positive Unknown = omega arith
size_of-positive (Size n) = n.ok

module _ {R O : Type 0} (means : R → Meaning O ℕ) (f : ReaderState R) where
  -- a need that the parser answered for all that is ahead was asked for
  pub asks-now : (need : Needed)
      → means f.parser true (bytes_at f.place f.ahead) (Fails (Needs need))
      → Asks (means f.parser) f.place f.ahead [] (size_of need)
  asks-now need h = record { front = f.ahead; need = need; whole = sym (append-nil f.ahead); needs = h; size = refl }

  -- no matter what follows, the parser fails where it failed
  stops-stay : IsParser (means f.parser) → (cut : Bool) (there : ℕ) (rest : List ℕ)
      → StopsBy (means f.parser) cut (not f.ended) (bytes_at f.place f.ahead) (bytes_at there rest)
      → (more : List ℕ) (partial : Bool) → MayFollow f.ended more partial
      → StopsBy (means f.parser) cut partial (bytes_at f.place (f.ahead ++ more)) (bytes_at there (rest ++ more))
  stops-stay p false there rest h more partial may = backtrack-stays (means f.parser) p f.ended f.place f.ahead there rest h more partial may
  stops-stay p true there rest h more partial may = cut-stays (means f.parser) p f.ended f.place f.ahead there rest h more partial may

module _ {R O E : Type 0} (means : R → Meaning O ℕ) (f : ReaderState R) where
  -- what a value took was ahead
  pub IsWithin-asked : (v : Asked O E) → IsAsked (means f.parser) f v → IsWithin f v
  IsWithin-asked (asked.Value x n) (inl k) = absurd k
  IsWithin-asked (asked.Value x n) (inr k) = k.1.1
  IsWithin-asked (asked.Waits w) k = tt
  IsWithin-asked asked.Done k = tt
  IsWithin-asked (asked.Failed e there cut) k = tt
  IsWithin-asked asked.Idle k = tt
  IsWithin-asked (asked.Refused r) k = tt

  -- what was read stays read, and a value is read too
  pub ReadsOn-settled : IsParser (means f.parser) → (v : Asked O E) → IsAsked (means f.parser) f v
      → ReadsOn means f (answer_of f.place v) (settled f v)
  ReadsOn-settled p (asked.Value x n) (inl k) input values h = absurd k
  ReadsOn-settled p (asked.Value x n) (inr k) input values h = HasRead-value means f x n p k.1.0 k.1.1 k.1.2 input values h
  ReadsOn-settled p (asked.Waits w) (inl k) input values h =
      HasRead-waits means f w input values h
      (λ l. let a = h.awaits (omega (arith, k.1, l)) in (a.0, (a.1.0, (a.1.1.0, omega (arith, k.1, a.1.1.1)))))
  ReadsOn-settled p (asked.Waits w) (inr k) input values h =
      let m = k.1.1 in
      HasRead-waits means f w input values h (λ l. ([], (size_of m.0, (asks-now means f m.0 m.1.0, omega (arith, m.1.1)))))
  ReadsOn-settled p asked.Done k input values h = HasRead-still means f input values h
  ReadsOn-settled p (asked.Failed e there cut) k input values h = HasRead-still means f input values h
  ReadsOn-settled p asked.Idle k input values h = HasRead-still means f input values h
  ReadsOn-settled p (asked.Refused r) k input values h = HasRead-still means f input values h

  -- what the reader returns then is what its calls promise of the next record
  pub ReadsNext-settled : IsParser (means f.parser) → (v : Asked O E) → IsAsked (means f.parser) f v
      → ReadsNext means (WaitsByNeed means) f (answer_of f.place v) (settled f v)
  ReadsNext-settled p (asked.Value x n) (inl k) = absurd k
  ReadsNext-settled p (asked.Value x n) (inr k) = (n, (k.1.0, k.1.1, k.1.2, refl))
  ReadsNext-settled p (asked.Waits w) (inl k) = (
    k.0,
    λ input values h. let a = h.awaits (omega (arith, k.2)) in (a.0, (a.1.0, (a.1.1.0, omega (arith, k.2, a.1.1.1)))),
    λ l. absurd (omega (arith, k.2, l)),
    refl,
  )
  ReadsNext-settled p (asked.Waits w) (inr k) = let m = k.1.1 in (
    k.1.0,
    λ input values h. ([], (size_of m.0, (asks-now means f m.0 m.1.0, size_of-positive m.0))),
    λ l. m,
    refl,
  )
  ReadsNext-settled p asked.Done (inl k) = (k, refl)
  ReadsNext-settled p asked.Done (inr k) = absurd k.1
  ReadsNext-settled p (asked.Failed e there cut) (inl k) = absurd k
  ReadsNext-settled p (asked.Failed e there cut) (inr k) = ((k.1.0, stops-stay means f p cut there k.1.0 k.1.1), refl)
  ReadsNext-settled p asked.Idle (inl k) = absurd k
  ReadsNext-settled p asked.Idle (inr k) =
      ((refl, (k.1.0, value-stays (means f.parser) p f.ended f.place f.ahead k.1.0 f.place f.ahead k.1.1)), refl)
  ReadsNext-settled p (asked.Refused r) (inl k) = absurd k
  ReadsNext-settled p (asked.Refused r) (inr k) = (k.1, refl)

  -- it is done just at the end
  pub IsDoneAtEnd-settled : (v : Asked O E) → IsAsked (means f.parser) f v
      → IsDoneAtEnd f (answer_of f.place v)
  IsDoneAtEnd-settled (asked.Value x n) (inl k) = absurd k
  IsDoneAtEnd-settled (asked.Value x n) (inr k) = (λ e. absurd (cc), λ e. absurd (k.0.0 e.0 e.1))
  IsDoneAtEnd-settled (asked.Waits w) (inl k) = (λ e. absurd (cc), λ e. absurd (let t = e.0 in let u = k.0 in cc))
  IsDoneAtEnd-settled (asked.Waits w) (inr k) = (λ e. absurd (cc), λ e. absurd (k.0.0 e.0 e.1))
  IsDoneAtEnd-settled asked.Done (inl k) = (λ e. k, λ e. refl)
  IsDoneAtEnd-settled asked.Done (inr k) = absurd k.1
  IsDoneAtEnd-settled (asked.Failed e there cut) (inl k) = absurd k
  IsDoneAtEnd-settled (asked.Failed e there cut) (inr k) = (λ e. absurd (cc), λ e. absurd (k.0.0 e.0 e.1))
  IsDoneAtEnd-settled asked.Idle (inl k) = absurd k
  IsDoneAtEnd-settled asked.Idle (inr k) = (λ e. absurd (cc), λ e. absurd (k.0.0 e.0 e.1))
  IsDoneAtEnd-settled (asked.Refused r) (inl k) = absurd k
  IsDoneAtEnd-settled (asked.Refused r) (inr k) = (λ e. absurd (cc), λ e. absurd (k.0.0 e.0 e.1))

  -- before as many bytes are ahead as are wanted, the reader stays
  pub StaysTillWanted-settled : (v : Asked O E) → IsAsked (means f.parser) f v
      → StaysTillWanted f (answer_of f.place v) (settled f v)
  StaysTillWanted-settled v (inr k) e l = absurd (let enough = k.0.1 e in omega (arith, enough, l))
  StaysTillWanted-settled (asked.Value x n) (inl k) e l = absurd k
  StaysTillWanted-settled (asked.Waits w) (inl k) e l = (refl, ap (waiting_for f) k.1)
  StaysTillWanted-settled asked.Done (inl k) e l = absurd (let t = k.0 in cc)
  StaysTillWanted-settled (asked.Failed error there cut) (inl k) e l = absurd k
  StaysTillWanted-settled asked.Idle (inl k) e l = absurd k
  StaysTillWanted-settled (asked.Refused r) (inl k) e l = absurd k
