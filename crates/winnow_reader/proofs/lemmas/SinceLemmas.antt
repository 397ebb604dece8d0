-- What was read since a place stays read: when a piece comes, at the end, and when one value more
-- is read. After bytes were skipped, nothing was read since there.
use Rattle.std.specs.Prelude.{Bool, true, false, not}
use Rattle.std.proofs.Common.{◌≡◌, ℕ, ◌+◌, ◌≤◌, ◌<◌, List, [], ◌∷◌, ◌++◌, length, drop, refl, ap, sym, ◌∙◌, subst, arith, append_assoc, length-append, length-drop}
use Rattle.std.proofs.lemmas.List.{append-nil}
use Rattle.winnow_stream.specs.Source.{units}
use Rattle.winnow_stream.proofs.lemmas.UnitLemmas.{length-units}
use Rattle.winnow_parser.specs.Outcome.{Ahead, Gives, Meaning}
use Rattle.winnow_parser.specs.Laws.{IsParser}
use Rattle.winnow_reader.specs.Place.{bytes_at}
use Rattle.winnow_reader.specs.State.{ReaderState, pushed, ended_after, taken_by, waiting_for}
use Rattle.winnow_reader.specs.Reading.{Reads, MayFollow, AwaitsAsked, HasRead}
use Rattle.winnow_reader.specs.Since.{HasReadSince, ReadsAlsoSince, ReadsThroughSince}
use Rattle.winnow_reader.specs.Skips.{skipped}
use Rattle.winnow_reader.proofs.lemmas.PlaceLemmas.{value-stays}

module _ {O : Type 0} (means : Meaning O ℕ) (partial : Bool) where
  -- one value more is read after the others
  Reads-more : (values : List O) (a b c : Ahead ℕ) (x : O) → Reads means partial a values b
      → means partial b (Gives x c) → length c.tokens < length b.tokens
      → Reads means partial a (values ++ x ∷ []) c
  Reads-more [] a b c x r h l =
      (c, (subst (λ q. means partial q (Gives x c)) (sym r) h, subst (λ (q : Ahead ℕ). length c.tokens < length q.tokens) (sym r) l, refl))
  Reads-more (y ∷ ys) a b c x r h l = (r.0, (r.1.0, r.1.1, Reads-more ys r.0 b c x r.1.2 h l))

-- what may follow the end may follow
may-follow_end : (ended : Bool) (more : List ℕ) (partial : Bool) → MayFollow true more partial
    → MayFollow ended more partial
may-follow_end false more partial f = tt
may-follow_end true more partial f = f

module _ {R O : Type 0} (means : R → Meaning O ℕ) where
  -- what was read is what was read since place 0
  pub HasReadSince-zero : (f : ReaderState R) (input : List ℕ) (values : List O)
      → HasRead means f input values → HasReadSince means 0 f input values
  HasReadSince-zero f input values h = record { reads = h.reads; awaits = h.awaits }

  -- and the other way
  pub HasRead-zero : (f : ReaderState R) (input : List ℕ) (values : List O)
      → HasReadSince means 0 f input values → HasRead means f input values
  HasRead-zero f input values h = record { reads = h.reads; awaits = h.awaits }

  -- after bytes were skipped, nothing was read since there
  pub HasReadSince-skipped : (f : ReaderState R) (n : ℕ)
      → HasReadSince means (f.place + n) (skipped f n) (drop n f.ahead) []
  HasReadSince-skipped f n = record { reads = λ more partial may. refl; awaits = λ none. absurd (omega (arith, none)) }

module _ {R O : Type 0} (means : R → Meaning O ℕ) (place : ℕ) where
  -- with a piece more, the same was read
  pub HasReadSince-pushed : (f : ReaderState R) (piece : List ℕ) → f.ended ≡ false
      → ReadsAlsoSince means place f piece (pushed f piece)
  HasReadSince-pushed f piece e input values h = record {
    reads = λ more partial m.
        let far = h.reads (piece ++ more) partial (subst (λ b. MayFollow b (piece ++ more) partial) (sym e) tt) in
        subst (λ xs. Reads (means f.parser) partial (bytes_at place xs) values (bytes_at f.place (f.ahead ++ piece ++ more))) (sym (append_assoc input piece more))
        (subst (λ xs. Reads (means f.parser) partial (bytes_at place (input ++ (piece ++ more))) values (bytes_at f.place xs)) (sym (append_assoc f.ahead piece more)) far);
    awaits = λ l.
        let a = h.awaits l in
        let asks = a.1.1.0 in (
          a.0 ++ piece,
          (
            a.1.0,
            (
              record {
                front = asks.front;
                need = asks.need;
                whole = ap (λ xs. xs ++ piece) asks.whole ∙ append_assoc asks.front a.0 piece;
                needs = asks.needs;
                size = asks.size;
              },
              omega (arith, a.1.1.1, length-append a.0 piece, length-append f.ahead piece),
            ),
          ),
        );
  }

  -- at the end, the same was read
  pub HasReadSince-ended : (f : ReaderState R) → ReadsThroughSince means place f (ended_after f)
  HasReadSince-ended f input values h = record {
    reads = λ more partial m. h.reads more partial (may-follow_end f.ended more partial m);
    awaits = h.awaits;
  }

  -- with a value more, that was read too
  pub HasReadSince-value : (f : ReaderState R) (x : O) (n : ℕ) → IsParser (means f.parser) → 0 < n
      → n ≤ length f.ahead
      → means f.parser (not f.ended) (bytes_at f.place f.ahead) (Gives x (bytes_at (f.place + n) (drop n f.ahead)))
      → (input : List ℕ) (values : List O) → HasReadSince means place f input values → HasReadSince means place (taken_by f n) input (values ++ x ∷ [])
  HasReadSince-value f x n p l w m input values h = record {
    reads = λ more partial may.
        let gives = value-stays (means f.parser) p f.ended f.place f.ahead x (f.place + n) (drop n f.ahead) m more partial may in
        let shorter : length (units (drop n f.ahead ++ more)) < length (units (f.ahead ++ more)) =
        omega (arith, l, w, length-units (drop n f.ahead ++ more), length-units (f.ahead ++ more), length-append (drop n f.ahead) more, length-append f.ahead more, length-drop n f.ahead) in
        Reads-more (means f.parser) partial values (bytes_at place (input ++ more)) (bytes_at f.place (f.ahead ++ more)) (bytes_at (f.place + n) (drop n f.ahead ++ more)) x
        (h.reads more partial may) gives shorter;
    awaits = λ none. absurd (omega (arith, none));
  }

  -- without a value, the same was read
  pub HasReadSince-still : (f : ReaderState R) (input : List ℕ) (values : List O)
      → HasReadSince means place f input values → HasReadSince means place f input (values ++ [])
  HasReadSince-still f input values h = subst (λ vs. HasReadSince means place f input vs) (sym (append-nil values)) h

  -- where another length is wanted, the same was read
  pub HasReadSince-waits : (f : ReaderState R) (w : ℕ) (input : List ℕ) (values : List O)
      → HasReadSince means place f input values → AwaitsAsked means (waiting_for f w)
      → HasReadSince means place (waiting_for f w) input (values ++ [])
  HasReadSince-waits f w input values h a =
      HasReadSince-still (waiting_for f w) input values (record { reads = h.reads; awaits = a })
