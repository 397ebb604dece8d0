-- What a reader has read of the joined input.
use Rattle.std.specs.Prelude.{◌≡◌, ℕ, ◌+◌, ◌≤◌, ◌<◌, Bool, true, false, List, [], ◌∷◌, ◌++◌, length, Result, Ok, Err, ⊤}
use Rattle.winnow_stream.specs.declared.needed.Needed.{Needed}
use Rattle.winnow_parser.specs.Outcome.{Ahead, Gives, Fails, Needs, Meaning}
use Rattle.winnow_reader.specs.declared.next.Next.{Next}
use Rattle.winnow_reader.specs.declared.next.Next.TheVariants.{Value, NeedsMore, Done}
use Rattle.winnow_reader.specs.declared.next.ReadError.{ReadError}
use Rattle.winnow_reader.specs.Place.{bytes_at}
use Rattle.winnow_reader.specs.Wanted.{size_of}
use Rattle.winnow_reader.specs.State.{ReaderState}

-- repeated from a, the parser gives these values one after the other, each of which takes
-- something, and b is left
abbrev pub Reads : {O : Type 0} → Meaning O ℕ → Bool → Ahead ℕ → List O → Ahead ℕ → Type 0
Reads means partial a [] b = a ≡ b
Reads means partial a (x ∷ xs) b = (c : Ahead ℕ) × (means partial a (Gives x c)
    × (length c.tokens < length a.tokens) × Reads means partial c xs b)

-- what may follow: anything, which is the whole then or not; after the end nothing
abbrev pub MayFollow : Bool → List ℕ → Bool → Type 0
MayFollow false more partial = ⊤
MayFollow true more partial = (more ≡ []) × (partial ≡ false)

-- asked of a front of the bytes at a place, to which more might come, the parser needed n more;
-- the rest came since
pub record Asks {O : Type 0} (means : Meaning O ℕ) (place : ℕ) (bytes : List ℕ) (rest : List ℕ) (n : ℕ) : Type 0 where
  pub front : List ℕ
  pub need : Needed
  pub whole : bytes ≡ front ++ rest
  pub needs : means true (bytes_at place front) (Fails (Needs need))
  pub size : n ≡ size_of need

module _ {R O : Type 0} (means : R → Meaning O ℕ) where
  -- where a length is wanted, the parser asked for it
  abbrev pub AwaitsAsked : ReaderState R → Type 0
  AwaitsAsked f = 0 < f.wanted → (rest : List ℕ) × ((n : ℕ)
      × (Asks (means f.parser) f.place f.ahead rest n × (f.wanted + length rest ≤ length f.ahead + n)))

  -- the parser asked for more than came since
  abbrev pub Lacks : ReaderState R → Type 0
  Lacks f = (rest : List ℕ) × ((n : ℕ)
      × (Asks (means f.parser) f.place f.ahead rest n × (length rest < n)))

  -- of this joined input a reader has read these values: no matter what follows, the parser,
  -- repeated over all of it, gives just these and stands where the reader does. And where the
  -- reader waits, the parser asked for what it waits for.
  pub record HasRead (f : ReaderState R) (input : List ℕ) (values : List O) : Type 0 where
    pub reads : (more : List ℕ) (partial : Bool) → MayFollow f.ended more partial
        → Reads (means f.parser) partial (bytes_at 0 (input ++ more)) values (bytes_at f.place (f.ahead ++ more))
    pub awaits : AwaitsAsked f

  -- no matter what was read, with a piece more the reader has read the same
  abbrev pub ReadsAlso : ReaderState R → List ℕ → ReaderState R → Type 0
  ReadsAlso old piece new = (input : List ℕ) (values : List O)
      → HasRead old input values → HasRead new (input ++ piece) values

  -- no matter what was read, the other reader has read the same
  abbrev pub ReadsThrough : ReaderState R → ReaderState R → Type 0
  ReadsThrough old new = (input : List ℕ) (values : List O)
      → HasRead old input values → HasRead new input values

-- the value that was read, if one was
abbrev pub values_in : {O E : Type 0} → Result (Next O) (ReadError E) → List O
values_in (Ok (Value x)) = x ∷ []
values_in (Ok NeedsMore) = []
values_in (Ok Done) = []
values_in (Err e) = []

-- no matter what was read, the other reader has read that, and the value if there is one
abbrev pub ReadsOn : {R O E : Type 0} → (R → Meaning O ℕ)
    → ReaderState R → Result (Next O) (ReadError E) → ReaderState R → Type 0
ReadsOn {R} {O} {E} means old result new = (input : List ℕ) (values : List O)
    → HasRead means old input values → HasRead means new input (values ++ values_in result)
