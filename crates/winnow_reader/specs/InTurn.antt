-- Values that were read stand in the input in turn.
use Rattle.std.specs.Prelude.{◌≡◌, ℕ, ◌+◌, ◌-◌, ◌≤◌, Bool, true, false, List, [], ◌∷◌, ◌++◌, length, take, drop, Some, IsTrue}
use Rattle.std.specs.Borrow.{Bor}
use Rattle.std.proofs.Common.{refl, ap, sym, ◌∙◌, subst, arith}
use Rattle.std.proofs.lemmas.List.{append-nil}
use Rattle.std.proofs.lemmas.Option.{same_Some}
use Rattle.winnow_stream.specs.Source.{units, width}
use Rattle.winnow_stream.specs.Units.{width-units, HasPositiveWidths-units}
use Rattle.winnow_stream.specs.Front.{is_offset}
use Rattle.winnow_stream.proofs.lemmas.UnitLemmas.{units-take, units-drop, units-same, le-from_is_offset}
use Rattle.winnow_parser.specs.Outcome.{Ahead, Gives, Meaning, Moves, after}
use Rattle.winnow_parser.specs.Laws.{IsParser}
use Rattle.winnow_parser.proofs.lemmas.TakenLemmas.{after-taken}
use Rattle.winnow_reader.specs.Place.{bytes_at, IsByteSlice}
use Rattle.winnow_reader.specs.State.{ReaderState}
use Rattle.winnow_reader.specs.Reading.{Reads, MayFollow, HasRead}

-- the bytes are these values, one after the other, and then the rest: `stands x bytes tail` says
-- that the bytes begin with x, and go on with the tail
abbrev pub StandInTurn : {O : Type 0} → (O → List ℕ → List ℕ → Type 0) → List ℕ → List O → List ℕ
    → Type 0
StandInTurn stands bytes [] rest = bytes ≡ rest
StandInTurn stands bytes (x ∷ xs) rest = (tail : List ℕ)
    × (stands x bytes tail × StandInTurn stands tail xs rest)

-- at the end of the input, a value that the parser gives stands at the head of what it read
abbrev pub GivesWhatStands : {O : Type 0} → (O → List ℕ → List ℕ → Type 0) → Meaning O ℕ → Type 0
GivesWhatStands {O} stands means = (x : O) (place there : ℕ) (bytes tail : List ℕ)
    → means false (bytes_at place bytes) (Gives x (bytes_at there tail)) → stands x bytes tail

-- it may be that nothing follows
pub may-follow_none : (ended : Bool) → MayFollow ended [] false
may-follow_none false = tt
may-follow_none true = (refl, refl)

-- bytes at a place are known by the place and the bytes
pub bytes_at-same : (p q : ℕ) (xs ys : List ℕ) → bytes_at p xs ≡ bytes_at q ys
    → (p ≡ q) × (xs ≡ ys)
bytes_at-same p q xs ys e =
    (same_Some p q (ap (λ a. a.location) e), units-same xs ys (ap (λ a. a.tokens) e))

-- a stream that moved on from bytes stands at the rest of them
pub bytes_at-moved : (p : ℕ) (xs : List ℕ) (b : Ahead ℕ) → Moves (bytes_at p xs) b
    → (n : ℕ) × ((n ≤ length xs) × (b ≡ bytes_at (p + n) (drop n xs)))
bytes_at-moved p xs b m =
    let n = width (units xs) - width b.tokens in
    let within : n ≤ length xs = omega (arith, width-units xs) in
    (n, (within, sym (after-taken (bytes_at p xs) b (HasPositiveWidths-units xs) m) ∙ ap (λ r. record { location = Some (p + n); tokens = r }) (sym (units-drop xs n within))))

-- the slice of the first n bytes is just these, and the others follow it, n places later
pub bytes_at-slice : (p : ℕ) (xs : List ℕ) (slice : Bor (List ℕ)) (n : ℕ)
    → IsTrue (is_offset (units xs) n) → IsByteSlice slice (units xs) n
    → (n ≤ length xs) × (slice.now ≡ take n xs) × (after (bytes_at p xs) n ≡ bytes_at (p + n) (drop n xs))
bytes_at-slice p xs slice n offset is =
    let within = le-from_is_offset xs n offset in (
      within,
      units-same slice.now (take n xs) (is ∙ sym (units-take xs n within)),
      ap (λ r. record { location = Some (p + n); tokens = r }) (sym (units-drop xs n within)),
    )

module _ {O : Type 0} (stands : O → List ℕ → List ℕ → Type 0) (means : Meaning O ℕ) (p : IsParser means) (gives : GivesWhatStands stands means) where
  -- values that are read one after the other stand in the bytes in turn
  reads-in-turn : (values : List O) (place : ℕ) (bytes : List ℕ) (there : ℕ) (rest : List ℕ)
      → Reads means false (bytes_at place bytes) values (bytes_at there rest)
      → StandInTurn stands bytes values rest
  reads-in-turn [] place bytes there rest e = (bytes_at-same place there bytes rest e).1
  reads-in-turn (x ∷ xs) place bytes there rest (c, (given, less, more)) =
      let later = bytes_at-moved place bytes c (p.onward false (bytes_at place bytes) (Gives x c) given) in
      let n = later.0 in
      let is = later.1.1 in (
        drop n bytes,
        (
          gives x place (place + n) bytes (drop n bytes) (subst (λ a. means false (bytes_at place bytes) (Gives x a)) is given),
          reads-in-turn xs (place + n) (drop n bytes) there rest (subst (λ a. Reads means false a xs (bytes_at there rest)) is more),
        ),
      )

-- the values that a reader gave stand in the joined input in turn
pub StandInTurn-read : {R O : Type 0} (means : R → Meaning O ℕ)
    (lawful : (r : R) → IsParser (means r))
    (stands : O → List ℕ → List ℕ → Type 0) (f : ReaderState R) (input : List ℕ) (values : List O)
    → GivesWhatStands stands (means f.parser) → HasRead means f input values
    → StandInTurn stands input values f.ahead
StandInTurn-read means lawful stands f input values gives h =
    let turn = reads-in-turn stands (means f.parser) (lawful f.parser) gives values 0 (input ++ []) f.place (f.ahead ++ []) (h.reads [] false (may-follow_none f.ended)) in
    subst (λ bytes. StandInTurn stands bytes values f.ahead) (append-nil input) (subst (λ rest. StandInTurn stands (input ++ []) values rest) (append-nil f.ahead) turn)
