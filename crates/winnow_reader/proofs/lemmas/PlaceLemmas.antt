-- Bytes at a place: the place once some were taken, and answers once more has come.
use Rattle.std.specs.Prelude.{Bool, true, false, not, Some}
use Rattle.std.proofs.Common.{◌≡◌, ℕ, ◌+◌, ◌-◌, ◌≤◌, List, [], ◌++◌, length, drop, refl, ap, sym, ◌∙◌, subst, arith}
use Rattle.std.proofs.lemmas.List.{append-nil, map-append}
use Rattle.winnow_stream.specs.Source.{units, width}
use Rattle.winnow_stream.specs.Units.{width-units, HasPositiveWidths-units}
use Rattle.winnow_stream.proofs.lemmas.FrontLemmas.{width-append}
use Rattle.winnow_stream.proofs.lemmas.UnitLemmas.{units-drop}
use Rattle.winnow_parser.specs.Outcome.{Ahead, Backtracks, Cuts, Needs, Refuses, Outcome, Gives, Fails, Meaning, Moves, after}
use Rattle.winnow_parser.specs.Laws.{longer, outcome_longer, IsSettled, IsParser}
use Rattle.winnow_parser.proofs.lemmas.TakenLemmas.{after-taken}
use Rattle.winnow_reader.specs.Place.{bytes_at}
use Rattle.winnow_reader.specs.Reading.{MayFollow}

-- the tokens of two lists of bytes, one after the other, are those of the joined list
units-append : {A : Type 0} (xs ys : List A) → units (xs ++ ys) ≡ units xs ++ units ys
units-append {A} xs ys = map-append {B = A × ℕ} (λ x. (x, 1)) xs ys

-- where more has come, the bytes at a place are longer by it
pub longer-bytes : (place : ℕ) (xs more : List ℕ)
    → longer (units more) (bytes_at place xs) ≡ bytes_at place (xs ++ more)
longer-bytes place xs more = ap (λ r. record { location = Some place; tokens = r }) (sym (units-append xs more))

-- where a stream moved on, no more bytes remain than before
pub length-moved : (place : ℕ) (xs : List ℕ) (there : ℕ) (ys : List ℕ)
    → Moves (bytes_at place xs) (bytes_at there ys) → length ys ≤ length xs
length-moved place xs there ys m = omega (arith, ap width m.whole, width-append m.taken (units ys), width-units xs, width-units ys)

-- where a stream moved on, it stands after the bytes that it took
pub moved-bytes : (place : ℕ) (xs : List ℕ) (there : ℕ) (ys : List ℕ) (n : ℕ)
    → Moves (bytes_at place xs) (bytes_at there ys) → n ≡ length xs - length ys
    → bytes_at there ys ≡ bytes_at (place + n) (drop n xs)
moved-bytes place xs there ys n m e =
    let w : width (units xs) - width (units ys) ≡ n = omega (arith, e, width-units xs, width-units ys) in
    sym (after-taken (bytes_at place xs) (bytes_at there ys) (HasPositiveWidths-units xs) m)
    ∙ ap (after (bytes_at place xs)) w
    ∙ ap (λ r. record { location = Some (place + n); tokens = r }) (sym (units-drop xs n (omega (arith, e))))

-- where nothing follows, a place stays
longer-none : (a : Ahead ℕ) → longer [] a ≡ a
longer-none a = ap (λ r. record { location = a.location; tokens = r }) (append-nil a.tokens)

-- where nothing follows, an answer stays
outcome_longer-none : {O : Type 0} (v : Outcome O ℕ) → outcome_longer [] v ≡ v
outcome_longer-none (Gives x a) = ap (Gives x) (longer-none a)
outcome_longer-none (Fails (Backtracks a)) = ap (λ b. Fails (Backtracks b)) (longer-none a)
outcome_longer-none (Fails (Cuts a)) = ap (λ b. Fails (Cuts b)) (longer-none a)
outcome_longer-none (Fails (Needs n)) = refl
outcome_longer-none (Fails Refuses) = refl

module _ {O : Type 0} (means : Meaning O ℕ) (p : IsParser means) where
  -- no matter what may follow, a settled answer stays
  pub answer-stays : (ended : Bool) (place : ℕ) (bytes : List ℕ) (v : Outcome O ℕ) → IsSettled v
      → means (not ended) (bytes_at place bytes) v
      → (more : List ℕ) (partial : Bool) → MayFollow ended more partial → means partial (bytes_at place (bytes ++ more)) (outcome_longer (units more) v)
  answer-stays false place bytes v s h more partial f =
      subst (λ a. means partial a (outcome_longer (units more) v)) (longer-bytes place bytes more) (p.stable (units more) partial (bytes_at place bytes) v s h)
  answer-stays true place bytes v s h more partial f =
      let same = subst (λ w. means false (bytes_at place bytes) w) (sym (outcome_longer-none v)) h in
      let none = subst (λ xs. means false (bytes_at place xs) (outcome_longer [] v)) (sym (append-nil bytes)) same in
      let some = subst (λ xs. means false (bytes_at place (bytes ++ xs)) (outcome_longer (units xs) v)) (sym f.0) none in
      subst (λ q. means q (bytes_at place (bytes ++ more)) (outcome_longer (units more) v)) (sym f.1) some

  -- no matter what may follow, a value that is given is given, and as much is taken
  pub value-stays : (ended : Bool) (place : ℕ) (bytes : List ℕ) (x : O) (there : ℕ) (rest : List ℕ)
      → means (not ended) (bytes_at place bytes) (Gives x (bytes_at there rest))
      → (more : List ℕ) (partial : Bool) → MayFollow ended more partial → means partial (bytes_at place (bytes ++ more)) (Gives x (bytes_at there (rest ++ more)))
  value-stays ended place bytes x there rest h more partial f =
      subst (λ b. means partial (bytes_at place (bytes ++ more)) (Gives x b)) (longer-bytes there rest more)
      (answer-stays ended place bytes (Gives x (bytes_at there rest)) tt h more partial f)

  -- no matter what may follow, where the parser backtracks it backtracks, at the same place
  pub backtrack-stays : (ended : Bool) (place : ℕ) (bytes : List ℕ) (there : ℕ) (rest : List ℕ)
      → means (not ended) (bytes_at place bytes) (Fails (Backtracks (bytes_at there rest)))
      → (more : List ℕ) (partial : Bool) → MayFollow ended more partial → means partial (bytes_at place (bytes ++ more)) (Fails (Backtracks (bytes_at there (rest ++ more))))
  backtrack-stays ended place bytes there rest h more partial f =
      subst (λ b. means partial (bytes_at place (bytes ++ more)) (Fails (Backtracks b))) (longer-bytes there rest more)
      (answer-stays ended place bytes (Fails (Backtracks (bytes_at there rest))) tt h more partial f)

  -- no matter what may follow, where the parser cuts it cuts, at the same place
  pub cut-stays : (ended : Bool) (place : ℕ) (bytes : List ℕ) (there : ℕ) (rest : List ℕ)
      → means (not ended) (bytes_at place bytes) (Fails (Cuts (bytes_at there rest)))
      → (more : List ℕ) (partial : Bool) → MayFollow ended more partial → means partial (bytes_at place (bytes ++ more)) (Fails (Cuts (bytes_at there (rest ++ more))))
  cut-stays ended place bytes there rest h more partial f =
      subst (λ b. means partial (bytes_at place (bytes ++ more)) (Fails (Cuts b))) (longer-bytes there rest more)
      (answer-stays ended place bytes (Fails (Cuts (bytes_at there rest))) tt h more partial f)
