-- Tokens of width 1: a list that is a front of another is as many of its first elements as it has.
use Rattle.std.proofs.Common.{◌≡◌, ℕ, ◌≤◌, List, length, take, IsTrue, ap, sym, ◌∙◌, arith, length-take-le}
use Rattle.winnow_stream.specs.Source.{units}
use Rattle.winnow_stream.specs.Front.{is_offset, front}
use Rattle.winnow_stream.proofs.lemmas.UnitLemmas.{le-from_is_offset, units-take, units-same}

module _ {T : Type 0} (xs ys : List T) (n : ℕ) (h : IsTrue (is_offset (units ys) n)) (e : units xs ≡ front (units ys) n) where
  -- the width of the front is a number of elements of the list
  inside : n ≤ length ys
  inside = le-from_is_offset ys n h

  -- the front has the first n elements
  same : xs ≡ take n ys
  same = units-same xs (take n ys) (e ∙ sym (units-take ys n inside))

  -- the front has n elements
  count : length xs ≡ n
  count = ap length same ∙ length-take-le n ys inside

  -- the front is no longer than the list
  pub le-from_front : length xs ≤ length ys
  le-from_front = omega (arith, count, inside)

  -- the front has the first elements of the list
  pub take-front : take (length xs) ys ≡ xs
  take-front = ap (λ k. take k ys) count ∙ sym same
