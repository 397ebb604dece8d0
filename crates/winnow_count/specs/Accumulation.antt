-- What an accumulator holds of a list of items, and what it becomes with one more item.
use Rattle.std.specs.Prelude.{◌≡◌, ◌==◌, ℕ, min, Bool, List, [], ◌++◌, length, reverse, Option, unwrap_or, MatchBool}
use Rattle.std.specs.Cow.{cow_str_bytes, IsOwnedStr}
use Rattle.std.specs.List.{list_any}
use Rattle.std.specs.Map.{lookup}
use Rattle.std.specs.String.{string_bytes, string_capacity}
use Rattle.std.specs.Vec.{vec_capacity}
use Rattle.std.specs.VecDeque.{deque_capacity}
use Rattle.std.specs.declared.borrow.CowStr.{CowStr}
use Rattle.std.specs.declared.borrow.CowStr.TheVariants.{Borrowed, Owned}
use Rattle.std.specs.declared.string.String.{String}
use Rattle.std.specs.declared.vec.Vec.{Vec}
use Rattle.std.specs.declared.collections.VecDeque.{VecDeque}

-- the number of items that room is made for, if this number is announced
abbrev pub room_of : Option ℕ → ℕ
room_of capacity = min (unwrap_or capacity 0) 1024

-- an accumulator that holds nothing, with that room: a vector, a queue and a text
abbrev pub StartsVector : {T Z : Type 0} → Option ℕ → Vec T Z → Type 0
StartsVector capacity vector = (vector.items ≡ []) × (vec_capacity vector ≡ room_of capacity)

abbrev pub StartsQueue : {T Z : Type 0} → Option ℕ → VecDeque T Z → Type 0
StartsQueue capacity queue = (queue.items ≡ []) × (deque_capacity queue ≡ room_of capacity)

abbrev pub StartsText : {Z : Type 0} → Option ℕ → String Z → Type 0
StartsText capacity text = (string_bytes text ≡ []) × (string_capacity text ≡ room_of capacity)

-- the value of the last pair whose key passes
abbrev pub last_value : {K V : Type 0} → (K → Bool) → List (K × V) → Option V
last_value test pairs = lookup test (reverse pairs)

-- each key has the last of its values in the list, and a key that is not in the list has none
abbrev pub HasLastValues : {K V : Type 0} → (K → K → Bool) → (K → Option V) → List (K × V) → Type 0
HasLastValues {K} same value_at pairs = (key : K) → value_at key ≡ last_value (same key) pairs

-- the keys are those in the list
abbrev pub HasKeys : {K : Type 0} → (K → K → Bool) → (K → Bool) → List K → Type 0
HasKeys {K} same has keys = (key : K) → has key ≡ list_any (same key) keys

module _ {Z : Type 0} where
  -- an owned text: what was there, with these bytes appended
  abbrev pub AppendsOwned : CowStr Z → List ℕ → CowStr Z → Type 0
  AppendsOwned old bytes new = IsOwnedStr new × (cow_str_bytes new ≡ cow_str_bytes old ++ bytes)

  -- the given text if nothing was there, and else an owned text with the given text appended
  abbrev pub BecomesOrAppends : CowStr Z → CowStr Z → CowStr Z → Type 0
  BecomesOrAppends old text new =
      MatchBool (length (cow_str_bytes old) == 0) (new ≡ text) (AppendsOwned old (cow_str_bytes text) new)

  -- the same text, borrowed or owned as it was
  abbrev pub CowUnchanged : CowStr Z → CowStr Z → Type 0
  CowUnchanged (Borrowed text) new = new ≡ Borrowed text
  CowUnchanged (Owned text) new = IsOwnedStr new × (cow_str_bytes new ≡ cow_str_bytes (Owned text))
