-- The layers of terms: their heads, and the terms that they hold.
use Rattle.std.specs.declared.alloc.Global.{Global}
use Rattle.std.specs.Prelude.{Vec, ℕ, ℤ, List, [], length}
use Rattle.std.proofs.Common.{refl}
use Rattle.winnow_codec.specs.Bytes.{HaveSameBytes}
use Rattle.winnow_codec.specs.Cases.{AreSameCase}
use Rattle.winnow_codec.specs.Formats.{IsEqual}
use Rattle.winnow_codec.specs.declared.choice.Choice.{Choice}
use Rattle.winnow_codec.specs.declared.choice.Choice.TheVariants.{First, Other}
use Rattle.winnow_codec_nested.specs.Layered.{CountsAlike}
use Rattle.example_terms.specs.declared.term.Term.{Term}
use Rattle.example_terms.specs.declared.term.Term.TheOpen.{Term-F, Small, Integer, Tuple, Binary}
use Rattle.example_terms.specs.declared.term.Term.TheViews.{out-Term}

-- what a tag is followed by: a number of a byte, an integer, how many terms there are, or bytes
abbrev pub Head : Type 0
Head = Choice ℕ (Choice ℤ (Choice ℕ (Vec ℕ Global)))

abbrev pub head_of_layer : Term-F Term → Head
head_of_layer (Small n) = First n
head_of_layer (Integer n) = Other (First n)
head_of_layer (Tuple terms) = Other (Other (First (length terms.items)))
head_of_layer (Binary bytes) = Other (Other (Other bytes))

abbrev pub held_in_layer : Term-F Term → List Term
held_in_layer (Small n) = []
held_in_layer (Integer n) = []
held_in_layer (Tuple terms) = terms.items
held_in_layer (Binary bytes) = []

-- the head of a term
abbrev pub head_of : Term → Head
head_of term = head_of_layer (out-Term term)

-- the terms that a term holds
abbrev pub held : Term → List Term
held term = held_in_layer (out-Term term)

-- how many terms follow a head
abbrev pub count_after : Head → ℕ
count_after (First n) = 0
count_after (Other (First n)) = 0
count_after (Other (Other (First count))) = count
count_after (Other (Other (Other bytes))) = 0

-- the heads are of one kind, and hold the same
abbrev pub AreSameHead : Head → Head → Type 0
AreSameHead = AreSameCase IsEqual (AreSameCase IsEqual (AreSameCase IsEqual HaveSameBytes))

pub CountsAlike-Heads : CountsAlike AreSameHead count_after
CountsAlike-Heads (First m) (First n) h = refl
CountsAlike-Heads (First m) (Other k) h = absurd h
CountsAlike-Heads (Other k) (First n) h = absurd h
CountsAlike-Heads (Other (First m)) (Other (First n)) h = refl
CountsAlike-Heads (Other (First m)) (Other (Other k)) h = absurd h
CountsAlike-Heads (Other (Other k)) (Other (First n)) h = absurd h
CountsAlike-Heads (Other (Other (First m))) (Other (Other (First n))) h = h
CountsAlike-Heads (Other (Other (First m))) (Other (Other (Other b))) h = absurd h
CountsAlike-Heads (Other (Other (Other b))) (Other (Other (First n))) h = absurd h
CountsAlike-Heads (Other (Other (Other b))) (Other (Other (Other c))) h = refl
