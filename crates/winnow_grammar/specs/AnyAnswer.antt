-- The answers that a parser may give of which nothing more is said.
use Rattle.std.specs.Prelude.{◌≡◌, ℕ, Bool, true, false, List, ◌++◌, ⊤, None, Result}
use Rattle.std.specs.Borrow.{Bor}
use Rattle.std.proofs.Common.{ap, ◌∙◌, append_assoc}
use Rattle.winnow_stream.specs.Source.{Source, units}
use Rattle.winnow_stream.specs.Text.{text_source}
use Rattle.winnow_stream.specs.declared.needed.Needed.{Needed}
use Rattle.winnow_error.specs.declared.failure.Failure.{Failure}
use Rattle.winnow_parser.specs.Answer.{outcome}
use Rattle.winnow_parser.specs.Outcome.{Ahead, Backtracks, Cuts, Needs, Refuses, Outcome, Gives, Fails, Meaning, Moves}
use Rattle.winnow_parser.specs.Laws.{longer, IsStable, IsParser, LeavesAfter}

-- more may follow
abbrev pub MayFollow : Bool → Type 0
MayFollow true = ⊤
MayFollow false = ⊥

-- more is needed only where more may follow
abbrev pub NeedsIf : {O T : Type 0} → Bool → Outcome O T → Type 0
NeedsIf partial (Gives x a) = ⊤
NeedsIf partial (Fails (Backtracks a)) = ⊤
NeedsIf partial (Fails (Cuts a)) = ⊤
NeedsIf partial (Fails (Needs n)) = MayFollow partial
NeedsIf partial (Fails Refuses) = ⊤

-- the stream only moved on, and more is needed only where more may follow
abbrev pub AnyAnswer : {O T : Type 0} → Meaning O T
AnyAnswer partial a v = LeavesAfter a v × NeedsIf partial v

-- a stream that moved on did so when more input follows
moves-longer : {T : Type 0} (more : Source T) (a b : Ahead T) → Moves a b
    → Moves (longer more a) (longer more b)
moves-longer more a b m = record {
  taken = m.taken;
  whole = ap (λ r. r ++ more) m.whole ∙ append_assoc m.taken b.tokens more;
  place = m.place;
}

any-stable : {O T : Type 0} → IsStable {O = O} {T = T} AnyAnswer
any-stable more partial a (Gives x b) s h = (moves-longer more a b h.0, tt)
any-stable more partial a (Fails (Backtracks b)) s h = (moves-longer more a b h.0, tt)
any-stable more partial a (Fails (Cuts b)) s h = (moves-longer more a b h.0, tt)
any-stable more partial a (Fails (Needs n)) s h = absurd s
any-stable more partial a (Fails Refuses) s h = absurd s

-- any answer keeps the laws of a parser
pub IsParser-AnyAnswer : {O T : Type 0} → IsParser {O = O} {T = T} AnyAnswer
IsParser-AnyAnswer = record { stable = any-stable; final = λ a n h. h.1; onward = λ partial a v h. h.0 }

needs-if : {O T : Type 0} (means : Meaning O T) → IsParser means → (partial : Bool) (a : Ahead T)
    (v : Outcome O T) → means partial a v → NeedsIf partial v
needs-if means p partial a (Gives x b) h = tt
needs-if means p partial a (Fails (Backtracks b)) h = tt
needs-if means p partial a (Fails (Cuts b)) h = tt
needs-if means p true a (Fails (Needs n)) h = tt
needs-if means p false a (Fails (Needs n)) h = absurd (p.final a n h)
needs-if means p partial a (Fails Refuses) h = tt

-- what any parser answers is such an answer
pub AnyAnswer-of : {O T : Type 0} (means : Meaning O T) → IsParser means → (partial : Bool)
    (a : Ahead T) (v : Outcome O T) → means partial a v → AnyAnswer partial a v
AnyAnswer-of means p partial a v h = (p.onward partial a v h, needs-if means p partial a v h)

-- a function returns a result that some parser may return, and the stream only advanced
abbrev pub AnswersOnward : {O E T : Type 0} → Bool → Ahead T → Result O (Failure E Needed)
    → Ahead T → Type 0
AnswersOnward partial a result b = AnyAnswer partial a (outcome result b) × Moves a b

-- the place of a text that stands at the front
abbrev pub text_place : List ℕ → Ahead ℕ
text_place text = record { location = None; tokens = text_source text }

-- the place of bytes that stand at the front
abbrev pub bytes_place : List ℕ → Ahead ℕ
bytes_place bytes = record { location = None; tokens = units bytes }

-- a function over a text returns as some parser may
abbrev pub ReadsText : {O E : Type 0} → Bor (List ℕ) → Result O (Failure E Needed)
    → Bor (List ℕ) → Type 0
ReadsText old result new = AnswersOnward false (text_place old.now) result (text_place new.now)

-- a function over bytes returns as some parser may
abbrev pub ReadsBytes : {O E : Type 0} → Bor (List ℕ) → Result O (Failure E Needed)
    → Bor (List ℕ) → Type 0
ReadsBytes old result new = AnswersOnward false (bytes_place old.now) result (bytes_place new.now)
