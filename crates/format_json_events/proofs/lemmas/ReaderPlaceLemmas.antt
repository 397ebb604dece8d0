-- How much of its input a reader of events has, and what is left of it.
use Rattle.std.proofs.Common.{◌≡◌, ℕ, ◌+◌, ◌≤◌, Bool, true, false, if◌then◌else◌, List, [], ◌∷◌, ◌++◌, length, drop, ap, sym, ◌∙◌, subst, refl, arith, append_assoc, append-nil, length-append}
use Rattle.std.proofs.Math.Seq.{drop-append_seam}
use Rattle.std.proofs.lemmas.List.{map-append}
use Rattle.std.proofs.lemmas.Option.{same_Some}
use Rattle.winnow_stream.specs.Source.{width}
use Rattle.winnow_stream.specs.Units.{width-units}
use Rattle.winnow_stream.specs.Location.{location_behind}
use Rattle.winnow_stream.proofs.lemmas.MovingLemmas.{MovesOn-end}
use Rattle.winnow_parser.specs.Outcome.{Ahead}
use Rattle.winnow_reader.specs.Place.{bytes_at}
use Rattle.winnow_reader.specs.State.{fed_of}
use Rattle.winnow_reader.specs.Reading.{Reads, MayFollow}
use Rattle.format_lemmas.specs.Bytes.{bytes_of}
use Rattle.format_lemmas.proofs.lemmas.ByteLemmas.{bytes-units}
use Rattle.format_json.specs.Language.{is_blank, after_blanks}
use Rattle.format_json.specs.TokenAnswers.{OneToken}
use Rattle.format_json_events.specs.Reading.{EventState, HasGiven}
use Rattle.format_json.specs.declared.tokens.Token.{Token}
use Rattle.format_json_events.specs.declared.event_reader.Event.{Event}

-- ---- Bytes that end with others

-- the bytes end with these
abbrev pub EndsWith : List ℕ → List ℕ → Type 0
EndsWith b r = (front : List ℕ) × (b ≡ front ++ r)

-- bytes end with the end of what they end with
pub ends-on : (a b c : List ℕ) → EndsWith a b → EndsWith b c → EndsWith a c
ends-on a b c (f, e) (g, is) = (f ++ g, e ∙ ap (λ l. f ++ l) is ∙ sym (append_assoc f g c))

-- bytes end with these also if more follows
pub ends-longer : (b r more : List ℕ) → EndsWith b r → EndsWith (b ++ more) (r ++ more)
ends-longer b r more (f, e) = (f, ap (λ l. l ++ more) e ∙ append_assoc f r more)

-- the bytes from the place on are those, where the lengths say so
pub ends-from : (b r : List ℕ) (place : ℕ) → EndsWith b r → place + length r ≡ length b
    → (place ≤ length b) × (drop place b ≡ r)
ends-from b r place (f, e) sum =
    let long : place ≡ length f = omega (arith, sum, ap length e, length-append f r) in
    (omega (arith, sum), ap (λ n. drop n b) long ∙ ap (drop (length f)) e ∙ drop-append_seam f r)

-- one step of `ends-blanks`
ends-if : (t : Bool) (x : ℕ) (b : List ℕ) → EndsWith b (after_blanks b)
    → EndsWith (x ∷ b) (if t then after_blanks b else x ∷ b)
ends-if true x b (f, e) = (x ∷ f, ap (λ l. x ∷ l) e)
ends-if false x b h = ([], refl)

-- bytes end with what stands after blanks
pub ends-blanks : (b : List ℕ) → EndsWith b (after_blanks b)
ends-blanks [] = ([], refl)
ends-blanks (x ∷ b) = ends-if (is_blank x) x b (ends-blanks b)

-- ---- What a reader has

-- nothing may follow
none-follows : (ended : Bool) → MayFollow ended [] false
none-follows false = tt
none-follows true = (refl, refl)

-- tokens that are read leave the place at which the input ends
reads-end : (tokens : List Token) (a b : Ahead ℕ) → Reads OneToken false a tokens b
    → location_behind b.location (width b.tokens) ≡ location_behind a.location (width a.tokens)
reads-end [] a b e = ap (λ (p : Ahead ℕ). location_behind p.location (width p.tokens)) (sym e)
reads-end (t ∷ tokens) a b (c, (h, less, more)) =
    reads-end tokens c b more ∙ MovesOn-end a.location c.location a.tokens c.tokens h.0

-- what was ahead ends with what is
reads-rest : (tokens : List Token) (a b : Ahead ℕ) → Reads OneToken false a tokens b
    → EndsWith (bytes_of a.tokens) (bytes_of b.tokens)
reads-rest [] a b e = ([], ap (λ (p : Ahead ℕ). bytes_of p.tokens) e)
reads-rest (t ∷ tokens) a b (c, (h, less, more)) =
    let moved = ap bytes_of h.0.whole ∙ map-append (λ x. x.0) h.0.taken c.tokens in
    ends-on (bytes_of a.tokens) (bytes_of c.tokens) (bytes_of b.tokens)
    (bytes_of h.0.taken, moved) (reads-rest tokens c b more)

module _ (r : EventState) (input : List ℕ) (events : List Event) (h : HasGiven r input events) where
  -- what stands after all that the reader took
  abbrev left_all : List ℕ
  left_all = h.read.blanks ++ r.tokens.ahead

  -- what the reader read
  read-all : Reads OneToken false (bytes_at 0 (input ++ [])) (h.taken ++ h.others)
      (bytes_at h.read.start (left_all ++ []))
  read-all = h.read.read.reads [] false (none-follows r.tokens.ended)

  -- it has as much of the input as there is
  pub given-fed : fed_of r.tokens ≡ length input
  given-fed =
      let ends = same_Some _ _ (reads-end (h.taken ++ h.others) (bytes_at 0 (input ++ [])) (bytes_at h.read.start (left_all ++ [])) read-all) in
      omega (arith, ends, h.read.there, width-units (input ++ []), width-units (left_all ++ []), length-append input [], length-append left_all [], length-append h.read.blanks r.tokens.ahead)

  -- the input ends with what is ahead
  pub given-rest : EndsWith input r.tokens.ahead
  given-rest =
      let rest = reads-rest (h.taken ++ h.others) (bytes_at 0 (input ++ [])) (bytes_at h.read.start (left_all ++ [])) read-all in
      let whole = subst (λ l. EndsWith l left_all) (bytes-units (input ++ []) ∙ append-nil input)
      (subst (λ l. EndsWith (bytes_of (bytes_at 0 (input ++ [])).tokens) l) (bytes-units (left_all ++ []) ∙ append-nil left_all) rest) in
      ends-on input left_all r.tokens.ahead whole (h.read.blanks, refl)
