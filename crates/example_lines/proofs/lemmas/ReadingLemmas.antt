-- What a reader of lines has read, and why it never fails.
use Rattle.std.specs.Prelude.{true, false, None}
use Rattle.std.specs.Global.{Vec}
use Rattle.std.proofs.Common.{◌≡◌, ℕ, ◌<◌, List, [], ◌∷◌, ◌++◌, length, refl, ap, sym, ◌∙◌, subst, inl, inr, arith}
use Rattle.std.proofs.lemmas.List.{append-nil, length-append}
use Rattle.winnow.specs.Place.{bytes_at}
use Rattle.winnow.specs.Wanted.{size_of}
use Rattle.winnow.specs.State.{ReaderState}
use Rattle.winnow.specs.Reading.{MayFollow, Lacks}
use Rattle.winnow.specs.InTurn.{GivesWhatStands, bytes_at-same}
use Rattle.winnow.specs.Answering.{FailsAt, IdlesAt}
use Rattle.example_lines.specs.Lines.{OneLine, LineStands, IsNextLine, first_end, line_end}
use Rattle.example_lines.proofs.lemmas.LineLemmas.{line-given, needs-end, never-backtracks, never-cuts}

-- a line that is read stands in the bytes
pub gives-lines : GivesWhatStands LineStands OneLine
gives-lines line place there bytes behind given =
    let g = line-given place bytes false line (bytes_at there behind) given in
    subst (IsNextLine bytes line.items) (sym (bytes_at-same there g.0 behind g.1.0 g.1.1.0).1) g.1.1.1

module _ {R : Type 0} (f : ReaderState R) (goes_on : f.ended ≡ false) where
  -- anything may follow
  may-follow : MayFollow f.ended [] true
  may-follow = subst (λ e. MayFollow e [] true) (sym goes_on) tt

  -- the reader never fails
  pub never-fails : (place : ℕ) → ¬ (FailsAt (λ r. OneLine) f place)
  never-fails place (rest, fails) =
      let stops = fails [] true may-follow in
      elim stops [
        | inl back ↦ never-backtracks f.place (f.ahead ++ []) (bytes_at place (rest ++ [])) back
        | inr cut ↦ never-cuts f.place (f.ahead ++ []) (bytes_at place (rest ++ [])) cut
      ]

  -- a line takes something
  pub never-idles : (place : ℕ) → ¬ (IdlesAt (λ r. OneLine) f place)
  never-idles place (here, (line, idles)) =
      let bytes : List ℕ = f.ahead ++ [] in
      let g = line-given place bytes true line (bytes_at place bytes) (idles [] true may-follow) in
      let same : bytes ≡ g.1.0 = (bytes_at-same place g.0 bytes g.1.0 g.1.1.0).1 in
      omega (arith, ap length same, ap length g.1.1.1.0, length-append (line.items ++ line_end) g.1.0, length-append line.items line_end)

-- fewer bytes than one are none
no-bytes : (xs : List ℕ) → length xs < 1 → xs ≡ []
no-bytes [] h = refl
no-bytes (x ∷ xs) h = absurd (omega (arith, h))

-- where the reader lacks something, no line end stands in the rest
pub lacks-end : {R : Type 0} (f : ReaderState R) → Lacks (λ r. OneLine) f → first_end f.ahead ≡ None
lacks-end f (rest, (n, (asks, short))) =
    let needs = needs-end f.place asks.front asks.need asks.needs in
    let one : n ≡ 1 = asks.size ∙ ap size_of needs.1 in
    let none : rest ≡ [] = no-bytes rest (omega (arith, short, one)) in
    let all : f.ahead ≡ asks.front = asks.whole ∙ ap (λ r. asks.front ++ r) none ∙ append-nil asks.front in
    ap first_end all ∙ needs.0
