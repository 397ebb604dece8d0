-- A parser that gives no value in place of a failure, and goes on after what was skipped.
use Rattle.std.specs.Prelude.{◌≡◌, Bool, Option, Some, None}
use Rattle.winnow_parser.specs.Outcome.{Gives, Fails, Meaning}
use Rattle.winnow_parser.specs.Laws.{IsStable, IsOnward, IsParser}
use Rattle.winnow_resume.specs.Skipping.{Skips, Attempts, Skips-longer, Skips-moves, IsParser-Attempts}

-- the value, as an option
abbrev pub IsSomeOf : {O : Type 0} → O → Option O → Type 0
IsSomeOf x y = Some x ≡ y

-- the value of the parser; or none, if a failure is skipped; or a failure
abbrev pub ResumesAfter : {O T : Type 0} → Bool → Bool → Meaning O T → Meaning (Unit {0}) T
    → Meaning (Option O) T
ResumesAfter advances records means recover partial a (Gives (Some x) b) = means partial a (Gives x b)
ResumesAfter advances records means recover partial a (Gives None b) = Skips advances records means recover partial a b
ResumesAfter advances records means recover partial a (Fails f) = Attempts records means recover partial a (Fails f)

module _ {O T : Type 0} (advances records : Bool) {means : Meaning O T} {recover : Meaning (Unit {0}) T}
    (p : IsParser means) (r : IsParser recover) where
  -- a settled answer of `ResumesAfter` stays when more input follows
  resumes-stable : IsStable (ResumesAfter advances records means recover)
  resumes-stable more partial a (Gives (Some x) b) s h = p.stable more partial a (Gives x b) tt h
  resumes-stable more partial a (Gives None b) s h = Skips-longer p r records advances more partial a b h
  resumes-stable more partial a (Fails f) s h = (IsParser-Attempts p r records).stable more partial a (Fails f) s h

  -- `ResumesAfter` only moves the stream on
  resumes-onward : IsOnward (ResumesAfter advances records means recover)
  resumes-onward partial a (Gives (Some x) b) h = p.onward partial a (Gives x b) h
  resumes-onward partial a (Gives None b) h = Skips-moves p r records advances partial a b h
  resumes-onward partial a (Fails f) h = (IsParser-Attempts p r records).onward partial a (Fails f) h

  -- `ResumesAfter` keeps the laws of a parser
  pub IsParser-ResumesAfter : IsParser (ResumesAfter advances records means recover)
  IsParser-ResumesAfter = record {
    stable = resumes-stable;
    final = λ a n h. (IsParser-Attempts p r records).final a n h;
    onward = resumes-onward;
  }
