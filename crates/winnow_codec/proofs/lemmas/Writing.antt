-- What writers of formats do, from what the writers of their parts do.
use Rattle.std.proofs.Common.{◌≡◌, ℕ, ◌-◌, List, ◌++◌, length, take, drop, Result, Ok, Err, ap, ◌∙◌, arith, length-append}
use Rattle.std.proofs.Math.Seq.{take-append_seam, drop-append_seam}
use Rattle.std.proofs.lemmas.List.{take_all}
use Rattle.winnow_codec.specs.Formats.{Spelling}
use Rattle.winnow_codec.specs.FormatParts.{SpellsParts}
use Rattle.winnow_codec.specs.FormatRows.{SpellsPair}
use Rattle.winnow_codec.specs.Writing.{Writes}
use Rattle.winnow_codec.specs.declared.unwritten.Unwritten.{Unwritten}
use Rattle.winnow_codec.specs.declared.unwritten.Unwritten.TheVariants.{Unspelled, Refused}

-- a first value is written, and not the second
pub both-unwritten : {S V W : Type 0} (parts : S → V × W) (first : Spelling V) (second : Spelling W)
    (s : S) (old mid new : List ℕ) (unwritten : Unwritten)
    → Writes first (parts s).0 old (Ok tt) mid → Writes second (parts s).1 mid (Err unwritten) new
    → Writes (SpellsParts parts (SpellsPair first second)) s old (Err unwritten) (take (length old) new)
both-unwritten parts first second s old mid new Unspelled h k =
    (λ bytes (x, y, (i, j, e)). k.0 y j, ap (take (length old)) (k.1 ∙ h.1.1) ∙ take-append_seam old h.0)
both-unwritten parts first second s old mid new (Refused r) h k =
    ap (take (length old)) (k ∙ h.1.1) ∙ take-append_seam old h.0

-- a value is written as another one is, if the same bytes spell both
pub written-as : {V W : Type 0} (inner : Spelling V) (spells : Spelling W) (v : V) (w : W)
    → ((bytes : List ℕ) → inner v bytes → spells w bytes)
    → ((bytes : List ℕ) → spells w bytes → inner v bytes)
    → (old new : List ℕ) (result : Result (Unit {0}) Unwritten)
    → Writes inner v old result new → Writes spells w old result new
written-as inner spells v w to from old new (Ok done) (bytes, (s, e)) = (bytes, (to bytes s, e))
written-as inner spells v w to from old new (Err Unspelled) h = (λ bytes s. h.0 bytes (from bytes s), h.1)
written-as inner spells v w to from old new (Err (Refused r)) h = h

-- the bytes from the old end on are those that were appended
pub appended-from : (old part new : List ℕ) (start : ℕ) → start ≡ length old → new ≡ old ++ part
    → take (length new - start) (drop start new) ≡ part
appended-from old part new start s e =
    let left : drop start new ≡ part = ap (λ n. drop n new) s ∙ ap (drop (length old)) e ∙ drop-append_seam old part in
    ap (take (length new - start)) left ∙ take_all (length new - start) part (omega (arith, ap length e, length-append old part, s))
