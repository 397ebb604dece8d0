use Rattle.std.proofs.Common.{rules, Decides, ◌≡◌, inl, inr, sym, ◌∙◌, refl, arith, false, length, eqb}
use Rattle.std.proofs.lemmas.Result.{IfOk-at_ok}
use Rattle.std.proofs.lemmas.Bool.{eqb-false}
use Rattle.std.proofs.lemmas.Slice.Eq.{slice_eq-Decides}
use Rattle.std.proofs.lemmas.Bool.Decides.{Decides-eqb}
use Rattle.hex.proofs.HexLemmas.{decode_of-ok, decode_of-digits}
use Rattle.winnow_script_lines.proofs.literals.literal.Goals as goal

pub returns-in-Ok-clause-found : goal.returns-in-Ok-clause-found
returns-in-Ok-clause-found c =
    let word = decode_of-ok c.args.word.now _ (IfOk-at_ok _ c.in-Ok.is c.decode.ensures.ok) in
    let filled : eqb (length c.args.word.now) 0 ≡ false = sym c.is_empty.ensures ∙ c.if-is_empty.false in
    (λ _. inr (omega (arith, eqb-false, filled), word.0, word.1), λ _. refl)

pub returns-in-Ok-clause-bytes : goal.returns-in-Ok-clause-bytes
returns-in-Ok-clause-bytes c =
    let decoded = IfOk-at_ok _ c.in-Ok.is c.decode.ensures.ok in
    let word = decode_of-ok c.args.word.now _ decoded in
    let filled : eqb (length c.args.word.now) 0 ≡ false = sym c.is_empty.ensures ∙ c.if-is_empty.false in
    inr ((omega (arith, eqb-false, filled), word.0, word.1), decoded)

-- the word is neither `-`, which was tested, nor digits, which decode
pub returns-in_default : goal.returns-in_default
returns-in_default c =
    let is_dash : Decides c.eq.result (c.args.word.now ≡ c.as_slice.result.now) = slice_eq-Decides Decides-eqb _ _ _ c.eq.ensures in
    record {
      found = (
        λ h. cc h,
        λ h. elim h [
          | inl dash ↦ cc (sym (is_dash.1 (dash ∙ sym c.as_slice.ensures)) ∙ c.if-eq.false)
          | inr digits ↦
              elim c.in-Err.ensures.err [
                | inl memory ↦ absurd (c.in_default.not-OutOfMemory memory)
                | inr bad ↦ cc (sym (decode_of-digits c.args.word.now digits.1 digits.2).1 ∙ bad)
              ]
        ],
      );
      bytes = tt;
    }

pub returns-then-is_empty-clause-found : goal.returns-then-is_empty-clause-found
returns-then-is_empty-clause-found c = search rules

pub returns-then-eq : goal.returns-then-eq
returns-then-eq c =
    let is_dash : Decides c.eq.result (c.args.word.now ≡ c.as_slice.result.now) = slice_eq-Decides Decides-eqb _ _ _ c.eq.ensures in
    let dash = is_dash.0 c.if-eq.true ∙ c.as_slice.ensures in
    record { found = (λ _. inl dash, λ _. refl); bytes = inl (dash, c.new.ensures.items) }
