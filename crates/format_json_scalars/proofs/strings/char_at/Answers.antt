use Rattle.std.specs.Prelude.{encode_utf8}
use Rattle.std.proofs.Common.{[], ◌∷◌, subst, refl}
use Rattle.std.proofs.lemmas.List.{take_rest}
use Rattle.format_json_scalars.specs.Escapes.{IsEscape}
use Rattle.format_json_scalars.specs.declared.escapes.Escape.TheVariants.{Whole, Begun}
use Rattle.format_json_scalars.proofs.lemmas.StringLemmas.{slash-escape, escape-taken}
use Rattle.format_json_scalars.proofs.strings.char_at.Goals as goal

pub returns-in-Whole : goal.returns-in-Whole
returns-in-Whole c =
    let bytes = c.args.bytes.now in
    let char = c.in-Whole.field-0 in
    let answer = Whole char c.in-Whole.width in (
      encode_utf8 char,
      escape-taken bytes [] (encode_utf8 char) char c.in-Whole.width
          (slash-escape bytes answer c.requires c.if-bytes-ne92.false (subst (λ t. IsEscape (92 ∷ t) answer) (take_rest bytes 1) c.in-Whole.ensures)) refl,
    )

pub returns-in-Begun : goal.returns-in-Begun
returns-in-Begun c =
    let bytes = c.args.bytes.now in
    slash-escape bytes Begun c.requires c.if-bytes-ne92.false (subst (λ t. IsEscape (92 ∷ t) Begun) (take_rest bytes 1) c.in-Begun.ensures)
