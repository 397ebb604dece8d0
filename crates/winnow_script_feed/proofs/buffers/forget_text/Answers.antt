use Rattle.std.proofs.Common.{ap, ◌∙◌}
use Rattle.std.specs.String.{string_bytes}
use Rattle.std.proofs.lemmas.Str.{IsUtf8-string_bytes}
use Rattle.winnow_stream.specs.Text.{text_source}
use Rattle.winnow_stream.proofs.lemmas.TextLemmas.{boundary-from_is_offset, back-cut}
use Rattle.winnow_script_feed.proofs.buffers.forget_text.Goals as goal

pub drop_front-requires : goal.drop_front-requires
drop_front-requires c =
    let b = boundary-from_is_offset (string_bytes c.args.kept.now) c.args.n (IsUtf8-string_bytes c.args.kept.now) c.requires in
    (b.0, λ _ l a. b.1 l a)

pub returns-clause-source : goal.returns-clause-source
returns-clause-source c =
    let u = IsUtf8-string_bytes c.args.kept.now in
    ap text_source c.drop_front.ensures ∙ back-cut (string_bytes c.args.kept.now) c.args.n u (boundary-from_is_offset (string_bytes c.args.kept.now) c.args.n u c.requires)
