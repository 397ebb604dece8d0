use Rattle.std.proofs.Common.{refl}
use Rattle.format_csv_fields.proofs.lemmas.LookLemmas.{looked-open}
use Rattle.format_csv_fields.proofs.looking.look_anew.Goals as goal

pub look_quoted-requires : goal.look_quoted-requires
look_quoted-requires c = looked-open c.args.bytes.now (c.if-has_quote.ensures.quote refl)
