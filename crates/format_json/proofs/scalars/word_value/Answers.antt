use Rattle.std.proofs.Common.{refl}
use Rattle.format_json.specs.Language.{WordAhead}
use Rattle.format_json.specs.Founds.{IsWord}
use Rattle.format_json.specs.declared.found.Found.TheVariants.{Begun, Damaged}
use Rattle.format_json.proofs.lemmas.FoundLemmas.{found-same, begun-as, damaged-as}
use Rattle.format_json.proofs.scalars.word_value.Goals as goal

pub returns-in-Begun-clause-found : goal.returns-in-Begun-clause-found
returns-in-Begun-clause-found c =
    begun-as (WordAhead c.args.word.now) (IsWord c.args.word.now c.args.value) c.args.partial c.args.bytes.now c.args.bytes.now (λ more may v r h. (more, (λ e. e, (tt, (r, h.1)))))
    (found-same (WordAhead c.args.word.now) c.args.partial c.args.bytes.now c.args.bytes.now c.word_at.result Begun c.word_at.ensures.found refl c.in-Begun.is)

pub returns-in-Damaged-clause-found : goal.returns-in-Damaged-clause-found
returns-in-Damaged-clause-found c =
    let found = found-same (WordAhead c.args.word.now) c.args.partial c.args.bytes.now c.args.bytes.now c.word_at.result (Damaged c.in-Damaged.width) c.word_at.ensures.found refl c.in-Damaged.is in
    damaged-as (WordAhead c.args.word.now) (IsWord c.args.word.now c.args.value) c.args.partial c.args.bytes.now c.args.bytes.now (λ more may v r h. (more, (λ e. e, (tt, (r, h.1))))) c.in-Damaged.width c.in-Damaged.width found.0 found
