use Rattle.std.proofs.Common.{ap, sym, ◌∙◌}
use Rattle.std.specs.Prelude.{drop}
use Rattle.std.proofs.lemmas.List.{drop-drop}
use Rattle.law_streams.proofs.walks.look_back.Goals as goal

pub offset_since-requires-clause-is_end : goal.offset_since-requires-clause-is_end
offset_since-requires-clause-is_end g c = (
  2,
  c.next_token-2.ensures.remains
      ∙ ap (drop 1) c.next_token.ensures.remains
      ∙ drop-drop 1 1 (g.S.Stream.remaining c.args.s.now)
      ∙ ap (drop 2) (sym c.checkpoint-start.ensures.means),
)
