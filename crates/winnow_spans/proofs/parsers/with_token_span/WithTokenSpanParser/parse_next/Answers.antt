use Rattle.std.proofs.Common.{refl}
use Rattle.winnow_spans.proofs.parsers.with_token_span.WithTokenSpanParser.parse_next.Goals as goal

pub returns-clause-means : goal.returns-clause-means
returns-clause-means g c = (
  (c.in_ok-value.value, c.in_ok-value.tokens),
  ((refl, c.range_of-range.ensures), c.in_ok-value.ensures.means),
)
