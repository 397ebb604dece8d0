-- The line of a place between two runs of bytes.
use Rattle.std.proofs.Common.{◌≡◌, ℕ, List, ◌++◌, take, drop, ap, sym, ◌∙◌, take-append-drop}
use Rattle.wb_base.specs.Positions.{line_feeds}
use Rattle.wb_base.specs.Excerpts.{IsExcerpt}
use Rattle.wb_base.specs.declared.excerpt.Excerpt.{Excerpt}

-- the end of the one and the start of the other, if these have no line feed
pub excerpt-of : (before rest : List ℕ) (start end : ℕ) (e : Excerpt)
    → e.before.items ≡ drop start before → e.after.items ≡ take end rest
    → line_feeds (drop start before) ≡ 0 → line_feeds (take end rest) ≡ 0 → IsExcerpt before rest e
excerpt-of before rest start end e left right none_left none_right = record {
  start = take start before;
  more = drop end rest;
  ahead = sym (take-append-drop start before) ∙ ap (λ b. take start before ++ b) (sym left);
  after = sym (take-append-drop end rest) ∙ ap (λ a. a ++ drop end rest) (sym right);
  line_ahead = ap line_feeds left ∙ none_left;
  line_after = ap line_feeds right ∙ none_right;
}
