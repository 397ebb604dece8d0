-- The places and lines of events, as more come.
use Rattle.std.proofs.Common.{◌≡◌, List, [], ◌∷◌, ◌++◌, refl, ap, sym, ◌∙◌, append_assoc}
use Rattle.format_json_events.specs.declared.event_reader.Event.{Event}
use Rattle.wb_json.specs.Paths.{Place, at_root, moved, moved_by}
use Rattle.wb_json.specs.Lines.{line_of, lines_at}
use Rattle.wb_json.specs.Printing.{opening, reached, written}
use Rattle.wb_json.specs.declared.settings.Layout.{Layout}
use Rattle.wb_json.specs.declared.settings.Settings.{Settings}

-- the place after some events, and then others
pub moved-append : (p : Place) (xs ys : List Event)
    → moved_by p (xs ++ ys) ≡ moved_by (moved_by p xs) ys
moved-append p [] ys = refl
moved-append p (x ∷ xs) ys = moved-append (moved p x) xs ys

-- the lines of some events, and then of others
pub lines-append : (layout : Layout) (p : Place) (xs ys : List Event)
    → lines_at layout p (xs ++ ys) ≡ lines_at layout p xs ++ lines_at layout (moved_by p xs) ys
lines-append layout p [] ys = refl
lines-append layout p (x ∷ xs) ys =
    ap (λ l. line_of layout p x ++ l) (lines-append layout (moved p x) xs ys)
    ∙ sym (append_assoc (line_of layout p x) (lines_at layout (moved p x) xs) (lines_at layout (moved_by (moved p x) xs) ys))

-- the place after more events of an input
pub reached-more : (s : Settings) (events more : List Event)
    → reached s (events ++ more) ≡ moved_by (reached s events) more
reached-more s events more =
    ap (moved_by at_root) (sym (append_assoc (opening s) events more))
    ∙ moved-append at_root (opening s ++ events) more

-- what is written of more events of an input
pub written-more : (s : Settings) (events more : List Event)
    → written s (events ++ more) ≡ written s events ++ lines_at s.layout (reached s events) more
written-more s events more =
    ap (lines_at s.layout at_root) (sym (append_assoc (opening s) events more))
    ∙ lines-append s.layout at_root (opening s ++ events) more
