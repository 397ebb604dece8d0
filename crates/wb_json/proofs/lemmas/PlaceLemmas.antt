-- The places and lines of events that are the same, though they lie elsewhere in memory.
use Rattle.std.proofs.Common.{◌≡◌, ℕ, zero, suc, ◌+◌, ◌-◌, Bool, true, false, List, [], ◌∷◌, ◌++◌, length, take, refl, ap, ◌∙◌, subst}
use Rattle.std.specs.Prelude.{codes, slice_get, unwrap_or, ⊤}
use Rattle.std.specs.List.{flat_map}
use Rattle.std.specs.String.{string_bytes}
use Rattle.format_json.specs.Quoting.{written_string}
use Rattle.format_json.specs.Language.{bool_word}
use Rattle.format_json.specs.SameValues.{SameAll}
use Rattle.format_json_events.specs.ValueEvents.{SameEvent}
use Rattle.format_json_events.specs.declared.event_reader.Event.{Event}
use Rattle.format_json_events.specs.declared.event_reader.Event.TheVariants as event
use Rattle.wb_json.specs.Paths.{Place, at_root, next_step, passed, entered, closed, moved}
use Rattle.wb_json.specs.Lines.{step_text, member_text, path_text, value_text, assignment, assigned, comma_before, comma_between, feed_after, compact, line_of, lines_at}
use Rattle.wb_json.specs.Printing.{opening_of, opening, written}
use Rattle.wb_json.specs.declared.path.Step.{Step}
use Rattle.wb_json.specs.declared.path.Step.TheVariants.{Root, Element, Inside, Member}
use Rattle.wb_json.specs.declared.settings.Layout.{Layout}
use Rattle.wb_json.specs.declared.settings.Layout.TheVariants.{Assignments, Values, Nothing}
use Rattle.wb_json.specs.declared.settings.Settings.{Settings}

-- ---- Steps

-- the steps are of one kind, with the same index or a name of the same characters
abbrev SameStep : Step → Step → Type 0
SameStep Root Root = ⊤
SameStep (Element i) (Element j) = i ≡ j
SameStep Inside Inside = ⊤
SameStep (Member v) (Member w) = string_bytes v ≡ string_bytes w
SameStep x y = ⊥

-- the places have the same steps
abbrev SamePlace : Place → Place → Type 0
SamePlace p q = SameAll SameStep p.outer q.outer × SameStep p.here q.here

same-step-text : (x y : Step) → SameStep x y → step_text x ≡ step_text y
same-step-text Root Root h = refl
same-step-text (Element i) (Element j) h = ap (λ n. step_text (Element n)) h
same-step-text Inside Inside h = refl
same-step-text (Member v) (Member w) h = ap member_text h
same-step-text x y h = absurd h

same-steps-text : (xs ys : List Step) → SameAll SameStep xs ys
    → flat_map step_text xs ≡ flat_map step_text ys
same-steps-text [] [] h = refl
same-steps-text [] (y ∷ ys) h = absurd h
same-steps-text (x ∷ xs) [] h = absurd h
same-steps-text (x ∷ xs) (y ∷ ys) h =
    ap (λ t. t ++ flat_map step_text xs) (same-step-text x y h.0)
    ∙ ap (λ t. step_text y ++ t) (same-steps-text xs ys h.1)

same-path : (p q : Place) → SamePlace p q → path_text p ≡ path_text q
same-path p q h =
    ap (λ t. codes "json" ++ (t ++ step_text p.here)) (same-steps-text p.outer q.outer h.0)
    ∙ ap (λ t. codes "json" ++ (flat_map step_text q.outer ++ t)) (same-step-text p.here q.here h.1)

same-next : (x y : Step) → SameStep x y → SameStep (next_step x) (next_step y)
same-next Root Root h = tt
same-next (Element i) (Element j) h = ap (λ n. n + 1) h
same-next Inside Inside h = tt
same-next (Member v) (Member w) h = h
same-next x y h = absurd h

-- ---- Lists of steps

same-append : (xs ys : List Step) (x y : Step) → SameAll SameStep xs ys → SameStep x y
    → SameAll SameStep (xs ++ x ∷ []) (ys ++ y ∷ [])
same-append [] [] x y h k = (k, tt)
same-append [] (b ∷ ys) x y h k = absurd h
same-append (a ∷ xs) [] x y h k = absurd h
same-append (a ∷ xs) (b ∷ ys) x y h k = (h.0, same-append xs ys x y h.1 k)

same-length : (xs ys : List Step) → SameAll SameStep xs ys → length xs ≡ length ys
same-length [] [] h = refl
same-length [] (b ∷ ys) h = absurd h
same-length (a ∷ xs) [] h = absurd h
same-length (a ∷ xs) (b ∷ ys) h = ap suc (same-length xs ys h.1)

same-take : (n : ℕ) (xs ys : List Step) → SameAll SameStep xs ys
    → SameAll SameStep (take n xs) (take n ys)
same-take zero xs ys h = tt
same-take (suc n) [] [] h = tt
same-take (suc n) [] (b ∷ ys) h = absurd h
same-take (suc n) (a ∷ xs) [] h = absurd h
same-take (suc n) (a ∷ xs) (b ∷ ys) h = (h.0, same-take n xs ys h.1)

same-get : (xs ys : List Step) (n : ℕ) → SameAll SameStep xs ys
    → SameStep (unwrap_or (slice_get xs n) Root) (unwrap_or (slice_get ys n) Root)
same-get [] [] n h = tt
same-get [] (b ∷ ys) n h = absurd h
same-get (a ∷ xs) [] n h = absurd h
same-get (a ∷ xs) (b ∷ ys) zero h = h.0
same-get (a ∷ xs) (b ∷ ys) (suc n) h = same-get xs ys n h.1

-- ---- Places

same-entered : (p q : Place) (x y : Step) → SamePlace p q → SameStep x y
    → SamePlace (entered p x) (entered q y)
same-entered p q x y h k = (same-append p.outer q.outer p.here q.here h.0 h.1, k)

same-closed : (p q : Place) → SamePlace p q → SamePlace (closed p) (closed q)
same-closed p q h =
    subst (λ n. SamePlace (closed p) (record { outer = take (n - 1) q.outer; here = next_step (unwrap_or (slice_get q.outer (n - 1)) Root) }))
    (same-length p.outer q.outer h.0) (
      same-take (length p.outer - 1) p.outer q.outer h.0,
      same-next (unwrap_or (slice_get p.outer (length p.outer - 1)) Root) (unwrap_or (slice_get q.outer (length p.outer - 1)) Root) (same-get p.outer q.outer (length p.outer - 1) h.0),
    )

same-passed : (p q : Place) → SamePlace p q → SamePlace (passed p) (passed q)
same-passed p q h = (h.0, same-next p.here q.here h.1)

same-moved : (p q : Place) (x y : Event) → SamePlace p q → SameEvent x y
    → SamePlace (moved p x) (moved q y)
same-moved p q event.StartArray event.StartArray h k = same-entered p q (Element 0) (Element 0) h refl
same-moved p q event.EndArray event.EndArray h k = same-closed p q h
same-moved p q event.StartObject event.StartObject h k = same-entered p q Inside Inside h tt
same-moved p q event.EndObject event.EndObject h k = same-closed p q h
same-moved p q (event.Key v) (event.Key w) h k = (h.0, k)
same-moved p q event.Null event.Null h k = same-passed p q h
same-moved p q (event.Bool a) (event.Bool b) h k = same-passed p q h
same-moved p q (event.Number n) (event.Number m) h k = same-passed p q h
same-moved p q (event.String v) (event.String w) h k = same-passed p q h
same-moved p q x y h k = absurd k

-- ---- Lines

same-value : (x y : Event) → SameEvent x y → value_text x ≡ value_text y
same-value event.StartArray event.StartArray h = refl
same-value event.EndArray event.EndArray h = refl
same-value event.StartObject event.StartObject h = refl
same-value event.EndObject event.EndObject h = refl
same-value (event.Key v) (event.Key w) h = refl
same-value event.Null event.Null h = refl
same-value (event.Bool a) (event.Bool b) h = ap bool_word h
same-value (event.Number n) (event.Number m) h = h.0
same-value (event.String v) (event.String w) h = ap written_string h
same-value x y h = absurd h

same-assignment : (p q : Place) (x y : Event) → SamePlace p q → SameEvent x y
    → assignment p (value_text x) ≡ assignment q (value_text y)
same-assignment p q x y h k =
    ap (assignment p) (same-value x y k)
    ∙ ap (λ t. t ++ (codes " = " ++ (value_text y ++ codes ";\n"))) (same-path p q h)

same-assigned : (p q : Place) (x y : Event) → SamePlace p q → SameEvent x y
    → assigned p x ≡ assigned q y
same-assigned p q event.StartArray event.StartArray h k = same-assignment p q event.StartArray event.StartArray h k
same-assigned p q event.EndArray event.EndArray h k = refl
same-assigned p q event.StartObject event.StartObject h k = same-assignment p q event.StartObject event.StartObject h k
same-assigned p q event.EndObject event.EndObject h k = refl
same-assigned p q (event.Key v) (event.Key w) h k = refl
same-assigned p q event.Null event.Null h k = same-assignment p q event.Null event.Null h k
same-assigned p q (event.Bool a) (event.Bool b) h k = same-assignment p q (event.Bool a) (event.Bool b) h k
same-assigned p q (event.Number n) (event.Number m) h k = same-assignment p q (event.Number n) (event.Number m) h k
same-assigned p q (event.String v) (event.String w) h k = same-assignment p q (event.String v) (event.String w) h k
same-assigned p q x y h k = absurd k

same-comma : (x y : Step) → SameStep x y → comma_before x ≡ comma_before y
same-comma Root Root h = refl
same-comma (Element i) (Element j) h = ap (λ n. comma_before (Element n)) h
same-comma Inside Inside h = refl
same-comma (Member v) (Member w) h = refl
same-comma x y h = absurd h

same-between : (x y : Step) → SameStep x y → comma_between x ≡ comma_between y
same-between Root Root h = refl
same-between (Element i) (Element j) h = refl
same-between Inside Inside h = refl
same-between (Member v) (Member w) h = refl
same-between x y h = absurd h

same-feed : (xs ys : List Step) → SameAll SameStep xs ys → feed_after xs ≡ feed_after ys
same-feed [] [] h = refl
same-feed [] (b ∷ ys) h = absurd h
same-feed (a ∷ xs) [] h = absurd h
same-feed (a ∷ xs) (b ∷ ys) h = refl

same-scalar : (p q : Place) (x y : Event) → SamePlace p q → SameEvent x y
    → comma_before p.here ++ (value_text x ++ feed_after p.outer)
    ≡ comma_before q.here ++ (value_text y ++ feed_after q.outer)
same-scalar p q x y h k =
    ap (λ t. t ++ (value_text x ++ feed_after p.outer)) (same-comma p.here q.here h.1)
    ∙ ap (λ t. comma_before q.here ++ (t ++ feed_after p.outer)) (same-value x y k)
    ∙ ap (λ t. comma_before q.here ++ (value_text y ++ t)) (same-feed p.outer q.outer h.0)

same-compact : (p q : Place) (x y : Event) → SamePlace p q → SameEvent x y
    → compact p x ≡ compact q y
same-compact p q event.StartArray event.StartArray h k = ap (λ t. t ++ 91 ∷ []) (same-comma p.here q.here h.1)
same-compact p q event.EndArray event.EndArray h k = ap (λ t. 93 ∷ t) (same-feed (closed p).outer (closed q).outer (same-closed p q h).0)
same-compact p q event.StartObject event.StartObject h k = ap (λ t. t ++ 123 ∷ []) (same-comma p.here q.here h.1)
same-compact p q event.EndObject event.EndObject h k = ap (λ t. 125 ∷ t) (same-feed (closed p).outer (closed q).outer (same-closed p q h).0)
same-compact p q (event.Key v) (event.Key w) h k =
    ap (λ t. t ++ (written_string (string_bytes v) ++ 58 ∷ [])) (same-between p.here q.here h.1)
    ∙ ap (λ s. comma_between q.here ++ (written_string s ++ 58 ∷ [])) k
same-compact p q event.Null event.Null h k = same-scalar p q event.Null event.Null h k
same-compact p q (event.Bool a) (event.Bool b) h k = same-scalar p q (event.Bool a) (event.Bool b) h k
same-compact p q (event.Number n) (event.Number m) h k = same-scalar p q (event.Number n) (event.Number m) h k
same-compact p q (event.String v) (event.String w) h k = same-scalar p q (event.String v) (event.String w) h k
same-compact p q x y h k = absurd k

same-line : (layout : Layout) (p q : Place) (x y : Event) → SamePlace p q → SameEvent x y
    → line_of layout p x ≡ line_of layout q y
same-line Assignments p q x y h k = same-assigned p q x y h k
same-line Values p q x y h k = same-compact p q x y h k
same-line Nothing p q x y h k = refl

same-lines-at : (layout : Layout) (p q : Place) (xs ys : List Event) → SamePlace p q
    → SameAll SameEvent xs ys → lines_at layout p xs ≡ lines_at layout q ys
same-lines-at layout p q [] [] h k = refl
same-lines-at layout p q [] (y ∷ ys) h k = absurd k
same-lines-at layout p q (x ∷ xs) [] h k = absurd k
same-lines-at layout p q (x ∷ xs) (y ∷ ys) h k =
    ap (λ t. t ++ lines_at layout (moved p x) xs) (same-line layout p q x y h k.0)
    ∙ ap (λ t. line_of layout q y ++ t) (same-lines-at layout (moved p x) (moved q y) xs ys (same-moved p q x y h k.0) k.1)

-- ---- The input

same-opening : (by_lines : Bool) (layout : Layout) (xs ys : List Event) → SameAll SameEvent xs ys
    → SameAll SameEvent (opening_of by_lines layout ++ xs) (opening_of by_lines layout ++ ys)
same-opening true Assignments xs ys h = (tt, h)
same-opening true Values xs ys h = h
same-opening true Nothing xs ys h = h
same-opening false layout xs ys h = h

-- of the same events the same is written
pub same-lines : (s : Settings) (xs ys : List Event) → SameAll SameEvent xs ys
    → written s xs ≡ written s ys
same-lines s xs ys h =
    same-lines-at s.layout at_root at_root (opening s ++ xs) (opening s ++ ys) (tt, tt)
    (same-opening s.by_lines s.layout xs ys h)
