-- The lines of events, as more come.
use Rattle.std.proofs.Common.{◌≡◌, ℕ, ◌+◌, ◌*◌, List, [], ◌∷◌, ◌++◌, replicate, refl, ap, sym, ◌∙◌, arith, append_assoc}
use Rattle.std.specs.Prelude.{min}
use Rattle.std.proofs.lemmas.List.{replicate_more}
use Rattle.format_json_events.specs.declared.event_reader.Event.{Event}
use Rattle.example_json.specs.Lines.{line_of, level_after, level_by, lines_at}

-- two spaces more
pub margin-more : (n : ℕ) (xs ys zs : List ℕ) → ys ≡ xs ++ replicate (2 * n) 32
    → zs ≡ (ys ++ 32 ∷ []) ++ 32 ∷ [] → zs ≡ xs ++ replicate (2 * (n + 1)) 32
margin-more n xs ys zs e f =
    let twice : 2 * n + 1 + 1 ≡ 2 * (n + 1) = omega arith in
    f ∙ ap (λ l. (l ++ 32 ∷ []) ++ 32 ∷ []) e
    ∙ ap (λ l. l ++ 32 ∷ []) (append_assoc xs (replicate (2 * n) 32) (32 ∷ []))
    ∙ append_assoc xs (replicate (2 * n) 32 ++ 32 ∷ []) (32 ∷ [])
    ∙ ap (λ l. xs ++ (l ++ 32 ∷ [])) (replicate_more (2 * n) 32)
    ∙ ap (λ l. xs ++ l) (replicate_more (2 * n + 1) 32)
    ∙ ap (λ m. xs ++ replicate m 32) twice

-- the level after some events, and then others
pub level-append : (n : ℕ) (xs ys : List Event)
    → level_by n (xs ++ ys) ≡ level_by (level_by n xs) ys
level-append n [] ys = refl
level-append n (x ∷ xs) ys = level-append (level_after n x) xs ys

-- the lines of some events, and then of others
pub lines-append : (n : ℕ) (xs ys : List Event)
    → lines_at n (xs ++ ys) ≡ lines_at n xs ++ lines_at (level_by n xs) ys
lines-append n [] ys = refl
lines-append n (x ∷ xs) ys =
    ap (λ l. line_of (min n (level_after n x)) x ++ l) (lines-append (level_after n x) xs ys)
    ∙ sym (append_assoc (line_of (min n (level_after n x)) x) (lines_at (level_after n x) xs) (lines_at (level_by (level_after n x) xs) ys))
