-- What is kept of an input around the place of a fault.
use Rattle.std.proofs.Common.{◌≡◌, ℕ, ◌+◌, ◌-◌, ◌≤◌, ◌<◌, ◌^◌, min, List, ◌++◌, length, take, drop, ap, sym, ◌∙◌, subst, arith, append_assoc, length-append, length-take}
use Rattle.std.specs.Prelude.{Option, None, Some, IfSome, IfOk, Result, Ok, Err}
use Rattle.std.proofs.lemmas.List.{take-append-drop, take-append-le, drop-append-le}
use Rattle.std.proofs.Math.Seq.{take-append-add, drop-append-add}
use Rattle.std.specs.Result.{result_ok}
use Rattle.wb_base.specs.Positions.{IsPositionAfter}
use Rattle.wb_base.specs.Excerpts.{IsExcerpt}
use Rattle.wb_base.specs.Recents.{IsRecent}
use Rattle.wb_base.specs.declared.position.Position.{Position}
use Rattle.wb_base.specs.declared.excerpt.Excerpt.{Excerpt}
use Rattle.wb_json.specs.Windows.{IsWindow, IsPlaced}
use Rattle.wb_json.specs.declared.window.Window.{Window}

-- the input is as long as what was dropped of it and what is kept
pub window-length : (input : List ℕ) (w : Window) → IsWindow input w
    → length input ≡ w.dropped + length w.bytes.items
window-length input w h =
    ap length h.splits ∙ length-append h.dropped w.bytes.items ∙ ap (λ n. n + length w.bytes.items) (sym h.counted)

-- the same is kept once the first bytes are dropped
pub window-drop : (input : List ℕ) (old new : Window) (width : ℕ) → IsWindow input old
    → width ≤ length old.bytes.items
    → ((taken : List ℕ) → IsRecent taken old.recent
    → length (taken ++ take width old.bytes.items) + 1 < 2 ^ 64
    → IsRecent (taken ++ take width old.bytes.items) new.recent)
    → new.bytes.items ≡ drop width old.bytes.items
    → new.dropped ≡ min (old.dropped + width) (2 ^ 64 - 1) → IsWindow input new
window-drop input old new width h fits recent bytes dropped =
    let xs = take width old.bytes.items in
    let all = window-length input old h in
    let long : length xs ≡ width = omega (arith, length-take width old.bytes.items, fits) in
    let both : length (h.dropped ++ xs) ≡ old.dropped + width = omega (arith, length-append h.dropped xs, h.counted, long) in
    record {
      dropped = h.dropped ++ xs;
      splits = h.splits ∙ ap (λ ys. h.dropped ++ ys) (sym (take-append-drop width old.bytes.items))
          ∙ sym (append_assoc h.dropped xs (drop width old.bytes.items))
          ∙ ap (λ ys. (h.dropped ++ xs) ++ ys) (sym bytes);
      recent = recent h.dropped h.recent (omega (arith, both, all, h.short, fits));
      counted = omega (arith, dropped, both, all, h.short, fits);
      short = h.short;
    }

-- the excerpt of a result that has one
excerpt-of : {E : Type 0} (before rest : List ℕ) (r : Result Excerpt E) (o : Option Excerpt)
    → o ≡ result_ok r → IfOk r (λ x. IsExcerpt before rest x) → IfSome o (IsExcerpt before rest)
excerpt-of before rest (Ok x) o is h = subst (λ p. IfSome p (IsExcerpt before rest)) (sym is) h
excerpt-of before rest (Err e) o is h = subst (λ p. IfSome p (IsExcerpt before rest)) (sym is) tt

-- a place in the bytes that are kept has its position and its line in the input
pub window-placed : {E : Type 0} (input : List ℕ) (w : Window) (place width : ℕ)
    (before rest : List ℕ) (position : Position) (r : Result Excerpt E) (excerpt : Option Excerpt)
    → IsWindow input w → place ≡ w.dropped + width → width ≤ length w.bytes.items
    → before ≡ take width w.bytes.items → rest ≡ drop width w.bytes.items
    → ((taken : List ℕ) → IsRecent taken w.recent → length (taken ++ before) + 1 < 2 ^ 64
    → IsPositionAfter (taken ++ before) position)
    → ((taken : List ℕ) → IsRecent taken w.recent
    → IfOk r (λ x. IsExcerpt (taken ++ before) rest x))
    → excerpt ≡ result_ok r → IsPlaced input place position excerpt
window-placed input w place width before rest position r excerpt h at fits is left stands line ok =
    let all = window-length input w h in
    let there : place ≡ length h.dropped + width = at ∙ ap (λ n. n + width) h.counted in
    let front : take place input ≡ h.dropped ++ before =
    ap (λ n. take n input) there ∙ ap (take (length h.dropped + width)) h.splits
    ∙ take-append-add h.dropped w.bytes.items width ∙ ap (λ ys. h.dropped ++ ys) (sym is) in
    let back : drop place input ≡ rest =
    ap (λ n. drop n input) there ∙ ap (drop (length h.dropped + width)) h.splits
    ∙ drop-append-add h.dropped w.bytes.items width ∙ sym left in
    let long : length before ≤ width = omega (arith, ap length is, length-take width w.bytes.items) in
    let short : length (h.dropped ++ before) + 1 < 2 ^ 64 = omega (arith, length-append h.dropped before, long, all, h.counted, h.short, fits) in
    record {
      within = omega (arith, at, all, fits);
      stands = subst (λ xs. IsPositionAfter xs position) (sym front) (stands h.dropped h.recent short);
      line = subst (λ xs. IfSome excerpt (IsExcerpt xs (drop place input))) (sym front)
          (subst (λ ys. IfSome excerpt (IsExcerpt (h.dropped ++ before) ys)) (sym back)
          (excerpt-of (h.dropped ++ before) rest r excerpt ok (line h.dropped h.recent)));
    }

-- an excerpt is one of a longer input too
line-longer : (before after rest : List ℕ) (excerpt : Option Excerpt)
    → IfSome excerpt (IsExcerpt before after) → IfSome excerpt (IsExcerpt before (after ++ rest))
line-longer before after rest None h = tt
line-longer before after rest (Some x) h = record {
  start = h.start;
  more = h.more ++ rest;
  ahead = h.ahead;
  after = ap (λ xs. xs ++ rest) h.after ∙ append_assoc x.after.items h.more rest;
  line_ahead = h.line_ahead;
  line_after = h.line_after;
}

-- a place has its position and its line in a longer input too
pub placed-longer : (input rest : List ℕ) (place : ℕ) (position : Position)
    (excerpt : Option Excerpt) → IsPlaced input place position excerpt
    → IsPlaced (input ++ rest) place position excerpt
placed-longer input rest place position excerpt h = record {
  within = omega (arith, h.within, length-append input rest);
  stands = subst (λ xs. IsPositionAfter xs position) (sym (take-append-le place input rest h.within)) h.stands;
  line = subst (λ xs. IfSome excerpt (IsExcerpt xs (drop place (input ++ rest)))) (sym (take-append-le place input rest h.within))
      (subst (λ ys. IfSome excerpt (IsExcerpt (take place input) ys)) (sym (drop-append-le place input rest h.within))
      (line-longer (take place input) (drop place input) rest excerpt h.line));
}
