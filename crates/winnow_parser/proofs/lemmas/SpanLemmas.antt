-- The part of a list that a span names.
use Rattle.std.proofs.Common.{◌≡◌, ℕ, ◌+◌, ◌≤◌, List, ◌++◌, length, drop, take, refl, ap, sym, ◌∙◌, arith, append_assoc, length-take, length-drop}
use Rattle.std.specs.Prelude.{slice_range}
use Rattle.std.proofs.lemmas.List.{take_at, drop_at, take-map, drop-map, length-map}
use Rattle.winnow_stream.specs.Source.{Source, units, width}
use Rattle.winnow_stream.specs.Units.{width-units}
use Rattle.winnow_stream.proofs.lemmas.FrontLemmas.{width-append}

module _ {T : Type 0} where
  -- a front of the elements and the rest, each as the part of the list that it is
  record Split (xs : List T) (front rest : Source T) : Type 0 where
    front-is : front ≡ units (take (length front) xs)
    rest-is : rest ≡ units (drop (length front) xs)
    width-is : width front ≡ length front
    fits : length front ≤ length xs

  -- a front and what follows it split the list at the length of the front
  split_at : (xs : List T) (front rest : Source T) → units xs ≡ front ++ rest → Split xs front rest
  split_at xs front rest e =
      let n : ℕ = length front in
      let f : front ≡ units (take n xs) = sym (take_at front rest n refl) ∙ ap (take n) (sym e) ∙ take-map (λ x. (x, 1)) n xs in
      let l : length front ≡ length (take n xs) = ap length f ∙ length-map (take n xs) (λ x. (x, 1)) in
      record {
        front-is = f;
        rest-is = sym (drop_at front rest n refl) ∙ ap (drop n) (sym e) ∙ drop-map (λ x. (x, 1)) n xs;
        width-is = ap width f ∙ width-units (take n xs) ∙ sym l;
        fits = omega (arith, l, length-take n xs);
      }

  -- the part stands from index m up to index n of the list, and the rest follows it
  pub record IsNextPart (xs : List T) (part rest : Source T) (m n : ℕ) : Type 0 where
    pub long : n ≡ m + length part
    pub within : n ≤ length xs
    pub is : part ≡ units (slice_range xs m n)
    pub front : Source T
    pub whole : units xs ≡ front ++ rest
    pub at : n ≡ width front

  -- after a front and what is skipped, the next part stands where its widths say
  pub next-part : (xs : List T) (before skipped part rest ahead : Source T) (place m n : ℕ)
      → units xs ≡ before ++ ahead → place ≡ width before → ahead ≡ skipped ++ part ++ rest
      → m ≡ place + width skipped → n ≡ m + width part → IsNextPart xs part rest m n
  next-part xs before skipped part rest ahead place m n e at split start end =
      let front : Source T = before ++ skipped in
      let all : units xs ≡ front ++ (part ++ rest) = e ∙ ap (λ t. before ++ t) (split ∙ append_assoc skipped part rest) ∙ sym (append_assoc before skipped (part ++ rest)) in
      let gap = split_at xs front (part ++ rest) all in
      let here : length front ≡ m = omega (arith, gap.width-is, width-append before skipped, at, start) in
      let word = split_at (drop m xs) part rest (sym (gap.rest-is ∙ ap (λ k. units (drop k xs)) here)) in
      record {
        long = omega (arith, end, word.width-is);
        within = omega (arith, end, word.width-is, word.fits, length-drop m xs, gap.fits, here);
        is = word.front-is ∙ ap (λ k. units (take k (drop m xs))) (omega (arith, end, word.width-is));
        front = front ++ part;
        whole = all ∙ sym (append_assoc front part rest);
        at = omega (arith, end, start, at, width-append front part, width-append before skipped);
      }
