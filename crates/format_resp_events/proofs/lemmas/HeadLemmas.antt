-- The head of a reply, from what a reader of replies that stand in no array answers.
use Rattle.std.proofs.Common.{◌≡◌, ℕ, zero, suc, ◌+◌, ◌-◌, ◌≤◌, Bool, true, false, not, List, [], ◌∷◌, ◌++◌, length, take, drop, min, refl, ap, sym, ◌∙◌, subst, inl, inr, arith}
use Rattle.std.specs.Borrow.{Bor}
use Rattle.std.proofs.lemmas.List.{append-nil, length-append, length-drop, take_rest, take-append-drop, drop-append-le, map-append}
use Rattle.std.proofs.lemmas.Option.{same_Some}
use Rattle.winnow_stream.specs.Source.{Source, units, width}
use Rattle.winnow_stream.specs.Units.{HasPositiveWidths-units}
use Rattle.winnow_stream.specs.SliceBytes.{SlicesHaveBytes}
use Rattle.winnow_parser.specs.Outcome.{Ahead, Fails, Backtracks, Cuts, Moves}
use Rattle.winnow_reader.specs.Place.{bytes_at, IsByteSlice, SlicesStay-bytes}
use Rattle.winnow_reader.specs.State.{ReaderState}
use Rattle.winnow_reader.specs.Skips.{skipped}
use Rattle.winnow_reader.specs.Reading.{MayFollow}
use Rattle.winnow_reader.specs.Answering.{StopsAt, FailsAt, IdlesAt, TakesValue}
use Rattle.winnow_reader.proofs.lemmas.PlaceLemmas.{moved-bytes}
use Rattle.format_lemmas.specs.Bytes.{bytes_of}
use Rattle.format_lemmas.proofs.lemmas.ByteLemmas.{bytes-units}
use Rattle.format_lemmas.proofs.lemmas.TokenLemmas.{itself}
use Rattle.format_resp.specs.Language.{line, greatest_count, SpellsNone, Spells}
use Rattle.format_resp.specs.Meanings.{IsParser-Nested}
use Rattle.format_resp.specs.Ahead.{IsAhead}
use Rattle.format_resp.specs.Answers.{IsSettled}
use Rattle.format_resp.specs.Damage.{cause_at, BodyBreaksOff, StopsAt as StopsFor, BreaksOff}
use Rattle.format_resp.specs.Causes.{IsDamaged, IsCauseOf}
use Rattle.format_resp.specs.declared.causes.Cause.{Cause}
use Rattle.format_resp.specs.declared.causes.Cause.TheVariants.{NoKind, TooDeep, NoLineEnd}
use Rattle.format_resp.specs.declared.grammar.ReplyTo.{ReplyTo}
use Rattle.format_resp.specs.declared.reply.Reply.{Reply}
use Rattle.format_resp.proofs.lemmas.AheadLemmas.{ahead-join, ahead-narrower}
use Rattle.format_resp.proofs.lemmas.BreakLemmas.{units-ahead}
use Rattle.format_resp.proofs.lemmas.DamageLemmas.{damage-of}
use Rattle.format_resp.proofs.lemmas.FaultLemmas.{cause-stays}
use Rattle.format_resp.proofs.lemmas.PartLemmas.{drop-front, length-line-of}
use Rattle.format_resp.proofs.lemmas.ReplyLemmas.{yields-nested, spells-begins}
use Rattle.format_resp_events.specs.Heads.{BeginsArray, Passes, BreaksWithin, Reading}

-- ---- The parser of a reader

-- slices of bytes have their own bytes
have-bytes : SlicesHaveBytes IsByteSlice (λ (slice : Bor (List ℕ)). slice.now)
have-bytes s r n o h = h

-- where it stops, the stream moved on
stops-moves : (r : ReplyTo) (partial : Bool) (a b : Ahead ℕ) → StopsAt (Reading r) partial a b
    → Moves a b
stops-moves r partial a b (inl h) =
    (IsParser-Nested itself true IsByteSlice (λ slice. slice.now) SlicesStay-bytes r.longest r.depth).onward partial a (Fails (Backtracks b)) h
stops-moves r partial a b (inr h) =
    (IsParser-Nested itself true IsByteSlice (λ slice. slice.now) SlicesStay-bytes r.longest r.depth).onward partial a (Fails (Cuts b)) h

-- nothing may follow what a reader has ahead, and then all of it is there, or more may come
may-none : (ended : Bool) → MayFollow ended [] (not ended)
may-none false = tt
may-none true = (refl, refl)

-- what is left where the parser fails is the end of what is ahead
record Leaves (f : ReaderState ReplyTo) (there : ℕ) (rest : List ℕ) : Type 0 where
  before : f.place ≤ there
  within : there - f.place ≤ length f.ahead
  left : rest ≡ drop (there - f.place) f.ahead

-- so it is
leaves : (f : ReaderState ReplyTo) (there : ℕ) (h : FailsAt Reading f there) → Leaves f there h.0
leaves f there h =
    let stops = h.1 [] (not f.ended) (may-none f.ended) in
    let here = subst (λ xs. StopsAt (Reading f.parser) (not f.ended) (bytes_at f.place xs) (bytes_at there (h.0 ++ []))) (append-nil f.ahead) stops in
    let both = subst (λ xs. StopsAt (Reading f.parser) (not f.ended) (bytes_at f.place f.ahead) (bytes_at there xs)) (append-nil h.0) here in
    let moves = stops-moves f.parser (not f.ended) (bytes_at f.place f.ahead) (bytes_at there h.0) both in
    let n : ℕ = length f.ahead - length h.0 in
    let moved = moved-bytes f.place f.ahead there h.0 n moves refl in
    let at : there ≡ f.place + n = same_Some _ _ (ap (λ (a : Ahead ℕ). a.location) moved) in
    let same : n ≡ there - f.place = omega (arith, at) in
    record {
      before = omega (arith, at);
      within = omega (arith, at);
      left = sym (bytes-units h.0) ∙ ap (λ (a : Ahead ℕ). bytes_of a.tokens) moved
          ∙ bytes-units (drop n f.ahead) ∙ ap (λ k. drop k f.ahead) same;
    }

-- the place where the parser fails is within what is ahead
pub fails-before : (f : ReaderState ReplyTo) (there : ℕ) → FailsAt Reading f there → f.place ≤ there
fails-before f there h = (leaves f there h).before

-- and not after it
pub fails-inside : (f : ReaderState ReplyTo) (there : ℕ) → FailsAt Reading f there
    → there - f.place ≤ length f.ahead
fails-inside f there h = (leaves f there h).within

-- ---- The cause

-- the tokens of joined bytes
units-join : (xs ys : List ℕ) → units (xs ++ ys) ≡ units xs ++ units ys
units-join xs ys = map-append {B = ℕ × ℕ} (λ x. (x, 1)) xs ys

-- the cause for which a reply breaks off, whatever follows what is ahead
damage-here : (f : ReaderState ReplyTo) (there : ℕ) (h : FailsAt Reading f there) (more : List ℕ)
    (partial : Bool) → MayFollow f.ended more partial
    → (cause : Cause) × (IsSettled partial cause × IsDamaged f.parser.longest f.parser.depth cause
    (units (f.ahead ++ more)) (units (h.0 ++ more)))
damage-here f there h more partial may =
    damage-of true IsByteSlice (λ slice. slice.now) have-bytes f.parser.longest f.parser.depth partial
    (bytes_at f.place (f.ahead ++ more)) (bytes_at there (h.0 ++ more)) (HasPositiveWidths-units (f.ahead ++ more)) (h.1 more partial may)

-- with nothing more
damage-now : (f : ReaderState ReplyTo) (there : ℕ) (h : FailsAt Reading f there)
    → (cause : Cause) × (IsSettled (not f.ended) cause
    × IsDamaged f.parser.longest f.parser.depth cause (units f.ahead) (units h.0))
damage-now f there h =
    let d = damage-here f there h [] (not f.ended) (may-none f.ended) in
    let one = subst (λ xs. IsDamaged f.parser.longest f.parser.depth d.0 (units xs) (units (h.0 ++ []))) (append-nil f.ahead) d.1.1 in
    (d.0, (d.1.0, subst (λ xs. IsDamaged f.parser.longest f.parser.depth d.0 (units f.ahead) (units xs)) (append-nil h.0) one))

module _ (f : ReaderState ReplyTo) (there : ℕ) (told : Cause) (h : FailsAt Reading f there) (is : IsCauseOf told (take (there - f.place) f.ahead) (drop (there - f.place) f.ahead)) where
  -- the cause that is told is the one with nothing more
  told-now : told ≡ (damage-now f there h).0
  told-now =
      let d = damage-now f there h in
      is f.parser.longest f.parser.depth (units f.ahead) (units h.0) d.0
      (bytes-units f.ahead ∙ sym (take-append-drop (there - f.place) f.ahead))
      (bytes-units h.0 ∙ (leaves f there h).left) d.1.1

  -- and the one with more
  told-then : (ended : Bool) → f.ended ≡ ended → (more : List ℕ) (partial : Bool)
      (may : MayFollow f.ended more partial)
      → (damage-here f there h more partial may).0 ≡ told
  told-then true e more partial may =
      let both : MayFollow true more partial = subst (λ b. MayFollow b more partial) e may in
      let d = damage-here f there h more partial may in
      let one = subst (λ xs. IsDamaged f.parser.longest f.parser.depth d.0 (units (f.ahead ++ xs)) (units (h.0 ++ xs))) both.0 d.1.1 in
      let two = subst (λ xs. IsDamaged f.parser.longest f.parser.depth d.0 (units xs) (units (h.0 ++ []))) (append-nil f.ahead) one in
      let three = subst (λ xs. IsDamaged f.parser.longest f.parser.depth d.0 (units f.ahead) (units xs)) (append-nil h.0) two in
      sym (is f.parser.longest f.parser.depth (units f.ahead) (units h.0) d.0
      (bytes-units f.ahead ∙ sym (take-append-drop (there - f.place) f.ahead))
      (bytes-units h.0 ∙ (leaves f there h).left) three)
  told-then false e more partial may =
      let now = damage-now f there h in
      let d = damage-here f there h more partial may in
      let other = now.1.0 (ap not e) in
      let one = subst (λ s. IsDamaged f.parser.longest f.parser.depth d.0 s (units (h.0 ++ more))) (units-join f.ahead more) d.1.1 in
      let two = subst (λ s. IsDamaged f.parser.longest f.parser.depth d.0 (units f.ahead ++ units more) s) (units-join h.0 more) one in
      cause-stays f.parser.longest f.parser.depth (units f.ahead) (units h.0) (units more) now.0 d.0 other now.1.1 two
      ∙ sym told-now

  -- what is ahead breaks off there for the cause that is told, whatever follows
  breaks-on : (more : List ℕ) (partial : Bool) → MayFollow f.ended more partial
      → IsSettled partial told × IsDamaged f.parser.longest f.parser.depth told
      (units (f.ahead ++ more)) (units (drop (there - f.place) (f.ahead ++ more)))
  breaks-on more partial may =
      let d = damage-here f there h more partial may in
      let l = leaves f there h in
      let rest : h.0 ++ more ≡ drop (there - f.place) (f.ahead ++ more) =
      ap (λ t. t ++ more) l.left ∙ sym (drop-append-le (there - f.place) f.ahead more l.within) in
      let one = subst (λ xs. IsDamaged f.parser.longest f.parser.depth d.0 (units (f.ahead ++ more)) (units xs)) rest d.1.1 in
      subst (λ c. IsSettled partial c × IsDamaged f.parser.longest f.parser.depth c (units (f.ahead ++ more)) (units (drop (there - f.place) (f.ahead ++ more))))
      (told-then f.ended refl more partial may) (d.1.0, one)

  -- so the reply breaks off there
  pub breaks-within : BreaksWithin f.parser.depth f there told
  breaks-within = (
    fails-before f there h,
    omega (arith, fails-before f there h, fails-inside f there h),
    breaks-on,
  )

-- the cause that is told of what is on both sides of a place
pub cause-here : (told : Cause) (k width : ℕ) (bytes ahead : List ℕ) → bytes ≡ ahead → width ≡ k
    → IsCauseOf told (take width bytes) (take (length bytes - width) (drop width bytes))
    → IsCauseOf told (take k ahead) (drop k ahead)
cause-here told k width bytes ahead same e h =
    let front : take width bytes ≡ take k ahead = ap (λ n. take n bytes) e ∙ ap (take k) same in
    let back : take (length bytes - width) (drop width bytes) ≡ drop k ahead =
    take_rest bytes width ∙ ap (λ n. drop n bytes) e ∙ ap (drop k) same in
    subst (λ r. IsCauseOf told (take k ahead) r) back
    (subst (λ b. IsCauseOf told b (take (length bytes - width) (drop width bytes))) front h)

-- ---- Damage that is the same at each depth

-- what is wrong at a rest is not the depth
never-deep : (rest : Source ℕ) (cause : Cause) → ¬ (TooDeep ≡ cause)
    → ¬ (TooDeep ≡ cause_at rest cause)
never-deep [] cause other e = cc e
never-deep (x ∷ rest) cause other e = other e

-- what breaks off after the byte of a kind in no array breaks off in arrays, if it is not too deep
body-deeper : (longest depth kind : ℕ) (cause : Cause) (whole rest : Source ℕ) → ¬ (cause ≡ TooDeep)
    → BodyBreaksOff SpellsNone (λ whole rest. ⊥) false cause longest 0 kind whole rest
    → BodyBreaksOff (Spells longest depth) (StopsFor cause (BreaksOff false cause longest depth)) false cause longest greatest_count kind whole rest
body-deeper longest depth kind cause whole rest other (inl h) = inl h
body-deeper longest depth kind cause whole rest other (inr (inl h)) = inr (inl h)
body-deeper longest depth kind cause whole rest other (inr (inr (inl h))) = inr (inr (inl h))
body-deeper longest depth kind cause whole rest other (inr (inr (inr (k, inl (inl h))))) =
    inr (inr (inr (k, inl (inl h))))
body-deeper longest depth kind cause whole rest other (inr (inr (inr (k, inl (inr (same, (text, (end, (a, fits, lacks, inl (wrong, none)))))))))) =
    inr (inr (inr (k, inl (inr (same, (text, (end, (a, fits, none, inl (wrong, none)))))))))
body-deeper longest depth kind cause whole rest other (inr (inr (inr (k, inl (inr (same, (text, (end, (a, fits, lacks, inr (deep, n)))))))))) =
    absurd (other deep)
body-deeper longest depth kind cause whole rest other (inr (inr (inr (k, inr (text, (count, (after, (is, a, (replies, (bytes, (next, (b, all, fewer, never)))))))))))) =
    absurd never

-- a reply that breaks off in no array breaks off in arrays, if it is not too deep
pub deeper : (longest depth : ℕ) (cause : Cause) (whole rest : Source ℕ) → ¬ (cause ≡ TooDeep)
    → IsDamaged longest 0 cause whole rest → IsDamaged longest depth cause whole rest
deeper longest depth cause whole rest other (inl none) = inl none
deeper longest zero cause whole rest other (inr h) = inr h
deeper longest (suc depth) cause whole rest other (inr (kind, (after, (is, stands, body)))) =
    inr (kind, (after, (is, stands, body-deeper longest depth kind cause after rest other body)))

-- what a reader has ahead and breaks off within no array breaks off within any, if not by depth
pub breaks-deeper : (f : ReaderState ReplyTo) (place depth : ℕ) (cause : Cause)
    → ¬ (cause ≡ TooDeep) → BreaksWithin 0 f place cause → BreaksWithin depth f place cause
breaks-deeper f place depth cause other (before, within, h) = (
  before,
  within,
  λ more partial may.
      let k = h more partial may in
      (k.0, deeper f.parser.longest depth cause (units (f.ahead ++ more)) (units (drop (place - f.place) (f.ahead ++ more))) other k.1),
)

-- ---- Arrays with replies

-- where the number in the line of an array is too great in no array, the line is there
deep-line : (longest : ℕ) (bytes : List ℕ) (whole rest : Source ℕ) (kind : ℕ)
    → IsAhead (units bytes) (kind ∷ []) whole
    → BodyBreaksOff SpellsNone (λ whole rest. ⊥) false TooDeep longest 0 kind whole rest
    → BeginsArray bytes
deep-line longest bytes whole rest kind stands (inl (k, (text, (end, (a, fits, over, (cause, lacks)))))) =
    absurd (never-deep rest NoLineEnd (λ e. cc e) cause)
deep-line longest bytes whole rest kind stands (inr (inl (k, inl (text, (end, (a, fits, over, (cause, lacks))))))) =
    absurd (never-deep rest NoLineEnd (λ e. cc e) cause)
deep-line longest bytes whole rest kind stands (inr (inl (k, inr (same, (text, (end, (a, fits, lacks, cause))))))) =
    absurd (cc cause)
deep-line longest bytes whole rest kind stands (inr (inr (inl (k, inl (inl (text, (end, (a, fits, over, (cause, lacks))))))))) =
    absurd (never-deep rest NoLineEnd (λ e. cc e) cause)
deep-line longest bytes whole rest kind stands (inr (inr (inl (k, inl (inr (same, (text, (end, (a, fits, lacks, inl (wrong, none)))))))))) =
    absurd (cc wrong)
deep-line longest bytes whole rest kind stands (inr (inr (inl (k, inl (inr (same, (text, (end, (a, fits, lacks, inr (long, n)))))))))) =
    absurd (cc long)
deep-line longest bytes whole rest kind stands (inr (inr (inl (k, inr (text, (count, (after, (is, a, inl (ends, few, none))))))))) =
    absurd (cc ends)
deep-line longest bytes whole rest kind stands (inr (inr (inl (k, inr (text, (count, (after, (is, a, inr (held, (end, (b, n, (cause, lacks)))))))))))) =
    absurd (never-deep rest NoLineEnd (λ e. cc e) cause)
deep-line longest bytes whole rest kind stands (inr (inr (inr (k, inl (inl (text, (end, (a, fits, over, (cause, lacks))))))))) =
    absurd (never-deep rest NoLineEnd (λ e. cc e) cause)
deep-line longest bytes whole rest kind stands (inr (inr (inr (k, inl (inr (same, (text, (end, (a, fits, lacks, inl (wrong, none)))))))))) =
    absurd (cc wrong)
deep-line longest bytes whole rest kind stands (inr (inr (inr (k, inl (inr (same, (text, (end, (a, fits, lacks, inr (deep, (n, is))))))))))) =
    let all = ahead-join (kind ∷ []) (line text) (units bytes) whole end stands a in
    let there = units-ahead bytes (kind ∷ line text) end all in
    (text, (n, (there.0, (is, there.1.0 ∙ ap (λ c. c ∷ (line text ++ there.0)) k))))
deep-line longest bytes whole rest kind stands (inr (inr (inr (k, inr (text, (count, (after, (is, a, (replies, (more, (next, (b, all, fewer, never)))))))))))) =
    absurd never

-- a reply that is too deep in no array is an array
deep-begins : (longest : ℕ) (bytes : List ℕ) (rest : Source ℕ)
    → IsDamaged longest 0 TooDeep (units bytes) rest → BeginsArray bytes
deep-begins longest bytes rest (inl (same, none, cause)) =
    absurd (never-deep rest NoKind (λ e. cc e) cause)
deep-begins longest bytes rest (inr (kind, (after, (is, stands, body)))) =
    deep-line longest bytes after rest kind stands body

-- an array begins ahead of a reader if what is ahead is too deep within no array
pub breaks-begins : (f : ReaderState ReplyTo) (place : ℕ) → BreaksWithin 0 f place TooDeep
    → BeginsArray f.ahead
breaks-begins f place (before, within, h) =
    let k = (h [] (not f.ended) (may-none f.ended)).1 in
    let here = subst (λ xs. IsDamaged f.parser.longest 0 TooDeep (units xs) (units (drop (place - f.place) (f.ahead ++ [])))) (append-nil f.ahead) k in
    deep-begins f.parser.longest f.ahead (units (drop (place - f.place) (f.ahead ++ []))) here

-- after the line of an array a reader has passed it
pub passes-line : (f : ReaderState ReplyTo) (text after : List ℕ) (n : ℕ)
    → f.ahead ≡ 42 ∷ (line text ++ after) → n ≡ length text + 3
    → Passes f (42 ∷ line text) (skipped f (min n (length f.ahead)))
passes-line f text after n whole e =
    let wide = length-line-of text in
    let all : length f.ahead ≡ length (line text) + length after + 1 =
    omega (arith, ap length whole, length-append (line text) after) in
    let count : min n (length f.ahead) ≡ length (42 ∷ line text) = omega (arith, e, wide, all) in
    record {
      whole = whole ∙ ap (λ t. 42 ∷ (line text ++ t))
          (sym (ap (drop (min n (length f.ahead))) whole ∙ drop-front (min n (length f.ahead)) (42 ∷ line text) after count));
      place = ap (λ m. f.place + m) count;
      parser = refl;
      ended = refl;
      wanted = refl;
    }

-- ---- Whole replies

-- what a reader took spells the reply that it read
pub passes-reply : (old new : ReaderState ReplyTo) (y : Reply) → TakesValue Reading old y new
    → (bytes : List ℕ) × (Passes old bytes new × Spells old.parser.longest old.parser.depth y bytes)
passes-reply old new y (n, (some, within, means, taken)) =
    let k = yields-nested true IsByteSlice (λ slice. slice.now) have-bytes old.parser.longest old.parser.depth (not old.ended)
    (bytes_at old.place old.ahead) (bytes_at new.place new.ahead) y (HasPositiveWidths-units old.ahead) means in
    let there = units-ahead old.ahead k.0 (units new.ahead) k.1.0 in
    let left : new.ahead ≡ there.0 =
    sym (bytes-units new.ahead) ∙ ap bytes_of there.1.1 ∙ bytes-units there.0 in
    let whole : old.ahead ≡ k.0 ++ new.ahead = there.1.0 ∙ ap (λ t. k.0 ++ t) (sym left) in
    let count : n ≡ length k.0 =
    omega (arith, within, ap length whole, length-append k.0 new.ahead, ap (λ (f : ReaderState ReplyTo). length f.ahead) taken, length-drop n old.ahead) in (
      k.0,
      (
        record {
          whole = whole;
          place = ap (λ (f : ReaderState ReplyTo). f.place) taken ∙ ap (λ m. old.place + m) count;
          parser = ap (λ (f : ReaderState ReplyTo). f.parser) taken;
          ended = ap (λ (f : ReaderState ReplyTo). f.ended) taken;
          wanted = ap (λ (f : ReaderState ReplyTo). f.wanted) taken;
        },
        k.1.1,
      ),
    )

-- no reply takes nothing
pub never-idle : (f : ReaderState ReplyTo) (place : ℕ) → IdlesAt Reading f place → ⊥
never-idle f place (e, (y, gives)) =
    let here = bytes_at place (f.ahead ++ []) in
    let k = yields-nested true IsByteSlice (λ slice. slice.now) have-bytes f.parser.longest f.parser.depth (not f.ended)
    here here y (HasPositiveWidths-units (f.ahead ++ [])) (gives [] (not f.ended) (may-none f.ended)) in
    let first = spells-begins true IsByteSlice (λ slice. slice.now) have-bytes f.parser.longest f.parser.depth y k.0 k.1.1 in
    let narrower = ahead-narrower first.0 first.1.0 here.tokens here.tokens (HasPositiveWidths-units (f.ahead ++ []))
    (subst (λ t. IsAhead here.tokens t here.tokens) first.1.1 k.1.0) in
    omega (arith, narrower)
