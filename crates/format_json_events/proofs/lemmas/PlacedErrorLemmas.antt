-- The error of a reader names the place where its text stops.
use Rattle.std.proofs.Common.{◌≡◌, ◌≢◌, ℕ, ◌+◌, ◌<◌, Bool, true, false, not, List, [], ◌∷◌, ◌++◌, length, get_or, nat_lt, None, Some, ◌⊎◌, inl, inr, ap, sym, ◌∙◌, subst, refl, arith, append-nil, length-append}
use Rattle.std.specs.Prelude.{Err}
use Rattle.std.specs.declared.string.String.{String}
use Rattle.std.specs.declared.alloc.Global.{Global}
use Rattle.winnow_reader.specs.State.{ReaderState}
use Rattle.winnow_reader.specs.Reading.{MayFollow}
use Rattle.format_lemmas.specs.Bytes.{StartsWith}
use Rattle.format_lemmas.proofs.lemmas.ByteLemmas.{heads}
use Rattle.format_json_scalars.specs.Numbers.{is_number_byte}
use Rattle.format_json_scalars.specs.StringAnswers.{IsDamagedAt}
use Rattle.format_json.specs.Language.{after_blanks}
use Rattle.format_json.specs.Tokens.{Lexeme, Word, Digits, Quoted, Ending, lexeme_of, TokenHere, TokenAhead}
use Rattle.format_json.specs.TokenAnswers.{IsWrongAt}
use Rattle.format_json.specs.Reading.{AreTokens, FindsDamage}
use Rattle.format_json.specs.TokenLaws.{blanks-more, after-longer, lexeme-some, ahead-longer}
use Rattle.format_json_events.specs.Turns.{TextState, at_begin, inner_of, bar_at, bar_from, turn_at}
use Rattle.format_json_events.specs.Reading.{IsAllowed, EventState, HasGiven, Brings, BringsEnd, token_place, bar_ahead, IsNoNext, IsMisplaced, error_at, IsNext}
use Rattle.format_json_events.specs.Stops.{StopsHere, Stops, StopsAt, TellsStop}
use Rattle.format_json.specs.declared.tokens.Token.{Token}
use Rattle.format_json.specs.declared.tokens.Token.TheVariants as token
use Rattle.format_json.specs.declared.reading.JsonToken.{JsonToken}
use Rattle.format_json_events.specs.declared.event_reader.Event.{Event}
use Rattle.format_json_events.specs.declared.event_reader.EventError.{EventError}
use Rattle.format_json_events.specs.declared.event_reader.EventError.TheVariants as error
use Rattle.format_json_events.specs.declared.turns.Misplaced.{Misplaced}
use Rattle.format_json_events.specs.declared.turns.Misplaced.TheVariants as misplaced
use Rattle.format_json_events.specs.declared.turns.Turn.TheVariants.{Refuses}
use Rattle.format_json.proofs.lemmas.JsonTokenLemmas.{BeginsAs, token-begins, damage-none, token-once}
use Rattle.format_json_events.proofs.lemmas.DroppedLemmas.{taken-tokens, taken-after}
use Rattle.format_json_events.proofs.lemmas.TakingLemmas.{blanks-within}
use Rattle.format_json_events.proofs.lemmas.AheadLemmas.{damage-some}
use Rattle.format_json_events.proofs.lemmas.SameTurnLemmas.{string-only, turns-same}
use Rattle.format_json_events.proofs.lemmas.AllowedTokenLemmas.{early-end}
use Rattle.format_json_events.proofs.lemmas.ReaderPlaceLemmas.{EndsWith, ends-on, ends-longer, ends-from, ends-blanks, given-fed, given-rest}
use Rattle.format_json_events.proofs.lemmas.BarLemmas.{quote-bar, string-open}

-- ---- The first byte ahead

-- where something stands after blanks, its first byte stays where more follows
first-more : (b more : List ℕ) → 0 < length (after_blanks b)
    → get_or (after_blanks (b ++ more)) 0 0 ≡ get_or (after_blanks b) 0 0
first-more b more some = of (after_blanks b) refl
  where
    of : (here : List ℕ) → after_blanks b ≡ here
        → get_or (after_blanks (b ++ more)) 0 0 ≡ get_or (after_blanks b) 0 0
    of [] e = absurd (omega (arith, some, ap length e))
    of (c ∷ q) e =
        ap (λ l. get_or l 0 0) (blanks-more b c q more e) ∙ sym (ap (λ l. get_or l 0 0) e)

-- bytes of some length are not none
some-bytes : (b : List ℕ) → 0 < length b → b ≢ []
some-bytes [] some = absurd (omega (arith, some))
some-bytes (x ∷ b) some = λ e. cc e

-- what begins with a quote says a string
quoted-lexeme : (x : Lexeme) (b q : List ℕ) → b ≡ 34 ∷ q → BeginsAs x b
    → (value : List ℕ) × (Quoted value ≡ x)
quoted-lexeme (Word w) b q e (c, (p, (f, from, digit, quote, some))) =
    absurd (quote (heads c 34 p q (sym f ∙ e)))
quoted-lexeme (Digits text integer) b q e (c, (p, (f, is))) =
    absurd (let z = sym is ∙ ap is_number_byte (heads c 34 p q (sym f ∙ e)) in cc z)
quoted-lexeme (Quoted value) b q e h = (value, refl)
quoted-lexeme Ending b q e f = absurd (let z = sym e ∙ f in cc z)

-- so a token that does is a string
quoted-token : (t : Token) (b q c : List ℕ) → b ≡ 34 ∷ q → TokenHere false t b c
    → (v : String Global) × (t ≡ token.String v)
quoted-token t b q c e h =
    let says = quoted-lexeme (lexeme_of t) b q e (token-begins false t b c h) in
    let is = string-only t says.0 says.1 in
    (is.0, is.1.0)

-- bytes that start with a quote are a quote and others
quote-split : (b : List ℕ) → StartsWith 34 b → (q : List ℕ) × (b ≡ 34 ∷ q)
quote-split [] h = absurd h
quote-split (x ∷ b) h = (b, ap (λ n. n ∷ b) h)

-- a text stops at what follows its blanks, also after other blanks
stops-same : (s : TextState) (b c rest : List ℕ) → after_blanks b ≡ after_blanks c
    → StopsHere s b rest → StopsHere s c rest
stops-same s b c rest e (inl (free, damaged)) =
    inl (free, subst (λ l. IsDamagedAt false l rest) e damaged)
stops-same s b c rest e (inr (is, (none, quote))) =
    inr (
      is ∙ e,
      (
        (λ t after h. none t after (subst (λ l. TokenHere false t l after) (sym e) h)),
        (λ free starts. quote free (subst (StartsWith 34) (sym e) starts)),
      ),
    )

-- ---- One reader

module _ (r : EventState) (input : List ℕ) (events : List Event) (given : HasGiven r input events) (going : r.stopped ≡ None) (more : List ℕ) (may : MayFollow r.tokens.ended more false) where
  -- what is ahead, and all that follows it
  abbrev ahead_on : List ℕ
  ahead_on = r.tokens.ahead ++ more

  -- the text that the reader reads, and all that follows it
  abbrev all_on : List ℕ
  all_on = input ++ more

  -- a text stops where what is ahead of its reader does
  stop-ahead : (place : ℕ) (rest : List ℕ) → EndsWith ahead_on rest
      → place + length rest ≡ length all_on → StopsHere r.text ahead_on rest
      → StopsAt r.text.depth all_on place
  stop-ahead place rest ends sum stops =
      let whole = ends-on all_on ahead_on rest (ends-longer input r.tokens.ahead more (given-rest r input events given)) ends in
      let from = ends-from all_on rest place whole sum in
      let taken = ap (λ us. given.taken ++ us) (given.going going) ∙ append-nil given.taken in
      let left = given.read.blanks ++ ahead_on in
      let read = taken-tokens r.tokens input (given.taken ++ given.others) given.read more may in
      let after = sym (taken-after r.tokens input (given.taken ++ given.others) given.read more) in (
        from.0,
        subst (Stops (at_begin r.text.depth) all_on) (sym from.1) (record {
          tokens = given.taken;
          events = events;
          last = r.text;
          left = left;
          stand = subst (λ ts. AreTokens false ts all_on left) taken read;
          takes = given.takes;
          stops = stops-same r.text ahead_on left rest after stops;
        }),
      )

  -- the place of the token ahead, where something stands there or nothing follows
  place-sum : after_blanks ahead_on ≡ after_blanks r.tokens.ahead ++ more
      → token_place r.tokens + length (after_blanks ahead_on) ≡ length all_on
  place-sum same =
      let f = r.tokens in
      omega (arith, ap length same, length-append (after_blanks f.ahead) more, length-append input more, given-fed r input events given, blanks-within f.ahead)

  module _ (at : ℕ) (damage : FindsDamage r.tokens at) where
    -- what the damaged token begins with stays where more follows
    first-same : get_or (after_blanks ahead_on) 0 0 ≡ get_or (after_blanks r.tokens.ahead) 0 0
    first-same = first-more r.tokens.ahead more (damage-some r.tokens at damage)

    -- a damaged token that might come stops the text where it is damaged
    damage-stops : bar_ahead r.text r.tokens ≡ None → StopsAt r.text.depth all_on at
    damage-stops free =
        let long : at + length (damage.0 ++ more) ≡ length all_on =
        omega (arith, damage.1.0, length-append damage.0 more, length-append input more, given-fed r input events given) in
        of (damage.1.1 more may) long
      where
        bar : StartsWith 34 (after_blanks ahead_on) → bar_at r.text true ≡ None
        bar quote = quote-bar r.text (after_blanks ahead_on) None quote (ap (bar_from r.text) first-same ∙ free)

        of : IsWrongAt false (after_blanks ahead_on) (damage.0 ++ more)
            → at + length (damage.0 ++ more) ≡ length all_on → StopsAt r.text.depth all_on at
        of (inl d) long =
            let quote = subst (StartsWith 34) (sym d.1.1.0) refl in
            let ends = ends-on ahead_on (after_blanks ahead_on) (damage.0 ++ more) (ends-blanks ahead_on) (34 ∷ d.0, d.1.1.0) in
            stop-ahead at (damage.0 ++ more) ends long (inl (bar quote, d))
        of (inr (same, none)) long =
            let ends = subst (EndsWith ahead_on) (sym same) (ends-blanks ahead_on) in
            stop-ahead at (damage.0 ++ more) ends long (inr (same, ((λ t c h m. damage-none false (after_blanks ahead_on) t c (damage.0 ++ more) (inr (same, none)) h), λ b. none.0)))

    -- one that may not stops it where it begins
    barred-stops : (m : Misplaced) → bar_ahead r.text r.tokens ≡ Some m
        → StopsAt r.text.depth all_on (token_place r.tokens)
    barred-stops m bar =
        let here = after_blanks ahead_on in
        let same = after-longer r.tokens.ahead more (some-bytes (after_blanks r.tokens.ahead) (damage-some r.tokens at damage)) in
        stop-ahead (token_place r.tokens) here (ends-blanks ahead_on) (place-sum same)
        (inr (
          refl,
          (
            (λ t c h may_come. damage-none false here t c (damage.0 ++ more) (damage.1.1 more may) h),
            (λ free quote.
                let z = sym free ∙ quote-bar r.text here (Some m) quote (ap (bar_from r.text) first-same ∙ bar) in cc z),
          ),
        ))

  -- an error of a reader that has no next token tells where its text stops
  none-tells : (e : EventError) → IsNoNext r.text r.tokens e → TellsStop r.text.depth all_on e
  none-tells (error.Damaged place cause) (damage, cut, is, free) = damage-stops place damage free
  none-tells (error.Unexpected place) (same, bar, (at, damage)) =
      subst (StopsAt r.text.depth all_on) (sym same) (barred-stops at damage misplaced.Unexpected bar)
  none-tells (error.TooDeep place) (same, bar, (at, damage)) =
      subst (StopsAt r.text.depth all_on) (sym same) (barred-stops at damage misplaced.TooDeep bar)
  none-tells (error.EndsEarly place) (end, (at, (damage, cut)), free) =
      let none = (subst (λ b. MayFollow b more false) cut.0 may).0 in
      (end ∙ given-fed r input events given ∙ ap length (sym (ap (λ l. input ++ l) none ∙ append-nil input)), (at, damage-stops at damage free))
  none-tells (error.Refused why) none = tt

  -- ---- Tokens that may not come

  module _ (t : Token) (m : Misplaced) (turn : turn_at r.text t ≡ Refuses m) (c : List ℕ) (stands : TokenAhead false t ahead_on c) (same : after_blanks ahead_on ≡ after_blanks r.tokens.ahead ++ more) where
    -- the token may not come
    refused : ¬ (IsAllowed (turn_at r.text t))
    refused allowed = subst IsAllowed turn allowed

    -- so the text stops where it begins
    refused-stops : StopsAt r.text.depth all_on (token_place r.tokens)
    refused-stops =
        stop-ahead (token_place r.tokens) (after_blanks ahead_on) (ends-blanks ahead_on) (place-sum same) (inr (refl, (none, quote)))
      where
        none : (u : Token) (d : List ℕ) → TokenAhead false u ahead_on d
            → ¬ (IsAllowed (turn_at r.text u))
        none u d h allowed =
            let one = token-once false t u (after_blanks ahead_on) c d stands h in
            refused ((turns-same r.text t u one.0).allowed allowed)

        quote : bar_at r.text true ≡ None → ¬ (StartsWith 34 (after_blanks ahead_on))
        quote free starts =
            let split = quote-split (after_blanks ahead_on) starts in
            let is = quoted-token t (after_blanks ahead_on) split.0 c split.1 stands in
            let deep = nat_lt r.text.depth (length r.text.open_brackets) in
            refused (subst (λ u. IsAllowed (turn_at r.text u)) (sym is.1)
            (string-open deep (inner_of r.text.open_brackets) r.text.expected is.0 free))

    -- and the error says so
    refused-tells : TellsStop r.text.depth all_on (error_at m (token_place r.tokens))
    refused-tells = of m turn
      where
        of : (k : Misplaced) → turn_at r.text t ≡ Refuses k
            → TellsStop r.text.depth all_on (error_at k (token_place r.tokens))
        of misplaced.Unexpected e = refused-stops
        of misplaced.TooDeep e = refused-stops
        of misplaced.EndsEarly e =
            let deep = nat_lt r.text.depth (length r.text.open_brackets) in
            let is = early-end deep (inner_of r.text.open_brackets) r.text.expected t e in
            let none = (subst (λ u. TokenAhead false u ahead_on c) is stands).1 in
            (omega (arith, place-sum same, ap length none), (token_place r.tokens, refused-stops))

  -- nothing follows a reader whose input has ended
  none-more : r.tokens.ended ≡ true → more ≡ []
  none-more ended = (subst (λ b. MayFollow b more false) ended may).0

  -- so what is ahead is all that is
  ended-same : r.tokens.ended ≡ true
      → after_blanks ahead_on ≡ after_blanks r.tokens.ahead ++ more
  ended-same ended =
      let none = none-more ended in
      ap after_blanks (ap (λ l. r.tokens.ahead ++ l) none ∙ append-nil r.tokens.ahead)
      ∙ sym (ap (λ l. after_blanks r.tokens.ahead ++ l) none ∙ append-nil (after_blanks r.tokens.ahead))

  -- a token that the reader reads and that may not come
  brought-tells : (t : Token) (m : Misplaced) (f : ReaderState JsonToken)
      → turn_at r.text t ≡ Refuses m → Brings r.tokens t f
      → TellsStop r.text.depth all_on (error_at m (token_place r.tokens))
  brought-tells t m f turn b = of r.tokens.ended refl
    where
      of : (ended : Bool) → r.tokens.ended ≡ ended
          → TellsStop r.text.depth all_on (error_at m (token_place r.tokens))
      of true e =
          let stands = subst (λ p. TokenAhead (not p) t r.tokens.ahead f.ahead) e b.stands in
          let all : r.tokens.ahead ≡ ahead_on =
          sym (append-nil r.tokens.ahead) ∙ ap (λ l. r.tokens.ahead ++ l) (sym (none-more e)) in
          refused-tells t m turn f.ahead (subst (λ l. TokenAhead false t l f.ahead) all stands) (ended-same e)
      of false e =
          let stands = subst (λ p. TokenAhead (not p) t r.tokens.ahead f.ahead) e b.stands in
          refused-tells t m turn (f.ahead ++ more) (ahead-longer false t r.tokens.ahead f.ahead more stands)
          (after-longer r.tokens.ahead more (lexeme-some t (after_blanks r.tokens.ahead) f.ahead stands))

  -- and the end of the text that may not
  ended-tells : (m : Misplaced) (f : ReaderState JsonToken)
      → turn_at r.text token.End ≡ Refuses m → BringsEnd r.tokens f
      → TellsStop r.text.depth all_on (error_at m (token_place r.tokens))
  ended-tells m f turn (through, inl b) = brought-tells token.End m f turn b
  ended-tells m f turn (through, inr same) =
      let ended : r.tokens.ended ≡ true = ap (λ g. g.ended) (sym same) ∙ through.0 in
      let empty : ahead_on ≡ [] =
      ap (λ l. l ++ more) (ap (λ g. g.ahead) (sym same) ∙ through.1) ∙ none-more ended in
      refused-tells token.End m turn [] (refl, ap after_blanks empty, refl) (ended-same ended)

  -- an error of a token that may not come tells where the text stops
  misplaced-tells : (e : EventError) (new : EventState) → IsMisplaced r e new
      → TellsStop r.text.depth all_on e
  misplaced-tells e new (t, (m, (turn, is, inl b))) =
      subst (TellsStop r.text.depth all_on) (sym is) (brought-tells t m new.tokens turn b)
  misplaced-tells e new (t, (m, (turn, is, inr (end, b)))) =
      subst (TellsStop r.text.depth all_on) (sym is)
      (ended-tells m new.tokens (ap (turn_at r.text) (sym end) ∙ turn) b)

-- the error of a reader tells where its text stops, no matter what follows
pub error-tells : (r new : EventState) (input : List ℕ) (events : List Event) (more : List ℕ)
    (e : EventError) → HasGiven r input events → MayFollow r.tokens.ended more false
    → IsNext r (Err e) new → TellsStop r.text.depth (input ++ more) e
error-tells r new input events more e given may (q, ((gives, going, keeps), step)) =
    let there = gives input events given in
    let follows = subst (λ b. MayFollow b more false) (sym keeps.1) may in
    subst (λ d. TellsStop d (input ++ more) e) keeps.0 (by there follows step)
  where
    by : HasGiven q input (events ++ []) → MayFollow q.tokens.ended more false
        → (((new ≡ q) × IsNoNext q.text q.tokens e)
        ⊎ ((new.text ≡ q.text) × (new.stopped ≡ Some e) × IsMisplaced q e new))
        → TellsStop q.text.depth (input ++ more) e
    by there follows (inl (same, none)) =
        none-tells q input (events ++ []) there going more follows e none
    by there follows (inr (text, stopped, wrong)) =
        misplaced-tells q input (events ++ []) there going more follows e new wrong
