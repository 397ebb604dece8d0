-- A record of text keeps the laws of a parser where it reads bytes.
use Rattle.std.specs.Prelude.{Bool, true, false}
use Rattle.std.specs.Str.Lossy.{utf8_valid_len}
use Rattle.std.proofs.Common.{◌≡◌, ℕ, ◌-◌, ◌<◌, ◌≤◌, List, ◌++◌, length, take, drop, refl, ap, sym, ◌∙◌, subst, inl, inr, arith, length-append, length-take, take-append-drop}
use Rattle.std.proofs.lemmas.Bool.Decides.{nat_tests}
use Rattle.std.proofs.lemmas.List.{map-append, length-map, take-append-le, drop-append-le}
use Rattle.std.proofs.lemmas.Str.{utf8_valid_len_le}
use Rattle.winnow_stream.specs.Source.{Source, width}
use Rattle.winnow_stream.specs.Text.{text_source}
use Rattle.winnow_stream.specs.Location.{location_behind}
use Rattle.winnow_stream.proofs.lemmas.FrontLemmas.{width-append}
use Rattle.winnow_stream.proofs.lemmas.TextLemmas.{text_source-append, width-text_source}
use Rattle.winnow_parser.specs.Outcome.{Ahead, Backtracks, Cuts, Needs, Refuses, Outcome, Gives, Fails, Meaning, Moves}
use Rattle.winnow_parser.specs.Laws.{longer, outcome_longer, IsSettled, IsStable, IsFinal, IsOnward, IsParser}
use Rattle.winnow_reader.specs.InUtf8.{bytes_in, text_in, past_text, is_damaged, goes_on, past, text_ahead, left_at, AnswersText, MeetsDamage, InUtf8}
use Rattle.winnow_reader.specs.TextFrontLaws.{IsUtf8-text_in, added, text_in-longer, damage-some, damage-longer, valid_len-damaged, past_text-damaged, text_in-damaged}

-- ---- Places

-- the place after n tokens is after where it was
past-moves : (a : Ahead ℕ) (n : ℕ) → Moves a (past a n)
past-moves a n = record { taken = take n a.tokens; whole = sym (take-append-drop n a.tokens); place = refl }

-- with more after it, it is the same place
pub past-longer : (a : Ahead ℕ) (more : Source ℕ) (n : ℕ) → n ≤ length a.tokens
    → past (longer more a) n ≡ longer more (past a n)
past-longer a more n h =
    ap (λ r. record { location = location_behind a.location (width r); tokens = drop n (a.tokens ++ more) }) (take-append-le n a.tokens more h)
    ∙ ap (λ r. record { location = location_behind a.location (width (take n a.tokens)); tokens = r }) (drop-append-le n a.tokens more h)

module _ (a : Ahead ℕ) (more : Source ℕ) where
  -- the bytes are the longer ones
  bytes-longer : bytes_in (a.tokens ++ more) ≡ bytes_in a.tokens ++ bytes_in more
  bytes-longer = map-append (λ x. x.0) a.tokens more

  -- the characters that more bytes add to the text
  abbrev pub came : Source ℕ
  came = text_source (added (bytes_in a.tokens) (bytes_in more))

  -- the text ahead is longer by them
  text_ahead-longer : text_ahead (longer more a) ≡ longer came (text_ahead a)
  text_ahead-longer =
      let bs = bytes_in a.tokens in
      let same = ap (λ l. text_source (text_in l)) bytes-longer ∙ ap text_source (text_in-longer bs (bytes_in more))
      ∙ text_source-append (text_in bs) (added bs (bytes_in more)) (IsUtf8-text_in bs) in
      ap (λ r. record { location = a.location; tokens = r }) same

  -- the text has no more bytes than there are
  text-within : width (text_ahead a).tokens ≤ length a.tokens
  text-within =
      let bs = bytes_in a.tokens in
      omega (arith, width-text_source (text_in bs) (IsUtf8-text_in bs), length-take (utf8_valid_len bs) bs, length-map a.tokens (λ x. x.0))

  -- what is taken of the text is the same
  pub left_at-longer : (c : Ahead ℕ)
      → left_at (longer more a) (longer came c) ≡ longer more (left_at a c)
  left_at-longer c =
      let n = width (text_ahead a).tokens - width c.tokens in
      let same : width (text_ahead (longer more a)).tokens - width (c.tokens ++ came) ≡ n =
      omega (arith, ap (λ (b : Ahead ℕ). width b.tokens) text_ahead-longer, width-append (text_ahead a).tokens came, width-append c.tokens came) in
      ap (past (longer more a)) same ∙ past-longer a more n (omega (arith, text-within))

  module _ (damage : is_damaged true (past_text (bytes_in a.tokens)) ≡ true) where
    -- what follows the text where it is damaged
    rest-damaged : past_text (bytes_in (a.tokens ++ more))
        ≡ past_text (bytes_in a.tokens) ++ bytes_in more
    rest-damaged = ap past_text bytes-longer ∙ past_text-damaged (bytes_in a.tokens) (bytes_in more) damage

    -- the text is the same
    text_ahead-damaged : text_ahead (longer more a) ≡ text_ahead a
    text_ahead-damaged =
        ap (λ l. record { location = a.location; tokens = text_source l })
        (ap text_in bytes-longer ∙ text_in-damaged (bytes_in a.tokens) (bytes_in more) damage)

    -- the place of the damage stays when more follows
    pub past-damaged : past (longer more a) (utf8_valid_len (bytes_in (a.tokens ++ more)))
        ≡ longer more (past a (utf8_valid_len (bytes_in a.tokens)))
    past-damaged =
        let bs = bytes_in a.tokens in
        ap (past (longer more a)) (ap utf8_valid_len bytes-longer ∙ valid_len-damaged bs (bytes_in more) damage)
        ∙ past-longer a more (utf8_valid_len bs) (omega (arith, utf8_valid_len_le bs, length-map a.tokens (λ x. x.0)))

-- ---- What is told

-- where something follows the text, more may follow
goes_on-some : (partial : Bool) (rest : List ℕ) → 0 < length rest → goes_on partial rest ≡ true
goes_on-some true rest some = refl
goes_on-some false rest some = grind (arith, nat_tests)

-- longer damaged bytes are damaged
is_damaged-longer : (partial : Bool) (rest more : List ℕ) → is_damaged true rest ≡ true
    → is_damaged partial (rest ++ more) ≡ true
is_damaged-longer true rest more d = damage-longer rest more d
is_damaged-longer false rest more d = grind (arith, nat_tests, damage-some rest d, length-append rest more)

module _ {O : Type 0} (inner : Meaning O ℕ) (p : IsParser inner) where
  -- a settled answer of the text is one of the longer text
  pub answers-longer : (more : Source ℕ) (partial : Bool) (a : Ahead ℕ) (v : Outcome O ℕ)
      → IsSettled v
      → AnswersText inner true a v → AnswersText inner partial (longer more a) (outcome_longer (came a more) v)
  answers-longer more partial a v s h =
      let told = goes_on partial (past_text (bytes_in (a.tokens ++ more))) in
      subst (λ b. inner told b (outcome_longer (came a more) v)) (sym (text_ahead-longer a more)) (p.stable (came a more) told (text_ahead a) v s h)

  -- damage is met by longer bytes too
  pub meets-longer : (more : Source ℕ) (partial : Bool) (a : Ahead ℕ) → MeetsDamage inner true a
      → MeetsDamage inner partial (longer more a)
  meets-longer more partial a h =
      let rest = past_text (bytes_in a.tokens) in
      let is = rest-damaged a more h.0 in
      let some = damage-some rest h.0 in
      let told : goes_on partial (past_text (bytes_in (a.tokens ++ more))) ≡ true =
      ap (goes_on partial) is ∙ goes_on-some partial (rest ++ bytes_in more) (omega (arith, some, length-append rest (bytes_in more))) in
      let v = Fails (Needs h.1.0) in
      let same = subst (λ b. inner true b v) (sym (text_ahead-damaged a more h.0)) h.1.1 in (
        ap (is_damaged partial) is ∙ is_damaged-longer partial rest (bytes_in more) h.0,
        (h.1.0, subst (λ q. inner q (text_ahead (longer more a)) v) (sym told) same),
      )

  -- a settled answer of `InUtf8` stays when more bytes follow
  in_utf8-stable : IsStable (InUtf8 inner)
  in_utf8-stable more partial a (Gives x b) s h =
      (longer (came a more) h.0, (answers-longer more partial a (Gives x h.0) tt h.1.0, ap (longer more) h.1.1 ∙ sym (left_at-longer a more h.0)))
  in_utf8-stable more partial a (Fails (Backtracks b)) s h =
      (longer (came a more) h.0, (answers-longer more partial a (Fails (Backtracks h.0)) tt h.1.0, ap (longer more) h.1.1 ∙ sym (left_at-longer a more h.0)))
  in_utf8-stable more partial a (Fails (Cuts b)) s (inl h) =
      inl (longer (came a more) h.0, (answers-longer more partial a (Fails (Cuts h.0)) tt h.1.0, ap (longer more) h.1.1 ∙ sym (left_at-longer a more h.0)))
  in_utf8-stable more partial a (Fails (Cuts b)) s (inr h) =
      inr (meets-longer more partial a h.0, ap (longer more) h.1 ∙ sym (past-damaged a more h.0.0))
  in_utf8-stable more partial a (Fails (Needs n)) s h = absurd s
  in_utf8-stable more partial a (Fails Refuses) s h = absurd s

  -- `InUtf8` needs nothing more where nothing more may follow
  in_utf8-final : IsFinal (InUtf8 inner)
  in_utf8-final a n h =
      p.final (text_ahead a) h.1.0 (subst (λ q. inner q (text_ahead a) (Fails (Needs h.1.0))) h.0 h.1.1.0)

  -- `InUtf8` only moves the stream on
  in_utf8-onward : IsOnward (InUtf8 inner)
  in_utf8-onward partial a (Gives x b) h = subst (Moves a) (sym h.1.1) (past-moves a _)
  in_utf8-onward partial a (Fails (Backtracks b)) h = subst (Moves a) (sym h.1.1) (past-moves a _)
  in_utf8-onward partial a (Fails (Cuts b)) (inl h) = subst (Moves a) (sym h.1.1) (past-moves a _)
  in_utf8-onward partial a (Fails (Cuts b)) (inr h) = subst (Moves a) (sym h.1) (past-moves a _)
  in_utf8-onward partial a (Fails (Needs n)) h = tt
  in_utf8-onward partial a (Fails Refuses) h = tt

  -- `InUtf8` keeps the laws of a parser
  pub IsParser-InUtf8 : IsParser (InUtf8 inner)
  IsParser-InUtf8 = record { stable = in_utf8-stable; final = in_utf8-final; onward = in_utf8-onward }
