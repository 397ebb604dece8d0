-- A damaged token in the unread bytes of a reader: its bytes before and after the place.
use Rattle.std.proofs.Common.{◌≡◌, ℕ, ◌-◌, ◌<◌, ◌≤◌, Bool, true, false, if◌then◌else◌, List, [], ◌∷◌, ◌++◌, length, drop, inl, inr, ap, sym, ◌∙◌, subst, refl, arith, append_assoc, append-nil, length-append}
use Rattle.std.proofs.Math.Seq.{drop-append_seam}
use Rattle.winnow_reader.specs.State.{ReaderState}
use Rattle.winnow_reader.specs.Reading.{MayFollow}
use Rattle.format_lemmas.specs.Bytes.{StartsWith}
use Rattle.format_json_scalars.specs.StringAnswers.{BeginsChar}
use Rattle.format_json.specs.Language.{is_blank, after_blanks}
use Rattle.format_json.specs.TokenAnswers.{IsWrongAt}
use Rattle.format_json.specs.Reading.{FindsDamage}
use Rattle.format_json_events.specs.Reading.{ahead_from}
use Rattle.format_json.specs.declared.tokens.Token.TheVariants as token
use Rattle.format_json.specs.declared.reading.JsonToken.{JsonToken}

-- one step of `blanks-front`
front-if : (t : Bool) (x : ℕ) (b : List ℕ)
    → ((front : List ℕ) × (b ≡ front ++ after_blanks b))
    → (front : List ℕ) × (x ∷ b ≡ front ++ (if t then after_blanks b else x ∷ b))
front-if true x b (front, e) = (x ∷ front, ap (λ l. x ∷ l) e)
front-if false x b h = ([], refl)

-- bytes are blanks and the bytes after them
blanks-front : (b : List ℕ) → (front : List ℕ) × (b ≡ front ++ after_blanks b)
blanks-front [] = ([], refl)
blanks-front (x ∷ b) = front-if (is_blank x) x b (blanks-front b)

-- a damaged token is the bytes before the damage and those from it on
wrong-front : (here rest : List ℕ) → IsWrongAt false here rest
    → (front : List ℕ) × (here ≡ front ++ rest)
wrong-front here rest (inl (t, (cs, (e, spells, wrong)))) = (34 ∷ t, e)
wrong-front here rest (inr (e, none)) = ([], sym e)

-- where a token is damaged, there are bytes
wrong-some : (here rest : List ℕ) → IsWrongAt false here rest → 0 < length here
wrong-some [] rest (inl (t, (cs, (e, spells, wrong)))) = cc e
wrong-some [] rest (inr (e, none)) = absurd (none.2 [] (λ f. refl) token.End [] (refl, refl, refl))
wrong-some (x ∷ here) rest h = omega arith

-- where a string is damaged, no character begins
pub wrong-char : (here rest : List ℕ) → IsWrongAt false here rest → StartsWith 34 here
    → ¬ (BeginsChar rest)
wrong-char here rest (inl (t, (cs, (e, spells, wrong)))) quote begins =
    wrong.1 [] (λ f. refl) (subst BeginsChar (sym (append-nil rest)) begins)
wrong-char here rest (inr (e, none)) quote begins = none.0 quote

-- nothing may follow
none-follows : (ended : Bool) → MayFollow ended [] false
none-follows false = tt
none-follows true = (refl, refl)

module _ (f : ReaderState JsonToken) (place : ℕ) (damage : FindsDamage f place) where
  -- the token ahead is damaged at the rest
  damage-wrong : IsWrongAt false (after_blanks f.ahead) damage.0
  damage-wrong =
      subst (λ l. IsWrongAt false (after_blanks f.ahead) l) (append-nil damage.0)
      (subst (λ l. IsWrongAt false (after_blanks l) (damage.0 ++ [])) (append-nil f.ahead) (damage.1.1 [] (none-follows f.ended)))

  -- the bytes before the rest
  damage-front : (front : List ℕ) × (f.ahead ≡ front ++ damage.0)
  damage-front =
      let blanks = blanks-front f.ahead in
      let front = wrong-front (after_blanks f.ahead) damage.0 damage-wrong in
      (blanks.0 ++ front.0, blanks.1 ∙ ap (λ l. blanks.0 ++ l) front.1 ∙ sym (append_assoc blanks.0 front.0 damage.0))

  -- the place is not before the bytes ahead
  pub damage-after : f.place ≤ place
  damage-after =
      omega (arith, damage.1.0, ap length damage-front.1, length-append damage-front.0 damage.0)

  -- the rest is what stands there
  damage-rest : ahead_from f place ≡ damage.0
  damage-rest =
      let front = damage-front in
      let long : place - f.place ≡ length front.0 =
      omega (arith, damage.1.0, ap length front.1, length-append front.0 damage.0) in
      ap (λ n. drop n f.ahead) long ∙ ap (drop (length front.0)) front.1 ∙ drop-append_seam front.0 damage.0

  -- there are bytes after the blanks
  pub damage-some : 0 < length (after_blanks f.ahead)
  damage-some = wrong-some (after_blanks f.ahead) damage.0 damage-wrong

  -- where a string is damaged, no character begins there
  pub damage-char : StartsWith 34 (after_blanks f.ahead) → ¬ (BeginsChar (ahead_from f place))
  damage-char quote begins =
      wrong-char (after_blanks f.ahead) damage.0 damage-wrong quote (subst BeginsChar damage-rest begins)
