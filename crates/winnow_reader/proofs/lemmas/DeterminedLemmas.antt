-- A record of text that has one answer to each question has one of bytes.
use Rattle.std.specs.Prelude.{Bool, cond}
use Rattle.std.specs.Str.Lossy.{utf8_valid_len}
use Rattle.std.proofs.Common.{◌≡◌, ℕ, ◌-◌, length, ap, sym, ◌∙◌, inl, inr}
use Rattle.winnow_stream.specs.Shortage.{needed}
use Rattle.winnow_parser.specs.Outcome.{Ahead, Failed, Backtracks, Cuts, Needs, Refuses, Gives, Fails, Meaning}
use Rattle.winnow_parser.specs.Determined.{IsGrantedFailure, IsDetermined}
use Rattle.winnow_reader.specs.Wanted.{size_of}
use Rattle.winnow_reader.specs.InUtf8.{bytes_in, past_text, is_damaged, goes_on, past, text_ahead, left_at, AnswersText, InUtf8}

-- the need of bytes that a need of the text is, or the cut where damage follows
abbrev shown_need : Bool → Ahead ℕ → ℕ → Failed ℕ
shown_need damaged a wanted =
    cond damaged (Cuts (past a (utf8_valid_len (bytes_in a.tokens)))) (Needs (needed (wanted - length (past_text (bytes_in a.tokens)))))

-- the failure of bytes that a failure of the text is
abbrev shown : Bool → Ahead ℕ → Failed ℕ → Failed ℕ
shown partial a (Backtracks c) = Backtracks (left_at a c)
shown partial a (Cuts c) = Cuts (left_at a c)
shown partial a (Needs n) = shown_need (is_damaged partial (past_text (bytes_in a.tokens))) a (size_of n)
shown partial a Refuses = Refuses

module _ {O : Type 0} (inner : Meaning O ℕ) where
  -- a failure of bytes is one of the text
  text_failure : (partial : Bool) (a : Ahead ℕ) (f : Failed ℕ) → IsGrantedFailure f
      → InUtf8 inner partial a (Fails f)
      → (g : Failed ℕ) × (IsGrantedFailure g × (AnswersText inner partial a (Fails g) × (f ≡ shown partial a g)))
  text_failure partial a (Backtracks b) granted h =
      (Backtracks h.0, (tt, (h.1.0, ap Backtracks h.1.1)))
  text_failure partial a (Cuts b) granted (inl h) = (Cuts h.0, (tt, (h.1.0, ap Cuts h.1.1)))
  text_failure partial a (Cuts b) granted (inr h) =
      let wanted = h.0.1.0 in
      (Needs wanted, (tt, (h.0.1.1, ap Cuts h.1 ∙ sym (ap (λ d. shown_need d a (size_of wanted)) h.0.0))))
  text_failure partial a (Needs n) granted h =
      let wanted = h.1.0 in
      (Needs wanted, (tt, (h.1.1.0, ap Needs h.1.1.1 ∙ sym (ap (λ d. shown_need d a (size_of wanted)) h.0))))
  text_failure partial a Refuses granted h = absurd granted

  -- two answers of bytes agree where two answers of the text do
  pub IsDetermined-InUtf8 : (same : O → O → Type 0) → IsDetermined same inner
      → IsDetermined same (InUtf8 inner)
  IsDetermined-InUtf8 same d partial a (Gives x b) (Gives y c) v w h k =
      let told = goes_on partial (past_text (bytes_in a.tokens)) in
      let both = d told (text_ahead a) (Gives x h.0) (Gives y k.0) tt tt h.1.0 k.1.0 in
      (both.0, h.1.1 ∙ ap (left_at a) both.1 ∙ sym k.1.1)
  IsDetermined-InUtf8 same d partial a (Gives x b) (Fails g) v w h k =
      let told = goes_on partial (past_text (bytes_in a.tokens)) in
      let t = text_failure partial a g w k in
      d told (text_ahead a) (Gives x h.0) (Fails t.0) tt t.1.0 h.1.0 t.1.1.0
  IsDetermined-InUtf8 same d partial a (Fails f) (Gives y c) v w h k =
      let told = goes_on partial (past_text (bytes_in a.tokens)) in
      let t = text_failure partial a f v h in
      d told (text_ahead a) (Fails t.0) (Gives y k.0) t.1.0 tt t.1.1.0 k.1.0
  IsDetermined-InUtf8 same d partial a (Fails f) (Fails g) v w h k =
      let told = goes_on partial (past_text (bytes_in a.tokens)) in
      let t = text_failure partial a f v h in
      let u = text_failure partial a g w k in
      t.1.1.1 ∙ ap (shown partial a) (d told (text_ahead a) (Fails t.0) (Fails u.0) t.1.0 u.1.0 t.1.1.0 u.1.1.0) ∙ sym u.1.1.1
