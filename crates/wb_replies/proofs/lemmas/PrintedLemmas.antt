-- What the program has printed of an input whose bytes are known.
use Rattle.std.proofs.Common.{◌≡◌, ℕ, false, List, [], ◌∷◌, ◌++◌, refl, ap, sym, ◌∙◌, subst, append_assoc}
use Rattle.std.specs.Prelude.{Option, None, Some, Result, Ok, Err, IfSome, OnOk, IfErr}
use Rattle.std.proofs.lemmas.List.{append-nil}
use Rattle.std.proofs.lemmas.Option.{same_Some, none-some}
use Rattle.std.specs.Io.KnownBytes.{Appends}
use Rattle.winnow_parser.specs.Outcome.{Meaning}
use Rattle.wb_replies.specs.declared.failure.Failure.{Failure}
use Rattle.wb_replies.specs.declared.failure.Failure.TheVariants.{NoReply, EndsInside, Stopped}
use Rattle.winnow_reader.specs.State.{ReaderState}
use Rattle.format_resp.specs.declared.reply.Reply.{Reply}
use Rattle.wb_replies.specs.declared.placed.Placed.{Placed}
use Rattle.wb_replies.specs.declared.placed.PlacedReply.{PlacedReply}
use Rattle.wb_replies.specs.declared.positions.Position.{Position}
use Rattle.wb_replies.specs.Session.{Follows, Continues, EndsAs, Tells, OnAnswer, FailsThere, Prints, TellsInput}
use Rattle.wb_replies.specs.Layouts.{printed, printed_all}
use Rattle.wb_replies.specs.declared.layout.Layout.{Layout}
use Rattle.wb_replies.proofs.lemmas.SessionLemmas.{on-answer-map}

-- bytes that are known are known once more are appended
pub appends-some : (o new : Option (List ℕ)) (xs bytes : List ℕ) → o ≡ Some xs → Appends o new bytes
    → new ≡ Some (xs ++ bytes)
appends-some None new xs bytes e h = absurd (none-some _ e)
appends-some (Some ys) None xs bytes e h = absurd h
appends-some (Some ys) (Some zs) xs bytes e h = ap Some (h ∙ ap (λ t. t ++ bytes) (same_Some ys xs e))

-- two lists of replies, as the layout says
printed-append : (layout : Layout) (xs ys : List Reply)
    → printed_all layout (xs ++ ys) ≡ printed_all layout xs ++ printed_all layout ys
printed-append layout [] ys = refl
printed-append layout (x ∷ xs) ys =
    ap (λ t. printed layout x ++ t) (printed-append layout xs ys)
    ∙ sym (append_assoc (printed layout x) (printed_all layout xs) (printed_all layout ys))

-- more replies are printed after those before
written-more : (layout : Layout) (before : List ℕ) (replies more : List Reply)
    (o new : Option (List ℕ)) → o ≡ Some (before ++ printed_all layout replies)
    → Appends o new (printed_all layout more)
    → new ≡ Some (before ++ printed_all layout (replies ++ more))
written-more layout before replies more o new e h =
    appends-some o new (before ++ printed_all layout replies) (printed_all layout more) e h
    ∙ ap Some (append_assoc before (printed_all layout replies) (printed_all layout more)
    ∙ ap (λ t. before ++ t) (sym (printed-append layout replies more)))

module _ (means : PlacedReply → Meaning Placed ℕ) where
  module _ (layout : Layout) (parser : PlacedReply) (input : List ℕ) (had now new : Option (List ℕ))
      (f g : ReaderState PlacedReply) (place there : Position)
      (prints : Prints means layout parser input had now f place) (same : g.parser ≡ f.parser) where
    -- a reader that read on with a piece
    printed-piece : (piece : List ℕ) → ((more : List ℕ) (replies : List Reply)
        → Follows means more replies f place
        → Continues means layout (more ++ piece) replies g there now new)
        → g.ended ≡ false → Prints means layout parser (input ++ piece) had new g there
    printed-piece piece told ended before known =
        let h = prints before known in
        let more = told input h.replies h.follows in
        record {
          replies = h.replies ++ more.more;
          follows = more.follows;
          written = written-more layout before h.replies more.more now new h.written more.written;
          same = same ∙ h.same;
          goes_on = ended;
        }

    -- what the program tells where a piece made it fail, whatever follows
    tells-failed : (piece rest : List ℕ) (e : Failure)
        → ((more : List ℕ) (replies : List Reply) → Follows means more replies f place
        → OnAnswer (Err e) (Continues means layout (more ++ piece) replies g there now new))
        → FailsThere means g there e
        → TellsInput means layout parser (input ++ (piece ++ rest)) had new (Err e)
    tells-failed piece rest (NoReply p cause excerpt) told failed before known =
        let h = prints before known in
        let more = told input h.replies h.follows in
        record {
          input = input ++ piece;
          rest = rest;
          splits = sym (append_assoc input piece rest);
          replies = h.replies ++ more.more;
          reader = g;
          place = there;
          same = same ∙ h.same;
          follows = more.follows;
          written = written-more layout before h.replies more.more now new h.written more.written;
          ends = failed;
        }
    tells-failed piece rest (EndsInside p excerpt) told failed before known = absurd failed
    tells-failed piece rest (Stopped trouble) told failed before known = tt

    -- so it is with whatever a piece makes it return
    pub prints-on : (piece : List ℕ) (r : Result (Unit {0}) Failure)
        → ((more : List ℕ) (replies : List Reply) → Follows means more replies f place
        → OnAnswer r (Continues means layout (more ++ piece) replies g there now new))
        → g.ended ≡ false → OnOk r (Prints means layout parser (input ++ piece) had new g there)
    prints-on piece (Ok done) told ended = printed-piece piece told ended
    prints-on piece (Err e) told ended = tt

    pub tells-on : (piece rest : List ℕ) (r : Result (Unit {0}) Failure)
        → ((more : List ℕ) (replies : List Reply) → Follows means more replies f place
        → OnAnswer r (Continues means layout (more ++ piece) replies g there now new))
        → IfErr r (FailsThere means g there)
        → IfErr r (λ e. TellsInput means layout parser (input ++ (piece ++ rest)) had new (Err e))
    tells-on piece rest (Ok done) told failed = tt
    tells-on piece rest (Err e) told failed = tells-failed piece rest e told failed

    -- what the program tells at the end of the input
    pub tells-last : (r : Result (Unit {0}) Failure)
        → ((more : List ℕ) (replies : List Reply) → Follows means more replies f place
        → OnAnswer r (Continues means layout more replies g there now new))
        → EndsAs means g there [] r → TellsInput means layout parser input had new r
    tells-last r told ends before known =
        let h = prints before known in
        on-answer-map r (Continues means layout input h.replies g there now new) (Tells means layout parser input before new r)
        (λ more. record {
          input = input;
          rest = [];
          splits = sym (append-nil input);
          replies = h.replies ++ more.more;
          reader = g;
          place = there;
          same = same ∙ h.same;
          follows = more.follows;
          written = written-more layout before h.replies more.more now new h.written more.written;
          ends = ends;
        })
        (told input h.replies h.follows)

-- what is told of the rest is told of the whole input, if that is known
pub told-known : (P : List ℕ → Type 0) (source : Option (List ℕ)) (whole : List ℕ)
    → source ≡ Some whole → IfSome source P → P whole
told-known P None whole e h = absurd (none-some _ e)
told-known P (Some xs) whole e h = subst P (same_Some xs whole e) h

-- what holds with the layout before a call holds with that of the start, which stays the layout
pub follows-on : (r : Result (Unit {0}) Failure) (old new start : Layout) → old ≡ start → new ≡ old
    → (P : Layout → Type 0) → OnOk r (P old) → OnOk r ((new ≡ start) × P start)
follows-on (Ok done) old new start same kept P h = (kept ∙ same, subst P same h)
follows-on (Err e) old new start same kept P h = tt
