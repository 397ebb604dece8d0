use Rattle.std.proofs.lemmas.Result.{IfOk-from_err}
use Rattle.std.proofs.Common.{◌≤◌, ◌+◌, ◌++◌, ap, ◌∙◌, length, sym, arith, refl}
use Rattle.std.proofs.lemmas.List.{length-append}
use Rattle.std.proofs.lemmas.Option.{slice_get_within}
use Rattle.winnow_stream.specs.Front.{back}
use Rattle.winnow_script_feed.specs.Inputs.{text_input, joined}
use Rattle.winnow_script_feed.specs.Feeding.{FeedState, bytes_fed}
use Rattle.winnow_script_feed.proofs.lemmas.InputLemmas.{texts-input}
use Rattle.winnow_script_feed.proofs.lemmas.FeedLemmas.{grow, least-anywhere, TookPiece, taken, taken-room, skips, Fits-fed, Fits-skipped, came-out}
use Rattle.std.specs.String.{string_bytes}
use Rattle.std.proofs.lemmas.Str.{is_utf8-from_IsUtf8, IsUtf8-string_bytes}
use Rattle.winnow_stream.specs.Text.{text_source}
use Rattle.winnow_stream.proofs.lemmas.TextLemmas.{width-text_source}
use Rattle.winnow_script_feed.proofs.text_feeds.TextFeed.feed.Goals as goal

pub take_in-unneeded-requires-clause-more : goal.take_in-unneeded-requires-clause-more
take_in-unneeded-requires-clause-more c = c.new.ensures.flag

pub take_in-unneeded-requires-clause-ready : goal.take_in-unneeded-requires-clause-ready
take_in-unneeded-requires-clause-ready c =
    let i = c.self.invariant in
    let old : FeedState = record { run = c.self.inside.run; kept = (string_bytes c.self.inside.kept) } in
    let e = c.as_str.ensures.value ∙ c.in_ok-push_str.ensures.bytes in
    record {
      stands = rw c.new.ensures.input (text_source (i.input ++ c.args.piece.now), grow text_input texts-input i.input c.args.piece.now c.as_str.result.now old (is_utf8-from_IsUtf8 c.args.piece.now c.utf8.piece) (c.as_str.ensures.value ∙ c.in_ok-push_str.ensures.bytes) i.stands);
      fits = rw c.new.ensures.input (omega (arith, width-text_source c.as_str.result.now c.as_str.utf8, ap length e, length-append (string_bytes c.self.inside.kept) c.args.piece.now, ap bytes_fed c.self.view_is, c.requires));
      room = i.room;
    }

pub take_in-unneeded-requires-clause-least : goal.take_in-unneeded-requires-clause-least
take_in-unneeded-requires-clause-least c =
    let old : FeedState = record { run = c.self.inside.run; kept = (string_bytes c.self.inside.kept) } in
    least-anywhere text_input texts-input old c.self.invariant.stands.least (omega (arith, c.if-self-before.false, c.len-before.ensures, c.self.inside.run.told.ok.0))

pub take_in-unneeded-requires-clause-knows : goal.take_in-unneeded-requires-clause-knows
take_in-unneeded-requires-clause-knows c = c.self.invariant.knows

pub forget_text-requires : goal.forget_text-requires
forget_text-requires c = rw (← c.as_str.ensures.value) (rw c.new.ensures.input at c.take_in-unneeded.ensures.takes.offset)

pub invariant_of-self-2 : goal.invariant_of-self-2
invariant_of-self-2 c =
    let i = c.self.invariant in
    let old : FeedState = record { run = c.self.inside.run; kept = (string_bytes c.self.inside.kept) } in
    let new : FeedState = record { run = c.take_in-unneeded.new.progress; kept = string_bytes c.forget_text.new.kept } in
    let t = c.take_in-unneeded.ensures in
    let is = c.new.ensures.input in
    let left = c.forget_text.ensures.source ∙ ap (λ x. back (text_source x) c.take_in-unneeded.result) (sym c.as_str.ensures.value) in
    let took : TookPiece text_input old new c.args.piece.now = record {
      xs = c.as_str.result.now;
      unneeded = c.take_in-unneeded.result;
      is_piece = is_utf8-from_IsUtf8 c.args.piece.now c.utf8.piece;
      is_kept = is_utf8-from_IsUtf8 _ (IsUtf8-string_bytes c.forget_text.new.kept);
      joins = c.as_str.ensures.value ∙ c.in_ok-push_str.ensures.bytes;
      left = left;
      takes = rw is at t.takes;
    } in
    record {
      input = i.input ++ c.args.piece.now;
      stands = (taken text_input texts-input old new c.args.piece.now took i.input i.stands).0;
      rests = λ _. (taken text_input texts-input old new c.args.piece.now took i.input i.stands).1;
      room = t.piece.room;
      fits = omega (arith, taken-room text_input texts-input old new c.args.piece.now took i.input i.stands, ap bytes_fed c.self.view_is, c.requires);
      knows = t.knows;
    }

pub returns-clause-fits : goal.returns-clause-fits
returns-clause-fits c = λ pieces h.
    let old : FeedState = record { run = c.self.inside.run; kept = (string_bytes c.self.inside.kept) } in
    let new : FeedState = record { run = c.take_in-unneeded.new.progress; kept = string_bytes c.forget_text.new.kept } in
    let before = rw (← c.self.view_is) at h in
    let t = c.take_in-unneeded.ensures in
    let is = c.new.ensures.input in
    let left = c.forget_text.ensures.source ∙ ap (λ x. back (text_source x) c.take_in-unneeded.result) (sym c.as_str.ensures.value) in
    let took : TookPiece text_input old new c.args.piece.now = record {
      xs = c.as_str.result.now;
      unneeded = c.take_in-unneeded.result;
      is_piece = is_utf8-from_IsUtf8 c.args.piece.now c.utf8.piece;
      is_kept = is_utf8-from_IsUtf8 _ (IsUtf8-string_bytes c.forget_text.new.kept);
      joins = c.as_str.ensures.value ∙ c.in_ok-push_str.ensures.bytes;
      left = left;
      takes = rw is at t.takes;
    } in
    let after = taken text_input texts-input old new c.args.piece.now took (joined pieces) before.stands in
    Fits-fed text_input texts-input old new pieces c.args.piece.now before (is_utf8-from_IsUtf8 c.args.piece.now c.utf8.piece) t.piece.script after.0 after.1 t.piece.adds t.piece.pieces t.piece.tried

pub returns-clause-came : goal.returns-clause-came
returns-clause-came c = λ pieces h.
    let old : FeedState = record { run = c.self.inside.run; kept = (string_bytes c.self.inside.kept) } in
    let new : FeedState = record { run = c.take_in-unneeded.new.progress; kept = string_bytes c.forget_text.new.kept } in
    let before = rw (← c.self.view_is) at h in
    let t = c.take_in-unneeded.ensures in
    let told = c.take_in-unneeded.new.progress.told.ok.0 in
    rw (← c.self.view_is) (came-out text_input texts-input old new pieces c.args.piece.now _ before (returns-clause-fits c pieces h) t.piece.script (omega (arith, c.len.ensures, c.len-before.ensures, t.piece.told, c.self.inside.run.told.ok.0, told)))

pub returns-clause-grows : goal.returns-clause-grows
returns-clause-grows c =
    let i = c.self.invariant in
    let old : FeedState = record { run = c.self.inside.run; kept = (string_bytes c.self.inside.kept) } in
    let new : FeedState = record { run = c.take_in-unneeded.new.progress; kept = string_bytes c.forget_text.new.kept } in
    let t = c.take_in-unneeded.ensures in
    let is = c.new.ensures.input in
    let left = c.forget_text.ensures.source ∙ ap (λ x. back (text_source x) c.take_in-unneeded.result) (sym c.as_str.ensures.value) in
    let took : TookPiece text_input old new c.args.piece.now = record {
      xs = c.as_str.result.now;
      unneeded = c.take_in-unneeded.result;
      is_piece = is_utf8-from_IsUtf8 c.args.piece.now c.utf8.piece;
      is_kept = is_utf8-from_IsUtf8 _ (IsUtf8-string_bytes c.forget_text.new.kept);
      joins = c.as_str.ensures.value ∙ c.in_ok-push_str.ensures.bytes;
      left = left;
      takes = rw is at t.takes;
    } in
    taken-room text_input texts-input old new c.args.piece.now took i.input i.stands ∙ ap (λ f. bytes_fed f + length c.args.piece.now) c.self.view_is

pub invariant_of-self : goal.invariant_of-self
invariant_of-self c =
    let i = c.self.invariant in
    let old : FeedState = record { run = c.self.inside.run; kept = (string_bytes c.self.inside.kept) } in
    let done : length c.self.inside.run.script.now ≤ length c.self.inside.run.told.items = omega (arith, c.if-self-before.true, c.len-before.ensures, c.self.inside.run.told.ok.0) in
    record {
      input = i.input ++ c.args.piece.now;
      stands = skips text_input texts-input old i.input c.args.piece.now _ (is_utf8-from_IsUtf8 c.args.piece.now c.utf8.piece) i.stands done refl refl refl refl refl refl;
      rests = λ _ s e. absurd (omega (arith, slice_get_within c.self.inside.run.script.now (length c.self.inside.run.told.items) s e, done));
      room = record { told = i.room.told; marks = i.room.marks; made = i.room.made; counted = i.room.counted };
      fits = omega (arith, c.requires, ap bytes_fed c.self.view_is);
      knows = i.knows;
    }

pub returns-then-self-before-clause-fits : goal.returns-then-self-before-clause-fits
returns-then-self-before-clause-fits c = λ pieces h.
    let old : FeedState = record { run = c.self.inside.run; kept = (string_bytes c.self.inside.kept) } in
    let done : length c.self.inside.run.script.now ≤ length c.self.inside.run.told.items = omega (arith, c.if-self-before.true, c.len-before.ensures, c.self.inside.run.told.ok.0) in
    let before = rw (← c.self.view_is) at h in
    Fits-skipped text_input texts-input old _ pieces c.args.piece.now before (is_utf8-from_IsUtf8 c.args.piece.now c.utf8.piece) done refl refl (skips text_input texts-input old (joined pieces) c.args.piece.now _ (is_utf8-from_IsUtf8 c.args.piece.now c.utf8.piece) before.stands done refl refl refl refl refl refl) c.saturating_add-self-inside.ensures refl

pub returns-then-self-before-clause-came : goal.returns-then-self-before-clause-came
returns-then-self-before-clause-came c = λ pieces h.
    let old : FeedState = record { run = c.self.inside.run; kept = (string_bytes c.self.inside.kept) } in
    let before = rw (← c.self.view_is) at h in
    rw (← c.self.view_is) (came-out text_input texts-input old _ pieces c.args.piece.now 0 before (returns-then-self-before-clause-fits c pieces h) refl (omega arith))

-- if memory is refused, there is no value and nothing to promise of it
pub returns-in_err-push_str-clause-fits : goal.returns-in_err-push_str-clause-fits
returns-in_err-push_str-clause-fits c = IfOk-from_err _ _ c.from_residual.ensures.0

pub returns-in_err-push_str-clause-came : goal.returns-in_err-push_str-clause-came
returns-in_err-push_str-clause-came c = IfOk-from_err _ _ c.from_residual.ensures.0

pub returns-in_err-push_str-clause-grows : goal.returns-in_err-push_str-clause-grows
returns-in_err-push_str-clause-grows c = IfOk-from_err _ _ c.from_residual.ensures.0
