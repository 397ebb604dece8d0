use Rattle.std.proofs.lemmas.Result.{IfOk-from_err}
use Rattle.std.proofs.Common.{ap, length, arith, refl, []}
use Rattle.winnow_script_feed.specs.Inputs.{byte_input}
use Rattle.winnow_script_feed.proofs.lemmas.InputLemmas.{bytes-input}
use Rattle.winnow_script_feed.proofs.lemmas.FeedLemmas.{new-stands}
use Rattle.winnow_script_feed.proofs.feeds.ByteFeed.new.Goals as goal

pub invariant_of-result : goal.invariant_of-result
invariant_of-result c = record {
  input = [];
  stands = new-stands byte_input bytes-input _ _ c.in_ok-told.ensures.items c.in_ok-marks.ensures.items c.new-2.ensures.items refl refl c.nothing.ensures;
  rests = λ l. absurd (omega arith);
  room = record { told = omega (arith, c.in_ok-told.ensures.capacity); marks = omega (arith, c.in_ok-marks.ensures.capacity); made = omega (arith, c.in_ok-told.ensures.len, c.in_ok-marks.ensures.len); counted = omega arith };
  fits = omega (arith, ap length c.new-2.ensures.items);
  knows = rw (c.in_ok-marks.ensures.items, c.in_ok-told.ensures.items) c.in_ok-named.ensures;
}

pub returns-clause-fits : goal.returns-clause-fits
returns-clause-fits c = record {
  are_pieces = tt;
  stands = new-stands byte_input bytes-input _ _ c.in_ok-told.ensures.items c.in_ok-marks.ensures.items c.new-2.ensures.items refl refl c.nothing.ensures;
  rests = λ l. absurd (omega arith);
  told = c.in_ok-told.ensures.items;
  count = refl;
  tried = refl;
}

-- if memory is refused, there is no value and nothing to promise of it
pub returns-in_err-told-clause-fits : goal.returns-in_err-told-clause-fits
returns-in_err-told-clause-fits c = IfOk-from_err _ _ c.from_residual.ensures.0

pub returns-in_err-told-clause-script : goal.returns-in_err-told-clause-script
returns-in_err-told-clause-script c = IfOk-from_err _ _ c.from_residual.ensures.0

pub returns-in_err-told-clause-none : goal.returns-in_err-told-clause-none
returns-in_err-told-clause-none c = IfOk-from_err _ _ c.from_residual.ensures.0

pub returns-in_err-marks-clause-fits : goal.returns-in_err-marks-clause-fits
returns-in_err-marks-clause-fits c = IfOk-from_err _ _ c.from_residual-in_err-marks.ensures.0

pub returns-in_err-marks-clause-script : goal.returns-in_err-marks-clause-script
returns-in_err-marks-clause-script c = IfOk-from_err _ _ c.from_residual-in_err-marks.ensures.0

pub returns-in_err-marks-clause-none : goal.returns-in_err-marks-clause-none
returns-in_err-marks-clause-none c = IfOk-from_err _ _ c.from_residual-in_err-marks.ensures.0

pub returns-in_err-named-clause-fits : goal.returns-in_err-named-clause-fits
returns-in_err-named-clause-fits c = IfOk-from_err _ _ c.from_residual-in_err-named.ensures.0

pub returns-in_err-named-clause-script : goal.returns-in_err-named-clause-script
returns-in_err-named-clause-script c = IfOk-from_err _ _ c.from_residual-in_err-named.ensures.0

pub returns-in_err-named-clause-none : goal.returns-in_err-named-clause-none
returns-in_err-named-clause-none c = IfOk-from_err _ _ c.from_residual-in_err-named.ensures.0
