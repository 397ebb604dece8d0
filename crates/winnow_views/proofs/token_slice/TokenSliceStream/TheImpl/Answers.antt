-- Each call moves the location of the trait as it moves the place of the slice.
use Rattle.std.specs.Mem.{type_size}
use Rattle.std.proofs.Common.{ap, Some}
use Rattle.winnow_stream_window.specs.Contents.{slice_of}
use Rattle.winnow_views.proofs.lemmas.TokenLemmas.{place-first, place-all}
use Rattle.winnow_views.proofs.token_slice.TokenSliceStream.TheImpl.Goals as goal

pub next_token-tells : goal.next_token-tells
next_token-tells g x c =
    let rest = slice_of g.row.T c.args.self.now.view.window in
    record {
      answer = c.ensures.answer;
      remains = c.ensures.remains;
      location = place-first (type_size g.row.T) rest.ref_ptr rest.now _ _ c.ensures.place;
      valid = tt;
      kept = c.ensures.kept;
    }

pub next_slice-tells : goal.next_slice-tells
next_slice-tells g x c = record {
  answer = c.ensures.answer;
  from = tt;
  remains = c.ensures.remains;
  location = ap Some c.ensures.place;
  valid = tt;
  kept = c.ensures.kept;
}

pub finish-tells : goal.finish-tells
finish-tells g x c =
    let rest = slice_of g.row.T c.args.self.now.view.window in
    record {
      answer = c.ensures.answer;
      from = tt;
      remains = c.ensures.remains;
      location = place-all (type_size g.row.T) rest.ref_ptr rest.now _ _ c.ensures.place;
      valid = tt;
      kept = c.ensures.kept;
    }

pub checkpoint-tells : goal.checkpoint-tells
checkpoint-tells g x c = record {
  means = c.ensures.means;
  location = ap Some c.ensures.place;
  valid = tt;
}

pub reset-tells : goal.reset-tells
reset-tells g x c = record {
  remains = c.ensures.remains;
  location = ap Some c.ensures.place;
  valid = tt;
  kept = c.ensures.kept;
}
