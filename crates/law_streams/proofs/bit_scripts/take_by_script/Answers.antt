use Rattle.std.proofs.Common.{true, ◌∙◌, ap₂, ◌∷◌, []}
use Rattle.std.specs.Prelude.{⊤}
use Rattle.winnow_script_run.specs.declared.script.Answer.TheVariants as answer
use Rattle.winnow_stream.specs.SliceFrom.{IsSliceFrom}
use Rattle.winnow_views.specs.BitSource.{IsBitSlice, IsBitSliceFrom}
use Rattle.law_streams.proofs.lemmas.TakenBitsLemmas.{taken-ok}
use Rattle.law_streams.proofs.bit_scripts.take_by_script.Goals as goal

pub returns : goal.returns
returns g c = record {
  slice =
      let slices = IsSliceFrom (IsBitSlice g.I.Stream.is_slice) (IsBitSliceFrom (IsSliceFrom g.I.Stream.is_slice g.I.Stream.slice_from)) in
      taken-ok c.run.result _ (λ set bit said. ⊤) slices true _ c.args.count c.requires.enough c.run.ensures.slices
      (λ out s same is.
      let place = c.bit_slice_place_law.ensures.place s _ c.args.count is.1 in
      let beyond = c.bit_slice_place_law.ensures.beyond s _ c.args.count is.1 in (
        s.0,
        same ∙ ap₂ (λ p e. answer.Slice (s.0, p, e) ∷ []) place beyond,
        c.bit_slice_place_law.ensures.count g.I.Slice.AsBytes.bytes c.requires.bytes s _ c.args.count c.requires.enough is.1,
      ));
}
