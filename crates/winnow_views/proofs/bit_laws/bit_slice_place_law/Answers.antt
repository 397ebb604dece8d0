use Rattle.winnow_stream.specs.SliceFrom.{IsSliceFrom}
use Rattle.winnow_views.proofs.lemmas.BitLemmas.{place-of_slice, beyond-of_slice, count-of_slice, bits-of_slice}
use Rattle.winnow_views.proofs.bit_laws.bit_slice_place_law.Goals as goal

pub returns-clause-place : goal.returns-clause-place
returns-clause-place g c = λ s r n h. place-of_slice (IsSliceFrom g.I.Stream.is_slice g.I.Stream.slice_from) s r n h

pub returns-clause-beyond : goal.returns-clause-beyond
returns-clause-beyond g c = λ s r n h. beyond-of_slice (IsSliceFrom g.I.Stream.is_slice g.I.Stream.slice_from) s r n h

pub returns-clause-count : goal.returns-clause-count
returns-clause-count g c = λ bytes known s r n o h.
    count-of_slice (IsSliceFrom g.I.Stream.is_slice g.I.Stream.slice_from) s r n h bytes (λ t l m p q. known t l m p q.0) o

pub returns-clause-bits : goal.returns-clause-bits
returns-clause-bits g c = λ bytes known s r n o h.
    bits-of_slice (IsSliceFrom g.I.Stream.is_slice g.I.Stream.slice_from) s r n h bytes (λ t l m p q. known t l m p q.0) o
