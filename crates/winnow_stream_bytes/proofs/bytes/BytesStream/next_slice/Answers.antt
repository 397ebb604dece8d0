use Rattle.std.proofs.Common.{ap, ◌∙◌}
use Rattle.winnow_stream.specs.Source.{units}
use Rattle.winnow_stream.proofs.lemmas.UnitLemmas.{le-from_is_offset, units-drop}
use Rattle.winnow_stream_bytes.specs.ByteContents.{bytes_contents}
use Rattle.winnow_stream_bytes.proofs.bytes.BytesStream.next_slice.Goals as goal

pub behind-self-requires : goal.behind-self-requires
behind-self-requires c = le-from_is_offset (bytes_contents c.args.self.now) c.args.offset c.requires.offset

pub returns-clause-remains : goal.returns-clause-remains
returns-clause-remains c =
    let inside = le-from_is_offset (bytes_contents c.args.self.now) c.args.offset c.requires.offset in
    ap units c.behind-self.ensures.contents ∙ units-drop (bytes_contents c.args.self.now) c.args.offset inside
