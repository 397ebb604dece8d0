use Rattle.std.proofs.lemmas.Str.{IsUtf8-from_ascii}
use Rattle.format_json_scalars.proofs.lemmas.PlainLemmas.{IsAscii-plain}
use Rattle.format_json_scalars.proofs.characters.ascii_front.Goals as goal

pub from_utf8_unchecked-requires : goal.from_utf8_unchecked-requires
from_utf8_unchecked-requires c = IsUtf8-from_ascii _ (IsAscii-plain _ c.ascii_count-count.ensures.ascii)
