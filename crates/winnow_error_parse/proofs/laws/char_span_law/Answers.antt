use Rattle.winnow_error_parse.proofs.lemmas.CharacterLemmas.{char_span-between}
use Rattle.winnow_error_parse.proofs.lemmas.SpanLemmas.{char_span-inside, char_span-end}
use Rattle.winnow_error_parse.proofs.laws.char_span_law.Goals as goal

pub returns : goal.returns
returns c = record {
  character = λ before after ch offset first scalar last low high. char_span-between before after ch first scalar last offset low high;
  inside = λ text start end offset is low high. char_span-inside text start end offset is low high;
  at_end = λ bytes. char_span-end bytes;
}
