use Rattle.std.proofs.Common.{◌≡◌, take}
use Rattle.std.specs.Fmt.{HasWritten, IsPlainFormatter}
use denote.Shadow.{shadow}
use denote.Text.{Utf8}
use Rattle.winnow_error_context.specs.ContextText.{expected, values_text}
use Rattle.winnow_error_context.proofs.lemmas.ContextTextLemmas.{lead_behind}
use Rattle.winnow_error_context.proofs.context_text.AllExpectedDisplay.fmt.Given as goal

abbrev pub invariant-loop-context : goal.invariant-loop-context
invariant-loop-context g l = record {
  lead : l.lead ≡ lead_behind (expected (take l.context-index l.fn.self.0.now));
  written : IsPlainFormatter l.initial.f
      → HasWritten g.W.Write.write_str_gives l.initial.f
      (values_text (expected (take l.context-index l.fn.self.0.now))) l.f;
  text : shadow (Utf8 l.lead);
}
