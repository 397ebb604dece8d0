use Rattle.std.proofs.Common.{[], refl, ap, ◌∙◌}
use Rattle.format_json_events.specs.Reading.{EventState, events_ended}
use Rattle.wb_json.specs.declared.printing.Printing.{Printing}
use Rattle.wb_json.proofs.lemmas.ResultLemmas.{on-ok, on-three, if-err}
use Rattle.wb_json.proofs.lemmas.TextLemmas.{begun-going, ends-text, fails-part, also-none, window-none}
use Rattle.wb_json.proofs.printing.Printing.print_rest.Goals as goal

pub print_ready-requires : goal.print_ready-requires
print_ready-requires g c =
    ap (λ (r : EventState). r.stopped) c.end.ensures.state ∙ begun-going c.args.self.now c.requires

pub returns-clause-settings : goal.returns-clause-settings
returns-clause-settings g c = on-ok c.print_ready.result (λ k. k.settings) c.print_ready.ensures.keeps

pub returns-clause-ends : goal.returns-clause-ends
returns-clause-ends g c =
    let contents = g.W.Write.contents in
    let old = c.args.self.now in
    let middle : Printing = record old { reader = c.end.new.self } in
    on-three c.print_ready.result
    (λ keeps whole prints. ends-text old middle [] (contents c.args.output.now) (contents c.print_ready.new.output) refl refl refl
    c.print_ready.new.self c.end.ensures.read c.end.ensures.state (λ input h. h) keeps whole prints)
    c.print_ready.ensures.keeps c.print_ready.ensures.whole c.print_ready.ensures.printed

pub returns-clause-failed : goal.returns-clause-failed
returns-clause-failed g c =
    let contents = g.W.Write.contents in
    let old = c.args.self.now in
    let middle : Printing = record old { reader = c.end.new.self } in
    if-err c.print_ready.result
    (λ failure breaks. fails-part old middle [] (contents c.args.output.now) (contents c.print_ready.new.output) refl refl refl
    (events_ended old.reader) failure (also-none old.reader middle.reader c.end.ensures.read)
    (ap (λ (r : EventState). r.text.depth) c.end.ensures.state, ap (λ (r : EventState). r.tokens.ended) c.end.ensures.state)
    (window-none old.window old.window (λ input h. h)) breaks)
    c.print_ready.ensures.failed
