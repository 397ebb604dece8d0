use Rattle.std.proofs.Common.{refl, ap, ◌∙◌}
use Rattle.format_json_events.specs.Reading.{EventState}
use Rattle.wb_json.specs.declared.printing.Printing.{Printing}
use Rattle.wb_json.proofs.lemmas.ResultLemmas.{on-ok, on-both, if-err}
use Rattle.wb_json.proofs.lemmas.TextLemmas.{begun-going, begun-open, begun-fits, follows-part, fails-part}
use Rattle.wb_json.proofs.printing.Printing.print_part.Goals as goal

pub push-requires-clause-goes_on : goal.push-requires-clause-goes_on
push-requires-clause-goes_on g c = begun-open c.args.self.now c.requires

pub push-requires-clause-fits : goal.push-requires-clause-fits
push-requires-clause-fits g c =
    begun-fits c.args.self.now c.append.new.self c.args.part.now c.requires c.in_default.ensures.window

pub print_ready-requires : goal.print_ready-requires
print_ready-requires g c =
    ap (λ (r : EventState). r.stopped) c.in_default-push.ensures.ok ∙ begun-going c.args.self.now c.requires

pub returns-clause-settings : goal.returns-clause-settings
returns-clause-settings g c = on-ok c.print_ready.result (λ k. k.settings) c.print_ready.ensures.keeps

pub returns-clause-begun : goal.returns-clause-begun
returns-clause-begun g c = on-ok c.print_ready.result (λ k. k.begun) c.print_ready.ensures.keeps

pub returns-clause-follows : goal.returns-clause-follows
returns-clause-follows g c =
    let contents = g.W.Write.contents in
    let old = c.args.self.now in
    let middle : Printing = record old { reader = c.push.new.self; window = c.append.new.self } in
    on-both c.print_ready.result
    (λ keeps prints. follows-part old middle c.args.part.now (contents c.args.output.now) (contents c.print_ready.new.output) refl refl c.in_default.ensures.start
    c.print_ready.new.self c.in_default-push.ensures.read c.in_default-push.ensures.ok c.in_default.ensures.window keeps prints)
    c.print_ready.ensures.keeps c.print_ready.ensures.printed

pub returns-clause-failed : goal.returns-clause-failed
returns-clause-failed g c =
    let contents = g.W.Write.contents in
    let old = c.args.self.now in
    let middle : Printing = record old { reader = c.push.new.self; window = c.append.new.self } in
    if-err c.print_ready.result
    (λ failure breaks. fails-part old middle c.args.part.now (contents c.args.output.now) (contents c.print_ready.new.output) refl refl c.in_default.ensures.start
    old.reader failure c.in_default-push.ensures.read
    (ap (λ (r : EventState). r.text.depth) c.in_default-push.ensures.ok, ap (λ (r : EventState). r.tokens.ended) c.in_default-push.ensures.ok)
    c.in_default.ensures.window breaks)
    c.print_ready.ensures.failed
