use Rattle.std.proofs.Common.{◌≡◌, Some, None, length, sym, ◌∙◌, arith, subst}
use Rattle.winnow_script_feed.specs.NamedMarks.{IsLeastNamed}
use Rattle.winnow_script_feed.proofs.lemmas.NamingLemmas.{needed-least_named, needed-none_named}
use Rattle.winnow_script_feed.proofs.reach.place_needed.Goals as goal

pub returns-in-Some-clause-least : goal.returns-in-Some-clause-least
returns-in-Some-clause-least g c =
    let p = c.args.progress.now in
    let k = c.requires.knows in
    let ends = c.args.named.now.ends.items in
    let m = c.in-Some.least in
    let told : c.len-told.result ≡ length p.told.items = c.len-told.ensures ∙ p.told.ok.0 in
    let made = subst (λ ms. IsLeastNamed ends ms c.len-told.result (length ms) (Some m)) c.deref.ensures.value c.in-Some.ensures.least in
    let least = subst (λ n. IsLeastNamed ends p.marks.items n (length p.marks.items) (Some m)) told made in
    c.min.ensures ∙ sym (needed-least_named p.script.now ends p.marks.items (length p.told.items) p.place k.ends (omega (arith, c.requires.made, p.marks.ok.0, c.len-told.ensures, c.if-told-progress.true, k.one_each)) c.args.end m (omega (arith, told, c.if-told-progress.true)) least)

pub returns-in-None-clause-least : goal.returns-in-None-clause-least
returns-in-None-clause-least g c =
    let p = c.args.progress.now in
    let k = c.requires.knows in
    let ends = c.args.named.now.ends.items in
    let told : c.len-told.result ≡ length p.told.items = c.len-told.ensures ∙ p.told.ok.0 in
    let made = subst (λ ms. IsLeastNamed ends ms c.len-told.result (length ms) None) c.deref.ensures.value c.in-None.ensures.least in
    let none = subst (λ n. IsLeastNamed ends p.marks.items n (length p.marks.items) None) told made in
    sym (needed-none_named p.script.now ends p.marks.items (length p.told.items) p.place k.ends (omega (arith, c.requires.made, p.marks.ok.0, c.len-told.ensures, c.if-told-progress.true, k.one_each)) c.args.end (omega (arith, told, c.if-told-progress.true)) none)
