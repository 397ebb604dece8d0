use Rattle.std.proofs.Common.{◌≡◌, ℕ, List, [], ◌++◌, true, sym, ap, ◌∙◌, subst, append-nil, refl, rules}
use Rattle.wb_json.specs.Printing.{PassesOver, PrintsMore}
use Rattle.wb_json.specs.declared.printing.Printing.{Printing}
use Rattle.wb_json.proofs.lemmas.InputLemmas.{fails-part-of}
use Rattle.wb_json.proofs.lemmas.ResultLemmas.{on-three, if-err}
use Rattle.wb_json.proofs.lemmas.LiningLemmas.{first-blanks, passes-blanks, line-part, prints-both, fails-second, ready-begun, ready-more, none-left}
use Rattle.wb_json.proofs.printing.Printing.print_first.Goals as goal

pub returns-then-is_empty-clause-ready : goal.returns-then-is_empty-clause-ready
returns-then-is_empty-clause-ready g c =
    let contents = g.W.Write.contents in
    let old = c.args.self.now in
    let part = c.args.part.now in
    let held = contents c.args.output.now in
    let blanks = c.split_at.result.0.now in
    let rest = c.split_at.result.1.now in
    let passed = c.pass_blanks.new.self in
    let parts = first-blanks part blanks rest c.blank_count.result c.blank_count.ensures.within c.blank_count.ensures.rest c.split_at.ensures.front c.split_at.ensures.back c.requires.line in
    let first = passes-blanks old passed blanks held c.requires.lines c.requires.fresh parts.1 parts.3 c.in_default.ensures.passes c.in_default.ensures.reader in
    ready-more old passed blanks held held c.requires.ready first

pub returns-then-is_empty-clause-prints : goal.returns-then-is_empty-clause-prints
returns-then-is_empty-clause-prints g c =
    let contents = g.W.Write.contents in
    let old = c.args.self.now in
    let part = c.args.part.now in
    let held = contents c.args.output.now in
    let blanks = c.split_at.result.0.now in
    let rest = c.split_at.result.1.now in
    let passed = c.pass_blanks.new.self in
    let parts = first-blanks part blanks rest c.blank_count.result c.blank_count.ensures.within c.blank_count.ensures.rest c.split_at.ensures.front c.split_at.ensures.back c.requires.line in
    let first = passes-blanks old passed blanks held c.requires.lines c.requires.fresh parts.1 parts.3 c.in_default.ensures.passes c.in_default.ensures.reader in
    let none : rest ≡ [] = none-left rest (search rules) in
    subst (λ (bs : List ℕ). PrintsMore old bs passed held held) (sym (parts.0 ∙ ap (λ xs. blanks ++ xs) none ∙ append-nil blanks)) first

pub print_part-requires : goal.print_part-requires
print_part-requires g c =
    let contents = g.W.Write.contents in
    let old = c.args.self.now in
    let part = c.args.part.now in
    let held = contents c.args.output.now in
    let blanks = c.split_at.result.0.now in
    let rest = c.split_at.result.1.now in
    let passed = c.pass_blanks.new.self in
    let parts = first-blanks part blanks rest c.blank_count.result c.blank_count.ensures.within c.blank_count.ensures.rest c.split_at.ensures.front c.split_at.ensures.back c.requires.line in
    let begun : Printing = record passed { begun = true } in
    let over : PassesOver old blanks begun = record { settings = c.in_default.ensures.passes.settings; path = c.in_default.ensures.passes.path; window = c.in_default.ensures.passes.window } in
    let first = passes-blanks old begun blanks held c.requires.lines c.requires.fresh parts.1 parts.3 over c.in_default.ensures.reader in
    ready-begun begun (ready-more old begun blanks held held c.requires.ready first)

pub returns-clause-ready : goal.returns-clause-ready
returns-clause-ready g c =
    let contents = g.W.Write.contents in
    let old = c.args.self.now in
    let part = c.args.part.now in
    let held = contents c.args.output.now in
    let blanks = c.split_at.result.0.now in
    let rest = c.split_at.result.1.now in
    let passed = c.pass_blanks.new.self in
    let parts = first-blanks part blanks rest c.blank_count.result c.blank_count.ensures.within c.blank_count.ensures.rest c.split_at.ensures.front c.split_at.ensures.back c.requires.line in
    let begun : Printing = record passed { begun = true } in
    let over : PassesOver old blanks begun = record { settings = c.in_default.ensures.passes.settings; path = c.in_default.ensures.passes.path; window = c.in_default.ensures.passes.window } in
    let first = passes-blanks old begun blanks held c.requires.lines c.requires.fresh parts.1 parts.3 over c.in_default.ensures.reader in
    let new = c.print_part.new.self in
    let now = contents c.print_part.new.output in
    on-three c.print_part.result
    (λ same more follows. ready-more old new part held now c.requires.ready
    (prints-both old begun new blanks rest part held held now parts.0 first (line-part begun new rest held now same more refl parts.2 follows)))
    c.print_part.ensures.settings c.print_part.ensures.begun c.print_part.ensures.follows

pub returns-clause-prints : goal.returns-clause-prints
returns-clause-prints g c =
    let contents = g.W.Write.contents in
    let old = c.args.self.now in
    let part = c.args.part.now in
    let held = contents c.args.output.now in
    let blanks = c.split_at.result.0.now in
    let rest = c.split_at.result.1.now in
    let passed = c.pass_blanks.new.self in
    let parts = first-blanks part blanks rest c.blank_count.result c.blank_count.ensures.within c.blank_count.ensures.rest c.split_at.ensures.front c.split_at.ensures.back c.requires.line in
    let begun : Printing = record passed { begun = true } in
    let over : PassesOver old blanks begun = record { settings = c.in_default.ensures.passes.settings; path = c.in_default.ensures.passes.path; window = c.in_default.ensures.passes.window } in
    let first = passes-blanks old begun blanks held c.requires.lines c.requires.fresh parts.1 parts.3 over c.in_default.ensures.reader in
    let new = c.print_part.new.self in
    let now = contents c.print_part.new.output in
    on-three c.print_part.result
    (λ same more follows. prints-both old begun new blanks rest part held held now parts.0 first (line-part begun new rest held now same more refl parts.2 follows))
    c.print_part.ensures.settings c.print_part.ensures.begun c.print_part.ensures.follows

pub returns-clause-failed : goal.returns-clause-failed
returns-clause-failed g c =
    let contents = g.W.Write.contents in
    let old = c.args.self.now in
    let part = c.args.part.now in
    let held = contents c.args.output.now in
    let blanks = c.split_at.result.0.now in
    let rest = c.split_at.result.1.now in
    let passed = c.pass_blanks.new.self in
    let parts = first-blanks part blanks rest c.blank_count.result c.blank_count.ensures.within c.blank_count.ensures.rest c.split_at.ensures.front c.split_at.ensures.back c.requires.line in
    let begun : Printing = record passed { begun = true } in
    let over : PassesOver old blanks begun = record { settings = c.in_default.ensures.passes.settings; path = c.in_default.ensures.passes.path; window = c.in_default.ensures.passes.window } in
    let first = passes-blanks old begun blanks held c.requires.lines c.requires.fresh parts.1 parts.3 over c.in_default.ensures.reader in
    let now = contents c.print_part.new.output in
    if-err c.print_part.result
    (λ failure fails. fails-second old begun blanks rest part failure held held now parts.0 over.settings first (fails-part-of begun rest failure held now (λ e. parts.2) fails))
    c.print_part.ensures.failed
