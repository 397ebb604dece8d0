-- What is said of an answer, once the output is flushed, and of a printer that begins.
use Rattle.std.proofs.Common.{◌≡◌, ℕ, Bool, true, false, List, [], ◌++◌, refl, ap, sym, ◌∙◌, subst, inl, inr}
use Rattle.std.specs.Prelude.{Option, None, Some, Result, Ok, Err, OnOk, IfErr}
use Rattle.std.specs.Io.KnownBytes.{Appends, Keeps}
use Rattle.format_json_events.specs.Reading.{EventState, new_reader, HasGiven}
use Rattle.format_json_events.specs.Lengths.{IsShortTo}
use Rattle.format_json_events.proofs.lemmas.LengthLemmas.{short-start}
use Rattle.wb_json.specs.Failures.{IsOfText}
use Rattle.wb_json.specs.Windows.{IsWindow}
use Rattle.wb_json.specs.Texts.{IsBefore}
use Rattle.wb_json.specs.Printing.{Prints, PrintsMore, PrintsUntil, TellsInput, IsFlushed, written, reached}
use Rattle.wb_json.specs.declared.settings.Settings.{Settings}
use Rattle.wb_json.specs.declared.failure.Failure.{Failure}
use Rattle.wb_json.specs.declared.printing.Printing.{Printing}
use Rattle.wb_json.proofs.lemmas.InputLemmas.{prints-wrote}

-- what is written stays written
appends-keeps : (a b c : Option (List ℕ)) (bs : List ℕ) → Appends a b bs → Keeps b c
    → Appends a c bs
appends-keeps None b c bs h k = tt
appends-keeps (Some xs) None c bs h k = absurd h
appends-keeps (Some xs) (Some ys) None bs h k = absurd k
appends-keeps (Some xs) (Some ys) (Some zs) bs h k = k ∙ h

-- what is printed stays printed
pub prints-kept : (old new : Printing) (part : List ℕ) (held middle now : Option (List ℕ))
    → Keeps middle now → PrintsMore old part new held middle → PrintsMore old part new held now
prints-kept old new part held middle now keeps more input had h =
    let p = more input had h in
    prints-wrote new (input ++ part) had middle now p (appends-keeps had middle now (written new.settings (p.earlier ++ p.events)) p.wrote keeps)

pub until-kept : (s : Settings) (input : List ℕ) (failure : Failure)
    (had middle now : Option (List ℕ)) → Keeps middle now → PrintsUntil s input failure had middle → PrintsUntil s input failure had now
until-kept s input failure had middle now keeps until is =
    let p = until is in record {
      head = p.head;
      earlier = p.earlier;
      before = p.before;
      front = p.front;
      rest = p.rest;
      splits = p.splits;
      within = p.within;
      reader = p.reader;
      events = p.events;
      limit = p.limit;
      given = p.given;
      going = p.going;
      ends = p.ends;
      wrote = appends-keeps had middle now (written s (p.earlier ++ p.events)) p.wrote keeps;
      told = p.told;
    }

-- what is told of an input is told of it once the output is flushed
pub tells-flushed : (s : Settings) (input : List ℕ) (had middle now : Option (List ℕ))
    (answer result : Result (Unit {0}) Failure) → Keeps middle now → IsFlushed answer result
    → TellsInput s input had middle answer → TellsInput s input had now result
tells-flushed s input had middle now answer (Ok done) keeps is told =
    let all = subst (λ r. TellsInput s input had middle r) is told in
    (all.0, (all.1.0, appends-keeps had middle now (written s all.0) all.1.1 keeps))
tells-flushed s input had middle now answer (Err failure) keeps (inl is) told =
    until-kept s input failure had middle now keeps (subst (λ r. TellsInput s input had middle r) is told)
tells-flushed s input had middle now answer (Err failure) keeps (inr never) told =
    λ is. absurd (never is)

-- what is said of the value of an answer is said of it then
pub flushed-ok : (P : Type 0) (answer result : Result (Unit {0}) Failure) → IsFlushed answer result
    → OnOk answer P → OnOk result P
flushed-ok P answer (Ok done) is h = subst (λ r. OnOk r P) is h
flushed-ok P answer (Err failure) is h = tt

-- and so is what is said of its failure, if it holds of each that is none of the text
pub flushed-err : {P : Failure → Type 0} (answer result : Result (Unit {0}) Failure)
    → IsFlushed answer result → ((failure : Failure) → ¬ (IsOfText failure) → P failure)
    → IfErr answer P → IfErr result P
flushed-err answer (Ok done) is never h = tt
flushed-err {P} answer (Err failure) (inl is) never h = subst (λ r. IfErr r P) is h
flushed-err answer (Err failure) (inr none) never h = never failure none

-- ---- The start

-- before an input stands nothing
before-start : (by_lines : Bool) (s : Settings) → IsBefore by_lines s [] []
before-start false s = (refl, refl)
before-start true s = ([], ([], (refl, tt, refl, refl, refl)))

-- a printer that begins
pub prints-start : (p : Printing) (held now : Option (List ℕ))
    → p.reader ≡ new_reader p.settings.depth → HasGiven p.reader [] []
    → p.path ≡ reached p.settings [] → IsWindow [] p.window → p.window.start ≡ 0
    → Appends held now (written p.settings []) → Prints p [] held now
prints-start p held now reader read path window start wrote = record {
  head = [];
  text = [];
  earlier = [];
  events = [];
  follows = record {
    given = read;
    going = ap (λ (r : EventState). r.stopped) reader;
    goes_on = ap (λ (r : EventState). r.tokens.ended) reader;
    limit = ap (λ (r : EventState). r.text.depth) reader;
    short = subst (λ (r : EventState). IsShortTo p.settings.limit r.tokens []) (sym reader) (short-start p.settings.limit);
    path = path;
    window = window;
    start = start;
  };
  splits = refl;
  before = before-start p.settings.by_lines p.settings;
  within = λ e. refl;
  fresh = λ e f. (refl, refl);
  wrote = wrote;
}
