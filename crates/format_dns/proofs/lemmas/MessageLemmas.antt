-- Messages, by their lists.
use Rattle.std.proofs.Common.{◌≡◌, ℕ, Bool, List, sym, subst, refl}
use Rattle.std.specs.declared.alloc.Global.{Global}
use Rattle.std.specs.Prelude.{Vec, Result, Ok, Err}
use Rattle.winnow_parser.specs.Outcome.{Ahead, Failed, Fails}
use Rattle.winnow_codec.specs.Formats.{Spelling, Reads}
use Rattle.winnow_codec.specs.FormatRows.{SpellsRow4}
use Rattle.winnow_codec.specs.Lists.{SpellsItems}
use Rattle.winnow_codec.specs.Writing.{Writes}
use Rattle.winnow_codec.specs.declared.unwritten.Unwritten.{Unwritten}
use Rattle.winnow_codec.specs.declared.unwritten.Unwritten.TheVariants.{Unspelled, Refused}
use Rattle.winnow_codec.proofs.lemmas.Reading.{fewer-unread}
use Rattle.format_dns.specs.Messages.{SpellsQuestion, SpellsRecord, header_of, sections_of, SpellsLists, SpellsSections}
use Rattle.format_dns.specs.declared.entries.Question.{Question}
use Rattle.format_dns.specs.declared.entries.Record.{Record}
use Rattle.format_dns.specs.declared.message.Message.{Message}

-- lists of these numbers of questions and records
abbrev pub SpellsCounts : ℕ → ℕ → ℕ → ℕ
    → Spelling (Vec Question Global × Vec Record Global × Vec Record Global × Vec Record Global)
SpellsCounts q a n m = SpellsRow4 (SpellsItems SpellsQuestion q) (SpellsItems SpellsRecord a) (SpellsItems SpellsRecord n) (SpellsItems SpellsRecord m)

-- where the lists that a header says are not read, no message is
pub lists-unread : (h : (ℕ × ℕ) × (ℕ × ℕ) × (ℕ × ℕ)) (q a n m : ℕ) → q ≡ h.1.0 → a ≡ h.1.1
    → n ≡ h.2.0 → m ≡ h.2.1 → (partial : Bool) (at : Ahead ℕ) (f : Failed ℕ)
    → Reads (SpellsCounts q a n m) partial at (Fails f) → Reads (SpellsSections h) partial at (Fails f)
lists-unread h q a n m i j k l partial at f unread =
    fewer-unread (SpellsCounts q a n m) (SpellsSections h) sections_of
    (λ s bytes e. subst (λ x. SpellsCounts x a n m (sections_of s) bytes) (sym i)
    (subst (λ x. SpellsCounts h.1.0 x n m (sections_of s) bytes) (sym j)
    (subst (λ x. SpellsCounts h.1.0 h.1.1 x m (sections_of s) bytes) (sym k)
    (subst (λ x. SpellsCounts h.1.0 h.1.1 h.2.0 x (sections_of s) bytes) (sym l) e.1)))) partial at f unread

-- where the lists are written, what follows the header is
written-lists : (s : Message) (old new : List ℕ) (result : Result (Unit {0}) Unwritten)
    → Writes (SpellsLists (header_of s)) (sections_of s) old result new
    → Writes (SpellsSections (header_of s)) s old result new
written-lists s old new (Ok done) (bytes, (h, e)) = (bytes, ((refl, h), e))
written-lists s old new (Err Unspelled) h = (λ bytes k. h.0 bytes k.1, h.1)
written-lists s old new (Err (Refused r)) h = h

pub lists-written : (s : Message) (q a n m : ℕ) → q ≡ (header_of s).1.0 → a ≡ (header_of s).1.1
    → n ≡ (header_of s).2.0 → m ≡ (header_of s).2.1 → (old new : List ℕ)
    (result : Result (Unit {0}) Unwritten)
    → Writes (SpellsCounts q a n m) (sections_of s) old result new
    → Writes (SpellsSections (header_of s)) s old result new
lists-written s q a n m i j k l old new result h =
    written-lists s old new result
    (subst (λ x. Writes (SpellsCounts (header_of s).1.0 (header_of s).1.1 (header_of s).2.0 x) (sections_of s) old result new) l
    (subst (λ x. Writes (SpellsCounts (header_of s).1.0 (header_of s).1.1 x m) (sections_of s) old result new) k
    (subst (λ x. Writes (SpellsCounts (header_of s).1.0 x n m) (sections_of s) old result new) j
    (subst (λ x. Writes (SpellsCounts x a n m) (sections_of s) old result new) i h))))
