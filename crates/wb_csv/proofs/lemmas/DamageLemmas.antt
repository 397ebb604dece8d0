-- Where a record is damaged, or lacks something, in the whole input.
use Rattle.std.proofs.Common.{◌≡◌, ◌≢◌, ℕ, ◌+◌, ◌-◌, ◌≤◌, ◌<◌, ◌^◌, Bool, true, false, List, [], ◌∷◌, ◌++◌, length, take, drop, inl, inr, refl, ap, sym, ◌∙◌, subst, arith, append_assoc, length-append}
use Rattle.std.specs.Prelude.{Option, None, Some, IfSome}
use Rattle.std.proofs.Math.Seq.{drop-append_seam}
use Rattle.std.proofs.lemmas.List.{append-nil, take-append-drop, drop_all}
use Rattle.winnow_reader.specs.State.{ReaderState, fed_of}
use Rattle.winnow_reader.specs.Reading.{MayFollow}
use Rattle.format_lemmas.specs.Bytes.{Each}
use Rattle.format_csv.specs.Fields.{is_plain, doubled}
use Rattle.format_csv.specs.Language.{SpellsMore, SpellsRecord, RecordAhead}
use Rattle.format_csv.specs.Tables.{AreRecords, IsDamagedAt}
use Rattle.format_csv.specs.Reading.{FindsDamage}
use Rattle.format_csv.specs.RowReader.{HasRead}
use Rattle.format_csv.specs.declared.grammar.Row.{Row}
use Rattle.format_csv.proofs.lemmas.ReaderLemmas.{none-follows, append-some}
use Rattle.wb_base.specs.Excerpts.{IsExcerpt}
use Rattle.wb_base.specs.declared.excerpt.Excerpt.{Excerpt}
use Rattle.wb_base.specs.Exchanging.{exchanged}
use Rattle.wb_base.proofs.lemmas.ExchangeLemmas.{exchanged-append}
use Rattle.wb_csv.specs.Lines.{exchanged_by}
use Rattle.wb_csv.specs.Failures.{fault_at}
use Rattle.wb_csv.specs.declared.failure.Failure.TheVariants.{Long}
use Rattle.wb_csv.specs.Progress.{IsOther}
use Rattle.wb_csv.specs.Settings.{Refuses}
use Rattle.wb_csv.specs.Copying.{HasCounted, BreaksAt, IsUneven, IsLong, IsOver, IsFailureOf, IsDamageAfter, IsBegun, ReadsLines, StopsAfter}
use Rattle.wb_csv.specs.declared.settings.Settings.{Settings}
use Rattle.wb_csv.specs.declared.progress.Progress.{Progress}
use Rattle.wb_csv.specs.declared.failure.Failure.{Failure}
use Rattle.wb_csv.proofs.lemmas.FeedLemmas.{rows-lines, feeds-within, feeds-append, after-begun}

-- ---- Damage stands in something

-- a list of no length is empty
none-of : (xs : List ℕ) → length xs ≡ 0 → xs ≡ []
none-of [] h = refl
none-of (x ∷ xs) h = absurd (omega (arith, h))

-- the first byte, or 0
abbrev first : List ℕ → ℕ
first [] = 0
first (x ∷ xs) = x

-- a quote does not spell further fields
quote-more : (values : List (List ℕ)) (more : List ℕ) → 34 ∷ [] ≡ more → ¬ (SpellsMore values more)
quote-more [] more e h = omega (arith, ap length e, ap length h)
quote-more (value ∷ values) more e (text, (rest, (whole, spells, others))) =
    let f : 34 ≡ 44 = ap first (e ∙ whole) in omega (arith, f)

-- a quote is not plain
quote-plain : (t : ℕ) (ts value : List ℕ) → t ≡ 34 → t ∷ ts ≡ value → ¬ (Each is_plain value)
quote-plain t ts value e is plain =
    let each : Each is_plain (t ∷ ts) = subst (Each is_plain) (sym is) plain in
    let f : false ≡ true = subst (λ n. is_plain n ≡ true) e each.0 in cc

-- a quote alone spells no record
one-quote : (values : List (List ℕ)) → ¬ (SpellsRecord values (34 ∷ []))
one-quote [] h = h
one-quote (value ∷ values) (text, (more, (whole, inr is, others))) =
    omega (arith, ap length whole, length-append text more, ap length is, length-append (doubled value) (34 ∷ []))
one-quote (value ∷ values) ([], (more, (whole, inl plain, others))) = quote-more values more whole others
one-quote (value ∷ values) (t ∷ ts, (more, (whole, inl (plain, is), others))) =
    quote-plain t ts value (sym (ap first whole)) is plain

-- of nothing nothing is damaged
not-nothing : (bytes rest : List ℕ) → IsDamagedAt bytes rest → bytes ≢ []
not-nothing bytes rest (inl (values, (text, (whole, spells, comma, ends)))) e =
    ends [] (inr (inr (none-of rest (omega (arith, ap length whole, ap length e, length-append text rest)), refl, refl)))
not-nothing bytes rest (inr ((values, spells), none)) e =
    one-quote values (subst (λ b. SpellsRecord values (b ++ 34 ∷ [])) e spells)

-- where a reader finds damage, something is ahead
pub damage-some : (f : ReaderState Row) (place : ℕ) → FindsDamage f place → f.ahead ≢ []
damage-some f place finds e =
    not-nothing (f.ahead ++ []) (finds.0 ++ []) ((finds.1.1 [] (none-follows f.ended)).1) (ap (λ a. a ++ []) e)

-- ---- The place of damage

-- the rest of a damaged record is no longer than what it begins
damaged-within : (bytes rest : List ℕ) → IsDamagedAt bytes rest → length rest ≤ length bytes
damaged-within bytes rest (inl h) = omega (arith, ap length h.1.1.0, length-append h.1.0 rest)
damaged-within bytes rest (inr h) = omega (arith, ap length h.1)

-- the rest of a damaged record is what follows as many bytes
damaged-rest : (bytes rest : List ℕ) (n : ℕ) → IsDamagedAt bytes rest
    → n + length rest ≡ length bytes → drop n bytes ≡ rest
damaged-rest bytes rest n (inl (values, (text, (whole, spells, comma, ends)))) e =
    let m : n ≡ length text = omega (arith, ap length whole, length-append text rest) in
    ap (λ k. drop k bytes) m ∙ ap (λ b. drop (length text) b) whole ∙ drop-append_seam text rest
damaged-rest bytes rest n (inr (open_quote, none)) e =
    drop_all n bytes (omega (arith, ap length none)) ∙ sym none

-- a line feed ends a record, so none is damaged there
never-feed : (bytes : List ℕ) → ¬ (IsDamagedAt bytes (10 ∷ []))
never-feed bytes (inl (values, (text, (whole, spells, comma, ends)))) = ends [] (inr (inl refl))
never-feed bytes (inr (open_quote, none)) = let f = none in cc

-- what is wrong does not change with what follows
fault-stays : (delimiter : ℕ) (ended : Bool) (ahead rest follow : List ℕ)
    → ((more : List ℕ) → MayFollow ended more false → IsDamagedAt (ahead ++ more) (rest ++ more))
    → MayFollow ended follow false → fault_at delimiter rest ≡ fault_at delimiter (rest ++ follow)
fault-stays delimiter ended ahead (b ∷ bs) follow d may = refl
fault-stays delimiter true ahead [] follow d may = ap (fault_at delimiter) (sym may.0)
fault-stays delimiter false ahead [] follow d may = absurd (never-feed (ahead ++ 10 ∷ []) (d (10 ∷ []) tt))

-- the damage lies in what is ahead
pub damage-within : (f : ReaderState Row) (place : ℕ) → FindsDamage f place
    → (f.place ≤ place) × (place ≤ fed_of f)
damage-within f place (rest, (e, both)) =
    let w = damaged-within (f.ahead ++ []) (rest ++ []) ((both [] (none-follows f.ended)).1) in
    (omega (arith, e, w, length-append f.ahead [], length-append rest []), omega (arith, e))

-- and what remains there is what follows in what is ahead
damage-rest : (f : ReaderState Row) (place : ℕ) (finds : FindsDamage f place)
    → drop (place - f.place) f.ahead ≡ finds.0
damage-rest f place (rest, (e, both)) =
    let within = damage-within f place (rest, (e, both)) in
    let damaged : IsDamagedAt f.ahead rest = subst (λ a. IsDamagedAt a rest) (append-nil f.ahead) (subst (λ r. IsDamagedAt (f.ahead ++ []) r) (append-nil rest) ((both [] (none-follows f.ended)).1)) in
    damaged-rest f.ahead rest (place - f.place) damaged (omega (arith, e, within.0))

-- the line of a place stays so, whatever stands before it and after it
excerpt-within : (excerpt : Option Excerpt) (text before rest follow : List ℕ)
    → IfSome excerpt (IsExcerpt before rest)
    → IfSome excerpt (IsExcerpt (text ++ before) (rest ++ follow))
excerpt-within None text before rest follow h = tt
excerpt-within (Some x) text before rest follow h = record {
  start = text ++ h.start;
  more = h.more ++ follow;
  ahead = ap (λ b. text ++ b) h.ahead ∙ sym (append_assoc text h.start x.before.items);
  after = ap (λ r. r ++ follow) h.after ∙ append_assoc x.after.items h.more follow;
  line_ahead = h.line_ahead;
  line_after = h.line_after;
}

-- the line of exchanged bytes stays so, whatever stands before them and after them
exchanged-within : (one other : ℕ) (excerpt : Option Excerpt) (text before rest follow : List ℕ)
    → IfSome excerpt (IsExcerpt (exchanged one other before) (exchanged one other rest))
    → IfSome excerpt (IsExcerpt (exchanged one other (text ++ before)) (exchanged one other (rest ++ follow)))
exchanged-within one other excerpt text before rest follow h =
    subst (λ b. IfSome excerpt (IsExcerpt b (exchanged one other (rest ++ follow)))) (sym (exchanged-append one other text before))
    (subst (λ r. IfSome excerpt (IsExcerpt (exchanged one other text ++ exchanged one other before) r)) (sym (exchanged-append one other rest follow))
    (excerpt-within excerpt (exchanged one other text) (exchanged one other before) (exchanged one other rest) (exchanged one other follow) h))

module _ (s : Settings) where
  -- the line feeds before what is ahead can be counted with it
  pub begun-fits : (f : ReaderState Row) (p : Progress) → IsBegun s f p → f.ahead ≢ []
      → p.feeds + length f.ahead + 1 < 2 ^ 64
  begun-fits f p (input, (rows, h)) some =
      let all = h.read.reads [] (none-follows f.ended) in
      let lines = rows-lines (input ++ []) rows (f.ahead ++ []) all (append-some f.ahead [] some) in
      omega (arith, ap length lines.whole, length-append lines.text (f.ahead ++ []), length-append f.ahead [], length-append input [], feeds-within lines.text, lines.counted, h.feeds, h.read.fed, h.short)

  -- and so can the line after them, if something is ahead
  pub line-fits : (f : ReaderState Row) (p : Progress) (n : ℕ) → IsBegun s f p → n ≡ length f.ahead
      → s.limit < n → p.feeds + 1 < 2 ^ 64
  line-fits f p n begun e l =
      omega (arith, begun-fits f p begun (λ none. omega (arith, l, e, ap length none)))

  -- damage that was found is damage of the whole input
  counted-breaks : (f : ReaderState Row) (p : Progress) (input : List ℕ)
      (rows : List (List (List ℕ))) (place : ℕ) (failure : Failure) (follow : List ℕ)
      → HasCounted s f p input rows → FindsDamage f place
      → IsDamageAfter s p.feeds (take (place - f.place) f.ahead) (drop (place - f.place) f.ahead) failure
      → MayFollow f.ended follow false → IsFailureOf s (input ++ follow) rows failure
  counted-breaks f p input rows place failure follow h finds (position, (excerpt, (is, line, column, shows))) may =
      let some = damage-some f place finds in
      let n = place - f.place in
      let before = take n f.ahead in
      let rest = finds.0 in
      let reads = h.read.reads follow may in
      let lines = rows-lines (input ++ follow) rows (f.ahead ++ follow) reads (append-some f.ahead follow some) in
      let cut : f.ahead ≡ before ++ rest = sym (take-append-drop n f.ahead) ∙ ap (λ r. before ++ r) (damage-rest f place finds) in
      let breaks : BreaksAt s (input ++ follow) rows position (fault_at s.delimiter (drop n f.ahead)) excerpt = record {
        begun = f.ahead ++ follow;
        before = lines.text ++ before;
        rest = rest ++ follow;
        reads = reads;
        missed = (finds.1.1 follow may).0;
        damaged = (finds.1.1 follow may).1;
        whole =
            lines.whole ∙ ap (λ a. lines.text ++ (a ++ follow)) cut ∙ ap (λ a. lines.text ++ a) (append_assoc before rest follow) ∙ sym (append_assoc lines.text before (rest ++ follow));
        stands = (
          omega (arith, line, feeds-append lines.text before, lines.counted, h.feeds),
          column ∙ ap (λ m. 1 + m) (sym (after-begun lines.text before lines.begins)),
        );
        names =
            ap (fault_at s.delimiter) (damage-rest f place finds) ∙ fault-stays s.delimiter f.ended f.ahead rest follow (λ more m. (finds.1.1 more m).1) may;
        shows =
            exchanged-within 44 s.delimiter excerpt lines.text before rest follow (subst (λ r. IfSome excerpt (IsExcerpt (exchanged_by s before) (exchanged_by s r))) (damage-rest f place finds) shows);
      } in
      subst (λ x. IsFailureOf s (input ++ follow) rows x) (sym is) breaks

  -- where damage is found after what was read, the failure says so
  pub stops-damaged : (f g : ReaderState Row) (p q : Progress) (text : List ℕ)
      (place : ℕ) (failure : Failure)
      → ReadsLines s f p g q text → g.ended ≡ f.ended → FindsDamage g place
      → IsDamageAfter s q.feeds (take (place - g.place) g.ahead) (drop (place - g.place) g.ahead) failure
      → StopsAfter s f p failure text
  stops-damaged f g p q text place failure reads e finds is told input rows h =
      let w = reads input rows h in (
        w.0,
        (
          w.1.1,
          λ follow may. counted-breaks g q input (rows ++ w.0) place failure follow w.1.0 finds is (subst (λ b. MayFollow b follow false) (sym e) may),
        ),
      )

  -- a record that is too long is so in the whole input
  counted-long : (f : ReaderState Row) (p : Progress) (input : List ℕ) (rows : List (List (List ℕ)))
      (failure : Failure) (follow : List ℕ) → HasCounted s f p input rows
      → IsOver s.limit (f.ahead ++ follow) → failure ≡ Long (p.feeds + 1) s.limit
      → MayFollow f.ended follow false → IsFailureOf s (input ++ follow) rows failure
  counted-long f p input rows failure follow h over is may =
      let reads = h.read.reads follow may in
      let some : f.ahead ++ follow ≢ [] = λ e. omega (arith, over.0, ap length e) in
      let lines = rows-lines (input ++ follow) rows (f.ahead ++ follow) reads some in
      let long : IsLong s (input ++ follow) rows (p.feeds + 1) s.limit = record {
        before = lines.text;
        begun = f.ahead ++ follow;
        reads = reads;
        whole = lines.whole;
        stands = (omega (arith, lines.counted, h.feeds), omega (arith, lines.begins));
        allowed = refl;
        over = over;
      } in
      subst (λ x. IsFailureOf s (input ++ follow) rows x) (sym is) long

  -- where a record that is too long comes after what was read, the failure says so
  pub stops-long : (f g : ReaderState Row) (p q : Progress) (text : List ℕ) (failure : Failure)
      → ReadsLines s f p g q text → g.ended ≡ f.ended
      → ((follow : List ℕ) → MayFollow g.ended follow false → IsOver s.limit (g.ahead ++ follow))
      → failure ≡ Long (q.feeds + 1) s.limit → StopsAfter s f p failure text
  stops-long f g p q text failure reads e over is told input rows h =
      let w = reads input rows h in (
        w.0,
        (
          w.1.1,
          λ follow may.
              let goes = subst (λ b. MayFollow b follow false) (sym e) may in
              counted-long g q input (rows ++ w.0) failure follow w.1.0 (over follow goes) is goes,
        ),
      )

  -- records with one more are those, and the one after them
  last-record : (bytes : List ℕ) (rows : List (List (List ℕ))) (row : List (List ℕ)) (rest : List ℕ)
      → AreRecords bytes (rows ++ row ∷ []) rest
      → (begun : List ℕ) × (AreRecords bytes rows begun × RecordAhead false begun row rest)
  last-record bytes [] row rest (more, (stands, e)) =
      (bytes, (refl, subst (λ m. RecordAhead false bytes row m) e stands))
  last-record bytes (r ∷ rows) row rest (more, (stands, others)) =
      let far = last-record more rows row rest others in (far.0, ((more, (stands, far.1.0)), far.1.1))

  -- a record with another number of fields is one of the whole input
  counted-uneven : (f k : ReaderState Row) (p : Progress) (input : List ℕ)
      (rows : List (List (List ℕ))) (row : List (List ℕ)) (failure : Failure) (follow : List ℕ)
      → HasCounted s f p input rows → HasRead k input (rows ++ row ∷ [])
      → IsOther s p row failure → MayFollow k.ended follow false
      → IsFailureOf s (input ++ follow) rows failure
  counted-uneven f k p input rows row failure follow h read (wanted, (refuses, is)) may =
      let last = last-record (input ++ follow) rows row (k.ahead ++ follow) (read.reads follow may) in
      let lines = rows-lines (input ++ follow) rows last.0 last.1.0 (last.1.1.0) in
      let uneven : IsUneven s (input ++ follow) rows (p.feeds + 1) (length row) wanted = record {
        before = lines.text;
        begun = last.0;
        row = row;
        rest = k.ahead ++ follow;
        reads = last.1.0;
        ahead = last.1.1;
        whole = lines.whole;
        stands = (omega (arith, lines.counted, h.feeds), omega (arith, lines.begins));
        has = refl;
        refuses = subst (λ w. Refuses s w row wanted) h.width refuses;
      } in
      subst (λ x. IsFailureOf s (input ++ follow) rows x) (sym is) uneven

  -- where a record with another number of fields comes after what was read, the failure says so
  pub stops-uneven : (f g k : ReaderState Row) (p q : Progress) (text : List ℕ)
      (row : List (List ℕ)) (failure : Failure)
      → ReadsLines s f p g q text → k.ended ≡ f.ended
      → ((input : List ℕ) (rows : List (List (List ℕ))) → HasRead g input rows
      → HasRead k input (rows ++ row ∷ []))
      → IsOther s q row failure → StopsAfter s f p failure text
  stops-uneven f g k p q text row failure was e reads is told input rows h =
      let w = was input rows h in (
        w.0,
        (
          w.1.1,
          λ follow may. counted-uneven g k q input (rows ++ w.0) row failure follow w.1.0 (reads input (rows ++ w.0) w.1.0.read) is (subst (λ b. MayFollow b follow false) (sym e) may),
        ),
      )
