-- What each note says holds of the text.
use Rattle.std.proofs.Common.{◌≡◌, ℕ, Bool, true, false, not, ◌&&◌, ◌-◌, ◌<◌, List, [], ◌∷◌, Result, Ok, Err, refl, inl, arith}
use Rattle.std.specs.Prelude.{codes, nat_lt}
use Rattle.std.specs.List.{AllByRecursion, list_all}
use Rattle.std.specs.Str.{bytes_eq}
use Rattle.std.proofs.lemmas.Bool.{ltb-true}
use Rattle.t1_frac.specs.Numbers.{is_number_word}
use Rattle.t1_frac.specs.Outcome.{◌>>=◌}
use Rattle.t1_frac.specs.declared.fault.Fault.{Fault}
use Rattle.t1_text.specs.Lines.{lines}
use Rattle.t1_text.specs.Tokens.{tokens}
use Rattle.t1_parts.specs.Reading.{reads}
use Rattle.t1_afm.specs.Afm.{sides}
use Rattle.t1_afm.specs.declared.bbox.BBox.{BBox}
use Rattle.t1_font.specs.declared.glyph_metrics.GlyphMetrics.{GlyphMetrics}
use Rattle.t1_font.specs.MeasuredGlyphs.{MeasuredFont}
use Rattle.t1_font.specs.SourceChecks.{measured_source}
use Rattle.t1_notes.specs.declared.line.Line.{Line}
use Rattle.t1_notes.specs.declared.note.Note.{Note}
use Rattle.t1_notes.specs.declared.note.NoteKind.{NoteKind}
use Rattle.t1_notes.specs.declared.note.NoteKind.TheVariants.{ByteOrderMark, FirstLine, EncodedName, Count, PlainEntry, NoNotdef, NoEntry, AfterEnd, ValuesLeft, WideCoordinate, NegativeWidth, OpenPath, NoSuchGlyph, UnusedSubr, FontBox, WideGlyph}
use Rattle.t1_notes.specs.declared.sections.Section.TheVariants.{Glyphs}
use Rattle.t1_notes.specs.GlyphNames.{opened_name}
use Rattle.t1_notes.specs.Heads.{heads}
use Rattle.t1_notes.specs.LineSections.{is_line_of_section}
use Rattle.t1_notes.specs.NoteFacts.{SaysOfLines, StandsOnLine, front_lines, subr_heads}
use Rattle.t1_notes.specs.Notes.{notes_of, subr_need}
use Rattle.t1_notes.specs.NumberedLines.{lines_past, note_on, numbered}
use Rattle.t1_notes.specs.Told.{told}
use Rattle.t1_notes.proofs.NoteFactLaws.{all_append, all_hold, all_merged, all_noted, all_told, by_kind, noted_kind, noted_stand, stands_later, where_holds}
use Rattle.t1_measured_notes.specs.MeasuredNotes.{all_notes, box_notes, follows_unused, font_notes, is_entered, is_name_that, is_other_box, is_unused, is_wide, measured_notes, no_box, same_words, sound_notes, tells_other_box, unused_among, unused_note, unused_notes, wide_notes}
use Rattle.t1_measured_notes.specs.NoteFacts.{HoldsOf, NamesOtherBox, NamesUnused, OfMeasured, OpensUnused, SaysOfText, TellsOther}

all_of : (P Q : Note → Type 0) → ((n : Note) → P n → Q n) → (ns : List Note) → AllByRecursion P ns → AllByRecursion Q ns
all_of P Q f [] h = tt
all_of P Q f (n ∷ ns) h = (f n h.0, all_of P Q f ns h.1)

-- notes that are told of a line stand on it
told_stand : (Q : List ℕ → Type 0) (tell : List Line → Line → List Note) → ((before : List Line) (l : Line) → AllByRecursion (λ (n : Note). (n.line ≡ l.number) × Q l.text) (tell before l)) → (before ls : List Line)
    → AllByRecursion (StandsOnLine Q ls) (told tell before ls)
told_stand Q tell says before [] = tt
told_stand Q tell says before (l ∷ ls) =
    all_append (StandsOnLine Q (l ∷ ls)) (tell before l) (told tell (l ∷ before) ls)
    (all_of (λ (n : Note). (n.line ≡ l.number) × Q l.text) (StandsOnLine Q (l ∷ ls)) (λ n h. inl h) (tell before l) (says before l))
    (stands_later Q l ls (told tell (l ∷ before) ls) (told_stand Q tell says (l ∷ before) ls))

and_first : (a b : Bool) → (a && b) ≡ true → a ≡ true
and_first true b h = refl
and_first false b h = absurd (cc)

and_second : (a b : Bool) → (a && b) ≡ true → b ≡ true
and_second true b h = h
and_second false b h = absurd (cc)

not_so : (b : Bool) → not b ≡ true → b ≡ false
not_so true h = absurd (cc)
not_so false h = refl

-- ---- unused Subrs

unused_says : (glyphs : List GlyphMetrics) (l : List ℕ) → is_unused (is_entered glyphs) l ≡ true → OpensUnused glyphs l
unused_says glyphs l h =
    let past = nat_lt 5 (subr_need l) in
    let other = not (is_entered glyphs (subr_need l - 1)) in
    let more : 5 < subr_need l = ltb-true 5 (subr_need l) (and_first past other h) in
    (subr_need l - 1, omega (arith, more), omega (arith, more), not_so (is_entered glyphs (subr_need l - 1)) (and_second past other h))

unused_stand : (glyphs : List GlyphMetrics) (ls : List Line) → AllByRecursion (StandsOnLine (OpensUnused glyphs) ls) (unused_among (is_entered glyphs) ls)
unused_stand glyphs ls =
    let entered = is_entered glyphs in
    told_stand (OpensUnused glyphs) (λ before l. unused_note entered (follows_unused entered before) l) (λ before l.
    where_holds (λ (n : Note). (n.line ≡ l.number) × OpensUnused glyphs l.text) (is_unused entered l.text && not (follows_unused entered before)) (note_on UnusedSubr l)
    (λ h. (refl, unused_says glyphs l.text (and_first (is_unused entered l.text) (not (follows_unused entered before)) h)))) [] ls

unused_kind : (entered : ℕ → Bool) (ls : List Line) → AllByRecursion (λ (n : Note). n.kind ≡ UnusedSubr) (unused_among entered ls)
unused_kind entered ls =
    all_told (λ (n : Note). n.kind ≡ UnusedSubr) (λ before l. unused_note entered (follows_unused entered before) l) (λ before l.
    where_holds (λ (n : Note). n.kind ≡ UnusedSubr) (is_unused entered l.text && not (follows_unused entered before)) (note_on UnusedSubr l) (λ h. refl)) [] ls

-- ---- the box

box_says : (box : BBox) (ts : List (List ℕ)) → tells_other_box box ts ≡ true → TellsOther box ts
box_says box [] h = absurd (cc)
box_says box (key ∷ []) h = absurd (cc)
box_says box (key ∷ bracket ∷ []) h = absurd (cc)
box_says box (key ∷ bracket ∷ a ∷ []) h = absurd (cc)
box_says box (key ∷ bracket ∷ a ∷ b ∷ []) h = absurd (cc)
box_says box (key ∷ bracket ∷ a ∷ b ∷ c ∷ []) h = absurd (cc)
box_says box (key ∷ bracket ∷ a ∷ b ∷ c ∷ d ∷ more) h =
    let ws = a ∷ b ∷ c ∷ d ∷ [] in
    let front = list_all is_number_word ws && not (same_words ws no_box) in
    let other = and_second (bytes_eq key (codes "/FontBBox")) (is_other_box box ws) h in
    let both = and_first front (not (same_words ws (sides box))) other in (
      and_first (bytes_eq key (codes "/FontBBox")) (is_other_box box ws) h,
      and_first (list_all is_number_word ws) (not (same_words ws no_box)) both,
      not_so (same_words ws (sides box)) (and_second front (not (same_words ws (sides box))) other),
    )

-- ---- a text

of_kind : (text : List ℕ) (kind : NoteKind) (ns : List Note) → AllByRecursion (λ (n : Note). n.kind ≡ kind) ns → AllByRecursion (SaysOfText text kind) ns → AllByRecursion (HoldsOf text) ns
of_kind text kind ns h k = by_kind (SaysOfText text) kind ns h k

sound_hold : (text : List ℕ) (r : Result MeasuredFont Fault) → (reads text >>= λ source. measured_source source) ≡ r → AllByRecursion (HoldsOf text) (sound_notes (numbered 1 (lines text)) r)
sound_hold text (Err fault) e = tt
sound_hold text (Ok font) e =
    let ls = numbered 1 (lines text) in
    let entered = is_entered font.metrics in
    let boxes = box_notes font.font_box (front_lines ls) in
    let unused = unused_notes entered (front_lines ls) in
    let tells = λ (l : List ℕ). tells_other_box font.font_box (tokens l) in
    let wide = λ (l : List ℕ). is_name_that (is_wide font.metrics) (opened_name l) in
    all_append (HoldsOf text) (font_notes font.font_box entered (front_lines ls)) (wide_notes (is_wide font.metrics) ls)
    (all_merged (HoldsOf text) boxes unused
    (of_kind text FontBox boxes (noted_kind FontBox tells (front_lines ls))
    (all_of (NamesOtherBox ls font) (OfMeasured NamesOtherBox text) (λ n h. (font, e, h)) boxes
    (noted_stand (λ l. TellsOther font.font_box (tokens l)) FontBox tells (λ l h. box_says font.font_box (tokens l) h) (front_lines ls))))
    (of_kind text UnusedSubr unused (unused_kind entered (subr_heads ls))
    (all_of (NamesUnused ls font) (OfMeasured NamesUnused text) (λ n h. (font, e, h)) unused (unused_stand font.metrics (subr_heads ls)))))
    (all_noted (HoldsOf text) WideGlyph wide (heads Glyphs (lines_past (is_line_of_section Glyphs) ls)) (λ l. tt))

measured_hold : (text : List ℕ) → AllByRecursion (HoldsOf text) (measured_notes text)
unfolding measured_notes
measured_hold text = sound_hold text (reads text >>= λ source. measured_source source) refl

-- what notes on lines say is said of the text
of_text : (text : List ℕ) (kind : NoteKind) (n : Note) → SaysOfLines (numbered 1 (lines text)) kind n → SaysOfText text kind n
of_text text ByteOrderMark n h = h
of_text text FirstLine n h = h
of_text text EncodedName n h = h
of_text text Count n h = h
of_text text PlainEntry n h = h
of_text text NoNotdef n h = h
of_text text NoEntry n h = h
of_text text AfterEnd n h = h
of_text text ValuesLeft n h = h
of_text text WideCoordinate n h = h
of_text text NegativeWidth n h = h
of_text text OpenPath n h = h
of_text text NoSuchGlyph n h = h
of_text text UnusedSubr n h = absurd h
of_text text FontBox n h = absurd h
of_text text WideGlyph n h = absurd h

pub all_notes_hold : (text : List ℕ) → AllByRecursion (HoldsOf text) (all_notes text)
unfolding all_notes
all_notes_hold text =
    all_merged (HoldsOf text) (notes_of text) (measured_notes text)
    (all_of (λ n. SaysOfLines (numbered 1 (lines text)) n.kind n) (HoldsOf text) (λ n h. of_text text n.kind n h) (notes_of text) (all_hold text))
    (measured_hold text)
