-- What the source of a session gives.
use Rattle.std.proofs.Common.{◌≡◌, ℕ, true, List, map, Option, None, Result, Ok, Err, refl, ap, sym, ◌∙◌, inl, inr}
use Rattle.std.specs.Prelude.{IfOk, option_map}
use Rattle.std.proofs.lemmas.Bool.{cases_Bool}
use Rattle.t1_frac.specs.declared.fault.Fault.{Fault}
use Rattle.t1_frac.specs.declared.fault.Refusal.{Refusal}
use Rattle.t1_frac.specs.declared.fault.Refusal.TheVariants as refusals
use Rattle.t1_frac.specs.declared.fault.Code.TheVariants.{F23}
use Rattle.t1_frac.specs.declared.fault.Place.TheVariants.{Nowhere}
use Rattle.t1_frac.specs.Outcome.{fault_at, Refuses, ◌>>=◌}
use Rattle.t1_frac.proofs.OutcomeLaws.{bind_ok}
use Rattle.t1_parts.specs.SourceParts.{SourceParts}
use Rattle.t1_text.specs.Lines.{joined}
use Rattle.t1_parts.specs.LenIV.{lead}
use Rattle.t1_parts.specs.Operator.{operator}
use Rattle.t1_parts.specs.Printing.{text}
use Rattle.t1_parts.specs.Reading.{reads}
use Rattle.t1_pairs.specs.declared.pairs.Pair.{Pair}
use Rattle.t1_pairs.specs.Kerning.{pairs, kern}
use Rattle.t1_code.specs.declared.parts.OutError.{OutError}
use Rattle.t1_code.specs.declared.parts.OutError.TheVariants as out
use Rattle.t1_code.specs.Counted.{Tally}
use Rattle.t1_code.specs.Parts.{Prints}
use Rattle.t1_code.specs.Pfa.{pfa, pfa_of}
use Rattle.t1_code.specs.Pfb.{has_long_part, pfb, pfb_of, whole_file}
use Rattle.t1_afm.specs.Afm.{afm}
use Rattle.t1_font.specs.Assembly.{counts_check, file_check, file_in, length_check, private_text, source_file, source_pfa, trailer_text}
use Rattle.t1_font.specs.FontMetrics.{metrics_of}
use Rattle.t1_font.specs.MeasuredGlyphs.{MeasuredFont}
use Rattle.t1_font.specs.SourceChecks.{measured_source, source_check}
use Rattle.t1_font.specs.Usage.{usage_table}
use Rattle.t1_outline.specs.Shown.{source_outline}
use Rattle.t1_held.specs.declared.held.Held.{Held}
use Rattle.t1_held.specs.Held.{IsHeld}
use Rattle.t1_held.proofs.HeldLaws.{file_checked, right_checked}
use Rattle.t1_commands.specs.declared.answer.Answer.TheVariants.{Data}
use Rattle.t1_commands.specs.declared.print.Print.TheVariants as prints
use Rattle.std.specs.declared.alloc.Global.{Global}
use Rattle.std.specs.declared.vec.Vec.{Vec}
use Rattle.t1_commands.specs.AnswerTexts.{answer_text}
use Rattle.t1_commands.specs.AnswerParts.{data_of}
use Rattle.t1_session.specs.Files.{assembled, assembled_pfa}
use Rattle.t1_session.specs.FromScratch.{asked, blocks_from_scratch, pfa_from_scratch, texts_of, from_scratch, pfb_from_scratch, metrics_from_scratch, metrics_line_from_scratch, outline_from_scratch, uses_from_scratch}
use Rattle.t1_session.specs.Machine.{without_batch, file_answer, judged, printed}
use Rattle.t1_session.specs.Outcomes.{AnswersNoFault, Finds, refused_source}
use Rattle.t1_session.specs.Unnoted.{Took}
use Rattle.t1_session.specs.Queries.{metrics_line}
use Rattle.t1_held.specs.Batch.{Draft}
use Rattle.t1_cache.specs.declared.records.GlyphRecord.{GlyphRecord}
use Rattle.t1_cache.specs.Kept.{KeepsAll}
use Rattle.t1_cache.specs.Renewed.{record_of}
use Rattle.t1_cache.specs.Recorded.{kept_of}
use Rattle.t1_session.specs.RecordedLines.{recorded_line}
use Rattle.t1_session.specs.State.{SessionState}
use Rattle.t1_session.proofs.MetricsLineLaws.{line_recorded}

-- ---- by the metrics of its glyphs

pub check_passed : (s : SourceParts) (font : MeasuredFont) → measured_source s ≡ Ok font → source_check s ≡ Ok tt
check_passed s font e = ap (λ (r : Result MeasuredFont Fault). r >>= λ metrics. Ok (tt {0})) e

pub check_refused : (s : SourceParts) (fault : Fault) → measured_source s ≡ Err fault → source_check s ≡ Err fault
check_refused s fault e = ap (λ (r : Result MeasuredFont Fault). r >>= λ metrics. Ok (tt {0})) e

-- ---- a source judged

-- without a batch a state is alone
pub stays_alone : (s : SessionState) → s.batch ≡ None → s ≡ without_batch s
stays_alone s none = ap (λ (b : Option Draft). record s { batch = b }) none

-- ---- its file

length-checked : (s : SourceParts) (u : Unit {0}) → file_check s ≡ Ok u → (v : Unit {0}) × (length_check s ≡ Ok v)
unfolding file_check
length-checked s u e = let step = bind_ok (length_check s) (λ checked. counts_check s.items) u e in (step.0, step.1)

file-made : (s : SourceParts) (u : Unit {0}) → length_check s ≡ Ok u → (file : List ℕ) × (source_file whole_file s ≡ Ok file)
unfolding length_check
file-made s u e = let step = bind_ok (source_file whole_file s) (λ file. Ok tt) u e in (step.0, step.1)

pub has_file : (s : SourceParts) (font : MeasuredFont) → measured_source s ≡ Ok font → (file : List ℕ) × (source_file whole_file s ≡ Ok file)
has_file s font e =
    let long = length-checked s (tt {0}) (file_checked s (check_passed s font e)) in
    file-made s long.0 long.1

-- its files in other forms: no form has a fault of its own
pub checked-metrics : (s : SourceParts) → source_check s ≡ Ok tt → (font : MeasuredFont) × (measured_source s ≡ Ok font)
checked-metrics s e = let step = bind_ok (measured_source s) (λ metrics. Ok (tt {0})) tt e in (step.0, step.1)

blocks-of : (size : ℕ) (clear private trailer file : List ℕ) → pfb_of whole_file clear private trailer ≡ Ok file → (made : List ℕ) × (pfb_of size clear private trailer ≡ Ok made)
blocks-of size clear private trailer file e =
    elim (cases_Bool (has_long_part clear private trailer)) [
      | inl long ↦ let none : ◌≡◌ {A = Result (List ℕ) Fault} (Err (fault_at Nowhere F23)) (Ok file) = rw long at e in absurd (cc)
      | inr short ↦ (pfb size clear private trailer, rw short refl)
    ]

pfa-of : (clear private trailer file : List ℕ) → pfb_of whole_file clear private trailer ≡ Ok file → (made : List ℕ) × (pfa_of clear private trailer ≡ Ok made)
pfa-of clear private trailer file e =
    elim (cases_Bool (has_long_part clear private trailer)) [
      | inl long ↦ let none : ◌≡◌ {A = Result (List ℕ) Fault} (Err (fault_at Nowhere F23)) (Ok file) = rw long at e in absurd (cc)
      | inr short ↦ (pfa clear private trailer, rw short refl)
    ]

private-made : (s : SourceParts) (file : List ℕ) → source_file whole_file s ≡ Ok file
    → (private : List ℕ) × (private_text (lead s) (operator s) s.items ≡ Ok private) × (pfb_of whole_file (joined s.clear) private (trailer_text s.tail) ≡ Ok file)
unfolding source_file
private-made s file e = bind_ok (private_text (lead s) (operator s) s.items) (λ private. pfb_of whole_file (joined s.clear) private (trailer_text s.tail)) file e

pub has_blocks : (s : SourceParts) (size : ℕ) → source_check s ≡ Ok tt → (made : List ℕ) × (source_file size s ≡ Ok made)
unfolding source_file
has_blocks s size e =
    let metrics = checked-metrics s e in
    let file = has_file s metrics.0 metrics.1 in
    let private = private-made s file.0 file.1 in
    let made = blocks-of size (joined s.clear) private.0 (trailer_text s.tail) file.0 private.2 in
    (made.0, ap (λ (r : Result (List ℕ) Fault). r >>= λ text. pfb_of size (joined s.clear) text (trailer_text s.tail)) private.1 ∙ made.1)

pub has_pfa : (s : SourceParts) → source_check s ≡ Ok tt → (made : List ℕ) × (source_pfa s ≡ Ok made)
unfolding source_pfa
has_pfa s e =
    let metrics = checked-metrics s e in
    let file = has_file s metrics.0 metrics.1 in
    let private = private-made s file.0 file.1 in
    let made = pfa-of (joined s.clear) private.0 (trailer_text s.tail) file.0 private.2 in
    (made.0, ap (λ (r : Result (List ℕ) Fault). r >>= λ text. pfa_of (joined s.clear) text (trailer_text s.tail)) private.1 ∙ made.1)

-- its files as data
data_blocks : (s : SourceParts) (size : ℕ) → source_check s ≡ Ok tt
    → file_in (λ clear private trailer. data_of (pfb_of size clear private trailer)) s ≡ Ok (answer_text (file_answer (source_file size s)))
unfolding source_file answer_text
data_blocks s size e =
    let metrics = checked-metrics s e in
    let file = has_file s metrics.0 metrics.1 in
    let private = private-made s file.0 file.1 in
    let made = blocks-of size (joined s.clear) private.0 (trailer_text s.tail) file.0 private.2 in
    let is = ap (λ (r : Result (List ℕ) Fault). r >>= λ text. pfb_of size (joined s.clear) text (trailer_text s.tail)) private.1 ∙ made.1 in
    ap (λ (r : Result (List ℕ) Fault). r >>= λ text. data_of (pfb_of size (joined s.clear) text (trailer_text s.tail))) private.1
    ∙ ap data_of made.1 ∙ ap (λ (r : Result (List ℕ) Fault). Ok (answer_text (file_answer r))) (sym is)

data_pfa : (s : SourceParts) → source_check s ≡ Ok tt
    → file_in (λ clear private trailer. data_of (pfa_of clear private trailer)) s ≡ Ok (answer_text (file_answer (source_pfa s)))
unfolding source_pfa answer_text
data_pfa s e =
    let metrics = checked-metrics s e in
    let file = has_file s metrics.0 metrics.1 in
    let private = private-made s file.0 file.1 in
    let made = pfa-of (joined s.clear) private.0 (trailer_text s.tail) file.0 private.2 in
    let is = ap (λ (r : Result (List ℕ) Fault). r >>= λ text. pfa_of (joined s.clear) text (trailer_text s.tail)) private.1 ∙ made.1 in
    ap (λ (r : Result (List ℕ) Fault). r >>= λ text. data_of (pfa_of (joined s.clear) text (trailer_text s.tail))) private.1
    ∙ ap data_of made.1 ∙ ap (λ (r : Result (List ℕ) Fault). Ok (answer_text (file_answer r))) (sym is)

-- ---- by right records

pub held_checked : (s : SourceParts) (h : Held) → IsHeld s h → source_check s ≡ Ok tt
held_checked s h is = right_checked s h.records is.right

-- a source that is refused
pub refused_takes : (refusal : Refusal) (old : SessionState) (made : SourceParts × List Pair) → Refuses refusal (source_check made.0) → old.batch ≡ None
    → Took {T = Unit {0}} old (judged old made (source_check made.0)) true old (Err (refused_source refusal)) old
refused_takes refusals.Memory old made h none = (refl, refl)
refused_takes (refusals.Fault fault) old made h none = rw h (refl, stays_alone old none)

-- the texts that prints show
pub afm_shown : {A E : Type 0} (given : Result (Vec ℕ A) E) (s : SessionState) (file : List ℕ) → IfOk given (λ found. found.items ≡ file) → metrics_from_scratch s ≡ Ok file
    → IfOk given (λ found. printed s prints.Afm ≡ Data found.items)
afm_shown (Ok found) s file is known = ap file_answer known ∙ ap (λ (l : List ℕ). Data l) (sym is)
afm_shown (Err e) s file is known = tt

pub uses_shown : {A E : Type 0} (given : Result (Vec ℕ A) E) (s : SessionState) (table : List ℕ) → IfOk given (λ found. found.items ≡ table) → uses_from_scratch s ≡ Ok table
    → IfOk given (λ found. printed s prints.Uses ≡ Data found.items)
uses_shown (Ok found) s table is known = ap file_answer known ∙ ap (λ (l : List ℕ). Data l) (sym is)
uses_shown (Err e) s table is known = tt

-- what an answer's value is said to be, it is by what else is known
pub still_ok : {T E : Type 0} {P Q : T → Type 0} (r : Result T E) → ((x : T) → P x → Q x) → IfOk r P → IfOk r Q
still_ok (Ok x) more is = more x is
still_ok (Err e) more is = tt

-- ---- its texts from scratch

module _ (s : SessionState) (font : MeasuredFont) (known : measured_source s.source ≡ Ok font)
    (source : reads (text s.source) ≡ Ok s.source) (kerning : pairs (kern s.pairs) ≡ Ok s.pairs) where
  all-texts : (file : List ℕ) → source_file whole_file s.source ≡ Ok file
      → from_scratch s ≡ Ok (record { pfb = file; metrics = metrics_of s.source s.pairs font; uses = usage_table font.metrics })
  unfolding texts_of
  all-texts file made = rw (source, kerning, known, made) refl

  pub pfb_scratch : pfb_from_scratch s ≡ source_file whole_file s.source
  pfb_scratch =
      let file = has_file s.source font known in
      ap (λ r. r >>= λ texts. Ok texts.pfb) (all-texts file.0 file.1) ∙ sym file.1

  pub metrics_scratch : metrics_from_scratch s ≡ Ok (afm (metrics_of s.source s.pairs font))
  metrics_scratch =
      let file = has_file s.source font known in
      ap (λ r. r >>= λ texts. Ok (afm texts.metrics)) (all-texts file.0 file.1)

  pub metrics_line_scratch : (name : List ℕ) → metrics_line_from_scratch name s ≡ Ok (metrics_line name (metrics_of s.source s.pairs font))
  metrics_line_scratch name =
      let file = has_file s.source font known in
      ap (λ r. r >>= λ texts. Ok (metrics_line name texts.metrics)) (all-texts file.0 file.1)

  pub uses_scratch : uses_from_scratch s ≡ Ok (usage_table font.metrics)
  uses_scratch =
      let file = has_file s.source font known in
      ap (λ r. r >>= λ texts. Ok texts.uses) (all-texts file.0 file.1)

pub pfb_checked : (s : SessionState) → source_check s.source ≡ Ok tt → reads (text s.source) ≡ Ok s.source → pairs (kern s.pairs) ≡ Ok s.pairs
    → pfb_from_scratch s ≡ file_in (pfb_of whole_file) s.source
unfolding source_file
pfb_checked s e source kerning = let font = checked-metrics s.source e in pfb_scratch s font.0 font.1 source kerning

-- what is asked of the printed source is asked of the session's
pub asked_scratch : {X : Type 0} (answer : SourceParts → X) (s : SessionState) → reads (text s.source) ≡ Ok s.source → asked answer s ≡ Ok (answer s.source)
asked_scratch answer s source = ap (λ r. r >>= λ parts. Ok (answer parts)) source

pub outline_scratch : (s : SessionState) (name : List ℕ) → reads (text s.source) ≡ Ok s.source → outline_from_scratch name s ≡ source_outline s.source name
outline_scratch s name source = ap (λ r. r >>= λ parts. source_outline parts name) source

-- a text that was found is the one from scratch
pub found_scratch : {E : Type 0} (r : Result (Option (Vec ℕ Global)) E) (given : Result (Option (List ℕ)) Fault) (found : Option (List ℕ))
    → IfOk r (λ texts. option_map (λ text. text.items) texts ≡ found) → given ≡ Ok found → Finds r given
found_scratch (Ok texts) given found is known = known ∙ ap (λ (o : Option (List ℕ)). Ok o) (sym is)
found_scratch (Err e) given found is known = tt

pub told_scratch : {A E : Type 0} (r : Result (Vec ℕ A) E) (given : Result (List ℕ) Fault) (told : List ℕ)
    → IfOk r (λ text. text.items ≡ told) → given ≡ Ok told → IfOk r (λ text. given ≡ Ok text.items)
told_scratch (Ok text) given told is known = known ∙ ap (λ (l : List ℕ). Ok l) (sym is)
told_scratch (Err e) given told is known = tt

-- the files that the assembler alone makes
pub blocks_scratch : (s : SessionState) (size : ℕ) → reads (text s.source) ≡ Ok s.source → blocks_from_scratch size s ≡ file_in (pfb_of size) s.source
unfolding assembled source_file
blocks_scratch s size source = ap (λ r. r >>= λ parts. source_file size parts) source

pub pfa_scratch : (s : SessionState) → reads (text s.source) ≡ Ok s.source → pfa_from_scratch s ≡ file_in pfa_of s.source
unfolding assembled_pfa source_pfa
pfa_scratch s source = ap (λ r. r >>= λ parts. source_pfa parts) source

-- the files as data
pub data_blocks_scratch : (s : SessionState) (size : ℕ) → source_check s.source ≡ Ok tt → reads (text s.source) ≡ Ok s.source
    → file_in (λ clear private trailer. data_of (pfb_of size clear private trailer)) s.source ≡ Ok (answer_text (file_answer (blocks_from_scratch size s)))
unfolding assembled
data_blocks_scratch s size checked source =
    data_blocks s.source size checked
    ∙ ap (λ (r : Result (List ℕ) Fault). Ok (answer_text (file_answer r))) (sym (ap (λ r. r >>= λ parts. source_file size parts) source))

pub data_pfa_scratch : (s : SessionState) → source_check s.source ≡ Ok tt → reads (text s.source) ≡ Ok s.source
    → file_in (λ clear private trailer. data_of (pfa_of clear private trailer)) s.source ≡ Ok (answer_text (file_answer (pfa_from_scratch s)))
unfolding assembled_pfa
data_pfa_scratch s checked source =
    data_pfa s.source checked
    ∙ ap (λ (r : Result (List ℕ) Fault). Ok (answer_text (file_answer r))) (sym (ap (λ r. r >>= λ parts. source_pfa parts) source))

-- in one segment a part, the file of the assembler is that of the texts
pub blocks_in_one : (s : SessionState) → source_check s.source ≡ Ok tt → reads (text s.source) ≡ Ok s.source → pairs (kern s.pairs) ≡ Ok s.pairs
    → blocks_from_scratch whole_file s ≡ pfb_from_scratch s
blocks_in_one s e source kerning = blocks_scratch s whole_file source ∙ sym (pfb_checked s e source kerning)

-- each text is there
module _ (s : SessionState) (checked : source_check s.source ≡ Ok tt) (source : reads (text s.source) ≡ Ok s.source) (kerning : pairs (kern s.pairs) ≡ Ok s.pairs) where
  pub pfb_there : (file : List ℕ) × (pfb_from_scratch s ≡ Ok file)
  pfb_there =
      let font = checked-metrics s.source checked in
      let file = has_file s.source font.0 font.1 in
      (file.0, pfb_scratch s font.0 font.1 source kerning ∙ file.1)

  pub metrics_there : (file : List ℕ) × (metrics_from_scratch s ≡ Ok file)
  metrics_there = let font = checked-metrics s.source checked in (afm (metrics_of s.source s.pairs font.0), metrics_scratch s font.0 font.1 source kerning)

  pub metrics_line_there : (name : List ℕ) → (line : Option (List ℕ)) × (metrics_line_from_scratch name s ≡ Ok line)
  metrics_line_there name =
      let font = checked-metrics s.source checked in
      (metrics_line name (metrics_of s.source s.pairs font.0), metrics_line_scratch s font.0 font.1 source kerning name)

  -- by right records
  pub metrics_line_recorded : (entries : List (Vec ℕ Global × GlyphRecord)) (name : List ℕ) → KeepsAll s.source (map kept_of entries)
      → metrics_line_from_scratch name s ≡ Ok (recorded_line s.source name (record_of entries name))
  metrics_line_recorded entries name kept =
      let font = checked-metrics s.source checked in
      metrics_line_scratch s font.0 font.1 source kerning name ∙ ap (λ (o : Option (List ℕ)). Ok o) (line_recorded s.source s.pairs font.0 entries name kept font.1)

  pub uses_there : (file : List ℕ) × (uses_from_scratch s ≡ Ok file)
  uses_there = let font = checked-metrics s.source checked in (usage_table font.0.metrics, uses_scratch s font.0 font.1 source kerning)

  pub blocks_there : (size : ℕ) → (file : List ℕ) × (blocks_from_scratch size s ≡ Ok file)
  unfolding assembled
  blocks_there size = let file = has_blocks s.source size checked in (file.0, ap (λ r. r >>= λ parts. source_file size parts) source ∙ file.1)

  pub pfa_there : (file : List ℕ) × (pfa_from_scratch s ≡ Ok file)
  unfolding assembled_pfa
  pfa_there = let file = has_pfa s.source checked in (file.0, ap (λ r. r >>= λ parts. source_pfa parts) source ∙ file.1)

-- ---- a print answers no fault

pub blocks_made : (s : SourceParts) (size : ℕ) → source_check s ≡ Ok tt → (made : List ℕ) × (file_in (pfb_of size) s ≡ Ok made)
unfolding source_file
blocks_made s size checked = has_blocks s size checked

pub pfa_made : (s : SourceParts) → source_check s ≡ Ok tt → (made : List ℕ) × (file_in pfa_of s ≡ Ok made)
unfolding source_pfa
pfa_made s checked = has_pfa s checked

pub no_fault : {W T : Type 0} (contents : W → Option (List ℕ)) (before after : Tally W) (text : Result (List ℕ) Fault) (whole : List ℕ) (r : Result T OutError)
    → text ≡ Ok whole → Prints contents before after text r → AnswersNoFault r
no_fault contents before after text whole (Ok done) e h = tt
no_fault contents before after text whole (Err out.Write) e h = tt
no_fault contents before after text whole (Err (out.Fault fault)) e h = absurd (let told = h.0 in cc)
no_fault contents before after text whole (Err out.Memory) e h = tt
