-- What was found one after another is every fault of a source.
use Rattle.std.proofs.Common.{◌≡◌, ◌∙◌, ℕ, List, [], ◌++◌, Option, ap}
use Rattle.std.specs.Prelude.{flat_map}
use Rattle.std.proofs.lemmas.List.{append_assoc}
use Rattle.t1_parts.specs.SourceParts.{SourceParts}
use Rattle.t1_font.specs.Assembly.{file_check}
use Rattle.t1_font.specs.Bodies.{bodies_check}
use Rattle.t1_faults.specs.declared.found.FoundFault.{FoundFault}
use Rattle.t1_faults.specs.declared.run_fault.RunFault.{RunFault}
use Rattle.t1_faults.specs.Entries.{Entry}
use Rattle.t1_faults.specs.Composites.{OwnRuns}
use Rattle.t1_faults.specs.Judging.{entry_faults, faults_by, file_faults, join_faults}
use Rattle.t1_faults.specs.Met.{faults_at, own_fault}
use Rattle.t1_chain.specs.GlyphFailures.{GlyphFailure}

pub found_by : (run : OwnRuns) (failed : List GlyphFailure) (in_glyph : List ℕ → Option RunFault) (in_subr : ℕ → ℕ → List RunFault) (s : SourceParts) (es : List Entry) (none first second third : List FoundFault)
    → ((g : List ℕ) → in_glyph g ≡ own_fault failed g) → ((n k : ℕ) → in_subr n k ≡ faults_at failed n k) → none ≡ []
    → first ≡ none ++ flat_map (entry_faults in_glyph in_subr) es → second ≡ first ++ file_faults (bodies_check s.items) (file_check s) → third ≡ second ++ flat_map (join_faults run) es
    → third ≡ faults_by failed run s es
found_by run failed in_glyph in_subr s es none first second third glyphs subrs empty a b c =
    let file = file_faults (bodies_check s.items) (file_check s) in
    let glyphs_same : in_glyph ≡ own_fault failed = λ j. λ g. glyphs g j in
    let subrs_same : in_subr ≡ faults_at failed = λ j. λ n k. subrs n k j in
    c ∙ ap (λ x. x ++ flat_map (join_faults run) es) (b ∙ ap (λ x. x ++ file) (a ∙ ap (λ x. x ++ flat_map (entry_faults in_glyph in_subr) es) empty
    ∙ ap (λ m. flat_map (entry_faults m in_subr) es) glyphs_same ∙ ap (λ m. flat_map (entry_faults (own_fault failed) m) es) subrs_same))
    ∙ append_assoc (flat_map (entry_faults (own_fault failed) (faults_at failed)) es) file (flat_map (join_faults run) es)
