-- The faults of sources and of kerning files.
use Rattle.std.specs.Prelude.{ℕ, Bool, true, false, not, ◌==◌, List, length}
use Rattle.t1_text.specs.Lines.{lines}
use Rattle.t1_command_line.specs.declared.topic.TopicGroup.{TopicGroup}
use Rattle.t1_fault_texts.specs.Finding.{pairs_faults}
use Rattle.t1_faults.specs.Judging.{source_faults}
use Rattle.t1_faults.specs.declared.found.FoundFault.{FoundFault}
use Rattle.t1edit.specs.FaultJson.{faults_json}
use Rattle.t1edit.specs.FaultLines.{faults_lines}
use Rattle.t1edit.specs.declared.finding.Layout.{Layout}
use Rattle.t1edit.specs.declared.finding.Layout.TheVariants as layouts
use Rattle.t1edit.specs.declared.finding.Sought.{Sought}
use Rattle.t1edit.specs.declared.finding.Sought.TheVariants as sought

-- profile, faults: with --json faults are objects of JSON
abbrev pub layout_of : Bool → Layout
layout_of true = layouts.Json
layout_of false = layouts.Lines

-- profile, faults: what is sought in a text: every fault of a source, or that of a kerning file
abbrev pub faults_in : Sought → List ℕ → List FoundFault
faults_in sought.Source bytes = source_faults bytes
faults_in sought.Pairs bytes = pairs_faults bytes

-- profile, faults: the faults of a file of this name in a layout
abbrev pub laid_out : List TopicGroup → Layout → List ℕ → List ℕ → List FoundFault → List ℕ
laid_out sections layouts.Lines path bytes faults = faults_lines path sections (lines bytes) faults
laid_out sections layouts.Json path bytes faults = faults_json path faults

-- profile, faults: what is told of a file
abbrev pub faults_on : List TopicGroup → Layout → Sought → List ℕ → List ℕ → List ℕ
faults_on sections layout sought path bytes = laid_out sections layout path bytes (faults_in sought bytes)

-- profile, faults: whether a file has what is sought
abbrev pub has_faults : Sought → List ℕ → Bool
has_faults sought bytes = not (length (faults_in sought bytes) == 0)
