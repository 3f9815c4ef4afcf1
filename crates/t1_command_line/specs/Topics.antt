-- What is said of a code, a rule or a status: how it is found, and what is printed.
use Rattle.std.specs.Prelude.{ℕ, Bool, List, [], ◌∷◌, ◌++◌, Option, Some, None, option_map, take, codes, if◌then◌else◌, ◌==◌}
use Rattle.std.specs.Option.{option_or}
use Rattle.std.specs.Str.{str_eq_ignore_ascii_case}
use Rattle.std.specs.List.{position_or_len}
use Rattle.t1_command_line.specs.declared.topic.Topic.{Topic}
use Rattle.t1_command_line.specs.declared.topic.TopicGroup.{TopicGroup}

-- profile: whether a topic has this code, in letters of either case: of 'f38' it is F38
unfoldable pub has_code : Topic → List ℕ → Bool
has_code topic code = str_eq_ignore_ascii_case topic.code.now code

-- profile: the first topic with this code
abbrev pub topic_in : List Topic → List ℕ → Option Topic
topic_in [] code = None
topic_in (topic ∷ topics) code = if has_code topic code then Some topic else topic_in topics code

-- profile: the first topic of the sections with this code
abbrev pub topic_of : List TopicGroup → List ℕ → Option Topic
topic_of [] code = None
topic_of (section ∷ sections) code = option_or (topic_in section.topics.now code) (topic_of sections code)

-- profile: the line of a topic in a list: its code and its meaning in a few words
unfoldable pub topic_line : Topic → List ℕ
topic_line topic = topic.code.now ++ (codes ": " ++ (topic.meaning.now ++ codes "\n"))

-- profile: the lines of topics, indented
abbrev pub topics_lines : List Topic → List ℕ
topics_lines [] = []
topics_lines (topic ∷ topics) = (codes "  " ++ topic_line topic) ++ topics_lines topics

-- profile: the lines of a section's topics, below its title
unfoldable pub topics_section : TopicGroup → List ℕ
topics_section section = section.title.now ++ (codes ":\n" ++ topics_lines section.topics.now)

-- profile: the lists of sections, each after an empty line
abbrev pub other_sections_text : List TopicGroup → List ℕ
other_sections_text [] = []
other_sections_text (section ∷ sections) = (codes "\n" ++ topics_section section) ++ other_sections_text sections

-- profile: the list of all sections, with an empty line between each two
abbrev pub list_text : List TopicGroup → List ℕ
list_text [] = []
list_text (section ∷ sections) = topics_section section ++ other_sections_text sections

-- profile: all that is said of a topic: its line, an empty line, then lead, text and note
unfoldable pub whole_text : Topic → List ℕ
whole_text topic = topic_line topic ++ (codes "\n" ++ (topic.lead.now ++ (topic.text.now ++ topic.note.now)))

-- profile: what a topic means in a few words; nothing where there is none
abbrev pub in_a_few_words : Option Topic → List ℕ
in_a_few_words None = []
in_a_few_words (Some topic) = topic.meaning.now

-- profile: what a code means in a few words; nothing where the sections don't have it
abbrev pub meaning : List TopicGroup → List ℕ → List ℕ
meaning sections code = in_a_few_words (topic_of sections code)

-- profile: the bytes in front of the first space, or all
abbrev pub before_space : List ℕ → List ℕ
before_space text = take (position_or_len (λ byte. byte == 32) text) text

-- profile: what is said of the code that a text begins with, if anything; the list of all where no text is given
abbrev pub explanation : List TopicGroup → Option (List ℕ) → Option (List ℕ)
explanation sections None = Some (list_text sections)
explanation sections (Some text) = option_map whole_text (topic_of sections (before_space text))
