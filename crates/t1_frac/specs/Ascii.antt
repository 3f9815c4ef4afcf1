-- The bytes that a source, a kerning file and the printed texts give a meaning, by their names.
use Rattle.std.specs.Prelude.{ℕ}

-- ASCII: the byte 0, a blank of the source form
abbrev pub null : ℕ
null = 0

-- ASCII: a tab
abbrev pub tab : ℕ
tab = 9

-- ASCII: LF
abbrev pub line_feed : ℕ
line_feed = 10

-- ASCII: a form feed
abbrev pub form_feed : ℕ
form_feed = 12

-- ASCII: CR
abbrev pub carriage_return : ℕ
carriage_return = 13

-- ASCII: a space
abbrev pub space : ℕ
space = 32

-- ASCII: the first byte that prints, `!`
abbrev pub first_printed : ℕ
first_printed = 33

-- ASCII: the last byte that prints, `~`
abbrev pub last_printed : ℕ
last_printed = 126

-- ASCII: `%`
abbrev pub percent : ℕ
percent = 37

-- ASCII: `(`
abbrev pub open_parenthesis : ℕ
open_parenthesis = 40

-- ASCII: `)`
abbrev pub close_parenthesis : ℕ
close_parenthesis = 41

-- ASCII: `/`
abbrev pub slash : ℕ
slash = 47

-- ASCII: the digit `0`
abbrev pub digit_zero : ℕ
digit_zero = 48

-- ASCII: the digit `7`
abbrev pub digit_seven : ℕ
digit_seven = 55

-- ASCII: `;`
abbrev pub semicolon : ℕ
semicolon = 59

-- ASCII: `<`
abbrev pub less_than : ℕ
less_than = 60

-- ASCII: `>`
abbrev pub greater_than : ℕ
greater_than = 62

-- ASCII: `[`
abbrev pub open_bracket : ℕ
open_bracket = 91

-- ASCII: a backslash
abbrev pub backslash : ℕ
backslash = 92

-- ASCII: `]`
abbrev pub close_bracket : ℕ
close_bracket = 93

-- ASCII: the letter `a`
abbrev pub letter_a : ℕ
letter_a = 97

-- ASCII: `{`
abbrev pub open_brace : ℕ
open_brace = 123

-- ASCII: `}`
abbrev pub close_brace : ℕ
close_brace = 125
