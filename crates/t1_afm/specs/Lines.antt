-- What contracts see of the words and entries that the code puts into lines.
use Rattle.std.specs.Prelude.{ℕ, List, map, decimal, Option, option_map}
use Rattle.std.specs.Fmt.{signed_decimal}
use Rattle.t1_afm.specs.declared.part.Value.{Value}
use Rattle.t1_afm.specs.declared.line.Word.{Word}
use Rattle.t1_afm.specs.declared.line.Word.TheVariants.{Text, Number, Count}
use Rattle.t1_afm.specs.Afm.{Line}

-- word: the bytes of a word
abbrev pub word_text : Word → List ℕ
word_text (Text bytes) = bytes.now
word_text (Number number) = signed_decimal number
word_text (Count count) = decimal count

-- word: the words of a line, as bytes
abbrev pub line_words : List Word → Line
line_words words = map word_text words

-- word: a key, and the bytes of its value, where there is one
abbrev pub value_bytes : Value → List ℕ × Option (List ℕ)
value_bytes v = (v.key.now, option_map word_text v.value)

-- word: the keys and values, one after another
abbrev pub values_of : List Value → List (List ℕ × Option (List ℕ))
values_of values = map value_bytes values
