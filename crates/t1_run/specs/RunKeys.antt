-- Keys and bodies, as loops look them up.
use Rattle.std.specs.Prelude.{ℕ, Bool, false, nat_eq, List, Option}
use Rattle.std.specs.List.{list_any}
use Rattle.std.specs.Str.{bytes_eq}
use Rattle.t1_code.specs.declared.command.Command.{Command}
use Rattle.t1_run.specs.Run.{FontBodies, Key, Glyph, Subr}

-- word: whether two keys are the same
abbrev pub key_eq : Key → Key → Bool
key_eq (Subr n) (Subr m) = nat_eq n m
key_eq (Glyph g) (Glyph h) = bytes_eq g h
key_eq _ _ = false

-- word: the body of a font at a key
abbrev pub body_at : FontBodies → Key → Option (List Command)
body_at m (Subr n) = m.subrs n
body_at m (Glyph g) = m.glyphs g

-- word: a number is among these
abbrev pub has_number : List ℕ → ℕ → Bool
has_number numbers n = list_any (nat_eq n) numbers
