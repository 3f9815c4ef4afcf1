-- What is kept of an entry, and of all entries of a font.
use Rattle.std.specs.Prelude.{ℕ, nat_eq, List, ◌∷◌, ◌++◌, Option, codes, decimal}
use Rattle.std.specs.Map.{lookup}
use Rattle.std.specs.Str.{bytes_eq}
use Rattle.std.specs.declared.alloc.Global.{Global}
use Rattle.std.specs.declared.vec.Vec.{Vec}
use Rattle.t1_frac.specs.Ascii.{slash}
use Rattle.t1_code.specs.declared.command.Command.{Command}
use Rattle.t1_code.specs.Charstring.{charstring}
use Rattle.t1_code.specs.Cipher.{encrypted_charstring}
use Rattle.t1_run.specs.Run.{Key, Subr, Glyph}

-- word: what is kept of an entry: `dup N` or `/NAME`, and its encrypted charstring
pub record KeptCharstring : Type 0 where
  pub head : List ℕ
  pub charstring : List ℕ

-- Type 1 Font Format, Chapter 2: what the line of an entry begins with
abbrev pub entry_head : Key → List ℕ
entry_head (Subr n) = codes "dup " ++ decimal n
entry_head (Glyph g) = slash ∷ g

-- Type 1 Font Format, Chapter 7: a body, encrypted with so many leading bytes
abbrev pub encrypted : ℕ → Key → List Command → KeptCharstring
encrypted lead key body = record { head = entry_head key; charstring = encrypted_charstring lead (charstring body) }

-- word: what is kept under a number
abbrev pub subr_charstring : List (ℕ × KeptCharstring) → ℕ → Option KeptCharstring
subr_charstring entries n = lookup (nat_eq n) entries

-- word: what is kept under a name
abbrev pub glyph_charstring : List (Vec ℕ Global × KeptCharstring) → List ℕ → Option KeptCharstring
glyph_charstring entries g = lookup (λ key. bytes_eq g key.items) entries
