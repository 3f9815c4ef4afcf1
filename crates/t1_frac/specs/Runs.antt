-- The bytes of a text that is borrowed or owned.
use Rattle.std.specs.Prelude.{ℕ, List}
use Rattle.t1_frac.specs.declared.source_text.Stored.{Stored}
use Rattle.t1_frac.specs.declared.source_text.Stored.TheVariants.{Borrowed, Owned}

-- profile: the bytes, wherever they are
abbrev pub bytes_of : Stored → List ℕ
bytes_of (Borrowed bytes) = bytes.now
bytes_of (Owned bytes) = bytes.items
