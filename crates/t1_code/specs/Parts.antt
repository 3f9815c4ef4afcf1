-- What contracts see of the parts of a PFB file, and of a text that is written.
use Rattle.std.specs.Prelude.{length, ◌≡◌, ℕ, List, Option, Result, Ok, Err}
use Rattle.std.specs.List.{flat_map}
use Rattle.std.specs.Borrow.{Bor}
use Rattle.t1_frac.specs.declared.fault.Fault.{Fault}
use Rattle.t1_frac.specs.declared.fault.Refusal.{Refusal}
use Rattle.t1_frac.specs.declared.fault.Refusal.TheVariants as refusals
use Rattle.t1_frac.specs.Outcome.{◌>>=◌}
use Rattle.t1_code.specs.declared.outlet.Outlet.{Outlet}
use Rattle.t1_code.specs.declared.parts.OutError.{OutError}
use Rattle.t1_code.specs.declared.parts.OutError.TheVariants as out
use Rattle.t1_code.specs.declared.parts.Parts.{Parts}
use Rattle.t1_code.specs.declared.parts.Piece.{Piece}
use Rattle.t1_code.specs.declared.parts.Piece.TheVariants.{Plain, Entry}
use Rattle.t1_code.specs.Counted.{Tally, WritesAll, WritesFront}
use Rattle.t1_code.specs.Writing.{Passes, Stops}
use Rattle.t1_code.specs.Pfa.{pfa_of}
use Rattle.t1_code.specs.Pfb.{entry_text, pfb_of}

-- Type 1 Font Format, Chapter 2: the bytes of a piece of the private text
abbrev pub piece_text : Piece → List ℕ
piece_text (Plain bytes) = bytes.now
piece_text (Entry head operator charstring closing) = entry_text head.now operator.now charstring.now closing.now

-- word: the length that an entry's line says, and none for other bytes
abbrev pub charstring_length : Piece → ℕ
charstring_length (Plain bytes) = 0
charstring_length (Entry head operator charstring closing) = length charstring.now

-- word: the bytes of slices, one after another
abbrev pub slices_bytes : List (Bor (List ℕ)) → List ℕ
slices_bytes slices = flat_map (λ slice. slice.now) slices

-- word: the private text of the parts: that of its pieces, one after another
abbrev pub pieces_text : Parts → List ℕ
pieces_text parts = flat_map piece_text parts.pieces.now

-- Technical Note 5040, 3.3: the PFB file of the parts, in segments of this size
abbrev pub file_of : ℕ → Parts → Result (List ℕ) Fault
file_of size parts = pfb_of size parts.clear.now (pieces_text parts) parts.trailer.now

-- Type 1 Font Format, Chapter 2: the PFA file of the parts
abbrev pub hexadecimal_file_of : Parts → Result (List ℕ) Fault
hexadecimal_file_of parts = pfa_of parts.clear.now (pieces_text parts) parts.trailer.now

-- word: how many bytes a file has, or why there is none
abbrev pub length_of : Result (List ℕ) Fault → Result ℕ Fault
length_of file = file >>= λ bytes. Ok (length bytes)

-- profile: a call that writes a text: the whole text at Ok; a beginning of it and a failed call at Write; nothing at a fault, which is the text's own; and nothing where memory ran out
abbrev pub Prints : {W T : Type 0} → (W → Option (List ℕ)) → Tally W → Tally W → Result (List ℕ) Fault → Result T OutError → Type 0
Prints contents old new text (Ok done) = (whole : List ℕ) × (text ≡ Ok whole) × WritesAll contents old new whole
Prints contents old new text (Err out.Write) = (whole : List ℕ) × (text ≡ Ok whole) × WritesFront contents old new whole
Prints contents old new text (Err (out.Fault fault)) = (text ≡ Err fault) × (new ≡ old)
Prints contents old new text (Err out.Memory) = new ≡ old

-- word: a call that passes a file on by way of a chunk, and takes no memory: the whole file passed at Ok; a beginning went out and a call failed at Write; nothing at a fault, which is the file's own
abbrev pub PassesFile : {W T : Type 0} → (W → Option (List ℕ)) → Outlet W → Outlet W → Result (List ℕ) Fault → Result T OutError → Type 0
PassesFile contents old new file (Ok done) = (whole : List ℕ) × (file ≡ Ok whole) × Passes contents old new whole
PassesFile contents old new file (Err out.Write) = (whole : List ℕ) × (file ≡ Ok whole) × Stops contents old new whole
PassesFile contents old new file (Err (out.Fault fault)) = (file ≡ Err fault) × (new ≡ old)
PassesFile contents old new file (Err out.Memory) = ⊥

-- word: a text whose parts couldn't be made isn't written, for the same reason
abbrev pub not_written : Refusal → OutError
not_written (refusals.Fault fault) = out.Fault fault
not_written refusals.Memory = out.Memory
