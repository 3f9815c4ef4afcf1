-- The PFB file of a font program (Adobe Technical Note 5040, 3.3).
use Rattle.std.specs.Prelude.{ℕ, ◌-◌, ◌*◌, ◌^◌, max, Bool, ◌||◌, nat_lt, if◌then◌else◌, List, [], ◌∷◌, ◌++◌, length, take, drop, map, decimal, Result, Ok, Err}
use Rattle.std.specs.Int.{w32, div_ceil, to_le_bytes}
use Rattle.std.specs.List.{flat_map, range_with_len}
use Rattle.t1_frac.specs.Ascii.{line_feed, space}
use Rattle.t1_frac.specs.declared.fault.Code.TheVariants.{F23}
use Rattle.t1_frac.specs.declared.fault.Fault.{Fault}
use Rattle.t1_frac.specs.declared.fault.Place.TheVariants.{Nowhere}
use Rattle.t1_frac.specs.Outcome.{fault_at}
use Rattle.t1_code.specs.Cipher.{eexec}

-- Technical Note 5040, 3.3: the byte that each segment begins with
abbrev pub marker : ℕ
marker = 128

-- Technical Note 5040, 3.3: the type of a segment of text
abbrev pub ascii_segment : ℕ
ascii_segment = 1

-- Technical Note 5040, 3.3: the type of a segment of binary data
abbrev pub binary_segment : ℕ
binary_segment = 2

-- Technical Note 5040, 3.3: the type that stands at the end of the file
abbrev pub end_of_file : ℕ
end_of_file = 3

-- profile: a closing text stands after a space
abbrev pub closing_text : List ℕ → List ℕ
closing_text [] = []
closing_text (byte ∷ bytes) = space ∷ byte ∷ bytes

-- Type 1 Font Format, Chapter 2: the line of an entry: its number or name, the length of its binary data, the operator that reads them, the data, the closing text
abbrev pub entry_text : List ℕ → List ℕ → List ℕ → List ℕ → List ℕ
entry_text head operator charstring closing =
    head ++ space ∷ decimal (length charstring) ++ space ∷ operator ++ space ∷ charstring ++ closing_text closing ++ line_feed ∷ []

-- Technical Note 5040, 3.3: a segment is 128, its type, its length with the low byte first, and its bytes
abbrev pub segment_head : ℕ → ℕ → List ℕ
segment_head kind count = marker ∷ kind ∷ to_le_bytes w32 count

-- Technical Note 5040, 3.3: a segment with its head
unfoldable pub segment : ℕ → List ℕ → List ℕ
segment kind bytes = segment_head kind (length bytes) ++ bytes

-- profile: as many blocks as so many bytes begin, and one where there is no byte
abbrev pub block_count : ℕ → ℕ → ℕ
block_count size count = max (div_ceil count size) 1

-- profile: a block has the bytes from its place times the size on, and no more than the size
abbrev pub block : ℕ → List ℕ → ℕ → List ℕ
block size bytes place = take size (drop (size * place) bytes)

-- profile: the bytes in blocks of one size, the last with the rest
unfoldable pub blocks : ℕ → List ℕ → List (List ℕ)
blocks size bytes = map (block size bytes) (range_with_len 0 (block_count size (length bytes)))

-- profile: a part is cut into segments of its type with blocks of one size
unfoldable pub segments : ℕ → ℕ → List ℕ → List ℕ
segments size kind bytes = flat_map (segment kind) (blocks size bytes)

-- Technical Note 5040, 3.3: ASCII segments, binary segments, ASCII segments, and the end of the file
unfoldable pub pfb : ℕ → List ℕ → List ℕ → List ℕ → List ℕ
pfb size clear private trailer =
    segments size ascii_segment clear ++ segments size binary_segment (eexec private) ++ segments size ascii_segment trailer ++ marker ∷ end_of_file ∷ []

-- profile: the largest block, which holds each part whole
abbrev pub whole_file : ℕ
whole_file = 2 ^ 31 - 1

-- profile: a part has at most 2^31 - 1 bytes
abbrev pub is_too_long : List ℕ → Bool
is_too_long bytes = nat_lt (2 ^ 31 - 1) (length bytes)

-- profile: there is no file where a part is too long, whatever the file's form
abbrev pub has_long_part : List ℕ → List ℕ → List ℕ → Bool
has_long_part clear private trailer = is_too_long clear || is_too_long (eexec private) || is_too_long trailer

-- profile: the file of the three parts in blocks of this size, or why there is none
abbrev pub pfb_of : ℕ → List ℕ → List ℕ → List ℕ → Result (List ℕ) Fault
pfb_of size clear private trailer =
    if has_long_part clear private trailer then Err (fault_at Nowhere F23) else Ok (pfb size clear private trailer)
