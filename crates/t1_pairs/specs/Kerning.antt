-- Kerning files.
use Rattle.std.specs.Prelude.{ℕ, Bool, true, ◌+◌, ◌&&◌, ℤ, pos, negsuc, int_le, if◌then◌else◌, Option, Some, None, Result, Ok, Err, ok_or, option_map, List, [], ◌∷◌, ◌++◌, fold, codes, flat_map}
use Rattle.std.specs.Fmt.{signed_decimal}
use Rattle.std.specs.List.{list_all, list_any}
use Rattle.std.specs.Ordering.{nat_cmp, is_lt, match_ordering, ordering_then}
use Rattle.std.specs.Cmp.Lexicographic.{slice_cmp}
use Rattle.std.specs.Str.{bytes_eq}
use Rattle.std.specs.declared.cmp.Ordering.{Ordering}
use Rattle.t1_frac.specs.Ascii.{line_feed, space}
use Rattle.t1_frac.specs.declared.fault.Code.{Code}
use Rattle.t1_frac.specs.declared.fault.Code.TheVariants.{F12, F13}
use Rattle.t1_frac.specs.declared.fault.Fault.{Fault}
use Rattle.t1_frac.specs.declared.fault.Place.TheVariants.{Line}
use Rattle.t1_frac.specs.Outcome.{reported_at, ◌>>=◌}
use Rattle.t1_frac.specs.Numbers.{is_number_word, number_written}
use Rattle.t1_frac.specs.Words.{words}
use Rattle.t1_pairs.specs.declared.pairs.Pair.{Pair}
use Rattle.t1_text.specs.Lines.{lines}
use Rattle.t1_text.specs.Tokens.{first_is}
use Rattle.t1_text.specs.Names.{is_name}

-- profile, kerning files: a value from -32000 to 32000
abbrev pub is_kerning_value : ℤ → Bool
is_kerning_value v = int_le (negsuc 31999) v && int_le v (pos 32000)

-- profile, kerning files: the number, where it is such a value
abbrev pub small : ℤ → Option ℤ
small v = if is_kerning_value v then Some v else None

-- profile, kerning files: what a number word writes, where it is such a value
abbrev pub kerning_value : List ℕ → Option ℤ
kerning_value word = if is_number_word word then small (number_written word) else None

-- profile, kerning files: the pair of two names, where they are names
abbrev pub pair_of : List ℕ → List ℕ → Option ℤ → Option Pair
pair_of left right None = None
pair_of left right (Some v) = if is_name left && is_name right then Some (record { left = left; right = right; value = v }) else None

-- AFM 4.1, kerning data: the pair of a line `KPX LEFT RIGHT N`
abbrev pub kpx_of : List (List ℕ) → Option Pair
kpx_of (kpx ∷ left ∷ right ∷ n ∷ []) = pair_of left right (kerning_value n)
kpx_of _ = None

-- AFM 4.1, kerning data: the first words of forms that the profile leaves out
abbrev pub is_left_out : List (List ℕ) → Bool
is_left_out ws = list_any (λ w. first_is w ws) (codes "KP" ∷ codes "KPH" ∷ codes "KPY" ∷ codes "StartKernPairs1" ∷ [])

-- profile, kerning files: what a line says: a pair, nothing, or a fault
unfoldable pub line_pairs : List (List ℕ) → Result (List Pair) Code
line_pairs ws =
    if first_is (codes "KPX") ws then ok_or (option_map (λ p. p ∷ []) (kpx_of ws)) F12
    else if is_left_out ws then Err F13
    else Ok []

-- profile, kerning files: the pairs of the lines from number n on, in their order, or the first fault
abbrev pub pairs_from : ℕ → List (List ℕ) → Result (List Pair) Fault
pairs_from n [] = Ok []
pairs_from n (l ∷ ls) = reported_at (Line n) (line_pairs (words l)) >>= λ ps. pairs_from (n + 1) ls >>= λ more. Ok (ps ++ more)

-- profile, kerning files: the order of two pairs by the bytes of the left, then the right name
abbrev pub pair_cmp : Pair → Pair → Ordering
pair_cmp p q = ordering_then (slice_cmp nat_cmp p.left q.left) (slice_cmp nat_cmp p.right q.right)

-- profile, kerning files: the list with the pair in its place, where it replaces one of the same names
abbrev pub put_pair : Pair → List Pair → List Pair
put_pair p [] = p ∷ []
put_pair p (q ∷ qs) = match_ordering (pair_cmp p q) (p ∷ q ∷ qs) (record { left = q.left; right = q.right; value = p.value } ∷ qs) (q ∷ put_pair p qs)

-- profile, kerning files: the later of two lines for a pair counts
abbrev pub put_all_pairs : List Pair → List Pair → List Pair
put_all_pairs qs ps = fold (λ qs p. put_pair p qs) qs ps

-- profile, kerning files: these pairs, with those of the lines from number n on, or the first fault
abbrev pub pairs_with : List Pair → ℕ → List (List ℕ) → Result (List Pair) Fault
pairs_with qs n ls = pairs_from n ls >>= λ ps. Ok (put_all_pairs qs ps)

-- profile, kerning files: the pairs in printed order, or the first fault
unfoldable pub pairs : List ℕ → Result (List Pair) Fault
pairs bytes = pairs_with [] 1 (lines bytes)

-- AFM 4.1, kerning data: the line `KPX LEFT RIGHT N`
abbrev pub kpx_line : Pair → List ℕ
kpx_line p = codes "KPX " ++ (p.left ++ space ∷ (p.right ++ space ∷ signed_decimal p.value))

-- profile, kerning files: one line a pair
abbrev pub kern : List Pair → List ℕ
kern ps = flat_map (λ p. kpx_line p ++ line_feed ∷ []) ps

-- profile, kerning files: two names and such a value
abbrev pub is_kerning_pair : Pair → Bool
is_kerning_pair p = is_name p.left && is_name p.right && is_kerning_value p.value

-- profile, kerning files: whether a pair has these names
abbrev pub is_pair : List ℕ → List ℕ → Pair → Bool
is_pair left right p = bytes_eq left p.left && bytes_eq right p.right

-- profile, kerning files: whether a pair stands before another in printed order
abbrev pub precedes : Pair → Pair → Bool
precedes p q = is_lt (pair_cmp p q)

-- profile, kerning files: whether the pairs are in printed order, each once
abbrev pub are_ordered : List Pair → Bool
are_ordered [] = true
are_ordered (p ∷ ps) = list_all (precedes p) ps && are_ordered ps

-- profile, kerning files: pairs as a kerning file has them
unfoldable pub are_pairs : List Pair → Bool
are_pairs ps = list_all is_kerning_pair ps && are_ordered ps
