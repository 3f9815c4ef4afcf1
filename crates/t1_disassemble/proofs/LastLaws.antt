-- The last bytes of a list, and what stands after so many of all.
use Rattle.std.proofs.Common.{◌≡◌, ℕ, ◌-◌, ◌≤◌, List, length, drop, ap, ◌∙◌, arith}
use Rattle.std.proofs.lemmas.List.{drop-drop, length-drop}

-- what stands after so many bytes is the end of the last ones, where these reach so far
pub last_tail : (l : List ℕ) (count : ℕ) → count ≤ length l → length l - count ≤ length (drop (length l - 2048) l)
    → drop (length (drop (length l - 2048) l) - (length l - count)) (drop (length l - 2048) l) ≡ drop count l
last_tail l count within reaches =
    let front = length l - 2048 in
    let left = length (drop front l) - (length l - count) in
    let size = length-drop front l in
    drop-drop left front l ∙ ap (λ n. drop n l) (omega (arith, size, within, reaches))
