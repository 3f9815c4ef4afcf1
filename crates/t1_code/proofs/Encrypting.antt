-- Cipher text, byte by byte and part by part.
use Rattle.std.proofs.Common.{◌≡◌, ℕ, ◌+◌, ◌/◌, ◌<◌, List, [], ◌∷◌, ◌++◌, length, get_or, take, drop, refl, sym, ap, ◌∙◌, add-one, suc, arith}
use Rattle.std.specs.Prelude.{bit_xor}
use Rattle.std.specs.List.{flat_map}
use Rattle.std.proofs.lemmas.List.{take_at}
use Rattle.std.proofs.Math.Seq.{drop-cons}
use Rattle.t1_code.specs.Cipher.{cipher, key_after, next_key, eexec}

-- a text of two parts is encrypted one part after the other
pub cipher-append : (key : ℕ) (xs ys : List ℕ) → cipher key (xs ++ ys) ≡ cipher key xs ++ cipher (key_after key (cipher key xs)) ys
cipher-append key [] ys = refl
cipher-append key (x ∷ xs) ys =
    let b = bit_xor x (key / 256) in
    ap (λ l. b ∷ l) (cipher-append (next_key key b) xs ys)

pub length-cipher : (key : ℕ) (xs : List ℕ) → length (cipher key xs) ≡ length xs
length-cipher key [] = refl
length-cipher key (x ∷ xs) = ap suc (length-cipher (next_key key (bit_xor x (key / 256))) xs)

-- eexec puts four bytes in front
pub length-eexec : (xs : List ℕ) → length (eexec xs) ≡ length xs + 4
unfolding eexec
length-eexec xs = length-cipher 55665 (0 ∷ 0 ∷ 0 ∷ 0 ∷ xs) ∙ omega arith

pub key_after-append : (key : ℕ) (xs ys : List ℕ) → key_after key (xs ++ ys) ≡ key_after (key_after key xs) ys
key_after-append key [] ys = refl
key_after-append key (x ∷ xs) ys = key_after-append (next_key key x) xs ys

-- the text of what is left begins with that of the next
pub flat_map-drop : {X : Type 0} (f : X → List ℕ) (xs : List X) (i : ℕ) (x d : X) → i < length xs → x ≡ get_or xs i d
    → flat_map f (drop i xs) ≡ f x ++ flat_map f (drop (i + 1) xs)
flat_map-drop f xs i x d inside is =
    rw add-one (ap (flat_map f) (drop-cons xs i d inside) ∙ ap (λ y. f y ++ flat_map f (drop (suc i) xs)) (sym is))

-- a vector's items, encrypted where they stand
pub items_encrypted : (key given len : ℕ) (items slice coded plain : List ℕ) → len ≡ length items → slice ≡ items → items ≡ plain → given ≡ key → coded ≡ cipher given slice
    → take len (coded ++ drop (length coded) items) ≡ cipher key plain
items_encrypted key given len items slice coded plain n s p k e =
    let whole : coded ≡ cipher key items = e ∙ ap (λ o. cipher o slice) k ∙ ap (cipher key) s in
    let size : length coded ≡ len = ap length whole ∙ length-cipher key items ∙ sym n in
    take_at coded (drop (length coded) items) len size ∙ whole ∙ ap (cipher key) p
