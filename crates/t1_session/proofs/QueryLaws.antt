-- The texts that queries show, put together piece by piece.
use Rattle.std.proofs.Common.{◌≡◌, ℕ, zero, suc, ◌+◌, List, ◌++◌, flat_map, add-zero, add-one, append-nil, append_assoc, sym, ap, ◌∙◌, arith}
use Rattle.std.specs.List.{range_with_len}
use Rattle.t1_font.specs.Metrics.{all_codes}
use Rattle.t1_source.specs.Codes.{name_of_code}
use Rattle.t1_parts.specs.SourceParts.{SourceParts}
use Rattle.t1_session.specs.Queries.{code_line, encoding_text}

-- one number more
range-more : (f : ℕ → List ℕ) (a n k : ℕ) → a + n ≡ k → flat_map f (range_with_len a (suc n)) ≡ flat_map f (range_with_len a n) ++ f k
range-more f a zero k e = rw (sym e, add-zero a) (append-nil (f a))
range-more f a (suc n) k e =
    ap (λ t. f a ++ t) (range-more f (a + 1) n k (omega (arith, e))) ∙ sym (append_assoc (f a) (flat_map f (range_with_len (a + 1) n)) (f k))

pub code_more : (s : SourceParts) (text line : List ℕ) (code : ℕ)
    → text ≡ flat_map (λ k. code_line k (name_of_code s k)) (range_with_len 0 code) → line ≡ code_line code (name_of_code s code)
    → text ++ line ≡ flat_map (λ k. code_line k (name_of_code s k)) (range_with_len 0 (code + 1))
code_more s text line code so_far is =
    rw (so_far, is, add-one code) (sym (range-more (λ k. code_line k (name_of_code s k)) 0 code code (omega arith)))

pub codes_all : (s : SourceParts) (text : List ℕ) (n : ℕ) → n ≡ 256
    → text ≡ flat_map (λ k. code_line k (name_of_code s k)) (range_with_len 0 n) → text ≡ encoding_text s
unfolding all_codes
codes_all s text n all so_far = so_far ∙ ap (λ k. flat_map (λ c. code_line c (name_of_code s c)) (range_with_len 0 k)) all
