-- Tokens of a line.
use Rattle.std.specs.Prelude.{ℕ, Bool, false, not, ◌||◌, ◌==◌, ◌+◌, if◌then◌else◌, Option, Some, None, List, [], ◌∷◌, map}
use Rattle.std.specs.List.{before_first, last_or}
use Rattle.std.specs.Str.{bytes_eq}
use Rattle.t1_frac.specs.Ascii.{close_brace, close_bracket, close_parenthesis, greater_than, less_than, open_brace, open_bracket, open_parenthesis, percent, slash}
use Rattle.t1_frac.specs.Words.{is_blank}

-- profile, tokens: the bytes that are tokens by themselves, ( ) < > [ ] { }
abbrev pub is_bracket : ℕ → Bool
is_bracket c =
    c == open_parenthesis || c == close_parenthesis
    || c == less_than || c == greater_than
    || c == open_bracket || c == close_bracket
    || c == open_brace || c == close_brace

-- profile, tokens: a byte that goes on with a token
abbrev pub is_regular : ℕ → Bool
is_regular c = not (is_blank c || is_bracket c || c == slash || c == percent)

-- profile, tokens: whether a token that has come this far goes on
abbrev pub token_goes_on : List ℕ → Bool
token_goes_on [] = false
token_goes_on (c ∷ rest) = is_regular c

-- profile, tokens: a byte before the first token, which then begins at this place
abbrev pub onto_place : ℕ → ℕ → List (ℕ × List ℕ) → List (ℕ × List ℕ)
onto_place i c [] = (i, c ∷ []) ∷ []
onto_place i c (t ∷ ts) = (i, c ∷ t.1) ∷ ts

-- profile, tokens: a byte of a token at a place, before the tokens that follow it
abbrev pub joins_at : ℕ → ℕ → List ℕ → List (ℕ × List ℕ) → List (ℕ × List ℕ)
joins_at i c rest ts = if token_goes_on rest then onto_place i c ts else (i, c ∷ []) ∷ ts

-- profile, tokens: the tokens of a line, the first byte of which has this place, each with the place where it begins. '%'
-- begins a comment, a bracket is a token, '/' begins one, and other bytes that aren't blanks form longest runs
abbrev pub places_from : ℕ → List ℕ → List (ℕ × List ℕ)
places_from i [] = []
places_from i (c ∷ rest) =
    if is_blank c then places_from (i + 1) rest
    else if c == percent then []
    else if is_bracket c then (i, c ∷ []) ∷ places_from (i + 1) rest
    else joins_at i c rest (places_from (i + 1) rest)

-- profile, tokens: the tokens of a line
abbrev pub tokens : List ℕ → List (List ℕ)
tokens l = map (λ t. t.1) (places_from 0 l)

-- profile, tokens: the first token
abbrev pub first_token : List (List ℕ) → Option (List ℕ)
first_token [] = None
first_token (t ∷ ts) = Some t

-- profile, tokens: whether there is a token, and it is this one
abbrev pub is_token : List ℕ → Option (List ℕ) → Bool
is_token t None = false
is_token t (Some u) = bytes_eq t u

-- profile, tokens: whether the first token is this one
abbrev pub first_is : List ℕ → List (List ℕ) → Bool
first_is t us = is_token t (first_token us)

-- profile, tokens: whether the last token is this one
abbrev pub last_is : List ℕ → List (List ℕ) → Bool
last_is t us = is_token t (last_or None us)

-- profile, tokens: the token after the first token of this text; nothing where the text is no token
abbrev pub after_token : List ℕ → List (List ℕ) → Option (Option (List ℕ))
after_token t [] = None
after_token t (u ∷ us) = if bytes_eq u t then Some (first_token us) else after_token t us

-- profile, comments: a line without its comment
abbrev pub uncommented : List ℕ → List ℕ
uncommented l = before_first (λ c. c == percent) l
