-- The faults of a file as objects of JSON have no number that isn't whole.
use Rattle.std.proofs.Common.{◌≡◌, ℕ, List, [], ◌∷◌, Option, None, Some, map, drop, codes, false, true, Bool, ◌||◌, refl}
use Rattle.std.specs.Cmp.Lexicographic.{slice_cmp}
use Rattle.std.specs.Ordering.{nat_cmp, match_ordering}
use Rattle.std.specs.declared.cmp.Ordering.{Ordering}
use Rattle.std.specs.declared.cmp.Ordering.TheVariants.{Less, Equal, Greater}
use Rattle.serde_json.specs.Data.{Data, number, unsigned, string, Members, member, no_members, put}
use Rattle.serde_json.specs.View.{items_of}
use Rattle.serde_json.specs.Written.{has_float, items_have_float, members_have_float}
use Rattle.t1_commands.specs.AnswerTexts.{code_name, place_text}
use Rattle.t1_faults.specs.declared.call_chains.CallChain.{CallChain}
use Rattle.t1_faults.specs.declared.found.FoundFault.{FoundFault}
use Rattle.t1_fault_texts.specs.Hints.{hint}
use Rattle.t1edit.specs.FaultJson.{chain_data, chains_data, fault_data, names_data, place_data, subr_data, text_data, text_or_null, word_data}

of_text : (bytes : List ℕ) → has_float (text_or_null bytes) ≡ false
of_text [] = refl
of_text (c ∷ rest) = refl

of_word : (word : Option (List ℕ)) → has_float (word_data word) ≡ false
of_word None = refl
of_word (Some word) = refl

both : (a b : Bool) → a ≡ false → b ≡ false → (a || b) ≡ false
both false b p q = q
both true b p q = absurd (cc)

of_subrs : (subrs : List ℕ) → items_have_float (items_of (map subr_data subrs)) ≡ false
of_subrs [] = refl
of_subrs (n ∷ subrs) = of_subrs subrs

of_chains : (chains : List CallChain) → items_have_float (items_of (map chain_data chains)) ≡ false
of_chains [] = refl
of_chains (chain ∷ chains) = both (has_float (chain_data chain)) _ (of_subrs chain.subrs) (of_chains chains)

of_names : (names : List (List ℕ)) → items_have_float (items_of (map text_data names)) ≡ false
of_names [] = refl
of_names (name ∷ names) = of_names names

by_order : (o : Ordering) (a b c : Members) → members_have_float a ≡ false → members_have_float b ≡ false → members_have_float c ≡ false
    → members_have_float (match_ordering o a b c) ≡ false
by_order Less a b c p q r = p
by_order Equal a b c p q r = q
by_order Greater a b c p q r = r

left_of : (a b : Bool) → (a || b) ≡ false → a ≡ false
left_of false b h = refl
left_of true b h = absurd (cc)

right_of : (a b : Bool) → (a || b) ≡ false → b ≡ false
right_of false b h = h
right_of true b h = absurd (cc)

-- one member more
with_one : (k : List ℕ) (d : Data) (ms : Members) → has_float d ≡ false → members_have_float ms ≡ false → members_have_float (put k d ms) ≡ false
with_one k d no_members p q = both (has_float d) false p refl
with_one k d (member l e ms) p q =
    let first = left_of (has_float e) (members_have_float ms) q in
    let others = right_of (has_float e) (members_have_float ms) q in
    by_order (slice_cmp nat_cmp k l) (member k d (member l e ms)) (member l d ms) (member l e (put k d ms))
    (both (has_float d) _ p q) (both (has_float d) _ p others) (both (has_float e) _ first (with_one k d ms p others))

-- the members so far, one more at a time
abbrev with_file : List ℕ → Members
with_file path = put (codes "file") (string path) no_members

abbrev with_line : List ℕ → FoundFault → Members
with_line path fault = put (codes "line") (number (unsigned fault.line)) (with_file path)

abbrev with_column : List ℕ → FoundFault → Members
with_column path fault = put (codes "column") (number (unsigned fault.column)) (with_line path fault)

abbrev with_place : List ℕ → FoundFault → Members
with_place path fault = put (codes "place") (place_data fault.place) (with_column path fault)

abbrev with_code : List ℕ → FoundFault → Members
with_code path fault = put (codes "code") (text_data (code_name fault.code)) (with_place path fault)

abbrev with_word : List ℕ → FoundFault → Members
with_word path fault = put (codes "word") (word_data fault.word) (with_code path fault)

abbrev with_hint : List ℕ → FoundFault → Members
with_hint path fault = put (codes "hint") (text_or_null (hint fault)) (with_word path fault)

abbrev with_chain : List ℕ → FoundFault → Members
with_chain path fault = put (codes "chain") (chains_data fault.chains) (with_hint path fault)

-- no fault has a number that isn't whole
pub no_float : (path : List ℕ) (fault : FoundFault) → has_float (fault_data path fault) ≡ false
unfolding fault_data
no_float path fault =
    let file : members_have_float (with_file path) ≡ false = with_one (codes "file") (string path) no_members refl refl in
    let line : members_have_float (with_line path fault) ≡ false = with_one (codes "line") (number (unsigned fault.line)) (with_file path) refl file in
    let column : members_have_float (with_column path fault) ≡ false = with_one (codes "column") (number (unsigned fault.column)) (with_line path fault) refl line in
    let place : members_have_float (with_place path fault) ≡ false =
    with_one (codes "place") (place_data fault.place) (with_column path fault) (of_text (drop 1 (place_text fault.place))) column in
    let code : members_have_float (with_code path fault) ≡ false = with_one (codes "code") (text_data (code_name fault.code)) (with_place path fault) refl place in
    let word : members_have_float (with_word path fault) ≡ false = with_one (codes "word") (word_data fault.word) (with_code path fault) (of_word fault.word) code in
    let hinted : members_have_float (with_hint path fault) ≡ false = with_one (codes "hint") (text_or_null (hint fault)) (with_word path fault) (of_text (hint fault)) word in
    let chained : members_have_float (with_chain path fault) ≡ false = with_one (codes "chain") (chains_data fault.chains) (with_hint path fault) (of_chains fault.chains) hinted in
    with_one (codes "composites") (names_data fault.composites) (with_chain path fault) (of_names fault.composites) chained
