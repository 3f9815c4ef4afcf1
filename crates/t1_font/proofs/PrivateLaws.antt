-- The private text, one item's line after another.
use Rattle.std.proofs.Common.{◌≡◌, ℕ, ◌+◌, ◌-◌, ◌^◌, ◌≤◌, ◌++◌, min, length-append, List, [], ◌∷◌, length, replicate, Result, Ok, Err, inl, inr, refl, sym, ap, ◌∙◌, arith}
use Rattle.std.specs.Prelude.{decimal, nat_lt}
use Rattle.std.proofs.lemmas.Bool.{cases_Bool, ltb-false}
use Rattle.std.proofs.lemmas.List.{append_assoc, length-replicate}
use Rattle.t1_frac.specs.declared.fault.Code.{Code}
use Rattle.t1_frac.specs.declared.fault.Fault.{Fault}
use Rattle.t1_frac.specs.declared.fault.Place.{Place}
use Rattle.t1_frac.specs.declared.fault.Refusal.{Refusal}
use Rattle.t1_frac.specs.declared.fault.Refusal.TheVariants as refusals
use Rattle.t1_frac.specs.Outcome.{fault_at, reported_at, ◌>>=◌, Refuses}
use Rattle.t1_code.specs.declared.command.Command.{Command}
use Rattle.t1_code.specs.Words.{commands}
use Rattle.t1_code.specs.Charstring.{charstring, charstring_of_words}
use Rattle.t1_code.specs.Cipher.{encrypted_charstring, encrypted_words}
use Rattle.t1_code.specs.Pfb.{closing_text, entry_text}
use Rattle.t1_parts.specs.declared.item.Item.{Item}
use Rattle.t1_font.specs.Assembly.{entry_line, item_line, private_text}
use Rattle.t1_font.specs.Lengths.{charstring_length, line_length, put_after}
use Rattle.t1_code.proofs.Encrypting.{length-cipher}
use Rattle.t1_code.proofs.Lengths.{compiled_short}

entry_at : (lead : ℕ) (operator : List ℕ) (place : Place) (head closing : List ℕ) (read : Result (List Command) Code)
    → (reported_at place read >>= λ body. Ok (entry_text head operator (encrypted_charstring lead (charstring body)) closing))
    ≡ (reported_at place ((read >>= λ cs. Ok (charstring cs)) >>= λ plain. Ok (encrypted_charstring lead plain)) >>= λ code. Ok (entry_text head operator code closing))
entry_at lead operator place head closing (Ok cs) = refl
entry_at lead operator place head closing (Err code) = refl

-- an entry's line, by its encrypted charstring
entry_coded : (lead : ℕ) (operator : List ℕ) (place : Place) (head : List ℕ) (words : List (List ℕ)) (closing : List ℕ)
    → entry_line lead operator place head words closing ≡ (reported_at place (encrypted_words lead words) >>= λ code. Ok (entry_text head operator code closing))
unfolding entry_line encrypted_words
entry_coded lead operator place head words closing = entry_at lead operator place head closing (commands words)

-- the head of an entry's line stands after the text
pub headed : (text head operator code closing : List ℕ) → text ++ entry_text head operator code closing ≡ entry_text (text ++ head) operator code closing
headed text head operator code closing =
    sym (append_assoc text (head ++ 32 ∷ decimal (length code) ++ 32 ∷ operator ++ 32 ∷ code ++ closing_text closing) (10 ∷ []))
    ∙ ap (λ l. l ++ 10 ∷ []) (sym (append_assoc text (head ++ 32 ∷ decimal (length code) ++ 32 ∷ operator ++ 32 ∷ code) (closing_text closing))
    ∙ ap (λ l. l ++ closing_text closing) (sym (append_assoc text (head ++ 32 ∷ decimal (length code) ++ 32 ∷ operator) (32 ∷ code))
    ∙ ap (λ l. l ++ 32 ∷ code) (sym (append_assoc text (head ++ 32 ∷ decimal (length code)) (32 ∷ operator))
    ∙ ap (λ l. l ++ 32 ∷ operator) (sym (append_assoc text head (32 ∷ decimal (length code)))))))

-- an entry's line after the text, by slices of its charstring and its closing text
pub entry_after : (text : List ℕ) (lead : ℕ) (operator : List ℕ) (place : Place) (head : List ℕ) (words : List (List ℕ)) (closing code bytes end new : List ℕ)
    → reported_at place (encrypted_words lead words) ≡ Ok code → bytes ≡ code → end ≡ closing → new ≡ text ++ entry_text head operator bytes end
    → put_after text (entry_line lead operator place head words closing) ≡ Ok new
entry_after text lead operator place head words closing code bytes end new coded same end_is is =
    rw (entry_coded lead operator place head words closing, coded, is, same, end_is) refl

-- the fault of an entry's body
pub entry_fault : (text : List ℕ) (lead : ℕ) (operator : List ℕ) (place : Place) (head : List ℕ) (words : List (List ℕ)) (closing : List ℕ) (fault : Fault)
    → reported_at place (encrypted_words lead words) ≡ Err fault
    → put_after text (entry_line lead operator place head words closing) ≡ Err fault
entry_fault text lead operator place head words closing fault coded =
    rw (entry_coded lead operator place head words closing, coded) refl

-- ---- one more item

item_after : (text : List ℕ) (line rest : Result (List ℕ) Fault) (new : List ℕ) → put_after text line ≡ Ok new
    → put_after text (line >>= λ l. rest >>= λ ls. Ok (l ++ ls)) ≡ put_after new rest
item_after text (Ok line) (Ok rest) new e = let same : text ++ line ≡ new = cc in ap (λ l. Ok l) (sym (append_assoc text line rest) ∙ ap (λ l. l ++ rest) same)
item_after text (Ok line) (Err fault) new e = refl
item_after text (Err fault) rest new e = absurd (cc)

-- the items that are left
pub next_item : (lead : ℕ) (operator : List ℕ) (item : Item) (items : List Item) (text new : List ℕ) (whole : Result (List ℕ) Fault)
    → put_after text (item_line lead operator item) ≡ Ok new → put_after text (private_text lead operator (item ∷ items)) ≡ whole
    → put_after new (private_text lead operator items) ≡ whole
next_item lead operator item items text new whole line so_far =
    sym (item_after text (item_line lead operator item) (private_text lead operator items) new line) ∙ so_far

-- ---- how long the lines are

abbrev pub added : ℕ → Result (List ℕ) Fault → Result ℕ Fault
added total rest = rest >>= λ text. Ok (min (total + length text) (2 ^ 64 - 1))

line_more : (line rest : Result (List ℕ) Fault) (len total next : ℕ) → ◌≡◌ {A = Result ℕ Fault} (line >>= λ l. Ok (min (length l) (2 ^ 64 - 1))) (Ok len)
    → next ≡ min (total + len) (2 ^ 64 - 1) → added total (line >>= λ l. rest >>= λ ls. Ok (l ++ ls)) ≡ added next rest
line_more (Ok line) (Ok rest) len total next e sum =
    let same : min (length line) (2 ^ 64 - 1) ≡ len = cc in
    ap (λ n. Ok n) (omega (arith, length-append line rest, same, sum))
line_more (Ok line) (Err fault) len total next e sum = refl
line_more (Err fault) rest len total next e sum = absurd (cc)

-- the lines that are left
pub next_len : (lead : ℕ) (operator : List ℕ) (item : Item) (items : List Item) (len total next : ℕ) (whole : Result ℕ Fault)
    → line_length lead operator item ≡ Ok len → next ≡ min (total + len) (2 ^ 64 - 1)
    → added total (private_text lead operator (item ∷ items)) ≡ whole → added next (private_text lead operator items) ≡ whole
next_len lead operator item items len total next whole line sum so_far =
    sym (line_more (item_line lead operator item) (private_text lead operator items) len total next line sum) ∙ so_far

line_fault : (line rest : Result (List ℕ) Fault) (total : ℕ) (fault : Fault) → ◌≡◌ {A = Result ℕ Fault} (line >>= λ l. Ok (min (length l) (2 ^ 64 - 1))) (Err fault)
    → added total (line >>= λ l. rest >>= λ ls. Ok (l ++ ls)) ≡ Err fault
line_fault (Ok line) rest total fault e = absurd (cc)
line_fault (Err other) rest total fault e = let same : other ≡ fault = cc in ap (λ f. Err f) same

-- a line whose body has a fault
pub faulty_len : (lead : ℕ) (operator : List ℕ) (item : Item) (items : List Item) (total : ℕ) (whole : Result ℕ Fault) (refused : Refusal)
    → Refuses refused (line_length lead operator item) → added total (private_text lead operator (item ∷ items)) ≡ whole → Refuses refused whole
faulty_len lead operator item items total whole refusals.Memory line so_far = tt
faulty_len lead operator item items total whole (refusals.Fault fault) line so_far =
    sym so_far ∙ line_fault (item_line lead operator item) (private_text lead operator items) total fault line

-- ---- how long an entry's line is

few : (words : List (List ℕ)) (read : List Command) → commands words ≡ Ok read → length words ≤ 65535
unfolding commands
few words read h = elim (cases_Bool (nat_lt 65535 (length words))) [
  | inl e ↦ (let f = rw e at h in absurd (cc))
  | inr e ↦ ltb-false 65535 (length words) e
]

coded_len : (lead most : ℕ) (place : Place) (read : Result (List Command) Code) (code : List ℕ) → ((cs : List Command) → read ≡ Ok cs → length (charstring cs) ≤ most)
    → ◌≡◌ {A = Result (List ℕ) Fault} (reported_at place (read >>= λ cs. Ok (charstring cs))) (Ok code)
    → (reported_at place (((read >>= λ cs. Ok (charstring cs)) >>= λ plain. Ok (encrypted_charstring lead plain)) >>= λ c. Ok (length c)) ≡ Ok (lead + length code)) × (length code ≤ most)
coded_len lead most place (Ok cs) code short e =
    let same : charstring cs ≡ code = cc in
    let size = ap (λ (l : List ℕ). length l) same in
    let within = short cs refl in
    (ap (λ n. Ok n) (length-cipher 4330 (replicate lead 0 ++ charstring cs) ∙ omega (arith, length-append (replicate lead 0) (charstring cs), length-replicate {A = ℕ} lead 0, size)), omega (arith, size, within))
coded_len lead most place (Err fault) code short e = absurd (cc)

-- a charstring's length, and how long it can be
pub charstring_len : (lead : ℕ) (place : Place) (words : List (List ℕ)) (code : List ℕ) → reported_at place (charstring_of_words words) ≡ Ok code
    → (reported_at place (charstring_length lead words) ≡ Ok (lead + length code)) × (length code ≤ 327675)
unfolding encrypted_words
charstring_len lead place words code e =
    coded_len lead 327675 place (commands words) code
    (λ cs read. let short = compiled_short words cs read in let few_words = few words cs read in omega arith) e

uncoded : (lead : ℕ) (place : Place) (plain : Result (List ℕ) Code) (fault : Fault) → reported_at place plain ≡ Err fault
    → ◌≡◌ {A = Result ℕ Fault} (reported_at place ((plain >>= λ bytes. Ok (encrypted_charstring lead bytes)) >>= λ c. Ok (length c))) (Err fault)
uncoded lead place (Ok bytes) fault e = absurd (cc)
uncoded lead place (Err code) fault e = let same : fault_at place code ≡ fault = cc in ap (λ f. Err f) same

-- the fault of words that have no charstring
pub charstring_refused : (lead : ℕ) (place : Place) (words : List (List ℕ)) (refused : Refusal)
    → Refuses refused (reported_at place (charstring_of_words words)) → Refuses refused (reported_at place (charstring_length lead words))
unfolding encrypted_words
charstring_refused lead place words refusals.Memory h = tt
charstring_refused lead place words (refusals.Fault fault) h = uncoded lead place (charstring_of_words words) fault h

line_of : (operator head closing : List ℕ) (lead len most : ℕ) (place : Place) (coded : Result (List ℕ) Code)
    → ◌≡◌ {A = Result ℕ Fault} (reported_at place (coded >>= λ c. Ok (length c))) (Ok most)
    → ((code : List ℕ) → length code ≡ most → len ≡ min (length (entry_text head operator code closing)) (2 ^ 64 - 1))
    → ◌≡◌ {A = Result ℕ Fault} ((reported_at place coded >>= λ code. Ok (entry_text head operator code closing)) >>= λ line. Ok (min (length line) (2 ^ 64 - 1))) (Ok len)
line_of operator head closing lead len most place (Ok code) e is = let size : length code ≡ most = cc in ap (λ n. Ok n) (sym (is code size))
line_of operator head closing lead len most place (Err fault) e is = absurd (cc)

-- how long an entry's line is, by the length of its charstring
pub entry_len : (lead : ℕ) (operator : List ℕ) (place : Place) (head : List ℕ) (words : List (List ℕ)) (closing : List ℕ) (charstring len : ℕ)
    → reported_at place (charstring_length lead words) ≡ Ok charstring
    → ((code : List ℕ) → length code ≡ charstring → len ≡ min (length (entry_text head operator code closing)) (2 ^ 64 - 1))
    → ◌≡◌ {A = Result ℕ Fault} (entry_line lead operator place head words closing >>= λ line. Ok (min (length line) (2 ^ 64 - 1))) (Ok len)
entry_len lead operator place head words closing charstring len e is =
    rw (entry_coded lead operator place head words closing) (line_of operator head closing lead len charstring place (encrypted_words lead words) e is)

line_refused : (operator head closing : List ℕ) (place : Place) (coded : Result (List ℕ) Code) (fault : Fault)
    → ◌≡◌ {A = Result ℕ Fault} (reported_at place (coded >>= λ c. Ok (length c))) (Err fault)
    → ◌≡◌ {A = Result ℕ Fault} ((reported_at place coded >>= λ code. Ok (entry_text head operator code closing)) >>= λ line. Ok (min (length line) (2 ^ 64 - 1))) (Err fault)
line_refused operator head closing place (Ok code) fault e = absurd (cc)
line_refused operator head closing place (Err code) fault e = let same : fault_at place code ≡ fault = cc in ap (λ f. Err f) same

-- the fault of an entry whose charstring has no length
pub entry_refused : (lead : ℕ) (operator : List ℕ) (place : Place) (head : List ℕ) (words : List (List ℕ)) (closing : List ℕ) (refused : Refusal)
    → Refuses refused (reported_at place (charstring_length lead words))
    → Refuses {Y = ℕ} refused (entry_line lead operator place head words closing >>= λ line. Ok (min (length line) (2 ^ 64 - 1)))
entry_refused lead operator place head words closing refusals.Memory h = tt
entry_refused lead operator place head words closing (refusals.Fault fault) h =
    rw (entry_coded lead operator place head words closing) (line_refused operator head closing place (encrypted_words lead words) fault h)
