-- Small kerning files.
use Rattle.std.specs.Prelude.{◌≡◌, pos, negsuc, [], ◌∷◌, Ok, Err, codes, refl}
use Rattle.std.specs.Fmt.{digits}
use Rattle.t1_frac.specs.declared.fault.Code.TheVariants.{F12, F13}
use Rattle.t1_frac.specs.declared.fault.Place.TheVariants.{Line}
use Rattle.t1_frac.specs.Numbers.{is_number_word}
use Rattle.t1_frac.specs.Outcome.{fault_at}
use Rattle.t1_pairs.specs.declared.pairs.Pair.{Pair}
use Rattle.t1_text.specs.Lines.{joined}
use Rattle.t1_pairs.specs.Kerning.{line_pairs, pairs, kern}

abbrev pub kern_av : Pair
kern_av = record { left = codes "A"; right = codes "V"; value = negsuc 91 }

pub fraction_kern : pairs (codes "KPX A V -9.5") ≡ Err (fault_at (Line 1) F12)
unfolding pairs line_pairs is_number_word
fraction_kern = refl

pub long_kern : pairs (joined (codes "x" ∷ codes "KPX A V 1 2" ∷ [])) ≡ Err (fault_at (Line 2) F12)
unfolding pairs line_pairs is_number_word
long_kern = refl

pub other_kern : pairs (codes "KP A V 1 2") ≡ Err (fault_at (Line 1) F13)
unfolding pairs line_pairs is_number_word
other_kern = refl

-- the later line counts; the printed order is that of the names
pub later_kern : pairs (joined (codes "KPX A V 7" ∷ codes "KPX A A 0" ∷ codes "Comment" ∷ codes " KPX A V -092 " ∷ []))
    ≡ Ok (record { left = codes "A"; right = codes "A"; value = pos 0 } ∷ kern_av ∷ [])
unfolding pairs line_pairs is_number_word
later_kern = refl

pub kern_text : kern (kern_av ∷ []) ≡ joined (codes "KPX A V -92" ∷ [])
unfolding digits
kern_text = refl
