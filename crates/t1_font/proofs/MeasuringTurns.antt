-- The glyphs of a source whose bodies have no fault, measured in turn.
use Rattle.std.proofs.Common.{◌≡◌, ◌∙◌, ℕ, Bool, true, false, cond, List, [], ◌∷◌, Option, Some, None, refl, sym, ap}
use Rattle.std.specs.Prelude.{Result, Ok, Err}
use Rattle.std.specs.Option.{option_or}
use Rattle.std.specs.Result.{result_ok}
use Rattle.std.specs.Str.{bytes_eq}
use Rattle.t1_frac.specs.declared.fault.Code.{Code}
use Rattle.t1_frac.specs.declared.fault.Place.{Place}
use Rattle.t1_frac.specs.declared.fault.Place.TheVariants as places
use Rattle.t1_frac.specs.Outcome.{reported_at, ◌>>=◌}
use Rattle.t1_parts.specs.declared.item.Item.{Item}
use Rattle.t1_parts.specs.declared.item.Item.TheVariants.{Plain, Section, Subr, Glyph}
use Rattle.t1_code.specs.declared.command.Command.{Command}
use Rattle.t1_code.specs.Words.{commands}
use Rattle.t1_run.specs.Run.{own}
use Rattle.t1_run.proofs.Parts.{own_parts}
use Rattle.t1_font.specs.Bodies.{bodies, bodies_check, glyph_among, words_check}
use Rattle.t1_font.specs.Glyphs.{glyph_names}
use Rattle.t1_font.specs.InTurn.{staying, RunsStay}
use Rattle.t1_font.specs.Runs.{NamedRun, drawing_in}
use Rattle.t1_font.specs.ToRun.{commands_or_none, font_to_run, glyph_to_run}
use Rattle.t1_font.proofs.Compiling.{none-there, same-maps}
use Rattle.t1_font.proofs.InTurnLaws.{names-known}
use Rattle.t1_font.proofs.Measuring.{KeepsOwn, first-ok, next-ok, own-none, own-same}

words-run : (place : Place) (words : List (List ℕ)) (rest : Option (List Command)) → words_check place words ≡ Ok tt
    → Some (commands_or_none (commands words)) ≡ option_or (result_ok (commands words)) rest
unfolding words_check
words-run place words rest e = by (commands words) e where
  by : (r : Result (List Command) Code) → (reported_at place r >>= (λ _. Ok (tt {0}))) ≡ Ok (tt {0}) → Some (commands_or_none r) ≡ option_or (result_ok r) rest
  by (Ok body) e = refl
  by (Err code) e = absurd (cc)

-- where no body has a fault, what is run are the bodies
pub glyphs-run : (items : List Item) (g : List ℕ) → bodies_check items ≡ Ok tt → glyph_to_run items g ≡ glyph_among items g
glyphs-run [] g e = refl
glyphs-run (Plain line ∷ items) g e = glyphs-run items g e
glyphs-run (Section before count after ∷ items) g e = glyphs-run items g e
glyphs-run (Subr number words closing ∷ items) g e = glyphs-run items g (next-ok (words_check (places.Subr number) words) (bodies_check items) tt e)
glyphs-run (Glyph name words closing ∷ items) g e =
    let below = glyphs-run items g (next-ok (words_check (places.Glyph name) words) (bodies_check items) tt e) in
    let here = words-run (places.Glyph name) words (glyph_among items g) (first-ok (words_check (places.Glyph name) words) (bodies_check items) tt e) in
    ap (cond (bytes_eq g name) (Some (commands_or_none (commands words)))) below
    ∙ by (bytes_eq g name) (Some (commands_or_none (commands words))) (result_ok (commands words)) (glyph_among items g) here
  where
    by : (b : Bool) (x r rest : Option (List Command)) → x ≡ option_or r rest → cond b x rest ≡ option_or (cond b r None) rest
    by true x r rest h = h
    by false x r rest h = refl

pub runs-own : (items : List Item) → bodies_check items ≡ Ok tt → KeepsOwn (own (font_to_run items)) items
runs-own items e g = own-same (font_to_run items) (bodies items) g (same-maps (font_to_run items) (bodies items) (λ n. refl) (λ h. glyphs-run items h e))

pub runs-stay : (items : List Item) (runs : List NamedRun) → ((g : List ℕ) → drawing_in runs g ≡ staying (own (font_to_run items)) (glyph_names items) g)
    → RunsStay (own (font_to_run items)) (glyph_names items) runs
runs-stay items runs kept = record {
  kept = kept;
  parts = own_parts (font_to_run items);
  absent = λ g. λ h. own-none (font_to_run items) g (none-there (glyph_to_run items g) (sym (names-known items g) ∙ h));
}
