-- Words that pass on, a few at a time.
use Rattle.std.proofs.Common.{◌≡◌, ℕ, Bool, List, [], ◌∷◌, ◌++◌, take, Option, Ok, Err, sym, ap, ◌∙◌, subst, append_assoc}
use Rattle.t1_code.specs.declared.outlet.Outlet.{Outlet}
use Rattle.t1_code.specs.Writing.{Passes, Stops}
use Rattle.t1_code.proofs.Writing.{passing, Written, Written-step, Written-fails}
use Rattle.t1_disassemble.specs.declared.fault.FontCode.{FontCode}
use Rattle.t1_disassemble.specs.SoundWords.{sound_words}
use Rattle.t1_disassemble.specs.Waiting.{due, left_of}
use Rattle.t1_disassemble.specs.Words.{printed_words}
use Rattle.t1_disassemble.specs.WordsOnto.{put_first}
use Rattle.t1_disassemble.proofs.SoundWordLaws.{put_sound, put_unsound}
use Rattle.t1_disassemble.proofs.WaitingLaws.{due_left}

module _ {W : Type 0} (contents : W → Option (List ℕ)) (start old mid : Outlet W) (all bytes : List ℕ) (len : ℕ) (is_open : Bool) where
  -- what waits goes out first
  parted : (words : List ℕ) → take len bytes ++ words ≡ due len bytes ++ (take (left_of len) bytes ++ words)
  parted words = ap (λ (l : List ℕ). l ++ words) (sym (due_left len bytes)) ∙ append_assoc (due len bytes) (take (left_of len) bytes) words

  pub due_out : (words : List ℕ) → Written (passing contents) start old all (take len bytes ++ words) → Passes contents old mid (due len bytes)
      → Written (passing contents) start mid all (take (left_of len) bytes ++ words)
  due_out words w p =
      Written-step (passing contents) start old mid all (due len bytes) (take (left_of len) bytes ++ words) (subst (Written (passing contents) start old all) (parted words) w) p

  pub due_fails : (words : List ℕ) → Written (passing contents) start old all (take len bytes ++ words) → Stops contents old mid (due len bytes) → Stops contents start mid all
  due_fails words w p =
      Written-fails (passing contents) start old mid all (due len bytes) (take (left_of len) bytes ++ words) (subst (Written (passing contents) start old all) (parted words) w) p

  -- one word more waits
  pub word_put : (rest after : List ℕ) (first : ℕ) (x : List ℕ × Bool × List ℕ) → rest ≡ first ∷ after
      → Written (passing contents) start old all (take len bytes ++ printed_words is_open (sound_words rest)) → Passes contents old mid (due len bytes)
      → put_first (take (left_of len) bytes) is_open first after ≡ Ok x → Written (passing contents) start mid all (x.0 ++ printed_words x.1 (sound_words x.2))
  word_put rest after first x e w p put =
      subst (Written (passing contents) start mid all)
      (ap (λ (r : List ℕ). take (left_of len) bytes ++ printed_words is_open (sound_words r)) e ∙ put_sound (take (left_of len) bytes) is_open first after x put)
      (due_out (printed_words is_open (sound_words rest)) w p)

  -- no word more is there
  pub word_not_put : (rest after : List ℕ) (first : ℕ) (code : FontCode) → rest ≡ first ∷ after
      → Written (passing contents) start old all (take len bytes ++ printed_words is_open (sound_words rest)) → Passes contents old mid (due len bytes)
      → put_first (take (left_of len) bytes) is_open first after ≡ Err code → Written (passing contents) start mid all (take (left_of len) bytes ++ printed_words is_open [])
  word_not_put rest after first code e w p put =
      subst (Written (passing contents) start mid all)
      (ap (λ (r : List ℕ). take (left_of len) bytes ++ printed_words is_open (sound_words r)) e ∙ put_unsound (take (left_of len) bytes) is_open first after code put)
      (due_out (printed_words is_open (sound_words rest)) w p)
