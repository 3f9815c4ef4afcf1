-- A file as the data of an answer.
use Rattle.std.proofs.Common.{◌≡◌, ◌++◌, ◌∷◌, [], ℕ, List, Option, Result, Ok, Err, decimal, length, refl, ap, sym, ◌∙◌, subst}
use Rattle.std.specs.Prelude.{codes}
use Rattle.std.proofs.lemmas.List.{append_assoc}
use Rattle.t1_frac.specs.declared.fault.Fault.{Fault}
use Rattle.t1_code.specs.declared.outlet.Outlet.{Outlet}
use Rattle.t1_code.specs.declared.parts.OutError.{OutError}
use Rattle.t1_code.specs.declared.parts.OutError.TheVariants as out
use Rattle.t1_code.specs.Writing.{Passes, Stops}
use Rattle.t1_code.specs.Parts.{PassesFile, length_of}
use Rattle.t1_code.proofs.Writing.{passing, Written, Written-from, Written-step, Written-fails, Written-all}
use Rattle.t1_commands.specs.AnswerTexts.{data_text}
use Rattle.t1_commands.specs.AnswerParts.{data_head, data_of}

-- what stands around a file
data-parts : (bytes : List ℕ) → data_text bytes ≡ data_head (length bytes) ++ (bytes ++ 10 ∷ [])
data-parts bytes =
    let head = codes "data " ++ decimal (length bytes) in
    append_assoc head (10 ∷ bytes) (10 ∷ []) ∙ sym (append_assoc head (10 ∷ []) (bytes ++ 10 ∷ []))

known-file : (file : Result (List ℕ) Fault) (len : ℕ) → length_of file ≡ Ok len → (bytes : List ℕ) × (file ≡ Ok bytes) × (length bytes ≡ len)
known-file (Ok bytes) len h = let same : length bytes ≡ len = cc in (bytes, refl, same)
known-file (Err fault) len h = absurd (cc)

module _ {W : Type 0} (contents : W → Option (List ℕ)) (start headed : Outlet W) (file : Result (List ℕ) Fault) (len : ℕ) (known : length_of file ≡ Ok len) where
  begun : (bytes : List ℕ) → length bytes ≡ len → Written (passing contents) start start (data_text bytes) (data_head len ++ (bytes ++ 10 ∷ []))
  begun bytes is = Written-from (passing contents) start (data_text bytes) _ (data-parts bytes ∙ ap (λ (n : ℕ). data_head n ++ (bytes ++ 10 ∷ [])) is)

  after-head : (bytes : List ℕ) → length bytes ≡ len → Passes contents start headed (data_head len) → Written (passing contents) start headed (data_text bytes) (bytes ++ 10 ∷ [])
  after-head bytes is h = Written-step (passing contents) start start headed (data_text bytes) (data_head len) (bytes ++ 10 ∷ []) (begun bytes is) h

  -- the head fails
  pub head_fails : Stops contents start headed (data_head len) → PassesFile {T = Unit {0}} contents start headed (data_of file) (Err out.Write)
  head_fails h =
      let k = known-file file len known in
      (data_text k.0, ap data_of k.1, Written-fails (passing contents) start start headed (data_text k.0) (data_head len) (k.0 ++ 10 ∷ []) (begun k.0 k.2) h)

  same-file : (bytes other : List ℕ) → file ≡ Ok bytes → file ≡ Ok other → other ≡ bytes
  same-file bytes other p q = let same : ◌≡◌ {A = Result (List ℕ) Fault} (Ok other) (Ok bytes) = sym q ∙ p in cc

  -- the file fails
  pub file_fails : (done : Outlet W) (error : OutError) → Passes contents start headed (data_head len)
      → PassesFile {T = Unit {0}} contents headed done file (Err error) → PassesFile {T = Unit {0}} contents start done (data_of file) (Err error)
  file_fails done out.Write h f =
      let k = known-file file len known in
      let stopped = subst (Stops contents headed done) (same-file k.0 f.0 k.1 f.1) f.2 in
      (data_text k.0, ap data_of k.1, Written-fails (passing contents) start headed done (data_text k.0) k.0 (10 ∷ []) (after-head k.0 k.2 h) stopped)
  file_fails done (out.Fault fault) h f =
      let k = known-file file len known in
      let none : ◌≡◌ {A = Result (List ℕ) Fault} (Ok k.0) (Err fault) = sym k.1 ∙ f.0 in absurd (cc)
  file_fails done out.Memory h f = f

  after-file : (done : Outlet W) (x : Unit {0}) (bytes : List ℕ) → file ≡ Ok bytes → length bytes ≡ len → Passes contents start headed (data_head len) → PassesFile contents headed done file (Ok x)
      → Written (passing contents) start done (data_text bytes) (10 ∷ [])
  after-file done x bytes is len_is h f =
      Written-step (passing contents) start headed done (data_text bytes) bytes (10 ∷ []) (after-head bytes len_is h)
      (subst (Passes contents headed done) (same-file bytes f.0 is f.1) f.2)

  -- the line end fails
  pub end_fails : (done ended : Outlet W) (x : Unit {0}) → Passes contents start headed (data_head len) → PassesFile contents headed done file (Ok x)
      → Stops contents done ended (10 ∷ []) → PassesFile {T = Unit {0}} contents start ended (data_of file) (Err out.Write)
  end_fails done ended x h f e =
      let k = known-file file len known in
      (data_text k.0, ap data_of k.1, Written-fails (passing contents) start done ended (data_text k.0) (10 ∷ []) [] (after-file done x k.0 k.1 k.2 h f) e)

  -- all went out
  pub all_passes : (done ended : Outlet W) (x y : Unit {0}) → Passes contents start headed (data_head len) → PassesFile contents headed done file (Ok x)
      → Passes contents done ended (10 ∷ []) → PassesFile contents start ended (data_of file) (Ok y)
  all_passes done ended x y h f e =
      let k = known-file file len known in (
        data_text k.0,
        ap data_of k.1,
        Written-all (passing contents) start ended (data_text k.0)
            (Written-step (passing contents) start done ended (data_text k.0) (10 ∷ []) [] (after-file done x k.0 k.1 k.2 h f) e),
      )
