-- A whole session, from its parts.
use Rattle.std.proofs.Common.{◌≡◌, ◌∙◌, inl, inr, ℕ, Bool, true, false, List, [], ◌∷◌, ◌++◌, append_assoc, append-nil, refl, sym, ap}
use Rattle.std.specs.Prelude.{Option, Result, Ok, Err}
use Rattle.std.specs.Io.KnownBytes.{IsAtEnd}
use Rattle.t1_frac.specs.declared.fault.Fault.{Fault}
use Rattle.t1_code.specs.Counted.{Tally}
use Rattle.t1_code.proofs.Writing.{WritesFront-longer}
use Rattle.t1_session.specs.Flushing.{WritesAndFlushes}
use Rattle.t1_session.specs.declared.error.ServeError.{ServeError}
use Rattle.t1_session.specs.declared.error.ServeError.TheVariants as errors
use Rattle.t1_commands.specs.Commands.{input_commands}
use Rattle.t1_commands.specs.Answers.{answers, session_answers}
use Rattle.t1_session.specs.Machine.{machine}
use Rattle.t1_session.specs.State.{SessionState}
use Rattle.t1_session.specs.Conversation.{Conversation, fresh, commands_from, Goes, Grows, IsQuiet, Feeds, AnswersTheEnd}
use Rattle.t1_session.specs.LineEnds.{ends_line}
use Rattle.t1_session.specs.Serving.{Streams, Reads, ReadsAndFails, StopsAtRead, WantsRoom, Converses, Serves}
use Rattle.t1_session.proofs.Flushing.{flushes-append, flushes-fails}
use Rattle.t1_session.proofs.Conversations.{Goes-both}

-- before the first byte all commands of the input are to come
from_fresh : (s : SessionState) (input : List ℕ) (ended : Bool) → commands_from (fresh s) input ended ≡ input_commands ended input
unfolding commands_from
from_fresh s input ended = refl

module _ (s : SessionState) (c : Conversation) (input text : List ℕ) (goes : Goes (fresh s) c input text) where
  -- the commands of what was read and of what follows
  pub spelled : (rest : List ℕ) (ended : Bool) → input_commands ended (input ++ rest) ≡ goes.made ++ commands_from c rest ended
  spelled rest ended = sym (from_fresh s (input ++ rest) ended) ∙ goes.spells rest ended

  spelled_alone : (ended : Bool) → input_commands ended input ≡ goes.made ++ commands_from c [] ended
  spelled_alone ended = ap (input_commands ended) (sym (append-nil input)) ∙ spelled [] ended

  -- what was written so far is the answer to what was read, as input that goes on
  answered_so_far : IsQuiet c → session_answers machine s input false (goes.performs.marks ++ []) ≡ text
  answered_so_far q =
      ap (λ cs. answers machine s cs (goes.performs.marks ++ [])) (spelled_alone false ∙ ap (λ cs. goes.made ++ cs) q) ∙ goes.performs.on [] [] ∙ append-nil text

  -- what was written so far begins the answer to what was read and what follows
  answered_with : (rest : List ℕ) (ended : Bool) (more : List Bool)
      → session_answers machine s (input ++ rest) ended (goes.performs.marks ++ more) ≡ text ++ answers machine c.state (commands_from c rest ended) more
  answered_with rest ended more = ap (λ cs. answers machine s cs (goes.performs.marks ++ more)) (spelled rest ended) ∙ goes.performs.on (commands_from c rest ended) more

  answered_to_end : (more : List Bool)
      → session_answers machine s input true (goes.performs.marks ++ more) ≡ text ++ answers machine c.state (commands_from c [] true) more
  answered_to_end more = ap (λ cs. answers machine s cs (goes.performs.marks ++ more)) (spelled_alone true) ∙ goes.performs.on (commands_from c [] true) more

  -- a byte that finishes no command
  unfinished : (b : ℕ) → IsQuiet c → commands_from c (b ∷ []) false ≡ [] → input_commands false (input ++ b ∷ []) ≡ input_commands false input
  unfinished b q alone = spelled (b ∷ []) false ∙ ap (λ cs. goes.made ++ cs) (alone ∙ sym q) ∙ sym (spelled_alone false)

  -- a byte for which memory is wanted
  room : (b : ℕ) → commands_from c (b ∷ []) false ≡ [] → Grows c b → WantsRoom input b
  room b alone (inl other) = inl other
  room b alone (inr e) = inr (
    ap (λ r. ends_line r b) (sym goes.returned) ∙ e.0,
    record {
      left = e.1;
      more = spelled (b ∷ []) true ∙ ap (λ cs. goes.made ++ cs) e.2
          ∙ sym (ap (λ cs. cs ++ e.1 ∷ []) (spelled (b ∷ []) false ∙ ap (λ cs. goes.made ++ cs) alone ∙ append-nil goes.made));
    },
  )

module _ {R W : Type 0} (remaining : R → Option (List ℕ)) (contents : W → Option (List ℕ)) where
  pub stopped_at_read : (s : SessionState) (c : Conversation) (old new : Streams R W) (input text : List ℕ) → Goes (fresh s) c input text → IsQuiet c
      → ReadsAndFails remaining old.reader new.reader input → WritesAndFlushes contents old.writer new.writer text → StopsAtRead remaining contents s old new
  stopped_at_read s c old new input text goes q read wrote = record {
    input = input;
    marks = goes.performs.marks ++ [];
    reads = read;
    writes = rw (answered_so_far s c input text goes q) wrote;
  }

  -- the input was read to its end
  pub Converses-ended : {T : Type 0} (s : SessionState) (c : Conversation) (old new : Streams R W) (mid : Tally W) (input text : List ℕ) (r : Result T ServeError)
      → Goes (fresh s) c input text → Reads remaining old.reader new.reader input → IsAtEnd (remaining new.reader.inner) → WritesAndFlushes contents old.writer mid text
      → AnswersTheEnd contents c mid new.writer r → Converses remaining contents s old new r
  Converses-ended s c old new mid input text (Ok done) goes read at_end wrote e = record {
    input = input;
    marks = goes.performs.marks ++ e.marks;
    reads = read;
    at_end = at_end;
    writes = rw (answered_to_end s c input text goes e.marks)
        (flushes-append contents old.writer mid new.writer text (answers machine c.state (commands_from c [] true) e.marks) wrote e.sends);
  }
  Converses-ended s c old new mid input text (Err errors.Memory) goes read at_end wrote e = absurd e.sends
  Converses-ended s c old new mid input text (Err errors.Write) goes read at_end wrote e = record {
    input = input;
    marks = goes.performs.marks ++ e.marks;
    reads = read;
    writes = rw (answered_to_end s c input text goes e.marks)
        (flushes-fails contents old.writer mid new.writer text (answers machine c.state (commands_from c [] true) e.marks) wrote e.sends);
  }
  Converses-ended s c old new mid input text (Err errors.Read) goes read at_end wrote e = absurd e.sends
  Converses-ended s c old new mid input text (Err (errors.Load fault)) goes read at_end wrote e = absurd e.sends

  -- a piece of the input couldn't be answered
  pub Converses-fed : (T : Type 0) (s : SessionState) (c d : Conversation) (old new : Streams R W) (mid : Tally W) (input piece text : List ℕ) (error : ServeError)
      → Goes (fresh s) c input text → Reads remaining old.reader new.reader (input ++ piece) → WritesAndFlushes contents old.writer mid text
      → Feeds {T = T} contents c d mid new.writer piece (Err error) → Converses remaining contents {T = T} s old new (Err error)
  Converses-fed T s c d old new mid input piece text errors.Memory goes read wrote e =
      let front = e.front in
      let did = e.answered in
      let far = Goes-both (fresh s) c e.reached input front text did.text goes did.goes in
      let whole : (input ++ front) ++ e.byte ∷ e.rest ≡ input ++ piece = append_assoc input front (e.byte ∷ e.rest) ∙ ap (λ x. input ++ x) (sym e.parts) in
      record {
        front = input ++ front;
        byte = e.byte;
        rest = e.rest;
        marks = far.performs.marks ++ [];
        reads = rw whole read;
        wants_room = room s e.reached (input ++ front) (text ++ did.text) far e.byte e.finishes_none e.grows;
        finishes_none = unfinished s e.reached (input ++ front) (text ++ did.text) far e.byte e.quiet e.finishes_none;
        writes = rw (answered_so_far s e.reached (input ++ front) (text ++ did.text) far e.quiet) (flushes-append contents old.writer mid new.writer text did.text wrote did.written);
      }
  Converses-fed T s c d old new mid input piece text errors.Write goes read wrote e =
      let front = e.front in
      let rest = e.rest in
      let far = Goes-both (fresh s) c e.reached input front text e.text goes e.goes in
      let whole : input ++ piece ≡ (input ++ front) ++ rest = ap (λ x. input ++ x) e.parts ∙ sym (append_assoc input front rest) in
      let next = answers machine e.reached.state (commands_from e.reached rest true) [] in
      let all : session_answers machine s (input ++ piece) true (far.performs.marks ++ []) ≡ (text ++ e.text) ++ next =
      ap (λ x. session_answers machine s x true (far.performs.marks ++ [])) whole ∙ answered_with s e.reached (input ++ front) (text ++ e.text) far rest true [] in
      record {
        input = input ++ piece;
        marks = far.performs.marks ++ [];
        reads = read;
        writes = rw all (WritesFront-longer contents old.writer new.writer (text ++ e.text) next
            (flushes-fails contents old.writer mid new.writer text e.text wrote e.written));
      }
  Converses-fed T s c d old new mid input piece text errors.Read goes read wrote e = absurd e
  Converses-fed T s c d old new mid input piece text (errors.Load fault) goes read wrote e = absurd e

  -- memory was wanted before the session was open
  pub Serves-wanted : (T : Type 0) (opened : Result SessionState Fault) (old : Streams R W) → Serves remaining contents {T = T} opened old old (Err errors.Memory)
  Serves-wanted T (Ok s) old = inr refl
  Serves-wanted T (Err fault) old = (refl, tt)

  -- a session that opened
  pub Serves-opened : {T : Type 0} (opened : Result SessionState Fault) (s : SessionState) (old new : Streams R W) (r : Result T ServeError) → opened ≡ Ok s
      → Converses remaining contents s old new r → Serves remaining contents opened old new r
  Serves-opened opened s old new r is e = rw is (inl e)
