-- How a conversation goes on, by one byte, by one line and by one piece.
use Rattle.std.proofs.Common.{◌≡◌, ◌∙◌, inr, ℕ, Bool, true, false, List, [], ◌∷◌, ◌++◌, append_assoc, append-nil, refl, sym, ap}
use Rattle.std.specs.Prelude.{Option, Some, None, ◌==◌, Result, Ok, Err}
use Rattle.t1_code.specs.Counted.{Tally}
use Rattle.t1_frac.specs.Words.{words}
use Rattle.t1_session.specs.Flushing.{WritesAndFlushes}
use Rattle.t1_session.specs.declared.error.ServeError.{ServeError}
use Rattle.t1_session.specs.declared.error.ServeError.TheVariants as errors
use Rattle.t1_commands.specs.declared.command.SessionCommand.{SessionCommand}
use Rattle.t1_text.specs.Lines.{unified}
use Rattle.t1_commands.specs.Lines.{finished_lines}
use Rattle.t1_commands.specs.Commands.{OpenCommand, commands_of, takes_body, alone, ends_body, body_command, open_command}
use Rattle.t1_commands.specs.AnswerTexts.{answer_text}
use Rattle.t1_commands.specs.Answers.{answers, answer_to}
use Rattle.t1_session.specs.Machine.{machine}
use Rattle.t1_session.specs.State.{SessionState}
use Rattle.t1_session.specs.Conversation.{Conversation, commands_from, input_after, is_unbroken, Performs, Goes, Grows, IsQuiet, AnswersCommand, LineGoes, EndsCommandLine, IsBodyLine, EndsLine, Answered, StopsForRoom, Feeds, AnswersTheEnd}
use Rattle.t1_session.specs.LineEnds.{ends_line, ends_in_return}
use Rattle.t1_session.proofs.Flushing.{flushes-none, flushes-append, flushes-fails}
use Rattle.t1_session.proofs.LineLaws.{finished_lines-line, finished_lines-unbroken, finished_lines-last, last_line, unified-byte, unified-end, is_unbroken-push}

-- a body that is open is no command before the input ends
none_more : (o : Option OpenCommand) → commands_of false o [] ≡ []
none_more None = refl
none_more (Some o) = refl

silent : (a : Bool) → input_after a [] ≡ []
silent true = refl
silent false = refl

pub quiet : (c : Conversation) → is_unbroken c.line ≡ true → IsQuiet c
unfolding commands_from
quiet c h = rw (silent c.after_return, append-nil c.line, finished_lines-unbroken c.line h, none_more c.opening) refl

Performs-none : (s : SessionState) → Performs s s [] []
Performs-none s = record { marks = []; on = λ rest more. refl }

Performs-one : (s new : SessionState) (q : SessionCommand) (mark : Bool) → new ≡ (answer_to machine s q mark).next → Performs s new (q ∷ []) (answer_text (answer_to machine s q mark).answer)
Performs-one s new q mark next = record { marks = mark ∷ []; on = λ rest more. rw next refl }

Performs-both : (a b c : SessionState) (made others : List SessionCommand) (t u : List ℕ) → Performs a b made t → Performs b c others u → Performs a c (made ++ others) (t ++ u)
Performs-both a b c made others t u p q = record {
  marks = p.marks ++ q.marks;
  on = λ rest more.
      rw (append_assoc made others rest, append_assoc p.marks q.marks more)
      (p.on (others ++ rest) (q.marks ++ more) ∙ ap (λ s. t ++ s) (q.on rest more) ∙ sym (append_assoc t u (answers machine c rest more)));
}

ends_in_return-append : (before : Bool) (xs ys : List ℕ) → ends_in_return before (xs ++ ys) ≡ ends_in_return (ends_in_return before xs) ys
ends_in_return-append before [] ys = refl
ends_in_return-append before (x ∷ xs) ys = ends_in_return-append (x == 13) xs ys

pub Goes-none : (c : Conversation) → Goes c c [] []
Goes-none c = record { made = []; spells = λ rest ended. refl; performs = Performs-none c.state; returned = refl }

pub Goes-both : (a b c : Conversation) (x y t u : List ℕ) → Goes a b x t → Goes b c y u → Goes a c (x ++ y) (t ++ u)
Goes-both a b c x y t u p q = record {
  made = p.made ++ q.made;
  spells = λ rest ended.
      rw (append_assoc x y rest)
      (p.spells (y ++ rest) ended ∙ ap (λ l. p.made ++ l) (q.spells rest ended) ∙ sym (append_assoc p.made q.made (commands_from c rest ended)));
  performs = Performs-both a.state b.state c.state p.made q.made t u p.performs q.performs;
  returned = q.returned ∙ ap (λ r. ends_in_return r y) p.returned ∙ sym (ends_in_return-append a.after_return x y);
}

-- a byte of a line
pub Goes-byte : (c : Conversation) (b : ℕ) → (b == 13) ≡ false → (b == 10) ≡ false
    → Goes c (record c { line = c.line ++ b ∷ []; after_return = false }) (b ∷ []) []
unfolding commands_from
Goes-byte c b n13 n10 = record {
  made = [];
  spells = λ rest ended. rw (unified-byte c.after_return b rest n13 n10, append_assoc c.line (b ∷ []) (unified rest)) refl;
  performs = Performs-none c.state;
  returned = sym n13;
}

-- it finishes no command
pub byte_alone : (c : Conversation) (b : ℕ) → is_unbroken c.line ≡ true → (b == 13) ≡ false → (b == 10) ≡ false → commands_from c (b ∷ []) false ≡ []
unfolding commands_from Goes-byte
byte_alone c b h n13 n10 =
    (Goes-byte c b n13 n10).spells [] false ∙ quiet (record c { line = c.line ++ b ∷ []; after_return = false }) (is_unbroken-push c.line b h n10)

-- an LF after a CR
pub Goes-line_feed : (c : Conversation) → c.after_return ≡ true → Goes c (record c { after_return = false }) (10 ∷ []) []
unfolding commands_from
Goes-line_feed c h = record { made = []; spells = λ rest ended. rw h refl; performs = Performs-none c.state; returned = refl }

-- the end of a line
Goes-line : (c new : Conversation) (b : ℕ) (text : List ℕ) → is_unbroken c.line ≡ true → ends_line c.after_return b ≡ true
    → LineGoes (record c { after_return = b == 13 }) new text → Goes c new (b ∷ []) text
unfolding commands_from
Goes-line c new b text h ends goes = record {
  made = goes.made;
  spells = λ rest ended.
      rw (unified-end c.after_return b rest ends, finished_lines-line ended c.line (unified (input_after (b == 13) rest)) h)
      (goes.spells (finished_lines ended (unified (input_after (b == 13) rest))) ended ∙ rw (goes.no_line, goes.same) refl);
  performs = goes.performs;
  returned = goes.same;
}

-- that of a line that goes into a body finishes no command
line_alone : (c : Conversation) (b : ℕ) → is_unbroken c.line ≡ true → ends_line c.after_return b ≡ true → IsBodyLine c.opening c.line → commands_from c (b ∷ []) false ≡ []
unfolding commands_from
line_alone c b h ends body =
    rw (unified-end c.after_return b [] ends, finished_lines-line false c.line (unified (input_after (b == 13) [])) h, silent (b == 13), body.is, body.goes_on) refl

-- and leaves a command open
line_opens : (c : Conversation) (b : ℕ) → is_unbroken c.line ≡ true → ends_line c.after_return b ≡ true → (body : IsBodyLine c.opening c.line)
    → commands_from c (b ∷ []) true ≡ open_command (words body.opened.heading) ∷ []
unfolding commands_from
line_opens c b h ends body =
    rw (unified-end c.after_return b [] ends, finished_lines-line true c.line (unified (input_after (b == 13) [])) h, silent (b == 13), body.is, body.goes_on) refl

-- a line that only changes which body is being read
pub LineGoes-silent : (c new : Conversation) → ((lines : List (List ℕ)) (ended : Bool) → commands_of ended c.opening (c.line ∷ lines) ≡ commands_of ended new.opening lines)
    → new.state ≡ c.state → new.line ≡ [] → new.after_return ≡ c.after_return → LineGoes c new []
LineGoes-silent c new skip state no_line same = record {
  made = [];
  spells = skip;
  performs = rw state (Performs-none c.state);
  no_line = no_line;
  same = same;
}

LineGoes-answered : (c new : Conversation) (q : SessionCommand) (mark : Bool)
    → ((lines : List (List ℕ)) (ended : Bool) → commands_of ended c.opening (c.line ∷ lines) ≡ q ∷ commands_of ended new.opening lines)
    → new.line ≡ [] → new.after_return ≡ c.after_return → new.state ≡ (answer_to machine c.state q mark).next → LineGoes c new (answer_text (answer_to machine c.state q mark).answer)
LineGoes-answered c new q mark head no_line same next = record {
  made = q ∷ [];
  spells = head;
  performs = Performs-one c.state new.state q mark next;
  no_line = no_line;
  same = same;
}

-- what the end of the input makes of the last line, which has no end
at_end : (c : Conversation) → is_unbroken c.line ≡ true → commands_from c [] true ≡ commands_of true c.opening (last_line c.line)
unfolding commands_from
at_end c h = rw (silent c.after_return, append-nil c.line, finished_lines-last c.line h) refl

no_words : takes_body [] ≡ false
unfolding takes_body
no_words = refl

no_dot : ends_body [] ≡ false
unfolding ends_body
no_dot = refl

last_alone : (line : List ℕ) → takes_body (words line) ≡ false → commands_of true None (last_line line) ≡ alone (words line)
last_alone [] h = refl
last_alone (b ∷ bs) h = rw h (append-nil (alone (words (b ∷ bs))))

last_opens : (line : List ℕ) → takes_body (words line) ≡ true → commands_of true None (last_line line) ≡ open_command (words line) ∷ []
last_opens [] h = let t : true ≡ false = sym h ∙ no_words in cc
last_opens (b ∷ bs) h = rw h refl

last_ends : (o : OpenCommand) (line : List ℕ) → ends_body line ≡ true → commands_of true (Some o) (last_line line) ≡ body_command (words o.heading) o.body ∷ []
last_ends o [] h = let t : true ≡ false = sym h ∙ no_dot in cc
last_ends o (b ∷ bs) h = rw h refl

last_leaves : (o : OpenCommand) (line : List ℕ) → ends_body line ≡ false → commands_of true (Some o) (last_line line) ≡ open_command (words o.heading) ∷ []
last_leaves o [] h = refl
last_leaves o (b ∷ bs) h = rw h refl

pub alone_at_end : (c : Conversation) → is_unbroken c.line ≡ true → c.opening ≡ None → takes_body (words c.line) ≡ false → commands_from c [] true ≡ alone (words c.line)
alone_at_end c h k p = at_end c h ∙ rw k (last_alone c.line p)

pub opened_at_end : (c : Conversation) → is_unbroken c.line ≡ true → c.opening ≡ None → takes_body (words c.line) ≡ true → commands_from c [] true ≡ open_command (words c.line) ∷ []
opened_at_end c h k p = at_end c h ∙ rw k (last_opens c.line p)

pub body_at_end : (c : Conversation) (o : OpenCommand) → is_unbroken c.line ≡ true → c.opening ≡ Some o → ends_body c.line ≡ true → commands_from c [] true ≡ body_command (words o.heading) o.body ∷ []
body_at_end c o h k p = at_end c h ∙ rw k (last_ends o c.line p)

pub left_at_end : (c : Conversation) (o : OpenCommand) → is_unbroken c.line ≡ true → c.opening ≡ Some o → ends_body c.line ≡ false → commands_from c [] true ≡ open_command (words o.heading) ∷ []
left_at_end c o h k p = at_end c h ∙ rw k (last_leaves o c.line p)

module _ {W : Type 0} (contents : W → Option (List ℕ)) where
  -- nothing was taken in, and nothing written
  pub Answered-none : (c : Conversation) (sink : Tally W) → Answered contents c c sink sink []
  Answered-none c sink = record { text = []; goes = Goes-none c; written = flushes-none contents sink }

  -- memory was wanted for the first byte
  pub stopped_at_once : (c : Conversation) (sink : Tally W) (b : ℕ) → is_unbroken c.line ≡ true → commands_from c (b ∷ []) false ≡ [] → Grows c b
      → StopsForRoom contents c sink sink (b ∷ [])
  stopped_at_once c sink b h alone grows = record {
    front = [];
    byte = b;
    rest = [];
    parts = refl;
    reached = c;
    answered = Answered-none c sink;
    quiet = quiet c h;
    finishes_none = alone;
    grows = grows;
  }

  -- a byte that ends a line
  pub Feeds-ended : {T : Type 0} (c new : Conversation) (before after : Tally W) (b : ℕ) (r : Result T ServeError) → is_unbroken c.line ≡ true → ends_line c.after_return b ≡ true
      → EndsLine contents (record c { after_return = b == 13 }) new before after r → Feeds contents c new before after (b ∷ []) r
  Feeds-ended c new before after b (Ok done) h ends e = record { text = e.text; goes = Goes-line c new b e.text h ends e.goes; written = e.written }
  Feeds-ended c new before after b (Err errors.Memory) h ends e =
      rw e.0 (stopped_at_once c before b h (line_alone c b h ends e.1) (inr (ends, open_command (words e.1.opened.heading), line_opens c b h ends e.1)))
  Feeds-ended c new before after b (Err errors.Write) h ends e = record {
    front = b ∷ [];
    rest = [];
    parts = refl;
    reached = e.reached;
    text = e.text;
    goes = Goes-line c e.reached b e.text h ends e.goes;
    written = e.written;
  }
  Feeds-ended c new before after b (Err errors.Read) h ends e = absurd e
  Feeds-ended c new before after b (Err (errors.Load fault)) h ends e = absurd e

  -- the line of one command
  pub EndsCommandLine-answered : {T : Type 0} (c new : Conversation) (before after : Tally W) (q : SessionCommand) (r : Result T ServeError)
      → ((lines : List (List ℕ)) (ended : Bool) → commands_of ended c.opening (c.line ∷ lines) ≡ q ∷ commands_of ended new.opening lines)
      → new.line ≡ [] → new.after_return ≡ c.after_return → AnswersCommand contents c.state new.state before after q r → EndsCommandLine contents c new before after r
  EndsCommandLine-answered c new before after q (Ok done) head no_line same p = record {
    text = answer_text (answer_to machine c.state q p.mark).answer;
    goes = LineGoes-answered c new q p.mark head no_line same p.next;
    written = p.sends;
  }
  EndsCommandLine-answered c new before after q (Err errors.Memory) head no_line same p = absurd p.sends
  EndsCommandLine-answered c new before after q (Err errors.Write) head no_line same p = record {
    text = answer_text (answer_to machine c.state q p.mark).answer;
    reached = new;
    goes = LineGoes-answered c new q p.mark head no_line same p.next;
    written = p.sends;
  }
  EndsCommandLine-answered c new before after q (Err errors.Read) head no_line same p = absurd p.sends
  EndsCommandLine-answered c new before after q (Err (errors.Load fault)) head no_line same p = absurd p.sends

  pub EndsLine-command : {T : Type 0} (c new : Conversation) (before after : Tally W) (r : Result T ServeError) → EndsCommandLine contents c new before after r → EndsLine contents c new before after r
  EndsLine-command c new before after (Ok done) e = e
  EndsLine-command c new before after (Err errors.Memory) e = absurd e
  EndsLine-command c new before after (Err errors.Write) e = e
  EndsLine-command c new before after (Err errors.Read) e = absurd e
  EndsLine-command c new before after (Err (errors.Load fault)) e = absurd e

  -- the end of the input makes one command
  pub Ends-answered : {T : Type 0} (c : Conversation) (new : SessionState) (before after : Tally W) (q : SessionCommand) (r : Result T ServeError)
      → commands_from c [] true ≡ q ∷ [] → AnswersCommand contents c.state new before after q r → AnswersTheEnd contents c before after r
  Ends-answered c new before after q r one p =
      let text = answer_text (answer_to machine c.state q p.mark).answer in
      let all : answers machine c.state (commands_from c [] true) (p.mark ∷ []) ≡ text = rw one (append-nil text) in
      record { marks = p.mark ∷ []; sends = rw all p.sends }

  -- the end of the input makes none
  pub Ends-nothing : (c : Conversation) (sink : Tally W) → commands_from c [] true ≡ [] → AnswersTheEnd {T = Unit {0}} contents c sink sink (Ok tt)
  Ends-nothing c sink none = record { marks = []; sends = rw none (flushes-none contents sink) }

  -- a failed call after a first part that was taken
  pub Feeds-after : (T : Type 0) (a b new : Conversation) (first mid last : Tally W) (front piece rest whole text : List ℕ) (error : ServeError)
      → Goes a b front text → WritesAndFlushes contents first mid text → whole ≡ (front ++ piece) ++ rest
      → Feeds {T = T} contents b new mid last piece (Err error) → Feeds {T = T} contents a new first last whole (Err error)
  Feeds-after T a b new first mid last front piece rest whole text errors.Memory goes wrote parts e = record {
    front = front ++ e.front;
    byte = e.byte;
    rest = e.rest ++ rest;
    parts = parts ∙ ap (λ s. (front ++ s) ++ rest) e.parts ∙ simp append_assoc;
    reached = e.reached;
    answered = record {
      text = text ++ e.answered.text;
      goes = Goes-both a b e.reached front e.front text e.answered.text goes e.answered.goes;
      written = flushes-append contents first mid last text e.answered.text wrote e.answered.written;
    };
    quiet = e.quiet;
    finishes_none = e.finishes_none;
    grows = e.grows;
  }
  Feeds-after T a b new first mid last front piece rest whole text errors.Write goes wrote parts e = record {
    front = front ++ e.front;
    rest = e.rest ++ rest;
    parts = parts ∙ ap (λ s. (front ++ s) ++ rest) e.parts ∙ simp append_assoc;
    reached = e.reached;
    text = text ++ e.text;
    goes = Goes-both a b e.reached front e.front text e.text goes e.goes;
    written = flushes-fails contents first mid last text e.text wrote e.written;
  }
  Feeds-after T a b new first mid last front piece rest whole text errors.Read goes wrote parts e = absurd e
  Feeds-after T a b new first mid last front piece rest whole text (errors.Load fault) goes wrote parts e = absurd e
