use Rattle.std.proofs.Common.{◌≡◌, ◌∷◌, take, ◌∙◌, rules}
use Rattle.t1_disassemble.proofs.Reading.{known_more, number_more}
use Rattle.t1_disassemble.proofs.charstring.put_known.Goals as goal

pub loop-end-preserved-in-Some-known_word : goal.loop-end-preserved-in-Some-known_word
loop-end-preserved-in-Some-known_word c =
    let l = c.loop-end in
    let first : l.rest.now ≡ c.in-Some-known_word.word.now.first ∷ c.in-Some.after.now = search rules in record {
      same = λ text. known_more text (take l.end l.bytes) (take c.put_on.result.0 c.put_on.new.bytes) l.rest.now c.in-Some.after.now l.opened c.put_on.result.1 c.in-Some-known_word.word.now.first
          first (c.put_on.ensures.value l.opened c.in-Some.after.now l.invariant.blank) ∙ l.invariant.same text;
      blank = c.put_on.ensures.blank;
      within = c.put_on.ensures.within;
      shorter = search rules;
      size = c.put_on.ensures.size;
    }

pub loop-end-preserved : goal.loop-end-preserved
loop-end-preserved c =
    let l = c.loop-end in
    let found = c.in-Some-put_known_number in
    let first : l.rest.now ≡ c.in-Some.first.now ∷ c.in-Some.after.now = search rules in record {
      same = λ text. number_more text (take l.end l.bytes) (take found.put c.put_known_number.new.bytes) l.rest.now c.in-Some.after.now found.left.now l.opened c.in-Some.first.now
          first (found.ensures.value l.opened l.invariant.blank) ∙ l.invariant.same text;
      blank = found.ensures.blank;
      within = found.ensures.within;
      shorter = search rules;
      size = c.put_known_number.ensures.size;
    }
