use Rattle.std.proofs.Common.{ℕ, List, Result, subst}
use Rattle.t1_frac.specs.declared.fault.Fault.{Fault}
use Rattle.t1_code.specs.Parts.{Prints}
use Rattle.t1_commands.specs.AnswerParts.{data_of}
use Rattle.t1_font.specs.Assembly.{file_in}
use Rattle.t1_code.specs.Pfb.{pfb_of}
use Rattle.t1_session.specs.State.{SessionView}
use Rattle.t1_session.proofs.StateLaws.{data_blocks_scratch}
use Rattle.t1_session.proofs.session.Session.put_pfb.Goals as goal

pub returns : goal.returns
returns g c =
    let size = c.args.size in
    let is = data_blocks_scratch c.args.self.now.state size c.reads_back.ensures.faultless c.reads_back.ensures.source in
    subst (λ (text : Result (List ℕ) Fault). Prints g.W.Write.contents c.args.out.now c.write_held_file.new.out text c.write_held_file.result) is
    (subst (λ (v : SessionView). Prints g.W.Write.contents c.args.out.now c.write_held_file.new.out (file_in (λ clear private trailer. data_of (pfb_of size clear private trailer)) v.state.source) c.write_held_file.result) c.self.view_is c.write_held_file.ensures)
