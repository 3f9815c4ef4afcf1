use Rattle.std.proofs.Common.{codes, flat_map}
use Rattle.t1edit.specs.FaultLines.{subr_call_text}
use Rattle.t1edit.proofs.Texts.{four}
use Rattle.t1edit.proofs.fault_lines.push_chain.Goals as goal

pub returns : goal.returns
returns c =
    four c.args.text.now.items c.extend_from_slice.new.self.items c.extend_from_slice-2.new.self.items c.push_calls.new.text.items c.extend_from_slice-3.new.self.items (codes "    in glyph ")
    c.args.chain.now.glyph (flat_map subr_call_text c.args.chain.now.subrs) (codes "\n")
    c.in_ok-extend_from_slice.ensures.items (rw c.as_slice.ensures at c.in_ok-extend_from_slice-2.ensures.items) (rw c.as_slice-2.ensures at c.in_ok-push_calls.ensures)
    c.in_ok-extend_from_slice-3.ensures.items
