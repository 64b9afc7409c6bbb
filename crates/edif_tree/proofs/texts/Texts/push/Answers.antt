use Rattle.std.proofs.Common.{◌≡◌, ◌+◌, length, arith}
use Rattle.edif_tree.proofs.StringLemmas.{text_added}
use Rattle.edif_tree.proofs.texts.Texts.push.Goals as goal

pub invariant_of-self : goal.invariant_of-self
invariant_of-self c =
    let end : c.in_ok-end.end ≡ length c.self.inside.bytes.items + length c.args.text.now = omega (arith, c.in_ok-end.ensures, c.len.ensures) in
    (text_added c.self.inside.bytes.items c.self.inside.ends.items c.args.text.now c.in_ok-end.end c.add_text.new.bytes.items c.add_text.new.ends.items c.args.self.now c.add_text.result c.self.view_is c.self.invariant end
    c.add_text.ensures.bytes c.add_text.ensures.ends c.add_text.ensures.err_bytes c.add_text.ensures.err_ends).within

pub returns-clause-ok : goal.returns-clause-ok
returns-clause-ok c =
    let end : c.in_ok-end.end ≡ length c.self.inside.bytes.items + length c.args.text.now = omega (arith, c.in_ok-end.ensures, c.len.ensures) in
    (text_added c.self.inside.bytes.items c.self.inside.ends.items c.args.text.now c.in_ok-end.end c.add_text.new.bytes.items c.add_text.new.ends.items c.args.self.now c.add_text.result c.self.view_is c.self.invariant end
    c.add_text.ensures.bytes c.add_text.ensures.ends c.add_text.ensures.err_bytes c.add_text.ensures.err_ends).ok
