use Rattle.std.proofs.Common.{◌≡◌, ◌∙◌, length, arith}
use Rattle.edif_tree.proofs.StringLemmas.{count_is}
use Rattle.edif_tree.proofs.texts.Texts.len.Goals as goal

pub returns : goal.returns
returns c =
    let count : c.len.result ≡ length c.self.inside.ends.items = omega (arith, c.len.ensures) in
    count ∙ count_is c.self.inside.bytes.items c.self.inside.ends.items c.args.self.now c.self.view_is
