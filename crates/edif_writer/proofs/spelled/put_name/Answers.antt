use Rattle.std.proofs.Common.{◌∷◌, ap, sym, ◌∙◌}
use Rattle.std.specs.Prelude.{cond}
use Rattle.netdb_outside.proofs.BufferedLemmas.{writes_then, writes_same}
use Rattle.edif_writer.proofs.spelled.put_name.Goals as goal

pub returns-else-begins_with_letter : goal.returns-else-begins_with_letter
returns-else-begins_with_letter g c =
    let name = c.args.name.now in
    writes_same (ap (λ b. cond b name (38 ∷ name)) (sym c.if-begins_with_letter.false) ∙ sym c.begins_with_letter.ensures)
    (writes_then c.put-else-begins_with_letter.ensures c.put-else-begins_with_letter-2.ensures)
