use Rattle.std.proofs.Common.{◌<◌, ℕ}
use Rattle.std.proofs.lemmas.List.Elements.{All-from_get_or}
use Rattle.edif_parts.proofs.texts.text_of.Goals as goal

pub returns-clause-typed : goal.returns-clause-typed
returns-clause-typed c =
    let P : ℕ → Type 0 = λ b. b < 256 in
    All-from_get_or P c.args.bytes.now 0 (λ i l. (c.type_inv.bytes i).fits)
