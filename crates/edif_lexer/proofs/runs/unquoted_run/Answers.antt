use Rattle.std.proofs.Common.{ℕ, List, not, take, refl}
use Rattle.std.proofs.lemmas.List.{length-take-le}
use Rattle.std.proofs.lemmas.Simd.{zip2_splat}
use Rattle.edif_spelling_spec.specs.Bytes.{is_quote}
use Rattle.byte_lanes.proofs.LaneLemmas.{front_in}
use Rattle.edif_lexer.proofs.runs.unquoted_run.Goals as goal

pub returns : goal.returns
returns c =
    let v : List ℕ = take 16 c.args.bytes.now in
    let long = length-take-le 16 c.args.bytes.now c.requires in
    front_in (λ b. not (is_quote b)) _ c.args.bytes.now _ _ c.requires c.type_inv.bytes c.first_set.ensures (zip2_splat {Y = ℕ} _ v 16 34 long) refl
