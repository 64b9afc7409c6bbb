use Rattle.std.proofs.Common.{ℕ, List, take, bit_or, refl}
use Rattle.std.proofs.lemmas.List.{length-take-le}
use Rattle.std.proofs.lemmas.Simd.{zip2_splat}
use Rattle.edif_lexer.specs.Lanes.{is_plain}
use Rattle.byte_lanes.proofs.LaneLemmas.{both, front_in}
use Rattle.edif_lexer.proofs.runs.plain_run.Goals as goal

pub returns : goal.returns
returns c =
    let v : List ℕ = take 16 c.args.bytes.now in
    let long = length-take-le 16 c.args.bytes.now c.requires in
    let stops = both bit_or _ _ v (zip2_splat {Y = ℕ} _ v 16 34 long) (zip2_splat {Y = ℕ} _ v 16 37 long) in
    front_in is_plain _ c.args.bytes.now _ _ c.requires c.type_inv.bytes c.first_set.ensures stops refl
