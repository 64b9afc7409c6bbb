use Rattle.std.proofs.Common.{ℕ, List, take, leb, cond, bit_or, refl}
use Rattle.std.proofs.lemmas.List.{length-take-le}
use Rattle.std.proofs.lemmas.Simd.{zip2_splat}
use Rattle.byte_lanes.proofs.LaneLemmas.{both, front_in, splat_is}
use Rattle.edif_spec.specs.Canonical.{is_plain}
use Rattle.edif_names.proofs.plain.plain_run.Goals as goal

pub returns : goal.returns
returns c =
    let v : List ℕ = take 16 c.args.bytes.now in
    let long = length-take-le 16 c.args.bytes.now c.requires in
    let out = both (λ a b. cond (leb a b) 255 0) _ _ v (splat_is v 16 95 long) (zip2_splat {Y = ℕ} _ v 16 32 long) in
    let mark = both bit_or _ _ v (zip2_splat {Y = ℕ} _ v 16 34 long) (zip2_splat {Y = ℕ} _ v 16 37 long) in
    front_in is_plain _ c.args.bytes.now _ _ c.requires c.type_inv.bytes c.first_set.ensures (both bit_or _ _ v out mark) refl
