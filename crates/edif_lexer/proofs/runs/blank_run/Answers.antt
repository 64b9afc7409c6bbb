use Rattle.std.proofs.Common.{ℕ, List, take, bit_and, refl}
use Rattle.std.proofs.lemmas.List.{length-take-le}
use Rattle.std.proofs.lemmas.Simd.{zip2_splat}
use Rattle.edif_spelling_spec.specs.Bytes.{is_space}
use Rattle.byte_lanes.proofs.LaneLemmas.{both, front_in}
use Rattle.edif_lexer.proofs.runs.blank_run.Goals as goal

pub returns : goal.returns
returns c =
    let v : List ℕ = take 16 c.args.bytes.now in
    let long = length-take-le 16 c.args.bytes.now c.requires in
    let seen = both bit_and _ _ v (zip2_splat {Y = ℕ} _ v 16 32 long) (zip2_splat {Y = ℕ} _ v 16 10 long) in
    let mark = both bit_and _ _ v (zip2_splat {Y = ℕ} _ v 16 9 long) (zip2_splat {Y = ℕ} _ v 16 13 long) in
    front_in is_space _ c.args.bytes.now _ _ c.requires c.type_inv.bytes c.first_set.ensures (both bit_and _ _ v seen mark) refl
