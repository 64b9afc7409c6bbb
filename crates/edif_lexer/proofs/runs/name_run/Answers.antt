use Rattle.std.proofs.Common.{ℕ, List, take, leb, cond, bit_and, refl}
use Rattle.std.proofs.lemmas.List.{length-take-le}
use Rattle.std.proofs.lemmas.Simd.{zip2_splat}
use Rattle.netlist_schema.specs.Ident.{is_identifier_byte}
use Rattle.byte_lanes.proofs.LaneLemmas.{both, front_in, splat_is}
use Rattle.edif_lexer.proofs.runs.name_run.Goals as goal

pub returns : goal.returns
returns c =
    let v : List ℕ = take 16 c.args.bytes.now in
    let long = length-take-le 16 c.args.bytes.now c.requires in
    let letter = both (λ a b. cond (leb a b) 255 0) _ _ v (splat_is v 16 26 long) (both _ _ _ v (zip2_splat {Y = ℕ} _ v 16 32 long) (splat_is v 16 97 long)) in
    let digit = both (λ a b. cond (leb a b) 255 0) _ _ v (splat_is v 16 10 long) (zip2_splat {Y = ℕ} _ v 16 48 long) in
    front_in is_identifier_byte _ c.args.bytes.now _ _ c.requires c.type_inv.bytes c.first_set.ensures (both bit_and _ _ v (both bit_and _ _ v letter digit) (zip2_splat {Y = ℕ} _ v 16 95 long)) refl
