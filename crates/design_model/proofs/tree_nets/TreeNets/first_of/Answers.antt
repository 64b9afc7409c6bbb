use Rattle.std.proofs.Common.{◌∙◌, length, arith, sym, ap, slice_get}
use Rattle.std.proofs.lemmas.Result.{IfOk-weaker}
use Rattle.flat_spec.specs.Paths.{at_path}
use Rattle.design_model.proofs.TableLemmas.{first_within, first_read}
use Rattle.design_model.proofs.tree_nets.TreeNets.first_of.Goals as goal

pub index-requires : goal.index-requires
index-requires c =
    let at = ap (λ v. slice_get v c.place_of-place.result) (sym c.as_slice.ensures.value) ∙ c.place_of-place.ensures in
    let within = first_within c.requires.nets.0 c.args.self.now c.requires.nets.1 c.place_of-place.result c.index-first.result.now
    (at_path c.args.path.now c.args.net) at c.index-first.ensures in
    omega (arith, within, ap length c.as_slice.ensures.value, c.as_slice.ensures.len)

pub returns : goal.returns
returns c =
    let at = ap (λ v. slice_get v c.place_of-place.result) (sym c.as_slice.ensures.value) ∙ c.place_of-place.ensures in
    IfOk-weaker c.copy.result _ _
    (λ first made d are.
    made
    ∙ first_read d c.args.self.now are c.place_of-place.result c.index-first.result.now (at_path c.args.path.now c.args.net) c.index.result.now
    at c.index-first.ensures c.index.ensures)
    c.copy.ensures.same
