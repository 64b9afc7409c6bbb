use Rattle.std.proofs.Common.{◌≡◌, ◌∙◌, sym, length, arith}
use Rattle.std.proofs.lemmas.Result.{IfOk-weaker}
use Rattle.flat_spec.specs.Flattening.{flattening}
use Rattle.par_flat.specs.Parts.{AreJoined}
use Rattle.par_flat.specs.declared.cut.Cut.{Cut}
use Rattle.par_flat.proofs.PartLemmas.{all_parts}
use Rattle.par_flat.proofs.items.all_items.Goals as goal

pub returns : goal.returns
returns g c =
    let d = c.args.ground.now in
    let parts = c.in_ok-parts.parts in
    let cut : Cut = c.even_cut-cut.result in
    let long : length parts.items ≡ cut.workers = sym parts.ok.0 ∙ c.in_ok-parts.ensures.len in
    IfOk-weaker c.joined.result (λ all. AreJoined parts.items all.items) (λ items. items.items ≡ flattening d)
    (λ all are. are.items ∙ all_parts (flattening d) cut parts.items (let w = c.even_cut-cut.ensures.workers in let many = c.requires.many.0 in omega (arith, w, many)) long are.there c.in_ok-parts.ensures.each) c.joined.ensures
