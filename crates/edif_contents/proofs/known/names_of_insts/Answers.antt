use Rattle.std.proofs.Common.{◌≡◌, ◌+◌, ◌++◌, ℕ, List, Some, drop, sym, ap, ◌∙◌, subst, arith}
use Rattle.edif_spec.specs.Design as design
use Rattle.edif_parts.specs.Names.{ids}
use Rattle.edif_contents.proofs.InstNames.{all_named, name_new, one_named}
use Rattle.edif_contents.proofs.known.names_of_insts.Goals as goal

pub loop-place-init : goal.loop-place-init
loop-place-init c = ap (λ (v : List (List ℕ × ℕ)). ids v ++ design.inst_ids c.args.insts.now) c.new-names.ensures

pub define_new-requires : goal.define_new-requires
define_new-requires c = name_new c.args.insts.now c.loop-place.place c.deref.result.now c.loop-place.names (c.at.ensures.there ∙ ap Some (sym c.deref.ensures)) c.requires c.loop-place.invariant

pub loop-place-preserved : goal.loop-place-preserved
loop-place-preserved c =
    let insts = c.args.insts.now in
    let place = c.loop-place.place in
    let P : List (List ℕ × ℕ) → Type 0 = λ v. ids v ++ design.inst_ids (drop (place + 1) insts) ≡ design.inst_ids insts in
    subst P (sym c.in_ok-define_new.ensures) (one_named insts place c.deref.result.now c.loop-place.names place (c.at.ensures.there ∙ ap Some (sym c.deref.ensures)) c.loop-place.invariant)

pub returns : goal.returns
returns c = all_named c.args.insts.now c.loop-place.place c.loop-place.names (omega arith) c.loop-place.invariant
