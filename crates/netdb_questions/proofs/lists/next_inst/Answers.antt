use Rattle.std.proofs.Common.{◌≡◌, ℕ, List, [], ◌∷◌, ◌++◌, ◌∙◌, ap, refl, slice_get, subst, sym}
use Rattle.std.specs.Prelude.{IsSome}
use Rattle.ask_spec.specs.Places.{insts_of}
use Rattle.netdb_questions.specs.Items.{occurrence_item}
use Rattle.netdb_questions.specs.Lists.{insts_left}
use Rattle.netdb_questions.proofs.ListLemmas.{inst_none, inst_step}
use Rattle.netdb_questions.proofs.lists.next_inst.Goals as goal

pub returns-in_default : goal.returns-in_default
returns-in_default c =
    let none = inst_none c.args.ask.now c.args.path.now c.args.place.now (slice_get (insts_of c.args.ask.now c.args.path.now) c.args.place.now) refl (sym c.inst_cell.ensures.found ∙ c.in_default.is) in
    (none, none)

pub place_behind-requires : goal.place_behind-requires
place_behind-requires c = c.inst_cell.ensures.room (subst IsSome (sym c.in-Some.is) refl)

pub returns : goal.returns
returns c =
    let d = c.args.ask.now in
    let path = c.args.path.now in
    let place = c.args.place.now in
    let below : c.as_slice.result.now ≡ path ++ place ∷ [] = c.as_slice.ensures.value ∙ c.in_ok-below.ensures in
    let item_is : c.in_ok-item.item ≡ occurrence_item d (path ++ place ∷ []) c.in-Some.cell = c.in_ok-item.ensures ∙ ap (λ (p : List ℕ). occurrence_item d p c.in-Some.cell) below in
    inst_step d path place (slice_get (insts_of d path) place) refl c.in-Some.cell (sym c.inst_cell.ensures.found ∙ c.in-Some.is)
    ∙ (λ k. (sym item_is) k ∷ insts_left d path ((sym c.place_behind.ensures) k))
