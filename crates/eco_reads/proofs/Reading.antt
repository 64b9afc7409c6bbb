-- States after reads and writes, and operations that are done.
use Rattle.std.proofs.Common.{◌≡◌, ◌⊎◌, ◌↔◌, ◌≤◌, ◌+◌, ℕ, arith, length, take, length-append, inl, inr, ⊎_elim, List, [], ◌∷◌, Option, Some, None, refl, sym, ap, subst, ◌∙◌}
use Rattle.std.specs.Prelude.{IsSome, IsSomeAnd, MatchResult, Result, Ok, Err, option_map, option_to_list}
use Rattle.netlist_schema.specs.Design.{Design, insts_in, nets_in}
use Rattle.netlist_schema.specs.Types.{CellId, Contents, Note, Object}
use Rattle.netlist_schema.specs.Valid.{IsValid}
use Rattle.edit_rules_spec.specs.Edit.{Edit, edited, inner, noted}
use Rattle.edit_rules_spec.specs.Find.{cell_named, lib_named}
use Rattle.edit_rules_spec.specs.Edit.{IsChanged}
use Rattle.edit_rules_spec.specs.Reading.{IsFor, IsForCell, IsForName, IsInside as IsInsideOf}
use Rattle.edit_spec.specs.Needs.{Needs, Writes}
use Rattle.edit_rules_spec.specs.Rule.{Outcome, unless}
use Rattle.edit_rules_spec.specs.Seen.{contents_at}
use Rattle.edit_spec.specs.Rows.{outcome}
use Rattle.edit_spec.specs.Typed.{IsTypedOp}
use Rattle.edit_rules_spec.specs.declared.reply.CellName.{CellName}
use Rattle.edit_spec.specs.declared.ops.Op.{Op}
use Rattle.edit_rules_spec.specs.declared.reply.Reply.{Reply}
use Rattle.edit_rules_spec.specs.declared.reply.Reply.TheVariants.{Done}
use Rattle.edit_spec.proofs.Framed.{step_is_valid}
use Rattle.edit_cells.specs.Change.{CanBeMade, HasMade, edits_of}
use Rattle.edit_cells.specs.Parts.{IsFace, IsInside}
use Rattle.edit_cells.specs.State.{State, GrowsBy, HasRead, HasReadSome}
use Rattle.edit_cells.proofs.Growing.{cut_back, grows_by_none, grows_by_same, grows_then}
use Rattle.eco_reads.specs.Done.{IsDone, IsDoneOrFails}
use Rattle.eco_reads.specs.Plan.{CanBePut, HasPlace, IsGood, IsPlanned, IsPut, change_of, made_of, one_change}
use Rattle.eco_reads.specs.declared.plan.Plan.{Plan}
use Rattle.eco_reads.specs.declared.plan.Plan.TheVariants.{Whole, Net, Inst}

pub read_nothing : (s : State) (P : Object → Type 0) → ((o : Object) → ¬ P o) → HasRead s s P
read_nothing s P none = record { base = refl; design = refl; written = refl; reads = grows_by_none s.reads P none }

pub read_then : (s t u : State) (P Q R : Object → Type 0) → HasRead s t P → HasRead t u Q → ((o : Object) → (P o ⊎ Q o) ↔ R o) → HasRead s u R
read_then s t u P Q R first second same = record {
  base = second.base ∙ first.base;
  design = second.design ∙ first.design;
  written = second.written ∙ first.written;
  reads = grows_then s.reads t.reads u.reads P Q R first.reads second.reads same;
}

pub read_both : (s t u : State) (P Q : Object → Type 0) → HasRead s t P → HasRead t u Q → HasRead s u (λ o. P o ⊎ Q o)
read_both s t u P Q first second = read_then s t u P Q (λ o. P o ⊎ Q o) first second (λ o. (λ is. is, λ is. is))

-- an operation that changes nothing, and one that makes edits
pub done_read : (s u : State) (op : Op) (reply : Reply) (P : Object → Type 0) → HasRead s u P → ((o : Object) → P o ↔ Needs s.design op o) → outcome s.design op ≡ record { reply = reply; edits = [] } → IsDone s u op reply
done_read s u op reply P read needs comes = record {
  base = read.base;
  reply = sym (ap (λ (out : Outcome). out.reply) comes);
  design = read.design ∙ sym (ap (λ (out : Outcome). edited s.design out.edits) comes);
  reads = grows_by_same s.reads u.reads P (Needs s.design op) read.reads needs;
  written = subst (λ (ws : List Object). GrowsBy s.written ws (Writes s.design op)) (sym read.written)
      (grows_by_none s.written _ (λ o writes. subst (λ (out : Outcome). IsChanged out.edits o) comes writes));
}

pub done_made : (s u v : State) (op : Op) (reply : Reply) (edits : List Edit) (P : Object → Type 0) → HasRead s u P → ((o : Object) → P o ↔ Needs s.design op o) → outcome s.design op ≡ record { reply = reply; edits = edits } → HasMade u v edits → IsDone s v op reply
done_made s u v op reply edits P read needs comes made = record {
  base = made.base ∙ read.base;
  reply = sym (ap (λ (out : Outcome). out.reply) comes);
  design = made.design ∙ ap (λ (d : Design). edited d edits) read.design ∙ sym (ap (λ (out : Outcome). edited s.design out.edits) comes);
  reads = subst (λ (rs : List Object). GrowsBy s.reads rs (Needs s.design op)) (sym made.reads) (grows_by_same s.reads u.reads P (Needs s.design op) read.reads needs);
  written = subst (λ (es : List Edit). GrowsBy s.written v.written (IsChanged es)) (sym (ap (λ (out : Outcome). out.edits) comes))
      (subst (λ (ws : List Object). GrowsBy ws v.written (IsChanged edits)) read.written made.written);
}

-- an operation that is done leaves a valid design
pub made_valid : (s u : State) (op : Op) (reply : Reply) (edits : List Edit) (P : Object → Type 0) → IsTypedOp op → IsValid s.design → HasRead s u P → outcome s.design op ≡ record { reply = reply; edits = edits } → IsValid (edited u.design edits)
made_valid s u op reply edits P typed valid read comes =
    subst (λ (d : Design). IsValid (edited d edits)) (sym read.design)
    (subst (λ (out : Outcome). IsValid (edited s.design out.edits)) comes (step_is_valid s.design op typed valid))

-- a plan as edits
abbrev pub both_edits : CellId → Option (List Note) → Contents → List Edit
both_edits id notes made = inner id made ∷ option_to_list (option_map noted notes)

edits_of_plan : (d : Design) (id : CellId) (plan : Plan) (notes : Option (List Note)) → edits_of d (one_change (change_of id plan) notes) ≡ both_edits id notes (made_of plan (contents_at d id))
edits_of_plan d id (Whole contents) notes = refl
edits_of_plan d id (Net place net) notes = refl
edits_of_plan d id (Inst place inst) notes = refl

has_place : {P : Contents → Type 0} (o : Option Contents) → IsSome o → ((contents : Contents) → o ≡ Some contents → P contents) → IsSomeAnd o P
has_place None some each = cc
has_place (Some contents) some each = each contents refl

plan_can : (d : Design) (id : CellId) (plan : Plan) → IsSome (contents_at d id) → HasPlace plan (contents_at d id) → CanBeMade d (change_of id plan)
plan_can d id (Whole contents) some place = some
plan_can d id (Net place net) some within = has_place (contents_at d id) some (λ contents is. subst (λ (o : Option Contents). place ≤ length (nets_in o)) is within)
plan_can d id (Inst place inst) some within = has_place (contents_at d id) some (λ contents is. subst (λ (o : Option Contents). place ≤ length (insts_in o)) is within)

plan_comes : (d : Design) (op : Op) (id : CellId) (refusal : Option Reply) (new : Contents) (notes : Option (List Note)) (plan : Plan) → outcome d op ≡ unless refusal Done (both_edits id notes new) → refusal ≡ None → made_of plan (contents_at d id) ≡ new → outcome d op ≡ record { reply = Done; edits = edits_of d (one_change (change_of id plan) notes) }
plan_comes d op id refusal new notes plan comes none same =
    comes ∙ (λ i. unless (none i) Done (both_edits id notes (sym same i))) ∙ (λ i. let out : Outcome = record { reply = Done; edits = sym (edits_of_plan d id plan notes) i } in out)

-- a plan can be put in place
pub planned_can : (s u : State) (op : Op) (id : CellId) (P : Object → Type 0) (refusal : Option Reply) (new : Contents) (notes : Option (List Note)) (made : Result Plan Reply) → IsTypedOp op → IsValid s.design → HasRead s u P → outcome s.design op ≡ unless refusal Done (both_edits id notes new) → IsPlanned (contents_at s.design id) refusal new made → CanBePut u.design id notes made
planned_can s u op id P refusal new notes (Ok plan) typed valid read comes (some, place, none, same) =
    subst (λ (d : Design). IsGood d (one_change (change_of id plan) notes)) (sym read.design) (record {
      can = (plan_can s.design id plan some place, tt);
      valid = subst (λ (out : Outcome). IsValid (edited s.design out.edits)) (plan_comes s.design op id refusal new notes plan comes none same) (step_is_valid s.design op typed valid);
    })
planned_can s u op id P refusal new notes (Err reply) typed valid read comes planned = tt

pub planned_done : (s u v : State) (op : Op) (id : CellId) (P : Object → Type 0) (refusal : Option Reply) (new : Contents) (notes : Option (List Note)) (made : Result Plan Reply) (reply : Reply) → HasRead s u P → ((o : Object) → P o ↔ Needs s.design op o) → outcome s.design op ≡ unless refusal Done (both_edits id notes new) → IsPlanned (contents_at s.design id) refusal new made → IsPut u v id notes made reply → IsDone s v op reply
planned_done s u v op id P refusal new notes (Ok plan) reply read needs comes (some, place, none, same) (is, put) =
    done_made s u v op reply (edits_of s.design (one_change (change_of id plan) notes)) P read needs
    (plan_comes s.design op id refusal new notes plan comes none same ∙ (λ i. let out : Outcome = record { reply = sym is i; edits = edits_of s.design (one_change (change_of id plan) notes) } in out))
    (subst (λ (d : Design). HasMade u v (edits_of d (one_change (change_of id plan) notes))) read.design put)
planned_done s u v op id P refusal new notes (Err refused) reply read needs comes planned (is, put) =
    subst (λ (t : State). IsDone s t op reply) (sym put)
    (done_read s u op reply P read needs (comes ∙ ap (λ (r : Option Reply). unless r Done (both_edits id notes new)) planned ∙ ap (λ (r : Reply). let out : Outcome = record { reply = r; edits = [] } in out) (sym is)))

-- what a name needs, with the contents of its cell
pub inside_needs : (d : Design) (name : CellName) (id : CellId) (o : Object) → cell_named d name ≡ Some id → (IsForName d name o ⊎ IsInside id o) ↔ IsForCell d name o
inside_needs d name id o is = (
  ⊎_elim (λ (n : IsForName d name o). inl n) (λ (i : IsInside id o). inr (subst (λ (c : Option CellId). IsInsideOf c o) (sym is) i)),
  ⊎_elim (λ (n : IsForName d name o). inl n) (λ (i : IsInsideOf (cell_named d name) o). inr (subst (λ (c : Option CellId). IsInsideOf c o) is i)),
)

-- of a cell that is not found only the name is needed
pub only_name : (d : Design) (name : CellName) (o : Object) → cell_named d name ≡ None → IsForName d name o ↔ IsForCell d name o
only_name d name o none = (
  λ n. inl n,
  ⊎_elim (λ (n : IsForName d name o). n) (λ (i : IsInsideOf (cell_named d name) o). absurd (subst (λ (c : Option CellId). IsInsideOf c o) none i)),
)

pub face_needs : (d : Design) (name : CellName) (id : CellId) (o : Object) → cell_named d name ≡ Some id → (IsForName d name o ⊎ IsFace id o) ↔ IsForName d name o
face_needs d name id o is = (
  ⊎_elim (λ (n : IsForName d name o). n) (λ (i : IsFace id o). subst (λ (c : Option CellId). IsFor c (lib_named d name.lib) o) (sym is) i),
  λ n. inl n,
)

-- a cell that was found, and what is inside it
pub record HasFound (s u : State) (name : CellName) (id : CellId) (contents : Option Contents) : Type 0 where
  pub named : cell_named s.design name ≡ Some id
  pub inside : contents_at s.design id ≡ contents
  pub read : HasRead s u (λ o. IsForName s.design name o ⊎ IsInside id o)

pub found_inside : (s t u : State) (name : CellName) (id : CellId) (contents : Option Contents) → cell_named s.design name ≡ Some id → HasRead s t (IsForName s.design name) → contents ≡ contents_at t.design id → HasRead t u (IsInside id) → HasFound s u name id contents
found_inside s t u name id contents named first is second = record {
  named = named;
  inside = ap (λ (d : Design). contents_at d id) (sym first.design) ∙ sym is;
  read = read_both s t u (IsForName s.design name) (IsInside id) first second;
}

-- an operation on the contents of a cell: it can be put, and then it is done
pub inside_can : (s u : State) (op : Op) (name : CellName) (id : CellId) (contents : Option Contents) (refusal : Option Contents → Option Reply) (new : Option Contents → Contents) (made : Result Plan Reply) → IsTypedOp op → IsValid s.design → HasFound s u name id contents → outcome s.design op ≡ unless (refusal (contents_at s.design id)) Done (inner id (new (contents_at s.design id)) ∷ []) → IsPlanned contents (refusal contents) (new contents) made → CanBePut u.design id None made
inside_can s u op name id contents refusal new made typed valid found comes planned =
    planned_can s u op id (λ o. IsForName s.design name o ⊎ IsInside id o) (refusal (contents_at s.design id)) (new (contents_at s.design id)) None made typed valid found.read comes
    (subst (λ (c : Option Contents). IsPlanned c (refusal c) (new c) made) (sym found.inside) planned)

pub read_some : (s u : State) (P : Object → Type 0) → HasRead s u P → HasReadSome s u
read_some s u P read = record { base = read.base; design = read.design; written = read.written; prefix = read.reads.prefix }

pub put_result : {E : Type 0} (s u v : State) (op : Op) (id : CellId) (P : Object → Type 0) (notes : Option (List Note)) (made : Result Plan Reply) (result : Result Reply E) → HasRead s u P → ((reply : Reply) → IsPut u v id notes made reply → IsDone s v op reply) → MatchResult result (IsPut u v id notes made) (λ _. v ≡ u) → IsDoneOrFails result s v op
put_result s u v op id P notes made (Ok reply) read done put = done reply put
put_result s u v op id P notes made (Err err) read done put = subst (λ (t : State). HasReadSome s t) (sym put) (read_some s u P read)

pub inside_done : {E : Type 0} (s u v : State) (op : Op) (name : CellName) (id : CellId) (contents : Option Contents) (refusal : Option Contents → Option Reply) (new : Option Contents → Contents) (made : Result Plan Reply) (result : Result Reply E) → HasFound s u name id contents → ((o : Object) → (IsForName s.design name o ⊎ IsInside id o) ↔ Needs s.design op o) → outcome s.design op ≡ unless (refusal (contents_at s.design id)) Done (inner id (new (contents_at s.design id)) ∷ []) → IsPlanned contents (refusal contents) (new contents) made → MatchResult result (IsPut u v id None made) (λ _. v ≡ u) → IsDoneOrFails result s v op
inside_done s u v op name id contents refusal new made result found needs comes planned put =
    put_result s u v op id (λ o. IsForName s.design name o ⊎ IsInside id o) None made result found.read
    (λ reply is. planned_done s u v op id (λ o. IsForName s.design name o ⊎ IsInside id o) (refusal (contents_at s.design id)) (new (contents_at s.design id)) None made reply found.read needs comes
    (subst (λ (c : Option Contents). IsPlanned c (refusal c) (new c) made) (sym found.inside) planned) is)
    put

-- after reads that failed the list is cut back to what it was
pub mark_within : (s v : State) (mark : ℕ) → mark ≡ length s.reads → HasReadSome s v → mark ≤ length v.reads
mark_within s v mark is some =
    let longer : length v.reads ≡ length s.reads + length some.prefix.0 = ap length some.prefix.1 ∙ length-append s.reads some.prefix.0 in omega arith

pub back_is : (s v w : State) (mark : ℕ) → mark ≡ length s.reads → HasReadSome s v → w ≡ record v { reads = take mark v.reads } → w ≡ s
back_is s v w mark is some cut =
    cut ∙ (λ i. let t : State = record { base = some.base i; design = some.design i; reads = whole i; written = some.written i } in t)
  where
    whole : take mark v.reads ≡ s.reads
    whole = ap (λ (n : ℕ). take n v.reads) is ∙ cut_back s.reads v.reads some.prefix
