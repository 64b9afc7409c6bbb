-- The instances afterwards, as they are listed.
use Rattle.std.proofs.Common.{◌≡◌, ◌≤◌, ◌<◌, ◌+◌, ◌^◌, ℕ, arith, List, [], ◌++◌, length, get_or, drop, map, take, Some, slice_get, ap, ◌∙◌, append_assoc}
use Rattle.std.proofs.lemmas.List.{length-map}
use Rattle.std.proofs.lemmas.Option.{get_or_from_slice_get}
use Rattle.netlist_schema.specs.Types.{Contents, Inst}
use Rattle.ungroup_spec.specs.Dissolved.{children, insts_after, inst_name, with_inst_name}
use Rattle.ungroup_spec.specs.Names.{named_up}
use Rattle.ungroup_plans.specs.Heads.{site}

-- what stands at the place is the instance
pub item_is : (insts around : List Inst) (place : ℕ) (item inst : Inst) → insts ≡ around → item ≡ get_or insts place item → slice_get around place ≡ Some inst → item ≡ inst
item_is insts around place item inst same is at =
    is ∙ ap (λ v. get_or v place item) same ∙ get_or_from_slice_get around place inst item at

pub few_names : (insts around children within : List Inst) → insts ≡ around → children ≡ within → length around ≤ 1048576 → length within ≤ 1048576
    → length (map (λ (i : Inst). i.name.id) insts) + length children < 2 ^ 62
few_names insts around children within e f p q =
    omega (arith, length-map insts (λ (i : Inst). i.name.id), ap length e, ap length f, p, q)

pub insts_are : (around : Contents) (place : ℕ) (inst : Inst) (within : Contents) (insts inner : List Inst) (item : Inst) (m0 m1 m2 m3 : List Inst) → insts ≡ around.insts → inner ≡ within.insts
    → item ≡ inst → m0 ≡ [] → m1 ≡ m0 ++ take place insts → m2 ≡ m1 ++ named_up inst_name with_inst_name (map (λ (i : Inst). i.name.id) insts) item.name inner
    → m3 ≡ m2 ++ drop (place + 1) insts → m3 ≡ insts_after (site around place inst within)
insts_are around place inst within insts inner item m0 m1 m2 m3 outer_are inner_are named is0 is1 is2 is3 =
    let kids = named_up inst_name with_inst_name (map (λ (i : Inst). i.name.id) insts) item.name inner in
    is3 ∙ ap (λ v. v ++ drop (place + 1) insts) (is2 ∙ ap (λ v. v ++ kids) (is1 ∙ ap (λ v. v ++ take place insts) is0))
    ∙ append_assoc (take place insts) kids (drop (place + 1) insts)
    ∙ (λ i. take place (outer_are i) ++ (named_up inst_name with_inst_name (map (λ (x : Inst). x.name.id) (outer_are i)) (named i).name (inner_are i) ++ drop (place + 1) (outer_are i)))
