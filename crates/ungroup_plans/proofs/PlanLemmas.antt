-- What is planned, or why nothing is.
use Rattle.std.proofs.Common.{◌≡◌, ◌<◌, ◌+◌, ◌-◌, ℕ, zero, suc, arith, List, [], ◌∷◌, ◌++◌, length, length-take, get_or, drop, map, take, Option, Some, None, Ok, slice_get, refl, sym, ap, ◌∙◌}
use Rattle.std.specs.Prelude.{is_none, option_and_then, option_map}
use Rattle.std.specs.Option.{option_or}
use Rattle.netlist_schema.specs.Types.{Contents, Inst, Note}
use Rattle.netlist_schema.proofs.Lists.{take_front, drop_front}
use Rattle.edit_rules_spec.specs.Find.{inst_place}
use Rattle.edit_rules_spec.specs.Rule.{first, is_leaf, refuse}
use Rattle.edit_rules_spec.specs.declared.reply.Reply.TheVariants.{IsLeaf, NoInst}
use Rattle.ungroup_spec.specs.Dissolved.{children, insts_after, inst_name, with_inst_name}
use Rattle.ungroup_spec.specs.Groups.{Site}
use Rattle.ungroup_spec.specs.Ungroup.{site_of}
use Rattle.ungroup_plans.specs.Heads.{site}
use Rattle.ungroup_plans.specs.Moved.{notes_moved}
use Rattle.ungroup_plans.specs.Planned.{IsDissolved, IsMade, limits_of, refusals_of}
use Rattle.ungroup_plans.specs.declared.plan.Ungrouped.{Ungrouped}
use Rattle.ungroup_plans.proofs.Named.{length-named_up}

-- ---- refusals

pub no_contents : (name : List ℕ) (within : Option Contents) → first (refusals_of None name within) ≡ Some NoInst
no_contents name within = refl

pub no_such_inst : (around : Contents) (name : List ℕ) (within : Option Contents) → None ≡ inst_place name around.insts → first (refusals_of (Some around) name within) ≡ Some NoInst
no_such_inst around name within none =
    ap (λ o. option_or (refuse (is_none o) NoInst) (first (is_leaf within ∷ limits_of (site_of (Some around) name within)))) (sym none)

pub no_within : (around : Contents) (name : List ℕ) (place : ℕ) → Some place ≡ inst_place name around.insts → first (refusals_of (Some around) name None) ≡ Some IsLeaf
no_within around name place at =
    ap (λ o. option_or (refuse (is_none o) NoInst) (first (is_leaf None ∷ limits_of (site_of (Some around) name None)))) (sym at)

-- ---- the site

pub site_is : (around : Contents) (name : List ℕ) (within : Contents) (place : ℕ) (inst : Inst) → Some place ≡ inst_place name around.insts → slice_get around.insts place ≡ Some inst
    → site_of (Some around) name (Some within) ≡ Some (site around place inst within)
site_is around name within place inst at is =
    ap (λ o. option_and_then (λ p. option_and_then (λ (i : Inst). option_map (λ (c : Contents). let s : Site = record { around = around; place = p; inst = i; within = c } in s) (Some within)) (slice_get around.insts p)) o) (sym at)
    ∙ ap (λ o. option_and_then (λ (i : Inst). option_map (λ (c : Contents). let s : Site = record { around = around; place = place; inst = i; within = c } in s) (Some within)) o) is

-- nothing refuses the operation but the limits
pub only_limits : (around : Contents) (name : List ℕ) (within : Contents) (place : ℕ) (inst : Inst) → Some place ≡ inst_place name around.insts → slice_get around.insts place ≡ Some inst
    → first (refusals_of (Some around) name (Some within)) ≡ first (limits_of (Some (site around place inst within)))
only_limits around name within place inst at is =
    ap (λ o. option_or (refuse (is_none o) NoInst) (first (is_leaf (Some within) ∷ limits_of (site_of (Some around) name (Some within))))) (sym at)
    ∙ ap (λ o. first (limits_of o)) (site_is around name within place inst at is)

pub children_are : (around : Contents) (place : ℕ) (inst : Inst) (within : Contents) (insts found : List Inst) (count : ℕ) → place < length around.insts → count ≡ length within.insts
    → insts ≡ insts_after (site around place inst within) → found ≡ take count (drop place insts) → found ≡ children (site around place inst within)
children_are around place inst within insts found count less count_is insts_is found_is =
    let s = site around place inst within in
    let front : length (take place around.insts) ≡ place = omega (arith, length-take place around.insts, less) in
    let long : length (children s) ≡ count = length-named_up inst_name with_inst_name inst.name (map (λ (i : Inst). i.name.id) around.insts) within.insts ∙ sym count_is in
    found_is
    ∙ ap (λ v. take count (drop place v)) insts_is
    ∙ ap (λ n. take count (drop n (take place around.insts ++ (children s ++ drop (place + 1) around.insts)))) (sym front)
    ∙ ap (take count) (drop_front (take place around.insts) (children s ++ drop (place + 1) around.insts))
    ∙ ap (λ n. take n (children s ++ drop (place + 1) around.insts)) (sym long)
    ∙ take_front (children s) (drop (place + 1) around.insts)

pub made_is : (around : Contents) (name : List ℕ) (within : Contents) (place : ℕ) (inst : Inst) (notes : List Note) (places : List (Option ℕ)) (made : Ungrouped) (kids : List Inst)
    → Some place ≡ inst_place name around.insts → slice_get around.insts place ≡ Some inst → IsDissolved (site around place inst within) (Ok made.contents)
    → kids ≡ children (site around place inst within) → made.notes ≡ notes_moved within.insts kids notes places → IsMade (Some around) name (Some within) notes places made
made_is around name within place inst notes places made kids at is done kids_are moved = record {
  not_refused = only_limits around name within place inst at is ∙ done.0;
  site = site around place inst within;
  is = site_is around name within place inst at is;
  contents = done.1;
  moved = moved ∙ ap (λ v. notes_moved within.insts v notes places) kids_are;
}

-- what stands at a place within a list
pub stands : (xs : List Inst) (k : ℕ) (d : Inst) → k < length xs → slice_get xs k ≡ Some (get_or xs k d)
stands [] k d within = absurd (omega (arith, within))
stands (x ∷ xs) zero d within = refl
stands (x ∷ xs) (suc k) d within = stands xs k d (omega (arith, within))
