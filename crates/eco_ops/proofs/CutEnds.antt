-- Removing an end from its net.
use Rattle.std.proofs.Common.{◌≡◌, ◌≢◌, ◌<◌, arith, ℕ, Bool, true, false, not, ◌||◌, List, [], ◌∷◌, ◌++◌, length, map, get_or, slice_set, Option, Some, None, refl, sym, ap, subst, ◌∙◌}
use Rattle.std.specs.Prelude.{Ok, Result, cond, filter, is_none, position}
use Rattle.std.specs.Option.{option_or}
use Rattle.std.specs.List.{AllByRecursion, flat_map, list_any, position_from}
use Rattle.netlist_schema.specs.Names.{AreDistinct}
use Rattle.netlist_schema.specs.Types.{Contents, End, Net, Port}
use Rattle.netlist_schema.proofs.Lists.{all_behind}
use Rattle.edit_rules_spec.specs.Rule.{first, refuse}
use Rattle.edit_rules_spec.specs.declared.reply.EndName.{EndName}
use Rattle.edit_rules_spec.specs.declared.reply.Reply.{Reply}
use Rattle.edit_rules_spec.specs.declared.reply.Reply.TheVariants.{NoInst, NotJoined}
use Rattle.edit_rules_spec.proofs.Lists.{Apart, apart_of, each_left}
use Rattle.edit_spec.specs.Cut.{is_end, net_without_end, not_joined, without_end, no_cut}
use Rattle.flat_spec.specs.ConnectionTest.{same_end}
use Rattle.flat_spec.proofs.TestLemmas.{same_end-true}
use Rattle.edit_spec.specs.Ends.{bad_bit, end_named, joins_end, no_end_inst, no_port}
use Rattle.edit_spec.proofs.Joined.{not_had}
use Rattle.edit_cells.proofs.Places.{first_is_position}
use Rattle.eco_reads.specs.Plan.{IsPlanned}
use Rattle.eco_reads.specs.declared.plan.Plan.{Plan}
use Rattle.eco_reads.specs.declared.plan.Plan.TheVariants.{Net as PlannedNet}
use Rattle.eco_reads.proofs.Within.{put_within}
use Rattle.eco_reads.proofs.Found.{or_front}
use Rattle.eco_ops.proofs.Joined.{both_none, found_at, not_found, one_place, place_of_rest}

-- ---- ends that are other ones

kept_one : (x : End) (rest : List End) (b : Bool) → (b ≡ true → ⊥) → cond (not b) (x ∷ rest) rest ≡ x ∷ rest
kept_one x rest true never = absurd (never refl)
kept_one x rest false never = refl

others_kept : (e : End) (ends : List End) → AllByRecursion (λ y. e ≢ y) ends → filter (λ o. not (is_end (Some e) o)) ends ≡ ends
others_kept e [] all = refl
others_kept e (x ∷ ends) all =
    kept_one x (filter (λ o. not (is_end (Some e) o)) ends) (same_end x e) (λ same. all.0 (sym (same_end-true x e same)))
    ∙ ap (λ (rest : List End). x ∷ rest) (others_kept e ends all.1)

net_kept : (e : End) (net : Net) → AllByRecursion (λ y. e ≢ y) net.ends → net_without_end (Some e) net ≡ net
net_kept e net all = ap (λ (ends : List End). record net { ends = ends }) (others_kept e net.ends all)

abbrev flat : List Net → List End
flat nets = flat_map (λ net. net.ends) nets

nets_kept : (e : End) (nets : List Net) → AllByRecursion (λ y. e ≢ y) (flat nets) → map (net_without_end (Some e)) nets ≡ nets
nets_kept e [] all = refl
nets_kept e (net ∷ nets) all = λ i. net_kept e net (each_left (λ y. e ≢ y) net.ends (flat nets) all) i ∷ nets_kept e nets (all_behind (λ y. e ≢ y) net.ends (flat nets) all) i

apart_right : (xs ys : List End) → Apart (xs ++ ys) → Apart ys
apart_right [] ys apart = apart
apart_right (x ∷ xs) ys apart = apart_right xs ys apart.1

-- the ends behind those among which it is
apart_after : (xs ys : List End) (e : End) → Apart (xs ++ ys) → list_any (same_end e) xs ≡ true → AllByRecursion (λ y. e ≢ y) ys
apart_after [] ys e apart has = cc
apart_after (x ∷ xs) ys e apart has = by_test (same_end e x) refl has (apart_after xs ys e apart.1)
  where
    by_test : (b : Bool) → same_end e x ≡ b → (b || list_any (same_end e) xs) ≡ true → (list_any (same_end e) xs ≡ true → AllByRecursion (λ y. e ≢ y) ys) → AllByRecursion (λ y. e ≢ y) ys
    by_test true is _ later = subst (λ (z : End). AllByRecursion (λ y. z ≢ y) ys) (sym (same_end-true e x is)) (all_behind (λ y. x ≢ y) xs ys apart.0)
    by_test false is rest later = later rest

cut_at : (e : End) (nets : List Net) (k : ℕ) (d : Net) → Apart (flat nets) → position_from (joins_end e) 0 nets ≡ Some k → map (net_without_end (Some e)) nets ≡ slice_set nets k (net_without_end (Some e) (get_or nets k d))
cut_at e [] k d apart is = cc
cut_at e (net ∷ nets) k d apart is =
    one_place (joins_end e net) (position_from (joins_end e) 0 nets) k (sym (place_of_rest (joins_end e) net nets) ∙ is) (λ j. map (net_without_end (Some e)) (net ∷ nets) ≡ slice_set (net ∷ nets) j (net_without_end (Some e) (get_or (net ∷ nets) j d)))
    (λ yes. ap (λ (rest : List Net). net_without_end (Some e) net ∷ rest) (nets_kept e nets (apart_after net.ends (flat nets) e apart yes)))
    (λ no j rest. λ i. net_kept e net (not_had e net.ends no) i ∷ cut_at e nets j d (apart_right net.ends (flat nets) apart) rest i)

-- ---- an end in contents

pub end_cut : (c : Contents) (at : End) (place : ℕ) (d made : Net) → AreDistinct (flat_map (λ net. net.ends) c.nets) → position (joins_end at) c.nets ≡ Some place → place < length c.nets → made ≡ net_without_end (Some at) (get_or c.nets place d) → IsPlanned (Some c) (not_joined (Some c) (Some at)) (record c { nets = without_end (Some at) c.nets }) (Ok (PlannedNet place made))
end_cut c at place d made once is within same = (
  refl,
  omega arith,
  ap (λ (o : Option Net). refuse (is_none o) NotJoined) (found_at (joins_end at) c.nets place d is),
  ap (λ (ns : List Net). let made_now : Contents = record { insts = c.insts; nets = ns } in made_now)
      (put_within c.nets place made within ∙ ap (slice_set c.nets place) same ∙ sym (cut_at at c.nets place d (apart_of (flat c.nets) once) (first_is_position (joins_end at) c.nets ∙ is))),
)

pub not_joined_here : (c : Contents) (at : End) → position (joins_end at) c.nets ≡ None → not_joined (Some c) (Some at) ≡ Some NotJoined
not_joined_here c at none = ap (λ (o : Option Net). refuse (is_none o) NotJoined) (not_found (joins_end at) c.nets none)

-- ---- the refusals of the operation

pub cut_no_inst : (old : Option Contents) (ports : Option (List Port)) (end : EndName) → no_end_inst old end.inst ≡ refuse true NoInst → first (no_cut old ports end) ≡ Some NoInst
cut_no_inst old ports end is = ap (λ (r : Option Reply). option_or r (first (no_port ports end.port ∷ bad_bit ports end.port end.bit ∷ not_joined old (end_named old ports end) ∷ []))) is

cut_front : (old : Option Contents) (ports : Option (List Port)) (end : EndName) → no_end_inst old end.inst ≡ None → first (no_cut old ports end) ≡ first (no_port ports end.port ∷ bad_bit ports end.port end.bit ∷ not_joined old (end_named old ports end) ∷ [])
cut_front old ports end none = ap (λ (r : Option Reply). option_or r (first (no_port ports end.port ∷ bad_bit ports end.port end.bit ∷ not_joined old (end_named old ports end) ∷ []))) none

pub cut_no_end : (old : Option Contents) (ports : Option (List Port)) (end : EndName) (reply : Reply) → no_end_inst old end.inst ≡ None → first (no_port ports end.port ∷ bad_bit ports end.port end.bit ∷ []) ≡ Some reply → first (no_cut old ports end) ≡ Some reply
cut_no_end old ports end reply none refused =
    cut_front old ports end none ∙ or_front (no_port ports end.port) (bad_bit ports end.port end.bit) (first (not_joined old (end_named old ports end) ∷ [])) reply refused

or_none : (a : Option Reply) → option_or a None ≡ a
or_none None = refl
or_none (Some x) = refl

pub cut_end : (old : Option Contents) (ports : Option (List Port)) (end : EndName) (at : End) → no_end_inst old end.inst ≡ None → first (no_port ports end.port ∷ bad_bit ports end.port end.bit ∷ []) ≡ None → end_named old ports end ≡ Some at → first (no_cut old ports end) ≡ not_joined old (Some at)
cut_end old ports end at none fits named =
    cut_front old ports end none
    ∙ both_none (no_port ports end.port) (bad_bit ports end.port end.bit) (first (not_joined old (end_named old ports end) ∷ [])) fits
    ∙ or_none (not_joined old (end_named old ports end))
    ∙ ap (not_joined old) named

pub cut_planned : (c : Contents) (ports : Option (List Port)) (end : EndName) (at : End) (made : Result Plan Reply) → no_end_inst (Some c) end.inst ≡ None → first (no_port ports end.port ∷ bad_bit ports end.port end.bit ∷ []) ≡ None → end_named (Some c) ports end ≡ Some at → IsPlanned (Some c) (not_joined (Some c) (Some at)) (record c { nets = without_end (Some at) c.nets }) made → IsPlanned (Some c) (first (no_cut (Some c) ports end)) (record { insts = c.insts; nets = without_end (end_named (Some c) ports end) c.nets }) made
cut_planned c ports end at made none fits named planned =
    subst (λ (r : Option Reply). IsPlanned (Some c) r (record { insts = c.insts; nets = without_end (end_named (Some c) ports end) c.nets }) made) (sym (cut_end (Some c) ports end at none fits named))
    (subst (λ (e : Option End). IsPlanned (Some c) (not_joined (Some c) (Some at)) (record { insts = c.insts; nets = without_end e c.nets }) made) (sym named) planned)
