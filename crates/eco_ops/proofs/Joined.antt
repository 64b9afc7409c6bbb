-- Joining an end to a net.
use Rattle.std.proofs.Common.{◌≡◌, ◌<◌, ◌≤◌, ◌+◌, arith, ℕ, suc, Bool, true, false, List, [], ◌∷◌, length, get_or, Option, Some, None, refl, sym, ap, subst, ◌∙◌}
use Rattle.std.specs.Prelude.{Ok, Result, cond, find, position, option_map}
use Rattle.std.specs.Option.{option_map_or, option_or}
use Rattle.std.specs.List.{flat_map, position_from}
use Rattle.std.proofs.lemmas.Bool.{le-leb, lt-leb}
use Rattle.netlist_schema.specs.Types.{Contents, End, Net, Port}
use Rattle.edit_rules_spec.specs.Edit.{changed_at}
use Rattle.edit_rules_spec.specs.Find.{net_place}
use Rattle.edit_rules_spec.specs.Rule.{first, refuse, too_many}
use Rattle.edit_rules_spec.specs.declared.reply.EndName.{EndName}
use Rattle.edit_rules_spec.specs.declared.reply.Reply.{Reply}
use Rattle.edit_rules_spec.specs.declared.reply.Reply.TheVariants.{AlreadyJoined, NoInst, NoNet, TooMany}
use Rattle.edit_spec.specs.Ends.{bad_bit, end_named, ends_in, joins_end, no_end_inst, no_port}
use Rattle.edit_spec.specs.Inside.{no_net}
use Rattle.edit_spec.specs.Join.{already_joined, net_with_end, no_join, with_end}
use Rattle.edit_cells.proofs.Patches.{changed_at_place}
use Rattle.edit_cells.proofs.Places.{first_is_position}
use Rattle.eco_reads.specs.Plan.{IsPlanned}
use Rattle.eco_reads.specs.declared.plan.Plan.{Plan}
use Rattle.eco_reads.specs.declared.plan.Plan.TheVariants.{Net as PlannedNet}
use Rattle.eco_reads.proofs.Within.{put_within}
use Rattle.eco_reads.proofs.Found.{or_front}
use Rattle.eco_ops.specs.Ends.{no_more_end}

-- ---- the place of the first that passes, and the first that passes

cond_over : {X Y : Type 0} (f : X → Y) (b : Bool) (x y : X) → cond b (f x) (f y) ≡ f (cond b x y)
cond_over f true x y = refl
cond_over f false x y = refl

place_shifts : {X : Type 0} (test : X → Bool) (i : ℕ) (xs : List X) → position_from test (i + 1) xs ≡ option_map suc (position_from test i xs)
place_shifts test i [] = refl
place_shifts test i (x ∷ xs) =
    let next : i + 1 ≡ suc i = omega arith in
    (λ k. cond (test x) (Some (next k)) (place_shifts test (i + 1) xs k)) ∙ cond_over (option_map suc) (test x) (Some i) (position_from test (i + 1) xs)

pub one_place : (b : Bool) (rest : Option ℕ) (k : ℕ) → cond b (Some 0) (option_map suc rest) ≡ Some k → (P : ℕ → Type 0) → (b ≡ true → P 0) → (b ≡ false → (j : ℕ) → rest ≡ Some j → P (suc j)) → P k
one_place true rest k is P here there = let same : 0 ≡ k = cc in subst P same (here refl)
one_place false None k is P here there = cc
one_place false (Some j) k is P here there = let same : suc j ≡ k = cc in subst P same (there refl j refl)

pub place_of_rest : {X : Type 0} (test : X → Bool) (x : X) (xs : List X) → position_from test 0 (x ∷ xs) ≡ cond (test x) (Some 0) (option_map suc (position_from test 0 xs))
place_of_rest test x xs = ap (λ (rest : Option ℕ). cond (test x) (Some 0) rest) (place_shifts test 0 xs)

found_there : {X : Type 0} (test : X → Bool) (xs : List X) (k : ℕ) (d : X) → position_from test 0 xs ≡ Some k → find test xs ≡ Some (get_or xs k d)
found_there test [] k d is = cc
found_there test (x ∷ xs) k d is =
    one_place (test x) (position_from test 0 xs) k (sym (place_of_rest test x xs) ∙ is) (λ j. find test (x ∷ xs) ≡ Some (get_or (x ∷ xs) j d))
    (λ yes. ap (λ (b : Bool). cond b (Some x) (find test xs)) yes)
    (λ no j rest. ap (λ (b : Bool). cond b (Some x) (find test xs)) no ∙ found_there test xs j d rest)

no_rest : (b : Bool) (rest : Option ℕ) → cond b (Some 0) (option_map suc rest) ≡ None → (b ≡ false) × (rest ≡ None)
no_rest true rest none = cc
no_rest false None none = (refl, refl)
no_rest false (Some j) none = cc

not_there : {X : Type 0} (test : X → Bool) (xs : List X) → position_from test 0 xs ≡ None → find test xs ≡ None
not_there test [] none = refl
not_there test (x ∷ xs) none =
    let both = no_rest (test x) (position_from test 0 xs) (sym (place_of_rest test x xs) ∙ none) in
    ap (λ (b : Bool). cond b (Some x) (find test xs)) both.0 ∙ not_there test xs both.1

pub found_at : {X : Type 0} (test : X → Bool) (xs : List X) (k : ℕ) (d : X) → position test xs ≡ Some k → find test xs ≡ Some (get_or xs k d)
found_at test xs k d is = found_there test xs k d (first_is_position test xs ∙ is)

pub not_found : {X : Type 0} (test : X → Bool) (xs : List X) → position test xs ≡ None → find test xs ≡ None
not_found test xs none = not_there test xs (first_is_position test xs ∙ none)

-- ---- an end in contents

pub end_joined : (c : Contents) (at : End) (joined : ℕ) (d : Net) → position (joins_end at) c.nets ≡ Some joined → first (no_more_end c at) ≡ Some (AlreadyJoined (get_or c.nets joined d).name.id)
end_joined c at joined d is =
    ap (λ (o : Option Net). option_or (option_map (λ net. AlreadyJoined net.name.id) o) (first (too_many (length (ends_in (Some c))) 4194304 ∷ []))) (found_at (joins_end at) c.nets joined d is)

more_front : (c : Contents) (at : End) → position (joins_end at) c.nets ≡ None → first (no_more_end c at) ≡ first (too_many (length (ends_in (Some c))) 4194304 ∷ [])
more_front c at none =
    ap (λ (o : Option Net). option_or (option_map (λ net. AlreadyJoined net.name.id) o) (first (too_many (length (ends_in (Some c))) 4194304 ∷ []))) (not_found (joins_end at) c.nets none)

pub too_many_ends : (c : Contents) (at : End) → position (joins_end at) c.nets ≡ None → 4194304 ≤ length (flat_map (λ net. net.ends) c.nets) → first (no_more_end c at) ≡ Some (TooMany 4194304)
too_many_ends c at none many =
    let full = le-leb 4194304 (length (flat_map (λ (net : Net). net.ends) c.nets)) many in
    more_front c at none ∙ ap (λ (b : Bool). option_or (refuse b (TooMany 4194304)) None) full

pub end_planned : (c : Contents) (at : End) (place : ℕ) (d made : Net) → position (joins_end at) c.nets ≡ None → length (flat_map (λ net. net.ends) c.nets) < 4194304 → place < length c.nets → made ≡ net_with_end (Some at) (get_or c.nets place d) → IsPlanned (Some c) (first (no_more_end c at)) (record c { nets = changed_at (net_with_end (Some at)) place c.nets }) (Ok (PlannedNet place made))
end_planned c at place d made none few within same =
    let room = lt-leb 4194304 (length (flat_map (λ (net : Net). net.ends) c.nets)) few in (
      refl,
      omega arith,
      more_front c at none ∙ ap (λ (b : Bool). option_or (refuse b (TooMany 4194304)) None) room,
      ap (λ (ns : List Net). let made_now : Contents = record { insts = c.insts; nets = ns } in made_now) (put_within c.nets place made within ∙ changed_at_place (net_with_end (Some at)) c.nets place d made within same),
    )

-- ---- the refusals of the operation

pub join_no_inst : (old : Option Contents) (ports : Option (List Port)) (net : List ℕ) (end : EndName) → no_end_inst old end.inst ≡ refuse true NoInst → first (no_join old ports net end) ≡ Some NoInst
join_no_inst old ports net end is = ap (λ (r : Option Reply). option_or r (first (no_net old net ∷ no_port ports end.port ∷ bad_bit ports end.port end.bit ∷ already_joined old (end_named old ports end) ∷ too_many (length (ends_in old)) 4194304 ∷ []))) is

join_front : (old : Option Contents) (ports : Option (List Port)) (net : List ℕ) (end : EndName) (r : Option Reply) → no_end_inst old end.inst ≡ None → no_net old net ≡ r → first (no_join old ports net end) ≡ option_or r (first (no_port ports end.port ∷ bad_bit ports end.port end.bit ∷ already_joined old (end_named old ports end) ∷ too_many (length (ends_in old)) 4194304 ∷ []))
join_front old ports net end r none is = λ i. option_or (none i) (option_or (is i) (first (no_port ports end.port ∷ bad_bit ports end.port end.bit ∷ already_joined old (end_named old ports end) ∷ too_many (length (ends_in old)) 4194304 ∷ [])))

pub join_no_net : (old : Option Contents) (ports : Option (List Port)) (net : List ℕ) (end : EndName) → no_end_inst old end.inst ≡ None → no_net old net ≡ Some NoNet → first (no_join old ports net end) ≡ Some NoNet
join_no_net old ports net end none is = join_front old ports net end (Some NoNet) none is

pub both_none : (a b rest : Option Reply) → option_or a (option_or b None) ≡ None → option_or a (option_or b rest) ≡ rest
both_none None None rest none = refl
both_none None (Some x) rest none = cc
both_none (Some x) b rest none = cc

net_there : (c : Contents) (net : List ℕ) (place : ℕ) → net_place net c.nets ≡ Some place → no_net (Some c) net ≡ None
net_there c net place is = rw is refl

pub join_no_end : (c : Contents) (ports : Option (List Port)) (net : List ℕ) (end : EndName) (place : ℕ) (reply : Reply) → no_end_inst (Some c) end.inst ≡ None → net_place net c.nets ≡ Some place → first (no_port ports end.port ∷ bad_bit ports end.port end.bit ∷ []) ≡ Some reply → first (no_join (Some c) ports net end) ≡ Some reply
join_no_end c ports net end place reply none is refused =
    join_front (Some c) ports net end None none (net_there c net place is)
    ∙ or_front (no_port ports end.port) (bad_bit ports end.port end.bit) (first (already_joined (Some c) (end_named (Some c) ports end) ∷ too_many (length (ends_in (Some c))) 4194304 ∷ [])) reply refused

pub join_planned : (c : Contents) (ports : Option (List Port)) (net : List ℕ) (end : EndName) (place : ℕ) (at : End) (made : Result Plan Reply) → no_end_inst (Some c) end.inst ≡ None → net_place net c.nets ≡ Some place → first (no_port ports end.port ∷ bad_bit ports end.port end.bit ∷ []) ≡ None → end_named (Some c) ports end ≡ Some at → IsPlanned (Some c) (first (no_more_end c at)) (record c { nets = changed_at (net_with_end (Some at)) place c.nets }) made → IsPlanned (Some c) (first (no_join (Some c) ports net end)) (record { insts = c.insts; nets = with_end net (end_named (Some c) ports end) c.nets }) made
join_planned c ports net end place at made none is fits named planned =
    subst (λ (r : Option Reply). IsPlanned (Some c) r (record { insts = c.insts; nets = with_end net (end_named (Some c) ports end) c.nets }) made) (sym refusals)
    (subst (λ (new : Contents). IsPlanned (Some c) (first (no_more_end c at)) new made) (sym new_nets) planned)
  where
    refusals : first (no_join (Some c) ports net end) ≡ first (no_more_end c at)
    refusals =
        join_front (Some c) ports net end None none (net_there c net place is)
        ∙ both_none (no_port ports end.port) (bad_bit ports end.port end.bit) (first (already_joined (Some c) (end_named (Some c) ports end) ∷ too_many (length (ends_in (Some c))) 4194304 ∷ [])) fits
        ∙ ap (λ (e : Option End). first (already_joined (Some c) e ∷ too_many (length (ends_in (Some c))) 4194304 ∷ [])) named

    new_nets : ◌≡◌ {A = Contents} (record { insts = c.insts; nets = with_end net (end_named (Some c) ports end) c.nets }) (record c { nets = changed_at (net_with_end (Some at)) place c.nets })
    new_nets = λ i. record { insts = c.insts; nets = option_map_or (λ (p : ℕ). changed_at (net_with_end (named i)) p c.nets) (is i) c.nets }
