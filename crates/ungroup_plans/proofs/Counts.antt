-- How many instances, nets and ends there are afterwards.
use Rattle.std.proofs.Common.{◌≡◌, ◌<◌, ◌≤◌, ◌+◌, ◌-◌, ◌^◌, ℕ, arith, Bool, true, false, List, [], ◌∷◌, ◌++◌, length, length-append, length-take, length-drop, get_or, drop, map, take, min, nat_lt, Option, Some, None, refl, sym, ap, ◌∙◌}
use Rattle.std.specs.List.{flat_map}
use Rattle.std.proofs.lemmas.List.{drop_all}
use Rattle.std.proofs.lemmas.List.Concat.{flat_map-append}
use Rattle.netlist_schema.specs.Types.{Contents, End, Inst, Name, Net}
use Rattle.edit_rules_spec.specs.Rule.{first, refuse}
use Rattle.edit_rules_spec.specs.declared.reply.Reply.{Reply}
use Rattle.edit_rules_spec.specs.declared.reply.Reply.TheVariants.{TooMany}
use Rattle.ungroup_spec.specs.Dissolved.{children, insts_after, inst_name, joined, kept, loose, nets_after, net_name, new_nets, with_inst_name, with_net_name}
use Rattle.ungroup_spec.specs.Groups.{Site, inner, outer}
use Rattle.ungroup_spec.specs.Names.{named_up, name_up}
use Rattle.ungroup_plans.specs.Grouped.{AreGrouped}
use Rattle.ungroup_plans.specs.Heads.{site}
use Rattle.ungroup_plans.specs.declared.groups.Grouped.{Grouped}
use Rattle.ungroup_plans.specs.Planned.{limits_of}
use Rattle.ungroup_plans.proofs.Named.{length-named_up}
use Rattle.ungroup_plans.proofs.Steps.{drop_first}

abbrev ends_in : List Net → List End
ends_in nets = flat_map (λ (net : Net). net.ends) nets

-- ---- ends are counted

pub count_more : (nets : List Net) (i : ℕ) (net : Net) (start count new : ℕ) → i < length nets → net ≡ get_or nets i net → new ≡ min (count + length net.ends) (2 ^ 64 - 1)
    → min (count + length (ends_in (drop i nets))) (2 ^ 64 - 1) ≡ min (start + length (ends_in nets)) (2 ^ 64 - 1)
    → min (new + length (ends_in (drop (i + 1) nets))) (2 ^ 64 - 1) ≡ min (start + length (ends_in nets)) (2 ^ 64 - 1)
count_more nets i net start count new within is new_is so_far =
    let opened : length (ends_in (drop i nets)) ≡ length net.ends + length (ends_in (drop (i + 1) nets)) =
    ap (λ v. length (ends_in v)) (drop_first nets i net within is) ∙ length-append net.ends (ends_in (drop (i + 1) nets)) in
    capped count (length net.ends) (length (ends_in (drop (i + 1) nets))) (length (ends_in (drop i nets))) new (2 ^ 64 - 1) opened new_is ∙ so_far
  where
    capped : (a b c d n m : ℕ) → d ≡ b + c → n ≡ min (a + b) m → min (n + c) m ≡ min (a + d) m
    capped a b c d n m e f = omega (arith, e, f)

pub count_all : (nets : List Net) (i count whole : ℕ) → length nets ≤ i → count ≤ 2 ^ 64 - 1 → min (count + length (ends_in (drop i nets))) (2 ^ 64 - 1) ≡ whole → count ≡ whole
count_all nets i count whole past low so_far =
    let none : length (ends_in (drop i nets)) ≡ 0 = ap (λ (v : List Net). length (ends_in v)) (drop_all i nets past) in
    still count (length (ends_in (drop i nets))) (2 ^ 64 - 1) none low ∙ so_far
  where
    still : (a b m : ℕ) → b ≡ 0 → a ≤ m → a ≡ min (a + b) m
    still a b m e f = omega (arith, e, f)

-- ---- instances

cut : (n l k : ℕ) → l < n → min l n + (k + (n - (l + 1))) ≡ n - 1 + k
cut n l k less = omega (arith, less)

pub insts_count : (around : Contents) (place : ℕ) (inst : Inst) (within : Contents) → place < length around.insts
    → length (insts_after (site around place inst within)) ≡ length around.insts - 1 + length within.insts
insts_count around place inst within less =
    let s = site around place inst within in
    length-append (take place around.insts) (children s ++ drop (place + 1) around.insts)
    ∙ (λ t. length-take place around.insts t + length-append (children s) (drop (place + 1) around.insts) t)
    ∙ (λ t. min place (length around.insts) + (length-named_up inst_name with_inst_name inst.name (map (λ (i : Inst). i.name.id) around.insts) within.insts t + length-drop (place + 1) around.insts t))
    ∙ cut (length around.insts) place (length within.insts) less

-- ---- nets

pub nets_count : (s : Site) (made : Grouped) → AreGrouped s made → length (nets_after s) ≡ length made.kept + length made.loose
nets_count s made are =
    length-append (map (joined s outer) (kept s)) (new_nets s)
    ∙ (λ t. length (sym are.stay t) + length-named_up net_name with_net_name s.inst.name (map (λ (net : Net). net.name.id) s.around.nets) (map (joined s inner) (loose s)) t)
    ∙ ap (λ v. length made.kept + length v) (sym are.come)

named_ends : (taken : List (List ℕ)) (inst : Name) (nets : List Net) → ends_in (named_up net_name with_net_name taken inst nets) ≡ ends_in nets
named_ends taken inst [] = refl
named_ends taken inst (net ∷ nets) = ap (λ v. net.ends ++ v) (named_ends ((name_up taken inst net.name).id ∷ taken) inst nets)

pub ends_count : (s : Site) (made : Grouped) → AreGrouped s made → length (ends_in (nets_after s)) ≡ length (ends_in made.kept) + length (ends_in made.loose)
ends_count s made are =
    ap length (flat_map-append (λ (net : Net). net.ends) (map (joined s outer) (kept s)) (new_nets s))
    ∙ length-append (ends_in (map (joined s outer) (kept s))) (ends_in (new_nets s))
    ∙ (λ t. length (ends_in (sym are.stay t)) + length (named_ends (map (λ (net : Net). net.name.id) s.around.nets) s.inst.name (map (joined s inner) (loose s)) t))
    ∙ ap (λ v. length (ends_in made.kept) + length (ends_in v)) (sym are.come)

-- ---- the limits

some_refused : (a : Bool) (x : Reply) (rest : List (Option Reply)) (refusal : Reply) → Some refusal ≡ refuse a x → first (refuse a x ∷ rest) ≡ Some refusal
some_refused true x rest refusal is = sym is
some_refused false x rest refusal is = absurd (cc is)

not_refused_yet : (a : Bool) (x : Reply) (rest : List (Option Reply)) → None ≡ refuse a x → first (refuse a x ∷ rest) ≡ first rest
not_refused_yet true x rest is = absurd (cc is)
not_refused_yet false x rest is = refl

module _ (around : Contents) (place : ℕ) (inst : Inst) (within : Contents) (less : place < length around.insts) where
  abbrev s : Site
  s = site around place inst within

  abbrev insts_refusal : Option Reply
  insts_refusal = refuse (nat_lt 1048576 (length around.insts - 1 + length within.insts)) (TooMany 1048576)

  abbrev nets_refusals : Grouped → List (Option Reply)
  nets_refusals made =
      refuse (nat_lt 1048576 (length made.kept + length made.loose)) (TooMany 1048576)
      ∷ refuse (nat_lt 4194304 (length (ends_in made.kept) + length (ends_in made.loose))) (TooMany 4194304) ∷ []

  abbrev later_limits : List (Option Reply)
  later_limits = refuse (nat_lt 1048576 (length (nets_after s))) (TooMany 1048576) ∷ refuse (nat_lt 4194304 (length (ends_in (nets_after s)))) (TooMany 4194304) ∷ []

  limits_are : limits_of (Some s) ≡ insts_refusal ∷ later_limits
  limits_are = ap (λ n. refuse (nat_lt 1048576 n) (TooMany 1048576) ∷ later_limits) (insts_count around place inst within less)

  later_are : (made : Grouped) → AreGrouped s made → later_limits ≡ nets_refusals made
  later_are made are = λ t. refuse (nat_lt 1048576 (nets_count s made are t)) (TooMany 1048576) ∷ refuse (nat_lt 4194304 (ends_count s made are t)) (TooMany 4194304) ∷ []

  pub insts_over : (refusal : Reply) → Some refusal ≡ insts_refusal → first (limits_of (Some s)) ≡ Some refusal
  insts_over refusal is = ap first limits_are ∙ some_refused (nat_lt 1048576 (length around.insts - 1 + length within.insts)) (TooMany 1048576) later_limits refusal is

  later : (made : Grouped) → AreGrouped s made → None ≡ insts_refusal → first (limits_of (Some s)) ≡ first (nets_refusals made)
  later made are none =
      ap first limits_are ∙ not_refused_yet (nat_lt 1048576 (length around.insts - 1 + length within.insts)) (TooMany 1048576) later_limits none
      ∙ ap first (later_are made are)

  pub nets_over : (made : Grouped) (refusal : Reply) → AreGrouped s made → None ≡ insts_refusal → Some refusal ≡ first (nets_refusals made) → first (limits_of (Some s)) ≡ Some refusal
  nets_over made refusal are none is = later made are none ∙ sym is

  pub none_over : (made : Grouped) → AreGrouped s made → None ≡ insts_refusal → None ≡ first (nets_refusals made) → first (limits_of (Some s)) ≡ None
  none_over made are none is = later made are none ∙ sym is
