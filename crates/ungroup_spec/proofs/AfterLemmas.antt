-- The contents afterwards: which ends each net joins, and where each instance stands.
use Rattle.std.proofs.Common.{◌≡◌, ◌+◌, ℕ, List, [], ◌∷◌, ◌++◌, Bool, true, false, length, map, filter, refl, sym, ap, subst, ◌∙◌, Some, slice_get}
use Rattle.std.specs.Prelude.{cond, option_map}
use Rattle.std.specs.List.{Contains, enumerate_from, range_with_len}
use Rattle.std.proofs.lemmas.List.{map-append}
use Rattle.std.proofs.lemmas.List.Elements.{filter-append}
use Rattle.std.proofs.lemmas.Option.{slice_get-map}
use Rattle.netlist_schema.specs.Types.{End, Name, Net}
use Rattle.netlist_schema.proofs.Lists.{get_unmapped}
use Rattle.flat_spec.proofs.ListLemmas.{Member, Contains-member, Member-contains, Member-filter, Member-from_filter}
use Rattle.ungroup_spec.specs.Groups.{Site, Part, outer, inner, IsPart, AreOneGroup, parts, is_grouped, group, head_of, is_head, heads, became}
use Rattle.ungroup_spec.specs.Dissolved.{ends_up, ends_after, kept, loose, joined, net_name, with_net_name, new_nets, nets_after}
use Rattle.ungroup_spec.specs.Names.{name_up, named_up}
use Rattle.ungroup_spec.proofs.GroupLemmas.{parts-member, member-part, grouped-true, grouped-from, group-sym, head_of-head, one_head, head-is, became-at, became-only}
use Rattle.ungroup_spec.proofs.PlaceLemmas.{Member-flat_map, Member-from_flat_map, slice_get-member}

-- what does not depend on names stays when things get names
pub map-named_up : {X Y : Type 0} (name_of : X → Name) (with_name : Name → X → X) (f : X → Y) → ((n : Name) (x : X) → f (with_name n x) ≡ f x)
    → (taken : List (List ℕ)) (inst : Name) (xs : List X) → map f (named_up name_of with_name taken inst xs) ≡ map f xs
map-named_up name_of with_name f same taken inst [] = refl
map-named_up {X} {Y} name_of with_name f same taken inst (x ∷ xs) =
    let name = name_up taken inst (name_of x) in
    let head : f (with_name name x) ≡ f x = same name x in
    let tail = map-named_up name_of with_name f same (name.id ∷ taken) inst xs in
    λ i. head i ∷ tail i

-- ---- nets

-- the kept or new nets of a list, as first nets
picked : (s : Site) (part : ℕ → Part) (a : ℕ) (nets : List Net)
    → map (λ (p : ℕ × Net). part p.0) (filter (λ (p : ℕ × Net). is_head s (part p.0)) (enumerate_from a nets))
    ≡ filter (is_head s) (map part (range_with_len a (length nets)))
picked s part a [] = refl
picked s part a (net ∷ nets) = go (is_head s (part a)) (picked s part (a + 1) nets)
  where
    go : (b : Bool) → map (λ (p : ℕ × Net). part p.0) (filter (λ (p : ℕ × Net). is_head s (part p.0)) (enumerate_from (a + 1) nets))
        ≡ filter (is_head s) (map part (range_with_len (a + 1) (length nets)))
        → map (λ (p : ℕ × Net). part p.0)
        (cond b ((a, net) ∷ filter (λ (p : ℕ × Net). is_head s (part p.0)) (enumerate_from (a + 1) nets))
        (filter (λ (p : ℕ × Net). is_head s (part p.0)) (enumerate_from (a + 1) nets)))
        ≡ cond b (part a ∷ filter (is_head s) (map part (range_with_len (a + 1) (length nets))))
        (filter (is_head s) (map part (range_with_len (a + 1) (length nets))))
    go true rest = ap (λ v. part a ∷ v) rest
    go false rest = rest

joined-ends : (s : Site) (part : ℕ → Part) (ps : List (ℕ × Net))
    → map (λ (net : Net). net.ends) (map (joined s part) ps) ≡ map (ends_after s) (map (λ (p : ℕ × Net). part p.0) ps)
joined-ends s part [] = refl
joined-ends s part (p ∷ ps) = ap (λ v. ends_after s (part p.0) ∷ v) (joined-ends s part ps)

-- the ends afterwards, net by net, are those of the groups, first net by first net
pub ends-of_nets : (s : Site) → map (λ (net : Net). net.ends) (nets_after s) ≡ map (ends_after s) (heads s)
ends-of_nets s =
    let ends : Net → List End = λ net. net.ends in
    let outers = map (λ (p : ℕ × Net). outer p.0) (kept s) in
    let inners = map (λ (p : ℕ × Net). inner p.0) (loose s) in
    let new : map ends (new_nets s) ≡ map (ends_after s) inners =
    map-named_up net_name with_net_name ends (λ n net. refl) (map (λ (net : Net). net.name.id) s.around.nets) s.inst.name (map (joined s inner) (loose s))
    ∙ joined-ends s inner (loose s) in
    let old : map ends (map (joined s outer) (kept s)) ≡ map (ends_after s) outers = joined-ends s outer (kept s) in
    let both : map ends (nets_after s) ≡ map (ends_after s) outers ++ map (ends_after s) inners =
    map-append ends (map (joined s outer) (kept s)) (new_nets s) ∙ (λ i. old i ++ new i) in
    let heads_are : heads s ≡ outers ++ inners =
    filter-append (is_head s) (map outer (range_with_len 0 (length s.around.nets))) (map inner (range_with_len 0 (length s.within.nets)))
    ∙ (λ i. sym (picked s outer 0 s.around.nets) i ++ sym (picked s inner 0 s.within.nets) i) in
    both ∙ sym (map-append (ends_after s) outers inners) ∙ ap (map (ends_after s)) (sym heads_are)

pub mapped-at : {A B : Type 0} (f : A → B) (xs : List A) (k : ℕ) (x : A) → slice_get xs k ≡ Some x → slice_get (map f xs) k ≡ Some (f x)
mapped-at f xs k x e = slice_get-map f xs k ∙ ap (option_map f) e

-- an end of a group's net is one of a net of the group
pub after-from : (s : Site) (h : Part) (e : End) → Member (ends_after s h) e → (y : Part) × IsPart s y × AreOneGroup s h y × Member (ends_up s y) e
after-from s h e m =
    let found = Member-from_flat_map (ends_up s) (group s h) e m in
    let kept = Member-from_filter (is_grouped s h) (parts s) found.0 found.1 in
    (found.0, member-part s found.0 kept.0, grouped-true s h found.0 kept.1, found.2)

after-to : (s : Site) (h y : Part) (e : End) → IsPart s y → AreOneGroup s h y → Member (ends_up s y) e → Member (ends_after s h) e
after-to s h y e is k m =
    Member-flat_map (ends_up s) (group s h) y e
    (Member-filter (is_grouped s h) (parts s) y (parts-member s y is) (grouped-from s h y k)) m

-- a net afterwards joins what a net that became it joins
pub joins-from : (s : Site) (k : ℕ) (net : Net) (e : End) → slice_get (nets_after s) k ≡ Some net → Contains net.ends e
    → (y : Part) × IsPart s y × (k ≡ became s y) × Member (ends_up s y) e
joins-from s k net e at c =
    let ends_at : slice_get (map (ends_after s) (heads s)) k ≡ Some net.ends =
    subst (λ v. slice_get v k ≡ Some net.ends) (ends-of_nets s) (mapped-at (λ (n : Net). n.ends) (nets_after s) k net at) in
    let head = get_unmapped (ends_after s) (heads s) k net.ends ends_at in
    let h_is = head-is s head.0 (slice_get-member (heads s) k head.0 head.1) in
    let m : Member (ends_after s head.0) e = subst (λ v. Member v e) (sym head.2) (Contains-member net.ends e c) in
    let from = after-from s head.0 e m in
    let same : head.0 ≡ head_of s from.0 = sym h_is.1 ∙ one_head s head.0 from.0 h_is.0 from.1 from.2 in
    (from.0, from.1, became-only s from.0 k from.1 (head.1 ∙ ap (λ v. Some v) same), from.3)

pub joins-to : (s : Site) (y : Part) (e : End) → IsPart s y → Member (ends_up s y) e
    → (net : Net) × (slice_get (nets_after s) (became s y) ≡ Some net) × Contains net.ends e
joins-to s y e is m =
    let head = head_of-head s y is in
    let at = mapped-at (ends_after s) (heads s) (became s y) (head_of s y) (became-at s y is) in
    let found = get_unmapped (λ (n : Net). n.ends) (nets_after s) (became s y) (ends_after s (head_of s y))
    (subst (λ v. slice_get v (became s y) ≡ Some (ends_after s (head_of s y))) (sym (ends-of_nets s)) at) in
    let there = after-to s (head_of s y) y e is (group-sym s y (head_of s y) head.grouped) m in
    (found.0, found.1, Member-contains found.0.ends e (subst (λ v. Member v e) (sym found.2) there))
