-- Dropping a net, cutting an end and setting a property keep the nets of a cell good.
use Rattle.std.proofs.Common.{◌≡◌, ◌≢◌, ℕ, zero, suc, ◌+◌, ◌≤◌, Bool, true, false, not, arith, List, [], ◌∷◌, ◌++◌, map, length, Option, Some, None, refl, sym, ap, subst, ◌∙◌, length-append}
use Rattle.std.proofs.lemmas.List.Elements.{recursion_from_All, All-from_recursion, All-push, All-set}
use Rattle.std.specs.List.{All, AllByRecursion, position_from}
use Rattle.std.specs.Option.{option_map_or}
use Rattle.std.specs.Prelude.{filter, remove, slice_set}
use Rattle.netlist_schema.specs.Design.{Design, nets_of}
use Rattle.netlist_schema.specs.Names.{AreDistinct, HasDistinctKeys}
use Rattle.netlist_schema.specs.Typed.{IsTypedNet, IsTypedProperty}
use Rattle.netlist_schema.specs.Types.{CellBody, End, Net, Property}
use Rattle.netlist_schema.specs.Valid.{IsEndOf}
use Rattle.netlist_schema.proofs.Lists.{all_append, all_behind}
use Rattle.edit_rules_spec.specs.Edit.{changed_at}
use Rattle.edit_rules_spec.specs.Find.{is_name, property_place}
use Rattle.edit_spec.specs.Cut.{is_end, net_without_end, without_end}
use Rattle.edit_spec.specs.SetProp.{set_property}
use Rattle.edit_rules_spec.proofs.Edits.{map-changed_at}
use Rattle.edit_rules_spec.proofs.Lists.{Apart, apart_of, distinct_of, each_left, All-changed_at, length-changed_at, All-drop, apart_drop, apart_filter, apart_more, apart_rest, apart_right, each_filter, filter_both, found_key, length_drop, length_filter, map_drop, missing_key}
use Rattle.edit_rules_spec.proofs.Refusals.{is_name-refl, same_name}
use Rattle.edit_spec.proofs.Joined.{ends_of_nets}
use Rattle.edit_spec.proofs.Valid.{AreGoodNets}

each_ends_drop : (P : End → Type 0) (i : ℕ) (nets : List Net) → AllByRecursion P (ends_of_nets nets) → AllByRecursion P (ends_of_nets (remove nets i))
each_ends_drop P zero [] all = tt
each_ends_drop P (suc i) [] all = tt
each_ends_drop P zero (net ∷ nets) all = all_behind P net.ends (ends_of_nets nets) all
each_ends_drop P (suc i) (net ∷ nets) all =
    all_append P net.ends (ends_of_nets (remove nets i)) (each_left P net.ends (ends_of_nets nets) all) (each_ends_drop P i nets (all_behind P net.ends (ends_of_nets nets) all))

apart_ends_drop : (i : ℕ) (nets : List Net) → Apart (ends_of_nets nets) → Apart (ends_of_nets (remove nets i))
apart_ends_drop zero [] apart = tt
apart_ends_drop (suc i) [] apart = tt
apart_ends_drop zero (net ∷ nets) apart = apart_right net.ends (ends_of_nets nets) apart
apart_ends_drop (suc i) (net ∷ nets) apart =
    apart_rest net.ends (ends_of_nets nets) (ends_of_nets (remove nets i)) apart (apart_ends_drop i nets (apart_right net.ends (ends_of_nets nets) apart)) (λ x all. each_ends_drop (λ y. x ≢ y) i nets all)

length_ends_drop : (i : ℕ) (nets : List Net) → length (ends_of_nets (remove nets i)) ≤ length (ends_of_nets nets)
length_ends_drop zero [] = omega arith
length_ends_drop (suc i) [] = omega arith
length_ends_drop zero (net ∷ nets) = omega (arith, length-append net.ends (ends_of_nets nets))
length_ends_drop (suc i) (net ∷ nets) =
    let rest = length_ends_drop i nets in
    omega (arith, length-append net.ends (ends_of_nets nets), length-append net.ends (ends_of_nets (remove nets i)))

pub drop_good : (d : Design) (body : CellBody) (place : ℕ) → AreGoodNets d body (nets_of body) → AreGoodNets d body (remove (nets_of body) place)
drop_good d body place good =
    let nets = nets_of body in
    let count = length_drop place nets in
    let end_count = length_ends_drop place nets in
    let before = good.count in
    let ends_before = good.end_count in
    record {
      typed = All-drop IsTypedNet place nets good.typed;
      count = omega arith;
      end_count = omega arith;
      names = subst (λ (names : List (List ℕ)). AreDistinct names) (sym (map_drop (λ (net : Net). net.name.id) place nets)) (distinct_of (remove (map (λ net. net.name.id) nets) place) (apart_drop place (map (λ net. net.name.id) nets) (apart_of (map (λ net. net.name.id) nets) good.names)));
      properties = All-drop (λ (net : Net). HasDistinctKeys net.properties) place nets good.properties;
      ends = All-from_recursion (IsEndOf d body) (ends_of_nets (remove nets place)) (each_ends_drop (IsEndOf d body) place nets (recursion_from_All (IsEndOf d body) (ends_of_nets nets) good.ends));
      once = distinct_of (ends_of_nets (remove nets place)) (apart_ends_drop place nets (apart_of (ends_of_nets nets) good.once));
    }

ends_left : (end : Option End) (nets : List Net) → ends_of_nets (without_end end nets) ≡ filter (λ other. not (is_end end other)) (ends_of_nets nets)
ends_left end [] = refl
ends_left end (net ∷ nets) =
    ap (λ (rest : List End). filter (λ other. not (is_end end other)) net.ends ++ rest) (ends_left end nets) ∙ sym (filter_both (λ (other : End). not (is_end end other)) net.ends (ends_of_nets nets))

names_left : (end : Option End) (nets : List Net) → map (λ (net : Net). net.name.id) (without_end end nets) ≡ map (λ (net : Net). net.name.id) nets
names_left end [] = refl
names_left end (net ∷ nets) = ap (λ (names : List (List ℕ)). net.name.id ∷ names) (names_left end nets)

each_left_out : (P : Net → Type 0) (end : Option End) → ((net : Net) → P net → P (net_without_end end net)) → (nets : List Net) → AllByRecursion P nets → AllByRecursion P (without_end end nets)
each_left_out P end keeps [] all = tt
each_left_out P end keeps (net ∷ nets) all = (keeps net all.0, each_left_out P end keeps nets all.1)

length_left : (end : Option End) (nets : List Net) → length (without_end end nets) ≡ length nets
length_left end [] = refl
length_left end (net ∷ nets) = ap suc (length_left end nets)

pub cut_good : (d : Design) (body : CellBody) (end : Option End) → AreGoodNets d body (nets_of body) → AreGoodNets d body (without_end end (nets_of body))
cut_good d body end good =
    let nets = nets_of body in
    let keep : End → Bool = λ other. not (is_end end other) in
    let left = ends_left end nets in
    let less = length_filter keep (ends_of_nets nets) in
    let ends_before = good.end_count in
    record {
      typed = All-from_recursion IsTypedNet (without_end end nets) (each_left_out IsTypedNet end (λ net is. record { name = is.name; properties = is.properties }) nets (recursion_from_All IsTypedNet nets good.typed));
      count = subst (λ n. n ≤ 1048576) (sym (length_left end nets)) good.count;
      end_count = subst (λ (ends : List End). length ends ≤ 4194304) (sym left) (omega arith);
      names = subst (λ (names : List (List ℕ)). AreDistinct names) (sym (names_left end nets)) good.names;
      properties = All-from_recursion (λ (net : Net). HasDistinctKeys net.properties) (without_end end nets) (each_left_out (λ (net : Net). HasDistinctKeys net.properties) end (λ net is. is) nets (recursion_from_All (λ (net : Net). HasDistinctKeys net.properties) nets good.properties));
      ends = subst (All (IsEndOf d body)) (sym left) (All-from_recursion (IsEndOf d body) (filter keep (ends_of_nets nets)) (each_filter (IsEndOf d body) keep (ends_of_nets nets) (recursion_from_All (IsEndOf d body) (ends_of_nets nets) good.ends)));
      once = subst (λ (ends : List End). AreDistinct ends) (sym left) (distinct_of (filter keep (ends_of_nets nets)) (apart_filter keep (ends_of_nets nets) (apart_of (ends_of_nets nets) good.once)));
    }

abbrev keys : List Property → List (List ℕ)
keys properties = map (λ property. property.key.id) properties

abbrev key_place : ℕ → List ℕ → List Property → Option ℕ
key_place i key properties = position_from (λ other. is_name other key) i (keys properties)

keys_in_place : (i k : ℕ) (property : Property) (properties : List Property) → key_place i property.key.id properties ≡ Some k → (j : ℕ) × (k ≡ i + j) × (keys (slice_set properties j property) ≡ keys properties)
keys_in_place i k property [] is = cc
keys_in_place i k property (q ∷ qs) is =
    found_key (is_name q.key.id property.key.id) i k (key_place (i + 1) property.key.id qs) ((j : ℕ) × (k ≡ i + j) × (keys (slice_set (q ∷ qs) j property) ≡ keys (q ∷ qs)))
    (λ test here. (0, omega arith, ap (λ (key : List ℕ). key ∷ keys qs) (sym (same_name q.key.id property.key.id test))))
    (λ later. let more = keys_in_place (i + 1) k property qs later in (suc more.0, omega arith, ap (λ (ks : List (List ℕ)). q.key.id ∷ ks) more.2)) is

key_is_new : (i : ℕ) (property : Property) (properties : List Property) → key_place i property.key.id properties ≡ None → AllByRecursion (λ key. key ≢ property.key.id) (keys properties)
key_is_new i property [] is = tt
key_is_new i property (q ∷ qs) is =
    let both = missing_key (is_name q.key.id property.key.id) i (key_place (i + 1) property.key.id qs) is in
    (λ same. let test : is_name q.key.id property.key.id ≡ true = subst (λ (key : List ℕ). is_name q.key.id key ≡ true) same (is_name-refl q.key.id) in let never : true ≡ false = sym test ∙ both.0 in cc, key_is_new (i + 1) property qs both.1)

keys_more : (property : Property) (properties : List Property) → keys (properties ++ property ∷ []) ≡ keys properties ++ property.key.id ∷ []
keys_more property [] = refl
keys_more property (q ∷ qs) = ap (λ (ks : List (List ℕ)). q.key.id ∷ ks) (keys_more property qs)

put_key : (place : Option ℕ) (property : Property) (properties : List Property) → key_place 0 property.key.id properties ≡ place → HasDistinctKeys properties → HasDistinctKeys (option_map_or (λ k. slice_set properties k property) place (properties ++ property ∷ []))
put_key (Some k) property properties is distinct =
    let at = keys_in_place 0 k property properties is in
    let same : k ≡ at.0 = omega (arith, at.1) in
    subst (λ (ks : List (List ℕ)). AreDistinct ks) (sym (ap (λ (j : ℕ). keys (slice_set properties j property)) same ∙ at.2)) distinct
put_key None property properties is distinct =
    subst (λ (ks : List (List ℕ)). AreDistinct ks) (sym (keys_more property properties))
    (distinct_of (keys properties ++ property.key.id ∷ []) (apart_more (keys properties) property.key.id (key_is_new 0 property properties is) (apart_of (keys properties) distinct)))

pub set_property_distinct : (property : Property) (properties : List Property) → HasDistinctKeys properties → HasDistinctKeys (set_property property properties)
set_property_distinct property properties distinct = put_key (property_place property.key.id properties) property properties refl distinct

put_all : (P : Property → Type 0) (place : Option ℕ) (property : Property) (properties : List Property) → P property → All P properties → All P (option_map_or (λ k. slice_set properties k property) place (properties ++ property ∷ []))
put_all P None property properties here all = All-push P properties property all here
put_all P (Some k) property properties here all = All-set P properties k property here all

pub set_property_typed : (property : Property) (properties : List Property) → IsTypedProperty property → All IsTypedProperty properties → All IsTypedProperty (set_property property properties)
set_property_typed property properties here all = put_all IsTypedProperty (property_place property.key.id properties) property properties here all

-- a property of a net
abbrev net_with : Property → Net → Net
net_with property net = record net { properties = set_property property net.properties }

ends_with : (property : Property) (place : ℕ) (nets : List Net) → ends_of_nets (changed_at (net_with property) place nets) ≡ ends_of_nets nets
ends_with property place [] = refl
ends_with property zero (net ∷ nets) = refl
ends_with property (suc place) (net ∷ nets) = ap (λ (rest : List End). net.ends ++ rest) (ends_with property place nets)

pub net_property_good : (d : Design) (body : CellBody) (property : Property) (place : ℕ) → IsTypedProperty property → AreGoodNets d body (nets_of body) → AreGoodNets d body (changed_at (net_with property) place (nets_of body))
net_property_good d body property place typed good =
    let nets = nets_of body in
    let ends = ends_with property place nets in
    record {
      typed = All-changed_at IsTypedNet (net_with property) (λ net is. record { name = is.name; properties = set_property_typed property net.properties typed is.properties }) place nets good.typed;
      count = subst (λ n. n ≤ 1048576) (sym (length-changed_at (net_with property) place nets)) good.count;
      end_count = subst (λ (es : List End). length es ≤ 4194304) (sym ends) good.end_count;
      names = subst (λ (names : List (List ℕ)). AreDistinct names) (sym (map-changed_at (net_with property) (λ (net : Net). net.name.id) (λ _. refl) place nets)) good.names;
      properties = All-changed_at (λ (net : Net). HasDistinctKeys net.properties) (net_with property) (λ net is. set_property_distinct property net.properties is) place nets good.properties;
      ends = subst (All (IsEndOf d body)) (sym ends) good.ends;
      once = subst (λ (es : List End). AreDistinct es) (sym ends) good.once;
    }
