-- The ends of each net afterwards, as one list over all nets.
use Rattle.std.proofs.Common.{◌≡◌, ◌+◌, ℕ, suc, List, [], ◌∷◌, ◌++◌, length, length-append, map, refl, sym, ap, ◌∙◌, arith, Some, None, Option, slice_get}
use Rattle.std.specs.List.{flat_map, range_with_len}
use Rattle.std.specs.Option.{option_map_or}
use Rattle.std.proofs.lemmas.List.{length-map, map-append}
use Rattle.netlist_schema.specs.Types.{Contents, End, Inst, Net}
use Rattle.ungroup_spec.specs.Dissolved.{ends_up, inner_end_at, outer_end_at}
use Rattle.ungroup_spec.specs.Groups.{Site, outer, inner, ends_of_net, parts}
use Rattle.ungroup_plans.specs.Ends.{inner_ends, inner_up, outer_ends, outer_up}
use Rattle.ungroup_plans.specs.Heads.{site}

-- a function of the places of a list, where it is a function of what stands there
pub map_places : {A B : Type 0} (f : ℕ → B) (g : A → B) (xs : List A) (a : ℕ) → ((k : ℕ) (x : A) → slice_get xs k ≡ Some x → f (a + k) ≡ g x)
    → map f (range_with_len a (length xs)) ≡ map g xs
map_places f g [] a same = refl
map_places f g (x ∷ xs) a same =
    let first : a ≡ a + 0 = omega arith in
    let here : f a ≡ g x = ap f first ∙ same 0 x refl in
    let rest = map_places f g xs (a + 1) (λ k y at. next k y at) in
    λ t. here t ∷ rest t
  where
    next : (k : ℕ) (y : _) → slice_get xs k ≡ Some y → f (a + 1 + k) ≡ g y
    next k y at = let e : a + 1 + k ≡ a + suc k = omega arith in ap f e ∙ same (suc k) y at

map_twice : {A B C : Type 0} (f : B → C) (g : A → B) (xs : List A) → map f (map g xs) ≡ map (λ x. f (g x)) xs
map_twice f g [] = refl
map_twice f g (x ∷ xs) = ap (λ v. f (g x) ∷ v) (map_twice f g xs)

flat_same : {A B : Type 0} (f g : A → List B) (xs : List A) → ((x : A) → f x ≡ g x) → flat_map f xs ≡ flat_map g xs
flat_same f g [] same = refl
flat_same f g (x ∷ xs) same = λ t. same x t ++ flat_same f g xs same t

outer_same : (s : Site) (end : End) (i : Option ℕ) → outer_end_at s end i ≡ outer_up s.place (length s.within.insts) end i
outer_same s end None = refl
outer_same s end (Some i) = refl

inner_same : (s : Site) (end : End) (i : Option ℕ) → inner_end_at s end i ≡ inner_up s.place end i
inner_same s end None = refl
inner_same s end (Some i) = refl

ends_there : (nets : List Net) (k : ℕ) (net : Net) → slice_get nets k ≡ Some net → ends_of_net nets k ≡ net.ends
ends_there nets k net at = ap (λ (o : Option Net). option_map_or (λ (v : Net). v.ends) o []) at

outers : (s : Site) → map (λ n. ends_up s (outer n)) (range_with_len 0 (length s.around.nets)) ≡ map (outer_ends s.place (length s.within.insts)) s.around.nets
outers s = map_places (λ n. ends_up s (outer n)) (outer_ends s.place (length s.within.insts)) s.around.nets 0 same
  where
    same : (k : ℕ) (net : Net) → slice_get s.around.nets k ≡ Some net → ends_up s (outer (0 + k)) ≡ outer_ends s.place (length s.within.insts) net
    same k net at =
        let e : 0 + k ≡ k = omega arith in
        ap (λ v. ends_up s (outer v)) e
        ∙ ap (flat_map (λ (end : End). outer_end_at s end end.inst)) (ends_there s.around.nets k net at)
        ∙ flat_same (λ (end : End). outer_end_at s end end.inst) (λ (end : End). outer_up s.place (length s.within.insts) end end.inst) net.ends (λ end. outer_same s end end.inst)

inners : (s : Site) → map (λ n. ends_up s (inner n)) (range_with_len 0 (length s.within.nets)) ≡ map (inner_ends s.place) s.within.nets
inners s = map_places (λ n. ends_up s (inner n)) (inner_ends s.place) s.within.nets 0 same
  where
    same : (k : ℕ) (net : Net) → slice_get s.within.nets k ≡ Some net → ends_up s (inner (0 + k)) ≡ inner_ends s.place net
    same k net at =
        let e : 0 + k ≡ k = omega arith in
        ap (λ v. ends_up s (inner v)) e
        ∙ ap (flat_map (λ (end : End). inner_end_at s end end.inst)) (ends_there s.within.nets k net at)
        ∙ flat_same (λ (end : End). inner_end_at s end end.inst) (λ (end : End). inner_up s.place end end.inst) net.ends (λ end. inner_same s end end.inst)

-- those of the outer nets, and then those of the inner ones, are the ends of all nets
pub ends_are : (around : Contents) (place : ℕ) (within : Contents) (children : ℕ) (lists : List (List End)) → children ≡ length within.insts
    → lists ≡ map (outer_ends place children) around.nets ++ map (inner_ends place) within.nets
    → (inst : Inst) → lists ≡ map (ends_up (site around place inst within)) (parts (site around place inst within))
ends_are around place within children lists count is inst =
    let s = site around place inst within in
    is
    ∙ ap (λ n. map (outer_ends place n) around.nets ++ map (inner_ends place) within.nets) count
    ∙ (λ t. sym (outers s) t ++ sym (inners s) t)
    ∙ (λ t. sym (map_twice (ends_up s) outer (range_with_len 0 (length around.nets))) t ++ sym (map_twice (ends_up s) inner (range_with_len 0 (length within.nets))) t)
    ∙ sym (map-append (ends_up s) (map outer (range_with_len 0 (length around.nets))) (map inner (range_with_len 0 (length within.nets))))

pub ends_count : (around : Contents) (place : ℕ) (within : Contents) (children : ℕ) (lists : List (List End))
    → lists ≡ map (outer_ends place children) around.nets ++ map (inner_ends place) within.nets → length lists ≡ length around.nets + length within.nets
ends_count around place within children lists is =
    ap length is ∙ length-append (map (outer_ends place children) around.nets) (map (inner_ends place) within.nets)
    ∙ (λ t. length-map around.nets (outer_ends place children) t + length-map within.nets (inner_ends place) t)
