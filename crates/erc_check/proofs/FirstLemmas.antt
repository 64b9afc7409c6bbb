-- First nets with what is noted of them, with one pin more.
use Rattle.std.proofs.Common.{◌≡◌, ℕ, zero, suc, ◌<◌, List, [], ◌∷◌, ◌++◌, map, length, take, drop, get_or, append-nil, Bool, cond, Option, Some, refl, sym, ap, subst, ◌∙◌, inl, inr, arith}
use Rattle.std.proofs.Math.ListN.{set}
use Rattle.std.specs.List.{AllPairs, Contains, flat_map}
use Rattle.std.proofs.lemmas.Bool.{false_from_ne_true}
use Rattle.std.proofs.lemmas.List.{length-map}
use Rattle.flat_spec.specs.ConnectionTest.{same_net}
use Rattle.flat_spec.specs.PathOrder.{NetBefore}
use Rattle.flat_spec.specs.Types.{NetAt}
use Rattle.flat_spec.proofs.ListLemmas.{Ascends, Ascends-map, Ascends-pairs, Member}
use Rattle.flat_spec.proofs.PinLemmas.{AllPairs-ascends}
use Rattle.flat_spec.proofs.RepresentativeLemmas.{PathBefore-not_both}
use Rattle.flat_spec.proofs.TestLemmas.{same_net-refl, same_net-true}
use Rattle.erc_check.specs.Firsts.{drive_after, first_found, IsPlaceOf, net_found, one_more, one_pin_more, with_note}
use Rattle.erc_check.specs.declared.firsts.FirstNet.{FirstNet}

-- a net does not come before itself
pub not_itself : (x y : NetAt) → NetBefore x y → y ≡ x → ⊥
not_itself x y before same =
    elim (subst (λ v. NetBefore x v) same before) [ inl path ↦ PathBefore-not_both x.path x.path path path | inr net ↦ omega (arith, net.1) ]

pub get_or-map : {A B : Type 0} (f : A → B) (xs : List A) (i : ℕ) (a : A) (b : B) → i < length xs → get_or (map f xs) i b ≡ f (get_or xs i a)
get_or-map f [] i a b h = absurd (omega arith)
get_or-map f (x ∷ xs) zero a b h = refl
get_or-map f (x ∷ xs) (suc i) a b h = get_or-map f xs i a b (omega arith)

get_or-member : {A : Type 0} (xs : List A) (i : ℕ) (d : A) → i < length xs → Member xs (get_or xs i d)
get_or-member [] i d h = absurd (omega arith)
get_or-member (x ∷ xs) zero d h = inl refl
get_or-member (x ∷ xs) (suc i) d h = inr (get_or-member xs i d (omega arith))

map_same : {A B : Type 0} (f g : A → B) (xs : List A) → ((x : A) → Member xs x → f x ≡ g x) → map f xs ≡ map g xs
map_same f g [] h = refl
map_same f g (x ∷ xs) h = λ i. h x (inl refl) i ∷ map_same f g xs (λ y m. h y (inr m)) i

pub found_of_firsts : (drives : NetAt → Option ℕ) (nets : List NetAt) → flat_map first_found (map (with_note drives) nets) ≡ flat_map (λ x. net_found (drives x) x) nets
found_of_firsts drives [] = refl
found_of_firsts drives (x ∷ nets) = ap (λ v. net_found (drives x) x ++ v) (found_of_firsts drives nets)

module _ (drives : NetAt → Option ℕ) (y : NetAt) (s : Bool) where
  after : NetAt → FirstNet
  after = with_note (λ x. drive_after y s x (drives x))

  here : (x : NetAt) → x ≡ y → one_pin_more s (with_note drives x) ≡ after x
  unfolding after
  here x same = ap (λ b. record { at = x; drive = cond b (Some (one_more s (drives x))) (drives x) }) (sym (ap (λ v. same_net v x) (sym same) ∙ same_net-refl x))

  elsewhere : (x : NetAt) → (x ≡ y → ⊥) → with_note drives x ≡ after x
  unfolding after
  elsewhere x other =
      ap (λ b. record { at = x; drive = cond b (Some (one_more s (drives x))) (drives x) }) (sym (false_from_ne_true (same_net y x) (λ e. other (sym (same_net-true y x e)))))

  set_here : (nets : List NetAt) (i : ℕ) (e : FirstNet) → Ascends NetBefore nets → i < length nets → get_or nets i y ≡ y → e ≡ one_pin_more s (with_note drives y)
      → set (map (with_note drives) nets) i e ≡ map after nets
  set_here [] i e asc h at is = absurd (omega arith)
  set_here (x ∷ nets) zero e asc h at is =
      λ i. (is ∙ (ap (λ v. one_pin_more s (with_note drives v)) (sym at) ∙ here x at)) i ∷ map_same (with_note drives) after nets (λ z m. elsewhere z (λ same. not_itself x z (asc.0 z m) (same ∙ sym at))) i
  set_here (x ∷ nets) (suc k) e asc h at is =
      let m : Member nets y = subst (Member nets) at (get_or-member nets k y (omega arith)) in
      λ i. elsewhere x (λ same. not_itself x y (asc.0 y m) (sym same)) i ∷ set_here nets k e asc.1 (omega arith) at is i

  -- one pin more at a net that stands there
  pub one_noted : (nets : List NetAt) (old new : List FirstNet) (i : ℕ) (was e : FirstNet) → AllPairs NetBefore nets → old ≡ map (with_note drives) nets
      → IsPlaceOf old y i → was ≡ get_or old i was → e ≡ one_pin_more s was → new ≡ set old i e → new ≡ map (with_note (λ x. drive_after y s x (drives x))) nets
  unfolding after
  one_noted nets old new i was e pairs is at was_is e_is new_is =
      let within : i < length nets = subst (λ n. i < n) (ap length is ∙ length-map nets (with_note drives)) at.0 in
      let there : was ≡ with_note drives (get_or nets i y) = was_is ∙ (ap (λ v. get_or v i was) is ∙ get_or-map (with_note drives) nets i y was within) in
      let net : get_or nets i y ≡ y = sym (ap (λ (f : FirstNet). f.at) there) ∙ (ap (λ (f : FirstNet). f.at) was_is ∙ at.1 was) in
      new_is ∙ (ap (λ v. set v i e) is ∙ set_here nets i e (AllPairs-ascends NetBefore nets pairs) within net (e_is ∙ ap (one_pin_more s) (there ∙ ap (with_note drives) net)))

-- a net that is there stands at some place
pub none_is_there : (drives : NetAt → Option ℕ) (y : NetAt) (nets : List NetAt) (old : List FirstNet) → AllPairs NetBefore nets → Contains nets y → old ≡ map (with_note drives) nets
    → (AllPairs (λ f g. NetBefore f.at g.at) old → (place : ℕ) → IsPlaceOf old y place → ⊥) → ⊥
none_is_there drives y nets old pairs there is none =
    let order : (f g : FirstNet) → Type 0 = λ f g. NetBefore f.at g.at in
    let asc = Ascends-map NetBefore order (with_note drives) (λ a b before. before) nets (AllPairs-ascends NetBefore nets pairs) in
    let in_order : AllPairs order old = subst (AllPairs order) (sym is) (Ascends-pairs order (map (with_note drives) nets) asc) in
    let place : IsPlaceOf (map (with_note drives) nets) y there.0 = (
      subst (λ n. there.0 < n) (sym (length-map nets (with_note drives))) there.1,
      λ d. ap (λ (f : FirstNet). f.at) (get_or-map (with_note drives) nets there.0 y d there.1) ∙ there.2,
    ) in
    none in_order there.0 (subst (λ v. IsPlaceOf v y there.0) (sym is) place)

drop_all : {A : Type 0} (xs : List A) → drop (length xs) xs ≡ []
drop_all [] = refl
drop_all (x ∷ xs) = drop_all xs

take_all : {A : Type 0} (xs : List A) → take (length xs) xs ≡ xs
take_all [] = refl
take_all (x ∷ xs) = ap (λ v. x ∷ v) (take_all xs)

-- a list written over another of the same length
pub put_back : {A : Type 0} (new old : List A) (n : ℕ) → length new ≡ length old → n ≡ length new → take n (new ++ drop (length new) old) ≡ new
put_back new old n same is =
    (λ i. take (is i) (new ++ drop (same i) old))
    ∙ (ap (λ v. take (length new) (new ++ v)) (drop_all old) ∙ (ap (take (length new)) (append-nil new) ∙ take_all new))

-- first nets have as many notes, whatever is noted
pub same_length : (f g : NetAt → Option ℕ) (nets : List NetAt) (old new : List FirstNet) → old ≡ map (with_note f) nets → new ≡ map (with_note g) nets → length new ≡ length old
same_length f g nets old new old_is new_is = ap length new_is ∙ (length-map nets (with_note g) ∙ sym (ap length old_is ∙ length-map nets (with_note f)))
