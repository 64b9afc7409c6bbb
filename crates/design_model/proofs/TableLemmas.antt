-- Where a net stands among the nets of a tree, and what stands at the place beside it.
use Rattle.std.proofs.Common.{◌≡◌, ◌<◌, ◌≤◌, ◌+◌, ℕ, List, ◌∷◌, length, get_or, drop, true, false, refl, sym, ap, subst, ◌∙◌, inl, inr, arith, Some, slice_get}
use Rattle.std.specs.List.{Contains}
use Rattle.std.proofs.lemmas.List.{drop_all, get_or_read}
use Rattle.std.proofs.lemmas.Option.{get_or_from_slice_get, slice_get_read, slice_get_within}
use Rattle.netlist_schema.specs.Design.{Design}
use Rattle.netlist_schema.specs.Hierarchy.{NoCellIsBelowItself}
use Rattle.flat_spec.specs.ConnectionTest.{same_net}
use Rattle.flat_spec.specs.Occurrences.{nets}
use Rattle.flat_spec.specs.Paths.{IsNet}
use Rattle.flat_spec.specs.Representatives.{representative}
use Rattle.flat_spec.specs.declared.item.NetAt.{NetAt}
use Rattle.flat_spec.proofs.ListLemmas.{Member, Member-contains}
use Rattle.flat_spec.proofs.OccurrenceLemmas.{nets-member}
use Rattle.flat_spec.proofs.TestLemmas.{same_net-true, same_net-refl}
use Rattle.design_model.specs.Tables.{AreTreeNets}
use Rattle.design_model.specs.declared.tree_nets.TreeNets.{TreeNets}
use Rattle.flat_spec.proofs.RunLemmas.{drop-first}

-- the net is the one that is sought
pub net_found : (xs : List NetAt) (k : ℕ) (x y : NetAt) → k < length xs → x ≡ get_or xs k x → same_net x y ≡ true → slice_get xs k ≡ Some y
net_found xs k x y within is same = slice_get_read xs (length xs) k x refl within is ∙ ap Some (same_net-true x y same)

-- it is not, so that the one that is sought stands further on
pub still_listed : (xs : List NetAt) (k : ℕ) (x y : NetAt) → k < length xs → x ≡ get_or xs k x → same_net x y ≡ false → Member (drop k xs) y
    → Member (drop (k + 1) xs) y
still_listed xs k x y within is other listed = further (subst (λ v. Member v y) (drop-first xs k x within is) listed)
  where
    further : Member (x ∷ drop (k + 1) xs) y → Member (drop (k + 1) xs) y
    further m =
        elim m [
          | inl same ↦
              let one : same_net x y ≡ true = subst (λ v. same_net x v ≡ true) same (same_net-refl x) in
              absurd (cc (sym one ∙ other))
          | inr rest ↦ rest
        ]

-- it stands before the end
pub not_past : (xs : List NetAt) (k : ℕ) (y : NetAt) → length xs ≤ k → Member (drop k xs) y → ⊥
not_past xs k y past listed = subst (λ v. Member v y) (drop_all k xs past) listed

module _ (d : Design) (t : TreeNets) (are : AreTreeNets d t) where
  -- each net of the tree is listed
  pub net_listed : NoCellIsBelowItself d → (x : NetAt) → IsNet d t.root x → Contains t.nets.items x
  net_listed acyclic x net = subst (λ v. Contains v x) (sym are.listed) (Member-contains (nets d t.root) x (nets-member d acyclic t.root x net))

  -- a place stands beside each net
  place_within : (i : ℕ) (x : NetAt) → slice_get t.nets.items i ≡ Some x → i < length t.places.items
  place_within i x at = let within = slice_get_within t.nets.items i x at in let long = are.firsts.long in omega arith

  -- it is that of the representative
  first_at : (i first : ℕ) (x : NetAt) → slice_get t.nets.items i ≡ Some x → first ≡ get_or t.places.items i first
      → slice_get t.nets.items first ≡ Some (representative d t.root x)
  first_at i first x at is =
      ap (slice_get t.nets.items) (get_or_read t.places.items i first (place_within i x at) is 0) ∙ are.firsts.first i x at

  pub first_within : (i first : ℕ) (x : NetAt) → slice_get t.nets.items i ≡ Some x → first ≡ get_or t.places.items i first → first < length t.nets.items
  first_within i first x at is = slice_get_within t.nets.items first (representative d t.root x) (first_at i first x at is)

  pub first_read : (i first : ℕ) (x y : NetAt) → slice_get t.nets.items i ≡ Some x → first ≡ get_or t.places.items i first → y ≡ get_or t.nets.items first y
      → y ≡ representative d t.root x
  first_read i first x y at is read =
      read ∙ get_or_from_slice_get t.nets.items first (representative d t.root x) y (first_at i first x at is)
