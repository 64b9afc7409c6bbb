-- The map of pairs in the order of their slots.
use Rattle.std.proofs.Common.{◌≡◌, ℕ, suc, List, [], ◌∷◌, ◌++◌, length, take, drop, inl, inr, refl, sym, ap, ◌∙◌, arith}
use Rattle.std.specs.Ordering.{nat_cmp}
use Rattle.std.specs.Cmp.{nat_cmp_total}
use Rattle.std.specs.FinMap.{from_sorted, empty, insert, put, len-entries, empty_of_len, entries-from_sorted, same_entries_map, entries-insert}
use Rattle.std.specs.FinMap.Entries.{is_sorted-put}
use Rattle.ver_table.specs.Entries.{with_all, IsInOrder, GivesWay}
use Rattle.ver_table.specs.Rows.{set_all}
use Rattle.ver_table.proofs.Places.{to_T, from_T, put_at, put_between}

module _ {X : Type 0} where
  pub map_of_nothing : from_sorted {X = X} {R = nat_cmp} [] ≡ empty
  map_of_nothing = empty_of_len _ (len-entries _ ∙ ap length (entries-from_sorted nat_cmp [] tt))

  -- the pairs with one more are in order
  pub order_put : (ps : List (ℕ × X)) → IsInOrder ps → (slot : ℕ) (x : X) → IsInOrder (put nat_cmp slot x ps)
  order_put ps ordered slot x = from_T _ (is_sorted-put nat_cmp nat_cmp_total slot x ps (to_T ordered))

  -- and their map has one more
  map_of_put : (ps : List (ℕ × X)) → IsInOrder ps → (slot : ℕ) (x : X) → from_sorted {R = nat_cmp} (put nat_cmp slot x ps) ≡ insert (from_sorted ps) slot x
  map_of_put ps ordered slot x =
      same_entries_map _ _ (entries-from_sorted nat_cmp (put nat_cmp slot x ps) (to_T (order_put ps ordered slot x))
      ∙ sym (entries-insert nat_cmp_total (from_sorted ps) slot x ∙ ap (put nat_cmp slot x) (entries-from_sorted nat_cmp ps (to_T ordered))))

  -- so too with several more
  pub order_with_all : (ps cs : List (ℕ × X)) → IsInOrder ps → IsInOrder (with_all ps cs)
  order_with_all ps [] ordered = ordered
  order_with_all ps (c ∷ cs) ordered = order_with_all (put nat_cmp c.0 c.1 ps) cs (order_put ps ordered c.0 c.1)

  pub map_of_with_all : (ps cs : List (ℕ × X)) → IsInOrder ps → from_sorted {R = nat_cmp} (with_all ps cs) ≡ set_all (from_sorted ps) cs
  map_of_with_all ps [] ordered = refl
  map_of_with_all ps (c ∷ cs) ordered = map_of_with_all (put nat_cmp c.0 c.1 ps) cs (order_put ps ordered c.0 c.1) ∙ ap (λ m. set_all m cs) (map_of_put ps ordered c.0 c.1)

  -- a pair in the place of those that give way
  pub put_way : (ps : List (ℕ × X)) (slot from to : ℕ) (x : X) → GivesWay ps slot from to → put nat_cmp slot x ps ≡ take from ps ++ (slot, x) ∷ drop to ps
  put_way ps slot from to x (inl h) = let next : suc from ≡ to = omega (arith, h.1) in rw (← next) (put_at slot x ps from h.0)
  put_way ps slot from to x (inr h) = rw h.1 (put_between slot x ps from h.0)
