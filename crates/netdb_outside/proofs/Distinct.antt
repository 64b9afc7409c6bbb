-- Values of items that differ, item by item.
use Rattle.std.proofs.Common.{◌≡◌, ◌<◌, ◌+◌, ℕ, List, length, get_or, take, map, ap, sym, ◌∙◌, arith, Any}
use Rattle.std.proofs.lemmas.List.{get_or-map, get_or-take, get_or_default, map_more, length-map, length-take}
use Rattle.std.proofs.lemmas.List.Quantifiers.{all_pairs_push}
use Rattle.netlist_schema.specs.Names.{AreDistinct}

-- the item x at i of xs, and those before it
module _ {X Y : Type 0} (f : X → Y) (xs : List X) (i : ℕ) (x : X) (below : i < length xs) (is : x ≡ get_or xs i x) where
  -- the values of those so far and of this one differ where none so far has its value
  pub distinct_more : AreDistinct (map f (take i xs)) → (Any (λ y. f y ≡ f x) (take i xs) → ⊥) → AreDistinct (map f (take (i + 1) xs))
  distinct_more distinct new =
      rw (map_more f xs i x below)
      (all_pairs_push (λ a b. a ≡ b → ⊥) (map f (take i xs)) (f (get_or xs i x)) distinct
      (λ k d within same.
      let there : k < length (take i xs) = omega (arith, within, length-map (take i xs) f) in
      new (k, get_or (take i xs) k x, there, get_or_default (take i xs) k (get_or (take i xs) k x) x there, sym (get_or-map f (take i xs) k x d there) ∙ (same ∙ ap f (sym is)))))

  -- they do not differ where one so far has its value
  pub distinct_has_none : Any (λ y. f y ≡ f x) (take i xs) → AreDistinct (map f xs) → ⊥
  distinct_has_none held distinct =
      let k = held.0 in
      let earlier : k < i = omega (arith, held.2, length-take i xs) in
      let there : k < length xs = omega (arith, earlier, below) in
      let value : get_or xs k held.1 ≡ held.1 = sym (get_or-take i xs k held.1 earlier) ∙ held.3 in
      distinct k i (f x) earlier (omega (arith, below, length-map xs f))
      (get_or-map f xs k held.1 (f x) there ∙ (ap f value ∙ (held.4 ∙ (ap f is ∙ sym (get_or-map f xs i x (f x) below)))))
