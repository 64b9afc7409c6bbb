use Rattle.std.proofs.Common.{ℕ, List, length, rules}
use Rattle.std.specs.Ordering.{is_lt}
use Rattle.std.proofs.lemmas.Cmp.{nat_list_cmp_total}
use Rattle.std.proofs.lemmas.Fn.{always_returns_same}
use Rattle.std.proofs.lemmas.List.Sorted.{ranks_by}
use Rattle.ask_names.specs.Orders.{cmp_at, name_at}
use Rattle.ask_names.proofs.OrderLemmas.{places_permuted}
use Rattle.ask_names.proofs.order.put_in_order.Goals as goal

pub returns : goal.returns
returns g c =
    let names : List (List ℕ) = g.R.Named.names c.args.items.now in
    record {
      differ = c.requires.differ;
      places = places_permuted (length names) c.args.places.now.items c.sort_unstable_by.new.self.items c.sort_unstable_by.ensures.permutation c.requires.places;
      ascend = c.sort_unstable_by.ensures.sorted (λ a b. is_lt (cmp_at names a b)) (ranks_by nat_list_cmp_total (name_at names)) (always_returns_same _ _ _ (λ a r f k. search rules));
    }
