-- A test whether two nets of a tree are connected.
use Rattle.std.specs.Prelude.{◌≡◌, ◌↔◌, ℕ, List, [], ◌∷◌, Bool, true, false, ◌||◌, ◌&&◌, nat_eq, Option, Some, None}
use Rattle.std.specs.Cmp.Lexicographic.{pointwise}
use Rattle.std.specs.List.{list_any}
use Rattle.std.specs.Option.{option_eq, option_map_or}
use Rattle.netlist_schema.specs.Design.{Design}
use Rattle.netlist_schema.specs.Hierarchy.{NoCellIsBelowItself}
use Rattle.netlist_schema.specs.Types.{CellId, End}
use Rattle.flat_spec.specs.Connection.{Connected}
use Rattle.flat_spec.specs.Occurrences.{nets}
use Rattle.flat_spec.specs.Paths.{Bit, own, on, ends_at}
use Rattle.flat_spec.specs.declared.item.NetAt.{NetAt}

-- both ends are of one instance or both the cell's own, and they are the same bit of the same port
abbrev pub same_end : End → End → Bool
same_end e f = option_eq nat_eq e.inst f.inst && (nat_eq e.port f.port && nat_eq e.bit f.bit)

-- the end is among those that are joined
abbrev pub has_end : List End → End → Bool
has_end ends e = list_any (same_end e) ends

-- which bit the end is, of whatever instance
abbrev pub bit_of : End → Bit
bit_of e = record { port = e.port; bit = e.bit }

-- some bit is among the lower ends as the cell's own, and among the upper ones as that of the instance
abbrev pub share_bit : ℕ → List End → List End → Bool
share_bit step upper lower = list_any (λ e. same_end e (own (bit_of e)) && has_end upper (on step (bit_of e))) lower

-- a path without its last step, and that step; the empty path has none
abbrev pub above : List ℕ → Option (List ℕ × ℕ)
above [] = None
above (i ∷ path) = Some (option_map_or (λ up. (i ∷ up.0, up.1)) (above path) ([], i))

-- the upper net meets the lower one
abbrev pub meets : Design → CellId → NetAt → NetAt → Bool
meets d root upper lower = option_map_or
    (λ up. pointwise nat_eq up.0 upper.path && share_bit up.1 (ends_at d root upper) (ends_at d root lower))
    (above lower.path) false

-- one of the two meets the other
abbrev pub are_neighbours : Design → CellId → NetAt → NetAt → Bool
are_neighbours d root x y = meets d root x y || meets d root y x

-- a list leads from one to the other, each element related to the next, whose inner elements are among those given
abbrev pub leads_through : {A : Type 0} → (A → A → Bool) → List A → A → A → Bool
leads_through related [] x y = related x y
leads_through related (z ∷ zs) x y =
    leads_through related zs x y || (leads_through related zs x z && leads_through related zs z y)

-- both are one net of one occurrence
abbrev pub same_net : NetAt → NetAt → Bool
same_net x y = pointwise nat_eq x.path y.path && nat_eq x.net y.net

-- the two nets are one, or a list of nets of the tree leads from one to the other, in which each two neighbours meet
abbrev pub connects : Design → CellId → NetAt → NetAt → Bool
connects d root x y = same_net x y || leads_through (are_neighbours d root) (nets d root) x y

-- the test tells whether two nets are connected
abbrev pub TestTellsConnection : Type 0
TestTellsConnection = (d : Design) (root : CellId) (x y : NetAt) → NoCellIsBelowItself d
    → (connects d root x y ≡ true) ↔ Connected d root x y
