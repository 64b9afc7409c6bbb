-- Where pins come: by occurrence, and within one by bit.
use Rattle.std.specs.Prelude.{ℕ, List, [], ◌∷◌, Bool, true, false, ◌&&◌, ◌||◌, not, nat_eq, nat_lt, filter}
use Rattle.std.specs.Cmp.Lexicographic.{pointwise}
use Rattle.netlist_schema.specs.Design.{Design}
use Rattle.flat_spec.specs.Paths.{Bit}
use Rattle.flat_spec.specs.Types.{Item, NetAt}
use Rattle.flat_spec.specs.declared.item.Item.TheVariants.{Enter, Net, Pin}
use Rattle.ask_spec.specs.Roles.{pins_as}
use Rattle.ask_spec.specs.declared.role.Role.{Role}
use Rattle.net_classes.specs.declared.joints.Joint.{Joint}
use Rattle.net_rows.specs.Tops.{bit_before}

-- a bit of an occurrence
abbrev pub PinPlace : Type 0
PinPlace = List ℕ × Bit

-- the path comes before the other: an occurrence comes before those below it
abbrev pub path_before : List ℕ → List ℕ → Bool
path_before [] [] = false
path_before [] (j ∷ q) = true
path_before (i ∷ p) [] = false
path_before (i ∷ p) (j ∷ q) = nat_lt i j || (nat_eq i j && path_before p q)

-- the first pin comes before the second
abbrev pub place_before : PinPlace → PinPlace → Bool
place_before p q = path_before p.0 q.0 || (pointwise nat_eq p.0 q.0 && bit_before p.1 q.1)

-- the item is a pin that comes before the place
abbrev pub is_passed : PinPlace → Item → Bool
is_passed at (Enter path cell properties) = false
is_passed at (Net path net first) = false
is_passed at (Pin path port bit first) = place_before (path, record { port = port; bit = bit }) at

-- the pins of a net that stand so at it and do not come before the place
abbrev pub left_at : Role → Design → NetAt → PinPlace → List Item
left_at role d x at = filter (λ item. not (is_passed at item)) (pins_as role d x)

-- the joint's bit comes before this bit of an instance
abbrev pub joint_before : ℕ → Bit → Joint → Bool
joint_before inst b j = nat_lt j.inst inst || (nat_eq j.inst inst && bit_before (record { port = j.port; bit = j.bit }) b)
