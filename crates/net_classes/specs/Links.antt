-- Nets that are linked by way of one instance, as pairs.
use Rattle.std.specs.Prelude.{false, ◌≡◌, ◌<◌, ℕ, List, ◌∷◌, [], ◌++◌, Option, Some, None, slice_get, option_and_then, length, slice_index_or}
use Rattle.std.specs.declared.cmp.Ordering.{Ordering}
use Rattle.std.specs.Ordering.{nat_cmp, ordering_then, is_eq}
use Rattle.std.specs.Option.{option_map}
use Rattle.flat_spec.specs.Chains.{Chain}
use Rattle.netlist_schema.specs.Types.{Inst}
use Rattle.flat_spec.specs.Paths.{Bit}
use Rattle.net_classes.specs.Facts.{Facts, first_at}
use Rattle.flat_joined_numbers.specs.Joined.{AreJoined}
use Rattle.flat_joined_numbers.specs.declared.joined.Pair.{Pair}
use Rattle.net_classes.specs.declared.joints.Joint.{Joint}
use Rattle.net_classes.specs.declared.links.Class.{Class}

-- each pair is of related numbers, and pairs lead from each number to those related with it
pub record StandFor (related : ℕ → ℕ → Type 0) (pairs : List Pair) : Type 0 where
  pub sound : (m n : ℕ) → AreJoined pairs m n → related m n
  pub complete : (m n : ℕ) → related m n → Chain (AreJoined pairs) m n

-- two of these joints are of one class, and of these nets
pub record MeetInClass (class : Joint → Option Class) (among : Joint → Type 0) (m n : ℕ) : Type 0 where
  pub first : Joint
  pub second : Joint
  pub shared : Class
  pub first_among : among first
  pub second_among : among second
  pub first_net : first.net ≡ m
  pub second_net : second.net ≡ n
  pub first_class : class first ≡ Some shared
  pub second_class : class second ≡ Some shared

-- the joint is one of the first so many
abbrev pub IsEarly : List Joint → ℕ → Joint → Type 0
IsEarly joints count j = (k : ℕ) × (k < count) × (k < length joints) × (slice_index_or joints k j ≡ j)

-- the order of classes, by instance and then by net
abbrev pub class_cmp : Class → Class → Ordering
class_cmp a b = ordering_then (nat_cmp a.inst b.inst) (nat_cmp a.first b.first)

-- what is seen of classes is the net of one of these joints of the class, and pairs lead to it from each of them
pub record AreLinkedSoFar (class : Joint → Option Class) (among : Joint → Type 0) (seen : Class → Option ℕ) (pairs : List Pair) : Type 0 where
  pub noted : (k : Class) (net : ℕ) → seen k ≡ Some net → (j : Joint) × among j × (class j ≡ Some k) × (j.net ≡ net)
  pub known : (j : Joint) (k : Class) → among j → class j ≡ Some k → (net : ℕ) × (seen k ≡ Some net) × Chain (AreJoined pairs) j.net net
  pub sound : (m n : ℕ) → AreJoined pairs m n → MeetInClass class among m n

-- a net of a class is noted, where none was, or paired with the one that was
abbrev pub IsLinkAdded : (Class → Option ℕ) → List Pair → Class → ℕ → (Class → Option ℕ) → List Pair → Option ℕ → Type 0
IsLinkAdded before pairs k net after added None =
    (added ≡ pairs) × (after k ≡ Some net) × ((q : Class) → is_eq (class_cmp k q) ≡ false → after q ≡ before q)
IsLinkAdded before pairs k net after added (Some first) =
    (added ≡ pairs ++ record { first = first; second = net } ∷ []) × ((q : Class) → after q ≡ before q)

-- the first net inside that is connected with a bit of an instance, by what is kept of its cell
abbrev pub inside_in : Facts → List Inst → ℕ → Bit → Option ℕ
inside_in facts insts step b = option_and_then (λ (i : Inst). first_at facts i.of b) (slice_get insts step)

-- the class of a joint: the instance, and the first net inside that is connected with the bit, where there is one
abbrev pub class_in : Facts → List Inst → Joint → Option Class
class_in facts insts j =
    option_map (λ first. record { inst = j.inst; first = first }) (inside_in facts insts j.inst (record { port = j.port; bit = j.bit }))
