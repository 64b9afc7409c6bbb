-- Joints by their bits.
use Rattle.std.specs.Prelude.{◌≡◌, ◌<◌, ◌≤◌, ◌⊎◌, ℕ, List, Option, Some, None, length, slice_index_or}
use Rattle.std.specs.List.{Contains}
use Rattle.flat_spec.specs.Paths.{Bit}
use Rattle.net_classes.specs.declared.joints.Joint.{Joint}

-- the joint's bit comes before this bit of the instance
abbrev pub IsBefore : ℕ → Bit → Joint → Type 0
IsBefore inst b j = (j.inst < inst) ⊎ ((j.inst ≡ inst) × ((j.port < b.port) ⊎ ((j.port ≡ b.port) × (j.bit < b.bit))))

-- it is this bit of the instance
pub record IsAt (inst : ℕ) (b : Bit) (j : Joint) : Type 0 where
  pub inst_is : j.inst ≡ inst
  pub port_is : j.port ≡ b.port
  pub bit_is : j.bit ≡ b.bit

-- so many of the joints come before it, and the others do not
pub record IsCount (joints : List Joint) (inst : ℕ) (b : Bit) (count : ℕ) : Type 0 where
  pub bound : count ≤ length joints
  pub before : (k : ℕ) (d : Joint) → k < count → IsBefore inst b (slice_index_or joints k d)
  pub behind : (k : ℕ) (d : Joint) → count ≤ k → k < length joints → IsBefore inst b (slice_index_or joints k d) → ⊥

-- the joint of a net with this bit of the instance
abbrev pub joint_at : ℕ → Bit → ℕ → Joint
joint_at inst b net = record { inst = inst; port = b.port; bit = b.bit; net = net }

-- the net of one of the joints that joins the bit of the instance, none where none does
abbrev pub IsNetFound : List Joint → ℕ → Bit → Option ℕ → Type 0
IsNetFound joints inst b None = (net : ℕ) → Contains joints (joint_at inst b net) → ⊥
IsNetFound joints inst b (Some net) = Contains joints (joint_at inst b net)
