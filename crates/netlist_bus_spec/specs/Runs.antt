-- Runs: nets one after another that stand for the bits of one bus.
use Rattle.std.specs.Prelude.{◌≡◌, ◌≤◌, ◌⊎◌, ◌-◌, ℕ, zero, suc, Bool, true, false, ◌&&◌, nat_eq, nat_le, if◌then◌else◌, List, [], ◌∷◌, length, map, take, slice_get, Option, Some, None, unwrap_or}
use Rattle.std.specs.Cmp.Lexicographic.{pointwise}
use Rattle.netlist_schema.specs.Types.{End, Name, Net, Port}
use Rattle.netlist_schema.specs.declared.limits.TheConstants.{MOST_WIDTH}
use Rattle.netlist_bus_spec.specs.Members.{member_id, member_text, member_name, numbered}
use Rattle.netlist_bus_spec.specs.Same.{same_bytes, same_name, same_properties}

-- An end is a bit of an array port of this width, among the ports of its instance, or of the cell itself.
pub record IsBitOf (ports : Option ℕ → List Port) (width : ℕ) (e : End) : Type 0 where
  pub port : Port
  pub there : slice_get (ports e.inst) e.port ≡ Some port
  pub array : port.array ≡ Some width

-- These nets are a run: from 2 to 65,536 of them, and four conditions. For one identifier `d`, which has a byte at least, and one
-- text `D` the net of number k, from 0, has the identifier `d_k_` and the shown text `D[k]`. Their property lists are equal. They have equally many ends. The ends
-- in one place are, net by net, bit k of one array port, of one instance or of the cell itself, which is as wide as the run.
pub record IsRun (ports : Option ℕ → List Port) (nets : List Net) : Type 0 where
  pub least : 2 ≤ length nets
  pub most : length nets ≤ MOST_WIDTH
  pub id : List ℕ
  pub text : List ℕ
  pub some_byte : 1 ≤ length id
  pub names : (k : ℕ) (n : Net) → slice_get nets k ≡ Some n → n.name ≡ record { id = member_id id k; shown = Some (member_text text k) }
  pub properties : (j k : ℕ) (m n : Net) → slice_get nets j ≡ Some m → slice_get nets k ≡ Some n → m.properties ≡ n.properties
  pub counts : (j k : ℕ) (m n : Net) → slice_get nets j ≡ Some m → slice_get nets k ≡ Some n → length m.ends ≡ length n.ends
  pub bits : (k i : ℕ) (n : Net) (e : End) → slice_get nets k ≡ Some n → slice_get n.ends i ≡ Some e → (e.bit ≡ k) × IsBitOf ports (length nets) e
  pub places : (j k i : ℕ) (m n : Net) (a b : End) → slice_get nets j ≡ Some m → slice_get nets k ≡ Some n → slice_get m.ends i ≡ Some a → slice_get n.ends i ≡ Some b
      → (a.inst ≡ b.inst) × (a.port ≡ b.port)

-- a width of which a run begins with the first of these nets
abbrev pub BeginsRun : (Option ℕ → List Port) → List Net → ℕ → Type 0
BeginsRun ports nets w = (w ≤ length nets) × IsRun ports (take w nets)

-- The greatest width of the runs that begin with the first of these nets; 1 where none does.
pub record IsGreatest (ports : Option ℕ → List Port) (nets : List Net) (w : ℕ) : Type 0 where
  pub begins : (w ≡ 1) ⊎ BeginsRun ports nets w
  pub greatest : (v : ℕ) → BeginsRun ports nets v → v ≤ w

-- a text without its last three bytes
abbrev pub stem : List ℕ → List ℕ
stem text = take (length text - 3) text

-- the name of an array, whose text is shown where it differs from the identifier
abbrev pub array_name : List ℕ → List ℕ → Name
array_name d text = record { id = d; shown = if same_bytes d text then None else Some text }

-- the name of the array of a run, by its first net: `d_0_`, shown as `D[0]`
abbrev pub run_name : Net → Name
run_name n = array_name (stem n.name.id) (stem (unwrap_or n.name.shown []))

-- the end at the same port, of this bit
abbrev pub with_bit : ℕ → End → End
with_bit k e = record { inst = e.inst; port = e.port; bit = k }

-- the net of number k of the row that begins with this net
abbrev pub row_net : Net → ℕ → Net
row_net n k = record { name = member_name (run_name n) k; ends = map (with_bit k) n.ends; properties = n.properties }

-- These nets are the row of one array, whose first net joins bits of ports as wide as the row.
pub record IsRow (ports : Option ℕ → List Port) (nets : List Net) : Type 0 where
  pub first : Net
  pub there : slice_get nets 0 ≡ Some first
  pub some_byte : 1 ≤ length (run_name first).id
  pub row : nets ≡ numbered (row_net first) 0 (length nets)
  pub wide : (i : ℕ) (e : End) → slice_get first.ends i ≡ Some e → IsBitOf ports (length nets) e

-- a port is an array of this width
abbrev pub is_array : ℕ → Option ℕ → Bool
is_array width None = false
is_array width (Some n) = nat_eq n width

-- a port that is there is an array of this width
abbrev pub is_wide : ℕ → Option Port → Bool
is_wide width None = false
is_wide width (Some p) = is_array width p.array

-- the same instance, or none both times
abbrev pub same_inst : Option ℕ → Option ℕ → Bool
same_inst None None = true
same_inst None (Some j) = false
same_inst (Some i) None = false
same_inst (Some i) (Some j) = nat_eq i j

-- an end is bit k of a port of this width, the one at which another end is
abbrev pub is_bit : (Option ℕ → List Port) → ℕ → ℕ → End → End → Bool
is_bit ports width k a b = (same_inst a.inst b.inst && nat_eq a.port b.port) && (nat_eq b.bit k && is_wide width (slice_get (ports b.inst) b.port))

-- a net has the number k in the run of this width that begins with another net
abbrev pub is_member : (Option ℕ → List Port) → ℕ → Net → ℕ → Net → Bool
is_member ports width first k n = same_name n.name (member_name (run_name first) k) && (same_properties n.properties first.properties && pointwise (is_bit ports width k) first.ends n.ends)

-- nets have the numbers from k on in that run
abbrev pub are_members : (Option ℕ → List Port) → ℕ → Net → ℕ → List Net → Bool
are_members ports width first k [] = true
are_members ports width first k (n ∷ ns) = is_member ports width first k n && are_members ports width first (suc k) ns

-- these nets are a run
abbrev pub is_run : (Option ℕ → List Port) → List Net → Bool
is_run ports [] = false
is_run ports (n ∷ ns) = (nat_le 2 (length (n ∷ ns)) && nat_le (length (n ∷ ns)) MOST_WIDTH) && (nat_le 1 (length (stem n.name.id)) && are_members ports (length (n ∷ ns)) n 0 (n ∷ ns))

-- the greatest number from 1 up to another that passes a test, 1 where none does
abbrev pub greatest : (ℕ → Bool) → ℕ → ℕ
greatest test zero = 1
greatest test (suc w) = if test (suc w) then suc w else greatest test w

-- the greatest width of the runs that begin with the first of these nets, 1 where none does
abbrev pub run_width : (Option ℕ → List Port) → List Net → ℕ
run_width ports nets = greatest (λ w. is_run ports (take w nets)) (length nets)
