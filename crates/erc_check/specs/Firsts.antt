-- First nets, with what is noted of them.
use Rattle.std.specs.Prelude.{◌≡◌, ◌<◌, ℕ, ◌+◌, List, [], ◌∷◌, length, Bool, Option, Some, None, nat_lt, if◌then◌else◌, slice_index_or, unwrap_or}
use Rattle.std.specs.List.{AllPairs}
use Rattle.std.specs.Cmp.Lexicographic.{slice_cmp}
use Rattle.std.specs.Ordering.{nat_cmp, ordering_then}
use Rattle.std.specs.declared.cmp.Ordering.{Ordering}
use Rattle.flat_spec.specs.ConnectionTest.{same_net}
use Rattle.flat_spec.specs.PathOrder.{NetBefore}
use Rattle.flat_spec.specs.Types.{NetAt}
use Rattle.erc_spec.specs.Findings.{capped}
use Rattle.erc_spec.specs.Types.{Finding}
use Rattle.erc_spec.specs.declared.finding.Finding.TheVariants.{Undriven, Many}
use Rattle.erc_check.specs.declared.firsts.FirstNet.{FirstNet}

-- a net with what is noted of it
abbrev pub with_note : (NetAt → Option ℕ) → NetAt → FirstNet
with_note drives x = record { at = x; drive = drives x }

-- by occurrence in path order, and within one by place
abbrev pub net_order : NetAt → NetAt → Ordering
net_order x y = ordering_then (slice_cmp nat_cmp x.path y.path) (nat_cmp x.net y.net)

-- the net stands at this place
abbrev pub IsPlaceOf : List FirstNet → NetAt → ℕ → Type 0
IsPlaceOf firsts x place = (place < length firsts) × ((d : FirstNet) → (slice_index_or firsts place d).at ≡ x)

-- the net stands at the place; or, where the nets are in order, it stands at none
abbrev pub IsSearched : List FirstNet → NetAt → Option ℕ → Type 0
IsSearched firsts x (Some place) = IsPlaceOf firsts x place
IsSearched firsts x None = AllPairs (λ f g. NetBefore f.at g.at) firsts → (place : ℕ) → IsPlaceOf firsts x place → ⊥

-- a count with one pin more, which drives strongly or not
abbrev pub one_more : Bool → Option ℕ → ℕ
one_more is_strong count = if is_strong then capped (unwrap_or count 0 + 1) else unwrap_or count 0

-- a first net with one pin more
abbrev pub one_pin_more : Bool → FirstNet → FirstNet
one_pin_more is_strong first = record { at = first.at; drive = Some (one_more is_strong first.drive) }

-- what is noted of the net x once a pin drives the net y
abbrev pub drive_after : NetAt → Bool → NetAt → Option ℕ → Option ℕ
drive_after y is_strong x count = if same_net y x then Some (one_more is_strong count) else count

-- what is found of a net by what is noted of it
abbrev pub net_found : Option ℕ → NetAt → List Finding
net_found None x = Undriven x ∷ []
net_found (Some strong) x = if nat_lt 1 strong then Many x strong ∷ [] else []

-- what is found of a first net
abbrev pub first_found : FirstNet → List Finding
first_found first = net_found first.drive first.at
