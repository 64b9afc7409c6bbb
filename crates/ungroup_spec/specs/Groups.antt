-- An instance that is dissolved into the contents around it, and which nets become one net thereby.
use Rattle.std.specs.Prelude.{◌≡◌, ◌<◌, ◌==◌, ◌||◌, ℕ, Bool, true, false, ◌↔◌, List, [], ◌++◌, length, map, filter, find, unwrap_or, slice_get}
use Rattle.std.specs.List.{Contains, position_or_len, range_with_len}
use Rattle.std.specs.Option.{option_map_or}
use Rattle.netlist_schema.specs.Types.{Contents, End, Inst, Net}
use Rattle.flat_spec.specs.Chains.{Chain}
use Rattle.flat_spec.specs.ConnectionTest.{leads_through, share_bit}
use Rattle.flat_spec.specs.Paths.{Bit, own, on}

-- contents, the place of an instance in them, the instance, and the contents of its cell
pub record Site : Type 0 where
  pub around : Contents
  pub place : ℕ
  pub inst : Inst
  pub within : Contents

-- a net of the contents around the instance, or one of those within it
pub data Part : Type 0 where
  outer : ℕ → Part
  inner : ℕ → Part

-- the ends that it joins in its own contents
abbrev pub ends_of_net : List Net → ℕ → List End
ends_of_net nets n = option_map_or (λ net. net.ends) (slice_get nets n) []

abbrev pub ends_of_part : Site → Part → List End
ends_of_part s (outer n) = ends_of_net s.around.nets n
ends_of_part s (inner m) = ends_of_net s.within.nets m

-- there is such a net
abbrev pub IsPart : Site → Part → Type 0
IsPart s (outer n) = n < length s.around.nets
IsPart s (inner m) = m < length s.within.nets

-- the outer net joins a bit of the instance which the inner one joins as its cell's own
abbrev pub ShareBit : Site → ℕ → ℕ → Type 0
ShareBit s n m = (b : Bit) × Contains (ends_of_part s (outer n)) (on s.place b) × Contains (ends_of_part s (inner m)) (own b)

-- one of the two is an outer net and the other an inner one, and they share a bit of the instance
abbrev pub AreLinked : Site → Part → Part → Type 0
AreLinked s (outer n) (inner m) = ShareBit s n m
AreLinked s (inner m) (outer n) = ShareBit s n m
AreLinked s (outer n) (outer k) = ⊥
AreLinked s (inner m) (inner k) = ⊥

-- a list leads from one to the other, in which each two neighbours are linked: they are of one group
abbrev pub AreOneGroup : Site → Part → Part → Type 0
AreOneGroup s = Chain (AreLinked s)

-- ---- the same as a test

abbrev pub are_linked : Site → Part → Part → Bool
are_linked s (outer n) (inner m) = share_bit s.place (ends_of_part s (outer n)) (ends_of_part s (inner m))
are_linked s (inner m) (outer n) = share_bit s.place (ends_of_part s (outer n)) (ends_of_part s (inner m))
are_linked s (outer n) (outer k) = false
are_linked s (inner m) (inner k) = false

abbrev pub same_part : Part → Part → Bool
same_part (outer n) (outer k) = n == k
same_part (inner m) (inner k) = m == k
same_part (outer n) (inner k) = false
same_part (inner m) (outer k) = false

-- all of them: the outer nets in order, then the inner ones
abbrev pub parts : Site → List Part
parts s = map outer (range_with_len 0 (length s.around.nets)) ++ map inner (range_with_len 0 (length s.within.nets))

-- Rest nothing on how it is tested: that the test tells whether two nets are of one group is all that there is to know.
unfoldable pub is_grouped : Site → Part → Part → Bool
is_grouped s x y = same_part x y || leads_through (are_linked s) (parts s) x y

-- the nets of its group, outer nets first
abbrev pub group : Site → Part → List Part
group s x = filter (is_grouped s x) (parts s)

-- the first net of its group: the earliest outer net, and where there is none, the inner net itself
abbrev pub head_of : Site → Part → Part
head_of s x = unwrap_or (find (is_grouped s x) (parts s)) x

-- the net is the first of its group
abbrev pub is_head : Site → Part → Bool
is_head s x = same_part (head_of s x) x

-- the first net of each group
abbrev pub heads : Site → List Part
heads s = filter (is_head s) (parts s)

-- which net a net becomes: the place of its group's first net among the first nets
abbrev pub became : Site → Part → ℕ
became s x = position_or_len (same_part (head_of s x)) (heads s)

-- the test tells whether two nets are of one group
abbrev pub TestTellsGroup : Type 0
TestTellsGroup = (s : Site) (x y : Part) → IsPart s x → IsPart s y → (is_grouped s x y ≡ true) ↔ AreOneGroup s x y
