-- The first net of the group of each net, by numbers.
use Rattle.std.specs.Prelude.{◌≡◌, ◌<◌, ◌≤◌, ◌+◌, ℕ, List, length, slice_index, IfSome}
use Rattle.std.specs.List.{All, Contains}
use Rattle.netlist_schema.specs.Types.{Contents, End, Inst}
use Rattle.netlist_schema.specs.declared.limits.TheConstants.{MOST_INSTS, MOST_NETS}
use Rattle.ungroup_spec.specs.Groups.{Site, Part, outer, inner, IsPart, ends_of_net, head_of}

-- an instance at a place of contents, with the contents of its cell
abbrev pub site : Contents → ℕ → Inst → Contents → Site
site around place inst within = record { around = around; place = place; inst = inst; within = within }

-- the instance of an end, where it has one, has a place that an instance can have
abbrev pub IsLow : End → Type 0
IsLow end = IfSome end.inst (λ i. i < MOST_INSTS)

-- contents as they are in a valid design: within the limits, each end at an instance, and at most one net with an end
pub record AreSound (contents : Contents) : Type 0 where
  pub few_insts : length contents.insts ≤ MOST_INSTS
  pub few_nets : length contents.nets ≤ MOST_NETS
  pub low : All (λ net. All IsLow net.ends) contents.nets
  pub once : (m n : ℕ) (end : End) → Contains (ends_of_net contents.nets m) end → Contains (ends_of_net contents.nets n) end → m ≡ n

-- the number of a net: the outer nets in order, and then the inner ones
abbrev pub number : Site → Part → ℕ
number s (outer n) = n
number s (inner m) = length s.around.nets + m

-- for each net stands the number of the first net of its group
pub record AreHeads (s : Site) (heads : List ℕ) : Type 0 where
  pub long : length heads ≡ length s.around.nets + length s.within.nets
  pub each : (x : Part) → IsPart s x → slice_index heads (number s x) ≡ number s (head_of s x)
