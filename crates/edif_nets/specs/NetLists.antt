-- Nets in a list, with the places of their names and of their ends.
use Rattle.std.specs.Prelude.{◌≡◌, ◌++◌, ℕ, List, [], ◌∷◌}
use Rattle.std.specs.List.{zip}
use Rattle.netlist_bus_spec.specs.Members.{numbered}
use Rattle.netlist_schema.specs.Names.{AreDistinct}
use Rattle.edif_spec.specs.Design as design
use Rattle.edif_spec.specs.Faults.{AtTwo, SameOfTwo}
use Rattle.edif_spec.specs.Nets.{NetForm, name_at, nets_of, row_size}
use Rattle.edif_spec.specs.declared.fault.MeaningFault.{MeaningFault}
use Rattle.edif_parts.specs.Names.{ids}
use Rattle.edif_nets.specs.Joins.{SameBit, ends_of}
use Rattle.edif_nets.specs.declared.net_list.NetList.{NetList}

-- the names of the nets of a form, all at the place of the form's name
abbrev pub row_names : NetForm → ℕ → List (List ℕ × ℕ)
row_names n place = numbered (λ k. ((name_at n.name n.array k).id, place)) 0 (row_size n.array)

-- A net is added to those that are there, and the place of its name.
pub record NetAdded (n : design.Net) (place : ℕ) (old new : NetList) : Type 0 where
  pub nets : new.nets.items ≡ old.nets.items ++ n ∷ []
  pub places : new.places.items ≡ old.places.items ++ place ∷ []
  pub ends : new.ends.items ≡ old.ends.items

-- The nets of a form are added to those that are there, and the place of the form's name for each.
pub record RowAdded (n : NetForm) (place : ℕ) (old new : NetList) : Type 0 where
  pub nets : new.nets.items ≡ old.nets.items ++ nets_of n
  pub places : new.places.items ≡ old.places.items ++ numbered (λ k. place) 0 (row_size n.array)
  pub ends : new.ends.items ≡ old.ends.items

-- the names of nets, each with the place beside it
abbrev pub named : List design.Net → List ℕ → List (List ℕ × ℕ)
named [] ps = []
named (n ∷ ns) [] = []
named (n ∷ ns) (p ∷ ps) = (n.name.id, p) ∷ named ns ps

-- each bit is joined once by the nets of a list, and one that is not
abbrev pub JoinOnce : NetList → Type 0
JoinOnce l = AreDistinct (ends_of l.nets.items)

abbrev pub JoinTwice : NetList → MeaningFault → Type 0
JoinTwice l f = AtTwo (SameBit f) (zip (ends_of l.nets.items) l.ends.items)

-- the names of the nets of a list differ, and two that do not
abbrev pub AreNamedApart : NetList → Type 0
AreNamedApart l = AreDistinct (ids (named l.nets.items l.places.items))

abbrev pub AreNamedAlike : NetList → MeaningFault → Type 0
AreNamedAlike l f = AtTwo (SameOfTwo f) (named l.nets.items l.places.items)
