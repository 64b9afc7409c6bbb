-- Nets as they are written: what one form joins, and the nets for which it stands.
use Rattle.std.specs.Prelude.{ℕ, zero, suc, pred, ◌+◌, nat_le, if◌then◌else◌, IfSome, List, [], ◌∷◌, map, Option, Some, None, unwrap_or}
use Rattle.std.specs.List.{All}
use Rattle.netlist_schema.specs.Names.{HasDistinctKeys}
use Rattle.netlist_schema.specs.Typed.{IsTypedName, IsTypedProperty}
use Rattle.netlist_schema.specs.Width.{IsWidth}
use Rattle.netlist_bus_spec.specs.Members.{member_name, numbered}
use Rattle.netlist_bus_spec.specs.Runs.{run_name, run_width}
use Rattle.edif_spec.specs.Design as design
use Rattle.edif_spec.specs.declared.nets.NetForm as net_form_type
use Rattle.edif_spec.specs.declared.nets.Stretch as stretch_type

-- some bits of one port, one after another
abbrev pub Stretch : Type 0
Stretch = stretch_type.Stretch

-- a net as it is written
abbrev pub NetForm : Type 0
NetForm = net_form_type.NetForm

-- how many nets stand in the row of a form
abbrev pub row_size : Option ℕ → ℕ
row_size array = unwrap_or array 1

-- bit k of a stretch
abbrev pub end_of : ℕ → Stretch → design.End
end_of k s = record { inst = s.inst; port = s.port; bit = k + s.first }

-- the name of net k of a row: that of a net by itself, or that of a member of an array
abbrev pub name_at : design.Name → Option ℕ → ℕ → design.Name
name_at name None k = name
name_at name (Some n) k = member_name name k

-- net k of a row: it joins bit k of each stretch, and has all properties
abbrev pub net_at : NetForm → ℕ → design.Net
net_at f k = record { name = name_at f.name f.array k; ends = map (end_of k) f.joined; properties = f.properties }

-- the nets for which a form stands: one, or as many as its array is wide
abbrev pub nets_of : NetForm → List design.Net
nets_of f = numbered (net_at f) 0 (row_size f.array)

-- a form whose nets are fit for a design
pub record FineForm (n : NetForm) : Type 0 where
  pub name : IsTypedName n.name
  pub array : IfSome n.array IsWidth
  pub properties : All IsTypedProperty n.properties
  pub keys : HasDistinctKeys n.properties

-- one bit, as a stretch
abbrev pub bit_of : design.End → Stretch
bit_of e = record { inst = e.inst; port = e.port; first = e.bit; width = 1 }

-- all bits of the port of an end, which has this width
abbrev pub whole_of : ℕ → design.End → Stretch
whole_of width e = record { inst = e.inst; port = e.port; first = 0; width = width }

-- a net by itself
abbrev pub single_form : design.Net → NetForm
single_form n = record { name = n.name; array = None; joined = map bit_of n.ends; properties = n.properties }

-- a run of this width, by its first net
abbrev pub run_form : ℕ → design.Net → NetForm
run_form width n = record { name = run_name n; array = Some width; joined = map (whole_of width) n.ends; properties = n.properties }

-- what is written of a net at which the greatest run has this width
abbrev pub form_of : ℕ → design.Net → NetForm
form_of width n = if nat_le 2 width then run_form width n else single_form n

-- The forms of nets, behind so many that are written already: at each net the greatest run that begins there, or the net by itself.
abbrev pub forms_behind : (Option ℕ → List design.Port) → ℕ → List design.Net → List NetForm
forms_behind ports written [] = []
forms_behind ports (suc written) (n ∷ ns) = forms_behind ports written ns
forms_behind ports zero (n ∷ ns) = form_of (run_width ports (n ∷ ns)) n ∷ forms_behind ports (pred (run_width ports (n ∷ ns))) ns

-- the forms of nets
abbrev pub net_forms : (Option ℕ → List design.Port) → List design.Net → List NetForm
net_forms ports nets = forms_behind ports 0 nets
