-- The faults of small files.
use Rattle.std.proofs.Common.{◌≡◌, ℕ, zero, suc, ◌+◌, ◌*◌, ◌<◌, pos, List, [], ◌∷◌, ◌++◌, refl, sym, ap, ◌∙◌, subst, inl, inr, false, Some, None, arith}
use Rattle.std.specs.Prelude.{codes, FitsSigned, slice_get}
use Rattle.std.specs.Int.{w32}
use Rattle.edif_spelling_spec.specs.Tree.{Placed, Word', Integer', bare, word, form, items, trees}
use Rattle.netlist_bus_spec.specs.Members.{member_id}
use Rattle.std.proofs.lemmas.Fmt.{decimal_digit}
use Rattle.edif_spec.specs.Nets.{Stretch, end_of}
use Rattle.edif_spec.specs.Means.{MeansBusName, MeansPort, MeansEnd, MeansCell, MeansCellRef, MeansLibrary}
use Rattle.edif_spec.specs.Faults.{those_of, BeyondBits}
use Rattle.edif_spec.specs.Stands.{Stands, libraries}
use Rattle.edif_spec.specs.Stands as stands
use Rattle.edif_spec.specs.declared.keyword.Keyword.TheVariants as keywords
use Rattle.edif_spec.specs.Examples
use Rattle.edif_spec.specs.Design as design
use Rattle.netlist_schema.specs.declared.cell.CellKind.TheVariants as kinds
use Rattle.netlist_schema.specs.declared.cell.Direction.TheVariants as directions
use Rattle.edif_spec.specs.declared.fault.Kind.TheVariants.{BadForm, BadVersion, BadLevel, NotNetlist, Unresolved, Ambiguous, BadIndex, WholeArray, BadWidth, BadPath}
use Rattle.edif_spec.specs.declared.fault.ClashKind.TheVariants.{SecondView, SecondDesign, Duplicate, EndTwice}
use Rattle.edif_spec.specs.declared.fault.MeaningFault.TheVariants.{NotInProfile, At, Clash, OverLimit}

pub bad_version_stands : Stands Examples.bad_version (At BadVersion 25)
bad_version_stands = stands.in_file refl (stands.edif_version (Examples.bad_version_8, refl, refl, stands.third_number (Integer' 25 (pos 1), refl, (pos 1, 25, refl, (λ e. absurd (cc e)), refl))))

pub bad_level_stands : Stands Examples.bad_level (At BadLevel 39)
bad_level_stands = stands.in_file refl (stands.edif_level (Examples.bad_level_28, refl, refl, stands.other_level (Integer' 39 (pos 1), refl, (pos 1, 39, refl, (λ e. absurd (cc e)), refl))))

pub two_libraries_stands : Stands Examples.two_libraries (Clash Duplicate 120 81)
two_libraries_stands = stands.in_file refl (stands.library_again (inl (inl (codes "w", 81, 120, refl, refl, refl))))

-- in the first cell of the library `w`
abbrev head : design.LibHead
head = record { name = record { id = codes "w"; shown = None }; external = false }

abbrev scope : List design.Lib
scope = record { head = head; cells = [] } ∷ []

pub other_view_type_stands : Stands Examples.other_view_type (At NotNetlist 155)
other_view_type_stands = stands.in_file refl (stands.edif_library (inl (stands.library_cells (record { name_part = Word' 81 (codes "w"); head = head; there = refl; name = inl (refl, refl); external = refl; fault = inl (stands.cell_view (inl (stands.view_type (Examples.other_view_type_145, refl, refl, stands.other_view_type (Word' 155 (codes "BEHAVIOR"), refl, (codes "BEHAVIOR", 155, refl, refl, refl)))))) }))))

pub two_views_stands : Stands Examples.two_views (Clash SecondView 177 137)
two_views_stands = stands.in_file refl (stands.edif_library (inl (stands.library_cells (record { name_part = Word' 81 (codes "w"); head = head; there = refl; name = inl (refl, refl); external = refl; fault = inl (stands.cell_row (inr (inr (inl (inl (inl refl)))))) }))))

pub port_bundle_stands : Stands Examples.port_bundle (NotInProfile (codes "portBundle") 175)
port_bundle_stands = stands.in_file refl (stands.edif_library (inl (stands.library_cells (record { name_part = Word' 81 (codes "w"); head = head; there = refl; name = inl (refl, refl); external = refl; fault = inl (stands.cell_view (inl (stands.view_interface (Examples.port_bundle_164, refl, refl, stands.interface_row (inr (inl (inl (refl, refl)))))))) }))))

too_big : ¬ FitsSigned w32 (pos 2147483648)
too_big h = let l = h.sfits in omega arith

pub large_exponent_stands : Stands Examples.large_exponent (At BadForm 201)
large_exponent_stands = stands.in_file refl (stands.edif_library (inl (stands.library_cells (record { name_part = Word' 81 (codes "w"); head = head; there = refl; name = inl (refl, refl); external = refl; fault = inl (stands.cell_view (inl (stands.view_properties (stands.one_property (inl (stands.property_value (Examples.large_exponent_188, refl, stands.number_scaled refl (Examples.large_exponent_196, refl, stands.scaled_exponent refl (Integer' 201 (pos 2147483648), refl, (pos 2147483648, 201, refl, too_big, refl)))))))))) }))))

-- a scalar port `p`
abbrev port : design.Port
port = record { name = record { id = codes "p"; shown = None }; array = None; direction = None; designator = None; properties = [] }

port_means : MeansPort (bare Examples.joined_twice_175) port
port_means = record { name_part = word (codes "p"); inner = []; form = record { spelled = codes "port"; is = refl; keyword = refl; fits = ((refl, tt), refl, (omega arith, (omega arith, tt))) }; name = inl (refl, refl); direction = tt; designator = tt; properties = tt }

abbrev end : Stretch
end = record { inst = None; port = 0; first = 0; width = 1 }

end_means : MeansEnd scope (port ∷ []) [] (form (word (codes "portRef") ∷ word (codes "p") ∷ [])) end
end_means = record { bits_part = word (codes "p"); inner = []; form = record { spelled = codes "portRef"; is = refl; keyword = refl; fits = ((refl, tt), refl, (omega arith, tt)) }; inst = tt; bits = inl (codes "p", refl, refl, refl, refl) }

pub joined_twice_stands : Stands Examples.joined_twice (Clash EndTwice 222 210)
joined_twice_stands = stands.in_file refl (stands.edif_library (inl (stands.library_cells (record { name_part = Word' 81 (codes "w"); head = head; there = refl; name = inl (refl, refl); external = refl; fault = inl (stands.cell_view (inl (stands.view_contents (record { interface = Examples.joined_twice_164; ports = port ∷ []; there = refl; is_interface = refl; means = (port_means, tt); fault = inl (stands.contents_nets (stands.end_again [] tt (inl (inl (end_of 0 end, (end, end_means, refl, refl), (end, end_means, refl, refl), refl))))) })))) }))))

pub later_cell_stands : Stands Examples.later_cell (At Unresolved 218)
later_cell_stands = stands.in_file refl (stands.edif_library (inl (stands.library_cells (record { name_part = Word' 81 (codes "w"); head = head; there = refl; name = inl (refl, refl); external = refl; fault = inl (stands.cell_view (inl (stands.view_contents (record { interface = Examples.two_views_164; ports = []; there = refl; is_interface = refl; means = tt; fault = inl (stands.contents_inst (inl (stands.inst_view (Examples.later_cell_198, refl, refl, stands.view_ref_cell (Examples.later_cell_209, refl, refl, stands.cell_ref_name 0 refl (Word' 218 (codes "z"), refl, (codes "z", 218, refl, inl (refl, refl)))))))) })))) }))))

-- an array port `d` of 4 bits
abbrev wide : design.Port
wide = record { name = record { id = codes "d"; shown = Some (codes "d[3:0]") }; array = Some 4; direction = Some directions.Output; designator = None; properties = [] }

wide_means : MeansPort (bare Examples.whole_array_175) wide
wide_means = record {
  name_part = bare Examples.whole_array_181;
  inner = bare Examples.whole_array_211 ∷ [];
  form = record { spelled = codes "port"; is = refl; keyword = refl; fits = ((refl, tt), refl, (omega arith, (omega arith, tt))) };
  name = (bare Examples.whole_array_188, record { spelled = codes "array"; is = refl; keyword = refl; fits = ((refl, (refl, tt)), refl, tt) }, inr (codes "d[3:0]", record { spelled = codes "rename"; is = refl; keyword = refl; fits = ((refl, (refl, tt)), refl, tt) }, refl), (omega arith, omega arith));
  direction = (codes "OUTPUT", record { spelled = codes "direction"; is = refl; keyword = refl; fits = ((refl, tt), refl, tt) }, refl);
  designator = tt;
  properties = tt;
}

not_below : (n : ℕ) → pos 4 ≡ pos n → n < 4 → ⊥
not_below n e l = let q : 4 ≡ n = cc e in omega (arith, q, l)

-- all bits of that port, by its name
abbrev all_bits : Stretch
all_bits = record { inst = None; port = 0; first = 0; width = 4 }

all_means : MeansEnd scope (wide ∷ []) [] (form (word (codes "portRef") ∷ word (codes "d") ∷ [])) all_bits
all_means = record { bits_part = word (codes "d"); inner = []; form = record { spelled = codes "portRef"; is = refl; keyword = refl; fits = ((refl, tt), refl, (omega arith, tt)) }; inst = tt; bits = inl (codes "d", refl, refl, refl, refl) }

-- the name of an array of three nets
array_means : MeansBusName (bare Examples.bad_width_247) (record { id = codes "n"; shown = None }) (Some 3)
array_means = (word (codes "n"), record { spelled = codes "array"; is = refl; keyword = refl; fits = ((refl, (refl, tt)), refl, tt) }, inl (refl, refl), (omega arith, omega arith))

pub whole_array_stands : Stands Examples.whole_array (At WholeArray 266)
whole_array_stands = stands.in_file refl (stands.edif_library (inl (stands.library_cells (record { name_part = Word' 81 (codes "w"); head = head; there = refl; name = inl (refl, refl); external = refl; fault = inl (stands.cell_view (inl (stands.view_contents (record { interface = Examples.whole_array_164; ports = wide ∷ []; there = refl; is_interface = refl; means = (wide_means, tt); fault = inl (stands.contents_nets (stands.one_net [] tt (inl (stands.net_width (record { name_part = Word' 247 (codes "n"); name = record { id = codes "n"; shown = None }; array = None; there = refl; means = inl (refl, refl); fault = inl (record { bits = Word' 266 (codes "d"); there = refl; stretch = all_bits; means = all_means; other = λ e. absurd (omega (arith, e)); fault = refl }) }))))) })))) }))))

pub bad_width_stands : Stands Examples.bad_width (At BadWidth 276)
bad_width_stands = stands.in_file refl (stands.edif_library (inl (stands.library_cells (record { name_part = Word' 81 (codes "w"); head = head; there = refl; name = inl (refl, refl); external = refl; fault = inl (stands.cell_view (inl (stands.view_contents (record { interface = Examples.whole_array_164; ports = wide ∷ []; there = refl; is_interface = refl; means = (wide_means, tt); fault = inl (stands.contents_nets (stands.one_net [] tt (inl (stands.net_width (record { name_part = Examples.bad_width_247; name = record { id = codes "n"; shown = None }; array = Some 3; there = refl; means = array_means; fault = inl (record { bits = Word' 276 (codes "d"); there = refl; stretch = all_bits; means = all_means; other = λ e. absurd (omega (arith, e)); fault = refl }) }))))) })))) }))))

-- the name of member 1 of `n`
member_one : member_id (codes "n") 1 ≡ codes "n_1_"
member_one = ap (λ v. codes "n" ++ (95 ∷ (v ++ 95 ∷ []))) (decimal_digit 1 (omega arith))

pub member_again_stands : Stands Examples.member_again (Clash Duplicate 218 198)
member_again_stands = stands.in_file refl (stands.edif_library (inl (stands.library_cells (record { name_part = Word' 81 (codes "w"); head = head; there = refl; name = inl (refl, refl); external = refl; fault = inl (stands.cell_view (inl (stands.view_contents (record { interface = Examples.two_views_164; ports = []; there = refl; is_interface = refl; means = tt; fault = inl (stands.net_again (inr (inl (inl (member_one, refl))))) })))) }))))

pub high_index_stands : Stands Examples.high_index (At BadIndex 276)
high_index_stands = stands.in_file refl (stands.edif_library (inl (stands.library_cells (record { name_part = Word' 81 (codes "w"); head = head; there = refl; name = inl (refl, refl); external = refl; fault = inl (stands.cell_view (inl (stands.view_contents (record { interface = Examples.whole_array_164; ports = wide ∷ []; there = refl; is_interface = refl; means = (wide_means, tt); fault = inl (stands.contents_nets (stands.one_net [] tt (inl (stands.net_joined (Examples.high_index_249, refl, refl, stands.joined_end (inl (stands.end_bit None tt (Examples.high_index_266, refl, stands.member_index refl (record { spelled = codes "d"; named = 274; port = 0; index = pos 4; place = 276; name_there = refl; means = refl; index_there = refl; beyond = not_below; fault = refl }))))))))) })))) }))))

-- a scalar port by its name
abbrev scalar : List ℕ → design.Port
scalar name = record { name = record { id = name; shown = None }; array = None; direction = None; designator = None; properties = [] }

scalar_means : (name : List ℕ) → MeansPort (form (word (codes "port") ∷ word name ∷ [])) (scalar name)
scalar_means name = record { name_part = word name; inner = []; form = record { spelled = codes "port"; is = refl; keyword = refl; fits = ((refl, tt), refl, (omega arith, (omega arith, tt))) }; name = inl (refl, refl); direction = tt; designator = tt; properties = tt }

pub two_alike_stands : Stands Examples.two_alike (At Ambiguous 230)
two_alike_stands = stands.in_file refl (stands.edif_library (inl (stands.library_cells (record { name_part = Word' 81 (codes "w"); head = head; there = refl; name = inl (refl, refl); external = refl; fault = inl (stands.cell_view (inl (stands.view_contents (record { interface = Examples.two_alike_164; ports = scalar (codes "Ab") ∷ scalar (codes "aB") ∷ []; there = refl; is_interface = refl; means = (scalar_means (codes "Ab"), (scalar_means (codes "aB"), tt)); fault = inl (stands.contents_nets (stands.one_net [] tt (inl (stands.net_joined (Examples.two_alike_213, refl, refl, stands.joined_end (inl (stands.end_bit None tt (Word' 230 (codes "AB"), refl, stands.bit_port (codes "AB", 230, refl, inr (refl, refl)))))))))) })))) }))))

pub two_designs_stands : Stands Examples.two_designs (Clash SecondDesign 110 72)
two_designs_stands = stands.in_file refl (stands.edif_row (inr (inr (inl (inl (inl refl))))))

pub no_view_stands : Stands Examples.no_view (At BadForm 110)
no_view_stands = stands.in_file refl (stands.edif_library (inl (stands.library_cells (record { name_part = Word' 81 (codes "w"); head = head; there = refl; name = inl (refl, refl); external = refl; fault = inl (stands.without_view refl refl) }))))

-- a library `w` with the leaf cell `t`
abbrev leaf : design.CellBody
leaf = record { name = record { id = codes "t"; shown = None }; kind = kinds.Generic; properties = []; view = record { id = codes "v"; shown = None }; view_properties = []; interface_properties = []; ports = []; contents = None }

abbrev with_leaf : List design.Lib
with_leaf = record { head = head; cells = leaf ∷ [] } ∷ []

leaf_means : MeansCell scope (Some 0) (bare Examples.empty_path_110) leaf
leaf_means = record {
  name_part = word (codes "t");
  kind_part = bare Examples.other_view_type_118;
  inner = bare Examples.two_views_137 ∷ [];
  form = record { spelled = codes "cell"; is = refl; keyword = refl; fits = ((refl, (refl, tt)), refl, (omega arith, tt)) };
  name = inl (refl, refl);
  kind = (codes "GENERIC", record { spelled = codes "cellType"; is = refl; keyword = refl; fits = ((refl, tt), refl, tt) }, refl);
  view = record {
    name_part = word (codes "v");
    type_part = bare Examples.two_views_145;
    interface_part = bare Examples.two_views_164;
    inner = [];
    form = record { spelled = codes "view"; is = refl; keyword = refl; fits = ((refl, (refl, (refl, tt))), refl, (omega arith, tt)) };
    name = inl (refl, refl);
    netlist = (codes "NETLIST", record { spelled = codes "viewType"; is = refl; keyword = refl; fits = ((refl, tt), refl, tt) }, refl);
    interface = record { inner = []; form = record { spelled = codes "interface"; is = refl; keyword = refl; fits = (tt, refl, tt) }; ports = tt; properties = tt };
    contents = tt;
    properties = tt;
  };
  properties = tt;
}

library_means : MeansLibrary [] (bare Examples.empty_path_72) (record { head = head; cells = leaf ∷ [] })
library_means = record {
  name_part = word (codes "w");
  level_part = bare Examples.two_libraries_83;
  technology_part = bare Examples.two_libraries_97;
  inner = bare Examples.empty_path_110 ∷ [];
  form = record { spelled = codes "library"; is = refl; keyword = refl; fits = ((refl, (refl, (refl, tt))), refl, tt) };
  name = inl (refl, refl);
  level = record { spelled = codes "edifLevel"; is = refl; keyword = refl; fits = ((refl, tt), refl, tt) };
  cells = (leaf_means, tt);
}

abbrev top : design.CellId
top = record { lib = record { 0 = 0 }; slot = 0 }

top_means : MeansCellRef with_leaf None (bare Examples.empty_path_189) top
top_means = record {
  spelled = codes "t";
  inner = bare Examples.empty_path_200 ∷ [];
  form = record { spelled = codes "cellRef"; is = refl; keyword = refl; fits = ((refl, tt), refl, (omega arith, tt)) };
  lib = (codes "w", record { spelled = codes "libraryRef"; is = refl; keyword = refl; fits = ((refl, tt), refl, tt) }, refl);
  cell = refl;
}

pub empty_path_stands : Stands Examples.empty_path (At BadPath 237)
empty_path_stands = stands.in_file refl (stands.edif_design (record { libs = with_leaf; means = (library_means, tt); first = Examples.empty_path_179; there = refl; fault = stands.design_notes (stands.one_note top (Examples.empty_path_189, refl, top_means) (inl (stands.note_path (Examples.empty_path_237, refl, refl, stands.no_steps refl refl)))) }))

-- the arguments of a form are the list that they are made from
pub items_of : (ts : List Placed) → items (trees ts) ≡ ts
items_of [] = refl
items_of (t ∷ ts) = ap (λ v. t ∷ v) (items_of ts)

-- numbered libraries are libraries, and the one of each number stands in its place
all_libraries : (n count : ℕ) → libraries (Examples.numbered_libraries n count) ≡ Examples.numbered_libraries n count
all_libraries n zero = refl
all_libraries n (suc count) = ap (λ v. Examples.numbered_library n ∷ v) (all_libraries (suc n) count)

library_of_number : (n count i : ℕ) → i < count → slice_get (Examples.numbered_libraries n count) i ≡ Some (Examples.numbered_library (n + i))
library_of_number n zero i l = absurd (omega arith)
library_of_number n (suc count) zero l = ap (λ m. Some (Examples.numbered_library m)) (omega arith)
library_of_number n (suc count) (suc i) l = library_of_number (suc n) count i (omega arith) ∙ ap (λ m. Some (Examples.numbered_library m)) (omega arith)

pub many_libraries_stand : (count : ℕ) → 1024 < count → Stands (Examples.many_libraries count) (OverLimit 1024 44104)
many_libraries_stand count l =
    let found : slice_get (libraries (items (trees (Examples.numbered_libraries 0 count)))) 1024 ≡ Some (Examples.numbered_library 1024) =
    ap (λ ts. slice_get (libraries ts) 1024) (items_of (Examples.numbered_libraries 0 count)) ∙ ap (λ ts. slice_get ts 1024) (all_libraries 0 count)
    ∙ library_of_number 0 count 1024 l in
    stands.in_file refl (stands.many_libraries (Examples.numbered_library 1024, found, refl))

-- numbered ports are ports, and where the bits before are a whole number of ports below the limit, the next ones pass it
all_ports : (n count : ℕ) → those_of keywords.Port (Examples.numbered_ports n count) ≡ Examples.numbered_ports n count
all_ports n zero = refl
all_ports n (suc count) = ap (λ v. Examples.numbered_port n ∷ v) (all_ports (suc n) count)

bits_pass : (n count before k place : ℕ) → k < count → before + 65536 * k ≡ 1048576 → place ≡ 175 + 27 * (n + k) → BeyondBits 1048576 before (Examples.numbered_ports n count) (OverLimit 1048576 place)
bits_pass n zero before k place l e p = absurd (omega arith)
bits_pass n (suc count) before zero place l e p = inl (omega arith, omega arith, ap (OverLimit 1048576) (p ∙ omega arith))
bits_pass n (suc count) before (suc k) place l e p = inr (bits_pass (suc n) count (before + 65536) k place (omega arith) (omega arith) (p ∙ omega arith))

pub many_bits_stand : (count : ℕ) → 16 < count → Stands (Examples.many_bits count) (OverLimit 1048576 607)
many_bits_stand count l =
    let B : List Placed → Type 0 = λ ts. BeyondBits 1048576 0 ts (OverLimit 1048576 607) in
    let ports : those_of keywords.Port (items (trees (Examples.numbered_ports 0 count))) ≡ Examples.numbered_ports 0 count = ap (those_of keywords.Port) (items_of (Examples.numbered_ports 0 count)) ∙ all_ports 0 count in
    let bits : BeyondBits 1048576 0 (those_of keywords.Port (items (trees (Examples.numbered_ports 0 count)))) (OverLimit 1048576 607) = subst B (sym ports) (bits_pass 0 count 0 16 607 l refl refl) in
    stands.in_file refl (stands.edif_library (inl (stands.library_cells (record { name_part = Word' 81 (codes "w"); head = head; there = refl; name = inl (refl, refl); external = refl; fault = inl (stands.cell_view (inl (stands.view_interface (Examples.many_bits_164 count, refl, refl, stands.many_bits bits)))) }))))
