-- A fault that stands tells of what is there: the walk through the cases of each form.
use Rattle.std.proofs.Common.{◌≡◌, ℕ, zero, suc, ◌+◌, ◌<◌, ◌≤◌, ℤ, pos, negsuc, List, [], ◌∷◌, ◌++◌, map, replicate, length, refl, ap, sym, ◌∙◌, subst, inl, inr, Bool, true, false, Option, Some, None, arith}
use Rattle.std.specs.Prelude.{IsTrue, cond, ◌&&◌, ◌⊎◌, nat_le, filter, drop, slice_get}
use Rattle.std.specs.List.{AllByRecursion, Contains, flat_map}
use Rattle.std.proofs.lemmas.Bool.{and_parts}
use Rattle.std.proofs.lemmas.Bool.Decides.{nat_tests}
use Rattle.netlist_schema.proofs.Lists.{all_at, all_append}
use Rattle.netlist_bus_spec.proofs.Numbers.{member_ids_differ}
use Rattle.netlist_bus_spec.specs.Members.{numbered}
use Rattle.edif_spelling_spec.specs.Tree.{Bare, Placed, Form', Word', Integer', String', End, More, bare}
use Rattle.edif_spec.specs.Keyword.{row}
use Rattle.edif_spec.specs.Rows.{has_keyword}
use Rattle.edif_spec.specs.Canonical.{ports_of_end}
use Rattle.edif_spec.specs.Nets.{Stretch}
use Rattle.edif_spec.specs.Means.{is_library, is_note, MeansBits, MeansEnd, MeansLibrary, MeansCell}
use Rattle.edif_spec.specs.Faults.{AtOne, AtTwo, place_of, arguments, followers, fixed_count, parts, Among, InPart, row_has, misplaced, RowFault, defined, SameOfTwo, counted, width_with, first_width, declared_width, repeated}
use Rattle.edif_spec.specs.Stands.{WordFault, ValueFault, Dangles, NameFault, BooleanFault, NumberFault, InValue, PropertyFault, PropertiesFault, is_direction, DirectionFault, BusNameFault, PortFault, ports_in, InterfaceFault, LibraryRefFault, CellRefFault, ViewRefFault, InstFault, InstRefFault, BitFault, EndFault, JoinedFault, WidthFault, NetFault, EndShapeFault, JoinedShapeFault, NetShapeFault, ends_joined, ends_in, insts_in, nets_in, SameEnd, NetsFault, ContentsFault, is_netlist, TypeFault, ViewFault, is_cell_type, CellTypeFault, CellFault, LevelFault, cells_in, LibraryFault, bad_form, note_parts, StepsFault, PathFault, NoteFault, MeansTop, SameNote, Notes, notes_in, NotesFault, DesignFault, VersionFault, MapFault, libraries, FileFault, file_row, Stands, counted_ends, is_arrayed, member_at, names_from, net_names_in, row_ends}
use Rattle.edif_spec.specs.Stands as stands
use Rattle.edif_spec.specs.Told.{IsIn, IsUnder, IsFaulty, AreBeforeDesign, AreTwoEnds, IsEndOf, Gives, Told, refers}
use Rattle.edif_spec.specs.Told as told
use Rattle.edif_spec.specs.Design as design
use Rattle.edif_spec.specs.declared.keyword.Keyword.{Keyword}
use Rattle.edif_spec.specs.declared.keyword.Keyword.TheVariants as keywords
use Rattle.edif_spec.specs.declared.fault.Kind.{Kind}
use Rattle.edif_spec.specs.declared.fault.Kind.TheVariants as kinds
use Rattle.edif_spec.specs.declared.fault.ClashKind.TheVariants as clashes
use Rattle.edif_spec.specs.declared.fault.MeaningFault.{MeaningFault}
use Rattle.edif_spec.specs.declared.fault.MeaningFault.TheVariants.{NotInProfile, At, Clash}
use Rattle.edif_spec.proofs.ToldForms.{Inside, after_told, among_told, at_fault, beyond_told, bits_told, defined_in, fixed_told, follower_told, form_told, former_in, in_drop, in_filter, inside_flat, inside_followers, inside_parts, latter_in, one_map, one_there, parts_again, repeats_told, row_told, two_arguments, under_in}

-- words and numbers
word_told : (r : Placed) (fine : List ℕ → Bool) (kind : Kind) (u : Placed) (f : MeaningFault) → IsFaulty kind r u → WordFault fine kind u f → Told r f
word_told r fine kind u f h b = at_fault r f (At kind b.1) b.4 (u, ap place_of b.2, h)

value_told : (r : Placed) (kind : Kind) (u : Placed) (f : MeaningFault) → IsFaulty kind r u → (b : (z : ℤ) × (p : ℕ) × (u ≡ Integer' p z) × (f ≡ At kind p)) → Told r f
value_told r kind u f h b = at_fault r f (At kind b.1) b.3 (u, ap place_of b.2, h)

dangles_told : (r : Placed) (k : Keyword) (scope : List (List ℕ)) (u : Placed) (f : MeaningFault) → IsTrue (refers k) → IsUnder r k u → Dangles scope u f → Told r f
dangles_told r k scope u f g h b =
    let p : place_of u ≡ b.1 = ap place_of b.2 in
    let is : u ≡ Word' (place_of u) b.0 = b.2 ∙ ap (λ v. Word' v b.0) (sym p) in
    elim (b.3) [ inl c ↦ at_fault r f (At kinds.Unresolved b.1) c.1 (u, p, (k, g, h, (b.0, is))) | inr c ↦ at_fault r f (At kinds.Ambiguous b.1) c.1 (u, p, (k, g, h, (b.0, is))) ]

name_told : (r t : Placed) (f : MeaningFault) → IsIn r t → NameFault t f → Told r f
name_told r t f h b = row_told r keywords.Rename t f h b.0 b.1

name_part : (r t : Placed) (f : MeaningFault) → IsIn r t → InPart 0 NameFault t f → Told r f
name_part r t f h b = name_told r b.0 f (told.argument t b.0 0 h b.1) b.2

rows_told : (r : Placed) (k j : Keyword) (t : Placed) (f : MeaningFault) → IsIn r t → Among (RowFault j) (parts k j t) f → Told r f
rows_told r k j t f h b = among_told r (λ u. IsTrue (has_keyword j (bare u))) (RowFault j) (parts k j t) f (inside_parts r k j t h) (λ u i w c. row_told r j u f i w c) b

-- properties
boolean_told : (r t : Placed) (f : MeaningFault) → IsIn r t → BooleanFault t f → Told r f
boolean_told r t f h (stands.true_row k b) = row_told r keywords.True t f h k b
boolean_told r t f h (stands.false_row k b) = row_told r keywords.False t f h k b

number_told : (r t : Placed) (f : MeaningFault) → IsIn r t → NumberFault t f → Told r f
number_told r t f h (stands.scaled_row k b) = row_told r keywords.E t f h k b
number_told r t f h (stands.scaled_exponent k b) = value_told r kinds.BadForm b.0 f (told.argument t b.0 1 h b.1) (b.2.0, b.2.1, b.2.2, b.2.4)

value_in : (r t : Placed) (f : MeaningFault) → IsIn r t → InValue t f → Told r f
value_in r t f h (stands.boolean_row k b) = row_told r keywords.Boolean t f h k b
value_in r t f h (stands.boolean_truth k b) = boolean_told r b.0 f (told.argument t b.0 0 h b.1) b.2
value_in r t f h (stands.integer_row k b) = row_told r keywords.Integer t f h k b
value_in r t f h (stands.number_row k b) = row_told r keywords.Number t f h k b
value_in r t f h (stands.number_scaled k b) = number_told r b.0 f (told.argument t b.0 0 h b.1) b.2
value_in r t f h (stands.string_row k b) = row_told r keywords.String t f h k b

property_told : (r t : Placed) (f : MeaningFault) → IsIn r t → IsTrue (has_keyword keywords.Property (bare t)) → PropertyFault t f → Told r f
property_told r t f h w (stands.property_row b) = row_told r keywords.Property t f h w b
property_told r t f h w (stands.property_key b) = name_part r t f h b
property_told r t f h w (stands.property_value b) = value_in r b.0 f (told.argument t b.0 1 h b.1) b.2
property_told r t f h w (stands.property_owner b) = rows_told r keywords.Property keywords.Owner t f h b

properties_told : (r : Placed) (k : Keyword) (t : Placed) (f : MeaningFault) → IsIn r t → PropertiesFault (parts k keywords.Property t) f → Told r f
properties_told r k t f h (stands.one_property b) = among_told r (λ u. IsTrue (has_keyword keywords.Property (bare u))) PropertyFault (parts k keywords.Property t) f (inside_parts r k keywords.Property t h) (λ u i w c. property_told r u f i w c) b
properties_told r k t f h (stands.key_again b) = parts_again r k keywords.Property t f h refl b

-- ports
direction_told : (r t : Placed) (f : MeaningFault) → IsIn r t → IsTrue (has_keyword keywords.Direction (bare t)) → DirectionFault t f → Told r f
direction_told r t f h w (stands.direction_row b) = row_told r keywords.Direction t f h w b
direction_told r t f h w (stands.other_direction b) = word_told r is_direction kinds.BadForm b.0 f (told.argument t b.0 0 h b.1) b.2

port_name_told : (r t : Placed) (f : MeaningFault) → IsIn r t → BusNameFault t f → Told r f
port_name_told r t f h (stands.scalar_name b) = name_told r t f h b
port_name_told r t f h (stands.array_row k b) = row_told r keywords.Array t f h k b
port_name_told r t f h (stands.array_name k b) = name_part r t f h b
port_name_told r t f h (stands.array_size k b) = value_told r kinds.BadIndex b.0 f (inl (record { holder = t; inside = h; keyword = k; at = 1; there = b.1 })) (b.2.0, b.2.1, b.2.2, b.2.4)

port_told : (r t : Placed) (f : MeaningFault) → IsIn r t → IsTrue (has_keyword keywords.Port (bare t)) → PortFault t f → Told r f
port_told r t f h w (stands.port_row b) = row_told r keywords.Port t f h w b
port_told r t f h w (stands.port_name b) = port_name_told r b.0 f (told.argument t b.0 0 h b.1) b.2
port_told r t f h w (stands.port_direction b) = among_told r (λ u. IsTrue (has_keyword keywords.Direction (bare u))) DirectionFault (parts keywords.Port keywords.Direction t) f (inside_parts r keywords.Port keywords.Direction t h) (λ u i v c. direction_told r u f i v c) b
port_told r t f h w (stands.port_designator b) = rows_told r keywords.Port keywords.Designator t f h b
port_told r t f h w (stands.port_properties b) = properties_told r keywords.Port t f h b

interface_told : (r t : Placed) (f : MeaningFault) → IsIn r t → IsTrue (has_keyword keywords.Interface (bare t)) → InterfaceFault t f → Told r f
interface_told r t f h w (stands.interface_row b) = row_told r keywords.Interface t f h w b
interface_told r t f h w (stands.interface_port b) = among_told r (λ u. IsTrue (has_keyword keywords.Port (bare u))) PortFault (ports_in t) f (inside_parts r keywords.Interface keywords.Port t h) (λ u i v c. port_told r u f i v c) b
interface_told r t f h w (stands.port_again b) = parts_again r keywords.Interface keywords.Port t f h refl b
interface_told r t f h w (stands.many_ports b) = beyond_told r (λ u. IsTrue (has_keyword keywords.Port (bare u))) 65536 (ports_in t) f (inside_parts r keywords.Interface keywords.Port t h) (λ u v. told.on_ports refl v) b
interface_told r t f h w (stands.many_bits b) = bits_told r (λ u. IsTrue (has_keyword keywords.Port (bare u))) 1048576 0 (ports_in t) f (inside_parts r keywords.Interface keywords.Port t h) (λ u v. told.on_bits refl v) b
interface_told r t f h w (stands.interface_properties b) = properties_told r keywords.Interface t f h b

-- references
library_ref_told : (r : Placed) (libs : List design.Lib) (t : Placed) (f : MeaningFault) → IsIn r t → IsTrue (has_keyword keywords.LibraryRef (bare t)) → LibraryRefFault libs t f → Told r f
library_ref_told r libs t f h w (stands.library_ref_row b) = row_told r keywords.LibraryRef t f h w b
library_ref_told r libs t f h w (stands.library_ref_name b) = dangles_told r keywords.LibraryRef (design.lib_ids libs) b.0 f refl (record { holder = t; inside = h; keyword = w; at = 0; there = b.1 }) b.2

cell_ref_told : (r : Placed) (libs : List design.Lib) (own : Option ℕ) (t : Placed) (f : MeaningFault) → IsIn r t → IsTrue (has_keyword keywords.CellRef (bare t)) → CellRefFault libs own t f → Told r f
cell_ref_told r libs own t f h w (stands.cell_ref_row b) = row_told r keywords.CellRef t f h w b
cell_ref_told r libs own t f h w (stands.cell_ref_library b) = among_told r (λ u. IsTrue (has_keyword keywords.LibraryRef (bare u))) (LibraryRefFault libs) (parts keywords.CellRef keywords.LibraryRef t) f (inside_parts r keywords.CellRef keywords.LibraryRef t h) (λ u i v c. library_ref_told r libs u f i v c) b
cell_ref_told r libs own t f h w (stands.cell_ref_name l k b) = dangles_told r keywords.CellRef (design.cell_ids libs l) b.0 f refl (record { holder = t; inside = h; keyword = w; at = 0; there = b.1 }) b.2
cell_ref_told r libs own t f h w (stands.cell_ref_alone l k b) = at_fault r f (At kinds.BadForm (place_of t)) b (t, refl, h)

view_ref_told : (r : Placed) (libs : List design.Lib) (own : Option ℕ) (t : Placed) (f : MeaningFault) → IsIn r t → IsTrue (has_keyword keywords.ViewRef (bare t)) → ViewRefFault libs own t f → Told r f
view_ref_told r libs own t f h w (stands.view_ref_row b) = row_told r keywords.ViewRef t f h w b
view_ref_told r libs own t f h w (stands.view_ref_cell b) = form_told r 1 keywords.CellRef (CellRefFault libs own) t f h (λ u i v c. cell_ref_told r libs own u f i v c) b
view_ref_told r libs own t f h w (stands.view_ref_name u id g k b) = dangles_told r keywords.ViewRef (design.view_id libs id ∷ []) b.0 f refl (record { holder = t; inside = h; keyword = w; at = 0; there = b.1 }) b.2

inst_told : (r : Placed) (libs : List design.Lib) (own : Option ℕ) (t : Placed) (f : MeaningFault) → IsIn r t → IsTrue (has_keyword keywords.Instance (bare t)) → InstFault libs own t f → Told r f
inst_told r libs own t f h w (stands.inst_row b) = row_told r keywords.Instance t f h w b
inst_told r libs own t f h w (stands.inst_name b) = name_part r t f h b
inst_told r libs own t f h w (stands.inst_view b) = form_told r 1 keywords.ViewRef (ViewRefFault libs own) t f h (λ u i v c. view_ref_told r libs own u f i v c) b
inst_told r libs own t f h w (stands.inst_designator b) = rows_told r keywords.Instance keywords.Designator t f h b
inst_told r libs own t f h w (stands.inst_properties b) = properties_told r keywords.Instance t f h b

-- nets
inst_ref_told : (r : Placed) (insts : List design.Inst) (t : Placed) (f : MeaningFault) → IsIn r t → IsTrue (has_keyword keywords.InstanceRef (bare t)) → InstRefFault insts t f → Told r f
inst_ref_told r insts t f h w (stands.inst_ref_row b) = row_told r keywords.InstanceRef t f h w b
inst_ref_told r insts t f h w (stands.inst_ref_name b) = dangles_told r keywords.InstanceRef (design.inst_ids insts) b.0 f refl (record { holder = t; inside = h; keyword = w; at = 0; there = b.1 }) b.2

bit_told : (r : Placed) (ports : List design.Port) (u : Placed) (f : MeaningFault) → IsUnder r keywords.PortRef u → BitFault ports u f → Told r f
bit_told r ports u f h (stands.bit_port b) = dangles_told r keywords.PortRef (design.port_ids ports) u f refl h b
bit_told r ports u f h (stands.member_row k b) = row_told r keywords.Member u f (under_in r keywords.PortRef u h) k b
bit_told r ports u f h (stands.member_port k b) = dangles_told r keywords.Member (design.port_ids ports) b.0 f refl (record { holder = u; inside = under_in r keywords.PortRef u h; keyword = k; at = 0; there = b.1 }) b.2
bit_told r ports u f h (stands.member_index k b) = at_fault r f (At kinds.BadIndex b.place) b.fault (Integer' b.place b.index, refl, inr (record { holder = u; inside = under_in r keywords.PortRef u h; keyword = k; at = 1; there = b.index_there }))

end_told : (r : Placed) (libs : List design.Lib) (ports : List design.Port) (insts : List design.Inst) (t : Placed) (f : MeaningFault) → IsIn r t → IsTrue (has_keyword keywords.PortRef (bare t)) → EndFault libs ports insts t f → Told r f
end_told r libs ports insts t f h w (stands.end_row b) = row_told r keywords.PortRef t f h w b
end_told r libs ports insts t f h w (stands.end_inst b) = among_told r (λ u. IsTrue (has_keyword keywords.InstanceRef (bare u))) (InstRefFault insts) (parts keywords.PortRef keywords.InstanceRef t) f (inside_parts r keywords.PortRef keywords.InstanceRef t h) (λ u i v c. inst_ref_told r insts u f i v c) b
end_told r libs ports insts t f h w (stands.end_bit o m b) = bit_told r (ports_of_end libs ports insts o) b.0 f (record { holder = t; inside = h; keyword = w; at = 0; there = b.1 }) b.2

joined_told : (r : Placed) (libs : List design.Lib) (ports : List design.Port) (insts : List design.Inst) (t : Placed) (f : MeaningFault) → IsIn r t → IsTrue (has_keyword keywords.Joined (bare t)) → JoinedFault libs ports insts t f → Told r f
joined_told r libs ports insts t f h w (stands.joined_row b) = row_told r keywords.Joined t f h w b
joined_told r libs ports insts t f h w (stands.joined_end b) = among_told r (λ u. IsTrue (has_keyword keywords.PortRef (bare u))) (EndFault libs ports insts) (parts keywords.Joined keywords.PortRef t) f (inside_parts r keywords.Joined keywords.PortRef t h) (λ u i v c. end_told r libs ports insts u f i v c) b

abbrev IsA : Keyword → Placed → Type 0
IsA k u = IsTrue (has_keyword k (bare u))

ends_inside : (r t : Placed) → IsIn r t → Inside r (IsA keywords.PortRef) (ends_in t)
ends_inside r t h = go (slice_get (arguments t) 1) refl
  where
    go : (o : Option Placed) → slice_get (arguments t) 1 ≡ o → Inside r (IsA keywords.PortRef) (ends_joined o)
    go None e i x g = absurd (cc g)
    go (Some u) e i x g = by (has_keyword keywords.Joined (bare u)) g
      where
        by : (b : Bool) → slice_get (cond b (parts keywords.Joined keywords.PortRef u) []) i ≡ Some x → IsIn r x × IsA keywords.PortRef x
        by true g = inside_parts r keywords.Joined keywords.PortRef u (told.argument t u 1 h e) i x g
        by false g = absurd (cc g)

width_told : (r : Placed) (libs : List design.Lib) (ports : List design.Port) (insts : List design.Inst) (array : Option ℕ) (t : Placed) (f : MeaningFault) → IsIn r t → IsTrue (has_keyword keywords.PortRef (bare t)) → WidthFault libs ports insts array t f → Told r f
width_told r libs ports insts None t f h w b = at_fault r f (At kinds.WholeArray (place_of b.bits)) b.fault (b.bits, refl, record { holder = t; inside = h; keyword = w; at = 0; there = b.there })
width_told r libs ports insts (Some n) t f h w b = at_fault r f (At kinds.BadWidth (place_of b.bits)) b.fault (b.bits, refl, record { holder = t; inside = h; keyword = w; at = 0; there = b.there })

net_told : (r : Placed) (libs : List design.Lib) (ports : List design.Port) (insts : List design.Inst) (t : Placed) (f : MeaningFault) → IsIn r t → IsTrue (has_keyword keywords.Net (bare t)) → NetFault libs ports insts t f → Told r f
net_told r libs ports insts t f h w (stands.net_row b) = row_told r keywords.Net t f h w b
net_told r libs ports insts t f h w (stands.net_name b) = port_name_told r b.0 f (told.argument t b.0 0 h b.1) b.2
net_told r libs ports insts t f h w (stands.net_joined b) = form_told r 1 keywords.Joined (JoinedFault libs ports insts) t f h (λ u i v c. joined_told r libs ports insts u f i v c) b
net_told r libs ports insts t f h w (stands.net_width b) = among_told r (IsA keywords.PortRef) (WidthFault libs ports insts b.array) (ends_in t) f (ends_inside r t h) (λ u i v c. width_told r libs ports insts b.array u f i v c) b.fault
net_told r libs ports insts t f h w (stands.net_properties b) = properties_told r keywords.Net t f h b

end_shape_told : (r t : Placed) (f : MeaningFault) → IsIn r t → IsTrue (has_keyword keywords.PortRef (bare t)) → EndShapeFault t f → Told r f
end_shape_told r t f h w (stands.end_shape_row b) = row_told r keywords.PortRef t f h w b
end_shape_told r t f h w (stands.end_shape_inst b) = rows_told r keywords.PortRef keywords.InstanceRef t f h b
end_shape_told r t f h w (stands.end_shape_member b) = row_told r keywords.Member b.0 f (told.argument t b.0 0 h b.1) b.2.0 b.2.1

joined_shape_told : (r t : Placed) (f : MeaningFault) → IsIn r t → IsTrue (has_keyword keywords.Joined (bare t)) → JoinedShapeFault t f → Told r f
joined_shape_told r t f h w (stands.joined_shape_row b) = row_told r keywords.Joined t f h w b
joined_shape_told r t f h w (stands.joined_shape_end b) = among_told r (λ u. IsTrue (has_keyword keywords.PortRef (bare u))) EndShapeFault (parts keywords.Joined keywords.PortRef t) f (inside_parts r keywords.Joined keywords.PortRef t h) (λ u i v c. end_shape_told r u f i v c) b

net_shape_told : (r t : Placed) (f : MeaningFault) → IsIn r t → IsTrue (has_keyword keywords.Net (bare t)) → NetShapeFault t f → Told r f
net_shape_told r t f h w (stands.net_shape_row b) = row_told r keywords.Net t f h w b
net_shape_told r t f h w (stands.net_shape_name b) = port_name_told r b.0 f (told.argument t b.0 0 h b.1) b.2
net_shape_told r t f h w (stands.net_shape_joined b) = form_told r 1 keywords.Joined JoinedShapeFault t f h (λ u i v c. joined_shape_told r u f i v c) b
net_shape_told r t f h w (stands.net_shape_properties b) = properties_told r keywords.Net t f h b

-- contents
-- a list in which each stands as often as it counts
copies : (t : Placed) (n i : ℕ) (x : Placed) → slice_get (replicate n t) i ≡ Some x → t ≡ x
copies t zero i x e = absurd (cc e)
copies t (suc n) zero x e = cc e
copies t (suc n) (suc i) x e = copies t n i x e

repeated_inside : (r : Placed) (Q : Placed → Type 0) (count : Placed → ℕ) (ts : List Placed) → Inside r Q ts → Inside r Q (repeated count ts)
repeated_inside r Q count ts h = inside_flat r Q Q (λ t. replicate (count t) t) ts h (λ u i v j x e. let s : u ≡ x = copies u (count u) j x e in (subst (λ y. IsIn r y) s i, subst Q s v))

all_ends : (r t : Placed) → IsIn r t → Inside r (IsA keywords.PortRef) (flat_map counted_ends (nets_in t))
all_ends r t h = inside_flat r (IsA keywords.Net) (IsA keywords.PortRef) counted_ends (nets_in t) (inside_parts r keywords.Contents keywords.Net t h) (λ u i w. repeated_inside r (IsA keywords.PortRef) (λ v. declared_width u) (ends_in u) (ends_inside r u i))

all_flat : {A : Type 0} (Q : Placed → Type 0) (r : Placed) (P : A → Type 0) (g : Placed → List A) (ts : List Placed) → Inside r Q ts → ((u : Placed) → IsIn r u → Q u → AllByRecursion P (g u)) → AllByRecursion P (flat_map g ts)
all_flat Q r P g [] h f = tt
all_flat Q r P g (t ∷ ts) h f = let w = h 0 t refl in all_append P (g t) (flat_map g ts) (f t w.0 w.1) (all_flat Q r P g ts (λ i. h (suc i)) f)

-- a list has this at some place
abbrev Held : {A : Type 0} → List A → A → Type 0
Held xs x = (i : ℕ) × (slice_get xs i ≡ Some x)

held_contained : {A : Type 0} (xs : List A) (x : A) → Held xs x → Contains xs x
held_contained [] x h = absurd (cc h.1)
held_contained (y ∷ xs) x (zero, e) = (0, omega arith, cc e)
held_contained (y ∷ xs) x (suc i, e) = let w = held_contained xs x (i, e) in let l = w.1 in (suc w.0, omega (arith, l), w.2)

-- one and two of several rows: two are of two rows, or of one
one_joined : {A : Type 0} (P : A → Type 0) (xs ys : List A) → AtOne P (xs ++ ys) → AtOne P xs ⊎ AtOne P ys
one_joined P [] ys h = inr h
one_joined P (x ∷ xs) ys (inl h) = inl (inl h)
one_joined P (x ∷ xs) ys (inr h) = elim (one_joined P xs ys h) [ inl k ↦ inl (inr k) | inr k ↦ inr k ]

two_joined : {A : Type 0} (R : A → A → Type 0) (xs ys : List A) → AtTwo R (xs ++ ys) → AtTwo R xs ⊎ (AtOne (λ x. AtOne (R x) ys) xs ⊎ AtTwo R ys)
two_joined R [] ys h = inr (inr h)
two_joined R (x ∷ xs) ys (inl h) = elim (one_joined (R x) xs ys h) [ inl k ↦ inl (inl k) | inr k ↦ inr (inl (inl k)) ]
two_joined R (x ∷ xs) ys (inr h) = elim (two_joined R xs ys h) [ inl k ↦ inl (inr k) | inr k ↦ elim k [ inl m ↦ inr (inl (inr m)) | inr m ↦ inr (inr m) ] ]

one_row : {A B : Type 0} (P : A → Type 0) (g : B → List A) (ts : List B) → AtOne P (flat_map g ts) → AtOne (λ t. (x : A) × Held (g t) x × P x) ts
one_row P g [] h = h
one_row P g (t ∷ ts) h = elim (one_joined P (g t) (flat_map g ts) h) [ inl k ↦ let w = one_there P (g t) k in inl (w.1, (w.0, w.2), w.3) | inr k ↦ inr (one_row P g ts k) ]

-- two values of two rows
abbrev OfRows : {A B : Type 0} → (A → A → Type 0) → (B → List A) → B → B → Type 0
OfRows {A} R g t u = (x : A) × (y : A) × Held (g t) x × Held (g u) y × R x y

two_rows : {A B : Type 0} (R : A → A → Type 0) (g : B → List A) (ts : List B) → AtTwo R (flat_map g ts) → AtTwo (OfRows R g) ts ⊎ AtOne (λ t. AtTwo R (g t)) ts
two_rows R g [] h = absurd h
two_rows R g (t ∷ ts) h = elim (two_joined R (g t) (flat_map g ts) h) [
  | inl k ↦ inr (inl k)
  | inr k ↦ elim k [
    | inl m ↦ let w = one_there (λ x. AtOne (R x) (flat_map g ts)) (g t) m in
        inl (inl (one_map (λ u. (y : _) × Held (g u) y × R w.1 y) (λ u. OfRows R g t u) ts (λ u v. (w.1, v.0, (w.0, w.2), v.1, v.2)) (one_row (R w.1) g ts w.3)))
    | inr m ↦ elim (two_rows R g ts m) [ inl q ↦ inl (inr q) | inr q ↦ inr (inr q) ]
  ]
]

two_mapped : {A B : Type 0} (R : A → A → Type 0) (g : B → A) (ts : List B) → AtTwo R (map g ts) → AtTwo (λ t u. R (g t) (g u)) ts
two_mapped R g [] h = h
two_mapped R g (t ∷ ts) (inl h) = inl (one_mapped (R (g t)) ts h)
  where
    one_mapped : (P : _ → Type 0) (us : List _) → AtOne P (map g us) → AtOne (λ u. P (g u)) us
    one_mapped P [] k = k
    one_mapped P (u ∷ us) (inl k) = inl k
    one_mapped P (u ∷ us) (inr k) = inr (one_mapped P us k)
two_mapped R g (t ∷ ts) (inr h) = inr (two_mapped R g ts h)

held_mapped : {A B : Type 0} (g : B → A) (ts : List B) (x : A) → Held (map g ts) x → (t : B) × (g t ≡ x)
held_mapped g [] x h = absurd (cc h.1)
held_mapped g (t ∷ ts) x (zero, e) = (t, cc e)
held_mapped g (t ∷ ts) x (suc i, e) = held_mapped g ts x (i, e)

one_number : {A : Type 0} (P : A → Type 0) (g : ℕ → A) (k count : ℕ) → AtOne P (numbered g k count) → (j : ℕ) × (k ≤ j) × (j < k + count) × P (g j)
one_number P g k zero h = absurd h
one_number P g k (suc count) (inl h) = (k, omega arith, omega arith, h)
one_number P g k (suc count) (inr h) =
    let w = one_number P g (suc k) count h in
    let l = w.1 in
    let m = w.2 in
    (w.0, omega (arith, l), omega (arith, m), w.3)

two_numbers : {A : Type 0} (R : A → A → Type 0) (g : ℕ → A) (k count : ℕ) → AtTwo R (numbered g k count) → (i : ℕ) × (j : ℕ) × (i < j) × (j < k + count) × R (g i) (g j)
two_numbers R g k zero h = absurd h
two_numbers R g k (suc count) (inl h) =
    let w = one_number (R (g k)) g (suc k) count h in
    let l = w.1 in
    let m = w.2 in
    (k, w.0, omega (arith, l), omega (arith, m), w.3)
two_numbers R g k (suc count) (inr h) = let w = two_numbers R g (suc k) count h in let m = w.3 in (w.0, w.1, w.2, omega (arith, m), w.4)

-- an argument of a form behind the first ones, with a property
one_argument : (t : Placed) (n : ℕ) (p : Bare → Bool) (P : Placed → Type 0) → AtOne P (filter (λ u. p (bare u)) (drop n (arguments t))) → (i : ℕ) × (u : Placed) × (slice_get (arguments t) i ≡ Some u) × (p (bare u) ≡ true) × P u
one_argument t n p P b =
    let w = one_there P (filter (λ u. p (bare u)) (drop n (arguments t))) b in
    let x = in_filter (λ u. p (bare u)) (drop n (arguments t)) w.0 w.1 w.2 in
    let y = in_drop n (arguments t) x.0 w.1 x.1 in
    (y.0, w.1, y.1, x.2, w.3)

-- where the ends of a net stand
end_found : (t : Placed) (i : ℕ) (u : Placed) → slice_get (ends_in t) i ≡ Some u → (k : ℕ) × IsEndOf t k u
end_found t i u e = go (slice_get (arguments t) 1) refl e
  where
    go : (o : Option Placed) → slice_get (arguments t) 1 ≡ o → slice_get (ends_joined o) i ≡ Some u → (k : ℕ) × IsEndOf t k u
    go None h g = absurd (cc g)
    go (Some v) h g = by (has_keyword keywords.Joined (bare v)) refl g
      where
        by : (b : Bool) → has_keyword keywords.Joined (bare v) ≡ b → slice_get (cond b (parts keywords.Joined keywords.PortRef v) []) i ≡ Some u → (k : ℕ) × IsEndOf t k u
        by false j g = absurd (cc g)
        by true j g =
            let x = in_filter (λ x. has_keyword keywords.PortRef (bare x)) (followers keywords.Joined v) i u g in
            let y = in_drop (fixed_count (row keywords.Joined)) (arguments v) x.0 u x.1 in
            (y.0, record { joined = v; joined_there = h; is_joined = j; there = y.1; is_end = x.2 })

row_found : (t : Placed) → AllByRecursion (λ (x : Placed × ℕ × ℕ). (k : ℕ) × IsEndOf t k x.0) (row_ends t)
row_found t = by_number (numbered (λ k. k) 0 (declared_width t))
  where
    of_net : (k : ℕ) (us : List Placed) → ((i : ℕ) (u : Placed) → slice_get us i ≡ Some u → (k : ℕ) × IsEndOf t k u) → AllByRecursion (λ (x : Placed × ℕ × ℕ). (k : ℕ) × IsEndOf t k x.0) (map (λ u. (u, k, declared_width t)) us)
    of_net k [] g = tt
    of_net k (u ∷ us) g = (g 0 u refl, of_net k us (λ i. g (suc i)))

    by_number : (ks : List ℕ) → AllByRecursion (λ (x : Placed × ℕ × ℕ). (k : ℕ) × IsEndOf t k x.0) (flat_map (λ k. map (λ u. (u, k, declared_width t)) (ends_in t)) ks)
    by_number [] = tt
    by_number (k ∷ ks) = all_append (λ (x : Placed × ℕ × ℕ). (k : ℕ) × IsEndOf t k x.0) (map (λ u. (u, k, declared_width t)) (ends_in t)) (flat_map (λ k. map (λ u. (u, k, declared_width t)) (ends_in t)) ks) (of_net k (ends_in t) (end_found t)) (by_number ks)

-- two ends of one net, the earlier one first
two_ends : (t : Placed) (R : Placed → Placed → Type 0) → AtTwo R (ends_in t) → (a : Placed) × (b : Placed) × (i : ℕ) × (j : ℕ) × IsEndOf t i a × IsEndOf t j b × (i < j) × R a b
two_ends t R h = go (slice_get (arguments t) 1) refl h
  where
    go : (o : Option Placed) → slice_get (arguments t) 1 ≡ o → AtTwo R (ends_joined o) → (a : Placed) × (b : Placed) × (i : ℕ) × (j : ℕ) × IsEndOf t i a × IsEndOf t j b × (i < j) × R a b
    go None e g = absurd g
    go (Some v) e g = by (has_keyword keywords.Joined (bare v)) refl g
      where
        by : (b : Bool) → has_keyword keywords.Joined (bare v) ≡ b → AtTwo R (cond b (parts keywords.Joined keywords.PortRef v) []) → (a : Placed) × (b : Placed) × (i : ℕ) × (j : ℕ) × IsEndOf t i a × IsEndOf t j b × (i < j) × R a b
        by false q g = absurd g
        by true q g =
            let w = two_arguments v v (fixed_count (row keywords.Joined)) (has_keyword keywords.PortRef) R told.whole g in
            let x = subst (λ z. slice_get (arguments z) w.2.at_a ≡ Some w.0) w.6 w.2.there_a in
            let y = subst (λ z. slice_get (arguments z) w.2.at_b ≡ Some w.1) w.6 w.2.there_b in
            (w.0, w.1, w.2.at_a, w.2.at_b, record { joined = v; joined_there = e; is_joined = q; there = x; is_end = w.3 }, record { joined = v; joined_there = e; is_joined = q; there = y; is_end = w.4 }, w.2.order, w.5)

-- In a row of several nets each end is a whole port, so that two that mean one bit are in the net of one number.
whole_from_start : (libs : List design.Lib) (ports : List design.Port) (insts : List design.Inst) (u : Bare) (s : Stretch) → MeansEnd libs ports insts u s → 1 < s.width → s.first ≡ 0
whole_from_start libs ports insts u s m l = go m.bits
  where
    go : MeansBits (ports_of_end libs ports insts s.inst) m.bits_part s.port s.first s.width → s.first ≡ 0
    go (inl b) = b.3
    go (inr b) = let e : s.width ≡ 1 = b.4 in absurd (omega (arith, l, e))

numbers_apart : (libs : List design.Lib) (ports : List design.Port) (insts : List design.Inst) (f : MeaningFault) (u v : Placed) (i j size : ℕ) → i < j → j < size → SameEnd libs ports insts f (u, i, size) (v, j, size) → ⊥
numbers_apart libs ports insts f u v i j size l m b =
    let s = b.1.0 in
    let q = b.2.0 in
    let ws : s.width ≡ size = b.1.2 in
    let wq : q.width ≡ size = b.2.2 in
    let x : s.first ≡ 0 = whole_from_start libs ports insts (bare u) s b.1.1 (omega (arith, l, m, ws)) in
    let y : q.first ≡ 0 = whole_from_start libs ports insts (bare v) q b.2.1 (omega (arith, l, m, wq)) in
    let e : i + s.first ≡ j + q.first = ap (λ (d : design.End). d.bit) (sym b.1.3 ∙ b.2.3) in
    omega (arith, l, x, y, e)

row_of_one : (libs : List design.Lib) (ports : List design.Port) (insts : List design.Inst) (f : MeaningFault) (t : Placed) → AtTwo (OfRows (SameEnd libs ports insts f) (λ k. map (λ u. (u, k, declared_width t)) (ends_in t))) (numbered (λ k. k) 0 (declared_width t)) → ⊥
row_of_one libs ports insts f t h =
    let g : ℕ → List (Placed × ℕ × ℕ) = λ k. map (λ u. (u, k, declared_width t)) (ends_in t) in
    let w = two_numbers (OfRows (SameEnd libs ports insts f) g) (λ k. k) 0 (declared_width t) h in
    let v = w.4 in
    let x = held_mapped (λ u. (u, w.0, declared_width t)) (ends_in t) v.0 v.2 in
    let y = held_mapped (λ u. (u, w.1, declared_width t)) (ends_in t) v.1 v.3 in
    let P : Placed × ℕ × ℕ → Type 0 = λ z. SameEnd libs ports insts f z v.1 in
    let Q : Placed × ℕ × ℕ → Type 0 = λ z. SameEnd libs ports insts f (x.0, w.0, declared_width t) z in
    let m = w.3 in
    numbers_apart libs ports insts f x.0 y.0 w.0 w.1 (declared_width t) w.2 (omega (arith, m)) (subst Q (sym y.1) (subst P (sym x.1) v.4))

ends_told : (r a b : Placed) (f : MeaningFault) → AreTwoEnds r a b → f ≡ Clash clashes.EndTwice (place_of b) (place_of a) → Told r f
ends_told r a b f o e =
    let x = told.argument o.end_a.joined a o.end_at_a (told.argument o.net_a o.end_a.joined 1 (told.argument o.holder o.net_a o.at_a o.inside o.there_a) o.end_a.joined_there) o.end_a.there in
    let y = told.argument o.end_b.joined b o.end_at_b (told.argument o.net_b o.end_b.joined 1 (told.argument o.holder o.net_b o.at_b o.inside o.there_b) o.end_b.joined_there) o.end_b.there in
    at_fault r f (Clash clashes.EndTwice (place_of b) (place_of a)) e (a, b, refl, refl, (x, o.end_a.is_end), (y, o.end_b.is_end), o)

-- in two nets
nets_apart_told : (r : Placed) (libs : List design.Lib) (ports : List design.Port) (insts : List design.Inst) (t : Placed) (f : MeaningFault) → IsIn r t → IsA keywords.Contents t → AtTwo (OfRows (SameEnd libs ports insts f) row_ends) (nets_in t) → Told r f
nets_apart_told r libs ports insts t f h k b =
    let w = two_arguments r t (fixed_count (row keywords.Contents)) (has_keyword keywords.Net) (OfRows (SameEnd libs ports insts f) row_ends) h b in
    let v = w.5 in
    let o = w.2 in
    let x = all_at (λ (x : Placed × ℕ × ℕ). (k : ℕ) × IsEndOf w.0 k x.0) (row_ends w.0) v.2.0 v.0 (row_found w.0) v.2.1 in
    let y = all_at (λ (x : Placed × ℕ × ℕ). (k : ℕ) × IsEndOf w.1 k x.0) (row_ends w.1) v.3.0 v.1 (row_found w.1) v.3.1 in
    let C : Placed → Type 0 = λ z. IsA keywords.Contents z in
    ends_told r v.0.0 v.1.0 f (record {
      holder = o.holder;
      inside = o.inside;
      keyword = subst C (sym w.6) k;
      net_a = w.0;
      net_b = w.1;
      at_a = o.at_a;
      at_b = o.at_b;
      there_a = o.there_a;
      there_b = o.there_b;
      is_a = w.3;
      is_b = w.4;
      end_at_a = x.0;
      end_at_b = y.0;
      end_a = x.1;
      end_b = y.1;
      order = inl o.order;
    }) v.4.3

-- in one net
net_twice_told : (r : Placed) (libs : List design.Lib) (ports : List design.Port) (insts : List design.Inst) (t : Placed) (f : MeaningFault) → IsIn r t → IsA keywords.Contents t → AtOne (λ u. AtTwo (SameEnd libs ports insts f) (row_ends u)) (nets_in t) → Told r f
net_twice_told r libs ports insts t f h k b =
    let w = one_argument t (fixed_count (row keywords.Contents)) (has_keyword keywords.Net) (λ u. AtTwo (SameEnd libs ports insts f) (row_ends u)) b in
    let g : ℕ → List (Placed × ℕ × ℕ) = λ k. map (λ u. (u, k, declared_width w.1)) (ends_in w.1) in
    elim (two_rows (SameEnd libs ports insts f) g (numbered (λ k. k) 0 (declared_width w.1)) w.4) [
      | inl c ↦ absurd (row_of_one libs ports insts f w.1 c)
      | inr c ↦
          let d = one_there (λ k. AtTwo (SameEnd libs ports insts f) (g k)) (numbered (λ k. k) 0 (declared_width w.1)) c in
          let R : Placed → Placed → Type 0 = λ u v. SameEnd libs ports insts f (u, d.1, declared_width w.1) (v, d.1, declared_width w.1) in
          let q = two_ends w.1 R (two_mapped (SameEnd libs ports insts f) (λ u. (u, d.1, declared_width w.1)) (ends_in w.1) d.3) in
          ends_told r q.0 q.1 f (record {
            holder = t;
            inside = h;
            keyword = k;
            net_a = w.1;
            net_b = w.1;
            at_a = w.0;
            at_b = w.0;
            there_a = w.2;
            there_b = w.2;
            is_a = w.3;
            is_b = w.3;
            end_at_a = q.2;
            end_at_b = q.3;
            end_a = q.4;
            end_b = q.5;
            order = inr (refl, q.6);
          }) q.7.3
    ]

nets_told : (r : Placed) (libs : List design.Lib) (own : Option ℕ) (ports : List design.Port) (t : Placed) (f : MeaningFault) → IsIn r t → IsA keywords.Contents t → NetsFault libs own ports t f → Told r f
nets_told r libs own ports t f h k (stands.one_net insts m b) = among_told r (IsA keywords.Net) (NetFault libs ports insts) (nets_in t) f (inside_parts r keywords.Contents keywords.Net t h) (λ u i w c. net_told r libs ports insts u f i w c) b
nets_told r libs own ports t f h k (stands.end_again insts m b) =
    elim (two_rows (SameEnd libs ports insts f) row_ends (nets_in t) b) [ inl c ↦ nets_apart_told r libs ports insts t f h k c | inr c ↦ net_twice_told r libs ports insts t f h k c ]

-- a name that a word of the tree gives
abbrev Given : Placed → List ℕ × ℕ → Type 0
Given r a = Gives r a.0 a.1

names_given : (r t : Placed) → IsIn r t → IsA keywords.Net t → AllByRecursion (Given r) (net_names_in t)
names_given r t h w = go (is_arrayed (slice_get (arguments t) 0)) (defined t) refl refl
  where
    members : (name : List ℕ × ℕ) (k count : ℕ) → k + count ≡ declared_width t → is_arrayed (slice_get (arguments t) 0) ≡ true → defined t ≡ Some (name.0, name.1) → AllByRecursion (Given r) (numbered (member_at name) k count)
    members name k zero e a d = tt
    members name k (suc count) e a d =
        let l : k < declared_width t = omega (arith, e) in
        (inr (record { net = t; inside = h; keyword = w; array = a; id = name.0; named = d; word = defined_in r t name.0 name.1 h d; number = k; within = l; member = refl }), members name (suc k) count (omega (arith, e)) a d)

    go : (b : Bool) (o : Option (List ℕ × ℕ)) → is_arrayed (slice_get (arguments t) 0) ≡ b → defined t ≡ o → AllByRecursion (Given r) (names_from b (declared_width t) o)
    go b None a e = tt
    go false (Some name) a e = (inl (defined_in r t name.0 name.1 h e), tt)
    go true (Some name) a e = members name 0 (declared_width t) (omega arith) a e

-- the names of a row are apart
counted_small : (n : ℕ) → counted n ≤ 65536
counted_small n = go (nat_le 1 n && nat_le n 65536) refl
  where
    go : (b : Bool) → (nat_le 1 n && nat_le n 65536) ≡ b → cond b n 1 ≤ 65536
    go true e = let l : nat_le n 65536 ≡ true = (and_parts (nat_le 1 n) (nat_le n 65536) e).1 in grind (arith, nat_tests, l)
    go false e = omega arith

width_small : (b : Bool) (o : Option Placed) → width_with b o ≤ 65536
width_small true (Some (Integer' p (pos n))) = counted_small n
width_small true (Some (Integer' p (negsuc n))) = omega arith
width_small true (Some (Form' p ts)) = omega arith
width_small true (Some (Word' p w)) = omega arith
width_small true (Some (String' p s)) = omega arith
width_small true None = omega arith
width_small false o = omega arith

row_small : (t : Placed) → declared_width t ≤ 65536
row_small t = go (slice_get (arguments t) 0)
  where
    go : (o : Option Placed) → first_width o ≤ 65536
    go None = omega arith
    go (Some u) = width_small (has_keyword keywords.Array (bare u)) (slice_get (arguments u) 1)

members_apart : (name : List ℕ × ℕ) (f : MeaningFault) (k count : ℕ) → k + count ≤ 65536 → AtTwo (SameOfTwo f) (numbered (member_at name) k count) → ⊥
members_apart name f k zero l h = h
members_apart name f k (suc count) l (inl h) =
    let w = one_number (SameOfTwo f (member_at name k)) (member_at name) (suc k) count h in
    let a = w.1 in
    let b = w.2 in
    let x : k < 65536 = omega (arith, l) in
    let y : w.0 < 65536 = omega (arith, l, b) in
    let e : k ≡ w.0 = member_ids_differ name.0 k w.0 x y w.3.0 in
    omega (arith, a, e)
members_apart name f k (suc count) l (inr h) = members_apart name f (suc k) count (omega (arith, l)) h

row_apart : (t : Placed) (f : MeaningFault) → AtTwo (SameOfTwo f) (net_names_in t) → ⊥
row_apart t f h = go (is_arrayed (slice_get (arguments t) 0)) (defined t) h
  where
    go : (b : Bool) (o : Option (List ℕ × ℕ)) → AtTwo (SameOfTwo f) (names_from b (declared_width t) o) → ⊥
    go b None h = h
    go false (Some name) (inl h) = h
    go false (Some name) (inr h) = h
    go true (Some name) h = let l = row_small t in members_apart name f 0 (declared_width t) (omega (arith, l)) h

rows_apart : (f : MeaningFault) (ts : List Placed) → AtTwo (SameOfTwo f) (flat_map net_names_in ts) → AtTwo (OfRows (SameOfTwo f) net_names_in) ts
rows_apart f ts h = elim (two_rows (SameOfTwo f) net_names_in ts h) [ inl k ↦ k | inr k ↦ (let w = one_there (λ t. AtTwo (SameOfTwo f) (net_names_in t)) ts k in absurd (row_apart w.1 f w.3)) ]

nets_again : (r t : Placed) (f : MeaningFault) → IsIn r t → AtTwo (SameOfTwo f) (flat_map net_names_in (nets_in t)) → Told r f
nets_again r t f h b =
    let w = two_arguments r t (fixed_count (row keywords.Contents)) (has_keyword keywords.Net) (OfRows (SameOfTwo f) net_names_in) h (rows_apart f (nets_in t) b) in
    let v = w.5 in
    let x = all_at (Given r) (net_names_in w.0) v.2.0 v.0 (names_given r w.0 (former_in r w.0 w.1 w.2) w.3) v.2.1 in
    let y = all_at (Given r) (net_names_in w.1) v.3.0 v.1 (names_given r w.1 (latter_in r w.0 w.1 w.2) w.4) v.3.1 in
    let G : List ℕ → Type 0 = λ n. Gives r n v.1.1 in
    let C : List ℕ → Type 0 = λ n. Contains (net_names_in w.1) (n, v.1.1) in
    at_fault r f (Clash clashes.Duplicate v.1.1 v.0.1) v.4.1 (v.0.0, x, subst G (sym v.4.0) y, told.same_nets w.0 w.1 (w.2, w.3, w.4) (held_contained (net_names_in w.0) v.0 v.2) (subst C (sym v.4.0) (held_contained (net_names_in w.1) v.1 v.3)))

contents_told : (r : Placed) (libs : List design.Lib) (own : Option ℕ) (ports : List design.Port) (t : Placed) (f : MeaningFault) → IsIn r t → IsA keywords.Contents t → ContentsFault libs own ports t f → Told r f
contents_told r libs own ports t f h w (stands.contents_row b) = row_told r keywords.Contents t f h w b
contents_told r libs own ports t f h w (stands.contents_inst b) = among_told r (IsA keywords.Instance) (InstFault libs own) (insts_in t) f (inside_parts r keywords.Contents keywords.Instance t h) (λ u i v c. inst_told r libs own u f i v c) b
contents_told r libs own ports t f h w (stands.contents_net_shape b) = among_told r (IsA keywords.Net) NetShapeFault (nets_in t) f (inside_parts r keywords.Contents keywords.Net t h) (λ u i v c. net_shape_told r u f i v c) b
contents_told r libs own ports t f h w (stands.contents_nets b) = nets_told r libs own ports t f h w b
contents_told r libs own ports t f h w (stands.inst_again b) = parts_again r keywords.Contents keywords.Instance t f h refl b
contents_told r libs own ports t f h w (stands.net_again b) = nets_again r t f h b
contents_told r libs own ports t f h w (stands.many_insts b) = beyond_told r (IsA keywords.Instance) 1048576 (insts_in t) f (inside_parts r keywords.Contents keywords.Instance t h) (λ u v. told.on_instances refl v) b
contents_told r libs own ports t f h w (stands.many_nets b) = beyond_told r (IsA keywords.Net) 1048576 (repeated declared_width (nets_in t)) f (repeated_inside r (IsA keywords.Net) declared_width (nets_in t) (inside_parts r keywords.Contents keywords.Net t h)) (λ u v. told.on_nets refl v) b
contents_told r libs own ports t f h w (stands.many_ends b) = beyond_told r (IsA keywords.PortRef) 4194304 (flat_map counted_ends (nets_in t)) f (all_ends r t h) (λ u v. told.on_ends refl v) b

-- views and cells
type_told : (r t : Placed) (f : MeaningFault) → IsIn r t → IsA keywords.ViewType t → TypeFault t f → Told r f
type_told r t f h w (stands.view_type_row b) = row_told r keywords.ViewType t f h w b
type_told r t f h w (stands.other_view_type b) = word_told r is_netlist kinds.NotNetlist b.0 f (record { holder = t; inside = h; keyword = w; at = 0; there = b.1 }) b.2

view_told : (r : Placed) (libs : List design.Lib) (own : Option ℕ) (t : Placed) (f : MeaningFault) → IsIn r t → IsA keywords.View t → ViewFault libs own t f → Told r f
view_told r libs own t f h w (stands.view_row b) = row_told r keywords.View t f h w b
view_told r libs own t f h w (stands.view_name b) = name_part r t f h b
view_told r libs own t f h w (stands.view_type b) = form_told r 1 keywords.ViewType TypeFault t f h (λ u i v c. type_told r u f i v c) b
view_told r libs own t f h w (stands.view_interface b) = form_told r 2 keywords.Interface InterfaceFault t f h (λ u i v c. interface_told r u f i v c) b
view_told r libs own t f h w (stands.view_contents b) = among_told r (IsA keywords.Contents) (ContentsFault libs own b.ports) (parts keywords.View keywords.Contents t) f (inside_parts r keywords.View keywords.Contents t h) (λ u i v c. contents_told r libs own b.ports u f i v c) b.fault
view_told r libs own t f h w (stands.view_properties b) = properties_told r keywords.View t f h b

cell_type_told : (r t : Placed) (f : MeaningFault) → IsIn r t → IsA keywords.CellType t → CellTypeFault t f → Told r f
cell_type_told r t f h w (stands.cell_type_row b) = row_told r keywords.CellType t f h w b
cell_type_told r t f h w (stands.other_cell_type b) = word_told r is_cell_type kinds.BadForm b.0 f (told.argument t b.0 0 h b.1) b.2

cell_told : (r : Placed) (libs : List design.Lib) (own : Option ℕ) (t : Placed) (f : MeaningFault) → IsIn r t → IsA keywords.Cell t → CellFault libs own t f → Told r f
cell_told r libs own t f h w (stands.cell_row b) = row_told r keywords.Cell t f h w b
cell_told r libs own t f h w (stands.cell_name b) = name_part r t f h b
cell_told r libs own t f h w (stands.cell_type b) = form_told r 1 keywords.CellType CellTypeFault t f h (λ u i v c. cell_type_told r u f i v c) b
cell_told r libs own t f h w (stands.cell_view b) = among_told r (IsA keywords.View) (ViewFault libs own) (parts keywords.Cell keywords.View t) f (inside_parts r keywords.Cell keywords.View t h) (λ u i v c. view_told r libs own u f i v c) b
cell_told r libs own t f h w (stands.without_view k b) = at_fault r f (At kinds.BadForm (place_of t)) b (t, refl, h)
cell_told r libs own t f h w (stands.cell_properties b) = properties_told r keywords.Cell t f h b

-- levels, the version and the keyword map
edif_level_told : (r t : Placed) (f : MeaningFault) → IsIn r t → IsA keywords.EdifLevel t → LevelFault keywords.EdifLevel t f → Told r f
edif_level_told r t f h w (stands.level_row b) = row_told r keywords.EdifLevel t f h w b
edif_level_told r t f h w (stands.other_level b) = value_told r kinds.BadLevel b.0 f (inl (record { holder = t; inside = h; keyword = w; at = 0; there = b.1 })) (b.2.0, b.2.1, b.2.2, b.2.4)

keyword_level_told : (r t : Placed) (f : MeaningFault) → IsIn r t → IsA keywords.KeywordLevel t → LevelFault keywords.KeywordLevel t f → Told r f
keyword_level_told r t f h w (stands.level_row b) = row_told r keywords.KeywordLevel t f h w b
keyword_level_told r t f h w (stands.other_level b) = value_told r kinds.BadLevel b.0 f (inr (record { holder = t; inside = h; keyword = w; at = 0; there = b.1 })) (b.2.0, b.2.1, b.2.2, b.2.4)

version_number : (r t : Placed) (i : ℕ) (wanted : ℤ) (f : MeaningFault) → IsIn r t → IsA keywords.EdifVersion t → InPart i (ValueFault wanted kinds.BadVersion) t f → Told r f
version_number r t i wanted f h w b = value_told r kinds.BadVersion b.0 f (record { holder = t; inside = h; keyword = w; at = i; there = b.1 }) (b.2.0, b.2.1, b.2.2, b.2.4)

version_told : (r t : Placed) (f : MeaningFault) → IsIn r t → IsA keywords.EdifVersion t → VersionFault t f → Told r f
version_told r t f h w (stands.version_row b) = row_told r keywords.EdifVersion t f h w b
version_told r t f h w (stands.first_number b) = version_number r t 0 (pos 2) f h w b
version_told r t f h w (stands.second_number b) = version_number r t 1 (pos 0) f h w b
version_told r t f h w (stands.third_number b) = version_number r t 2 (pos 0) f h w b

map_told : (r t : Placed) (f : MeaningFault) → IsIn r t → IsA keywords.KeywordMap t → MapFault t f → Told r f
map_told r t f h w (stands.map_row b) = row_told r keywords.KeywordMap t f h w b
map_told r t f h w (stands.map_level b) = form_told r 0 keywords.KeywordLevel (LevelFault keywords.KeywordLevel) t f h (λ u i v c. keyword_level_told r u f i v c) b

-- libraries
library_told : (r : Placed) (before : List design.Lib) (t : Placed) (f : MeaningFault) → IsIn r t → LibraryFault before t f → Told r f
library_told r before t f h (stands.library_row k b) = row_told r keywords.Library t f h k b
library_told r before t f h (stands.external_row k b) = row_told r keywords.External t f h k b
library_told r before t f h (stands.library_name b) = name_part r t f h b
library_told r before t f h (stands.library_level b) = form_told r 1 keywords.EdifLevel (LevelFault keywords.EdifLevel) t f h (λ u i v c. edif_level_told r u f i v c) b
library_told r before t f h (stands.library_cells b) = after_told r (IsA keywords.Cell) (λ cells. MeansCell (before ++ record { head = b.head; cells = cells } ∷ []) (Some (length before))) (λ cells. CellFault (before ++ record { head = b.head; cells = cells } ∷ []) (Some (length before))) [] (cells_in t) f
    (inside_parts r keywords.Library keywords.Cell t h) (λ cells u i w c. cell_told r (before ++ record { head = b.head; cells = cells } ∷ []) (Some (length before)) u f i w c) b.fault
library_told r before t f h (stands.cell_again b) = parts_again r keywords.Library keywords.Cell t f h refl b
library_told r before t f h (stands.many_cells b) = beyond_told r (IsA keywords.Cell) 65536 (cells_in t) f (inside_parts r keywords.Library keywords.Cell t h) (λ u v. told.on_cells refl v) b

-- notes
steps_told : (r : Placed) (libs : List design.Lib) (id : design.CellId) (ts : List Placed) (f : MeaningFault) → ((i : ℕ) (x : Placed) → slice_get ts i ≡ Some x → IsUnder r keywords.Path x) → StepsFault libs id ts f → Told r f
steps_told r libs id [] f h b = absurd b
steps_told r libs id (t ∷ ts) f h (stands.no_step n b) = at_fault r f (At kinds.BadForm (place_of t)) b (t, refl, under_in r keywords.Path t (h 0 t refl))
steps_told r libs id (t ∷ ts) f h (stands.lost_step b) = at_fault r f (At kinds.BadPath b.place) b.fault (t, ap place_of b.is, inr (h 0 t refl))
steps_told r libs id (t ∷ ts) f h (stands.later_step x s b) = steps_told r libs x.of ts f (λ i y e. h (suc i) y e) b

path_told : (r : Placed) (libs : List design.Lib) (top : design.CellId) (t : Placed) (f : MeaningFault) → IsIn r t → IsA keywords.Path t → PathFault libs top t f → Told r f
path_told r libs top t f h w (stands.no_steps k b) = at_fault r f (At kinds.BadPath (place_of t)) b (t, refl, inl (h, w))
path_told r libs top t f h w (stands.bad_step b) = steps_told r libs top (arguments t) f (λ i x e. record { holder = t; inside = h; keyword = w; at = i; there = e }) b

note_told : (r : Placed) (libs : List design.Lib) (top : design.CellId) (t : Placed) (f : MeaningFault) → IsIn r t → NoteFault libs top t f → Told r f
note_told r libs top t f h (stands.note_part b) = fixed_told r bad_form t note_parts (arguments t) f h (λ i x e. (i, e)) (λ u j. (u, refl, told.argument t u j.0 h j.1)) b
note_told r libs top t f h (stands.note_surplus b) = follower_told r bad_form t [] 3 f (λ u j. (u, refl, told.argument t u j.0 h j.1)) b
note_told r libs top t f h (stands.note_path b) = form_told r 1 keywords.Path (PathFault libs top) t f h (λ u i v c. path_told r libs top u f i v c) b
note_told r libs top t f h (stands.note_property b) = form_told r 2 keywords.Property PropertyFault t f h (λ u i v c. property_told r u f i v c) b

noted_key : (r t : Placed) (libs : List design.Lib) (top : design.CellId) (steps : List (List ℕ)) (key : List ℕ) (p : ℕ) → IsIn r t → Notes libs top t steps key p → IsIn r (Word' p key)
noted_key r t libs top steps key p h n = defined_in r n.property key p (told.argument t n.property 2 h n.property_there) n.key_there

notes_told : (r : Placed) (libs : List design.Lib) (t : Placed) (f : MeaningFault) → AreBeforeDesign r libs → IsIn r t → NotesFault libs t f → Told r f
notes_told r libs t f g h (stands.one_note top m b) = among_told r (λ u. is_note (bare u) ≡ true) (NoteFault libs top) (notes_in t) f (inside_followers r is_note keywords.Design t h) (λ u i w c. note_told r libs top u f i c) b
notes_told r libs t f g h (stands.note_again top m b) =
    let w = two_arguments r t (fixed_count (row keywords.Design)) is_note (SameNote libs top f) h b in
    let s = w.5 in
    let T : Placed → Type 0 = λ v. MeansTop libs v top in
    at_fault r f (Clash clashes.Duplicate s.place s.earlier) s.fault
    (s.key, inl (noted_key r w.0 libs top s.steps s.key s.earlier (former_in r w.0 w.1 w.2) s.first), inl (noted_key r w.1 libs top s.steps s.key s.place (latter_in r w.0 w.1 w.2) s.second), told.same_notes w.0 w.1 w.2 w.3 w.4 libs top s.steps g (subst T (sym w.6) m) s.first s.second)

-- the design and the file
design_told : (r : Placed) (libs : List design.Lib) (t : Placed) (f : MeaningFault) → AreBeforeDesign r libs → IsIn r t → IsA keywords.Design t → DesignFault libs t f → Told r f
design_told r libs t f g h w (stands.design_row b) = row_told r keywords.Design t f h w b
design_told r libs t f g h w (stands.design_name b) = name_part r t f h b
design_told r libs t f g h w (stands.design_cell b) = form_told r 1 keywords.CellRef (CellRefFault libs None) t f h (λ u i v c. cell_ref_told r libs None u f i v c) b
design_told r libs t f g h w (stands.design_properties b) = properties_told r keywords.Design t f h b
design_told r libs t f g h w (stands.design_notes b) = notes_told r libs t f g h b
design_told r libs t f g h w (stands.many_notes b) = beyond_told r (λ u. is_note (bare u) ≡ true) 1048576 (notes_in t) f (inside_followers r is_note keywords.Design t h) (λ u v. told.on_notes refl v) b

file_told : (t : Placed) (f : MeaningFault) → IsA keywords.Edif t → FileFault t f → Told t f
file_told t f w (stands.edif_row b) = row_told t keywords.Edif t f told.whole w b
file_told t f w (stands.edif_name b) = name_part t t f told.whole b
file_told t f w (stands.edif_version b) = form_told t 1 keywords.EdifVersion VersionFault t f told.whole (λ u i v c. version_told t u f i v c) b
file_told t f w (stands.edif_level b) = form_told t 2 keywords.EdifLevel (LevelFault keywords.EdifLevel) t f told.whole (λ u i v c. edif_level_told t u f i v c) b
file_told t f w (stands.edif_map b) = form_told t 3 keywords.KeywordMap MapFault t f told.whole (λ u i v c. map_told t u f i v c) b
file_told t f w (stands.edif_library b) = after_told t (λ u. is_library (bare u) ≡ true) MeansLibrary LibraryFault [] (libraries (followers keywords.Edif t)) f (inside_followers t is_library keywords.Edif t told.whole) (λ before u i v c. library_told t before u f i c) b
file_told t f w (stands.library_again b) = repeats_told t t (fixed_count (row keywords.Edif)) is_library f told.whole (λ a b x y. inr (x, y)) b
file_told t f w (stands.many_libraries b) = beyond_told t (λ u. is_library (bare u) ≡ true) 1024 (libraries (followers keywords.Edif t)) f (inside_followers t is_library keywords.Edif t told.whole) (λ u v. told.on_libraries refl v) b
file_told t f w (stands.edif_design b) = let v = inside_parts t keywords.Edif keywords.Design t told.whole 0 b.first b.there in design_told t b.libs b.first f b.means v.0 v.1 b.fault

outside_told : (t : Placed) → has_keyword keywords.Edif (bare t) ≡ false → Told t (misplaced kinds.BadForm file_row t)
outside_told (Form' p (More (Word' q name) ts)) e = go (row_has file_row (bare (Form' p (More (Word' q name) ts))))
  where
    go : (b : Bool) → Told (Form' p (More (Word' q name) ts)) (cond b (At kinds.BadForm p) (NotInProfile name p))
    go true = (Form' p (More (Word' q name) ts), refl, told.whole)
    go false = told.no_file q ts refl e
outside_told (Form' p (More (Form' q us) ts)) e = (Form' p (More (Form' q us) ts), refl, told.whole)
outside_told (Form' p (More (Integer' q z) ts)) e = (Form' p (More (Integer' q z) ts), refl, told.whole)
outside_told (Form' p (More (String' q z) ts)) e = (Form' p (More (String' q z) ts), refl, told.whole)
outside_told (Form' p End) e = (Form' p End, refl, told.whole)
outside_told (Word' p w) e = (Word' p w, refl, told.whole)
outside_told (Integer' p z) e = (Integer' p z, refl, told.whole)
outside_told (String' p z) e = (String' p z, refl, told.whole)

-- A fault that stands tells of what is there.
pub stands_told : (t : Placed) (f : MeaningFault) → Stands t f → Told t f
stands_told t f (stands.no_file e b) = at_fault t f (misplaced kinds.BadForm file_row t) b (outside_told t e)
stands_told t f (stands.in_file w b) = file_told t f w b
