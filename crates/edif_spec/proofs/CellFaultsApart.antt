-- No fault stands in a form that means something: contents, views and cells.
use Rattle.std.proofs.Common.{◌≡◌, ℕ, ◌≤◌, List, [], ◌∷◌, map, length, refl, ap, sym, ◌∙◌, subst, inl, inr, true, Option, Some, None, arith, map-id}
use Rattle.std.specs.Prelude.{IfSome}
use Rattle.std.specs.List.{AllZip, AllByRecursion, All, flat_map}
use Rattle.std.proofs.lemmas.List.Elements.{recursion_from_All}
use Rattle.std.proofs.lemmas.List.{length-map}
use Rattle.netlist_schema.specs.Design.{insts_of, ends_of}
use Rattle.netlist_schema.specs.Design as schema
use Rattle.netlist_schema.specs.Limits.{IsCellWithinLimits}
use Rattle.netlist_schema.specs.Names.{AreDistinct, HasDistinctKeys, HasDistinctNamesInCell}
use Rattle.edif_spelling_spec.specs.Tree.{Bare, Placed, word, bare}
use Rattle.edif_spec.specs.Keyword.{same}
use Rattle.edif_spec.specs.Rows.{those, Each, Just}
use Rattle.edif_spec.specs.Canonical.{kind_word}
use Rattle.edif_spec.specs.Means.{MeansName, MeansPort, MeansInterface, MeansInst, MeansNet, MeansContents, IsNetlist, MeansView, MeansKind, MeansCell}
use Rattle.edif_spec.specs.Faults.{AtTwo, parts, Among, SameOfTwo, declared_width, repeated}
use Rattle.edif_spec.specs.Stands.{ports_in, InstFault, NetFault, NetShapeFault, MeansRowEnd, counted_ends, insts_in, net_names_in, nets_in, row_ends, SameEnd, ContentsFault, is_netlist, TypeFault, ViewFault, is_cell_type, CellTypeFault, CellFault}
use Rattle.edif_spec.specs.Stands as stands
use Rattle.edif_spec.specs.Design as design
use Rattle.edif_spec.specs.Nets.{NetForm, end_of, nets_of}
use Rattle.edif_spec.specs.declared.keyword.Keyword.TheVariants as keywords
use Rattle.edif_spec.specs.declared.fault.Kind.TheVariants.{BadForm, NotNetlist}
use Rattle.edif_spec.specs.declared.fault.MeaningFault.{MeaningFault}
use Rattle.netlist_schema.specs.declared.cell.CellKind.TheVariants as kinds
use Rattle.netlist_schema.proofs.Lists.{zip_length}
use Rattle.edif_spec.proofs.Once.{each_once, port_once}
use Rattle.edif_spec.proofs.OnceFile.{inst_once, end_once}
use Rattle.edif_spec.proofs.FaultForms.{part_is, parts_are, row_apart, each_apart, perhaps_apart, just_apart, each_length, beyond_apart, each_with, IsNamed, repeats_apart, two_apart, differ, Differ}
pub use Rattle.edif_spec.proofs.NetFaultsApart.{dangles_apart, library_ref_apart, cell_ref_apart, view_ref_apart, inst_apart, inst_named, all_kept, net_apart, net_named, net_declares, joined_ends, ends_of_form, net_ends, net_shape_apart, zip_flat}
use Rattle.edif_spec.proofs.RowForms.{GivesName, ends_counted, keys_of_rows, net_names_are, nets_counted, row_ends_of}
use Rattle.edif_spec.proofs.FaultsApart.{name_apart, properties_apart, word_apart, three, form_named, interface_apart, FineInterface}

-- what contents owe to the validity of their cell
pub record FineContents (c : design.Contents) : Type 0 where
  pub insts : length c.insts ≤ 1048576
  pub nets : length c.nets ≤ 1048576
  pub ends : length (flat_map (λ (n : design.Net). n.ends) c.nets) ≤ 4194304
  pub inst_names : AreDistinct (map (λ (i : design.Inst). i.name.id) c.insts)
  pub net_names : AreDistinct (map (λ (n : design.Net). n.name.id) c.nets)
  pub inst_keys : AllByRecursion (λ (i : design.Inst). HasDistinctKeys i.properties) c.insts
  pub net_keys : AllByRecursion (λ (n : design.Net). HasDistinctKeys n.properties) c.nets
  pub joined_once : AreDistinct (flat_map (λ (n : design.Net). n.ends) c.nets)

row_end_once : (libs : List design.Lib) (ports : List design.Port) (insts : List design.Inst) (a : Placed × ℕ × ℕ) (x y : design.End) → MeansRowEnd libs ports insts a x → MeansRowEnd libs ports insts a y → x ≡ y
row_end_once libs ports insts a x y h k = h.3 ∙ (ap (end_of a.1) (end_once libs ports insts (bare a.0) h.0 k.0 h.1 k.1) ∙ sym k.3)

same_end : (libs : List design.Lib) (ports : List design.Port) (insts : List design.Inst) (f : MeaningFault) (a b : Placed × ℕ × ℕ) (x y : design.End) → MeansRowEnd libs ports insts a x → MeansRowEnd libs ports insts b y → SameEnd libs ports insts f a b → x ≡ y
same_end libs ports insts f a b x y h k s = row_end_once libs ports insts a x s.0 h s.1 ∙ sym (row_end_once libs ports insts b y s.0 k s.2)

same_name_of_two : (f : MeaningFault) (a b : List ℕ × ℕ) (x y : List ℕ) → a.0 ≡ x → b.0 ≡ y → SameOfTwo f a b → x ≡ y
same_name_of_two f a b x y h k s = sym h ∙ (s.0 ∙ k)

contents_apart : (libs : List design.Lib) (own : Option ℕ) (ports : List design.Port) (t : Placed) (c : design.Contents) (f : MeaningFault) → MeansContents libs own ports (bare t) c → FineContents c → ContentsFault libs own ports t f → ⊥
contents_apart libs own ports t c f h v b =
    let e : map bare (insts_in t) ≡ those keywords.Instance h.inner = parts_are keywords.Contents keywords.Instance t [] h.inner h.form in
    let d : map bare (nets_in t) ≡ those keywords.Net h.inner = parts_are keywords.Contents keywords.Net t [] h.inner h.form in
    let l : length (insts_in t) ≡ length c.insts = sym (length-map (insts_in t) bare) ∙ (ap length e ∙ each_length (MeansInst libs own) (those keywords.Instance h.inner) c.insts h.insts) in
    let rows : AllZip (λ u n. MeansNet libs ports c.insts (bare u) n) (nets_in t) h.rows = each_with (MeansNet libs ports c.insts) (λ u n. MeansNet libs ports c.insts (bare u) n) (λ u n k. k) (nets_in t) (those keywords.Net h.inner) h.rows d h.written in
    let m : length (repeated declared_width (nets_in t)) ≡ length c.nets = nets_counted libs ports c.insts (nets_in t) h.rows rows ∙ ap length (sym h.nets) in
    let P : List design.Net → Type 0 = λ v. AllZip GivesName (flat_map net_names_in (nets_in t)) v in
    let names : AllZip GivesName (flat_map net_names_in (nets_in t)) c.nets =
    subst P (sym h.nets) (zip_flat (λ u n. MeansNet libs ports c.insts (bare u) n) GivesName net_names_in nets_of (net_names_are libs ports c.insts) (nets_in t) h.rows rows) in
    let Q : List design.Net → Type 0 = λ v. AllZip (MeansRowEnd libs ports c.insts) (flat_map row_ends (nets_in t)) (flat_map (λ (n : design.Net). n.ends) v) in
    let ends : AllZip (MeansRowEnd libs ports c.insts) (flat_map row_ends (nets_in t)) (flat_map (λ (n : design.Net). n.ends) c.nets) =
    subst Q (sym h.nets) (row_ends_of libs ports c.insts (nets_in t) h.rows rows) in
    let R : List design.Net → Type 0 = λ v. AllByRecursion (λ (n : design.Net). HasDistinctKeys n.properties) v in
    let keys = keys_of_rows libs ports c.insts (those keywords.Net h.inner) h.rows h.written (subst R h.nets v.net_keys) in
    go e d l m names ends keys b
  where
    go : map bare (insts_in t) ≡ those keywords.Instance h.inner → map bare (nets_in t) ≡ those keywords.Net h.inner → length (insts_in t) ≡ length c.insts → length (repeated declared_width (nets_in t)) ≡ length c.nets
        → AllZip GivesName (flat_map net_names_in (nets_in t)) c.nets → AllZip (MeansRowEnd libs ports c.insts) (flat_map row_ends (nets_in t)) (flat_map (λ (n : design.Net). n.ends) c.nets) → AllByRecursion (λ (n : NetForm). HasDistinctKeys n.properties) h.rows → ContentsFault libs own ports t f → ⊥
    go e d l m names ends keys (stands.contents_row b) = row_apart keywords.Contents t [] h.inner f h.form b
    go e d l m names ends keys (stands.contents_inst b) = each_apart (MeansInst libs own) (λ (i : design.Inst). HasDistinctKeys i.properties) (InstFault libs own) f (λ u i k q r. inst_apart libs own u i f k q r) (insts_in t) (those keywords.Instance h.inner) c.insts e h.insts v.inst_keys b
    go e d l m names ends keys (stands.contents_net_shape b) = each_apart (MeansNet libs ports c.insts) (λ (n : NetForm). HasDistinctKeys n.properties) NetShapeFault f (λ u n q r s. net_shape_apart libs ports c.insts u n f q r s) (nets_in t) (those keywords.Net h.inner) h.rows d h.written keys b
    go e d l m names ends keys (stands.contents_nets (stands.one_net is g b)) =
        let P : List Bare → Type 0 = λ w. Each (MeansInst libs own) w c.insts in
        let i : is ≡ c.insts = each_once (MeansInst libs own) (inst_once libs own) (map bare (insts_in t)) is c.insts g (subst P (sym e) h.insts) in
        each_apart (MeansNet libs ports c.insts) (λ (n : NetForm). HasDistinctKeys n.properties) (NetFault libs ports c.insts) f (λ u n q r s. net_apart libs ports c.insts u n f q r s) (nets_in t) (those keywords.Net h.inner) h.rows d h.written keys (subst (λ w. Among (NetFault libs ports w) (nets_in t) f) i b)
    go e d l m names ends keys (stands.contents_nets (stands.end_again is g b)) =
        let P : List Bare → Type 0 = λ w. Each (MeansInst libs own) w c.insts in
        let i : is ≡ c.insts = each_once (MeansInst libs own) (inst_once libs own) (map bare (insts_in t)) is c.insts g (subst P (sym e) h.insts) in
        two_apart (MeansRowEnd libs ports c.insts) (SameEnd libs ports c.insts f) (λ x. x) (same_end libs ports c.insts f) (flat_map row_ends (nets_in t)) (flat_map (λ (n : design.Net). n.ends) c.nets) ends
        (subst Differ (sym (map-id (flat_map (λ (n : design.Net). n.ends) c.nets))) (differ (flat_map (λ (n : design.Net). n.ends) c.nets) v.joined_once)) (subst (λ w. AtTwo (SameEnd libs ports w f) (flat_map row_ends (nets_in t))) i b)
    go e d l m names ends keys (stands.inst_again b) = repeats_apart (λ (i : design.Inst). i.name.id) f (insts_in t) c.insts (each_with (MeansInst libs own) (λ u i. IsNamed u i.name.id) (inst_named libs own) (insts_in t) (those keywords.Instance h.inner) c.insts e h.insts) v.inst_names b
    go e d l m names ends keys (stands.net_again b) = two_apart (λ a x. a.0 ≡ x) (SameOfTwo f) (λ (n : design.Net). n.name.id) (same_name_of_two f) (flat_map net_names_in (nets_in t)) c.nets names (differ (map (λ (n : design.Net). n.name.id) c.nets) v.net_names) b
    go e d l m names ends keys (stands.many_insts b) = let k : length c.insts ≤ 1048576 = v.insts in beyond_apart 1048576 (insts_in t) f (omega (arith, l, k)) b
    go e d l m names ends keys (stands.many_nets b) = let k : length c.nets ≤ 1048576 = v.nets in beyond_apart 1048576 (repeated declared_width (nets_in t)) f (omega (arith, m, k)) b
    go e d l m names ends keys (stands.many_ends b) =
        let n = zip_length (MeansRowEnd libs ports c.insts) (flat_map row_ends (nets_in t)) (flat_map (λ (n : design.Net). n.ends) c.nets) ends in
        let o = ends_counted (nets_in t) in
        let k : length (flat_map (λ (n : design.Net). n.ends) c.nets) ≤ 4194304 = v.ends in beyond_apart 4194304 (flat_map counted_ends (nets_in t)) f (omega (arith, n, o, k)) b

-- views and cells
type_apart : (t : Placed) (f : MeaningFault) → IsNetlist (bare t) → TypeFault t f → ⊥
type_apart t f h (stands.view_type_row b) = row_apart keywords.ViewType t (word h.0 ∷ []) [] f h.1 b
type_apart t f h (stands.other_view_type b) = word_apart is_netlist NotNetlist b.0 h.0 f (part_is keywords.ViewType t (word h.0 ∷ []) [] 0 b.0 (word h.0) h.1 b.1 refl) h.2 b.2

kind_fine : (w : List ℕ) (k : design.CellKind) → same w (kind_word k) ≡ true → is_cell_type w ≡ true
kind_fine w kinds.Generic e = three w (kind_word kinds.Generic) (kind_word kinds.Tie) (kind_word kinds.Ripper) (inl e)
kind_fine w kinds.Tie e = three w (kind_word kinds.Generic) (kind_word kinds.Tie) (kind_word kinds.Ripper) (inr (inl e))
kind_fine w kinds.Ripper e = three w (kind_word kinds.Generic) (kind_word kinds.Tie) (kind_word kinds.Ripper) (inr (inr e))

kind_apart : (t : Placed) (k : design.CellKind) (f : MeaningFault) → MeansKind (bare t) k → CellTypeFault t f → ⊥
kind_apart t k f h (stands.cell_type_row b) = row_apart keywords.CellType t (word h.0 ∷ []) [] f h.1 b
kind_apart t k f h (stands.other_cell_type b) = word_apart is_cell_type BadForm b.0 h.0 f (part_is keywords.CellType t (word h.0 ∷ []) [] 0 b.0 (word h.0) h.1 b.1 refl) (kind_fine h.0 k h.2) b.2

-- what a cell owes to the validity of its design
pub record FineCell (c : design.CellBody) : Type 0 where
  pub limits : IsCellWithinLimits c
  pub names : HasDistinctNamesInCell c
  pub joined_once : AreDistinct (ends_of c)

fine_interface : (c : design.CellBody) → FineCell c → FineInterface c
fine_interface c v = record {
  ports = v.limits.ports;
  bits = v.limits.bits;
  names = v.names.ports;
  keys = v.names.interface_properties;
  port_keys = recursion_from_All (λ (p : design.Port). HasDistinctKeys p.properties) c.ports v.names.port_properties;
}

fine_contents : (c : design.CellBody) (o : Option design.Contents) → c.contents ≡ o → FineCell c → IfSome o FineContents
fine_contents c None e v = tt
fine_contents c (Some x) e v =
    let insts : insts_of c ≡ x.insts = ap schema.insts_in e in
    let nets : schema.nets_of c ≡ x.nets = ap schema.nets_in e in
    let ends : ends_of c ≡ flat_map (λ (n : design.Net). n.ends) x.nets = ap (flat_map (λ (n : design.Net). n.ends)) nets in
    record {
      insts = subst (λ (l : List design.Inst). length l ≤ 1048576) insts v.limits.insts;
      nets = subst (λ (l : List design.Net). length l ≤ 1048576) nets v.limits.nets;
      ends = subst (λ (l : List design.End). length l ≤ 4194304) ends v.limits.ends;
      inst_names = subst (λ (l : List design.Inst). AreDistinct (map (λ (i : design.Inst). i.name.id) l)) insts v.names.insts;
      net_names = subst (λ (l : List design.Net). AreDistinct (map (λ (i : design.Net). i.name.id) l)) nets v.names.nets;
      inst_keys = recursion_from_All (λ (i : design.Inst). HasDistinctKeys i.properties) x.insts (subst (λ (l : List design.Inst). All (λ (i : design.Inst). HasDistinctKeys i.properties) l) insts v.names.inst_properties);
      net_keys = recursion_from_All (λ (i : design.Net). HasDistinctKeys i.properties) x.nets (subst (λ (l : List design.Net). All (λ (i : design.Net). HasDistinctKeys i.properties) l) nets v.names.net_properties);
      joined_once = subst (λ (l : List design.End). AreDistinct l) ends v.joined_once;
    }

view_apart : (libs : List design.Lib) (own : Option ℕ) (t : Placed) (c : design.CellBody) (f : MeaningFault) → MeansView libs own (bare t) c → FineCell c → ViewFault libs own t f → ⊥
view_apart libs own t c f h v (stands.view_row b) = row_apart keywords.View t (h.name_part ∷ h.type_part ∷ h.interface_part ∷ []) h.inner f h.form b
view_apart libs own t c f h v (stands.view_name b) = name_apart b.0 c.view f (subst (λ u. MeansName u c.view) (sym (part_is keywords.View t (h.name_part ∷ h.type_part ∷ h.interface_part ∷ []) h.inner 0 b.0 h.name_part h.form b.1 refl)) h.name) b.2
view_apart libs own t c f h v (stands.view_type b) = type_apart b.0 f (subst IsNetlist (sym (part_is keywords.View t (h.name_part ∷ h.type_part ∷ h.interface_part ∷ []) h.inner 1 b.0 h.type_part h.form b.1 refl)) h.netlist) b.3
view_apart libs own t c f h v (stands.view_interface b) = interface_apart b.0 c f (subst (λ u. MeansInterface u c) (sym (part_is keywords.View t (h.name_part ∷ h.type_part ∷ h.interface_part ∷ []) h.inner 2 b.0 h.interface_part h.form b.1 refl)) h.interface) (fine_interface c v) b.3
view_apart libs own t c f h v (stands.view_contents b) =
    let i = subst (λ u. MeansInterface u c) (sym (part_is keywords.View t (h.name_part ∷ h.type_part ∷ h.interface_part ∷ []) h.inner 2 b.interface h.interface_part h.form b.there refl)) h.interface in
    let e = parts_are keywords.Interface keywords.Port b.interface [] i.inner i.form in
    let P : List Bare → Type 0 = λ w. Each MeansPort w c.ports in
    let p : b.ports ≡ c.ports = each_once MeansPort port_once (map bare (ports_in b.interface)) b.ports c.ports b.means (subst P (sym e) i.ports) in
    let Q : List design.Port → Type 0 = λ w. Among (ContentsFault libs own w) (parts keywords.View keywords.Contents t) f in
    perhaps_apart (MeansContents libs own c.ports) FineContents (ContentsFault libs own c.ports) f (λ u x m q k. contents_apart libs own c.ports u x f m q k) (parts keywords.View keywords.Contents t) (those keywords.Contents h.inner) c.contents
    (parts_are keywords.View keywords.Contents t (h.name_part ∷ h.type_part ∷ h.interface_part ∷ []) h.inner h.form) h.contents (fine_contents c c.contents refl v) (subst Q p b.fault)
view_apart libs own t c f h v (stands.view_properties b) = properties_apart (parts keywords.View keywords.Property t) (those keywords.Property h.inner) c.view_properties f (parts_are keywords.View keywords.Property t (h.name_part ∷ h.type_part ∷ h.interface_part ∷ []) h.inner h.form) h.properties v.names.view_properties b

no_view : (libs : List design.Lib) (own : Option ℕ) (ts : List Bare) (c : design.CellBody) → ts ≡ [] → Just (λ v b. MeansView libs own v b) ts c → ⊥
no_view libs own [] c e h = h
no_view libs own (t ∷ ts) c e h = absurd (cc e)

pub cell_apart : (libs : List design.Lib) (own : Option ℕ) (t : Placed) (c : design.CellBody) (f : MeaningFault) → MeansCell libs own (bare t) c → FineCell c → CellFault libs own t f → ⊥
cell_apart libs own t c f h v (stands.cell_row b) = row_apart keywords.Cell t (h.name_part ∷ h.kind_part ∷ []) h.inner f h.form b
cell_apart libs own t c f h v (stands.cell_name b) = name_apart b.0 c.name f (subst (λ u. MeansName u c.name) (sym (part_is keywords.Cell t (h.name_part ∷ h.kind_part ∷ []) h.inner 0 b.0 h.name_part h.form b.1 refl)) h.name) b.2
cell_apart libs own t c f h v (stands.cell_type b) = kind_apart b.0 c.kind f (subst (λ u. MeansKind u c.kind) (sym (part_is keywords.Cell t (h.name_part ∷ h.kind_part ∷ []) h.inner 1 b.0 h.kind_part h.form b.1 refl)) h.kind) b.3
cell_apart libs own t c f h v (stands.cell_view b) = just_apart (λ w x. MeansView libs own w x) (ViewFault libs own) f c (λ u m k. view_apart libs own u c f m v k) (parts keywords.Cell keywords.View t) (those keywords.View h.inner) (parts_are keywords.Cell keywords.View t (h.name_part ∷ h.kind_part ∷ []) h.inner h.form) h.view b
cell_apart libs own t c f h v (stands.without_view k b) = no_view libs own (those keywords.View h.inner) c (sym (parts_are keywords.Cell keywords.View t (h.name_part ∷ h.kind_part ∷ []) h.inner h.form) ∙ ap (map bare) k) h.view
cell_apart libs own t c f h v (stands.cell_properties b) = properties_apart (parts keywords.Cell keywords.Property t) (those keywords.Property h.inner) c.properties f (parts_are keywords.Cell keywords.Property t (h.name_part ∷ h.kind_part ∷ []) h.inner h.form) h.properties v.names.properties b

pub cell_named : (libs : List design.Lib) (own : Option ℕ) (t : Placed) (c : design.CellBody) → MeansCell libs own (bare t) c → IsNamed t c.name.id
cell_named libs own t c h = form_named keywords.Cell t h.name_part (h.kind_part ∷ []) h.inner c.name h.form h.name
