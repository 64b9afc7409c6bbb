-- No fault stands in a form that means something: references, instances and nets.
use Rattle.std.proofs.Common.{◌≡◌, ℕ, ◌<◌, pos, List, [], ◌∷◌, ◌++◌, map, refl, ap, sym, ◌∙◌, subst, inl, inr, Bool, true, false, Option, Some, None}
use Rattle.std.specs.Prelude.{IsTrue, cond, IfSome}
use Rattle.std.specs.List.{AllZip, AllByRecursion, flat_map, list_all}
use Rattle.netlist_schema.specs.Names.{HasDistinctKeys}
use Rattle.edif_spelling_spec.specs.Tree.{Bare, Placed, Word', Integer', word, integer, bare}
use Rattle.edif_spec.proofs.KnownForms.{only}
use Rattle.edif_spec.specs.Keyword.{Many}
use Rattle.edif_spec.specs.Rows.{has_keyword, those, is_follower, IsFormOf, Each, Perhaps}
use Rattle.edif_spec.specs.Canonical.{ports_of_end}
use Rattle.edif_spec.specs.Means.{meant, Found, Absent, Several, width_at, MeansName, MeansLibraryRef, MeansCellRef, MeansViewRef, MeansInst, MeansBusName, MeansInstRef, MeansBits, MeansEnd, MeansNet}
use Rattle.edif_spec.specs.Faults.{parts, Among, RowFault, declared_width, first_width}
use Rattle.edif_spec.specs.Stands.{Dangles, LibraryRefFault, CellRefFault, ViewRefFault, InstFault, InstRefFault, BitFault, EndFault, WidthFault, NetFault, MemberShapeFault, EndShapeFault, NetShapeFault, ends_joined, ends_in, JoinedFault, JoinedShapeFault}
use Rattle.edif_spec.specs.Stands as stands
use Rattle.edif_spec.specs.Design as design
use Rattle.edif_spec.specs.Nets.{NetForm, Stretch, row_size}
use Rattle.edif_spec.specs.declared.keyword.Keyword.{Keyword}
use Rattle.edif_spec.specs.declared.keyword.Keyword.TheVariants as keywords
use Rattle.edif_spec.specs.declared.fault.MeaningFault.{MeaningFault}
use Rattle.edif_spec.proofs.Both.{both}
use Rattle.edif_spec.proofs.Once.{perhaps_once, word_no_form, port_name_once}
use Rattle.edif_spec.proofs.OnceFile.{library_ref_once, cell_ref_once, inst_ref_once, end_once}
use Rattle.edif_spec.proofs.FaultForms.{part_is, part_there, parts_are, row_apart, each_apart, perhaps_apart, each_with, IsNamed}
use Rattle.edif_spec.proofs.FaultsApart.{defined_bus, net_may, keyword_of, word_no_keyword, name_apart, name_width, port_name_apart, port_name_named, texts_apart, properties_apart, form_named, free_all}

-- references
pub dangles_apart : (scope : List (List ℕ)) (u : Placed) (w : List ℕ) (i : ℕ) (f : MeaningFault) → bare u ≡ word w → meant scope w ≡ Found i → Dangles scope u f → ⊥
dangles_apart scope u w i f e m b =
    let d : word b.0 ≡ word w = sym (ap bare b.2) ∙ e in let c : b.0 ≡ w = cc d in
    let n : meant scope b.0 ≡ Found i = ap (meant scope) c ∙ m in
    elim (b.3) [ inl x ↦ (let q : Found i ≡ Absent = sym n ∙ x.0 in absurd (cc q)) | inr x ↦ (let q : Found i ≡ Several = sym n ∙ x.0 in absurd (cc q)) ]

pub library_ref_apart : (libs : List design.Lib) (own : Option ℕ) (ts : List Placed) (bs : List Bare) (l : ℕ) (f : MeaningFault) → map bare ts ≡ bs → MeansLibraryRef libs own bs l → Among (LibraryRefFault libs) ts f → ⊥
library_ref_apart libs own [] bs l f e h b = b
library_ref_apart libs own (t ∷ ts) [] l f e h b = absurd (cc e)
library_ref_apart libs own (t ∷ s ∷ ts) (u ∷ []) l f e h b = absurd (cc e)
library_ref_apart libs own (t ∷ []) (u ∷ []) l f e h (inr b) = b
library_ref_apart libs own (t ∷ ts) (u ∷ v ∷ bs) l f e h b = absurd h
library_ref_apart libs own (t ∷ []) (u ∷ []) l f e h (inl b) =
    let w : bare t ≡ u = cc e in
    let k : IsFormOf keywords.LibraryRef (bare t) (word h.0 ∷ []) [] = subst (λ v. IsFormOf keywords.LibraryRef v (word h.0 ∷ []) []) (sym w) h.1 in
    go k b
  where
    go : IsFormOf keywords.LibraryRef (bare t) (word h.0 ∷ []) [] → LibraryRefFault libs t f → ⊥
    go k (stands.library_ref_row b) = row_apart keywords.LibraryRef t (word h.0 ∷ []) [] f k b
    go k (stands.library_ref_name b) = dangles_apart (design.lib_ids libs) b.0 h.0 l f (part_is keywords.LibraryRef t (word h.0 ∷ []) [] 0 b.0 (word h.0) k b.1 refl) h.2 b.2

no_own : (libs : List design.Lib) (bs : List Bare) (l : ℕ) → bs ≡ [] → MeansLibraryRef libs None bs l → ⊥
no_own libs [] l e h = let w : None ≡ Some l = h in absurd (cc w)
no_own libs (u ∷ bs) l e h = absurd (cc e)

pub cell_ref_apart : (libs : List design.Lib) (own : Option ℕ) (t : Placed) (id : design.CellId) (f : MeaningFault) → MeansCellRef libs own (bare t) id → CellRefFault libs own t f → ⊥
cell_ref_apart libs own t id f h (stands.cell_ref_row b) = row_apart keywords.CellRef t (word h.spelled ∷ []) h.inner f h.form b
cell_ref_apart libs own t id f h (stands.cell_ref_library b) = library_ref_apart libs own (parts keywords.CellRef keywords.LibraryRef t) (those keywords.LibraryRef h.inner) id.lib.0 f (parts_are keywords.CellRef keywords.LibraryRef t (word h.spelled ∷ []) h.inner h.form) h.lib b
cell_ref_apart libs own t id f h (stands.cell_ref_name l k b) =
    let e = parts_are keywords.CellRef keywords.LibraryRef t (word h.spelled ∷ []) h.inner h.form in
    let P : List Bare → Type 0 = λ v. MeansLibraryRef libs own v id.lib.0 in
    let same_lib : l ≡ id.lib.0 = library_ref_once libs own (map bare (parts keywords.CellRef keywords.LibraryRef t)) l id.lib.0 k (subst P (sym e) h.lib) in
    dangles_apart (design.cell_ids libs l) b.0 h.spelled id.slot f (part_is keywords.CellRef t (word h.spelled ∷ []) h.inner 0 b.0 (word h.spelled) h.form b.1 refl) (ap (λ n. meant (design.cell_ids libs n) h.spelled) same_lib ∙ h.cell) b.2
cell_ref_apart libs own t id f h (stands.cell_ref_alone l k b) =
    let e = parts_are keywords.CellRef keywords.LibraryRef t (word h.spelled ∷ []) h.inner h.form in
    let P : Option ℕ → Type 0 = λ o. MeansLibraryRef libs o (those keywords.LibraryRef h.inner) id.lib.0 in
    no_own libs (those keywords.LibraryRef h.inner) id.lib.0 (sym e ∙ ap (map bare) k) (subst P l h.lib)

pub view_ref_apart : (libs : List design.Lib) (own : Option ℕ) (t : Placed) (id : design.CellId) (f : MeaningFault) → MeansViewRef libs own (bare t) id → ViewRefFault libs own t f → ⊥
view_ref_apart libs own t id f h (stands.view_ref_row b) = row_apart keywords.ViewRef t (word h.spelled ∷ h.cell_part ∷ []) [] f h.form b
view_ref_apart libs own t id f h (stands.view_ref_cell b) = cell_ref_apart libs own b.0 id f (subst (λ v. MeansCellRef libs own v id) (sym (part_is keywords.ViewRef t (word h.spelled ∷ h.cell_part ∷ []) [] 1 b.0 h.cell_part h.form b.1 refl)) h.cell) b.3
view_ref_apart libs own t id f h (stands.view_ref_name u other g k b) =
    let m = subst (λ v. MeansCellRef libs own v id) (sym (part_is keywords.ViewRef t (word h.spelled ∷ h.cell_part ∷ []) [] 1 u h.cell_part h.form g refl)) h.cell in
    let i : other ≡ id = cell_ref_once libs own (bare u) other id k m in
    let P : design.CellId → Type 0 = λ v. meant (design.view_id libs v ∷ []) h.spelled ≡ Found 0 in
    dangles_apart (design.view_id libs other ∷ []) b.0 h.spelled 0 f (part_is keywords.ViewRef t (word h.spelled ∷ h.cell_part ∷ []) [] 0 b.0 (word h.spelled) h.form b.1 refl) (subst P (sym i) h.view) b.2

pub inst_apart : (libs : List design.Lib) (own : Option ℕ) (t : Placed) (x : design.Inst) (f : MeaningFault) → MeansInst libs own (bare t) x → HasDistinctKeys x.properties → InstFault libs own t f → ⊥
inst_apart libs own t x f h d (stands.inst_row b) = row_apart keywords.Instance t (h.name_part ∷ h.view_part ∷ []) h.inner f h.form b
inst_apart libs own t x f h d (stands.inst_name b) = name_apart b.0 x.name f (subst (λ v. MeansName v x.name) (sym (part_is keywords.Instance t (h.name_part ∷ h.view_part ∷ []) h.inner 0 b.0 h.name_part h.form b.1 refl)) h.name) b.2
inst_apart libs own t x f h d (stands.inst_view b) = view_ref_apart libs own b.0 x.of f (subst (λ v. MeansViewRef libs own v x.of) (sym (part_is keywords.Instance t (h.name_part ∷ h.view_part ∷ []) h.inner 1 b.0 h.view_part h.form b.1 refl)) h.of) b.3
inst_apart libs own t x f h d (stands.inst_designator b) = texts_apart keywords.Designator (parts keywords.Instance keywords.Designator t) (those keywords.Designator h.inner) x.designator f (parts_are keywords.Instance keywords.Designator t (h.name_part ∷ h.view_part ∷ []) h.inner h.form) h.designator b
inst_apart libs own t x f h d (stands.inst_properties b) = properties_apart (parts keywords.Instance keywords.Property t) (those keywords.Property h.inner) x.properties f (parts_are keywords.Instance keywords.Property t (h.name_part ∷ h.view_part ∷ []) h.inner h.form) h.properties d b

pub inst_named : (libs : List design.Lib) (own : Option ℕ) (t : Placed) (x : design.Inst) → MeansInst libs own (bare t) x → IsNamed t x.name.id
inst_named libs own t x h = form_named keywords.Instance t h.name_part (h.view_part ∷ []) h.inner x.name h.form h.name

-- ends
inst_ref_apart : (insts : List design.Inst) (t : Placed) (i : ℕ) (f : MeaningFault) → MeansInstRef insts (bare t) i → InstRefFault insts t f → ⊥
inst_ref_apart insts t i f h (stands.inst_ref_row b) = row_apart keywords.InstanceRef t (word h.0 ∷ []) [] f h.1 b
inst_ref_apart insts t i f h (stands.inst_ref_name b) = dangles_apart (design.inst_ids insts) b.0 h.0 i f (part_is keywords.InstanceRef t (word h.0 ∷ []) [] 0 b.0 (word h.0) h.1 b.1 refl) h.2 b.2

found_same : (i j : ℕ) → Found i ≡ Found j → i ≡ j
found_same i j e = cc e

bits_apart : (ports : List design.Port) (t : Placed) (p n v : ℕ) (f : MeaningFault) → MeansBits ports (bare t) p n v → BitFault ports t f → ⊥
bits_apart ports t p n v f (inl h) (stands.bit_port b) = dangles_apart (design.port_ids ports) t h.0 p f h.1 h.2 b
bits_apart ports t p n v f (inl h) (stands.member_row k b) = word_no_keyword keywords.Member (bare t) h.0 h.1 k
bits_apart ports t p n v f (inl h) (stands.member_port k b) = word_no_keyword keywords.Member (bare t) h.0 h.1 k
bits_apart ports t p n v f (inl h) (stands.member_index k b) = word_no_keyword keywords.Member (bare t) h.0 h.1 k
bits_apart ports t p n v f (inr h) (stands.bit_port b) = word_no_form keywords.Member (bare t) b.0 (word h.0 ∷ integer (pos n) ∷ []) [] (ap bare b.2) h.1
bits_apart ports t p n v f (inr h) (stands.member_row k c) = row_apart keywords.Member t (word h.0 ∷ integer (pos n) ∷ []) [] f h.1 c
bits_apart ports t p n v f (inr h) (stands.member_port k c) = dangles_apart (design.port_ids ports) c.0 h.0 p f (part_is keywords.Member t (word h.0 ∷ integer (pos n) ∷ []) [] 0 c.0 (word h.0) h.1 c.1 refl) h.2 c.2
bits_apart ports t p n v f (inr h) (stands.member_index k c) =
    let d : word c.spelled ≡ word h.0 = part_is keywords.Member t (word h.0 ∷ integer (pos n) ∷ []) [] 0 (Word' c.named c.spelled) (word h.0) h.1 c.name_there refl in let q : c.spelled ≡ h.0 = cc d in
    let i : c.port ≡ p = found_same c.port p (sym c.means ∙ (ap (meant (design.port_ids ports)) q ∙ h.2)) in
    let e : integer c.index ≡ integer (pos n) = part_is keywords.Member t (word h.0 ∷ integer (pos n) ∷ []) [] 1 (Integer' c.place c.index) (integer (pos n)) h.1 c.index_there refl in let z : c.index ≡ pos n = cc e in
    let P : ℕ → Type 0 = λ x. n < width_at ports x in
    c.beyond n z (subst P (sym i) h.3)

end_apart : (libs : List design.Lib) (ports : List design.Port) (insts : List design.Inst) (t : Placed) (x : Stretch) (f : MeaningFault) → MeansEnd libs ports insts (bare t) x → EndFault libs ports insts t f → ⊥
end_apart libs ports insts t x f h (stands.end_row b) = row_apart keywords.PortRef t (h.bits_part ∷ []) h.inner f h.form b
end_apart libs ports insts t x f h (stands.end_inst b) = perhaps_apart (MeansInstRef insts) (λ i. Unit {0}) (InstRefFault insts) f (λ u i m v c. inst_ref_apart insts u i f m c) (parts keywords.PortRef keywords.InstanceRef t) (those keywords.InstanceRef h.inner) x.inst
    (parts_are keywords.PortRef keywords.InstanceRef t (h.bits_part ∷ []) h.inner h.form) h.inst (free x.inst) b
  where
    free : (o : Option ℕ) → IfSome o (λ s. Unit {0})
    free None = tt
    free (Some s) = tt
end_apart libs ports insts t x f h (stands.end_bit l k b) =
    let e = parts_are keywords.PortRef keywords.InstanceRef t (h.bits_part ∷ []) h.inner h.form in
    let P : List Bare → Type 0 = λ v. Perhaps (MeansInstRef insts) v x.inst in
    let o : l ≡ x.inst = perhaps_once (MeansInstRef insts) (inst_ref_once insts) (map bare (parts keywords.PortRef keywords.InstanceRef t)) l x.inst k (subst P (sym e) h.inst) in
    let m = subst (λ v. MeansBits (ports_of_end libs ports insts x.inst) v x.port x.first x.width) (sym (part_is keywords.PortRef t (h.bits_part ∷ []) h.inner 0 b.0 h.bits_part h.form b.1 refl)) h.bits in
    let Q : Option ℕ → Type 0 = λ v. MeansBits (ports_of_end libs ports insts v) (bare b.0) x.port x.first x.width in
    bits_apart (ports_of_end libs ports insts l) b.0 x.port x.first x.width f (subst Q (sym o) m) b.2

-- a list whose elements all pass is what passes of it
pub all_kept : (k : Keyword) (ts : List Bare) → IsTrue (list_all (is_follower (Many k ∷ [])) ts) → those k ts ≡ ts
all_kept k [] h = refl
all_kept k (t ∷ ts) h =
    let f = both (is_follower (Many k ∷ []) t) (list_all (is_follower (Many k ∷ [])) ts) h in
    ap (λ b. cond b (t ∷ those k ts) (those k ts)) (only (has_keyword k t) f.0) ∙ ap (λ v. t ∷ v) (all_kept k ts f.1)

joined_are : (t : Placed) (refs : List Bare) → IsFormOf keywords.Joined (bare t) [] refs → map bare (parts keywords.Joined keywords.PortRef t) ≡ refs
joined_are t refs h = parts_are keywords.Joined keywords.PortRef t [] refs h ∙ all_kept keywords.PortRef refs h.fits.1

joined_apart : (libs : List design.Lib) (ports : List design.Port) (insts : List design.Inst) (t : Placed) (refs : List Bare) (es : List Stretch) (f : MeaningFault) → IsFormOf keywords.Joined (bare t) [] refs → Each (MeansEnd libs ports insts) refs es → JoinedFault libs ports insts t f → ⊥
joined_apart libs ports insts t refs es f j h (stands.joined_row c) = row_apart keywords.Joined t [] refs f j c
joined_apart libs ports insts t refs es f j h (stands.joined_end c) = each_apart (MeansEnd libs ports insts) (λ e. Unit {0}) (EndFault libs ports insts) f (λ u e m v k. end_apart libs ports insts u e f m k) (parts keywords.Joined keywords.PortRef t) refs es (joined_are t refs j) h (free_all es) c

-- the ends of a joined form are those that it joins
pub joined_ends : (u : Placed) → has_keyword keywords.Joined (bare u) ≡ true → ends_joined (Some u) ≡ parts keywords.Joined keywords.PortRef u
joined_ends u k = go (has_keyword keywords.Joined (bare u)) k
  where
    go : (b : Bool) → b ≡ true → cond b (parts keywords.Joined keywords.PortRef u) [] ≡ parts keywords.Joined keywords.PortRef u
    go true e = refl
    go false e = absurd (cc e)

-- the ends of a net, in order
pub ends_of_form : (libs : List design.Lib) (ports : List design.Port) (insts : List design.Inst) (t : Placed) (name_part joined_part : Bare) (refs inner : List Bare) (ss : List Stretch)
    → IsFormOf keywords.Net (bare t) (name_part ∷ joined_part ∷ []) inner → IsFormOf keywords.Joined joined_part [] refs → Each (MeansEnd libs ports insts) refs ss → AllZip (λ u e. MeansEnd libs ports insts (bare u) e) (ends_in t) ss
ends_of_form libs ports insts t name_part joined_part refs inner ss f g h =
    let u = part_there keywords.Net t (name_part ∷ joined_part ∷ []) inner 1 joined_part f refl in
    let j = subst (λ v. IsFormOf keywords.Joined v [] refs) (sym u.2) g in
    let r : AllZip (λ v e. MeansEnd libs ports insts (bare v) e) (parts keywords.Joined keywords.PortRef u.0) ss =
    each_with (MeansEnd libs ports insts) (λ v e. MeansEnd libs ports insts (bare v) e) (λ v e m. m) (parts keywords.Joined keywords.PortRef u.0) refs ss (joined_are u.0 refs j) h in
    let k : has_keyword keywords.Joined (bare u.0) ≡ true = keyword_of keywords.Joined (bare u.0) [] refs j in
    subst (λ (o : Option Placed). AllZip (λ v e. MeansEnd libs ports insts (bare v) e) (ends_joined o) ss) (sym u.1) (subst (λ vs. AllZip (λ v e. MeansEnd libs ports insts (bare v) e) vs ss) (sym (joined_ends u.0 k)) r)

pub net_ends : (libs : List design.Lib) (ports : List design.Port) (insts : List design.Inst) (t : Placed) (x : NetForm) → MeansNet libs ports insts (bare t) x → AllZip (λ u e. MeansEnd libs ports insts (bare u) e) (ends_in t) x.joined
net_ends libs ports insts t x h = ends_of_form libs ports insts t h.name_part h.joined_part h.refs h.inner x.joined h.form h.joined h.ends

-- an end as wide as its net
width_apart : (libs : List design.Lib) (ports : List design.Port) (insts : List design.Inst) (array : Option ℕ) (t : Placed) (x : Stretch) (f : MeaningFault) → MeansEnd libs ports insts (bare t) x → x.width ≡ row_size array → WidthFault libs ports insts array t f → ⊥
width_apart libs ports insts array t x f h w b = let e : b.stretch ≡ x = end_once libs ports insts (bare t) b.stretch x b.means h in b.other (ap (λ (s : Stretch). s.width) e ∙ w)

pub net_apart : (libs : List design.Lib) (ports : List design.Port) (insts : List design.Inst) (t : Placed) (x : NetForm) (f : MeaningFault) → MeansNet libs ports insts (bare t) x → HasDistinctKeys x.properties → NetFault libs ports insts t f → ⊥
net_apart libs ports insts t x f h d (stands.net_row b) = row_apart keywords.Net t (h.name_part ∷ h.joined_part ∷ []) h.inner f h.form b
net_apart libs ports insts t x f h d (stands.net_name b) = port_name_apart b.0 x.name x.array f (subst (λ v. MeansBusName v x.name x.array) (sym (part_is keywords.Net t (h.name_part ∷ h.joined_part ∷ []) h.inner 0 b.0 h.name_part h.form b.1 refl)) h.name) b.2
net_apart libs ports insts t x f h d (stands.net_joined b) =
    let j = subst (λ v. IsFormOf keywords.Joined v [] h.refs) (sym (part_is keywords.Net t (h.name_part ∷ h.joined_part ∷ []) h.inner 1 b.0 h.joined_part h.form b.1 refl)) h.joined in
    joined_apart libs ports insts b.0 h.refs x.joined f j h.ends b.3
net_apart libs ports insts t x f h d (stands.net_width b) =
    let m = subst (λ v. MeansBusName v x.name x.array) (sym (part_is keywords.Net t (h.name_part ∷ h.joined_part ∷ []) h.inner 0 b.name_part h.name_part h.form b.there refl)) h.name in
    let a : b.array ≡ x.array = (port_name_once (bare b.name_part) b.name x.name b.array x.array b.means m).1 in
    let P : Option ℕ → Type 0 = λ o. Among (WidthFault libs ports insts o) (ends_in t) f in
    widths_apart (ends_in t) x.joined (net_ends libs ports insts t x h) h.wide (subst P a b.fault)
  where
    widths_apart : (us : List Placed) (ss : List Stretch) → AllZip (λ u s. MeansEnd libs ports insts (bare u) s) us ss → AllByRecursion (λ s. s.width ≡ row_size x.array) ss → Among (WidthFault libs ports insts x.array) us f → ⊥
    widths_apart [] ss z w c = c
    widths_apart (u ∷ us) [] z w c = absurd z
    widths_apart (u ∷ us) (s ∷ ss) z w (inl c) = width_apart libs ports insts x.array u s f z.0 w.0 c
    widths_apart (u ∷ us) (s ∷ ss) z w (inr c) = widths_apart us ss z.1 w.1 c
net_apart libs ports insts t x f h d (stands.net_properties b) = properties_apart (parts keywords.Net keywords.Property t) (those keywords.Property h.inner) x.properties f (parts_are keywords.Net keywords.Property t (h.name_part ∷ h.joined_part ∷ []) h.inner h.form) h.properties d b

-- the name of a net, or that of its array, and how many nets are in its row
pub net_named : (libs : List design.Lib) (ports : List design.Port) (insts : List design.Inst) (t : Placed) (x : NetForm) → MeansNet libs ports insts (bare t) x → IsNamed t x.name.id
net_named libs ports insts t x h =
    let u = part_there keywords.Net t (h.name_part ∷ h.joined_part ∷ []) h.inner 0 h.name_part h.form refl in
    let r = port_name_named u.0 x.name x.array (subst (λ v. MeansBusName v x.name x.array) (sym u.2) h.name) in
    (r.0, defined_bus t u.0 (x.name.id, r.0) (net_may t (keyword_of keywords.Net (bare t) (h.name_part ∷ h.joined_part ∷ []) h.inner h.form)) u.1 r.1)

pub net_declares : (libs : List design.Lib) (ports : List design.Port) (insts : List design.Inst) (t : Placed) (x : NetForm) → MeansNet libs ports insts (bare t) x → declared_width t ≡ row_size x.array
net_declares libs ports insts t x h =
    let u = part_there keywords.Net t (h.name_part ∷ h.joined_part ∷ []) h.inner 0 h.name_part h.form refl in
    ap first_width u.1 ∙ name_width u.0 x.name x.array (subst (λ v. MeansBusName v x.name x.array) (sym u.2) h.name)

pub zip_append : {A B : Type 0} (R : A → B → Type 0) (xs : List A) (ys : List B) (us : List A) (vs : List B) → AllZip R xs ys → AllZip R us vs → AllZip R (xs ++ us) (ys ++ vs)
zip_append R [] [] us vs h k = k
zip_append R [] (y ∷ ys) us vs h k = absurd h
zip_append R (x ∷ xs) [] us vs h k = absurd h
zip_append R (x ∷ xs) (y ∷ ys) us vs h k = (h.0, zip_append R xs ys us vs h.1 k)

pub zip_flat : {A B C D : Type 0} (R : A → B → Type 0) (S : C → D → Type 0) (f : A → List C) (g : B → List D) → ((x : A) (y : B) → R x y → AllZip S (f x) (g y)) → (xs : List A) (ys : List B) → AllZip R xs ys → AllZip S (flat_map f xs) (flat_map g ys)
zip_flat R S f g each [] [] h = tt
zip_flat R S f g each [] (y ∷ ys) h = absurd h
zip_flat R S f g each (x ∷ xs) [] h = absurd h
zip_flat R S f g each (x ∷ xs) (y ∷ ys) h = zip_append S (f x) (g y) (flat_map f xs) (flat_map g ys) (each x y h.0) (zip_flat R S f g each xs ys h.1)

-- shapes
any_weaker : (F G : Placed → MeaningFault → Type 0) (f : MeaningFault) → ((u : Placed) → F u f → G u f) → (ts : List Placed) → Among F ts f → Among G ts f
any_weaker F G f w [] b = b
any_weaker F G f w (t ∷ ts) (inl b) = inl (w t b)
any_weaker F G f w (t ∷ ts) (inr b) = inr (any_weaker F G f w ts b)

member_shape_apart : (ports : List design.Port) (t : Placed) (p n v : ℕ) (f : MeaningFault) → MeansBits ports (bare t) p n v → MemberShapeFault t f → ⊥
member_shape_apart ports t p n v f (inl h) b = word_no_keyword keywords.Member (bare t) h.0 h.1 b.0
member_shape_apart ports t p n v f (inr h) b = row_apart keywords.Member t (word h.0 ∷ integer (pos n) ∷ []) [] f h.1 b.1

end_shape_apart : (libs : List design.Lib) (ports : List design.Port) (insts : List design.Inst) (t : Placed) (x : Stretch) (f : MeaningFault) → MeansEnd libs ports insts (bare t) x → EndShapeFault t f → ⊥
end_shape_apart libs ports insts t x f h (stands.end_shape_row b) = row_apart keywords.PortRef t (h.bits_part ∷ []) h.inner f h.form b
end_shape_apart libs ports insts t x f h (stands.end_shape_inst b) = end_apart libs ports insts t x f h (stands.end_inst (any_weaker (RowFault keywords.InstanceRef) (InstRefFault insts) f (λ u c. stands.inst_ref_row c) (parts keywords.PortRef keywords.InstanceRef t) b))
end_shape_apart libs ports insts t x f h (stands.end_shape_member b) = member_shape_apart (ports_of_end libs ports insts x.inst) b.0 x.port x.first x.width f
    (subst (λ v. MeansBits (ports_of_end libs ports insts x.inst) v x.port x.first x.width) (sym (part_is keywords.PortRef t (h.bits_part ∷ []) h.inner 0 b.0 h.bits_part h.form b.1 refl)) h.bits) b.2

joined_shape_apart : (libs : List design.Lib) (ports : List design.Port) (insts : List design.Inst) (t : Placed) (refs : List Bare) (es : List Stretch) (f : MeaningFault) → IsFormOf keywords.Joined (bare t) [] refs → Each (MeansEnd libs ports insts) refs es → JoinedShapeFault t f → ⊥
joined_shape_apart libs ports insts t refs es f j h (stands.joined_shape_row c) = row_apart keywords.Joined t [] refs f j c
joined_shape_apart libs ports insts t refs es f j h (stands.joined_shape_end c) = each_apart (MeansEnd libs ports insts) (λ e. Unit {0}) EndShapeFault f (λ u e m v k. end_shape_apart libs ports insts u e f m k) (parts keywords.Joined keywords.PortRef t) refs es (joined_are t refs j) h (free_all es) c

pub net_shape_apart : (libs : List design.Lib) (ports : List design.Port) (insts : List design.Inst) (t : Placed) (x : NetForm) (f : MeaningFault) → MeansNet libs ports insts (bare t) x → HasDistinctKeys x.properties → NetShapeFault t f → ⊥
net_shape_apart libs ports insts t x f h d (stands.net_shape_row b) = net_apart libs ports insts t x f h d (stands.net_row b)
net_shape_apart libs ports insts t x f h d (stands.net_shape_name b) = net_apart libs ports insts t x f h d (stands.net_name b)
net_shape_apart libs ports insts t x f h d (stands.net_shape_properties b) = net_apart libs ports insts t x f h d (stands.net_properties b)
net_shape_apart libs ports insts t x f h d (stands.net_shape_joined b) =
    let j = subst (λ v. IsFormOf keywords.Joined v [] h.refs) (sym (part_is keywords.Net t (h.name_part ∷ h.joined_part ∷ []) h.inner 1 b.0 h.joined_part h.form b.1 refl)) h.joined in
    joined_shape_apart libs ports insts b.0 h.refs x.joined f j h.ends b.3
