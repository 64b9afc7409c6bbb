-- A form means something, or a fault stands in it: references, instances, nets, contents, views and cells.
use Rattle.std.proofs.Common.{◌≡◌, ◌≢◌, ℕ, ◌+◌, ◌<◌, ◌≤◌, ℤ, pos, negsuc, List, [], ◌∷◌, map, length, refl, ap, sym, ◌∙◌, subst, ◌⊎◌, inl, inr, Bool, true, false, Option, Some, None, arith, map-id}
use Rattle.std.specs.Prelude.{IsTrue, cond, ◌||◌, IfSome, nat_lt}
use Rattle.std.specs.List.{AllZip, AllByRecursion, All, flat_map}
use Rattle.std.proofs.lemmas.List.Elements.{All-from_recursion, recursion_from_All}
use Rattle.std.proofs.lemmas.Bool.Decides.{nat_tests}
use Rattle.std.proofs.lemmas.Bool.{cases_Bool, or_cases}
use Rattle.std.proofs.lemmas.List.{length-map}
use Rattle.netlist_schema.specs.Design.{insts_of, nets_of as nets_of_cell, insts_in as insts_inside, nets_in as nets_inside}
use Rattle.netlist_schema.specs.Names.{AreDistinct, HasDistinctKeys}
use Rattle.netlist_schema.specs.Typed.{IsBytes, IsTypedName, IsTypedProperty, IsTypedPort, IsTypedInst, IsTypedNet, IsTypedContents, IsTypedCell}
use Rattle.edif_spelling_spec.specs.Tree.{Bare, Placed, Form', Word', Integer', String', word, integer, bare}
use Rattle.edif_spec.specs.Keyword.{same, AnIdentifier, AForm, Many, One, name_definition, bus_name, identifier, the}
use Rattle.edif_spec.specs.Keyword as keyword
use Rattle.edif_spec.specs.Rows.{has_keyword, those, is_one_of, IsFormOf, Each, Perhaps, Just}
use Rattle.edif_spec.specs.Canonical.{kind_word, ports_of_end}
use Rattle.edif_spec.specs.Means.{Meant as Meaning, equal, equal_or, only_place, meant, Found, Absent, Several, width_at, MeansText, MeansPort, MeansLibraryRef, MeansCellRef, MeansViewRef, MeansInst, MeansInstRef, MeansBits, MeansEnd, MeansNet, MeansContents, IsNetlist, MeansView, MeansKind, MeansCell}
use Rattle.edif_spec.specs.Faults.{AtTwo, place_of, followers, parts, Among, RowFault, SameOfTwo, declared_width, repeated}
use Rattle.edif_spec.specs.Nets.{FineForm, Stretch, nets_of, row_size}
use Rattle.edif_spec.specs.Stands.{Dangles, ports_in, LibraryRefFault, CellRefFault, ViewRefFault, InstFault, InstRefFault, BitFault, EndFault, JoinedFault, WidthFault, NetFault, MeansRowEnd, counted_ends, ends_in, insts_in, net_names_in, nets_in, row_ends, width_kind, SameEnd, ContentsFault, is_netlist, TypeFault, ViewFault, is_cell_type, CellTypeFault, CellFault}
use Rattle.edif_spec.specs.Stands as stands
use Rattle.edif_spec.specs.Design as design
use Rattle.edif_spec.specs.declared.keyword.Keyword.{Keyword}
use Rattle.edif_spec.specs.declared.keyword.Keyword.TheVariants as keywords
use Rattle.edif_spec.specs.declared.fault.Kind.TheVariants.{BadForm, NotNetlist, Unresolved, Ambiguous, BadIndex}
use Rattle.edif_spec.specs.declared.fault.ClashKind.TheVariants.{Duplicate, EndTwice}
use Rattle.edif_spec.specs.declared.fault.MeaningFault.TheVariants.{At, Clash}
use Rattle.netlist_schema.specs.declared.cell.CellKind.TheVariants as kinds
use Rattle.netlist_schema.proofs.Lists.{zip_length}
use Rattle.edif_spec.proofs.FaultForms.{filter_bare, part_there, each_with, IsNamed}
use Rattle.edif_spec.proofs.CellFaultsApart.{all_kept, ends_of_form, inst_named, zip_flat, FineContents, FineCell}
use Rattle.edif_spec.proofs.RowForms.{GivesName, ends_counted, net_names_are, nets_counted, row_ends_of, rows_fine}
use Rattle.edif_spec.proofs.FaultsApart.{FineInterface}
use Rattle.edif_spec.proofs.KnownForms.{Faulty, Written, IsOf, Meant, beyond_known, names_known, distinct_known, bytes_same, differ_distinct, nat_same, parts_of, word_choice, integer_choice, only, form_choice, known0, known1, known2, known3}
use Rattle.edif_spec.proofs.KnownRows.{follow_none, perhaps_in, each_in, name_known, bus_name_known, text_known, properties_known, interface_known, first_all, second_all, each_count}

-- references
pub record KnownRef (scope : List (List ℕ)) (u : Placed) : Type 0 where
  pub name : List ℕ
  pub place : ℕ
  pub is : u ≡ Word' place name
  pub index : ℕ
  pub means : meant scope name ≡ Found index

pub reference_known : (scope : List (List ℕ)) (u : Placed) → is_one_of identifier (bare u) ≡ true → KnownRef scope u ⊎ Faulty (Dangles scope u)
reference_known scope u h = let a = word_choice u h in go a.0 a.1 a.2 (meant scope a.1) refl
  where
    go : (p : ℕ) (w : List ℕ) → u ≡ Word' p w → (m : Meaning) → meant scope w ≡ m → KnownRef scope u ⊎ Faulty (Dangles scope u)
    go p w e (Found i) m = inl (record { name = w; place = p; is = e; index = i; means = m })
    go p w e Absent m = inr (At Unresolved p, (w, p, e, inl (m, refl)))
    go p w e Several m = inr (At Ambiguous p, (w, p, e, inr (m, refl)))

library_ref_known : (libs : List design.Lib) (own : Option ℕ) (t : Placed) → IsOf (has_keyword keywords.LibraryRef) t → ((l : ℕ) × MeansLibraryRef libs own (bare t ∷ []) l) ⊎ Faulty (LibraryRefFault libs t)
library_ref_known libs own t h = elim (known1 keywords.LibraryRef identifier [] t refl h) [
  | inr b ↦ inr (b.0, stands.library_ref_row b.1)
  | inl s ↦ (let f : IsFormOf keywords.LibraryRef (bare t) (bare s.a ∷ []) [] = follow_none keywords.LibraryRef (identifier ∷ []) (bare t) (bare s.a ∷ []) (map bare (followers keywords.LibraryRef t)) refl s.form in
      elim (reference_known (design.lib_ids libs) s.a s.is_a) [
        | inr b ↦ inr (b.0, stands.library_ref_name (s.a, s.at_a, b.1))
        | inl r ↦ inl (r.index, (r.name, subst (λ x. IsFormOf keywords.LibraryRef (bare t) (bare x ∷ []) []) r.is f, r.means))
      ])
]

library_refs_known : (libs : List design.Lib) (own : Option ℕ) (ts : List Placed) → AllByRecursion (IsOf (has_keyword keywords.LibraryRef)) ts → length ts ≤ 1
    → ((l : ℕ) × MeansLibraryRef libs own (map bare ts) l) ⊎ (Faulty (Among (LibraryRefFault libs) ts) ⊎ ((own ≡ None) × (ts ≡ [])))
library_refs_known libs None [] h l = inr (inr (refl, refl))
library_refs_known libs (Some i) [] h l = inl (i, refl)
library_refs_known libs own (t ∷ u ∷ ts) h l = absurd (omega arith)
library_refs_known libs own (t ∷ []) h l = elim (library_ref_known libs own t h.0) [ inr b ↦ inr (inl (b.0, inl b.1)) | inl x ↦ inl x ]

pub parts_bare : (k j : Keyword) (t : Placed) → map bare (parts k j t) ≡ those j (map bare (followers k t))
parts_bare k j t = filter_bare (has_keyword j) (followers k t)

parts_length : (k j : Keyword) (t : Placed) → length (parts k j t) ≡ length (those j (map bare (followers k t)))
parts_length k j t = sym (length-map (parts k j t) bare) ∙ ap length (parts_bare k j t)

abbrev id_of : ℕ → ℕ → design.CellId
id_of l slot = record { lib = record { 0 = l }; slot = slot }

pub cell_ref_known : (libs : List design.Lib) (own : Option ℕ) (t : Placed) → IsOf (has_keyword keywords.CellRef) t → ((id : design.CellId) × MeansCellRef libs own (bare t) id) ⊎ Faulty (CellRefFault libs own t)
cell_ref_known libs own t h = elim (known1 keywords.CellRef identifier (One keywords.LibraryRef ∷ []) t refl h) [
  | inr b ↦ inr (b.0, stands.cell_ref_row b.1)
  | inl s ↦ (let n : length (parts keywords.CellRef keywords.LibraryRef t) ≡ length (those keywords.LibraryRef (map bare (followers keywords.CellRef t))) = parts_length keywords.CellRef keywords.LibraryRef t in
      let m : length (those keywords.LibraryRef (map bare (followers keywords.CellRef t))) ≤ 1 = s.form.fits.2.0 in
      elim (library_refs_known libs own (parts keywords.CellRef keywords.LibraryRef t) (parts_of keywords.CellRef keywords.LibraryRef t h.1) (omega (arith, n, m))) [
        | inr (inl b) ↦ inr (b.0, stands.cell_ref_library b.1)
        | inr (inr b) ↦ inr (At BadForm (place_of t), stands.cell_ref_alone b.0 b.1 refl)
        | inl l ↦ elim (reference_known (design.cell_ids libs l.0) s.a s.is_a) [
          | inr b ↦ inr (b.0, stands.cell_ref_name l.0 l.1 (s.a, s.at_a, b.1))
          | inl r ↦ inl (
            id_of l.0 r.index,
            record {
              spelled = r.name;
              inner = map bare (followers keywords.CellRef t);
              form = subst (λ x. IsFormOf keywords.CellRef (bare t) (bare x ∷ []) (map bare (followers keywords.CellRef t))) r.is s.form;
              lib = subst (λ v. MeansLibraryRef libs own v l.0) (parts_bare keywords.CellRef keywords.LibraryRef t) l.1;
              cell = r.means;
            },
          )
        ]
      ])
]

-- the only name of a scope is its first
pub found_first : (name w : List ℕ) (i : ℕ) → meant (name ∷ []) w ≡ Found i → i ≡ 0
found_first name w i e = by_place (equal w name) (same w name) e
  where
    by_place : (b c : Bool) → equal_or (cond b (Some 0) None) (only_place (0 + cond c 1 0) (cond c (Some 0) None)) ≡ Found i → i ≡ 0
    by_place true c e = let d : 0 ≡ i = cc e in sym d
    by_place false true e = let d : 0 ≡ i = cc e in sym d
    by_place false false e = absurd (cc e)

view_ref_known : (libs : List design.Lib) (own : Option ℕ) (t : Placed) → IsOf (has_keyword keywords.ViewRef) t → ((id : design.CellId) × MeansViewRef libs own (bare t) id) ⊎ Faulty (ViewRefFault libs own t)
view_ref_known libs own t h = elim (known2 keywords.ViewRef identifier (the keywords.CellRef) [] t refl h) [
  | inr b ↦ inr (b.0, stands.view_ref_row b.1)
  | inl s ↦ (let f : IsFormOf keywords.ViewRef (bare t) (bare s.a ∷ bare s.b ∷ []) [] = follow_none keywords.ViewRef (identifier ∷ the keywords.CellRef ∷ []) (bare t) (bare s.a ∷ bare s.b ∷ []) (map bare (followers keywords.ViewRef t)) refl s.form in
      elim (cell_ref_known libs own s.b (form_choice keywords.CellRef s.b s.is_b, s.written_b)) [
        | inr b ↦ inr (b.0, stands.view_ref_cell (s.b, s.at_b, form_choice keywords.CellRef s.b s.is_b, b.1))
        | inl c ↦ elim (reference_known (design.view_id libs c.0 ∷ []) s.a s.is_a) [
          | inr b ↦ inr (b.0, stands.view_ref_name s.b c.0 s.at_b c.1 (s.a, s.at_a, b.1))
          | inl r ↦ inl (
            c.0,
            record {
              spelled = r.name;
              cell_part = bare s.b;
              form = subst (λ x. IsFormOf keywords.ViewRef (bare t) (bare x ∷ bare s.b ∷ []) []) r.is f;
              cell = c.1;
              view = r.means ∙ ap (λ v. Found v) (found_first (design.view_id libs c.0) r.name r.index r.means);
            },
          )
        ]
      ])
]

-- instances
pub inst_known : (libs : List design.Lib) (own : Option ℕ) (t : Placed) → IsOf (has_keyword keywords.Instance) t → Meant (MeansInst libs own) (λ i. IsTypedInst i × HasDistinctKeys i.properties) t ⊎ Faulty (InstFault libs own t)
inst_known libs own t h = elim (known2 keywords.Instance name_definition (the keywords.ViewRef) (One keywords.Designator ∷ Many keywords.Property ∷ Many keywords.Comment ∷ Many keywords.UserData ∷ []) t refl h) [
  | inr b ↦ inr (b.0, stands.inst_row b.1)
  | inl s ↦ elim (name_known s.a s.written_a s.is_a) [
    | inr b ↦ inr (b.0, stands.inst_name (s.a, s.at_a, b.1))
    | inl n ↦ elim (view_ref_known libs own s.b (form_choice keywords.ViewRef s.b s.is_b, s.written_b)) [
      | inr b ↦ inr (b.0, stands.inst_view (s.b, s.at_b, form_choice keywords.ViewRef s.b s.is_b, b.1))
      | inl v ↦ elim (perhaps_in (MeansText keywords.Designator) IsBytes (RowFault keywords.Designator) keywords.Instance keywords.Designator t (λ u w. text_known keywords.Designator u refl w) h.1 s.form.fits.2.0) [
        | inr b ↦ inr (b.0, stands.inst_designator b.1)
        | inl g ↦ elim (properties_known keywords.Instance t h.1) [
          | inr b ↦ inr (b.0, stands.inst_properties b.1)
          | inl ps ↦ inl (
            record { name = n.0; of = v.0; designator = g.0; properties = ps.list },
            record { name_part = bare s.a; view_part = bare s.b; inner = map bare (followers keywords.Instance t); form = s.form; name = n.1; of = v.1; designator = g.1; properties = ps.mean },
            (record { name = n.2; designator = g.2; properties = ps.typed }, ps.keys),
          )
        ]
      ]
    ]
  ]
]

-- ends
inst_ref_known : (insts : List design.Inst) (t : Placed) → IsOf (has_keyword keywords.InstanceRef) t → Meant (MeansInstRef insts) (λ i. Unit {0}) t ⊎ Faulty (InstRefFault insts t)
inst_ref_known insts t h = elim (known1 keywords.InstanceRef identifier [] t refl h) [
  | inr b ↦ inr (b.0, stands.inst_ref_row b.1)
  | inl s ↦ (let f : IsFormOf keywords.InstanceRef (bare t) (bare s.a ∷ []) [] = follow_none keywords.InstanceRef (identifier ∷ []) (bare t) (bare s.a ∷ []) (map bare (followers keywords.InstanceRef t)) refl s.form in
      elim (reference_known (design.inst_ids insts) s.a s.is_a) [
        | inr b ↦ inr (b.0, stands.inst_ref_name (s.a, s.at_a, b.1))
        | inl r ↦ inl (r.index, (r.name, subst (λ x. IsFormOf keywords.InstanceRef (bare t) (bare x ∷ []) []) r.is f, r.means), tt)
      ])
]

-- bits among the ports
pub record KnownBits (ports : List design.Port) (t : Placed) : Type 0 where
  pub port : ℕ
  pub first : ℕ
  pub width : ℕ
  pub mean : MeansBits ports (bare t) port first width

index_of : (z : ℤ) (width : ℕ) → ((n : ℕ) × (z ≡ pos n) × (n < width)) ⊎ ((n : ℕ) → z ≡ pos n → n < width → ⊥)
index_of (negsuc m) width = inr (λ n e w. absurd (cc e))
index_of (pos m) width = elim (cases_Bool (nat_lt m width)) [ inl e ↦ inl (m, refl, grind (arith, nat_tests)) | inr e ↦ inr (λ n d l. let q : m ≡ n = cc d in grind (arith, nat_tests)) ]

whole_known : (ports : List design.Port) (t : Placed) → is_one_of identifier (bare t) ≡ true → KnownBits ports t ⊎ Faulty (BitFault ports t)
whole_known ports t h = elim (reference_known (design.port_ids ports) t h) [
  | inr b ↦ inr (b.0, stands.bit_port b.1)
  | inl r ↦ inl (record { port = r.index; first = 0; width = width_at ports r.index; mean = inl (r.name, ap bare r.is, r.means, refl, refl) })
]

member_known : (ports : List design.Port) (t : Placed) → IsOf (has_keyword keywords.Member) t → KnownBits ports t ⊎ Faulty (BitFault ports t)
member_known ports t h = elim (known2 keywords.Member identifier keyword.integer [] t refl h) [
  | inr b ↦ inr (b.0, stands.member_row h.0 b.1)
  | inl s ↦ (let f : IsFormOf keywords.Member (bare t) (bare s.a ∷ bare s.b ∷ []) [] = follow_none keywords.Member (identifier ∷ keyword.integer ∷ []) (bare t) (bare s.a ∷ bare s.b ∷ []) (map bare (followers keywords.Member t)) refl s.form in
      let b = integer_choice s.b s.is_b in
      elim (reference_known (design.port_ids ports) s.a s.is_a) [
        | inr d ↦ inr (d.0, stands.member_port h.0 (s.a, s.at_a, d.1))
        | inl r ↦ elim (index_of b.1 (width_at ports r.index)) [
          | inr n ↦ inr (At BadIndex b.0, stands.member_index h.0 (record { spelled = r.name; named = r.place; port = r.index; index = b.1; place = b.0; name_there = s.at_a ∙ ap Some r.is; means = r.means; index_there = s.at_b ∙ ap Some b.2; beyond = n; fault = refl }))
          | inl i ↦ (let P : Placed → Placed → Type 0 = λ x y. IsFormOf keywords.Member (bare t) (bare x ∷ bare y ∷ []) [] in
              let g : P (Word' r.place r.name) (Integer' b.0 b.1) = subst (λ y. P (Word' r.place r.name) y) b.2 (subst (λ x. P x s.b) r.is f) in
              let k : IsFormOf keywords.Member (bare t) (word r.name ∷ integer (pos i.0) ∷ []) [] = subst (λ z. IsFormOf keywords.Member (bare t) (word r.name ∷ integer z ∷ []) []) i.1 g in
              inl (record { port = r.index; first = i.0; width = 1; mean = inr (r.name, k, r.means, i.2, refl) }))
        ]
      ])
]

bit_known : (ports : List design.Port) (t : Placed) → Written t → is_one_of (AnIdentifier ∷ AForm keywords.Member ∷ []) (bare t) ≡ true → KnownBits ports t ⊎ Faulty (BitFault ports t)
bit_known ports (Word' p w) v h = whole_known ports (Word' p w) refl
bit_known ports (Integer' p z) v h = absurd (cc h)
bit_known ports (String' p s) v h = absurd (cc h)
bit_known ports (Form' p ts) v h =
    let t : Placed = Form' p ts in
    let k : has_keyword keywords.Member (bare t) ≡ true = only (has_keyword keywords.Member (bare t)) h in
    member_known ports t (k, v)

end_known : (libs : List design.Lib) (ports : List design.Port) (insts : List design.Inst) (t : Placed) → IsOf (has_keyword keywords.PortRef) t → Meant (MeansEnd libs ports insts) (λ e. Unit {0}) t ⊎ Faulty (EndFault libs ports insts t)
end_known libs ports insts t h = elim (known1 keywords.PortRef (AnIdentifier ∷ AForm keywords.Member ∷ []) (One keywords.InstanceRef ∷ []) t refl h) [
  | inr b ↦ inr (b.0, stands.end_row b.1)
  | inl s ↦ elim (perhaps_in (MeansInstRef insts) (λ i. Unit {0}) (InstRefFault insts) keywords.PortRef keywords.InstanceRef t (inst_ref_known insts) h.1 s.form.fits.2.0) [
    | inr b ↦ inr (b.0, stands.end_inst b.1)
    | inl o ↦ elim (bit_known (ports_of_end libs ports insts o.0) s.a s.written_a s.is_a) [
      | inr b ↦ inr (b.0, stands.end_bit o.0 (subst (λ v. Perhaps (MeansInstRef insts) v o.0) (sym (parts_bare keywords.PortRef keywords.InstanceRef t)) o.1) (s.a, s.at_a, b.1))
      | inl x ↦ inl (record { inst = o.0; port = x.port; first = x.first; width = x.width }, record { bits_part = bare s.a; inner = map bare (followers keywords.PortRef t); form = s.form; inst = o.1; bits = x.mean }, tt)
    ]
  ]
]

-- nets
pub record KnownJoined (libs : List design.Lib) (ports : List design.Port) (insts : List design.Inst) (t : Placed) : Type 0 where
  pub refs : List Bare
  pub form : IsFormOf keywords.Joined (bare t) [] refs
  pub ends : List Stretch
  pub mean : Each (MeansEnd libs ports insts) refs ends

joined_known : (libs : List design.Lib) (ports : List design.Port) (insts : List design.Inst) (t : Placed) → IsOf (has_keyword keywords.Joined) t → KnownJoined libs ports insts t ⊎ Faulty (JoinedFault libs ports insts t)
joined_known libs ports insts t h = elim (known0 keywords.Joined (Many keywords.PortRef ∷ []) t refl h.0) [
  | inr b ↦ inr (b.0, stands.joined_row b.1)
  | inl s ↦ elim (each_in (MeansEnd libs ports insts) (λ e. Unit {0}) (EndFault libs ports insts) keywords.Joined keywords.PortRef t (end_known libs ports insts) h.1) [
    | inr b ↦ inr (b.0, stands.joined_end b.1)
    | inl x ↦ inl (record { refs = map bare (followers keywords.Joined t); form = s.form; ends = x.0; mean = subst (λ v. Each (MeansEnd libs ports insts) v x.0) (all_kept keywords.PortRef (map bare (followers keywords.Joined t)) s.form.fits.1) x.1 })
  ]
]

-- the width of an end, and those of several
width_known : (libs : List design.Lib) (ports : List design.Port) (insts : List design.Inst) (array : Option ℕ) (t : Placed) (s : Stretch) → MeansEnd libs ports insts (bare t) s → (s.width ≡ row_size array) ⊎ Faulty (WidthFault libs ports insts array t)
width_known libs ports insts array t s m =
    let u = part_there keywords.PortRef t (m.bits_part ∷ []) m.inner 0 m.bits_part m.form refl in
    elim (nat_same s.width (row_size array)) [
      | inl e ↦ inl e
      | inr n ↦ inr (At (width_kind array) (place_of u.0), record { bits = u.0; there = u.1; stretch = s; means = m; other = n; fault = refl })
    ]

widths_known : (libs : List design.Lib) (ports : List design.Port) (insts : List design.Inst) (array : Option ℕ) (ts : List Placed) (ss : List Stretch) → AllZip (λ u s. MeansEnd libs ports insts (bare u) s) ts ss
    → AllByRecursion (λ (s : Stretch). s.width ≡ row_size array) ss ⊎ Faulty (Among (WidthFault libs ports insts array) ts)
widths_known libs ports insts array [] [] h = inl tt
widths_known libs ports insts array [] (s ∷ ss) h = absurd h
widths_known libs ports insts array (t ∷ ts) [] h = absurd h
widths_known libs ports insts array (t ∷ ts) (s ∷ ss) h = go (width_known libs ports insts array t s h.0) (widths_known libs ports insts array ts ss h.1)
  where
    go : (s.width ≡ row_size array) ⊎ Faulty (WidthFault libs ports insts array t) → AllByRecursion (λ (s : Stretch). s.width ≡ row_size array) ss ⊎ Faulty (Among (WidthFault libs ports insts array) ts)
        → AllByRecursion (λ (s : Stretch). s.width ≡ row_size array) (s ∷ ss) ⊎ Faulty (Among (WidthFault libs ports insts array) (t ∷ ts))
    go (inr b) r = inr (b.0, inl b.1)
    go (inl e) (inr b) = inr (b.0, inr b.1)
    go (inl e) (inl r) = inl (e, r)

net_known : (libs : List design.Lib) (ports : List design.Port) (insts : List design.Inst) (t : Placed) → IsOf (has_keyword keywords.Net) t → Meant (MeansNet libs ports insts) FineForm t ⊎ Faulty (NetFault libs ports insts t)
net_known libs ports insts t h = elim (known2 keywords.Net bus_name (the keywords.Joined) (Many keywords.Property ∷ Many keywords.Comment ∷ Many keywords.UserData ∷ []) t refl h) [
  | inr b ↦ inr (b.0, stands.net_row b.1)
  | inl s ↦ elim (bus_name_known s.a s.written_a s.is_a) [
    | inr b ↦ inr (b.0, stands.net_name (s.a, s.at_a, b.1))
    | inl n ↦ elim (joined_known libs ports insts s.b (form_choice keywords.Joined s.b s.is_b, s.written_b)) [
      | inr b ↦ inr (b.0, stands.net_joined (s.b, s.at_b, form_choice keywords.Joined s.b s.is_b, b.1))
      | inl j ↦ elim (properties_known keywords.Net t h.1) [
        | inr b ↦ inr (b.0, stands.net_properties b.1)
        | inl ps ↦ elim (widths_known libs ports insts n.array (ends_in t) j.ends (ends_of_form libs ports insts t (bare s.a) (bare s.b) j.refs (map bare (followers keywords.Net t)) j.ends s.form j.form j.mean)) [
          | inr b ↦ inr (b.0, stands.net_width (record { name_part = s.a; name = n.name; array = n.array; there = s.at_a; means = n.mean; fault = b.1 }))
          | inl w ↦ inl (
            record { name = n.name; array = n.array; joined = j.ends; properties = ps.list },
            record { name_part = bare s.a; joined_part = bare s.b; refs = j.refs; inner = map bare (followers keywords.Net t); form = s.form; joined = j.form; name = n.mean; ends = j.mean; wide = w; properties = ps.mean },
            record { name = n.typed; array = n.width; properties = ps.typed; keys = ps.keys },
          )
        ]
      ]
    ]
  ]
]

-- equality of ends
pub option_same : (a b : Option ℕ) → (a ≡ b) ⊎ (a ≢ b)
option_same None None = inl refl
option_same None (Some y) = inr (λ e. absurd (cc e))
option_same (Some x) None = inr (λ e. absurd (cc e))
option_same (Some x) (Some y) = elim (nat_same x y) [ inl e ↦ inl (ap Some e) | inr n ↦ inr (λ e. let d : x ≡ y = cc e in n d) ]

end_same : (x y : design.End) → (x ≡ y) ⊎ (x ≢ y)
end_same x y = elim (option_same x.inst y.inst) [
  | inr n ↦ inr (λ e. n (ap (λ v. v.inst) e))
  | inl i ↦ elim (nat_same x.port y.port) [
    | inr n ↦ inr (λ e. n (ap (λ v. v.port) e))
    | inl p ↦ elim (nat_same x.bit y.bit) [ inr n ↦ inr (λ e. n (ap (λ v. v.bit) e)) | inl b ↦ inl (λ j. record { inst = i j; port = p j; bit = b j }) ]
  ]
]

ends_known : (libs : List design.Lib) (ports : List design.Port) (insts : List design.Inst) (ts : List (Placed × ℕ × ℕ)) (es : List design.End) → AllZip (MeansRowEnd libs ports insts) ts es → AreDistinct es ⊎ Faulty (λ f. AtTwo (SameEnd libs ports insts f) ts)
ends_known libs ports insts ts es h = elim (distinct_known (MeansRowEnd libs ports insts) (λ f a b. SameEnd libs ports insts f a b) (λ e. e) end_same (λ a b x m n. (Clash EndTwice (place_of b.0) (place_of a.0), (x, m, n, refl))) ts es h) [
  | inr b ↦ inr b
  | inl d ↦ inl (subst AreDistinct (map-id es) d)
]

-- the names of nets
net_names_known : (ts : List (List ℕ × ℕ)) (ns : List design.Net) → AllZip GivesName ts ns → AreDistinct (map (λ (n : design.Net). n.name.id) ns) ⊎ Faulty (λ f. AtTwo (SameOfTwo f) ts)
net_names_known ts ns h = distinct_known (λ (a : List ℕ × ℕ) x. a.0 ≡ x) (λ f a b. SameOfTwo f a b) (λ (n : design.Net). n.name.id) bytes_same (λ a b x m n. (Clash Duplicate b.1 a.1, (m ∙ sym n, refl))) ts ns h

-- contents
pub contents_known : (libs : List design.Lib) (own : Option ℕ) (ports : List design.Port) (t : Placed) → IsOf (has_keyword keywords.Contents) t → Meant (MeansContents libs own ports) (λ c. IsTypedContents c × FineContents c) t ⊎ Faulty (ContentsFault libs own ports t)
contents_known libs own ports t h = elim (known0 keywords.Contents (Many keywords.Instance ∷ Many keywords.Net ∷ Many keywords.Comment ∷ Many keywords.UserData ∷ []) t refl h.0) [
  | inr b ↦ inr (b.0, stands.contents_row b.1)
  | inl s ↦ elim (each_in (MeansInst libs own) (λ i. IsTypedInst i × HasDistinctKeys i.properties) (InstFault libs own) keywords.Contents keywords.Instance t (inst_known libs own) h.1) [
    | inr b ↦ inr (b.0, stands.contents_inst b.1)
    | inl x ↦ (let e : map bare (insts_in t) ≡ those keywords.Instance (map bare (followers keywords.Contents t)) = parts_bare keywords.Contents keywords.Instance t in
        let d : map bare (nets_in t) ≡ those keywords.Net (map bare (followers keywords.Contents t)) = parts_bare keywords.Contents keywords.Net t in
        let xs : Each (MeansInst libs own) (map bare (insts_in t)) x.0 = subst (λ v. Each (MeansInst libs own) v x.0) (sym e) x.1 in
        elim (each_in (MeansNet libs ports x.0) FineForm (NetFault libs ports x.0) keywords.Contents keywords.Net t (net_known libs ports x.0) h.1) [
          | inr b ↦ inr (b.0, stands.contents_nets (stands.one_net x.0 xs b.1))
          | inl y ↦ (let nets : AllZip (λ u n. MeansNet libs ports x.0 (bare u) n) (nets_in t) y.0 = each_with (MeansNet libs ports x.0) (λ u n. MeansNet libs ports x.0 (bare u) n) (λ u n k. k) (nets_in t) (those keywords.Net (map bare (followers keywords.Contents t))) y.0 d y.1 in
              let all : List design.Net = flat_map nets_of y.0 in
              let ends : AllZip (MeansRowEnd libs ports x.0) (flat_map row_ends (nets_in t)) (flat_map (λ (n : design.Net). n.ends) all) = row_ends_of libs ports x.0 (nets_in t) y.0 nets in
              let names : AllZip GivesName (flat_map net_names_in (nets_in t)) all = zip_flat (λ u n. MeansNet libs ports x.0 (bare u) n) GivesName net_names_in nets_of (net_names_are libs ports x.0) (nets_in t) y.0 nets in
              let fine = rows_fine y.0 y.2 in
              let ln : length (insts_in t) ≡ length x.0 = each_count (MeansInst libs own) (insts_in t) (those keywords.Instance (map bare (followers keywords.Contents t))) x.0 e x.1 in
              let mn : length (repeated declared_width (nets_in t)) ≡ length all = nets_counted libs ports x.0 (nets_in t) y.0 nets in
              let en : length (flat_map row_ends (nets_in t)) ≡ length (flat_map (λ (n : design.Net). n.ends) all) = zip_length (MeansRowEnd libs ports x.0) (flat_map row_ends (nets_in t)) (flat_map (λ (n : design.Net). n.ends) all) ends in
              let ec = ends_counted (nets_in t) in
              elim (ends_known libs ports x.0 (flat_map row_ends (nets_in t)) (flat_map (λ (n : design.Net). n.ends) all) ends) [
                | inr b ↦ inr (b.0, stands.contents_nets (stands.end_again x.0 xs b.1))
                | inl once ↦ elim (names_known (λ (i : design.Inst). i.name.id) (insts_in t) x.0 (each_with (MeansInst libs own) (λ u i. IsNamed u i.name.id) (inst_named libs own) (insts_in t) (those keywords.Instance (map bare (followers keywords.Contents t))) x.0 e x.1)) [
                  | inr b ↦ inr (b.0, stands.inst_again b.1)
                  | inl di ↦ elim (net_names_known (flat_map net_names_in (nets_in t)) all names) [
                    | inr b ↦ inr (b.0, stands.net_again b.1)
                    | inl dn ↦ elim (beyond_known 1048576 (insts_in t)) [
                      | inr b ↦ inr (b.0, stands.many_insts b.1)
                      | inl li ↦ elim (beyond_known 1048576 (repeated declared_width (nets_in t))) [
                        | inr b ↦ inr (b.0, stands.many_nets b.1)
                        | inl lm ↦ elim (beyond_known 4194304 (flat_map counted_ends (nets_in t))) [
                          | inr b ↦ inr (b.0, stands.many_ends b.1)
                          | inl le ↦ inl (
                            record { insts = x.0; nets = all },
                            record { inner = map bare (followers keywords.Contents t); form = s.form; insts = x.1; rows = y.0; written = y.1; nets = refl },
                            (
                              record { insts = All-from_recursion IsTypedInst x.0 (first_all IsTypedInst (λ (i : design.Inst). HasDistinctKeys i.properties) x.0 x.2); nets = All-from_recursion IsTypedNet all (first_all IsTypedNet (λ (n : design.Net). HasDistinctKeys n.properties) all fine) },
                              record {
                                insts = omega (arith, ln, li);
                                nets = omega (arith, mn, lm);
                                ends = omega (arith, en, ec, le);
                                inst_names = di;
                                net_names = dn;
                                inst_keys = second_all IsTypedInst (λ (i : design.Inst). HasDistinctKeys i.properties) x.0 x.2;
                                net_keys = second_all IsTypedNet (λ (n : design.Net). HasDistinctKeys n.properties) all fine;
                                joined_once = once;
                              },
                            ),
                          )
                        ]
                      ]
                    ]
                  ]
                ]
              ])
        ])
  ]
]

-- views
type_known : (t : Placed) → IsOf (has_keyword keywords.ViewType) t → IsNetlist (bare t) ⊎ Faulty (TypeFault t)
type_known t h = elim (known1 keywords.ViewType identifier [] t refl h) [
  | inr b ↦ inr (b.0, stands.view_type_row b.1)
  | inl s ↦ (let a = word_choice s.a s.is_a in
      let f : IsFormOf keywords.ViewType (bare t) (bare s.a ∷ []) [] = follow_none keywords.ViewType (identifier ∷ []) (bare t) (bare s.a ∷ []) (map bare (followers keywords.ViewType t)) refl s.form in
      elim (cases_Bool (is_netlist a.1)) [
        | inr e ↦ inr (At NotNetlist a.0, stands.other_view_type (s.a, s.at_a, (a.1, a.0, a.2, e, refl)))
        | inl e ↦ inl (a.1, subst (λ x. IsFormOf keywords.ViewType (bare t) (bare x ∷ []) []) a.2 f, e)
      ])
]

-- what is known of the parts of a cell that its view says
pub record FineView (c : design.CellBody) : Type 0 where
  pub view : IsTypedName c.view
  pub view_typed : All IsTypedProperty c.view_properties
  pub view_keys : HasDistinctKeys c.view_properties
  pub interface_typed : All IsTypedProperty c.interface_properties
  pub ports_typed : All IsTypedPort c.ports
  pub interface : FineInterface c
  pub contents : IfSome c.contents (λ x. IsTypedContents x × FineContents x)

view_known : (libs : List design.Lib) (own : Option ℕ) (t : Placed) → IsOf (has_keyword keywords.View) t → Meant (MeansView libs own) FineView t ⊎ Faulty (ViewFault libs own t)
view_known libs own t h = elim (known3 keywords.View name_definition (the keywords.ViewType) (the keywords.Interface) (Many keywords.Status ∷ One keywords.Contents ∷ Many keywords.Property ∷ Many keywords.Comment ∷ Many keywords.UserData ∷ []) t refl h) [
  | inr b ↦ inr (b.0, stands.view_row b.1)
  | inl s ↦ elim (name_known s.a s.written_a s.is_a) [
    | inr b ↦ inr (b.0, stands.view_name (s.a, s.at_a, b.1))
    | inl n ↦ elim (type_known s.b (form_choice keywords.ViewType s.b s.is_b, s.written_b)) [
      | inr b ↦ inr (b.0, stands.view_type (s.b, s.at_b, form_choice keywords.ViewType s.b s.is_b, b.1))
      | inl y ↦ elim (interface_known s.x (form_choice keywords.Interface s.x s.is_x, s.written_x)) [
        | inr b ↦ inr (b.0, stands.view_interface (s.x, s.at_x, form_choice keywords.Interface s.x s.is_x, b.1))
        | inl i ↦ (let ps : Each MeansPort (map bare (ports_in s.x)) i.ports = subst (λ v. Each MeansPort v i.ports) (sym (parts_bare keywords.Interface keywords.Port s.x)) i.mean in
            elim (perhaps_in (MeansContents libs own i.ports) (λ c. IsTypedContents c × FineContents c) (ContentsFault libs own i.ports) keywords.View keywords.Contents t (contents_known libs own i.ports) h.1 s.form.fits.2.0) [
              | inr b ↦ inr (b.0, stands.view_contents (record { interface = s.x; ports = i.ports; there = s.at_x; is_interface = form_choice keywords.Interface s.x s.is_x; means = ps; fault = b.1 }))
              | inl o ↦ elim (properties_known keywords.View t h.1) [
                | inr b ↦ inr (b.0, stands.view_properties b.1)
                | inl qs ↦ inl (
                  record { name = n.0; kind = kinds.Generic; properties = []; view = n.0; view_properties = qs.list; interface_properties = i.properties.list; ports = i.ports; contents = o.0 },
                  record {
                    name_part = bare s.a;
                    type_part = bare s.b;
                    interface_part = bare s.x;
                    inner = map bare (followers keywords.View t);
                    form = s.form;
                    name = n.1;
                    netlist = y;
                    interface = record { inner = map bare (followers keywords.Interface s.x); form = i.form; ports = i.mean; properties = i.properties.mean };
                    contents = o.1;
                    properties = qs.mean;
                  },
                  record {
                    view = n.2;
                    view_typed = qs.typed;
                    view_keys = qs.keys;
                    interface_typed = i.properties.typed;
                    ports_typed = i.typed;
                    interface = record { ports = i.count; bits = i.bits; names = i.names; keys = i.properties.keys; port_keys = recursion_from_All (λ (p : design.Port). HasDistinctKeys p.properties) i.ports i.port_keys };
                    contents = o.2;
                  },
                )
              ]
            ])
      ]
    ]
  ]
]

-- cells
kind_of : (w : List ℕ) → is_cell_type w ≡ true → (k : design.CellKind) × IsTrue (same w (kind_word k))
kind_of w h = elim (or_cases (same w (kind_word kinds.Generic)) (same w (kind_word kinds.Tie) || same w (kind_word kinds.Ripper)) h) [
  | inl e ↦ (kinds.Generic, e)
  | inr e ↦ elim (or_cases (same w (kind_word kinds.Tie)) (same w (kind_word kinds.Ripper)) e) [ inl g ↦ (kinds.Tie, g) | inr g ↦ (kinds.Ripper, g) ]
]

kind_known : (t : Placed) → IsOf (has_keyword keywords.CellType) t → ((k : design.CellKind) × MeansKind (bare t) k) ⊎ Faulty (CellTypeFault t)
kind_known t h = elim (known1 keywords.CellType identifier [] t refl h) [
  | inr b ↦ inr (b.0, stands.cell_type_row b.1)
  | inl s ↦ (let a = word_choice s.a s.is_a in
      let f : IsFormOf keywords.CellType (bare t) (bare s.a ∷ []) [] = follow_none keywords.CellType (identifier ∷ []) (bare t) (bare s.a ∷ []) (map bare (followers keywords.CellType t)) refl s.form in
      elim (cases_Bool (is_cell_type a.1)) [
        | inr e ↦ inr (At BadForm a.0, stands.other_cell_type (s.a, s.at_a, (a.1, a.0, a.2, e, refl)))
        | inl e ↦ (let d = kind_of a.1 e in inl (d.0, (a.1, subst (λ x. IsFormOf keywords.CellType (bare t) (bare x ∷ []) []) a.2 f, d.1)))
      ])
]

-- the view of a cell
one_view_known : (libs : List design.Lib) (own : Option ℕ) (ts : List Placed) → AllByRecursion (IsOf (has_keyword keywords.View)) ts → length ts ≤ 1
    → ((c : design.CellBody) × Just (λ v b. MeansView libs own v b) (map bare ts) c × FineView c) ⊎ (Faulty (Among (ViewFault libs own) ts) ⊎ (ts ≡ []))
one_view_known libs own [] h l = inr (inr refl)
one_view_known libs own (t ∷ u ∷ ts) h l = absurd (omega arith)
one_view_known libs own (t ∷ []) h l = elim (view_known libs own t h.0) [ inr b ↦ inr (inl (b.0, inl b.1)) | inl x ↦ inl x ]

-- a view says the same of a cell with another name, type and properties
other_head : (libs : List design.Lib) (own : Option ℕ) (ts : List Bare) (c : design.CellBody) (n : design.Name) (k : design.CellKind) (ps : List design.Property) → Just (λ v b. MeansView libs own v b) ts c → Just (λ v b. MeansView libs own v b) ts (record c { name = n; kind = k; properties = ps })
other_head libs own [] c n k ps h = absurd h
other_head libs own (t ∷ u ∷ ts) c n k ps h = absurd h
other_head libs own (t ∷ []) c n k ps h = record {
  name_part = h.name_part;
  type_part = h.type_part;
  interface_part = h.interface_part;
  inner = h.inner;
  form = h.form;
  name = h.name;
  netlist = h.netlist;
  interface = record { inner = h.interface.inner; form = h.interface.form; ports = h.interface.ports; properties = h.interface.properties };
  contents = h.contents;
  properties = h.properties;
}

-- what contents give their cell
pub record FineInside (insts : List design.Inst) (nets : List design.Net) : Type 0 where
  pub insts_count : length insts ≤ 1048576
  pub nets_count : length nets ≤ 1048576
  pub ends_count : length (flat_map (λ (n : design.Net). n.ends) nets) ≤ 4194304
  pub inst_names : AreDistinct (map (λ (i : design.Inst). i.name.id) insts)
  pub net_names : AreDistinct (map (λ (n : design.Net). n.name.id) nets)
  pub inst_keys : All (λ (i : design.Inst). HasDistinctKeys i.properties) insts
  pub net_keys : All (λ (n : design.Net). HasDistinctKeys n.properties) nets
  pub joined_once : AreDistinct (flat_map (λ (n : design.Net). n.ends) nets)
  pub insts_typed : All IsTypedInst insts
  pub nets_typed : All IsTypedNet nets

pub nothing_inside : FineInside [] []
nothing_inside = record {
  insts_count = omega arith;
  nets_count = omega arith;
  ends_count = omega arith;
  inst_names = differ_distinct [] tt;
  net_names = differ_distinct [] tt;
  inst_keys = All-from_recursion (λ (i : design.Inst). HasDistinctKeys i.properties) [] tt;
  net_keys = All-from_recursion (λ (n : design.Net). HasDistinctKeys n.properties) [] tt;
  joined_once = differ_distinct [] tt;
  insts_typed = All-from_recursion IsTypedInst [] tt;
  nets_typed = All-from_recursion IsTypedNet [] tt;
}

inside : (o : Option design.Contents) → IfSome o (λ x. IsTypedContents x × FineContents x) → FineInside (insts_inside o) (nets_inside o)
inside None h = nothing_inside
inside (Some x) h = record {
  insts_count = h.1.insts;
  nets_count = h.1.nets;
  ends_count = h.1.ends;
  inst_names = h.1.inst_names;
  net_names = h.1.net_names;
  inst_keys = All-from_recursion (λ (i : design.Inst). HasDistinctKeys i.properties) x.insts h.1.inst_keys;
  net_keys = All-from_recursion (λ (n : design.Net). HasDistinctKeys n.properties) x.nets h.1.net_keys;
  joined_once = h.1.joined_once;
  insts_typed = h.0.insts;
  nets_typed = h.0.nets;
}

pub cell_known : (libs : List design.Lib) (own : Option ℕ) (t : Placed) → IsOf (has_keyword keywords.Cell) t → Meant (MeansCell libs own) (λ c. IsTypedCell c × FineCell c) t ⊎ Faulty (CellFault libs own t)
cell_known libs own t h = elim (known2 keywords.Cell name_definition (the keywords.CellType) (Many keywords.Status ∷ One keywords.View ∷ Many keywords.Property ∷ Many keywords.Comment ∷ Many keywords.UserData ∷ []) t refl h) [
  | inr b ↦ inr (b.0, stands.cell_row b.1)
  | inl s ↦ elim (name_known s.a s.written_a s.is_a) [
    | inr b ↦ inr (b.0, stands.cell_name (s.a, s.at_a, b.1))
    | inl n ↦ elim (kind_known s.b (form_choice keywords.CellType s.b s.is_b, s.written_b)) [
      | inr b ↦ inr (b.0, stands.cell_type (s.b, s.at_b, form_choice keywords.CellType s.b s.is_b, b.1))
      | inl k ↦ (let l : length (parts keywords.Cell keywords.View t) ≡ length (those keywords.View (map bare (followers keywords.Cell t))) = parts_length keywords.Cell keywords.View t in
          let m : length (those keywords.View (map bare (followers keywords.Cell t))) ≤ 1 = s.form.fits.2.0 in
          elim (one_view_known libs own (parts keywords.Cell keywords.View t) (parts_of keywords.Cell keywords.View t h.1) (omega (arith, l, m))) [
            | inr (inl b) ↦ inr (b.0, stands.cell_view b.1)
            | inr (inr e) ↦ inr (At BadForm (place_of t), stands.without_view e refl)
            | inl v ↦ elim (properties_known keywords.Cell t h.1) [
              | inr b ↦ inr (b.0, stands.cell_properties b.1)
              | inl ps ↦ (let c : design.CellBody = record v.0 { name = n.0; kind = k.0; properties = ps.list } in
                  let i : FineInside (insts_of v.0) (nets_of_cell v.0) = inside v.0.contents v.2.contents in
                  let w : Just (λ u b. MeansView libs own u b) (those keywords.View (map bare (followers keywords.Cell t))) c =
                  subst (λ us. Just (λ u b. MeansView libs own u b) us c) (parts_bare keywords.Cell keywords.View t) (other_head libs own (map bare (parts keywords.Cell keywords.View t)) v.0 n.0 k.0 ps.list v.1) in
                  inl (
                    c,
                    record { name_part = bare s.a; kind_part = bare s.b; inner = map bare (followers keywords.Cell t); form = s.form; name = n.1; kind = k.1; view = w; properties = ps.mean },
                    (
                      record { name = n.2; properties = ps.typed; view = v.2.view; view_properties = v.2.view_typed; interface_properties = v.2.interface_typed; ports = v.2.ports_typed; insts = i.insts_typed; nets = i.nets_typed },
                      record {
                        limits = record { ports = v.2.interface.ports; bits = v.2.interface.bits; insts = i.insts_count; nets = i.nets_count; ends = i.ends_count };
                        names = record {
                          ports = v.2.interface.names;
                          insts = i.inst_names;
                          nets = i.net_names;
                          properties = ps.keys;
                          view_properties = v.2.view_keys;
                          interface_properties = v.2.interface.keys;
                          port_properties = All-from_recursion (λ (p : design.Port). HasDistinctKeys p.properties) v.0.ports v.2.interface.port_keys;
                          inst_properties = i.inst_keys;
                          net_properties = i.net_keys;
                        };
                        joined_once = i.joined_once;
                      },
                    ),
                  ))
            ]
          ])
    ]
  ]
]
