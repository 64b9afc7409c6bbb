-- A form means something, or a fault stands in it: from names to interfaces.
use Rattle.std.proofs.Common.{◌≡◌, ℕ, ◌+◌, ◌<◌, ◌≤◌, ◌^◌, ℤ, pos, negsuc, List, [], ◌∷◌, map, length, refl, ap, sym, ◌∙◌, subst, ◌⊎◌, inl, inr, true, false, Option, Some, None, arith}
use Rattle.std.specs.Prelude.{IsTrue, ◌||◌, IfSome, sum_by, FitsSigned, nat_lt, nat_le}
use Rattle.std.specs.Int.{w32}
use Rattle.std.specs.List.{AllZip, AllByRecursion, All, list_all, fold}
use Rattle.std.proofs.lemmas.List.Elements.{All-from_recursion}
use Rattle.std.proofs.lemmas.Bool.Decides.{nat_tests}
use Rattle.std.proofs.lemmas.Bool.{cases_Bool, or_cases, or_left}
use Rattle.std.proofs.lemmas.List.{length-map}
use Rattle.netlist_schema.specs.Design.{port_width}
use Rattle.netlist_schema.specs.Names.{AreDistinct, HasDistinctKeys}
use Rattle.netlist_schema.specs.Typed.{IsBytes, IsTypedName, IsTypedNum, IsTypedValue, IsTypedProperty, IsTypedPort}
use Rattle.netlist_schema.specs.Width.{IsWidth}
use Rattle.edif_spelling_spec.specs.Tree.{Bare, Placed, Form', Word', Integer', String', integer, bare}
use Rattle.edif_spec.specs.Keyword.{same, row, FormRow, Takes, Choice, AnInteger, AForm, Many, One, name_definition, bus_name, identifier}
use Rattle.edif_spec.specs.Keyword as keyword
use Rattle.edif_spec.specs.Rows.{has_keyword, those, is_one_of, is_follower, FitsRow, IsFormOf, Each, Perhaps}
use Rattle.edif_spec.specs.Canonical.{direction_word}
use Rattle.edif_spec.specs.Means.{MeansName, MeansText, MeansBoolean, MeansNumber, MeansValue, MeansProperty, MeansProperties, MeansDirection, MeansBusName, MeansPort}
use Rattle.edif_spec.specs.Faults.{place_of, followers, parts, Among, RowFault, BeyondBits, declared_width}
use Rattle.edif_spec.specs.Stands.{NameFault, BooleanFault, NumberFault, InValue, PropertyFault, PropertiesFault, is_direction, DirectionFault, BusNameFault, PortFault, ports_in, InterfaceFault}
use Rattle.edif_spec.specs.Stands as stands
use Rattle.edif_spec.specs.Design as design
use Rattle.edif_spec.specs.declared.keyword.Keyword.{Keyword}
use Rattle.edif_spec.specs.declared.keyword.Keyword.TheVariants as keywords
use Rattle.edif_spec.specs.declared.fault.Kind.TheVariants.{BadForm, BadIndex}
use Rattle.edif_spec.specs.declared.fault.MeaningFault.{MeaningFault}
use Rattle.edif_spec.specs.declared.fault.MeaningFault.TheVariants.{At, OverLimit}
use Rattle.netlist_schema.specs.declared.property.Num.TheVariants as numbers
use Rattle.netlist_schema.specs.declared.property.Value.TheVariants as values
use Rattle.netlist_schema.specs.declared.cell.Direction.TheVariants as directions
use Rattle.edif_spec.proofs.FaultForms.{each_length, filter_bare, each_with, IsNamed}
use Rattle.edif_spec.proofs.FaultsApart.{property_named, port_named, port_declares}
use Rattle.edif_spec.proofs.KnownForms.{Faulty, Written, IsOf, Meant, each_known, perhaps_known, beyond_known, names_known, parts_of, word_choice, integer_choice, string_choice, only, known0, known1, known2}

-- no follower stands where none may
none_follows : (us : List Bare) → IsTrue (list_all (is_follower []) us) → us ≡ []
none_follows [] h = refl
none_follows (u ∷ us) h = absurd (cc h)

pub exactly : (k : Keyword) (t : Bare) (fixed us : List Bare) → us ≡ [] → IsFormOf k t fixed us → IsFormOf k t fixed []
exactly k t fixed us e h = subst (λ v. IsFormOf k t fixed v) e h

pub follow_none : (k : Keyword) (cs : List (List Choice)) (t : Bare) (fixed us : List Bare) → row k ≡ Takes cs [] → IsFormOf k t fixed us → IsFormOf k t fixed []
follow_none k cs t fixed us r h =
    let P : FormRow → Type 0 = λ v. FitsRow v fixed us in
    let f = subst P r h.fits in
    exactly k t fixed us (none_follows us f.1) h

-- a part of a form, and the followers of one keyword
pub perhaps_in : {A : Type 0} (M : Bare → A → Type 0) (V : A → Type 0) (F : Placed → MeaningFault → Type 0) (k j : Keyword) (t : Placed) → ((u : Placed) → IsOf (has_keyword j) u → Meant M V u ⊎ Faulty (F u)) → Written t → length (those j (map bare (followers k t))) ≤ 1
    → ((o : Option A) × Perhaps M (those j (map bare (followers k t))) o × IfSome o V) ⊎ Faulty (Among F (parts k j t))
perhaps_in {A} M V F k j t f w l =
    let e : map bare (parts k j t) ≡ those j (map bare (followers k t)) = filter_bare (has_keyword j) (followers k t) in
    let n : length (parts k j t) ≡ length (those j (map bare (followers k t))) = sym (length-map (parts k j t) bare) ∙ ap length e in
    elim (perhaps_known M V F (IsOf (has_keyword j)) f (parts k j t) (parts_of k j t w) (omega (arith, l, n))) [ inl x ↦ inl (x.0, subst (λ v. Perhaps M v x.0) e x.1, x.2) | inr b ↦ inr b ]

pub each_in : {A : Type 0} (M : Bare → A → Type 0) (V : A → Type 0) (F : Placed → MeaningFault → Type 0) (k j : Keyword) (t : Placed) → ((u : Placed) → IsOf (has_keyword j) u → Meant M V u ⊎ Faulty (F u)) → Written t
    → ((xs : List A) × Each M (those j (map bare (followers k t))) xs × AllByRecursion V xs) ⊎ Faulty (Among F (parts k j t))
each_in {A} M V F k j t f w =
    let e : map bare (parts k j t) ≡ those j (map bare (followers k t)) = filter_bare (has_keyword j) (followers k t) in
    elim (each_known M V F (IsOf (has_keyword j)) f (parts k j t) (parts_of k j t w)) [ inl x ↦ inl (x.0, subst (λ v. Each M v x.0) e x.1, x.2) | inr b ↦ inr b ]

-- names
pub name_known : (t : Placed) → Written t → is_one_of name_definition (bare t) ≡ true → Meant MeansName IsTypedName t ⊎ Faulty (NameFault t)
name_known (Word' p w) v h = inl (record { id = w; shown = None }, inl (refl, refl), record { id = v; shown = tt })
name_known (Integer' p z) v h = absurd (cc h)
name_known (String' p s) v h = absurd (cc h)
name_known (Form' p ts) v h =
    let t : Placed = Form' p ts in
    let k : has_keyword keywords.Rename (bare t) ≡ true = only (has_keyword keywords.Rename (bare t)) h in
    elim (known2 keywords.Rename identifier keyword.string [] t refl (k, v)) [
      | inr b ↦ inr (b.0, (k, b.1))
      | inl s ↦ (let a = word_choice s.a s.is_a in let b = string_choice s.b s.is_b in
          let P : Placed → Placed → Type 0 = λ x y. IsFormOf keywords.Rename (bare t) (bare x ∷ bare y ∷ []) [] in
          let f : P s.a s.b = follow_none keywords.Rename (identifier ∷ keyword.string ∷ []) (bare t) (bare s.a ∷ bare s.b ∷ []) (map bare (followers keywords.Rename t)) refl s.form in
          let g : P (Word' a.0 a.1) s.b = subst (λ x. P x s.b) a.2 f in
          let i : P (Word' a.0 a.1) (String' b.0 b.1) = subst (λ y. P (Word' a.0 a.1) y) b.2 g in
          inl (record { id = a.1; shown = Some b.1 }, inr (b.1, i, refl), record { id = subst Written a.2 s.written_a; shown = subst Written b.2 s.written_b }))
    ]

-- designator and owner, and strings
pub text_known : (k : Keyword) (t : Placed) → row k ≡ Takes (keyword.string ∷ []) [] → IsOf (has_keyword k) t → Meant (MeansText k) IsBytes t ⊎ Faulty (RowFault k t)
text_known k t r h = elim (known1 k keyword.string [] t r h) [
  | inr b ↦ inr b
  | inl s ↦ (let a = string_choice s.a s.is_a in
      let f : IsFormOf k (bare t) (bare s.a ∷ []) [] = follow_none k (keyword.string ∷ []) (bare t) (bare s.a ∷ []) (map bare (followers k t)) r s.form in
      inl (a.1, subst (λ x. IsFormOf k (bare t) (bare x ∷ []) []) a.2 f, subst Written a.2 s.written_a))
]

-- values
boolean_known : (t : Placed) → Written t → is_one_of (AForm keywords.True ∷ AForm keywords.False ∷ []) (bare t) ≡ true → Meant MeansBoolean (λ b. Unit {0}) t ⊎ Faulty (BooleanFault t)
boolean_known t v h = elim (or_cases (has_keyword keywords.True (bare t)) (has_keyword keywords.False (bare t) || false) h) [
  | inl k ↦ elim (known0 keywords.True [] t refl k) [ inr b ↦ inr (b.0, stands.true_row k b.1) | inl s ↦ inl (true, follow_none keywords.True [] (bare t) [] (map bare (followers keywords.True t)) refl s.form, tt) ]
  | inr k ↦ (let g : has_keyword keywords.False (bare t) ≡ true = only (has_keyword keywords.False (bare t)) k in
      elim (known0 keywords.False [] t refl g) [ inr b ↦ inr (b.0, stands.false_row g b.1) | inl s ↦ inl (false, follow_none keywords.False [] (bare t) [] (map bare (followers keywords.False t)) refl s.form, tt) ])
]

fits_32 : (z : ℤ) → FitsSigned w32 z ⊎ (¬ FitsSigned w32 z)
fits_32 (pos n) = elim (cases_Bool (nat_lt n (2 ^ 31))) [ inl e ↦ inl (record { sfits = grind (arith, nat_tests) }) | inr e ↦ inr (λ f. let l = f.sfits in grind (arith, nat_tests)) ]
fits_32 (negsuc n) = elim (cases_Bool (nat_lt n (2 ^ 31))) [ inl e ↦ inl (record { sfits = grind (arith, nat_tests) }) | inr e ↦ inr (λ f. let l = f.sfits in grind (arith, nat_tests)) ]

number_known : (t : Placed) → Written t → is_one_of (AnInteger ∷ AForm keywords.E ∷ []) (bare t) ≡ true → Meant MeansNumber IsTypedNum t ⊎ Faulty (NumberFault t)
number_known (Integer' p z) v h = inl (numbers.Int z, refl, v)
number_known (Word' p w) v h = absurd (cc h)
number_known (String' p s) v h = absurd (cc h)
number_known (Form' p ts) v h =
    let t : Placed = Form' p ts in
    let k : has_keyword keywords.E (bare t) ≡ true = only (has_keyword keywords.E (bare t)) h in
    elim (known2 keywords.E keyword.integer keyword.integer [] t refl (k, v)) [
      | inr b ↦ inr (b.0, stands.scaled_row k b.1)
      | inl s ↦ (let a = integer_choice s.a s.is_a in let b = integer_choice s.b s.is_b in
          let P : Placed → Placed → Type 0 = λ x y. IsFormOf keywords.E (bare t) (bare x ∷ bare y ∷ []) [] in
          let f : P s.a s.b = follow_none keywords.E (keyword.integer ∷ keyword.integer ∷ []) (bare t) (bare s.a ∷ bare s.b ∷ []) (map bare (followers keywords.E t)) refl s.form in
          let i : P (Integer' a.0 a.1) (Integer' b.0 b.1) = subst (λ y. P (Integer' a.0 a.1) y) b.2 (subst (λ x. P x s.b) a.2 f) in
          elim (fits_32 b.1) [
            | inl e ↦ inl (numbers.Scaled a.1 b.1, (i, e), (subst Written a.2 s.written_a, e))
            | inr n ↦ inr (At BadForm b.0, stands.scaled_exponent k (s.b, s.at_b, (b.1, b.0, b.2, n, refl)))
          ])
    ]

value_known : (t : Placed) → Written t → is_one_of (AForm keywords.Boolean ∷ AForm keywords.Integer ∷ AForm keywords.Number ∷ AForm keywords.String ∷ []) (bare t) ≡ true → Meant MeansValue IsTypedValue t ⊎ Faulty (InValue t)
value_known t v h = elim (or_cases (has_keyword keywords.Boolean (bare t)) (has_keyword keywords.Integer (bare t) || (has_keyword keywords.Number (bare t) || (has_keyword keywords.String (bare t) || false))) h) [
  | inl k ↦ elim (known1 keywords.Boolean (AForm keywords.True ∷ AForm keywords.False ∷ []) [] t refl (k, v)) [
    | inr b ↦ inr (b.0, stands.boolean_row k b.1)
    | inl s ↦ elim (boolean_known s.a s.written_a s.is_a) [
      | inr b ↦ inr (b.0, stands.boolean_truth k (s.a, s.at_a, b.1))
      | inl x ↦ inl (values.Boolean x.0, (bare s.a, follow_none keywords.Boolean ((AForm keywords.True ∷ AForm keywords.False ∷ []) ∷ []) (bare t) (bare s.a ∷ []) (map bare (followers keywords.Boolean t)) refl s.form, x.1), tt)
    ]
  ]
  | inr k ↦ elim (or_cases (has_keyword keywords.Integer (bare t)) (has_keyword keywords.Number (bare t) || (has_keyword keywords.String (bare t) || false)) k) [
    | inl g ↦ elim (known1 keywords.Integer keyword.integer [] t refl (g, v)) [
      | inr b ↦ inr (b.0, stands.integer_row g b.1)
      | inl s ↦ (let a = integer_choice s.a s.is_a in
          let f : IsFormOf keywords.Integer (bare t) (bare s.a ∷ []) [] = follow_none keywords.Integer (keyword.integer ∷ []) (bare t) (bare s.a ∷ []) (map bare (followers keywords.Integer t)) refl s.form in
          inl (values.Integer a.1, subst (λ x. IsFormOf keywords.Integer (bare t) (bare x ∷ []) []) a.2 f, subst Written a.2 s.written_a))
    ]
    | inr g ↦ elim (or_cases (has_keyword keywords.Number (bare t)) (has_keyword keywords.String (bare t) || false) g) [
      | inl i ↦ elim (known1 keywords.Number (AnInteger ∷ AForm keywords.E ∷ []) [] t refl (i, v)) [
        | inr b ↦ inr (b.0, stands.number_row i b.1)
        | inl s ↦ elim (number_known s.a s.written_a s.is_a) [
          | inr b ↦ inr (b.0, stands.number_scaled i (s.a, s.at_a, b.1))
          | inl x ↦ inl (values.Number x.0, (bare s.a, follow_none keywords.Number ((AnInteger ∷ AForm keywords.E ∷ []) ∷ []) (bare t) (bare s.a ∷ []) (map bare (followers keywords.Number t)) refl s.form, x.1), x.2)
        ]
      ]
      | inr i ↦ (let j : has_keyword keywords.String (bare t) ≡ true = only (has_keyword keywords.String (bare t)) i in
          elim (text_known keywords.String t refl (j, v)) [ inr b ↦ inr (b.0, stands.string_row j b.1) | inl x ↦ inl (values.Text x.0, x.1, x.2) ])
    ]
  ]
]

-- properties
abbrev pub value_choices : List Choice
value_choices = AForm keywords.Boolean ∷ AForm keywords.Integer ∷ AForm keywords.Number ∷ AForm keywords.String ∷ []

pub property_known : (t : Placed) → IsOf (has_keyword keywords.Property) t → Meant MeansProperty IsTypedProperty t ⊎ Faulty (PropertyFault t)
property_known t h = elim (known2 keywords.Property name_definition value_choices (One keywords.Owner ∷ Many keywords.Comment ∷ []) t refl h) [
  | inr b ↦ inr (b.0, stands.property_row b.1)
  | inl s ↦ elim (name_known s.a s.written_a s.is_a) [
    | inr b ↦ inr (b.0, stands.property_key (s.a, s.at_a, b.1))
    | inl key ↦ elim (value_known s.b s.written_b s.is_b) [
      | inr b ↦ inr (b.0, stands.property_value (s.b, s.at_b, b.1))
      | inl value ↦ elim (perhaps_in (MeansText keywords.Owner) IsBytes (RowFault keywords.Owner) keywords.Property keywords.Owner t (λ u w. text_known keywords.Owner u refl w) h.1 s.form.fits.2.0) [
        | inr b ↦ inr (b.0, stands.property_owner b.1)
        | inl owner ↦ inl (
          record { key = key.0; value = value.0; owner = owner.0 },
          record { key_part = bare s.a; value_part = bare s.b; inner = map bare (followers keywords.Property t); form = s.form; key = key.1; value = value.1; owner = owner.1 },
          record { key = key.2; value = value.2; owner = owner.2 },
        )
      ]
    ]
  ]
]

-- the properties of an owner, with keys that differ
pub record KnownProperties (k : Keyword) (t : Placed) : Type 0 where
  pub list : List design.Property
  pub mean : MeansProperties (map bare (followers k t)) list
  pub typed : All IsTypedProperty list
  pub keys : HasDistinctKeys list

pub properties_known : (k : Keyword) (t : Placed) → Written t → KnownProperties k t ⊎ Faulty (PropertiesFault (parts k keywords.Property t))
properties_known k t w = elim (each_in MeansProperty IsTypedProperty PropertyFault k keywords.Property t property_known w) [
  | inr b ↦ inr (b.0, stands.one_property b.1)
  | inl x ↦ (let e : map bare (parts k keywords.Property t) ≡ those keywords.Property (map bare (followers k t)) = filter_bare (has_keyword keywords.Property) (followers k t) in
      elim (names_known (λ (p : design.Property). p.key.id) (parts k keywords.Property t) x.0 (each_with MeansProperty (λ u p. IsNamed u p.key.id) property_named (parts k keywords.Property t) (those keywords.Property (map bare (followers k t))) x.0 e x.1)) [
        | inr b ↦ inr (b.0, stands.key_again b.1)
        | inl d ↦ inl (record { list = x.0; mean = x.1; typed = All-from_recursion IsTypedProperty x.0 x.2; keys = d })
      ])
]

-- directions
direction_of : (w : List ℕ) → is_direction w ≡ true → (d : design.Direction) × IsTrue (same w (direction_word d))
direction_of w h = elim (or_cases (same w (direction_word directions.Input)) (same w (direction_word directions.Output) || same w (direction_word directions.Inout)) h) [
  | inl e ↦ (directions.Input, e)
  | inr e ↦ elim (or_cases (same w (direction_word directions.Output)) (same w (direction_word directions.Inout)) e) [ inl g ↦ (directions.Output, g) | inr g ↦ (directions.Inout, g) ]
]

direction_known : (t : Placed) → IsOf (has_keyword keywords.Direction) t → Meant MeansDirection (λ d. Unit {0}) t ⊎ Faulty (DirectionFault t)
direction_known t h = elim (known1 keywords.Direction identifier [] t refl h) [
  | inr b ↦ inr (b.0, stands.direction_row b.1)
  | inl s ↦ (let a = word_choice s.a s.is_a in
      let f : IsFormOf keywords.Direction (bare t) (bare s.a ∷ []) [] = follow_none keywords.Direction (identifier ∷ []) (bare t) (bare s.a ∷ []) (map bare (followers keywords.Direction t)) refl s.form in
      elim (cases_Bool (is_direction a.1)) [
        | inr e ↦ inr (At BadForm a.0, stands.other_direction (s.a, s.at_a, (a.1, a.0, a.2, e, refl)))
        | inl e ↦ (let d = direction_of a.1 e in inl (d.0, (a.1, subst (λ x. IsFormOf keywords.Direction (bare t) (bare x ∷ []) []) a.2 f, d.1), tt))
      ])
]

-- ports
size_of : (z : ℤ) → ((n : ℕ) × (z ≡ pos n) × IsWidth n) ⊎ ((n : ℕ) → z ≡ pos n → IsWidth n → ⊥)
size_of (negsuc m) = inr (λ n e w. absurd (cc e))
size_of (pos m) = elim (cases_Bool (nat_le 1 m)) [
  | inr e ↦ inr (λ n d w. let q : m ≡ n = cc d in let l : 1 ≤ n = w.0 in grind (arith, nat_tests))
  | inl e ↦ elim (cases_Bool (nat_le m 65536)) [ inr g ↦ inr (λ n d w. let q : m ≡ n = cc d in let l : n ≤ 65536 = w.1 in grind (arith, nat_tests)) | inl g ↦ inl (m, refl, (grind (arith, nat_tests), grind (arith, nat_tests))) ]
]

-- the name of a port or of a net, and its array
pub record KnownBusName (t : Placed) : Type 0 where
  pub name : design.Name
  pub array : Option ℕ
  pub mean : MeansBusName (bare t) name array
  pub typed : IsTypedName name
  pub width : IfSome array IsWidth

array_known : (t : Placed) → IsOf (has_keyword keywords.Array) t → KnownBusName t ⊎ Faulty (BusNameFault t)
array_known t h = elim (known2 keywords.Array name_definition keyword.integer [] t refl h) [
  | inr b ↦ inr (b.0, stands.array_row h.0 b.1)
  | inl s ↦ elim (name_known s.a s.written_a s.is_a) [
    | inr b ↦ inr (b.0, stands.array_name h.0 (s.a, s.at_a, b.1))
    | inl name ↦ (let b = integer_choice s.b s.is_b in
        let f : IsFormOf keywords.Array (bare t) (bare s.a ∷ bare s.b ∷ []) [] = follow_none keywords.Array (name_definition ∷ keyword.integer ∷ []) (bare t) (bare s.a ∷ bare s.b ∷ []) (map bare (followers keywords.Array t)) refl s.form in
        let g : IsFormOf keywords.Array (bare t) (bare s.a ∷ integer b.1 ∷ []) [] = subst (λ x. IsFormOf keywords.Array (bare t) (bare s.a ∷ bare x ∷ []) []) b.2 f in
        elim (size_of b.1) [
          | inr n ↦ inr (At BadIndex b.0, stands.array_size h.0 (s.b, s.at_b, (b.1, b.0, b.2, n, refl)))
          | inl z ↦ (let i : IsFormOf keywords.Array (bare t) (bare s.a ∷ integer (pos z.0) ∷ []) [] = subst (λ x. IsFormOf keywords.Array (bare t) (bare s.a ∷ integer x ∷ []) []) z.1 g in
              inl (record { name = name.0; array = Some z.0; mean = (bare s.a, i, name.1, z.2); typed = name.2; width = z.2 }))
        ])
  ]
]

plain_name : (t : Placed) → Written t → is_one_of name_definition (bare t) ≡ true → KnownBusName t ⊎ Faulty (NameFault t)
plain_name t w h = elim (name_known t w h) [ inr b ↦ inr b | inl x ↦ inl (record { name = x.0; array = None; mean = x.1; typed = x.2; width = tt }) ]

pub bus_name_known : (t : Placed) → Written t → is_one_of bus_name (bare t) ≡ true → KnownBusName t ⊎ Faulty (BusNameFault t)
bus_name_known (Word' p w) v h = elim (plain_name (Word' p w) v refl) [ inr b ↦ inr (b.0, stands.scalar_name b.1) | inl x ↦ inl x ]
bus_name_known (Integer' p z) v h = absurd (cc h)
bus_name_known (String' p s) v h = absurd (cc h)
bus_name_known (Form' p ts) v h =
    let t : Placed = Form' p ts in
    elim (or_cases (has_keyword keywords.Rename (bare t)) (has_keyword keywords.Array (bare t) || false) h) [
      | inl k ↦ (let n : is_one_of name_definition (bare t) ≡ true = or_left (has_keyword keywords.Rename (bare t)) false k in
          elim (plain_name t v n) [ inr b ↦ inr (b.0, stands.scalar_name b.1) | inl x ↦ inl x ])
      | inr k ↦ (let g : has_keyword keywords.Array (bare t) ≡ true = only (has_keyword keywords.Array (bare t)) k in
          array_known t (g, v))
    ]

pub port_known : (t : Placed) → IsOf (has_keyword keywords.Port) t → Meant MeansPort (λ p. IsTypedPort p × HasDistinctKeys p.properties) t ⊎ Faulty (PortFault t)
port_known t h = elim (known1 keywords.Port bus_name (One keywords.Direction ∷ One keywords.Designator ∷ Many keywords.Property ∷ Many keywords.Comment ∷ Many keywords.UserData ∷ []) t refl h) [
  | inr b ↦ inr (b.0, stands.port_row b.1)
  | inl s ↦ elim (bus_name_known s.a s.written_a s.is_a) [
    | inr b ↦ inr (b.0, stands.port_name (s.a, s.at_a, b.1))
    | inl n ↦ elim (perhaps_in MeansDirection (λ d. Unit {0}) DirectionFault keywords.Port keywords.Direction t direction_known h.1 s.form.fits.2.0) [
      | inr b ↦ inr (b.0, stands.port_direction b.1)
      | inl d ↦ elim (perhaps_in (MeansText keywords.Designator) IsBytes (RowFault keywords.Designator) keywords.Port keywords.Designator t (λ u w. text_known keywords.Designator u refl w) h.1 s.form.fits.2.1.0) [
        | inr b ↦ inr (b.0, stands.port_designator b.1)
        | inl g ↦ elim (properties_known keywords.Port t h.1) [
          | inr b ↦ inr (b.0, stands.port_properties b.1)
          | inl ps ↦ inl (
            record { name = n.name; array = n.array; direction = d.0; designator = g.0; properties = ps.list },
            record { name_part = bare s.a; inner = map bare (followers keywords.Port t); form = s.form; name = n.mean; direction = d.1; designator = g.1; properties = ps.mean },
            (record { name = n.typed; array = n.width; designator = g.2; properties = ps.typed }, ps.keys),
          )
        ]
      ]
    ]
  ]
]

-- bits
bits_known : (limit before : ℕ) (ts : List Placed) (ps : List design.Port) → AllZip (λ t p. declared_width t ≡ port_width p) ts ps → before ≤ limit → (fold (λ s p. s + port_width p) before ps ≤ limit) ⊎ Faulty (BeyondBits limit before ts)
bits_known limit before [] [] e l = inl l
bits_known limit before [] (p ∷ ps) e l = absurd e
bits_known limit before (t ∷ ts) [] e l = absurd e
bits_known limit before (t ∷ ts) (p ∷ ps) e l = elim (cases_Bool (nat_le (before + port_width p) limit)) [
  | inr m ↦ (let w : declared_width t ≡ port_width p = e.0 in
      let k : limit < before + port_width p = grind (arith, nat_tests) in
      let P : ℕ → Type 0 = λ v. limit < before + v in inr (OverLimit limit (place_of t), inl (l, subst P (sym w) k, refl)))
  | inl m ↦ (let k : before + port_width p ≤ limit = grind (arith, nat_tests) in
      let P : ℕ → MeaningFault → Type 0 = λ v f. BeyondBits limit (before + v) ts f in
      elim (bits_known limit (before + port_width p) ts ps e.1 k) [ inl r ↦ inl r | inr b ↦ inr (b.0, inr (subst (λ v. P v b.0) (sym e.0) b.1)) ])
]

-- interfaces
pub record KnownInterface (t : Placed) : Type 0 where
  pub form : IsFormOf keywords.Interface (bare t) [] (map bare (followers keywords.Interface t))
  pub ports : List design.Port
  pub mean : Each MeansPort (those keywords.Port (map bare (followers keywords.Interface t))) ports
  pub typed : All IsTypedPort ports
  pub port_keys : All (λ (p : design.Port). HasDistinctKeys p.properties) ports
  pub names : AreDistinct (map (λ (p : design.Port). p.name.id) ports)
  pub count : length ports ≤ 65536
  pub bits : sum_by port_width ports ≤ 1048576
  pub properties : KnownProperties keywords.Interface t

pub first_all : {A : Type 0} (P Q : A → Type 0) (xs : List A) → AllByRecursion (λ x. P x × Q x) xs → AllByRecursion P xs
first_all P Q [] h = tt
first_all P Q (x ∷ xs) h = (h.0.0, first_all P Q xs h.1)

pub second_all : {A : Type 0} (P Q : A → Type 0) (xs : List A) → AllByRecursion (λ x. P x × Q x) xs → AllByRecursion Q xs
second_all P Q [] h = tt
second_all P Q (x ∷ xs) h = (h.0.1, second_all P Q xs h.1)

pub each_count : {A : Type 0} (M : Bare → A → Type 0) (ts : List Placed) (bs : List Bare) (xs : List A) → map bare ts ≡ bs → Each M bs xs → length ts ≡ length xs
each_count M ts bs xs e h = sym (length-map ts bare) ∙ (ap length e ∙ each_length M bs xs h)

pub interface_known : (t : Placed) → IsOf (has_keyword keywords.Interface) t → KnownInterface t ⊎ Faulty (InterfaceFault t)
interface_known t h = elim (known0 keywords.Interface (Many keywords.Port ∷ Many keywords.Property ∷ Many keywords.Comment ∷ Many keywords.UserData ∷ []) t refl h.0) [
  | inr b ↦ inr (b.0, stands.interface_row b.1)
  | inl s ↦ elim (each_in MeansPort (λ p. IsTypedPort p × HasDistinctKeys p.properties) PortFault keywords.Interface keywords.Port t port_known h.1) [
    | inr b ↦ inr (b.0, stands.interface_port b.1)
    | inl x ↦ (let e : map bare (ports_in t) ≡ those keywords.Port (map bare (followers keywords.Interface t)) = filter_bare (has_keyword keywords.Port) (followers keywords.Interface t) in
        let n : length (ports_in t) ≡ length x.0 = each_count MeansPort (ports_in t) (those keywords.Port (map bare (followers keywords.Interface t))) x.0 e x.1 in
        elim (names_known (λ (p : design.Port). p.name.id) (ports_in t) x.0 (each_with MeansPort (λ u p. IsNamed u p.name.id) port_named (ports_in t) (those keywords.Port (map bare (followers keywords.Interface t))) x.0 e x.1)) [
          | inr b ↦ inr (b.0, stands.port_again b.1)
          | inl d ↦ elim (beyond_known 65536 (ports_in t)) [
            | inr b ↦ inr (b.0, stands.many_ports b.1)
            | inl c ↦ elim (bits_known 1048576 0 (ports_in t) x.0 (each_with MeansPort (λ u p. declared_width u ≡ port_width p) port_declares (ports_in t) (those keywords.Port (map bare (followers keywords.Interface t))) x.0 e x.1) (omega arith)) [
              | inr b ↦ inr (b.0, stands.many_bits b.1)
              | inl m ↦ elim (properties_known keywords.Interface t h.1) [
                | inr b ↦ inr (b.0, stands.interface_properties b.1)
                | inl ps ↦ inl (record {
                  form = s.form;
                  ports = x.0;
                  mean = x.1;
                  typed = All-from_recursion IsTypedPort x.0 (first_all IsTypedPort (λ (p : design.Port). HasDistinctKeys p.properties) x.0 x.2);
                  port_keys = All-from_recursion (λ (p : design.Port). HasDistinctKeys p.properties) x.0 (second_all IsTypedPort (λ (p : design.Port). HasDistinctKeys p.properties) x.0 x.2);
                  names = d;
                  count = omega (arith, n, c);
                  bits = m;
                  properties = ps;
                })
              ]
            ]
          ]
        ])
  ]
]
