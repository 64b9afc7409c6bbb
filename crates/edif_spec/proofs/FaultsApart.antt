-- No fault stands in a form that means something: from names to interfaces.
use Rattle.std.proofs.Common.{◌≡◌, ℕ, ◌+◌, ◌<◌, ◌≤◌, ℤ, pos, List, [], ◌∷◌, map, length, refl, ap, sym, ◌∙◌, subst, ◌⊎◌, inl, inr, Bool, true, false, Option, Some, None, arith}
use Rattle.std.proofs.lemmas.Bool.Decides.{nat_tests}
use Rattle.std.specs.Prelude.{IsTrue, cond, ◌&&◌, ◌||◌, nat_le, slice_get, IfSome, sum_by, FitsSigned, unwrap_or}
use Rattle.std.specs.Int.{w32}
use Rattle.std.specs.List.{AllZip, AllByRecursion, fold}
use Rattle.std.proofs.lemmas.Bool.{or_right, or_left}
use Rattle.std.proofs.lemmas.List.{length-map}
use Rattle.netlist_schema.specs.Names.{AreDistinct, HasDistinctKeys}
use Rattle.netlist_schema.specs.Design.{port_width}
use Rattle.edif_spelling_spec.specs.Tree.{Bare, Placed, Form', Word', Integer', String', End, More, word, integer, string, bare}
use Rattle.edif_spec.specs.Keyword.{same, spelling_of}
use Rattle.edif_spec.specs.Rows.{has_keyword, those, IsFormOf, Each, Perhaps}
use Rattle.edif_spec.specs.Canonical.{direction_word}
use Rattle.edif_spec.specs.Means.{MeansName, MeansText, MeansBoolean, MeansNumber, MeansValue, MeansProperty, MeansDirection, MeansBusName, MeansPort, MeansInterface}
use Rattle.netlist_schema.specs.Width.{IsWidth}
use Rattle.edif_spec.specs.Faults.{arguments, parts, Among, RowFault, renamed, name_of, is_size, arrayed, bus_name_of, may_be_array, first_name, defined, BeyondBits, counted, width_with, width_of, first_width, declared_width}
use Rattle.edif_spec.specs.Stands.{WordFault, NameFault, BooleanFault, NumberFault, InValue, PropertyFault, PropertiesFault, is_direction, DirectionFault, BusNameFault, PortFault, ports_in, InterfaceFault}
use Rattle.edif_spec.specs.Stands as stands
use Rattle.edif_spec.specs.Design as design
use Rattle.edif_spec.specs.declared.keyword.Keyword.{Keyword}
use Rattle.edif_spec.specs.declared.keyword.Keyword.TheVariants as keywords
use Rattle.edif_spec.specs.declared.fault.Kind.{Kind}
use Rattle.edif_spec.specs.declared.fault.Kind.TheVariants.{BadForm}
use Rattle.edif_spec.specs.declared.fault.MeaningFault.{MeaningFault}
use Rattle.netlist_schema.specs.declared.property.Num.TheVariants as numbers
use Rattle.netlist_schema.specs.declared.property.Value.TheVariants as values
use Rattle.netlist_schema.specs.declared.cell.Direction.TheVariants as directions
use Rattle.edif_spec.proofs.Groups.{same_left}
use Rattle.edif_spec.proofs.FaultForms.{arguments_are, part_is, part_there, parts_are, row_apart, each_apart, perhaps_apart, each_length, beyond_apart, each_with, IsNamed, repeats_apart}

-- a form that means something has its keyword
pub keyword_of : (k : Keyword) (t : Bare) (fixed inner : List Bare) → IsFormOf k t fixed inner → has_keyword k t ≡ true
keyword_of k t fixed inner h = ap (has_keyword k) h.is ∙ h.keyword

-- two keywords in one form agree
pub other_form : (k j : Keyword) (t : Bare) (fixed inner : List Bare) → same (spelling_of j) (spelling_of k) ≡ false → IsFormOf j t fixed inner → has_keyword k t ≡ true → ⊥
other_form k j t fixed inner d h e = absurd (differs h.spelled (spelling_of j) (spelling_of k) h.keyword d (sym (ap (has_keyword k) h.is) ∙ e))
  where
    differs : (a b c : List ℕ) → same a b ≡ true → same b c ≡ false → same a c ≡ true → ⊥
    differs a b c h d e = let s : same a c ≡ same b c = same_left a b c h in absurd (cc)

pub word_no_keyword : (k : Keyword) (t : Bare) (w : List ℕ) → t ≡ word w → has_keyword k t ≡ true → ⊥
word_no_keyword k t w e h = let f : has_keyword k (word w) ≡ true = sym (ap (has_keyword k) e) ∙ h in absurd (cc f)

integer_no_keyword : (k : Keyword) (t : Bare) (z : ℤ) → t ≡ integer z → has_keyword k t ≡ true → ⊥
integer_no_keyword k t z e h = let f : has_keyword k (integer z) ≡ true = sym (ap (has_keyword k) e) ∙ h in absurd (cc f)

-- names
pub name_apart : (t : Placed) (n : design.Name) (f : MeaningFault) → MeansName (bare t) n → NameFault t f → ⊥
name_apart t n f (inl h) b = word_no_keyword keywords.Rename (bare t) n.id h.0 b.0
name_apart t n f (inr h) b = row_apart keywords.Rename t (word n.id ∷ string h.0 ∷ []) [] f h.1 b.1

-- the identifier of a name definition that means a name
word_named : (t : Placed) (w : List ℕ) → bare t ≡ word w → (p : ℕ) × (name_of t ≡ Some (w, p))
word_named (Word' p n) w e = let f : n ≡ w = cc e in (p, ap (λ v. Some (v, p)) f)
word_named (Form' p ts) w e = absurd (cc e)
word_named (Integer' p z) w e = absurd (cc e)
word_named (String' p s) w e = absurd (cc e)

-- a rename has the identifier before its text
pub rename_listed : (ts : List Placed) (w text : List ℕ) → map bare ts ≡ word w ∷ string text ∷ [] → (p : ℕ) × (slice_get ts 0 ≡ Some (Word' p w)) × (renamed ts ≡ Some (w, p))
rename_listed (Word' p n ∷ String' q s ∷ []) w text e = let f : n ≡ w = cc e in (p, ap (λ v. Some (Word' p v)) f, ap (λ v. Some (v, p)) f)
rename_listed [] w text e = absurd (cc e)
rename_listed (Form' p ts ∷ us) w text e = absurd (cc e)
rename_listed (Integer' p z ∷ us) w text e = absurd (cc e)
rename_listed (String' p s ∷ us) w text e = absurd (cc e)
rename_listed (Word' p n ∷ []) w text e = absurd (cc e)
rename_listed (Word' p n ∷ Form' q ts ∷ us) w text e = absurd (cc e)
rename_listed (Word' p n ∷ Word' q m ∷ us) w text e = absurd (cc e)
rename_listed (Word' p n ∷ Integer' q z ∷ us) w text e = absurd (cc e)
rename_listed (Word' p n ∷ String' q s ∷ u ∷ us) w text e = absurd (cc e)

pub rename_gives : (t : Placed) (n : List ℕ × ℕ) → has_keyword keywords.Rename (bare t) ≡ true → renamed (arguments t) ≡ Some n → name_of t ≡ Some n
rename_gives (Form' p ts) n k e = ap (λ b. cond b (renamed (arguments (Form' p ts))) None) k ∙ e
rename_gives (Word' p w) n k e = absurd (cc k)
rename_gives (Integer' p z) n k e = absurd (cc k)
rename_gives (String' p s) n k e = absurd (cc k)

pub name_named : (t : Placed) (n : design.Name) → MeansName (bare t) n → (p : ℕ) × (name_of t ≡ Some (n.id, p))
name_named t n (inl h) = word_named t n.id h.0
name_named t n (inr h) =
    let r = rename_listed (arguments t) n.id h.0 (arguments_are keywords.Rename t (word n.id ∷ string h.0 ∷ []) [] h.1) in
    (r.0, rename_gives t (n.id, r.0) (keyword_of keywords.Rename (bare t) (word n.id ∷ string h.0 ∷ []) [] h.1) r.2)

-- an array has the name before its size
pub width_is_size : (w : ℕ) → IsWidth w → is_size (pos w) ≡ true
width_is_size w h = let l : 1 ≤ w = h.0 in let m : w ≤ 65536 = h.1 in grind (arith, nat_tests)

pub array_listed : (ts : List Placed) (b : Bare) (z : ℤ) → is_size z ≡ true → map bare ts ≡ b ∷ integer z ∷ [] → (u : Placed) × (slice_get ts 0 ≡ Some u) × (bare u ≡ b) × (arrayed ts ≡ name_of u)
array_listed (u ∷ Integer' p y ∷ []) b z s e = let w : y ≡ z = cc e in (u, refl, cc e, ap (λ c. cond c (name_of u) None) (ap is_size w ∙ s))
array_listed [] b z s e = absurd (cc e)
array_listed (u ∷ []) b z s e = absurd (cc e)
array_listed (u ∷ Form' q ts ∷ us) b z s e = absurd (cc e)
array_listed (u ∷ Word' q m ∷ us) b z s e = absurd (cc e)
array_listed (u ∷ String' q x ∷ us) b z s e = absurd (cc e)
array_listed (u ∷ Integer' q y ∷ v ∷ us) b z s e = absurd (cc e)

pub array_gives : (t : Placed) (n : List ℕ × ℕ) → has_keyword keywords.Array (bare t) ≡ true → arrayed (arguments t) ≡ Some n → bus_name_of t ≡ Some n
array_gives t n k e = ap (λ b. cond b (arrayed (arguments t)) (name_of t)) k ∙ e

-- a name definition is no array
renames_no_array : (t : Placed) → has_keyword keywords.Rename (bare t) ≡ true → has_keyword keywords.Array (bare t) ≡ false
renames_no_array (Form' p (More (Word' q w) ts)) k = same_left w (spelling_of keywords.Rename) (spelling_of keywords.Array) k
renames_no_array (Form' p (More (Form' q us) ts)) k = absurd (cc k)
renames_no_array (Form' p (More (Integer' q z) ts)) k = absurd (cc k)
renames_no_array (Form' p (More (String' q s) ts)) k = absurd (cc k)
renames_no_array (Form' p End) k = absurd (cc k)
renames_no_array (Word' p w) k = absurd (cc k)
renames_no_array (Integer' p z) k = absurd (cc k)
renames_no_array (String' p s) k = absurd (cc k)

pub plain_gives : (t : Placed) (n : List ℕ × ℕ) → name_of t ≡ Some n → bus_name_of t ≡ Some n
plain_gives (Word' p w) n e = e
plain_gives (Integer' p z) n e = absurd (cc e)
plain_gives (String' p s) n e = absurd (cc e)
plain_gives (Form' p ts) n e = go (has_keyword keywords.Rename (bare (Form' p ts))) refl e
  where
    go : (b : Bool) → has_keyword keywords.Rename (bare (Form' p ts)) ≡ b → cond {A = Option (List ℕ × ℕ)} b (renamed (arguments (Form' p ts))) None ≡ Some n → bus_name_of (Form' p ts) ≡ Some n
    go true k f = ap (λ b. cond b (arrayed (arguments (Form' p ts))) (name_of (Form' p ts))) (renames_no_array (Form' p ts) k) ∙ e
    go false k f = absurd (cc f)

pub port_name_named : (t : Placed) (n : design.Name) (o : Option ℕ) → MeansBusName (bare t) n o → (p : ℕ) × (bus_name_of t ≡ Some (n.id, p))
port_name_named t n None h = let r = name_named t n h in (r.0, plain_gives t (n.id, r.0) r.1)
port_name_named t n (Some w) h =
    let u = array_listed (arguments t) h.0 (pos w) (width_is_size w h.3) (arguments_are keywords.Array t (h.0 ∷ integer (pos w) ∷ []) [] h.1) in
    let r = name_named u.0 n (subst (λ v. MeansName v n) (sym u.2) h.2) in
    (r.0, array_gives t (n.id, r.0) (keyword_of keywords.Array (bare t) (h.0 ∷ integer (pos w) ∷ []) [] h.1) (u.3 ∙ r.1))

-- a form defines the identifier of its first argument
first_plain : (array : Bool) (ts : List Placed) (u : Placed) (n : List ℕ × ℕ) → slice_get ts 0 ≡ Some u → name_of u ≡ Some n → first_name array ts ≡ Some n
first_plain array [] u n a e = absurd (cc a)
first_plain true (v ∷ ts) u n a e = let w : v ≡ u = cc a in ap bus_name_of w ∙ plain_gives u n e
first_plain false (v ∷ ts) u n a e = let w : v ≡ u = cc a in ap name_of w ∙ e

pub defined_first : (t u : Placed) (n : List ℕ × ℕ) → slice_get (arguments t) 0 ≡ Some u → name_of u ≡ Some n → defined t ≡ Some n
defined_first t u n a e = first_plain (may_be_array (bare t)) (arguments t) u n a e

first_bus : (ts : List Placed) (u : Placed) (n : List ℕ × ℕ) → slice_get ts 0 ≡ Some u → bus_name_of u ≡ Some n → first_name true ts ≡ Some n
first_bus [] u n a e = absurd (cc a)
first_bus (v ∷ ts) u n a e = let w : v ≡ u = cc a in ap bus_name_of w ∙ e

pub defined_bus : (t u : Placed) (n : List ℕ × ℕ) → may_be_array (bare t) ≡ true → slice_get (arguments t) 0 ≡ Some u → bus_name_of u ≡ Some n → defined t ≡ Some n
defined_bus t u n k a e = ap (λ b. first_name b (arguments t)) k ∙ first_bus (arguments t) u n a e

pub port_may : (t : Placed) → has_keyword keywords.Port (bare t) ≡ true → may_be_array (bare t) ≡ true
port_may t k = or_left (has_keyword keywords.Port (bare t)) (has_keyword keywords.Net (bare t)) k

pub net_may : (t : Placed) → has_keyword keywords.Net (bare t) ≡ true → may_be_array (bare t) ≡ true
net_may t k = or_right (has_keyword keywords.Port (bare t)) (has_keyword keywords.Net (bare t)) k

-- a form whose first argument means a name defines its identifier
pub form_named : (k : Keyword) (t : Placed) (part : Bare) (fixed inner : List Bare) (n : design.Name) → IsFormOf k (bare t) (part ∷ fixed) inner → MeansName part n → IsNamed t n.id
form_named k t part fixed inner n h m =
    let u = part_there k t (part ∷ fixed) inner 0 part h refl in
    let r = name_named u.0 n (subst (λ v. MeansName v n) (sym u.2) m) in
    (r.0, defined_first t u.0 (n.id, r.0) u.1 r.1)

pub port_named : (t : Placed) (p : design.Port) → MeansPort (bare t) p → IsNamed t p.name.id
port_named t p h =
    let u = part_there keywords.Port t (h.name_part ∷ []) h.inner 0 h.name_part h.form refl in
    let r = port_name_named u.0 p.name p.array (subst (λ v. MeansBusName v p.name p.array) (sym u.2) h.name) in
    (r.0, defined_bus t u.0 (p.name.id, r.0) (port_may t (keyword_of keywords.Port (bare t) (h.name_part ∷ []) h.inner h.form)) u.1 r.1)

-- properties
boolean_apart : (t : Placed) (b : Bool) (f : MeaningFault) → MeansBoolean (bare t) b → BooleanFault t f → ⊥
boolean_apart t true f h (stands.true_row k b) = row_apart keywords.True t [] [] f h b
boolean_apart t true f h (stands.false_row k b) = other_form keywords.False keywords.True (bare t) [] [] refl h k
boolean_apart t false f h (stands.true_row k b) = other_form keywords.True keywords.False (bare t) [] [] refl h k
boolean_apart t false f h (stands.false_row k b) = row_apart keywords.False t [] [] f h b

number_apart : (t : Placed) (n : design.Num) (f : MeaningFault) → MeansNumber (bare t) n → NumberFault t f → ⊥
number_apart t (numbers.Int z) f h (stands.scaled_row k c) = integer_no_keyword keywords.E (bare t) z h k
number_apart t (numbers.Int z) f h (stands.scaled_exponent k c) = integer_no_keyword keywords.E (bare t) z h k
number_apart t (numbers.Scaled m x) f h (stands.scaled_row k c) = row_apart keywords.E t (integer m ∷ integer x ∷ []) [] f h.0 c
number_apart t (numbers.Scaled m x) f h (stands.scaled_exponent k c) =
    let e : bare c.0 ≡ integer x = part_is keywords.E t (integer m ∷ integer x ∷ []) [] 1 c.0 (integer x) h.0 c.1 refl in
    let d : integer c.2.0 ≡ integer x = sym (ap bare c.2.2) ∙ e in
    let w : c.2.0 ≡ x = cc d in
    let P : ℤ → Type 0 = λ v. FitsSigned w32 v in
    c.2.3 (subst P (sym w) h.1)

value_apart : (t : Placed) (v : design.Value) (f : MeaningFault) → MeansValue (bare t) v → InValue t f → ⊥
value_apart t (values.Boolean x) f h (stands.boolean_row k b) = row_apart keywords.Boolean t (h.0 ∷ []) [] f h.1 b
value_apart t (values.Boolean x) f h (stands.boolean_truth k b) = boolean_apart b.0 x f (subst (λ y. MeansBoolean y x) (sym (part_is keywords.Boolean t (h.0 ∷ []) [] 0 b.0 h.0 h.1 b.1 refl)) h.2) b.2
value_apart t (values.Boolean x) f h (stands.integer_row k b) = other_form keywords.Integer keywords.Boolean (bare t) (h.0 ∷ []) [] refl h.1 k
value_apart t (values.Boolean x) f h (stands.number_row k b) = other_form keywords.Number keywords.Boolean (bare t) (h.0 ∷ []) [] refl h.1 k
value_apart t (values.Boolean x) f h (stands.number_scaled k b) = other_form keywords.Number keywords.Boolean (bare t) (h.0 ∷ []) [] refl h.1 k
value_apart t (values.Boolean x) f h (stands.string_row k b) = other_form keywords.String keywords.Boolean (bare t) (h.0 ∷ []) [] refl h.1 k
value_apart t (values.Integer z) f h (stands.boolean_row k b) = other_form keywords.Boolean keywords.Integer (bare t) (integer z ∷ []) [] refl h k
value_apart t (values.Integer z) f h (stands.boolean_truth k b) = other_form keywords.Boolean keywords.Integer (bare t) (integer z ∷ []) [] refl h k
value_apart t (values.Integer z) f h (stands.integer_row k b) = row_apart keywords.Integer t (integer z ∷ []) [] f h b
value_apart t (values.Integer z) f h (stands.number_row k b) = other_form keywords.Number keywords.Integer (bare t) (integer z ∷ []) [] refl h k
value_apart t (values.Integer z) f h (stands.number_scaled k b) = other_form keywords.Number keywords.Integer (bare t) (integer z ∷ []) [] refl h k
value_apart t (values.Integer z) f h (stands.string_row k b) = other_form keywords.String keywords.Integer (bare t) (integer z ∷ []) [] refl h k
value_apart t (values.Number n) f h (stands.boolean_row k b) = other_form keywords.Boolean keywords.Number (bare t) (h.0 ∷ []) [] refl h.1 k
value_apart t (values.Number n) f h (stands.boolean_truth k b) = other_form keywords.Boolean keywords.Number (bare t) (h.0 ∷ []) [] refl h.1 k
value_apart t (values.Number n) f h (stands.integer_row k b) = other_form keywords.Integer keywords.Number (bare t) (h.0 ∷ []) [] refl h.1 k
value_apart t (values.Number n) f h (stands.number_row k b) = row_apart keywords.Number t (h.0 ∷ []) [] f h.1 b
value_apart t (values.Number n) f h (stands.number_scaled k b) = number_apart b.0 n f (subst (λ y. MeansNumber y n) (sym (part_is keywords.Number t (h.0 ∷ []) [] 0 b.0 h.0 h.1 b.1 refl)) h.2) b.2
value_apart t (values.Number n) f h (stands.string_row k b) = other_form keywords.String keywords.Number (bare t) (h.0 ∷ []) [] refl h.1 k
value_apart t (values.Text s) f h (stands.boolean_row k b) = other_form keywords.Boolean keywords.String (bare t) (string s ∷ []) [] refl h k
value_apart t (values.Text s) f h (stands.boolean_truth k b) = other_form keywords.Boolean keywords.String (bare t) (string s ∷ []) [] refl h k
value_apart t (values.Text s) f h (stands.integer_row k b) = other_form keywords.Integer keywords.String (bare t) (string s ∷ []) [] refl h k
value_apart t (values.Text s) f h (stands.number_row k b) = other_form keywords.Number keywords.String (bare t) (string s ∷ []) [] refl h k
value_apart t (values.Text s) f h (stands.number_scaled k b) = other_form keywords.Number keywords.String (bare t) (string s ∷ []) [] refl h k
value_apart t (values.Text s) f h (stands.string_row k b) = row_apart keywords.String t (string s ∷ []) [] f h b

-- designator and owner
pub text_apart : (k : Keyword) (t : Placed) (s : List ℕ) (f : MeaningFault) → MeansText k (bare t) s → RowFault k t f → ⊥
text_apart k t s f h b = row_apart k t (string s ∷ []) [] f h b

pub texts_apart : (k : Keyword) (ts : List Placed) (bs : List Bare) (o : Option (List ℕ)) (f : MeaningFault) → map bare ts ≡ bs → Perhaps (MeansText k) bs o → Among (RowFault k) ts f → ⊥
texts_apart k ts bs o f e h b = perhaps_apart (MeansText k) (λ s. Unit {0}) (RowFault k) f (λ t s m v c. text_apart k t s f m c) ts bs o e h (free o) b
  where
    free : (o : Option (List ℕ)) → IfSome o (λ s. Unit {0})
    free None = tt
    free (Some s) = tt

pub property_apart : (t : Placed) (p : design.Property) (f : MeaningFault) → MeansProperty (bare t) p → PropertyFault t f → ⊥
property_apart t p f h (stands.property_row b) = row_apart keywords.Property t (h.key_part ∷ h.value_part ∷ []) h.inner f h.form b
property_apart t p f h (stands.property_key b) = name_apart b.0 p.key f (subst (λ v. MeansName v p.key) (sym (part_is keywords.Property t (h.key_part ∷ h.value_part ∷ []) h.inner 0 b.0 h.key_part h.form b.1 refl)) h.key) b.2
property_apart t p f h (stands.property_value b) = value_apart b.0 p.value f (subst (λ v. MeansValue v p.value) (sym (part_is keywords.Property t (h.key_part ∷ h.value_part ∷ []) h.inner 1 b.0 h.value_part h.form b.1 refl)) h.value) b.2
property_apart t p f h (stands.property_owner b) = texts_apart keywords.Owner (parts keywords.Property keywords.Owner t) (those keywords.Owner h.inner) p.owner f (parts_are keywords.Property keywords.Owner t (h.key_part ∷ h.value_part ∷ []) h.inner h.form) h.owner b

pub free_all : {A : Type 0} (xs : List A) → AllByRecursion (λ x. Unit {0}) xs
free_all [] = tt
free_all (x ∷ xs) = (tt, free_all xs)

pub property_named : (t : Placed) (p : design.Property) → MeansProperty (bare t) p → IsNamed t p.key.id
property_named t p h = form_named keywords.Property t h.key_part (h.value_part ∷ []) h.inner p.key h.form h.key

pub properties_apart : (ts : List Placed) (bs : List Bare) (ps : List design.Property) (f : MeaningFault) → map bare ts ≡ bs → Each MeansProperty bs ps → HasDistinctKeys ps → PropertiesFault ts f → ⊥
properties_apart ts bs ps f e h d (stands.one_property b) = each_apart MeansProperty (λ p. Unit {0}) PropertyFault f (λ t p m v c. property_apart t p f m c) ts bs ps e h (free_all ps) b
properties_apart ts bs ps f e h d (stands.key_again b) = repeats_apart (λ (p : design.Property). p.key.id) f ts ps (each_with MeansProperty (λ u p. IsNamed u p.key.id) property_named ts bs ps e h) d b

-- a word that the test takes is none of the others
pub word_apart : (fine : List ℕ → Bool) (kind : Kind) (u : Placed) (w : List ℕ) (f : MeaningFault) → bare u ≡ word w → fine w ≡ true → WordFault fine kind u f → ⊥
word_apart fine kind u w f e h b =
    let d : word b.0 ≡ word w = sym (ap bare b.2) ∙ e in let c : b.0 ≡ w = cc d in
    let yes' : fine b.0 ≡ true = ap fine c ∙ h in let no' : fine b.0 ≡ false = b.3 in absurd (cc)

one_of_three : (a b c : Bool) → (a ≡ true) ⊎ ((b ≡ true) ⊎ (c ≡ true)) → (a || (b || c)) ≡ true
one_of_three a b c (inl e) = or_left a (b || c) e
one_of_three a b c (inr (inl e)) = or_right a (b || c) (or_left b c e)
one_of_three a b c (inr (inr e)) = or_right a (b || c) (or_right b c e)

pub three : (w : List ℕ) (x y z : List ℕ) → (same w x ≡ true) ⊎ ((same w y ≡ true) ⊎ (same w z ≡ true)) → (same w x || (same w y || same w z)) ≡ true
three w x y z h = one_of_three (same w x) (same w y) (same w z) h

direction_fine : (w : List ℕ) (d : design.Direction) → same w (direction_word d) ≡ true → is_direction w ≡ true
direction_fine w directions.Input e = three w (direction_word directions.Input) (direction_word directions.Output) (direction_word directions.Inout) (inl e)
direction_fine w directions.Output e = three w (direction_word directions.Input) (direction_word directions.Output) (direction_word directions.Inout) (inr (inl e))
direction_fine w directions.Inout e = three w (direction_word directions.Input) (direction_word directions.Output) (direction_word directions.Inout) (inr (inr e))

direction_apart : (t : Placed) (d : design.Direction) (f : MeaningFault) → MeansDirection (bare t) d → DirectionFault t f → ⊥
direction_apart t d f h (stands.direction_row b) = row_apart keywords.Direction t (word h.0 ∷ []) [] f h.1 b
direction_apart t d f h (stands.other_direction b) = word_apart is_direction BadForm b.0 h.0 f (part_is keywords.Direction t (word h.0 ∷ []) [] 0 b.0 (word h.0) h.1 b.1 refl) (direction_fine h.0 d h.2) b.2

-- ports
name_no_array : (t : Placed) (n : design.Name) → MeansName (bare t) n → IsTrue (has_keyword keywords.Array (bare t)) → ⊥
name_no_array t n (inl h) k = word_no_keyword keywords.Array (bare t) n.id h.0 k
name_no_array t n (inr h) k = other_form keywords.Array keywords.Rename (bare t) (word n.id ∷ string h.0 ∷ []) [] refl h.1 k

pub port_name_apart : (t : Placed) (n : design.Name) (o : Option ℕ) (f : MeaningFault) → MeansBusName (bare t) n o → BusNameFault t f → ⊥
port_name_apart t n None f h (stands.scalar_name b) = name_apart t n f h b
port_name_apart t n None f h (stands.array_row k b) = name_no_array t n h k
port_name_apart t n None f h (stands.array_name k b) = name_no_array t n h k
port_name_apart t n None f h (stands.array_size k b) = name_no_array t n h k
port_name_apart t n (Some w) f h (stands.scalar_name b) = other_form keywords.Rename keywords.Array (bare t) (h.0 ∷ integer (pos w) ∷ []) [] refl h.1 b.0
port_name_apart t n (Some w) f h (stands.array_row k c) = row_apart keywords.Array t (h.0 ∷ integer (pos w) ∷ []) [] f h.1 c
port_name_apart t n (Some w) f h (stands.array_name k c) = name_apart c.0 n f (subst (λ v. MeansName v n) (sym (part_is keywords.Array t (h.0 ∷ integer (pos w) ∷ []) [] 0 c.0 h.0 h.1 c.1 refl)) h.2) c.2
port_name_apart t n (Some w) f h (stands.array_size k c) =
    let e : bare c.0 ≡ integer (pos w) = part_is keywords.Array t (h.0 ∷ integer (pos w) ∷ []) [] 1 c.0 (integer (pos w)) h.1 c.1 refl in
    let d : integer c.2.0 ≡ integer (pos w) = sym (ap bare c.2.2) ∙ e in
    let x : c.2.0 ≡ pos w = cc d in
    c.2.3 w x h.3

pub port_apart : (t : Placed) (p : design.Port) (f : MeaningFault) → MeansPort (bare t) p → HasDistinctKeys p.properties → PortFault t f → ⊥
port_apart t p f h d (stands.port_row b) = row_apart keywords.Port t (h.name_part ∷ []) h.inner f h.form b
port_apart t p f h d (stands.port_name b) = port_name_apart b.0 p.name p.array f (subst (λ v. MeansBusName v p.name p.array) (sym (part_is keywords.Port t (h.name_part ∷ []) h.inner 0 b.0 h.name_part h.form b.1 refl)) h.name) b.2
port_apart t p f h d (stands.port_direction b) = perhaps_apart MeansDirection (λ x. Unit {0}) DirectionFault f (λ u x m v c. direction_apart u x f m c) (parts keywords.Port keywords.Direction t) (those keywords.Direction h.inner) p.direction
    (parts_are keywords.Port keywords.Direction t (h.name_part ∷ []) h.inner h.form) h.direction (free p.direction) b
  where
    free : (o : Option design.Direction) → IfSome o (λ s. Unit {0})
    free None = tt
    free (Some s) = tt
port_apart t p f h d (stands.port_designator b) = texts_apart keywords.Designator (parts keywords.Port keywords.Designator t) (those keywords.Designator h.inner) p.designator f (parts_are keywords.Port keywords.Designator t (h.name_part ∷ []) h.inner h.form) h.designator b
port_apart t p f h d (stands.port_properties b) = properties_apart (parts keywords.Port keywords.Property t) (those keywords.Property h.inner) p.properties f (parts_are keywords.Port keywords.Property t (h.name_part ∷ []) h.inner h.form) h.properties d b

-- the width of a port as it is written
pub no_array : (t : Placed) (n : design.Name) (b : Bool) → has_keyword keywords.Array (bare t) ≡ b → MeansName (bare t) n → b ≡ false
no_array t n false e h = refl
no_array t n true e h = absurd (name_no_array t n h e)

counts : (w : ℕ) → IsWidth w → counted w ≡ w
counts w h = go (nat_le 1 w && nat_le w 65536) (let l : 1 ≤ w = h.0 in let m : w ≤ 65536 = h.1 in grind (arith, nat_tests))
  where
    go : (b : Bool) → b ≡ true → cond b w 1 ≡ w
    go true e = refl
    go false e = absurd (cc e)

integer_width : (u : Placed) (w : ℕ) → IsWidth w → bare u ≡ integer (pos w) → width_with true (Some u) ≡ w
integer_width (Integer' p z) w l e = let x : z ≡ pos w = cc e in let P : ℤ → Type 0 = λ y. width_with true (Some (Integer' p y)) ≡ w in subst P (sym x) (counts w l)
integer_width (Form' p ts) w l e = absurd (cc e)
integer_width (Word' p n) w l e = absurd (cc e)
integer_width (String' p s) w l e = absurd (cc e)

plain_width : (o : Option Placed) → width_with false o ≡ 1
plain_width None = refl
plain_width (Some u) = refl

pub name_width : (t : Placed) (n : design.Name) (o : Option ℕ) → MeansBusName (bare t) n o → width_of t ≡ unwrap_or o 1
name_width t n None h = ap (λ b. width_with b (slice_get (arguments t) 1)) (no_array t n (has_keyword keywords.Array (bare t)) refl h) ∙ plain_width (slice_get (arguments t) 1)
name_width t n (Some w) h =
    let u = part_there keywords.Array t (h.0 ∷ integer (pos w) ∷ []) [] 1 (integer (pos w)) h.1 refl in
    ap (λ b. width_with b (slice_get (arguments t) 1)) (keyword_of keywords.Array (bare t) (h.0 ∷ integer (pos w) ∷ []) [] h.1) ∙ (ap (width_with true) u.1 ∙ integer_width u.0 w h.3 u.2)

pub port_declares : (t : Placed) (p : design.Port) → MeansPort (bare t) p → declared_width t ≡ port_width p
port_declares t p h =
    let u = part_there keywords.Port t (h.name_part ∷ []) h.inner 0 h.name_part h.form refl in
    ap first_width u.1 ∙ name_width u.0 p.name p.array (subst (λ v. MeansBusName v p.name p.array) (sym u.2) h.name)

-- a sum is not less than where it began
sum_grows : (a : ℕ) (ps : List design.Port) → a ≤ fold (λ s p. s + port_width p) a ps
sum_grows a [] = omega arith
sum_grows a (p ∷ ps) = let l : a + port_width p ≤ fold (λ s p. s + port_width p) (a + port_width p) ps = sum_grows (a + port_width p) ps in omega (arith, l)

bits_apart : (limit before : ℕ) (ts : List Placed) (ps : List design.Port) (f : MeaningFault) → AllZip (λ t p. declared_width t ≡ port_width p) ts ps → fold (λ s p. s + port_width p) before ps ≤ limit → BeyondBits limit before ts f → ⊥
bits_apart limit before [] ps f e l b = b
bits_apart limit before (t ∷ ts) [] f e l b = absurd e
bits_apart limit before (t ∷ ts) (p ∷ ps) f e l (inl b) =
    let w : declared_width t ≡ port_width p = e.0 in
    let m : before + port_width p ≤ fold (λ s p. s + port_width p) (before + port_width p) ps = sum_grows (before + port_width p) ps in
    let n : fold (λ s p. s + port_width p) (before + port_width p) ps ≤ limit = l in
    let k : limit < before + declared_width t = b.1 in
    omega (arith, w, m, n, k)
bits_apart limit before (t ∷ ts) (p ∷ ps) f e l (inr b) = let P : ℕ → Type 0 = λ v. BeyondBits limit (before + v) ts f in bits_apart limit (before + port_width p) ts ps f e.1 l (subst P e.0 b)

-- what an interface owes to the validity of its cell
pub record FineInterface (c : design.CellBody) : Type 0 where
  pub ports : length c.ports ≤ 65536
  pub bits : sum_by port_width c.ports ≤ 1048576
  pub names : AreDistinct (map (λ (p : design.Port). p.name.id) c.ports)
  pub keys : HasDistinctKeys c.interface_properties
  pub port_keys : AllByRecursion (λ (p : design.Port). HasDistinctKeys p.properties) c.ports

pub interface_apart : (t : Placed) (c : design.CellBody) (f : MeaningFault) → MeansInterface (bare t) c → FineInterface c → InterfaceFault t f → ⊥
interface_apart t c f h v b =
    let e : map bare (ports_in t) ≡ those keywords.Port h.inner = parts_are keywords.Interface keywords.Port t [] h.inner h.form in
    let l : length (ports_in t) ≡ length c.ports = sym (length-map (ports_in t) bare) ∙ (ap length e ∙ each_length MeansPort (those keywords.Port h.inner) c.ports h.ports) in
    go e l b
  where
    go : map bare (ports_in t) ≡ those keywords.Port h.inner → length (ports_in t) ≡ length c.ports → InterfaceFault t f → ⊥
    go e l (stands.interface_row b) = row_apart keywords.Interface t [] h.inner f h.form b
    go e l (stands.interface_port b) = each_apart MeansPort (λ (p : design.Port). HasDistinctKeys p.properties) PortFault f (λ t p m d k. port_apart t p f m d k) (ports_in t) (those keywords.Port h.inner) c.ports e h.ports v.port_keys b
    go e l (stands.port_again b) = repeats_apart (λ (p : design.Port). p.name.id) f (ports_in t) c.ports (each_with MeansPort (λ u p. IsNamed u p.name.id) port_named (ports_in t) (those keywords.Port h.inner) c.ports e h.ports) v.names b
    go e l (stands.many_ports b) = let m : length c.ports ≤ 65536 = v.ports in beyond_apart 65536 (ports_in t) f (omega (arith, l, m)) b
    go e l (stands.many_bits b) = bits_apart 1048576 0 (ports_in t) c.ports f (each_with MeansPort (λ u p. declared_width u ≡ port_width p) port_declares (ports_in t) (those keywords.Port h.inner) c.ports e h.ports) v.bits b
    go e l (stands.interface_properties b) = properties_apart (parts keywords.Interface keywords.Property t) (those keywords.Property h.inner) c.interface_properties f (parts_are keywords.Interface keywords.Property t [] h.inner h.form) h.properties v.keys b
