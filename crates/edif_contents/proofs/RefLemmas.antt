-- References: what a name means in a scope, and forms of one identifier.
use Rattle.std.proofs.Common.{◌≡◌, ℕ, ◌+◌, ◌≤◌, List, [], ◌∷◌, map, length, refl, sym, ap, ◌∙◌, subst, ◌⊎◌, inl, inr, Bool, true, false, Option, Some, None, Ok, Err, eqb-true, eq-eqb}
use Rattle.std.specs.Prelude.{◌&&◌, slice_get, Result, cond, nat_eq}
use Rattle.std.specs.Char.{to_ascii_lowercase}
use Rattle.std.specs.List.{AllByRecursion}
use Rattle.edif_spelling_spec.specs.Tree.{Bare, Placed, Word', word, bare}
use Rattle.edif_spec.specs.Keyword.{row, Takes, Choice, identifier, One, the, same}
use Rattle.edif_spec.specs.Rows.{has_keyword, IsFormOf}
use Rattle.edif_spec.specs.Faults.{place_of, arguments, followers, parts, Among}
use Rattle.edif_spec.specs.declared.keyword.Keyword.{Keyword}
use Rattle.edif_spec.specs.declared.keyword.Keyword.TheVariants as keywords
use Rattle.edif_spec.specs.Means.{Meant as Meaning, meant, Found, Absent, Several, equal, equal_or, only_place, MeansLibraryRef, MeansCellRef, MeansViewRef}
use Rattle.edif_spec.specs.Design as design
use Rattle.edif_spec.specs.Stands.{Dangles, LibraryRefFault, CellRefFault, ViewRefFault}
use Rattle.edif_spec.specs.Stands as stands
use Rattle.edif_spec.specs.declared.fault.Kind.TheVariants.{BadForm, Unresolved, Ambiguous}
use Rattle.edif_spec.specs.declared.fault.MeaningFault.{MeaningFault}
use Rattle.edif_spec.specs.declared.fault.MeaningFault.TheVariants.{At}
use Rattle.edif_spec.proofs.Both.{both}
use Rattle.edif_spec.proofs.KnownCells.{parts_bare, found_first}
use Rattle.edif_spec.proofs.KnownRows.{follow_none}
use Rattle.edif_spec.proofs.SameLemmas.{same_says, says_same}
use Rattle.edif_parts.proofs.Answering.{names_more}
use Rattle.edif_grammar.specs.declared.lent.Form.{Form}
use Rattle.edif_parts.proofs.PartLemmas.{OneNode, TwoNodes, one_node, two_nodes}
use Rattle.edif_contents.proofs.Followers.{kept, are_those, one_alone}
use Rattle.edif_grammar.proofs.FormLemmas.{is_plain, followers_fit, once_fits}
use Rattle.edif_names.specs.declared.scope.Meant.TheVariants as answers
use Rattle.edif_parts.specs.Names.{Tells}
use Rattle.edif_parts.specs.Reading.{Answers}
use Rattle.edif_grammar.specs.Forms.{ArePartsOf, FitsOwn}
use Rattle.edif_parts.specs.declared.error.EdifError.{EdifError}

-- what the answer of a scope says
pub resolved : (scope : List (List ℕ)) (w : List ℕ) (id : ℕ) → Tells (meant scope w) (answers.Found id) → meant scope w ≡ Found id
resolved scope w id h = go (meant scope w) h
  where
    go : (m : Meaning) → Tells m (answers.Found id) → m ≡ Found id
    go (Found i) h = ap (λ v. Found v) h
    go Absent h = absurd h
    go Several h = absurd h

pub unresolved : (scope : List (List ℕ)) (w : List ℕ) (p : ℕ) → Tells (meant scope w) answers.Absent → Dangles scope (Word' p w) (At Unresolved p)
unresolved scope w p h = (w, p, refl, inl (go (meant scope w) h, refl))
  where
    go : (m : Meaning) → Tells m answers.Absent → m ≡ Absent
    go (Found i) h = absurd h
    go Absent h = refl
    go Several h = absurd h

pub ambiguous : (scope : List (List ℕ)) (w : List ℕ) (p : ℕ) → Tells (meant scope w) answers.Several → Dangles scope (Word' p w) (At Ambiguous p)
ambiguous scope w p h = (w, p, refl, inr (go (meant scope w) h, refl))
  where
    go : (m : Meaning) → Tells m answers.Several → m ≡ Several
    go (Found i) h = absurd h
    go Absent h = absurd h
    go Several h = refl

-- a form of one identifier
pub reference_node : (k : Keyword) (t : Placed) (p : Form) → (k ≡ keywords.LibraryRef) ⊎ (k ≡ keywords.InstanceRef) → ArePartsOf k t p → OneNode k identifier t p
reference_node k t p (inl e) a = subst (λ v. ArePartsOf v t p → OneNode v identifier t p) (sym e) (one_node keywords.LibraryRef identifier [] t p refl refl refl) a
reference_node k t p (inr e) a = subst (λ v. ArePartsOf v t p → OneNode v identifier t p) (sym e) (one_node keywords.InstanceRef identifier [] t p refl refl refl) a

ref_row : (k : Keyword) → (k ≡ keywords.LibraryRef) ⊎ (k ≡ keywords.InstanceRef) → row k ≡ Takes (identifier ∷ []) []
ref_row k (inl e) = ap row e
ref_row k (inr e) = ap row e

pub reference_means : (k : Keyword) (t a : Placed) (w : List ℕ) (p : ℕ) → (k ≡ keywords.LibraryRef) ⊎ (k ≡ keywords.InstanceRef) → slice_get (arguments t) 0 ≡ Some a → IsFormOf k (bare t) (bare a ∷ []) (map bare (followers k t)) → a ≡ Word' p w
    → IsFormOf k (bare t) (word w ∷ []) [] × (slice_get (arguments t) 0 ≡ Some (Word' p w))
reference_means k t a w p r g f e =
    let h : IsFormOf k (bare t) (bare a ∷ []) [] = follow_none k (identifier ∷ []) (bare t) (bare a ∷ []) (map bare (followers k t)) (ref_row k r) f in
    let P : Placed → Type 0 = λ v. IsFormOf k (bare t) (bare v ∷ []) [] in
    (subst P e h, g ∙ ap Some e)

-- where one form alone may follow, and once, it is what follows
pub one_follows : (k j : Keyword) (cs : List (List Choice)) (t : Placed) → row k ≡ Takes cs (One j ∷ []) → is_plain j ≡ true → FitsOwn k t
    → AllByRecursion (λ u. has_keyword j (bare u) ≡ true) (followers k t) × (length (followers k t) ≤ 1) × (parts k j t ≡ followers k t)
one_follows k j cs t r o h =
    let all = followers_fit k cs (One j ∷ []) t r h in
    let e : parts k j t ≡ followers k t = kept j (followers k t) all in
    (are_those j (followers k t) all, subst (λ v. length v ≤ 1) e (once_fits k j cs (One j ∷ []) t r (inl refl) o h), e)

-- what follows the name of a cell: a library at most
pub library_follows : (t : Placed) → FitsOwn keywords.CellRef t
    → AllByRecursion (λ u. has_keyword keywords.LibraryRef (bare u) ≡ true) (followers keywords.CellRef t) × (length (followers keywords.CellRef t) ≤ 1) × (parts keywords.CellRef keywords.LibraryRef t ≡ followers keywords.CellRef t)
library_follows t h = one_follows keywords.CellRef keywords.LibraryRef (identifier ∷ []) t refl refl h

-- what is wrong with the library among these forms
abbrev pub LibraryFault : List design.Lib → Option ℕ → List Placed → ℕ → MeaningFault → Type 0
LibraryFault libs own ts place f = Among (LibraryRefFault libs) ts f ⊎ ((own ≡ None) × (ts ≡ []) × (f ≡ At BadForm place))

-- the answer for one reference is that for a list of one
abbrev pub LibraryAnswer : List design.Lib → Option ℕ → ℕ → List Placed → Result ℕ EdifError → Type 0
LibraryAnswer libs own place ts r = Answers (MeansLibraryRef libs own (map bare ts)) (λ f. Among (LibraryRefFault libs) ts f ⊎ ((own ≡ None) × (ts ≡ []) × (f ≡ At BadForm place))) r

library_one : (libs : List design.Lib) (own : Option ℕ) (place : ℕ) (t : Placed) (r : Result ℕ EdifError) → Answers (MeansLibraryRef libs None (bare t ∷ [])) (LibraryRefFault libs t) r → LibraryAnswer libs own place (t ∷ []) r
library_one libs own place t (Ok l) h = h
library_one libs own place t (Err e) h = names_more (LibraryRefFault libs t) (λ f. Among (LibraryRefFault libs) (t ∷ []) f ⊎ ((own ≡ None) × (t ∷ [] ≡ []) × (f ≡ At BadForm place))) e (λ f b. inl (inl b)) h

pub library_answers : (libs : List design.Lib) (own : Option ℕ) (place : ℕ) (ts us : List Placed) (t : Placed) (r : Result ℕ EdifError) → ts ≡ t ∷ us → length ts ≤ 1 → Answers (MeansLibraryRef libs None (bare t ∷ [])) (LibraryRefFault libs t) r → LibraryAnswer libs own place ts r
library_answers libs own place ts us t r e l h = subst (λ v. LibraryAnswer libs own place v r) (sym (one_alone ts us t e l)) (library_one libs own place t r h)

-- what is wrong with the library is wrong with the reference to a cell
pub library_fails : (libs : List design.Lib) (own : Option ℕ) (t : Placed) (place : ℕ) (f : MeaningFault) → place ≡ place_of t → parts keywords.CellRef keywords.LibraryRef t ≡ followers keywords.CellRef t
    → (Among (LibraryRefFault libs) (followers keywords.CellRef t) f) ⊎ ((own ≡ None) × (followers keywords.CellRef t ≡ []) × (f ≡ At BadForm place)) → CellRefFault libs own t f
library_fails libs own t place f p k (inl b) = let P : List Placed → Type 0 = λ v. Among (LibraryRefFault libs) v f in stands.cell_ref_library (subst P (sym k) b)
library_fails libs own t place f p k (inr b) = stands.cell_ref_alone b.0 (k ∙ b.1) (b.2 ∙ ap (λ v. At BadForm v) p)

-- a reference to a cell, from its parts
pub cell_ref_node : (t : Placed) (p : Form) → ArePartsOf keywords.CellRef t p → OneNode keywords.CellRef identifier t p
cell_ref_node t p a = one_node keywords.CellRef identifier (One keywords.LibraryRef ∷ []) t p refl refl refl a

pub cell_ref_means : (libs : List design.Lib) (own : Option ℕ) (t a : Placed) (w : List ℕ) (p l slot : ℕ) → IsFormOf keywords.CellRef (bare t) (bare a ∷ []) (map bare (followers keywords.CellRef t)) → parts keywords.CellRef keywords.LibraryRef t ≡ followers keywords.CellRef t
    → MeansLibraryRef libs own (map bare (followers keywords.CellRef t)) l → a ≡ Word' p w → meant (design.cell_ids libs l) w ≡ Found slot → MeansCellRef libs own (bare t) (record { lib = record { 0 = l }; slot = slot })
cell_ref_means libs own t a w p l slot f k m e n =
    let P : Placed → Type 0 = λ v. IsFormOf keywords.CellRef (bare t) (bare v ∷ []) (map bare (followers keywords.CellRef t)) in
    let Q : List Bare → Type 0 = λ v. MeansLibraryRef libs own v l in
    record {
      spelled = w;
      inner = map bare (followers keywords.CellRef t);
      form = subst P e f;
      lib = subst Q (ap (map bare) (sym k) ∙ parts_bare keywords.CellRef keywords.LibraryRef t) m;
      cell = n;
    }

pub cell_fails : (libs : List design.Lib) (own : Option ℕ) (t a : Placed) (w : List ℕ) (p l : ℕ) (f : MeaningFault) → slice_get (arguments t) 0 ≡ Some a → parts keywords.CellRef keywords.LibraryRef t ≡ followers keywords.CellRef t
    → MeansLibraryRef libs own (map bare (followers keywords.CellRef t)) l → a ≡ Word' p w → Dangles (design.cell_ids libs l) (Word' p w) f → CellRefFault libs own t f
cell_fails libs own t a w p l f g k m e d =
    let Q : List Placed → Type 0 = λ v. MeansLibraryRef libs own (map bare v) l in
    stands.cell_ref_name l (subst Q (sym k) m) (Word' p w, g ∙ ap Some e, d)

-- the one view of a cell
view_is : (v w : List ℕ) → same w v ≡ true → meant (v ∷ []) w ≡ Found 0
view_is v w h = by (equal w v) (same w v) h
  where
    by : (b c : Bool) → c ≡ true → equal_or (cond b (Some 0) None) (only_place (0 + cond c 1 0) (cond c (Some 0) None)) ≡ Found 0
    by true c h = refl
    by false true h = refl
    by false false h = absurd (cc h)

equal_same : (w v : List ℕ) → equal w v ≡ true → same w v ≡ true
equal_same [] [] h = refl
equal_same [] (c ∷ v) h = absurd (cc h)
equal_same (b ∷ w) [] h = absurd (cc h)
equal_same (b ∷ w) (c ∷ v) h =
    let t = both (nat_eq b c) (equal w v) h in
    let e : b ≡ c = eqb-true b c t.0 in
    let r : same w v ≡ true = equal_same w v t.1 in
    ap (λ x. x && same w v) (eq-eqb (to_ascii_lowercase b) (to_ascii_lowercase c) (ap to_ascii_lowercase e)) ∙ r

view_is_not : (v w : List ℕ) → same w v ≡ false → meant (v ∷ []) w ≡ Absent
view_is_not v w h = by (equal w v) (same w v) h (equal_same w v)
  where
    by : (b c : Bool) → c ≡ false → (b ≡ true → c ≡ true) → equal_or (cond b (Some 0) None) (only_place (0 + cond c 1 0) (cond c (Some 0) None)) ≡ Absent
    by true true h e = absurd (cc h)
    by true false h e = absurd (cc (e refl))
    by false true h e = absurd (cc h)
    by false false h e = refl

-- what the answer is, by the test
pub view_same : (v w : List ℕ) → map to_ascii_lowercase w ≡ map to_ascii_lowercase v → Tells (meant (v ∷ []) w) (answers.Found 0)
view_same v w e = let P : Meaning → Type 0 = λ m. Tells m (answers.Found 0) in subst P (sym (view_is v w (says_same w v e))) refl

pub view_other : (v w : List ℕ) → (map to_ascii_lowercase w ≡ map to_ascii_lowercase v → ⊥) → Tells (meant (v ∷ []) w) answers.Absent
view_other v w n = let P : Meaning → Type 0 = λ m. Tells m answers.Absent in subst P (sym (view_is_not v w (by (same w v) (λ e. n (same_says w v e))))) tt
  where
    by : (b : Bool) → (b ≡ true → ⊥) → b ≡ false
    by true n = absurd (n refl)
    by false n = refl

-- what is wrong with the view is wrong with the reference to it
pub view_fails : (libs : List design.Lib) (own : Option ℕ) (t a b : Placed) (w : List ℕ) (p : ℕ) (id : design.CellId) (f : MeaningFault) → slice_get (arguments t) 0 ≡ Some a → slice_get (arguments t) 1 ≡ Some b → MeansCellRef libs own (bare b) id → a ≡ Word' p w
    → Dangles (design.view_id libs id ∷ []) (Word' p w) f → ViewRefFault libs own t f
view_fails libs own t a b w p id f g h m e d = stands.view_ref_name b id h m (Word' p w, g ∙ ap Some e, d)

-- a reference to a view, from its parts
pub view_ref_nodes : (t : Placed) (p : Form) → ArePartsOf keywords.ViewRef t p → TwoNodes keywords.ViewRef identifier (the keywords.CellRef) t p
view_ref_nodes t p a = two_nodes keywords.ViewRef identifier (the keywords.CellRef) [] t p refl refl refl a

pub view_ref_means : (libs : List design.Lib) (own : Option ℕ) (t a b : Placed) (w : List ℕ) (p i : ℕ) (id : design.CellId) → IsFormOf keywords.ViewRef (bare t) (bare a ∷ bare b ∷ []) (map bare (followers keywords.ViewRef t)) → MeansCellRef libs own (bare b) id → a ≡ Word' p w
    → meant (design.view_id libs id ∷ []) w ≡ Found i → MeansViewRef libs own (bare t) id
view_ref_means libs own t a b w p i id f m e n =
    let g : IsFormOf keywords.ViewRef (bare t) (bare a ∷ bare b ∷ []) [] = follow_none keywords.ViewRef (identifier ∷ the keywords.CellRef ∷ []) (bare t) (bare a ∷ bare b ∷ []) (map bare (followers keywords.ViewRef t)) refl f in
    let P : Placed → Type 0 = λ v. IsFormOf keywords.ViewRef (bare t) (bare v ∷ bare b ∷ []) [] in
    record { spelled = w; cell_part = bare b; form = subst P e g; cell = m; view = n ∙ ap (λ v. Found v) (found_first (design.view_id libs id) w i n) }
