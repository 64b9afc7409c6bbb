-- A note from its parts, and notes one more at a time.
use Rattle.std.proofs.Common.{◌≡◌, ℕ, zero, suc, ◌+◌, ◌<◌, ◌≤◌, List, [], ◌∷◌, ◌++◌, map, length, get_or, refl, ap, sym, ◌∙◌, subst, inl, inr, Bool, true, false, ◌&&◌, Some, None, arith, length-append}
use Rattle.std.specs.Prelude.{slice_get}
use Rattle.std.specs.List.{AllByRecursion, Contains}
use Rattle.std.proofs.lemmas.List.{map-append}
use Rattle.std.proofs.lemmas.List.Elements.{recursion_from_All}
use Rattle.netlist_schema.specs.Ident.{IsIdentifier}
use Rattle.netlist_schema.specs.Names.{AreDistinct, note_key}
use Rattle.netlist_schema.specs.Typed.{IsTypedProperty}
use Rattle.edif_spelling_spec.specs.Tree.{Bare, Placed, Form', Word', Integer', String', form, word, bare}
use Rattle.edif_spec.specs.Design as design
use Rattle.edif_spec.specs.Faults.{AtOne, AtTwo, arguments, defined, place_of}
use Rattle.edif_spec.specs.Means.{MeansNote, MeansPath, MeansProperty, has_mark, is_note}
use Rattle.edif_spec.specs.Rows.{Each, has_keyword}
use Rattle.edif_spec.specs.Stands.{Notes, NoteFault, SameNote}
use Rattle.edif_spec.specs.declared.keyword.Keyword.TheVariants as keywords
use Rattle.edif_spec.specs.declared.fault.ClashKind.TheVariants.{Duplicate}
use Rattle.edif_spec.specs.declared.fault.MeaningFault.{MeaningFault}
use Rattle.edif_spec.specs.declared.fault.MeaningFault.TheVariants.{Clash, OverLimit}
use Rattle.edif_spec.proofs.Both.{both}
use Rattle.edif_spec.proofs.FaultPlaces.{one_later}
use Rattle.edif_spec.proofs.FileFaultsApart.{notes_there}
use Rattle.edif_spec.proofs.KnownFile.{keyword_form}
use Rattle.edif_tree.specs.Handles.{here}
use Rattle.edif_parts.specs.Names.{DefinesName, ids}
use Rattle.edif_build.specs.Notes.{AllNoted, AreNoted, FailsBehind, HasNoteParts, IsAgain, IsNoted, IsSoundNote, ReadNotes, ReadPath, flat, is_mark}
use Rattle.edif_build.specs.declared.notes.NoteParts.{NoteParts}
use Rattle.edif_build.proofs.LibraryLemmas.{get_behind}
use Rattle.edif_parts.proofs.NameLists.{distinct_push, none_distinct}
use Rattle.edif_build.proofs.NoteKeyLemmas.{flat_once}

-- A note by its keyword and its mark.
marked : (w : List ℕ) (a : Placed) (rest : List Bare) → has_mark (form (word w ∷ bare a ∷ rest)) ≡ true → (m : List ℕ) × (bare a ≡ word m)
marked w (Word' p m) rest h = (m, refl)
marked w (Form' p ts) rest h = absurd (cc h)
marked w (Integer' p z) rest h = absurd (cc h)
marked w (String' p s) rest h = absurd (cc h)

-- which form is a note
seen_mark : (w : List ℕ) (u : Placed) (rest : List Bare) → is_mark (bare u) ≡ has_mark (form (word w ∷ bare u ∷ rest))
seen_mark w (Word' p m) rest = refl
seen_mark w (Form' p ts) rest = refl
seen_mark w (Integer' p z) rest = refl
seen_mark w (String' p s) rest = refl

pub no_user_data : (t : Placed) → has_keyword keywords.UserData (bare t) ≡ false → false ≡ is_note (bare t)
no_user_data t n = sym (ap (λ v. v && has_mark (bare t)) n)

pub mark_tells : (t u : Placed) (r : Bool) → has_keyword keywords.UserData (bare t) ≡ true → slice_get (arguments t) 0 ≡ Some u → r ≡ is_mark (bare u) → r ≡ is_note (bare t)
mark_tells t u r k g e =
    let f = keyword_form keywords.UserData t k in
    go (arguments t) g (sym (ap has_mark f.1))
  where
    go : (us : List Placed) → slice_get us 0 ≡ Some u → has_mark (form (word (keyword_form keywords.UserData t k).0 ∷ map bare us)) ≡ has_mark (bare t) → r ≡ is_note (bare t)
    go [] g h = absurd (cc g)
    go (v ∷ us) g h =
        let w : v ≡ u = cc g in
        e ∙ ap (λ x. is_mark (bare x)) (sym w) ∙ seen_mark (keyword_form keywords.UserData t k).0 v (map bare us) ∙ h ∙ sym (ap (λ v. v && has_mark (bare t)) k)

pub no_mark : (t : Placed) → has_keyword keywords.UserData (bare t) ≡ true → length (arguments t) < 1 → false ≡ is_note (bare t)
no_mark t k l =
    let f = keyword_form keywords.UserData t k in
    go (arguments t) l (sym (ap has_mark f.1))
  where
    go : (us : List Placed) → length us < 1 → has_mark (form (word (keyword_form keywords.UserData t k).0 ∷ map bare us)) ≡ has_mark (bare t) → false ≡ is_note (bare t)
    go [] l h = h ∙ sym (ap (λ v. v && has_mark (bare t)) k)
    go (u ∷ us) l h = absurd (omega arith)

steps_count : (libs : List design.Lib) (id : design.CellId) (ts : List Bare) (ns : List (List ℕ)) → MeansPath libs id ts ns → 0 < length ns → 0 < length ts
steps_count libs id [] [] m l = l
steps_count libs id [] (n ∷ ns) m l = absurd m
steps_count libs id (t ∷ ts) ns m l = omega arith

pub note_is : (libs : List design.Lib) (top : design.CellId) (t : Placed) (p : NoteParts) (ns : List (List ℕ)) (q : design.Property) (place : ℕ) → is_note (bare t) ≡ true → (h : HasNoteParts t p) → ReadPath libs top (here p.path) ns
    → MeansProperty (bare (here p.property)) q × IsTypedProperty q × (defined (here p.property) ≡ Some (q.key.id, place)) → IsNoted libs top t (record { path = ns; property = q }) place
note_is libs top t p ns q place n h r m =
    let u = both (has_keyword keywords.UserData (bare t)) (has_mark (bare t)) n in
    let k = keyword_form keywords.UserData t u.0 in
    let e : bare t ≡ form (word k.0 ∷ bare h.mark ∷ bare (here p.path) ∷ bare (here p.property) ∷ []) = k.1 ∙ ap (λ v. form (word k.0 ∷ map bare v)) h.are in
    let w = marked k.0 h.mark (bare (here p.path) ∷ bare (here p.property) ∷ []) (sym (ap has_mark e) ∙ u.1) in
    let s = keyword_form keywords.Path (here p.path) h.is_path in
    record {
      mean = record {
        spelled = k.0;
        mark = w.0;
        path_word = s.0;
        steps = map bare (arguments (here p.path));
        property_part = bare (here p.property);
        is = e ∙ (λ i. form (word k.0 ∷ w.1 i ∷ s.1 i ∷ bare (here p.property) ∷ []));
        path_keyword = s.2;
        some_step = steps_count libs top (map bare (arguments (here p.path))) ns r.mean r.some_step;
        path = r.mean;
        property = m.0;
      };
      sound = record { typed = record { path = r.typed; property = m.1 }; some_step = r.some_step };
      path_part = here p.path;
      property_part = here p.property;
      at_path = ap (λ v. slice_get v 1) h.are;
      at_property = ap (λ v. slice_get v 2) h.are;
      named = m.2;
    }

-- Notes so far.
pub noted_start : (libs : List design.Lib) (top : design.CellId) → AreNoted libs top [] [] []
noted_start libs top = record { all = tt; differ = none_distinct; count = omega arith }

all_push : (libs : List design.Lib) (top : design.CellId) (ts : List Placed) (ns : List design.Note) (ks : List (List ℕ × ℕ)) (t : Placed) (n : design.Note) (k : List ℕ × ℕ) → AllNoted libs top ts ns ks → IsNoted libs top t n k.1 → k.0 ≡ flat n.path n.property.key.id
    → AllNoted libs top (ts ++ t ∷ []) (ns ++ n ∷ []) (ks ++ k ∷ [])
all_push libs top [] [] [] t n k h m e = ((m, e), tt)
all_push libs top [] [] (x ∷ ks) t n k h m e = absurd h
all_push libs top [] (y ∷ ns) ks t n k h m e = absurd h
all_push libs top (u ∷ ts) [] ks t n k h m e = absurd h
all_push libs top (u ∷ ts) (y ∷ ns) [] t n k h m e = absurd h
all_push libs top (u ∷ ts) (y ∷ ns) (x ∷ ks) t n k h m e = (h.0, all_push libs top ts ns ks t n k h.1 m e)

-- a note of a path and key has its key as bytes
has_key : (libs : List design.Lib) (top : design.CellId) (ts : List Placed) (ns : List design.Note) (ks : List (List ℕ × ℕ)) (k : List (List ℕ) × List ℕ) (i : ℕ) (d : List (List ℕ) × List ℕ) → AllNoted libs top ts ns ks → i < length (map note_key ns) → get_or (map note_key ns) i d ≡ k
    → Contains (ids ks) (flat k.0 k.1)
has_key libs top ts [] ks k i d h l e = absurd (omega arith)
has_key libs top [] (n ∷ ns) ks k i d h l e = absurd h
has_key libs top (t ∷ ts) (n ∷ ns) [] k i d h l e = absurd h
has_key libs top (t ∷ ts) (n ∷ ns) (x ∷ ks) k zero d h l e = (0, omega arith, h.0.1 ∙ ap (λ (v : List (List ℕ) × List ℕ). flat v.0 v.1) e)
has_key libs top (t ∷ ts) (n ∷ ns) (x ∷ ks) k (suc i) d h l e = let r = has_key libs top ts ns ks k i d h.1 (omega arith) e in (suc r.0, omega (arith, r.1), r.2)

all_length : (libs : List design.Lib) (top : design.CellId) (ts : List Placed) (ns : List design.Note) (ks : List (List ℕ × ℕ)) → AllNoted libs top ts ns ks → length ts ≡ length ns
all_length libs top [] [] [] h = refl
all_length libs top [] [] (k ∷ ks) h = absurd h
all_length libs top [] (n ∷ ns) ks h = absurd h
all_length libs top (t ∷ ts) [] ks h = absurd h
all_length libs top (t ∷ ts) (n ∷ ns) [] h = absurd h
all_length libs top (t ∷ ts) (n ∷ ns) (k ∷ ks) h = ap suc (all_length libs top ts ns ks h.1)

pub noted_push : (libs : List design.Lib) (top : design.CellId) (ts : List Placed) (ns : List design.Note) (ks new : List (List ℕ × ℕ)) (t : Placed) (n : design.Note) (key : List ℕ) (place : ℕ) → AreNoted libs top ts ns ks → IsNoted libs top t n place
    → key ≡ flat n.path n.property.key.id → DefinesName ks key place new None → length ns < 1048576 → AreNoted libs top (ts ++ t ∷ []) (ns ++ n ∷ []) new
noted_push libs top ts ns ks new t n key place h m e d l =
    let P : List (List ℕ × ℕ) → Type 0 = λ v. AllNoted libs top (ts ++ t ∷ []) (ns ++ n ∷ []) v in
    let D : List (List (List ℕ) × List ℕ) → Type 0 = AreDistinct in
    let C : List ℕ → Type 0 = λ v. Contains (ids ks) v in
    let c : length (ns ++ n ∷ []) ≡ length ns + 1 = length-append ns (n ∷ []) in
    record {
      all = subst P (sym d.1) (all_push libs top ts ns ks t n (key, place) h.all m e);
      differ = subst D (sym (map-append note_key ns (n ∷ []))) (distinct_push (map note_key ns) (note_key n) h.differ (λ x. d.0 (subst C (sym e) (has_key libs top ts ns ks (note_key n) x.0 (note_key n) h.all x.1 x.2))));
      count = omega (arith, c, l);
    }

-- two notes of one path and key
same_note : (libs : List design.Lib) (top : design.CellId) (a b : Placed) (m n : design.Note) (earlier place : ℕ) → IsNoted libs top a m earlier → IsNoted libs top b n place → flat m.path m.property.key.id ≡ flat n.path n.property.key.id → SameNote libs top (Clash Duplicate place earlier) a b
same_note libs top a b m n earlier place h k e =
    let s = flat_once m.path n.path m.property.key.id n.property.key.id (recursion_from_All IsIdentifier m.path h.sound.typed.path) (recursion_from_All IsIdentifier n.path k.sound.typed.path) h.sound.typed.property.key.id k.sound.typed.property.key.id e in
    let P : List (List ℕ) → List ℕ → Type 0 = λ v w. Notes libs top a v w earlier in
    record {
      steps = n.path;
      key = n.property.key.id;
      earlier = earlier;
      place = place;
      first = subst (λ w. P n.path w) s.1 (subst (λ v. P v m.property.key.id) s.0 (notes_there libs top a h.path_part h.property_part m earlier h.mean h.at_path h.at_property h.named));
      second = notes_there libs top b k.path_part k.property_part n place k.mean k.at_path k.at_property k.named;
      fault = refl;
    }

one_behind : (R : Placed → Placed → Type 0) (a : Placed) (xs ys : List Placed) (y : Placed) → R a y → AtOne (R a) (xs ++ y ∷ ys)
one_behind R a [] ys y r = inl r
one_behind R a (x ∷ xs) ys y r = inr (one_behind R a xs ys y r)

again : (libs : List design.Lib) (top : design.CellId) (ts : List Placed) (ns : List design.Note) (ks : List (List ℕ × ℕ)) (t : Placed) (rest : List Placed) (n : design.Note) (key : List ℕ) (place earlier i : ℕ) (d : List ℕ × ℕ) → AllNoted libs top ts ns ks → IsNoted libs top t n place
    → key ≡ flat n.path n.property.key.id → i < length ks → get_or ks i d ≡ (key, earlier) → AtTwo (SameNote libs top (Clash Duplicate place earlier)) (ts ++ t ∷ rest)
again libs top ts ns [] t rest n key place earlier i d h m e l g = absurd (omega arith)
again libs top [] [] (k ∷ ks) t rest n key place earlier i d h m e l g = absurd h
again libs top [] (y ∷ ns) (k ∷ ks) t rest n key place earlier i d h m e l g = absurd h
again libs top (u ∷ ts) [] (k ∷ ks) t rest n key place earlier i d h m e l g = absurd h
again libs top (u ∷ ts) (y ∷ ns) (k ∷ ks) t rest n key place earlier zero d h m e l g =
    let key_is : k.0 ≡ key = ap (λ (v : List ℕ × ℕ). v.0) g in
    let place_is : k.1 ≡ earlier = ap (λ (v : List ℕ × ℕ). v.1) g in
    let P : ℕ → Type 0 = λ v. IsNoted libs top u y v in
    inl (one_behind (SameNote libs top (Clash Duplicate place earlier)) u ts rest t (same_note libs top u t y n earlier place (subst P place_is h.0.0) m (sym h.0.1 ∙ key_is ∙ e)))
again libs top (u ∷ ts) (y ∷ ns) (k ∷ ks) t rest n key place earlier (suc i) d h m e l g = inr (again libs top ts ns ks t rest n key place earlier i d h.1 m e (omega arith) g)

pub noted_again : (libs : List design.Lib) (top : design.CellId) (ts : List Placed) (ns : List design.Note) (ks : List (List ℕ × ℕ)) (t : Placed) (n : design.Note) (key : List ℕ) (place : ℕ) (f : MeaningFault) → AreNoted libs top ts ns ks → IsNoted libs top t n place
    → key ≡ flat n.path n.property.key.id → IsAgain ks key place f → FailsBehind libs top ts t f
noted_again libs top ts ns ks t n key place f h m e a = λ rest.
    let P : MeaningFault → Type 0 = λ v. AtTwo (SameNote libs top v) (ts ++ t ∷ rest) in
    inl (inr (subst P (sym a.2) (again libs top ts ns ks t rest n key place a.0 a.1.0 (key, a.0) h.all m e a.1.1 a.1.2)))

-- what is wrong with a note
pub noted_fails : (libs : List design.Lib) (top : design.CellId) (ts : List Placed) (t : Placed) (f : MeaningFault) → NoteFault libs top t f → FailsBehind libs top ts t f
noted_fails libs top ts t f b = λ rest. inl (inl (one_later (λ u. NoteFault libs top u f) ts (t ∷ rest) (inl b)))

pub noted_beyond : (libs : List design.Lib) (top : design.CellId) (ts : List Placed) (ns : List design.Note) (ks : List (List ℕ × ℕ)) (t : Placed) (place : ℕ) → AreNoted libs top ts ns ks → 1048576 ≤ length ns → place ≡ place_of t → FailsBehind libs top ts t (OverLimit 1048576 place)
noted_beyond libs top ts ns ks t place h l p = λ rest.
    let n : length ts ≡ length ns = all_length libs top ts ns ks h.all in
    let k : length ns ≤ 1048576 = h.count in
    let e : length ts ≡ 1048576 = omega (arith, n, k, l) in
    inr (t, get_behind ts rest t 1048576 e, ap (λ v. OverLimit 1048576 v) p)

all_mean : (libs : List design.Lib) (top : design.CellId) (ts : List Placed) (ns : List design.Note) (ks : List (List ℕ × ℕ)) → AllNoted libs top ts ns ks → Each (MeansNote libs top) (map bare ts) ns × AllByRecursion IsSoundNote ns
all_mean libs top [] [] [] h = (tt, tt)
all_mean libs top [] [] (k ∷ ks) h = absurd h
all_mean libs top [] (n ∷ ns) ks h = absurd h
all_mean libs top (t ∷ ts) [] ks h = absurd h
all_mean libs top (t ∷ ts) (n ∷ ns) [] h = absurd h
all_mean libs top (t ∷ ts) (n ∷ ns) (k ∷ ks) h = let r = all_mean libs top ts ns ks h.1 in ((h.0.0.mean, r.0), (h.0.0.sound, r.1))

pub noted_end : (libs : List design.Lib) (top : design.CellId) (ts : List Placed) (ns : List design.Note) (ks : List (List ℕ × ℕ)) → AreNoted libs top ts ns ks → ReadNotes libs top ts ns
noted_end libs top ts ns ks h = let r = all_mean libs top ts ns ks h.all in record { mean = r.0; sound = r.1; count = h.count; differ = h.differ }
