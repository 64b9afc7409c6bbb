-- A list of forms of one keyword, as it is read: what each means, and the name that each defines, which differ.
use Rattle.std.proofs.Common.{◌≡◌, ◌<◌, ℕ, List, [], ◌∷◌, ◌++◌, map, refl, sym, ap, ◌∙◌, subst, None, Some, true, false, arith}
use Rattle.std.specs.List.{All, AllZip, AllByRecursion, Contains}
use Rattle.std.proofs.lemmas.List.{map-append}
use Rattle.std.proofs.lemmas.List.Elements.{All-from_recursion}
use Rattle.netlist_schema.proofs.Lists.{all_push}
use Rattle.edif_spelling_spec.specs.Tree.{Bare, Placed, bare}
use Rattle.netlist_schema.specs.Names.{AreDistinct}
use Rattle.edif_spec.specs.Faults.{Repeats, those_of, defined}
use Rattle.edif_spec.specs.Rows.{has_keyword, those, Each}
use Rattle.edif_spec.specs.declared.keyword.Keyword.{Keyword}
use Rattle.edif_spec.specs.declared.fault.ClashKind.TheVariants.{Duplicate}
use Rattle.edif_spec.specs.declared.fault.MeaningFault.{MeaningFault}
use Rattle.edif_spec.specs.declared.fault.MeaningFault.TheVariants.{Clash}
use Rattle.edif_spec.proofs.FaultForms.{filter_bare}
use Rattle.edif_parts.specs.Adding.{Adds, DefinesAgain, MeansOne}
use Rattle.edif_parts.specs.Names.{ids, Define, DefinesName, IsAgain}
use Rattle.edif_parts.proofs.NameLists.{define_push, ids_named, ids_push, name_repeats, none_distinct, distinct_push}
use Rattle.edif_parts.proofs.Steps.{those_keep, those_skip}

-- The forms of a keyword among these: each means the value in its place, which has the property, and its name is that in its place.
pub record NamedForms {A : Type 0} (M : Bare → A → Type 0) (V : A → Type 0) (g : A → List ℕ) (k : Keyword) (ts : List Placed) (xs : List A) (ns : List (List ℕ × ℕ)) : Type 0 where
  pub means : Each M (map bare (those_of k ts)) xs
  pub valid : AllByRecursion V xs
  pub defines : Define (those_of k ts) ns
  pub named : ids ns ≡ map g xs
  pub distinct : AreDistinct (ids ns)

pub each_push : {A B : Type 0} (R : A → B → Type 0) (ts : List A) (xs : List B) (t : A) (x : B) → AllZip R ts xs → R t x → AllZip R (ts ++ t ∷ []) (xs ++ x ∷ [])
each_push R [] [] t x h r = (r, tt)
each_push R [] (y ∷ xs) t x h r = absurd h
each_push R (u ∷ ts) [] t x h r = absurd h
each_push R (u ∷ ts) (y ∷ xs) t x h r = (h.0, each_push R ts xs t x h.1 r)

pub forms_start : {A : Type 0} (M : Bare → A → Type 0) (V : A → Type 0) (g : A → List ℕ) (k : Keyword) → NamedForms M V g k [] [] []
forms_start M V g k = record { means = tt; valid = tt; defines = tt; named = refl; distinct = none_distinct }

-- a further form of the keyword
pub forms_push : {A : Type 0} (M : Bare → A → Type 0) (V : A → Type 0) (g : A → List ℕ) (k : Keyword) (ts : List Placed) (t : Placed) (xs : List A) (x : A) (ns ms : List (List ℕ × ℕ)) (place : ℕ)
    → has_keyword k (bare t) ≡ true → M (bare t) x → V x → defined t ≡ Some (g x, place) → DefinesName ns (g x) place ms None → NamedForms M V g k ts xs ns → NamedForms M V g k (ts ++ t ∷ []) (xs ++ x ∷ []) ms
forms_push {A} M V g k ts t xs x ns ms place h m v d n f =
    let us : List Placed = those_of k ts in
    let more : those_of k (ts ++ t ∷ []) ≡ us ++ t ∷ [] = those_keep k ts t h in
    let bares : map bare (us ++ t ∷ []) ≡ map bare us ++ bare t ∷ [] = map-append bare us (t ∷ []) in
    let P : List Bare → Type 0 = λ w. Each M w (xs ++ x ∷ []) in
    let Q : List Placed → Type 0 = λ w. Define w (ns ++ (g x, place) ∷ []) in
    let D : List (List ℕ × ℕ) → Type 0 = λ w. Define (those_of k (ts ++ t ∷ [])) w in
    let N : List (List ℕ × ℕ) → Type 0 = λ w. ids w ≡ map g (xs ++ x ∷ []) in
    let S : List (List ℕ × ℕ) → Type 0 = λ w. AreDistinct (ids w) in
    let Z : List (List ℕ) → Type 0 = AreDistinct in
    record {
      means = subst P (sym (ap (map bare) more ∙ bares)) (each_push M (map bare us) xs (bare t) x f.means m);
      valid = all_push V xs x f.valid v;
      defines = subst D (sym n.1) (subst Q (sym more) (define_push us ns t (g x, place) f.defines d));
      named = subst N (sym n.1) (ids_named g ns xs x place f.named);
      distinct = subst S (sym n.1) (subst Z (sym (ids_push ns (g x) place)) (distinct_push (ids ns) (g x) f.distinct n.0));
    }

pub forms_add : {A : Type 0} (M : Bare → A → Type 0) (V : A → Type 0) (g : A → List ℕ) (k : Keyword) (ts : List Placed) (t : Placed) (xs ys : List A) (ns ms : List (List ℕ × ℕ))
    → has_keyword k (bare t) ≡ true → Adds M V g t xs ys ns ms → NamedForms M V g k ts xs ns → NamedForms M V g k (ts ++ t ∷ []) ys ms
forms_add {A} M V g k ts t xs ys ns ms h a f =
    let P : List A → Type 0 = λ v. NamedForms M V g k (ts ++ t ∷ []) v ms in
    subst P (sym a.list) (forms_push M V g k ts t xs a.value ns ms a.place h a.means a.valid a.at a.name f)

-- a form of another keyword
pub forms_skip : {A : Type 0} (M : Bare → A → Type 0) (V : A → Type 0) (g : A → List ℕ) (k : Keyword) (ts : List Placed) (t : Placed) (xs : List A) (ns : List (List ℕ × ℕ))
    → has_keyword k (bare t) ≡ false → NamedForms M V g k ts xs ns → NamedForms M V g k (ts ++ t ∷ []) xs ns
forms_skip {A} M V g k ts t xs ns h f =
    let e = sym (those_skip k ts t h) in
    let P : List Placed → Type 0 = λ w. Each M (map bare w) xs in
    let Q : List Placed → Type 0 = λ w. Define w ns in
    record { means = subst P e f.means; valid = f.valid; defines = subst Q e f.defines; named = f.named; distinct = f.distinct }

-- a further form with a name that is there
pub forms_again : {A : Type 0} (M : Bare → A → Type 0) (V : A → Type 0) (g : A → List ℕ) (k : Keyword) (all before rest : List Placed) (t : Placed) (xs : List A) (ns : List (List ℕ × ℕ)) (name : List ℕ) (place : ℕ) (f : MeaningFault)
    → those_of k all ≡ those_of k before ++ t ∷ those_of k rest → defined t ≡ Some (name, place) → NamedForms M V g k before xs ns → IsAgain ns name place f → Repeats (those_of k all) f
forms_again M V g k all before rest t xs ns name place f e d r n =
    let P : List Placed → Type 0 = λ w. Repeats w (Clash Duplicate place n.0) in
    let Q : MeaningFault → Type 0 = λ v. Repeats (those_of k all) v in
    subst Q (sym n.2) (subst P (sym e) (name_repeats (those_of k before) ns t (those_of k rest) name n.0 place r.defines n.1 d))

pub forms_twice : {A : Type 0} (M : Bare → A → Type 0) (V : A → Type 0) (g : A → List ℕ) (k : Keyword) (all before rest : List Placed) (t : Placed) (xs : List A) (ns : List (List ℕ × ℕ)) (f : MeaningFault)
    → those_of k all ≡ those_of k before ++ t ∷ those_of k rest → NamedForms M V g k before xs ns → DefinesAgain ns t f → Repeats (those_of k all) f
forms_twice M V g k all before rest t xs ns f e r d = forms_again M V g k all before rest t xs ns d.name d.place f e d.defines r d.again

pub forms_each : {A : Type 0} (M : Bare → A → Type 0) (V : A → Type 0) (g : A → List ℕ) (k : Keyword) (ts : List Placed) (xs : List A) (ns : List (List ℕ × ℕ)) → NamedForms M V g k ts xs ns → Each M (those k (map bare ts)) xs
forms_each M V g k ts xs ns f = let P : List Bare → Type 0 = λ w. Each M w xs in subst P (filter_bare (has_keyword k) ts) f.means

pub forms_valid : {A : Type 0} (M : Bare → A → Type 0) (V : A → Type 0) (g : A → List ℕ) (k : Keyword) (ts : List Placed) (xs : List A) (ns : List (List ℕ × ℕ)) → NamedForms M V g k ts xs ns → All V xs
forms_valid M V g k ts xs ns f = All-from_recursion V xs f.valid

pub forms_distinct : {A : Type 0} (M : Bare → A → Type 0) (V : A → Type 0) (g : A → List ℕ) (k : Keyword) (ts : List Placed) (xs : List A) (ns : List (List ℕ × ℕ)) → NamedForms M V g k ts xs ns → AreDistinct (map g xs)
forms_distinct M V g k ts xs ns f = let P : List (List ℕ) → Type 0 = AreDistinct in subst P f.named f.distinct

-- the list of the only one
pub one_form : {A : Type 0} (M : Bare → A → Type 0) (V : A → Type 0) (g : A → List ℕ) (k : Keyword) (ts : List Placed) (t : Placed) (xs : List A) → those_of k ts ≡ t ∷ [] → MeansOne M V t xs → Each M (those k (map bare ts)) xs × All V xs × AreDistinct (map g xs)
one_form {A} M V g k ts t xs e a =
    let x : A = a.value in
    let P : List Bare → Type 0 = λ w. Each M w (x ∷ []) in
    let Q : List A → Type 0 = λ w. Each M (those k (map bare ts)) w × All V w × AreDistinct (map g w) in
    let w : bare t ∷ [] ≡ those k (map bare ts) = ap (map bare) (sym e) ∙ filter_bare (has_keyword k) ts in
    subst Q (sym a.list) (subst P w (a.means, tt), All-from_recursion V (x ∷ []) (a.valid, tt), distinct_push [] (g x) none_distinct not_there)
  where
    not_there : ¬ Contains [] (g a.value)
    not_there h = let l : h.0 < 0 = h.1 in omega (arith, l)

-- the list of none
pub no_forms : {A : Type 0} (M : Bare → A → Type 0) (V : A → Type 0) (g : A → List ℕ) (k : Keyword) (ts : List Placed) → those_of k ts ≡ [] → Each M (those k (map bare ts)) [] × All V [] × AreDistinct (map g [])
no_forms {A} M V g k ts e =
    let none : List A = [] in
    let P : List Bare → Type 0 = λ w. Each M w none in
    let w : [] ≡ those k (map bare ts) = ap (map bare) (sym e) ∙ filter_bare (has_keyword k) ts in
    (subst P w tt, All-from_recursion V none tt, none_distinct)
