-- The loops over the instances and the nets of contents.
use Rattle.std.proofs.Common.{◌≡◌, ℕ, ◌+◌, ◌*◌, ◌<◌, ◌≤◌, List, [], ◌∷◌, ◌++◌, map, length, replicate, refl, sym, ap, ◌∙◌, subst, inl, inr, true, false, Option, None, Some, arith, length-append}
use Rattle.std.specs.Prelude.{◌^◌, IfSome}
use Rattle.std.specs.List.{All, AllByRecursion, AllZip, flat_map, zip}
use Rattle.std.proofs.lemmas.List.Elements.{All-from_recursion, recursion_from_All}
use Rattle.std.proofs.lemmas.List.{length-map, map-append}
use Rattle.netlist_schema.proofs.Lists.{all_push, zip_length}
use Rattle.edif_spelling_spec.specs.Tree.{Bare, Placed, bare}
use Rattle.netlist_schema.specs.Names.{AreDistinct}
use Rattle.netlist_schema.specs.Width.{IsWidth}
use Rattle.netlist_bus_spec.specs.Members.{numbered}
use Rattle.edif_spec.specs.Design as design
use Rattle.edif_spec.specs.Faults.{AtTwo, Beyond, SameOfTwo, declared_width, place_of, repeated, those_of}
use Rattle.edif_spec.specs.Means.{MeansEnd, MeansInst}
use Rattle.edif_spec.specs.Nets.{FineForm, NetForm, Stretch, net_at, nets_of, row_size}
use Rattle.edif_spec.specs.Rows.{Each, has_keyword}
use Rattle.edif_spec.specs.Stands.{InstFault, MeansRowEnd, counted_ends, ends_in, net_names_in, row_ends}
use Rattle.edif_spec.specs.declared.keyword.Keyword.{Keyword}
use Rattle.edif_spec.specs.declared.keyword.Keyword.TheVariants as keywords
use Rattle.edif_spec.specs.declared.fault.MeaningFault.{MeaningFault}
use Rattle.edif_spec.specs.declared.fault.MeaningFault.TheVariants.{OverLimit}
use Rattle.edif_spec.proofs.FaultForms.{filter_bare}
use Rattle.edif_spec.proofs.NetFaultsApart.{net_declares, zip_append, zip_flat}
use Rattle.edif_spec.proofs.RowForms.{GivesName, ends_counted, length_numbered, net_names_are, nets_counted, row_ends_of, rows_fine}
use Rattle.edif_tree.specs.Handles.{all}
use Rattle.edif_parts.specs.Names.{DefinesName, ids}
use Rattle.edif_parts.proofs.NamedForms.{NamedForms, forms_again, forms_distinct, forms_each, forms_push, forms_skip, forms_start, forms_valid}
use Rattle.edif_parts.proofs.Steps.{fault_here, here_first, those_keep, those_skip}
use Rattle.edif_contents.specs.Inners as inners
use Rattle.edif_contents.specs.Inners.{InstTakenFault, InstsFault, ReadInsts}
use Rattle.edif_nets.specs.Joins.{SameBit, ends_of, places_of, row_of}
use Rattle.edif_contents.specs.Nets.{AreMeant, IsFine, MeansNetIn, NetsFaultIn, NetsSoFar, ReadNet, ReadNets, RowFits, form_in, names_in, refs_in}
use Rattle.edif_nets.specs.NetLists.{AreNamedAlike, AreNamedApart, JoinOnce, JoinTwice, named, row_names}
use Rattle.edif_contents.specs.declared.ends.Surroundings.{Surroundings}
use Rattle.edif_contents.specs.declared.insts.InstAt.{InstAt}
use Rattle.edif_contents.specs.declared.insts.Insts.{Insts}
use Rattle.edif_nets.specs.declared.net_list.NetList.{NetList}
use Rattle.edif_contents.specs.declared.nets.NetAt.{NetAt}
use Rattle.edif_nets.proofs.JoinLemmas.{row_count, two_same}
use Rattle.edif_contents.proofs.NetLemmas.{each_bare}
use Rattle.edif_contents.proofs.NetRows.{all_fit, beyond_one, beyond_row, flat_here, flat_push, named_row_more, names_read, places_row_more, wide_ends}

-- as many forms as values
forms_count : {A : Type 0} (M : Bare → A → Type 0) (V : A → Type 0) (g : A → List ℕ) (k : Keyword) (ts : List Placed) (xs : List A) (ns : List (List ℕ × ℕ)) → NamedForms M V g k ts xs ns → length (those_of k ts) ≡ length xs
forms_count M V g k ts xs ns f = sym (length-map (those_of k ts) bare) ∙ zip_length M (map bare (those_of k ts)) xs f.means

-- a form beyond the limit
pub forms_beyond : {A : Type 0} (M : Bare → A → Type 0) (V : A → Type 0) (g : A → List ℕ) (k : Keyword) (ts before rest : List Placed) (t : Placed) (xs : List A) (ns : List (List ℕ × ℕ)) (limit place : ℕ)
    → those_of k ts ≡ those_of k before ++ t ∷ those_of k rest → NamedForms M V g k before xs ns → length xs ≤ limit → limit ≤ length xs → place ≡ place_of t → Beyond limit (those_of k ts) (OverLimit limit place)
forms_beyond M V g k ts before rest t xs ns limit place e f a b p =
    let P : List Placed → Type 0 = λ v. Beyond limit v (OverLimit limit place) in
    subst P (sym e) (beyond_one limit (length xs) place (those_of k before) (those_of k rest) t (forms_count M V g k before xs ns f) a b p)

-- Instances.
abbrev pub inst_name : design.Inst → List ℕ
inst_name x = x.name.id

abbrev pub InstForms : List design.Lib → Option ℕ → List Placed → List design.Inst → List (List ℕ × ℕ) → Type 0
InstForms libs own ts xs ns = NamedForms (MeansInst libs own) inners.IsFine inst_name keywords.Instance ts xs ns

pub record InstsSoFar (libs : List design.Lib) (own : Option ℕ) (ts : List Placed) (xs : List design.Inst) (ns : List (List ℕ × ℕ)) : Type 0 where
  pub forms : InstForms libs own ts xs ns
  pub count : length xs ≤ 1048576

pub insts_start : (libs : List design.Lib) (own : Option ℕ) → InstsSoFar libs own [] [] []
insts_start libs own = record { forms = forms_start (MeansInst libs own) inners.IsFine inst_name keywords.Instance; count = omega arith }

pub insts_push : (libs : List design.Lib) (own : Option ℕ) (ts : List Placed) (t : Placed) (xs : List design.Inst) (r : InstAt) (ns ms : List (List ℕ × ℕ))
    → has_keyword keywords.Instance (bare t) ≡ true → inners.ReadInst libs own t r → DefinesName ns r.inst.name.id r.place ms None → length xs < 1048576 → InstsSoFar libs own ts xs ns → InstsSoFar libs own (ts ++ t ∷ []) (xs ++ r.inst ∷ []) ms
insts_push libs own ts t xs r ns ms h a d l f =
    record {
      forms = forms_push (MeansInst libs own) inners.IsFine inst_name keywords.Instance ts t xs r.inst ns ms r.place h a.mean (a.typed, a.keys) a.named d f.forms;
      count = let c = length-append xs (r.inst ∷ []) in omega (arith, c, l);
    }

pub insts_skip : (libs : List design.Lib) (own : Option ℕ) (ts : List Placed) (t : Placed) (xs : List design.Inst) (ns : List (List ℕ × ℕ)) → has_keyword keywords.Instance (bare t) ≡ false → InstsSoFar libs own ts xs ns → InstsSoFar libs own (ts ++ t ∷ []) xs ns
insts_skip libs own ts t xs ns h f = record { forms = forms_skip (MeansInst libs own) inners.IsFine inst_name keywords.Instance ts t xs ns h f.forms; count = f.count }

pub insts_end : (libs : List design.Lib) (own : Option ℕ) (ts : List Placed) (r : Insts) → InstsSoFar libs own ts r.list.items r.names → ReadInsts libs own ts r
insts_end libs own ts r f = record {
  mean = forms_each (MeansInst libs own) inners.IsFine inst_name keywords.Instance ts r.list.items r.names f.forms;
  fine = forms_valid (MeansInst libs own) inners.IsFine inst_name keywords.Instance ts r.list.items r.names f.forms;
  distinct = forms_distinct (MeansInst libs own) inners.IsFine inst_name keywords.Instance ts r.list.items r.names f.forms;
  count = f.count;
  names = f.forms.named;
}

-- what is wrong with a further instance is wrong with the instances
pub insts_next_fails : (libs : List design.Lib) (own : Option ℕ) (ts before us rest : List Placed) (t : Placed) (xs : List design.Inst) (ns : List (List ℕ × ℕ)) (f : MeaningFault)
    → ts ≡ before ++ us → us ≡ t ∷ rest → has_keyword keywords.Instance (bare t) ≡ true → InstsSoFar libs own before xs ns → InstTakenFault libs own t ns xs f → InstsFault libs own (those_of keywords.Instance ts) f
insts_next_fails libs own ts before us rest t xs ns f e d h s (inl b) = inl (fault_here (InstFault libs own) keywords.Instance ts before us rest t f e d h b)
insts_next_fails libs own ts before us rest t xs ns f e d h s (inr (inl b)) =
    inr (inl (forms_again (MeansInst libs own) inners.IsFine inst_name keywords.Instance ts before rest t xs ns b.name b.place f (here_first keywords.Instance ts before us rest t e d h) b.defines s.forms b.again))
insts_next_fails libs own ts before us rest t xs ns f e d h s (inr (inr b)) =
    let P : MeaningFault → Type 0 = λ v. Beyond 1048576 (those_of keywords.Instance ts) v in
    inr (inr (subst P (sym b.1) (forms_beyond (MeansInst libs own) inners.IsFine inst_name keywords.Instance ts before rest t xs ns 1048576 (place_of t) (here_first keywords.Instance ts before us rest t e d h) s.forms s.count b.0 refl)))

-- Nets.
abbrev pub net_name : design.Net → List ℕ
net_name n = n.name.id

abbrev pub counted_in : List Placed → List Placed
counted_in ts = flat_map counted_ends (those_of keywords.Net ts)

abbrev pub MeansEndsIn : Surroundings → ℕ → List Placed → List Stretch → Type 0
MeansEndsIn s size us ss = AllZip (λ u x. MeansEnd s.libs.now.libs s.ports.now s.insts.now (bare u) x × (x.width ≡ size)) us ss

pub nets_start : (s : Surroundings) (l : NetList) → l.nets.items ≡ [] → l.places.items ≡ [] → l.ends.items ≡ [] → NetsSoFar s [] l
nets_start s l a b e = record {
  forms = [];
  mean = tt;
  fine = tt;
  nets = a;
  places = ap length b ∙ sym (ap length a);
  names = ap (λ v. named v l.places.items) a;
  count = omega (arith, ap length a);
  ends = e;
  ends_count = omega (arith, ap length e);
}

-- the ends of a net that is read
net_ends_are : (s : Surroundings) (t : Placed) (n : NetAt) (ss : List Stretch) (size : ℕ) → ss ≡ (form_in n.net).joined → size ≡ row_size (form_in n.net).array → ReadNet s t n → MeansEndsIn s size (ends_in t) ss
net_ends_are s t n ss size e d r = wide_ends s.libs.now.libs s.ports.now s.insts.now t (form_in n.net) ss size d e r.mean

pub net_ends_fit : (s : Surroundings) (t : Placed) (n : NetAt) (ss : List Stretch) (size : ℕ) → ss ≡ (form_in n.net).joined → size ≡ row_size (form_in n.net).array → size < 2 ^ 32 → ReadNet s t n → All (λ x. x.first + size ≤ 2 ^ 32) ss
net_ends_fit s t n ss size e d l r =
    let P : List Stretch → Type 0 = λ v. AllByRecursion (λ x. x.first < 2 ^ 32) v in
    All-from_recursion (λ x. x.first + size ≤ 2 ^ 32) ss
    (all_fit s.libs.now.libs s.ports.now s.insts.now (ends_in t) ss size (net_ends_are s t n ss size e d r) l (subst P (sym e) (recursion_from_All (λ x. x.first < 2 ^ 32) (form_in n.net).joined r.within)))

-- a further row, with its ends
row_refs : (s : Surroundings) (t : Placed) (n : NetForm) (size : ℕ) → MeansNetIn s (bare t) n → size ≡ row_size n.array → row_ends t ≡ row_of size (ends_in t)
row_refs s t n size h d = ap (λ v. row_of v (ends_in t)) (net_declares s.libs.now.libs s.ports.now s.insts.now t n h ∙ sym d)

row_counts : (s : Surroundings) (t : Placed) (n : NetForm) (size : ℕ) → MeansNetIn s (bare t) n → size ≡ row_size n.array → counted_ends t ≡ repeated (λ u. size) (ends_in t)
row_counts s t n size h d = ap (λ v. repeated (λ u. v) (ends_in t)) (net_declares s.libs.now.libs s.ports.now s.insts.now t n h ∙ sym d)

-- the width of a row that is read
pub row_small : (array : Option ℕ) → IfSome array IsWidth → row_size array < 2 ^ 32
row_small None h = omega arith
row_small (Some w) h = omega (arith, h.1)

pub nets_push : (s : Surroundings) (ts : List Placed) (t : Placed) (old new : NetList) (r : NetAt) → has_keyword keywords.Net (bare t) ≡ true → ReadNet s t r → RowFits old t (form_in r.net) → new.nets.items ≡ old.nets.items ++ nets_of (form_in r.net)
    → new.places.items ≡ old.places.items ++ numbered (λ k. r.place) 0 (row_size (form_in r.net).array) → new.ends.items ≡ old.ends.items ++ places_of (row_of (row_size (form_in r.net).array) (all r.ends)) → NetsSoFar s ts old → NetsSoFar s (ts ++ t ∷ []) new
nets_push s ts t old new r h a w b q e f =
    let size : ℕ = row_size (form_in r.net).array in
    let xs = old.nets.items in
    let ps = old.places.items in
    let more : those_of keywords.Net (ts ++ t ∷ []) ≡ those_of keywords.Net ts ++ t ∷ [] = those_keep keywords.Net ts t h in
    let refs : refs_in (ts ++ t ∷ []) ≡ refs_in ts ++ row_of size (ends_in t) =
    ap (flat_map row_ends) more ∙ (flat_push row_ends (those_of keywords.Net ts) t ∙ ap (λ v. refs_in ts ++ v) (row_refs s t (form_in r.net) size a.mean refl)) in
    let places : places_of (refs_in (ts ++ t ∷ [])) ≡ places_of (refs_in ts) ++ places_of (row_of size (ends_in t)) =
    ap places_of refs ∙ map-append (λ (u : Placed × ℕ × ℕ). place_of u.0) (refs_in ts) (row_of size (ends_in t)) in
    let names : names_in (ts ++ t ∷ []) ≡ names_in ts ++ row_names (form_in r.net) r.place =
    ap (flat_map net_names_in) more ∙ (flat_push net_names_in (those_of keywords.Net ts) t
    ∙ ap (λ v. names_in ts ++ v) (names_read s.libs.now.libs s.ports.now s.insts.now t (form_in r.net) r.place a.mean a.named)) in
    let M : List Placed → Type 0 = λ v. AreMeant s v (f.forms ++ (form_in r.net) ∷ []) in
    let c : length new.nets.items ≡ length xs + length (nets_of (form_in r.net)) = ap length b ∙ length-append xs (nets_of (form_in r.net)) in
    let k : length (nets_of (form_in r.net)) ≡ row_size (form_in r.net).array = length_numbered (net_at (form_in r.net)) 0 (row_size (form_in r.net).array) in
    let ends : new.ends.items ≡ old.ends.items ++ places_of (row_of size (ends_in t)) = e ∙ ap (λ v. old.ends.items ++ places_of (row_of size v)) a.nodes in
    let g : length new.ends.items ≡ length old.ends.items + length (places_of (row_of size (ends_in t))) = ap length ends ∙ length-append old.ends.items (places_of (row_of size (ends_in t))) in
    let m : length (places_of (row_of size (ends_in t))) ≡ length (ends_in t) * row_size (form_in r.net).array = length-map (row_of size (ends_in t)) (λ (u : Placed × ℕ × ℕ). place_of u.0) ∙ row_count size (ends_in t) in
    record {
      forms = f.forms ++ (form_in r.net) ∷ [];
      mean = subst M (sym more) (zip_append (λ u n. MeansNetIn s (bare u) n) (those_of keywords.Net ts) f.forms (t ∷ []) ((form_in r.net) ∷ []) f.mean (a.mean, tt));
      fine = all_push FineForm f.forms (form_in r.net) f.fine a.fine;
      nets = b ∙ (ap (λ v. v ++ nets_of (form_in r.net)) f.nets ∙ sym (flat_push nets_of f.forms (form_in r.net)));
      places = ap length q ∙ (places_row_more (form_in r.net) r.place xs ps f.places ∙ ap length (sym b));
      names = ap (named new.nets.items) q ∙ (ap (λ v. named v (ps ++ numbered (λ k. r.place) 0 size)) b ∙ (named_row_more (form_in r.net) r.place xs ps f.places ∙ (ap (λ v. v ++ row_names (form_in r.net) r.place) f.names ∙ sym names)));
      count = let l = w.0 in omega (arith, c, k, l);
      ends = ends ∙ (ap (λ v. v ++ places_of (row_of size (ends_in t))) f.ends ∙ sym places);
      ends_count = let l = w.1 in omega (arith, g, m, l);
    }

pub nets_skip : (s : Surroundings) (ts : List Placed) (t : Placed) (l : NetList) → has_keyword keywords.Net (bare t) ≡ false → NetsSoFar s ts l → NetsSoFar s (ts ++ t ∷ []) l
nets_skip s ts t l h f =
    let same : those_of keywords.Net (ts ++ t ∷ []) ≡ those_of keywords.Net ts = those_skip keywords.Net ts t h in
    let M : List Placed → Type 0 = λ v. AreMeant s v f.forms in
    record {
      forms = f.forms;
      mean = subst M (sym same) f.mean;
      fine = f.fine;
      nets = f.nets;
      places = f.places;
      names = f.names ∙ ap (flat_map net_names_in) (sym same);
      count = f.count;
      ends = f.ends ∙ ap (λ v. places_of (flat_map row_ends v)) (sym same);
      ends_count = f.ends_count;
    }

-- the ends of the next row beyond the limit
pub ends_beyond : (s : Surroundings) (ts before rest : List Placed) (t : Placed) (n : NetForm) (f : MeaningFault) → those_of keywords.Net ts ≡ those_of keywords.Net before ++ t ∷ those_of keywords.Net rest → MeansNetIn s (bare t) n
    → Beyond 4194304 ((counted_in before ++ repeated (λ u. row_size n.array) (ends_in t)) ++ flat_map counted_ends (those_of keywords.Net rest)) f → NetsFaultIn s (those_of keywords.Net ts) f
ends_beyond s ts before rest t n f h m b =
    let us : List Placed = those_of keywords.Net before in
    let after : List Placed = those_of keywords.Net rest in
    let counts : counted_in ts ≡ (counted_in before ++ repeated (λ u. row_size n.array) (ends_in t)) ++ flat_map counted_ends after =
    ap (flat_map counted_ends) h ∙ (flat_here counted_ends us after t ∙ ap (λ v. (counted_in before ++ v) ++ flat_map counted_ends after) (row_counts s t n (row_size n.array) m refl)) in
    let Q : List Placed → Type 0 = λ v. Beyond 4194304 v f in
    inr (inr (inr (inr (subst Q (sym counts) b))))

-- as many ends are counted as have places
pub counted_so_far : (s : Surroundings) (ts : List Placed) (l : NetList) → NetsSoFar s ts l → length (counted_in ts) ≡ length l.ends.items
counted_so_far s ts l f = sym (ap length f.ends ∙ (length-map (refs_in ts) (λ (u : Placed × ℕ × ℕ). place_of u.0) ∙ ends_counted (those_of keywords.Net ts)))

-- a row beyond the limit
pub nets_beyond : (s : Surroundings) (ts before rest : List Placed) (t : Placed) (l : NetList) (n : NetForm) (size place : ℕ)
    → those_of keywords.Net ts ≡ those_of keywords.Net before ++ t ∷ those_of keywords.Net rest → MeansNetIn s (bare t) n → size ≡ row_size n.array → place ≡ place_of t → 1048576 < length l.nets.items + size → NetsSoFar s before l → NetsFaultIn s (those_of keywords.Net ts) (OverLimit 1048576 place)
nets_beyond s ts before rest t list n size place h m d p l f =
    let us : List Placed = those_of keywords.Net before in
    let after : List Placed = those_of keywords.Net rest in
    let counts : repeated declared_width (those_of keywords.Net ts) ≡ (repeated declared_width us ++ replicate (declared_width t) t) ++ repeated declared_width after =
    ap (repeated declared_width) h ∙ flat_here (λ u. replicate (declared_width u) u) us after t in
    let c : length (repeated declared_width us) ≡ length (flat_map nets_of f.forms) = nets_counted s.libs.now.libs s.ports.now s.insts.now us f.forms f.mean in
    let k : length list.nets.items ≡ length (flat_map nets_of f.forms) = ap length f.nets in
    let w : declared_width t ≡ row_size n.array = net_declares s.libs.now.libs s.ports.now s.insts.now t n m in
    let a : length (repeated declared_width us) ≤ 1048576 = let g = f.count in omega (arith, c, k, g) in
    let b : 1048576 < length (repeated declared_width us) + declared_width t = omega (arith, c, k, w, d, l) in
    let P : List Placed → Type 0 = λ v. Beyond 1048576 v (OverLimit 1048576 place) in
    inr (inr (inr (inl (subst P (sym counts) (beyond_row 1048576 (declared_width t) place (repeated declared_width us) (repeated declared_width after) t a b p)))))

-- names alone, beside the nets that they name
names_are : (ns : List (List ℕ × ℕ)) (xs : List design.Net) → AllZip GivesName ns xs → ids ns ≡ map net_name xs
names_are [] [] h = refl
names_are [] (x ∷ xs) h = absurd h
names_are (n ∷ ns) [] h = absurd h
names_are (n ∷ ns) (x ∷ xs) h = cc (h.0, names_are ns xs h.1)

-- each end is what its form means
ends_mean : (s : Surroundings) (ts : List Placed) (l : NetList) → NetsSoFar s ts l → AllZip (MeansRowEnd s.libs.now.libs s.ports.now s.insts.now) (refs_in ts) (ends_of l.nets.items)
ends_mean s ts l f =
    let P : List design.Net → Type 0 = λ v. AllZip (MeansRowEnd s.libs.now.libs s.ports.now s.insts.now) (refs_in ts) (ends_of v) in
    subst P (sym f.nets) (row_ends_of s.libs.now.libs s.ports.now s.insts.now (those_of keywords.Net ts) f.forms f.mean)

pub ends_placed : (s : Surroundings) (ts : List Placed) (l : NetList) → NetsSoFar s ts l → length l.ends.items ≡ length (ends_of l.nets.items)
ends_placed s ts l f = ap length f.ends ∙ (length-map (refs_in ts) (λ (u : Placed × ℕ × ℕ). place_of u.0) ∙ zip_length (MeansRowEnd s.libs.now.libs s.ports.now s.insts.now) (refs_in ts) (ends_of l.nets.items) (ends_mean s ts l f))

pub nets_end : (s : Surroundings) (ts : List Placed) (l : NetList) → NetsSoFar s ts l → JoinOnce l → AreNamedApart l → ReadNets s ts l.nets.items
nets_end s ts l g o d =
    let xs = l.nets.items in
    let us : List Placed = those_of keywords.Net ts in
    let N : List (List ℕ) → Type 0 = AreDistinct in
    let R : List Bare → Type 0 = λ v. Each (MeansNetIn s) v g.forms in
    let F : List design.Net → Type 0 = λ v. AllByRecursion IsFine v in
    let m : length l.ends.items ≡ length (ends_of xs) = ends_placed s ts l g in
    let n : length l.ends.items ≤ 4194304 = g.ends_count in
    let z : AllZip GivesName (names_in ts) (flat_map nets_of g.forms) =
    zip_flat (λ u n. MeansNetIn s (bare u) n) GivesName net_names_in nets_of (λ u n h. net_names_are s.libs.now.libs s.ports.now s.insts.now u n h) us g.forms g.mean in
    let alone : ids (named xs l.places.items) ≡ map net_name xs = ap ids g.names ∙ (names_are (names_in ts) (flat_map nets_of g.forms) z ∙ ap (map net_name) (sym g.nets)) in
    record {
      rows = g.forms;
      mean = subst R (filter_bare (has_keyword keywords.Net) ts) (each_bare (MeansNetIn s) us g.forms g.mean);
      nets = g.nets;
      fine = All-from_recursion IsFine xs (subst F (sym g.nets) (rows_fine g.forms g.fine));
      names = subst N alone d;
      count = g.count;
      ends = omega (arith, m, n);
      joined_once = o;
    }

-- a name that stands twice, or a bit that is joined twice, is one of the forms of nets
pub names_fail : (s : Surroundings) (ts : List Placed) (l : NetList) (f : MeaningFault) → NetsSoFar s ts l → AreNamedAlike l f → NetsFaultIn s (those_of keywords.Net ts) f
names_fail s ts l f g b = let P : List (List ℕ × ℕ) → Type 0 = λ v. AtTwo (SameOfTwo f) v in inr (inr (inl (subst P g.names b)))

pub ends_fail : (s : Surroundings) (ts : List Placed) (l : NetList) (f : MeaningFault) → NetsSoFar s ts l → JoinTwice l f → NetsFaultIn s (those_of keywords.Net ts) f
ends_fail s ts l f g b =
    let P : List ℕ → Type 0 = λ v. AtTwo (SameBit f) (zip (ends_of l.nets.items) v) in
    inr (inl (two_same s.libs.now.libs s.ports.now s.insts.now f (refs_in ts) (ends_of l.nets.items) (ends_mean s ts l g) (subst P g.ends b)))
