-- The nets for which the forms of nets stand: their names, their ends, and how many they are.
use Rattle.std.proofs.Common.{◌≡◌, ℕ, zero, suc, ◌+◌, ◌*◌, ◌<◌, ◌≤◌, List, [], ◌∷◌, map, replicate, length, refl, ap, sym, ◌∙◌, subst, Bool, true, false, Option, Some, None, arith, length-append}
use Rattle.std.specs.Prelude.{IfSome}
use Rattle.std.specs.List.{AllZip, AllByRecursion, flat_map}
use Rattle.std.proofs.Math.Nat.{mul_comm, suc-mul}
use Rattle.std.proofs.lemmas.List.{length-map, length-replicate}
use Rattle.std.proofs.lemmas.Grind.{flat_map-append}
use Rattle.netlist_schema.specs.Names.{HasDistinctKeys}
use Rattle.netlist_schema.specs.Typed.{IsTypedName, IsTypedNet}
use Rattle.netlist_schema.specs.Width.{IsWidth}
use Rattle.netlist_schema.proofs.Lists.{all_append}
use Rattle.edif_spelling_spec.specs.Tree.{Bare, Placed, integer, bare}
use Rattle.std.specs.Prelude.{pos}
use Rattle.netlist_bus_spec.specs.Members.{numbered}
use Rattle.netlist_bus_spec.proofs.MemberNames.{member_typed}
use Rattle.edif_spec.proofs.CellPlaces.{all_append_parts}
use Rattle.edif_spec.specs.Faults.{declared_width, defined, repeated}
use Rattle.edif_spec.specs.Means.{MeansBusName, MeansEnd, MeansNet}
use Rattle.edif_spec.specs.Nets.{FineForm, NetForm, Stretch, end_of, name_at, net_at, nets_of, row_size}
use Rattle.edif_spec.specs.Rows.{has_keyword}
use Rattle.edif_spec.specs.Stands.{MeansRowEnd, counted_ends, ends_in, is_arrayed, member_at, names_from, net_names_in, row_ends}
use Rattle.edif_spec.specs.Design as design
use Rattle.edif_spec.specs.declared.keyword.Keyword.TheVariants as keywords
use Rattle.edif_spec.proofs.FaultForms.{part_there}
use Rattle.edif_spec.proofs.FaultsApart.{keyword_of, no_array}
use Rattle.edif_spec.proofs.NetFaultsApart.{net_declares, net_ends, net_named, zip_append, zip_flat}

-- values by their numbers
pub zip_numbered : {A B : Type 0} (R : A → B → Type 0) (f : ℕ → A) (g : ℕ → B) (k count : ℕ) → ((i : ℕ) → R (f i) (g i)) → AllZip R (numbered f k count) (numbered g k count)
zip_numbered R f g k zero h = tt
zip_numbered R f g k (suc count) h = (h k, zip_numbered R f g (suc k) count h)

pub all_numbered : {A : Type 0} (P : A → Type 0) (f : ℕ → A) (k count limit : ℕ) → k + count ≤ limit → ((i : ℕ) → i < limit → P (f i)) → AllByRecursion P (numbered f k count)
all_numbered P f k zero limit l h = tt
all_numbered P f k (suc count) limit l h = (h k (omega (arith, l)), all_numbered P f (suc k) count limit (omega (arith, l)) h)

pub length_numbered : {A : Type 0} (f : ℕ → A) (k count : ℕ) → length (numbered f k count) ≡ count
length_numbered f k zero = refl
length_numbered f k (suc count) = ap suc (length_numbered f (suc k) count)

-- names
abbrev pub GivesName : List ℕ × ℕ → design.Net → Type 0
GivesName a n = a.0 ≡ n.name.id

-- net k of a row whose name is of an array or of none
abbrev row_net : NetForm → Option ℕ → ℕ → design.Net
row_net n o k = record { name = name_at n.name o k; ends = map (end_of k) n.joined; properties = n.properties }

names_of_row : (u : Placed) (n : NetForm) (o : Option ℕ) (p size : ℕ) → MeansBusName (bare u) n.name o → size ≡ row_size o → AllZip GivesName (names_from (is_arrayed (Some u)) size (Some (n.name.id, p))) (numbered (row_net n o) 0 (row_size o))
names_of_row u n None p size h e =
    let b : has_keyword keywords.Array (bare u) ≡ false = no_array u n.name (has_keyword keywords.Array (bare u)) refl h in
    let P : Bool → Type 0 = λ v. AllZip GivesName (names_from v size (Some (n.name.id, p))) (numbered (row_net n None) 0 1) in
    subst P (sym b) (refl, tt)
names_of_row u n (Some w) p size h e =
    let b : has_keyword keywords.Array (bare u) ≡ true = keyword_of keywords.Array (bare u) (h.0 ∷ integer (pos w) ∷ []) [] h.1 in
    let P : Bool → Type 0 = λ v. AllZip GivesName (names_from v size (Some (n.name.id, p))) (numbered (row_net n (Some w)) 0 w) in
    let Q : ℕ → Type 0 = λ v. AllZip GivesName (numbered (member_at (n.name.id, p)) 0 v) (numbered (row_net n (Some w)) 0 w) in
    subst P (sym b) (subst Q (sym e) (zip_numbered GivesName (member_at (n.name.id, p)) (row_net n (Some w)) 0 w (λ i. refl)))

pub net_names_are : (libs : List design.Lib) (ports : List design.Port) (insts : List design.Inst) (t : Placed) (n : NetForm) → MeansNet libs ports insts (bare t) n → AllZip GivesName (net_names_in t) (nets_of n)
net_names_are libs ports insts t n h =
    let u = part_there keywords.Net t (h.name_part ∷ h.joined_part ∷ []) h.inner 0 h.name_part h.form refl in
    let d = net_named libs ports insts t n h in
    let e = net_declares libs ports insts t n h in
    let m = subst (λ v. MeansBusName v n.name n.array) (sym u.2) h.name in
    let P : Option Placed → Type 0 = λ v. AllZip GivesName (names_from (is_arrayed v) (declared_width t) (defined t)) (nets_of n) in
    let Q : Option (List ℕ × ℕ) → Type 0 = λ v. AllZip GivesName (names_from (is_arrayed (Some u.0)) (declared_width t) v) (nets_of n) in
    subst P (sym u.1) (subst Q (sym d.1) (names_of_row u.0 n n.array d.0 (declared_width t) m e))

row_end_means : (libs : List design.Lib) (ports : List design.Port) (insts : List design.Inst) (k size wide : ℕ) → wide ≡ size → (us : List Placed) (ss : List Stretch) → AllZip (λ u s. MeansEnd libs ports insts (bare u) s) us ss → AllByRecursion (λ s. s.width ≡ wide) ss
    → AllZip (MeansRowEnd libs ports insts) (map (λ u. (u, k, size)) us) (map (end_of k) ss)
row_end_means libs ports insts k size wide e [] [] h w = tt
row_end_means libs ports insts k size wide e [] (s ∷ ss) h w = absurd h
row_end_means libs ports insts k size wide e (u ∷ us) [] h w = absurd h
row_end_means libs ports insts k size wide e (u ∷ us) (s ∷ ss) h w = ((s, h.0, w.0 ∙ e, refl), row_end_means libs ports insts k size wide e us ss h.1 w.1)

pub row_ends_are : (libs : List design.Lib) (ports : List design.Port) (insts : List design.Inst) (t : Placed) (n : NetForm) → MeansNet libs ports insts (bare t) n → AllZip (MeansRowEnd libs ports insts) (row_ends t) (flat_map (λ (x : design.Net). x.ends) (nets_of n))
row_ends_are libs ports insts t n h =
    let e = net_declares libs ports insts t n h in
    let R : ℕ → design.Net → Type 0 = λ k x. x ≡ net_at n k in
    let each : (k : ℕ) (x : design.Net) → x ≡ net_at n k → AllZip (MeansRowEnd libs ports insts) (map (λ u. (u, k, declared_width t)) (ends_in t)) x.ends = λ k x same.
    let P : design.Net → Type 0 = λ v. AllZip (MeansRowEnd libs ports insts) (map (λ u. (u, k, declared_width t)) (ends_in t)) v.ends in
    subst P (sym same) (row_end_means libs ports insts k (declared_width t) (row_size n.array) (sym e) (ends_in t) n.joined (net_ends libs ports insts t n h) h.wide) in
    let Q : ℕ → Type 0 = λ v. AllZip R (numbered (λ k. k) 0 v) (nets_of n) in
    zip_flat R (MeansRowEnd libs ports insts) (λ k. map (λ u. (u, k, declared_width t)) (ends_in t)) (λ (x : design.Net). x.ends) each (numbered (λ k. k) 0 (declared_width t)) (nets_of n)
    (subst Q (sym e) (zip_numbered R (λ k. k) (net_at n) 0 (row_size n.array) (λ i. refl)))

pub row_ends_of : (libs : List design.Lib) (ports : List design.Port) (insts : List design.Inst) (ts : List Placed) (ns : List NetForm) → AllZip (λ u n. MeansNet libs ports insts (bare u) n) ts ns → AllZip (MeansRowEnd libs ports insts) (flat_map row_ends ts) (flat_map (λ (x : design.Net). x.ends) (flat_map nets_of ns))
row_ends_of libs ports insts [] [] h = tt
row_ends_of libs ports insts [] (n ∷ ns) h = absurd h
row_ends_of libs ports insts (t ∷ ts) [] h = absurd h
row_ends_of libs ports insts (t ∷ ts) (n ∷ ns) h =
    let P : List design.End → Type 0 = λ v. AllZip (MeansRowEnd libs ports insts) (flat_map row_ends (t ∷ ts)) v in
    subst P (sym (flat_map-append (λ (x : design.Net). x.ends) (nets_of n) (flat_map nets_of ns)))
    (zip_append (MeansRowEnd libs ports insts) (row_ends t) (flat_map (λ (x : design.Net). x.ends) (nets_of n)) (flat_map row_ends ts) (flat_map (λ (x : design.Net). x.ends) (flat_map nets_of ns)) (row_ends_are libs ports insts t n h.0) (row_ends_of libs ports insts ts ns h.1))

-- how many they are
pub flat_length : {A B : Type 0} (f : A → List B) (c : ℕ) (xs : List A) → ((x : A) → length (f x) ≡ c) → length (flat_map f xs) ≡ length xs * c
flat_length f c [] h = omega arith
flat_length f c (x ∷ xs) h =
    let a = length-append (f x) (flat_map f xs) in
    let b = h x in
    let r = flat_length f c xs h in
    let m = suc-mul (length xs) c in
    omega (arith, a, b, r, m)

row_counts : (t : Placed) → length (row_ends t) ≡ length (counted_ends t)
row_counts t =
    let us = ends_in t in
    let size = declared_width t in
    let a : length (row_ends t) ≡ length (numbered (λ k. k) 0 size) * length us = flat_length (λ k. map (λ u. (u, k, size)) us) (length us) (numbered (λ k. k) 0 size) (λ k. length-map us (λ u. (u, k, size))) in
    let b : length (counted_ends t) ≡ length us * size = flat_length (λ u. replicate size u) size us (λ u. length-replicate size u) in
    a ∙ (ap (λ v. v * length us) (length_numbered (λ k. k) 0 size) ∙ (mul_comm size (length us) ∙ sym b))

pub ends_counted : (ts : List Placed) → length (flat_map row_ends ts) ≡ length (flat_map counted_ends ts)
ends_counted [] = refl
ends_counted (t ∷ ts) =
    let a = length-append (row_ends t) (flat_map row_ends ts) in
    let b = length-append (counted_ends t) (flat_map counted_ends ts) in
    let c = row_counts t in
    let d = ends_counted ts in
    omega (arith, a, b, c, d)

pub nets_counted : (libs : List design.Lib) (ports : List design.Port) (insts : List design.Inst) (ts : List Placed) (ns : List NetForm) → AllZip (λ u n. MeansNet libs ports insts (bare u) n) ts ns → length (repeated declared_width ts) ≡ length (flat_map nets_of ns)
nets_counted libs ports insts [] [] h = refl
nets_counted libs ports insts [] (n ∷ ns) h = absurd h
nets_counted libs ports insts (t ∷ ts) [] h = absurd h
nets_counted libs ports insts (t ∷ ts) (n ∷ ns) h =
    let a = length-append (replicate (declared_width t) t) (repeated declared_width ts) in
    let b = length-append (nets_of n) (flat_map nets_of ns) in
    let c = length-replicate (declared_width t) t in
    let d = length_numbered (net_at n) 0 (row_size n.array) in
    let e = net_declares libs ports insts t n h.0 in
    let r = nets_counted libs ports insts ts ns h.1 in
    omega (arith, a, b, c, d, e, r)

-- what holds of a net of a row, by its form
name_typed : (name : design.Name) (o : Option ℕ) (k : ℕ) → IsTypedName name → k < 65536 → IsTypedName (name_at name o k)
name_typed name None k h l = h
name_typed name (Some w) k h l = member_typed name k (omega (arith, l)) h

small_row : (o : Option ℕ) → IfSome o IsWidth → 0 + row_size o ≤ 65536
small_row None h = omega arith
small_row (Some w) h = let l = h.1 in omega (arith, l)

pub row_fine : (n : NetForm) → FineForm n → AllByRecursion (λ x. IsTypedNet x × HasDistinctKeys x.properties) (nets_of n)
row_fine n h = all_numbered (λ x. IsTypedNet x × HasDistinctKeys x.properties) (net_at n) 0 (row_size n.array) 65536 (small_row n.array h.array) (λ k l. (record { name = name_typed n.name n.array k h.name l; properties = h.properties }, h.keys))

pub rows_fine : (ns : List NetForm) → AllByRecursion FineForm ns → AllByRecursion (λ x. IsTypedNet x × HasDistinctKeys x.properties) (flat_map nets_of ns)
rows_fine [] h = tt
rows_fine (n ∷ ns) h = all_append (λ x. IsTypedNet x × HasDistinctKeys x.properties) (nets_of n) (flat_map nets_of ns) (row_fine n h.0) (rows_fine ns h.1)

-- and the keys of a form, by its nets
some_net : (n : NetForm) (o : Option ℕ) → IfSome o IsWidth → (P : design.Net → Type 0) → AllByRecursion P (numbered (row_net n o) 0 (row_size o)) → P (row_net n o 0)
some_net n None h P a = a.0
some_net n (Some zero) h P a = let l = h.0 in absurd (omega (arith, l))
some_net n (Some (suc w)) h P a = a.0

pub keys_of_row : (n : NetForm) → IfSome n.array IsWidth → AllByRecursion (λ (x : design.Net). HasDistinctKeys x.properties) (nets_of n) → HasDistinctKeys n.properties
keys_of_row n w h = some_net n n.array w (λ (x : design.Net). HasDistinctKeys x.properties) h

wide_enough : (u : Bare) (name : design.Name) (o : Option ℕ) → MeansBusName u name o → IfSome o IsWidth
wide_enough u name None h = tt
wide_enough u name (Some w) h = h.3

pub keys_of_rows : (libs : List design.Lib) (ports : List design.Port) (insts : List design.Inst) (ts : List Bare) (ns : List NetForm) → AllZip (MeansNet libs ports insts) ts ns → AllByRecursion (λ (x : design.Net). HasDistinctKeys x.properties) (flat_map nets_of ns) → AllByRecursion (λ (n : NetForm). HasDistinctKeys n.properties) ns
keys_of_rows libs ports insts [] [] h k = tt
keys_of_rows libs ports insts [] (n ∷ ns) h k = absurd h
keys_of_rows libs ports insts (t ∷ ts) [] h k = absurd h
keys_of_rows libs ports insts (t ∷ ts) (n ∷ ns) h k =
    let p = all_append_parts (λ (x : design.Net). HasDistinctKeys x.properties) (nets_of n) (flat_map nets_of ns) k in
    (keys_of_row n (wide_enough h.0.name_part n.name n.array h.0.name) p.0, keys_of_rows libs ports insts ts ns h.1 p.1)
