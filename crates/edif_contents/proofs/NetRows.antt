-- The row of nets of one form: its nets one after another, their names, and their ends.
use Rattle.std.proofs.Common.{◌≡◌, ℕ, zero, suc, ◌+◌, ◌<◌, ◌≤◌, List, [], ◌∷◌, ◌++◌, replicate, length, length-append, refl, sym, ap, ◌∙◌, subst, inl, inr, Option, Some, None, arith, append-nil, append_assoc}
use Rattle.std.specs.Prelude.{◌^◌, pos, slice_get}
use Rattle.std.specs.List.{AllByRecursion, AllZip, flat_map}
use Rattle.edif_spelling_spec.specs.Tree.{Placed, bare, integer}
use Rattle.netlist_bus_spec.specs.Members.{numbered}
use Rattle.edif_spec.specs.Design as design
use Rattle.edif_spec.specs.Faults.{Beyond, declared_width, defined, place_of}
use Rattle.edif_spec.specs.Means.{MeansBusName, MeansEnd, MeansNet}
use Rattle.edif_spec.specs.Nets.{NetForm, Stretch, name_at, net_at, nets_of, row_size}
use Rattle.edif_spec.specs.Rows.{has_keyword}
use Rattle.edif_spec.specs.Stands.{ends_in, is_arrayed, member_at, names_from, net_names_in}
use Rattle.edif_spec.specs.declared.keyword.Keyword.TheVariants as keywords
use Rattle.edif_spec.specs.declared.fault.MeaningFault.TheVariants.{OverLimit}
use Rattle.edif_spec.proofs.FaultForms.{part_there}
use Rattle.edif_spec.proofs.FaultsApart.{keyword_of, no_array}
use Rattle.edif_spec.proofs.NetFaultsApart.{net_declares, net_ends}
use Rattle.edif_spec.proofs.RowForms.{length_numbered}
use Rattle.edif_nets.specs.NetLists.{named, row_names}

-- Lists of lists: with one more, and about one of them.
pub flat_push : {A B : Type 0} (f : A → List B) (xs : List A) (x : A) → flat_map f (xs ++ x ∷ []) ≡ flat_map f xs ++ f x
flat_push f [] x = append-nil (f x)
flat_push f (y ∷ xs) x = ap (λ v. f y ++ v) (flat_push f xs x) ∙ sym (append_assoc (f y) (flat_map f xs) (f x))

pub flat_here : {A B : Type 0} (f : A → List B) (xs ys : List A) (x : A) → flat_map f (xs ++ x ∷ ys) ≡ (flat_map f xs ++ f x) ++ flat_map f ys
flat_here f [] ys x = refl
flat_here f (y ∷ xs) ys x = ap (λ v. f y ++ v) (flat_here f xs ys x) ∙ (sym (append_assoc (f y) (flat_map f xs ++ f x) (flat_map f ys)) ∙ ap (λ v. v ++ flat_map f ys) (sym (append_assoc (f y) (flat_map f xs) (f x))))

-- the names that a form of a net defines are those of the nets of its row
named_row : (u : Placed) (n : NetForm) (o : Option ℕ) (p size : ℕ) → MeansBusName (bare u) n.name o → size ≡ row_size o → names_from (is_arrayed (Some u)) size (Some (n.name.id, p)) ≡ numbered (λ k. ((name_at n.name o k).id, p)) 0 (row_size o)
named_row u n None p size h e = ap (λ b. names_from b size (Some (n.name.id, p))) (no_array u n.name (has_keyword keywords.Array (bare u)) refl h)
named_row u n (Some w) p size h e =
    ap (λ b. names_from b size (Some (n.name.id, p))) (keyword_of keywords.Array (bare u) (h.0 ∷ integer (pos w) ∷ []) [] h.1) ∙ ap (λ v. numbered (member_at (n.name.id, p)) 0 v) e

pub names_read : (libs : List design.Lib) (ports : List design.Port) (insts : List design.Inst) (t : Placed) (n : NetForm) (place : ℕ) → MeansNet libs ports insts (bare t) n → defined t ≡ Some (n.name.id, place)
    → net_names_in t ≡ numbered (λ k. ((name_at n.name n.array k).id, place)) 0 (row_size n.array)
names_read libs ports insts t n place h d =
    let u = part_there keywords.Net t (h.name_part ∷ h.joined_part ∷ []) h.inner 0 h.name_part h.form refl in
    let e = net_declares libs ports insts t n h in
    let m = subst (λ v. MeansBusName v n.name n.array) (sym u.2) h.name in
    ap (λ v. names_from (is_arrayed v) (declared_width t) (defined t)) u.1 ∙ (ap (λ v. names_from (is_arrayed (Some u.0)) (declared_width t) v) d ∙ named_row u.0 n n.array place (declared_width t) m e)

-- Names beside their places: of more nets, of the nets of a row, and of the next net with those behind it.
named_append : (xs ys : List design.Net) (ps qs : List ℕ) → length ps ≡ length xs → named (xs ++ ys) (ps ++ qs) ≡ named xs ps ++ named ys qs
named_append [] ys [] qs e = refl
named_append [] ys (p ∷ ps) qs e = absurd (omega (arith, e))
named_append (x ∷ xs) ys [] qs e = absurd (omega (arith, e))
named_append (x ∷ xs) ys (p ∷ ps) qs e = ap (λ v. (x.name.id, p) ∷ v) (named_append xs ys ps qs (omega (arith, e)))

row_named : (n : NetForm) (place k count : ℕ) → named (numbered (net_at n) k count) (numbered (λ i. place) k count) ≡ numbered (λ i. ((name_at n.name n.array i).id, place)) k count
row_named n place k zero = refl
row_named n place k (suc count) = ap (λ v. ((name_at n.name n.array k).id, place) ∷ v) (row_named n place (suc k) count)

pub named_row_more : (n : NetForm) (place : ℕ) (xs : List design.Net) (ps : List ℕ) → length ps ≡ length xs
    → named (xs ++ nets_of n) (ps ++ numbered (λ i. place) 0 (row_size n.array)) ≡ named xs ps ++ row_names n place
named_row_more n place xs ps e = named_append xs (nets_of n) ps (numbered (λ i. place) 0 (row_size n.array)) e ∙ ap (λ v. named xs ps ++ v) (row_named n place 0 (row_size n.array))

pub places_row_more : (n : NetForm) (place : ℕ) (xs : List design.Net) (ps : List ℕ) → length ps ≡ length xs
    → length (ps ++ numbered (λ i. place) 0 (row_size n.array)) ≡ length (xs ++ nets_of n)
places_row_more n place xs ps e =
    let a = length-append ps (numbered (λ i. place) 0 (row_size n.array)) in
    let b = length-append xs (nets_of n) in
    let c = length_numbered (λ (i : ℕ). place) 0 (row_size n.array) in
    let d = length_numbered (net_at n) 0 (row_size n.array) in
    omega (arith, a, b, c, d, e)

-- more nets than allowed, at the form of the first one beyond
get_copy : {A : Type 0} (count i : ℕ) (t : A) (ys : List A) → i < count → slice_get (replicate count t ++ ys) i ≡ Some t
get_copy zero i t ys l = absurd (omega arith)
get_copy (suc count) zero t ys l = refl
get_copy (suc count) (suc i) t ys l = get_copy count i t ys (omega arith)

get_inside : {A : Type 0} (xs : List A) (count i : ℕ) (t : A) (ys : List A) → length xs ≤ i → i < length xs + count → slice_get ((xs ++ replicate count t) ++ ys) i ≡ Some t
get_inside [] count i t ys a b = get_copy count i t ys (omega arith)
get_inside (x ∷ xs) count zero t ys a b = absurd (omega arith)
get_inside (x ∷ xs) count (suc i) t ys a b = get_inside xs count i t ys (omega arith) (omega arith)

pub beyond_row : (limit count place : ℕ) (ts us : List Placed) (t : Placed) → length ts ≤ limit → limit < length ts + count → place ≡ place_of t → Beyond limit ((ts ++ replicate count t) ++ us) (OverLimit limit place)
beyond_row limit count place ts us t a b p = (t, get_inside ts count limit t us a b, ap (λ v. OverLimit limit v) p)

pub beyond_one : (limit n place : ℕ) (ts us : List Placed) (t : Placed) → length ts ≡ n → n ≤ limit → limit ≤ n → place ≡ place_of t → Beyond limit (ts ++ t ∷ us) (OverLimit limit place)
beyond_one limit n place ts us t c a b p =
    let P : List Placed → Type 0 = λ v. Beyond limit v (OverLimit limit place) in
    subst P (append_assoc ts (t ∷ []) us) (beyond_row limit 1 place ts us t (omega (arith, c, a)) (omega (arith, c, b)) p)

-- Each bit of a row is within 32 bits, since a stretch of several bits is a whole port.
fits : (ports : List design.Port) (s : Stretch) (libs : List design.Lib) (insts : List design.Inst) (t : Placed) (size : ℕ) → MeansEnd libs ports insts (bare t) s → s.width ≡ size → size < 2 ^ 32 → s.first < 2 ^ 32 → s.first + size ≤ 2 ^ 32
fits ports s libs insts t size h w l m = elim h.bits [
  | inl b ↦ (let e : s.first ≡ 0 = b.3 in omega (arith, e, l))
  | inr b ↦ (let e : s.width ≡ 1 = b.4 in omega (arith, e, w, m))
]

pub all_fit : (libs : List design.Lib) (ports : List design.Port) (insts : List design.Inst) (us : List Placed) (ss : List Stretch) (size : ℕ) → AllZip (λ u s. MeansEnd libs ports insts (bare u) s × (s.width ≡ size)) us ss → size < 2 ^ 32 → AllByRecursion (λ s. s.first < 2 ^ 32) ss
    → AllByRecursion (λ s. s.first + size ≤ 2 ^ 32) ss
all_fit libs ports insts [] [] size z l m = tt
all_fit libs ports insts [] (s ∷ ss) size z l m = absurd z
all_fit libs ports insts (u ∷ us) [] size z l m = absurd z
all_fit libs ports insts (u ∷ us) (s ∷ ss) size z l m = (fits ports s libs insts u size z.0.0 z.0.1 l m.0, all_fit libs ports insts us ss size z.1 l m.1)

-- the ends of a net, each as wide as the row
wide_too : (libs : List design.Lib) (ports : List design.Port) (insts : List design.Inst) (us : List Placed) (ss : List Stretch) (wide size : ℕ) → wide ≡ size → AllZip (λ u s. MeansEnd libs ports insts (bare u) s) us ss → AllByRecursion (λ s. s.width ≡ wide) ss
    → AllZip (λ u s. MeansEnd libs ports insts (bare u) s × (s.width ≡ size)) us ss
wide_too libs ports insts [] [] wide size e z h = tt
wide_too libs ports insts [] (s ∷ ss) wide size e z h = absurd z
wide_too libs ports insts (u ∷ us) [] wide size e z h = absurd z
wide_too libs ports insts (u ∷ us) (s ∷ ss) wide size e z h = ((z.0, h.0 ∙ e), wide_too libs ports insts us ss wide size e z.1 h.1)

pub wide_ends : (libs : List design.Lib) (ports : List design.Port) (insts : List design.Inst) (t : Placed) (n : NetForm) (ss : List Stretch) (size : ℕ) → size ≡ row_size n.array → ss ≡ n.joined → MeansNet libs ports insts (bare t) n
    → AllZip (λ u s. MeansEnd libs ports insts (bare u) s × (s.width ≡ size)) (ends_in t) ss
wide_ends libs ports insts t n ss size e d h =
    let P : List Stretch → Type 0 = λ v. AllZip (λ u s. MeansEnd libs ports insts (bare u) s × (s.width ≡ size)) (ends_in t) v in
    subst P (sym d) (wide_too libs ports insts (ends_in t) n.joined (row_size n.array) size (sym e) (net_ends libs ports insts t n h) h.wide)
