-- Ends: where those of a row of nets stand, whether there is room for them, and those that join one bit.
use Rattle.std.proofs.Common.{◌≡◌, ℕ, zero, suc, ◌+◌, ◌*◌, ◌-◌, ◌<◌, ◌≤◌, List, [], ◌∷◌, ◌++◌, map, length, drop, get_or, replicate, refl, sym, ap, ◌∙◌, subst, inl, inr, Some, arith, append-nil, append_assoc, length-append}
use Rattle.std.specs.Prelude.{slice_get}
use Rattle.std.specs.List.{AllZip, flat_map, zip}
use Rattle.std.proofs.lemmas.Grind.{flat_map-append}
use Rattle.std.proofs.lemmas.List.{drop_all, length-map, length-replicate, map-append}
use Rattle.std.proofs.Math.Nat.{mul_comm, suc-mul}
use Rattle.netlist_schema.proofs.Lists.{get_behind}
use Rattle.netlist_schema.specs.Names.{AreDistinct}
use Rattle.edif_spelling_spec.specs.Tree.{Placed}
use Rattle.netlist_bus_spec.specs.Members.{numbered}
use Rattle.edif_spec.specs.Design as design
use Rattle.edif_spec.specs.Faults.{AtOne, AtTwo, Beyond, place_of, repeated}
use Rattle.edif_spec.specs.Stands.{MeansRowEnd, SameEnd}
use Rattle.edif_spec.specs.declared.fault.ClashKind.TheVariants.{EndTwice}
use Rattle.edif_spec.specs.declared.fault.MeaningFault.{MeaningFault}
use Rattle.edif_spec.specs.declared.fault.MeaningFault.TheVariants.{Clash, OverLimit}
use Rattle.edif_spec.proofs.RowForms.{flat_length, length_numbered}
use Rattle.edif_nets.specs.Joins.{IsTwice, Joined, SameBit, bits, places_of, row_of}
use Rattle.edif_parts.proofs.NameLists.{distinct_push}
use Rattle.edif_nets.proofs.NetListing.{two_of}

-- the ends at these forms in the net of one number, of a row of so many
abbrev pub net_row : ℕ → ℕ → List Placed → List (Placed × ℕ × ℕ)
net_row k size us = map (λ u. (u, k, size)) us

-- The nets of a row, one after another: those of so many numbers.
abbrev pub rows_below : {A : Type 0} → (ℕ → List A) → ℕ → List A
rows_below f n = flat_map f (numbered (λ k. k) 0 n)

numbers_push : (a n : ℕ) → numbered (λ k. k) a (suc n) ≡ numbered (λ k. k) a n ++ (a + n) ∷ []
numbers_push a zero = let e : a ≡ a + zero = omega arith in ap (λ v. v ∷ []) e
numbers_push a (suc n) =
    let e : suc a + n ≡ a + suc n = omega arith in
    ap (λ v. a ∷ v) (numbers_push (suc a) n ∙ ap (λ v. numbered (λ k. k) (suc a) n ++ v ∷ []) e)

pub rows_more : {A : Type 0} (f : ℕ → List A) (k : ℕ) → rows_below f (suc k) ≡ rows_below f k ++ f k
rows_more f k =
    let e : 0 + k ≡ k = omega arith in
    ap (flat_map f) (numbers_push 0 k) ∙ (flat_map-append f (numbered (λ k. k) 0 k) ((0 + k) ∷ []) ∙ (ap (λ v. rows_below f k ++ v) (append-nil (f (0 + k))) ∙ ap (λ v. rows_below f k ++ f v) e))

-- a list that grows by what stands for one more
pub map_push : {A B : Type 0} (f : A → B) (old now new : List B) (xs : List A) (x : A) (y : B) → now ≡ old ++ map f xs → y ≡ f x → new ≡ now ++ y ∷ [] → new ≡ old ++ map f (xs ++ x ∷ [])
map_push f old now new xs x y e d n =
    n ∙ (ap (λ v. v ++ y ∷ []) e ∙ (append_assoc old (map f xs) (y ∷ []) ∙ (ap (λ v. old ++ (map f xs ++ v ∷ [])) d ∙ ap (λ v. old ++ v) (sym (map-append f xs (x ∷ []))))))

-- where the ends of a row stand, net by net
places_net : (k size : ℕ) (us : List Placed) → places_of (net_row k size us) ≡ map place_of us
places_net k size [] = refl
places_net k size (u ∷ us) = ap (λ v. place_of u ∷ v) (places_net k size us)

pub places_more : (k size : ℕ) (us : List Placed) (old now new : List ℕ) → now ≡ old ++ places_of (rows_below (λ k. net_row k size us) k) → new ≡ now ++ map place_of us → new ≡ old ++ places_of (rows_below (λ k. net_row k size us) (suc k))
places_more k size us old now new e n =
    let F : ℕ → List (Placed × ℕ × ℕ) = λ k. net_row k size us in
    let more : places_of (rows_below F (suc k)) ≡ places_of (rows_below F k) ++ map place_of us =
    ap places_of (rows_more F k) ∙ (map-append (λ (u : Placed × ℕ × ℕ). place_of u.0) (rows_below F k) (F k) ∙ ap (λ v. places_of (rows_below F k) ++ v) (places_net k size us)) in
    n ∙ (ap (λ v. v ++ map place_of us) e ∙ (append_assoc old (places_of (rows_below F k)) (map place_of us) ∙ ap (λ v. old ++ v) (sym more)))

pub row_count : (size : ℕ) (us : List Placed) → length (row_of size us) ≡ length us * size
row_count size us =
    flat_length (λ k. net_row k size us) (length us) (numbered (λ k. k) 0 size) (λ k. length-map us (λ u. (u, k, size)))
    ∙ (ap (λ v. v * length us) (length_numbered (λ (k : ℕ). k) 0 size) ∙ mul_comm size (length us))

-- two ends of one bit are two forms of one end
one_same : (libs : List design.Lib) (ports : List design.Port) (insts : List design.Inst) (f : MeaningFault) (t : Placed × ℕ × ℕ) (e : design.End) (ts : List (Placed × ℕ × ℕ)) (es : List design.End) → MeansRowEnd libs ports insts t e → AllZip (MeansRowEnd libs ports insts) ts es
    → AtOne (SameBit f (e, place_of t.0)) (zip es (places_of ts)) → AtOne (SameEnd libs ports insts f t) ts
one_same libs ports insts f t e [] [] m z h = absurd h
one_same libs ports insts f t e [] (d ∷ es) m z h = absurd z
one_same libs ports insts f t e (u ∷ ts) [] m z h = absurd z
one_same libs ports insts f t e (u ∷ ts) (d ∷ es) m z (inl h) = inl (e, m, subst (λ v. MeansRowEnd libs ports insts u v) (sym h.0) z.0, h.1)
one_same libs ports insts f t e (u ∷ ts) (d ∷ es) m z (inr h) = inr (one_same libs ports insts f t e ts es m z.1 h)

pub two_same : (libs : List design.Lib) (ports : List design.Port) (insts : List design.Inst) (f : MeaningFault) (ts : List (Placed × ℕ × ℕ)) (es : List design.End) → AllZip (MeansRowEnd libs ports insts) ts es → AtTwo (SameBit f) (zip es (places_of ts)) → AtTwo (SameEnd libs ports insts f) ts
two_same libs ports insts f [] [] z h = absurd h
two_same libs ports insts f [] (e ∷ es) z h = absurd z
two_same libs ports insts f (t ∷ ts) [] z h = absurd z
two_same libs ports insts f (t ∷ ts) (e ∷ es) z (inl h) = inl (one_same libs ports insts f t e ts es z.0 z.1 h)
two_same libs ports insts f (t ∷ ts) (e ∷ es) z (inr h) = inr (two_same libs ports insts f ts es z.1 h)

-- The ends that are left beside their places: the next of them, and none.
zip_next : {A : Type 0} (xs : List A) (ps : List ℕ) (i p : ℕ) (x d : A) → i < length xs → length ps ≡ length xs → x ≡ get_or xs i d → p ≡ get_or ps i 0 → zip (drop i xs) (drop i ps) ≡ (x, p) ∷ zip (drop (suc i) xs) (drop (suc i) ps)
zip_next [] ps i p x d l m e q = absurd (omega (arith, l))
zip_next (y ∷ xs) [] i p x d l m e q = absurd (omega (arith, m))
zip_next (y ∷ xs) (w ∷ ps) zero p x d l m e q = ap (λ v. (v, w) ∷ zip xs ps) (sym e) ∙ ap (λ v. (x, v) ∷ zip xs ps) (sym q)
zip_next (y ∷ xs) (w ∷ ps) (suc i) p x d l m e q = zip_next xs ps i p x d (omega (arith, l)) (omega (arith, m)) e q

-- One end more of those that are left, which joins another bit than those before it; or one of those joins the same.
pub joined_after : (all js new : List (design.End × ℕ)) (es : List design.End) (ps : List ℕ) (i p : ℕ) (e d : design.End) → js ++ zip (drop i es) (drop i ps) ≡ all → i < length es → length ps ≡ length es → e ≡ get_or es i d → p ≡ get_or ps i 0
    → Joined js e p new → new ++ zip (drop (suc i) es) (drop (suc i) ps) ≡ all
joined_after all js new es ps i p e d h l m g q n =
    let rest = zip (drop (suc i) es) (drop (suc i) ps) in
    ap (λ v. v ++ rest) n.1 ∙ (append_assoc js ((e, p) ∷ []) rest ∙ (ap (λ v. js ++ v) (sym (zip_next es ps i p e d l m g q)) ∙ h))

pub joined_apart : (js new : List (design.End × ℕ)) (e : design.End) (p : ℕ) → AreDistinct (bits js) → Joined js e p new → AreDistinct (bits new)
joined_apart js new e p h n =
    let S : List (design.End × ℕ) → Type 0 = λ v. AreDistinct (bits v) in
    let D : List design.End → Type 0 = AreDistinct in
    subst S (sym n.1) (subst D (sym (map-append (λ (j : design.End × ℕ). j.0) js ((e, p) ∷ []))) (distinct_push (bits js) e h n.0))

pub joined_twice : (all js : List (design.End × ℕ)) (es : List design.End) (ps : List ℕ) (i p : ℕ) (e d : design.End) (f : MeaningFault) → js ++ zip (drop i es) (drop i ps) ≡ all → i < length es → length ps ≡ length es → e ≡ get_or es i d → p ≡ get_or ps i 0
    → IsTwice js e p f → AtTwo (SameBit f) all
joined_twice all js es ps i p e d f h l m g q b =
    let rest = zip (drop (suc i) es) (drop (suc i) ps) in
    let there = b.1 in
    let whole : js ++ (e, p) ∷ rest ≡ all = ap (λ v. js ++ v) (sym (zip_next es ps i p e d l m g q)) ∙ h in
    let same : (get_or js there.0 (e, b.0)).0 ≡ e = ap (λ (v : design.End × ℕ). v.0) there.2 in
    let place : (get_or js there.0 (e, b.0)).1 ≡ b.0 = ap (λ (v : design.End × ℕ). v.1) there.2 in
    let P : List (design.End × ℕ) → Type 0 = λ v. AtTwo (SameBit f) v in
    subst P whole (two_of (SameBit f) js rest (e, p) (e, b.0) there.0 there.1 (same, b.2 ∙ ap (λ v. Clash EndTwice p v) (sym place)))

bits_zip : (es : List design.End) (ps : List ℕ) → length ps ≡ length es → bits (zip es ps) ≡ es
bits_zip [] ps m = refl
bits_zip (e ∷ es) [] m = absurd (omega (arith, m))
bits_zip (e ∷ es) (p ∷ ps) m = ap (λ v. e ∷ v) (bits_zip es ps (omega (arith, m)))

pub joined_all : (js : List (design.End × ℕ)) (es : List design.End) (ps : List ℕ) (i : ℕ) → js ++ zip (drop i es) (drop i ps) ≡ zip es ps → length es ≤ i → length ps ≡ length es → AreDistinct (bits js) → AreDistinct es
joined_all js es ps i h l m d =
    let D : List design.End → Type 0 = AreDistinct in
    let none : zip (drop i es) (drop i ps) ≡ [] = ap (λ v. zip v (drop i ps)) (drop_all i es l) in
    let all : js ≡ zip es ps = sym (append-nil js) ∙ (ap (λ v. js ++ v) (sym none) ∙ h) in
    subst D (ap bits all ∙ bits_zip es ps m) d

get_repeated : {A : Type 0} (x : A) (size n : ℕ) (ys : List A) → n < size → slice_get (replicate size x ++ ys) n ≡ Some x
get_repeated x zero n ys l = absurd (omega (arith, l))
get_repeated x (suc size) zero ys l = refl
get_repeated x (suc size) (suc n) ys l = get_repeated x size n ys (omega (arith, l))

count_repeated : (size : ℕ) (us : List Placed) → length (repeated (λ u. size) us) ≡ length us * size
count_repeated size [] = omega arith
count_repeated size (u ∷ us) =
    let a = length-append (replicate size u) (repeated (λ u. size) us) in
    let b = length-replicate size u in
    let r = count_repeated size us in
    let m = suc-mul (length us) size in
    omega (arith, a, b, r, m)

pub count_more : (us : List Placed) (t : Placed) (size : ℕ) → length (us ++ t ∷ []) * size ≡ length us * size + size
count_more us t size =
    let a : length (us ++ t ∷ []) ≡ suc (length us) = length-append us (t ∷ []) ∙ omega arith in
    let m = suc-mul (length us) size in
    ap (λ n. n * size) a ∙ omega (arith, m)

pub room_beyond : (limit joined size place : ℕ) (us seen left before rest : List Placed) (t : Placed) → us ≡ seen ++ t ∷ left → length before ≡ joined → joined + length seen * size ≤ limit → limit < (joined + length seen * size) + size → place ≡ place_of t
    → Beyond limit ((before ++ repeated (λ u. size) us) ++ rest) (OverLimit limit place)
room_beyond limit joined size place us seen left before rest t whole told low high p =
    let R : List Placed → List Placed = repeated (λ u. size) in
    let A = R seen in
    let B = replicate size t in
    let C = R left in
    let n = limit - (joined + length seen * size) in
    let parted : R us ≡ A ++ (B ++ C) = ap R whole ∙ flat_map-append (λ (u : Placed). replicate size u) seen (t ∷ left) in
    let all : (before ++ R us) ++ rest ≡ (before ++ A) ++ (B ++ (C ++ rest)) = ap (λ v. (before ++ v) ++ rest) parted ∙ simp append_assoc in
    let a = length-append before A in
    let b : length A ≡ length seen * size = count_repeated size seen in
    let e : limit ≡ length (before ++ A) + n = omega (arith, a, b, told, low) in
    let l : n < size = omega (arith, low, high) in
    (t, ap (λ v. slice_get ((before ++ R us) ++ rest) v) e ∙ (ap (λ v. slice_get v (length (before ++ A) + n)) all ∙ (get_behind (before ++ A) (B ++ (C ++ rest)) n ∙ get_repeated t size n (C ++ rest) l)), ap (λ v. OverLimit limit v) p)
