-- The row of nets of one form: its nets one after another, their names, and their ends.
use Rattle.std.proofs.Common.{◌≡◌, ℕ, zero, suc, ◌+◌, ◌<◌, ◌≤◌, List, [], ◌∷◌, ◌++◌, map, length, drop, get_or, refl, sym, ap, ◌∙◌, subst, inl, inr, Option, Some, None, false, true≢false, add-one, arith, append-nil, append_assoc}
use Rattle.std.specs.Prelude.{is_some}
use Rattle.std.proofs.lemmas.List.{drop_all}
use Rattle.std.specs.List.{Contains}
use Rattle.netlist_bus_spec.specs.Members.{numbered}
use Rattle.edif_spec.specs.Design as design
use Rattle.edif_spec.specs.Faults.{AtOne, AtTwo, SameOfTwo}
use Rattle.edif_spec.specs.Nets.{NetForm, bit_of, end_of, net_at, nets_of, row_size, single_form}
use Rattle.edif_spec.specs.declared.fault.ClashKind.TheVariants.{Duplicate}
use Rattle.edif_spec.specs.declared.fault.MeaningFault.{MeaningFault}
use Rattle.edif_spec.specs.declared.fault.MeaningFault.TheVariants.{Clash}
use Rattle.netlist_schema.specs.Names.{AreDistinct}
use Rattle.edif_parts.specs.Names.{DefinesName, IsAgain, ids}
use Rattle.edif_parts.proofs.NameLists.{distinct_push, ids_push}
use Rattle.edif_nets.specs.Keys.{name_key}
use Rattle.edif_nets.specs.NetLists.{NetAdded, RowAdded, named}
use Rattle.edif_nets.specs.declared.net_list.NetList.{NetList}

-- Values by their numbers: with one more, and about one of them.
pub numbered_push : {A : Type 0} (f : ℕ → A) (k count : ℕ) → numbered f k (suc count) ≡ numbered f k count ++ f (k + count) ∷ []
numbered_push f k zero = let e : k ≡ k + 0 = omega arith in ap (λ v. f v ∷ []) e
numbered_push f k (suc count) =
    let e : suc k + count ≡ k + suc count = omega arith in
    ap (λ v. f k ∷ v) (numbered_push f (suc k) count ∙ ap (λ v. numbered f (suc k) count ++ f v ∷ []) e)

zero_first : (k : ℕ) → 0 + k ≡ k
zero_first k = omega arith

pub row_more : {A : Type 0} (f : ℕ → A) (k : ℕ) (old now new : List A) (x : A) → now ≡ old ++ numbered f 0 k → x ≡ f k → new ≡ now ++ x ∷ [] → new ≡ old ++ numbered f 0 (k + 1)
row_more f k old now new x e d n =
    let more : numbered f 0 (k + 1) ≡ numbered f 0 k ++ f k ∷ [] = ap (numbered f 0) (add-one k) ∙ (numbered_push f 0 k ∙ ap (λ v. numbered f 0 k ++ f v ∷ []) (zero_first k)) in
    n ∙ (ap (λ v. v ++ x ∷ []) e ∙ (append_assoc old (numbered f 0 k) (x ∷ []) ∙ (ap (λ v. old ++ (numbered f 0 k ++ v ∷ [])) d ∙ ap (λ v. old ++ v) (sym more))))

-- one that is there, and then again
at_later : {A : Type 0} (P : A → Type 0) (xs ys : List A) (y : A) → P y → AtOne P (xs ++ y ∷ ys)
at_later P [] ys y p = inl p
at_later P (x ∷ xs) ys y p = inr (at_later P xs ys y p)

pub two_of : {A : Type 0} (R : A → A → Type 0) (xs ys : List A) (y d : A) (i : ℕ) → i < length xs → R (get_or xs i d) y → AtTwo R (xs ++ y ∷ ys)
two_of R [] ys y d i l r = absurd (omega arith)
two_of R (x ∷ xs) ys y d zero l r = inl (at_later (R x) xs ys y r)
two_of R (x ∷ xs) ys y d (suc i) l r = inr (two_of R xs ys y d i (omega arith) r)

pub name_twice : (ns rest : List (List ℕ × ℕ)) (name : List ℕ) (earlier later : ℕ) → Contains ns (name, earlier) → AtTwo (SameOfTwo (Clash Duplicate later earlier)) (ns ++ (name, later) ∷ rest)
name_twice ns rest name earlier later c =
    let same : (get_or ns c.0 (name, earlier)).0 ≡ name = ap (λ (v : List ℕ × ℕ). v.0) c.2 in
    let place : (get_or ns c.0 (name, earlier)).1 ≡ earlier = ap (λ (v : List ℕ × ℕ). v.1) c.2 in
    two_of (SameOfTwo (Clash Duplicate later earlier)) ns rest (name, later) (name, earlier) c.0 c.1 (same, ap (λ v. Clash Duplicate later v) (sym place))

pub named_next : (xs : List design.Net) (ps : List ℕ) (i p : ℕ) (x d : design.Net) → i < length xs → length ps ≡ length xs → x ≡ get_or xs i d → p ≡ get_or ps i 0
    → named (drop i xs) (drop i ps) ≡ (x.name.id, p) ∷ named (drop (suc i) xs) (drop (suc i) ps)
named_next [] ps i p x d l m e q = absurd (omega (arith, l))
named_next (y ∷ xs) [] i p x d l m e q = absurd (omega (arith, m))
named_next (y ∷ xs) (w ∷ ps) zero p x d l m e q = ap (λ (v : design.Net). (v.name.id, w) ∷ named xs ps) (sym e) ∙ ap (λ v. (x.name.id, v) ∷ named xs ps) (sym q)
named_next (y ∷ xs) (w ∷ ps) (suc i) p x d l m e q = named_next xs ps i p x d (omega (arith, l)) (omega (arith, m)) e q

none_left : (xs : List design.Net) (ps : List ℕ) (i : ℕ) → length xs ≤ i → named (drop i xs) (drop i ps) ≡ []
none_left xs ps i l = ap (λ v. named v (drop i ps)) (drop_all i xs l)

-- One name more of those that are left, which differs from those before it; or one of those is the same.
pub named_after : (all names more : List (List ℕ × ℕ)) (xs : List design.Net) (ps : List ℕ) (i p : ℕ) (x d : design.Net) → names ++ named (drop i xs) (drop i ps) ≡ all → i < length xs → length ps ≡ length xs → x ≡ get_or xs i d → p ≡ get_or ps i 0
    → DefinesName names x.name.id p more None → more ++ named (drop (suc i) xs) (drop (suc i) ps) ≡ all
named_after all names more xs ps i p x d h l m e q n =
    let rest = named (drop (suc i) xs) (drop (suc i) ps) in
    ap (λ v. v ++ rest) n.1 ∙ (append_assoc names ((x.name.id, p) ∷ []) rest ∙ (ap (λ v. names ++ v) (sym (named_next xs ps i p x d l m e q)) ∙ h))

pub named_again : (all names : List (List ℕ × ℕ)) (xs : List design.Net) (ps : List ℕ) (i p : ℕ) (x d : design.Net) (f : MeaningFault) → names ++ named (drop i xs) (drop i ps) ≡ all → i < length xs → length ps ≡ length xs → x ≡ get_or xs i d → p ≡ get_or ps i 0
    → IsAgain names x.name.id p f → AtTwo (SameOfTwo f) all
named_again all names xs ps i p x d f h l m e q b =
    let rest = named (drop (suc i) xs) (drop (suc i) ps) in
    let P : List (List ℕ × ℕ) → Type 0 = λ v. AtTwo (SameOfTwo (Clash Duplicate p b.0)) v in
    let Q : MeaningFault → Type 0 = λ v. AtTwo (SameOfTwo v) all in
    let whole : names ++ (x.name.id, p) ∷ rest ≡ all = ap (λ v. names ++ v) (sym (named_next xs ps i p x d l m e q)) ∙ h in
    subst Q (sym b.2) (subst P whole (name_twice names rest x.name.id b.0 p b.1))

pub named_all : (all names : List (List ℕ × ℕ)) (xs : List design.Net) (ps : List ℕ) (i : ℕ) → names ++ named (drop i xs) (drop i ps) ≡ all → length xs ≤ i → names ≡ all
named_all all names xs ps i h l = sym (append-nil names) ∙ (ap (λ v. names ++ v) (sym (none_left xs ps i l)) ∙ h)

-- and of names that differ, with another
pub names_differ : (ns ms : List (List ℕ × ℕ)) (name : List ℕ) (place : ℕ) → AreDistinct (ids ns) → DefinesName ns name place ms None → AreDistinct (ids ms)
names_differ ns ms name place h d =
    let S : List (List ℕ × ℕ) → Type 0 = λ v. AreDistinct (ids v) in
    let Z : List (List ℕ) → Type 0 = AreDistinct in
    subst S (sym d.1) (subst Z (sym (ids_push ns name place)) (distinct_push (ids ns) name h d.0))

-- names that differ, also beside their places, and their numbers
names_alone : (xs : List design.Net) (ps : List ℕ) → length ps ≡ length xs → ids (named xs ps) ≡ map (λ (n : design.Net). n.name.id) xs
names_alone [] ps e = refl
names_alone (x ∷ xs) [] e = absurd (omega (arith, e))
names_alone (x ∷ xs) (p ∷ ps) e = ap (λ v. x.name.id ∷ v) (names_alone xs ps (omega (arith, e)))

pub keys_alone : (xs : List design.Net) → map (λ (n : design.Net). name_key 0 n.name.id) xs ≡ map (name_key 0) (map (λ (n : design.Net). n.name.id) xs)
keys_alone [] = refl
keys_alone (x ∷ xs) = ap (λ v. name_key 0 x.name.id ∷ v) (keys_alone xs)

pub named_apart : (xs : List design.Net) (ps : List ℕ) → length ps ≡ length xs → AreDistinct (map (λ (n : design.Net). n.name.id) xs) → AreDistinct (ids (named xs ps))
named_apart xs ps e h = let N : List (List ℕ) → Type 0 = AreDistinct in subst N (sym (names_alone xs ps e)) h

-- the one net of a form without an array
pub without_array : (o : Option ℕ) → is_some o ≡ false → o ≡ None
without_array None h = refl
without_array (Some w) h = absurd (true≢false h)

pub only_added : (n : NetForm) (place : ℕ) (x : design.Net) (old new : NetList) → n.array ≡ None → x ≡ net_at n 0 → NetAdded x place old new → RowAdded n place old new
only_added n place x old new a e h =
    let one : nets_of n ≡ net_at n 0 ∷ [] = ap (λ v. numbered (net_at n) 0 (row_size v)) a in
    let there : numbered (λ k. place) 0 (row_size n.array) ≡ place ∷ [] = ap (λ v. numbered (λ k. place) 0 (row_size v)) a in
    record {
      nets = h.nets ∙ (ap (λ v. old.nets.items ++ v ∷ []) e ∙ ap (λ v. old.nets.items ++ v) (sym one));
      places = h.places ∙ ap (λ v. old.places.items ++ v) (sym there);
      ends = h.ends;
    }

-- a net by itself
bits_again : (es : List design.End) → map (end_of 0) (map bit_of es) ≡ es
bits_again [] = refl
bits_again (e ∷ es) =
    let b : 0 + e.bit ≡ e.bit = omega arith in
    let r : map (end_of 0) (map bit_of es) ≡ es = bits_again es in
    λ j. (let x : design.End = record { inst = e.inst; port = e.port; bit = b j } in x) ∷ r j

pub single_added : (n : design.Net) (place : ℕ) (old new : NetList) → NetAdded n place old new → RowAdded (single_form n) place old new
single_added n place old new h =
    let e = sym (bits_again n.ends) in
    let same : n ≡ net_at (single_form n) 0 = λ j. (let x : design.Net = record { name = n.name; ends = e j; properties = n.properties } in x) in
    only_added (single_form n) place n old new refl same h
