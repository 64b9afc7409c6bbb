-- Nets that pass the test of runs are a row, and a run.
use Rattle.std.proofs.Common.{◌≡◌, ℕ, zero, suc, ◌+◌, ◌≤◌, List, [], ◌∷◌, map, length, refl, ap, sym, ◌∙◌, subst, true, Option, Some, None, arith, eqb-true}
use Rattle.std.specs.Prelude.{◌&&◌, nat_eq, nat_le, slice_get, unwrap_or}
use Rattle.std.specs.Cmp.Lexicographic.{pointwise}
use Rattle.std.proofs.lemmas.Bool.Decides.{Decides-eqb, nat_tests}
use Rattle.std.proofs.lemmas.Bool.{and_parts, and_from}
use Rattle.std.proofs.lemmas.List.{length-map}
use Rattle.netlist_schema.specs.Types.{End, Name, Net, Port}
use Rattle.netlist_bus_spec.specs.Members.{displayed, member_id, member_text, member_name, numbered}
use Rattle.netlist_bus_spec.specs.Same.{same_name, same_properties}
use Rattle.netlist_bus_spec.specs.Runs.{IsBitOf, IsRow, IsRun, array_name, are_members, is_array, is_bit, is_member, is_run, is_wide, row_net, run_name, same_inst, stem, with_bit}
use Rattle.netlist_bus_spec.proofs.Numbers.{array_member, stem_of_id, stem_of_text}
use Rattle.netlist_bus_spec.proofs.Tests.{inst_tells, name_tells, properties_tell}

pub some_same : {A : Type 0} (x y : A) → Some x ≡ Some y → x ≡ y
some_same x y e = cc e

-- a bit, as its test tells it
pub record Bit (ports : Option ℕ → List Port) (width k : ℕ) (a b : End) : Type 0 where
  pub inst : a.inst ≡ b.inst
  pub port : a.port ≡ b.port
  pub bit : b.bit ≡ k
  pub wide : IsBitOf ports width b

array_there : (width : ℕ) (o : Option ℕ) → is_array width o ≡ true → o ≡ Some width
array_there width None h = absurd (cc h)
array_there width (Some n) h = ap Some (eqb-true n width h)

wide_there : (width : ℕ) (o : Option Port) → is_wide width o ≡ true → (p : Port) × (o ≡ Some p) × (p.array ≡ Some width)
wide_there width None h = absurd (cc h)
wide_there width (Some p) h = (p, refl, array_there width p.array h)

array_is : (width : ℕ) (o : Option ℕ) → o ≡ Some width → is_array width o ≡ true
array_is width None e = absurd (cc e)
array_is width (Some n) e = let d : n ≡ width = cc e in (Decides-eqb n width).1 d

wide_is : (width : ℕ) (o : Option Port) (p : Port) → o ≡ Some p → p.array ≡ Some width → is_wide width o ≡ true
wide_is width None p e a = absurd (cc e)
wide_is width (Some q) p e a = let d : q ≡ p = some_same q p e in array_is width q.array (ap (λ (v : Port). v.array) d ∙ a)

bit_there : (ports : Option ℕ → List Port) (width k : ℕ) (a b : End) → is_bit ports width k a b ≡ true → Bit ports width k a b
bit_there ports width k a b h =
    let wide = is_wide width (slice_get (ports b.inst) b.port) in
    let u = and_parts (same_inst a.inst b.inst && nat_eq a.port b.port) (nat_eq b.bit k && wide) h in
    let v = and_parts (same_inst a.inst b.inst) (nat_eq a.port b.port) u.0 in
    let w = and_parts (nat_eq b.bit k) wide u.1 in
    let p = wide_there width (slice_get (ports b.inst) b.port) w.1 in
    record { inst = (inst_tells a.inst b.inst).0 v.0; port = eqb-true a.port b.port v.1; bit = eqb-true b.bit k w.0; wide = record { port = p.0; there = p.1; array = p.2 } }

bit_is : (ports : Option ℕ → List Port) (width k : ℕ) (a b : End) → Bit ports width k a b → is_bit ports width k a b ≡ true
bit_is ports width k a b h =
    and_from (same_inst a.inst b.inst && nat_eq a.port b.port) (nat_eq b.bit k && is_wide width (slice_get (ports b.inst) b.port))
    (and_from (same_inst a.inst b.inst) (nat_eq a.port b.port) ((inst_tells a.inst b.inst).1 h.inst) ((Decides-eqb a.port b.port).1 h.port))
    (and_from (nat_eq b.bit k) (is_wide width (slice_get (ports b.inst) b.port)) ((Decides-eqb b.bit k).1 h.bit) (wide_is width (slice_get (ports b.inst) b.port) h.wide.port h.wide.there h.wide.array))

-- the ends of a member
ends_are : (ports : Option ℕ → List Port) (width k : ℕ) (xs ys : List End) → pointwise (is_bit ports width k) xs ys ≡ true → ys ≡ map (with_bit k) xs
ends_are ports width k [] [] h = refl
ends_are ports width k [] (y ∷ ys) h = absurd (cc h)
ends_are ports width k (x ∷ xs) [] h = absurd (cc h)
ends_are ports width k (x ∷ xs) (y ∷ ys) h =
    let u = and_parts (is_bit ports width k x y) (pointwise (is_bit ports width k) xs ys) h in
    let b = bit_there ports width k x y u.0 in
    let r : ys ≡ map (with_bit k) xs = ends_are ports width k xs ys u.1 in
    let e : y ≡ with_bit k x = (λ j. record { inst = sym b.inst j; port = sym b.port j; bit = b.bit j }) in
    λ j. e j ∷ r j

end_at : (ports : Option ℕ → List Port) (width k : ℕ) (xs ys : List End) (i : ℕ) (e : End) → pointwise (is_bit ports width k) xs ys ≡ true → slice_get ys i ≡ Some e → (a : End) × (slice_get xs i ≡ Some a) × Bit ports width k a e
end_at ports width k [] [] i e h g = absurd (cc g)
end_at ports width k [] (y ∷ ys) i e h g = absurd (cc h)
end_at ports width k (x ∷ xs) [] i e h g = absurd (cc h)
end_at ports width k (x ∷ xs) (y ∷ ys) zero e h g =
    let u = and_parts (is_bit ports width k x y) (pointwise (is_bit ports width k) xs ys) h in
    let P : End → Type 0 = λ v. Bit ports width k x v in
    (x, refl, subst P (some_same y e g) (bit_there ports width k x y u.0))
end_at ports width k (x ∷ xs) (y ∷ ys) (suc i) e h g = end_at ports width k xs ys i e (and_parts (is_bit ports width k x y) (pointwise (is_bit ports width k) xs ys) h).1 g

-- the ends of two nets, pair by pair
ends_pass : (ports : Option ℕ → List Port) (width k : ℕ) (xs ys : List End) → length xs ≡ length ys → ((i : ℕ) (a b : End) → slice_get xs i ≡ Some a → slice_get ys i ≡ Some b → Bit ports width k a b) → pointwise (is_bit ports width k) xs ys ≡ true
ends_pass ports width k [] [] l f = refl
ends_pass ports width k [] (y ∷ ys) l f = absurd (omega (arith, l))
ends_pass ports width k (x ∷ xs) [] l f = absurd (omega (arith, l))
ends_pass ports width k (x ∷ xs) (y ∷ ys) l f = and_from (is_bit ports width k x y) (pointwise (is_bit ports width k) xs ys) (bit_is ports width k x y (f 0 x y refl refl)) (ends_pass ports width k xs ys (omega (arith, l)) (λ i. f (suc i)))

-- a member, as its test tells it
pub record Member (ports : Option ℕ → List Port) (width : ℕ) (first : Net) (k : ℕ) (n : Net) : Type 0 where
  pub name : n.name ≡ member_name (run_name first) k
  pub properties : n.properties ≡ first.properties
  pub ends : pointwise (is_bit ports width k) first.ends n.ends ≡ true

member_there : (ports : Option ℕ → List Port) (width : ℕ) (first : Net) (k : ℕ) (n : Net) → is_member ports width first k n ≡ true → Member ports width first k n
member_there ports width first k n h =
    let u = and_parts (same_name n.name (member_name (run_name first) k)) (same_properties n.properties first.properties && pointwise (is_bit ports width k) first.ends n.ends) h in
    let v = and_parts (same_properties n.properties first.properties) (pointwise (is_bit ports width k) first.ends n.ends) u.1 in
    record { name = (name_tells n.name (member_name (run_name first) k)).0 u.0; properties = (properties_tell n.properties first.properties).0 v.0; ends = v.1 }

member_is : (ports : Option ℕ → List Port) (width : ℕ) (first : Net) (k : ℕ) (n : Net) → Member ports width first k n → is_member ports width first k n ≡ true
member_is ports width first k n h =
    and_from (same_name n.name (member_name (run_name first) k)) (same_properties n.properties first.properties && pointwise (is_bit ports width k) first.ends n.ends) ((name_tells n.name (member_name (run_name first) k)).1 h.name)
    (and_from (same_properties n.properties first.properties) (pointwise (is_bit ports width k) first.ends n.ends) ((properties_tell n.properties first.properties).1 h.properties) h.ends)

-- a member is the net of its number in the row
pub member_net : (ports : Option ℕ → List Port) (width : ℕ) (first : Net) (k : ℕ) (n : Net) → Member ports width first k n → n ≡ row_net first k
member_net ports width first k n h = let e = ends_are ports width k first.ends n.ends h.ends in λ j. record { name = h.name j; ends = e j; properties = h.properties j }

-- members, each with its number
member_at : (ports : Option ℕ → List Port) (width : ℕ) (first : Net) (k : ℕ) (nets : List Net) → are_members ports width first k nets ≡ true → (i j : ℕ) (n : Net) → j ≡ k + i → slice_get nets i ≡ Some n → Member ports width first j n
member_at ports width first k [] h i j n e g = absurd (cc g)
member_at ports width first k (m ∷ nets) h zero j n e g =
    let u = and_parts (is_member ports width first k m) (are_members ports width first (suc k) nets) h in
    let same : m ≡ n = some_same m n g in
    let number : k ≡ j = omega (arith, e) in
    let P : Net → Type 0 = λ v. Member ports width first k v in
    let Q : ℕ → Type 0 = λ v. Member ports width first v n in
    subst Q number (subst P same (member_there ports width first k m u.0))
member_at ports width first k (m ∷ nets) h (suc i) j n e g = member_at ports width first (suc k) nets (and_parts (is_member ports width first k m) (are_members ports width first (suc k) nets) h).1 i j n (omega (arith, e)) g

members_pass : (ports : Option ℕ → List Port) (width : ℕ) (first : Net) (k : ℕ) (nets : List Net) → ((i j : ℕ) (n : Net) → j ≡ k + i → slice_get nets i ≡ Some n → Member ports width first j n) → are_members ports width first k nets ≡ true
members_pass ports width first k [] f = refl
members_pass ports width first k (m ∷ nets) f = and_from (is_member ports width first k m) (are_members ports width first (suc k) nets) (member_is ports width first k m (f 0 k m (omega arith) refl))
    (members_pass ports width first (suc k) nets (λ i j n e g. f (suc i) j n (omega (arith, e)) g))

row_of : (ports : Option ℕ → List Port) (width : ℕ) (first : Net) (k : ℕ) (nets : List Net) → are_members ports width first k nets ≡ true → nets ≡ numbered (row_net first) k (length nets)
row_of ports width first k [] h = refl
row_of ports width first k (m ∷ nets) h =
    let u = and_parts (is_member ports width first k m) (are_members ports width first (suc k) nets) h in
    let e : m ≡ row_net first k = member_net ports width first k m (member_there ports width first k m u.0) in
    let r : nets ≡ numbered (row_net first) (suc k) (length nets) = row_of ports width first (suc k) nets u.1 in
    λ j. e j ∷ r j

-- the parts of the test of runs
pub record Tested (ports : Option ℕ → List Port) (n : Net) (ns : List Net) : Type 0 where
  pub least : 2 ≤ length (n ∷ ns)
  pub most : length (n ∷ ns) ≤ 65536
  pub some_byte : 1 ≤ length (stem n.name.id)
  pub members : are_members ports (length (n ∷ ns)) n 0 (n ∷ ns) ≡ true

pub tested : (ports : Option ℕ → List Port) (n : Net) (ns : List Net) → is_run ports (n ∷ ns) ≡ true → Tested ports n ns
tested ports n ns h =
    let u = and_parts (nat_le 2 (length (n ∷ ns)) && nat_le (length (n ∷ ns)) 65536) (nat_le 1 (length (stem n.name.id)) && are_members ports (length (n ∷ ns)) n 0 (n ∷ ns)) h in
    let v = and_parts (nat_le 2 (length (n ∷ ns))) (nat_le (length (n ∷ ns)) 65536) u.0 in
    let w = and_parts (nat_le 1 (length (stem n.name.id))) (are_members ports (length (n ∷ ns)) n 0 (n ∷ ns)) u.1 in
    let a = v.0 in let b = v.1 in let c = w.0 in
    record { least = below 2 (length (n ∷ ns)) a; most = below (length (n ∷ ns)) 65536 b; some_byte = below 1 (length (stem n.name.id)) c; members = w.1 }
  where
    below : (x y : ℕ) → nat_le x y ≡ true → x ≤ y
    below x y e = grind (arith, nat_tests)

pub passed : (ports : Option ℕ → List Port) (n : Net) (ns : List Net) → Tested ports n ns → is_run ports (n ∷ ns) ≡ true
passed ports n ns h =
    and_from (nat_le 2 (length (n ∷ ns)) && nat_le (length (n ∷ ns)) 65536) (nat_le 1 (length (stem n.name.id)) && are_members ports (length (n ∷ ns)) n 0 (n ∷ ns))
    (and_from (nat_le 2 (length (n ∷ ns))) (nat_le (length (n ∷ ns)) 65536) (within 2 (length (n ∷ ns)) h.least) (within (length (n ∷ ns)) 65536 h.most))
    (and_from (nat_le 1 (length (stem n.name.id))) (are_members ports (length (n ∷ ns)) n 0 (n ∷ ns)) (within 1 (length (stem n.name.id)) h.some_byte) h.members)
  where
    within : (x y : ℕ) → x ≤ y → nat_le x y ≡ true
    within x y e = grind (arith, nat_tests)

-- what passes is a row
pub row_there : (ports : Option ℕ → List Port) (nets : List Net) → is_run ports nets ≡ true → IsRow ports nets
row_there ports [] h = absurd (cc h)
row_there ports (n ∷ ns) h =
    let t = tested ports n ns h in
    let m = member_at ports (length (n ∷ ns)) n 0 (n ∷ ns) t.members 0 0 n (omega arith) refl in
    record { first = n; there = refl; some_byte = t.some_byte; row = row_of ports (length (n ∷ ns)) n 0 (n ∷ ns) t.members; wide = λ i e g. (end_at ports (length (n ∷ ns)) 0 n.ends n.ends i e m.ends g).2.wide }

-- and a run
pub run_there : (ports : Option ℕ → List Port) (nets : List Net) → is_run ports nets ≡ true → IsRun ports nets
run_there ports [] h = absurd (cc h)
run_there ports (n ∷ ns) h =
    let t = tested ports n ns h in
    let at : (k : ℕ) (m : Net) → slice_get (n ∷ ns) k ≡ Some m → Member ports (length (n ∷ ns)) n k m = λ k m g. member_at ports (length (n ∷ ns)) n 0 (n ∷ ns) t.members k k m (omega arith) g in
    let count : (k : ℕ) (m : Net) → slice_get (n ∷ ns) k ≡ Some m → length m.ends ≡ length n.ends = λ k m g. ap length (ends_are ports (length (n ∷ ns)) k n.ends m.ends (at k m g).ends) ∙ length-map n.ends (with_bit k) in
    record {
      least = t.least;
      most = t.most;
      id = (run_name n).id;
      text = displayed (run_name n);
      some_byte = t.some_byte;
      names = λ k m g. (at k m g).name;
      properties = λ j k x y f g. (at j x f).properties ∙ sym (at k y g).properties;
      counts = λ j k x y f g. count j x f ∙ sym (count k y g);
      bits = λ k i m e g f. let b = end_at ports (length (n ∷ ns)) k n.ends m.ends i e (at k m g).ends f in (b.2.bit, b.2.wide);
      places = λ j k i x y a b f g u v.
          let p = end_at ports (length (n ∷ ns)) j n.ends x.ends i a (at j x f).ends u in
          let q = end_at ports (length (n ∷ ns)) k n.ends y.ends i b (at k y g).ends v in
          let same : p.0 ≡ q.0 = some_same p.0 q.0 (sym p.1 ∙ q.1) in
          (sym p.2.inst ∙ (ap (λ (e : End). e.inst) same ∙ q.2.inst), sym p.2.port ∙ (ap (λ (e : End). e.port) same ∙ q.2.port));
    }

-- a run passes
named_so : (first : Net) (d t : List ℕ) → first.name ≡ record { id = member_id d 0; shown = Some (member_text t 0) } → run_name first ≡ array_name d t
named_so first d t e =
    let i : stem first.name.id ≡ d = ap (λ (v : Name). stem v.id) e ∙ stem_of_id d in
    let s : stem (unwrap_or first.name.shown []) ≡ t = ap (λ (v : Name). stem (unwrap_or v.shown [])) e ∙ stem_of_text t in
    λ j. array_name (i j) (s j)

pub run_passes : (ports : Option ℕ → List Port) (nets : List Net) → IsRun ports nets → is_run ports nets ≡ true
run_passes ports [] r = let l = r.least in absurd (omega (arith, l))
run_passes ports (n ∷ ns) r =
    let named : run_name n ≡ array_name r.id r.text = named_so n r.id r.text (r.names 0 n refl) in
    let stemmed : stem n.name.id ≡ r.id = ap (λ (v : Name). v.id) named in
    let byte = r.some_byte in
    let long : length (stem n.name.id) ≡ length r.id = ap length stemmed in
    let member : (i j : ℕ) (m : Net) → j ≡ 0 + i → slice_get (n ∷ ns) i ≡ Some m → Member ports (length (n ∷ ns)) n j m = λ i j m e g.
    let number : i ≡ j = omega (arith, e) in
    let P : ℕ → Type 0 = λ v. Member ports (length (n ∷ ns)) n v m in
    subst P number (record {
      name = r.names i m g ∙ (sym (array_member r.id r.text i) ∙ ap (λ v. member_name v i) (sym named));
      properties = r.properties i 0 m n g refl;
      ends = ends_pass ports (length (n ∷ ns)) i n.ends m.ends (r.counts 0 i n m refl g) (λ l a b u v.
          let w = r.places 0 i l n m a b refl g u v in let x = r.bits i l m b g v in record { inst = w.0; port = w.1; bit = x.0; wide = x.1 });
    }) in
    passed ports n ns (record { least = r.least; most = r.most; some_byte = omega (arith, byte, long); members = members_pass ports (length (n ∷ ns)) n 0 (n ∷ ns) member })
