-- The forms in which nets are written stand for the nets, and are such as can be written.
use Rattle.std.proofs.Common.{◌≡◌, ℕ, zero, suc, pred, ◌+◌, ◌<◌, ◌≤◌, List, [], ◌∷◌, ◌++◌, map, drop, refl, ap, sym, ◌∙◌, Bool, true, false, Option, Some, None, arith}
use Rattle.std.specs.Prelude.{IfSome, cond, nat_le, slice_get}
use Rattle.std.specs.List.{AllByRecursion, flat_map}
use Rattle.std.proofs.lemmas.Bool.Decides.{nat_tests}
use Rattle.netlist_schema.specs.Typed.{IsTypedName}
use Rattle.netlist_schema.specs.Width.{IsWidth}
use Rattle.netlist_bus_spec.specs.Members.{numbered}
use Rattle.netlist_bus_spec.specs.Runs.{row_net, run_name, run_width, with_bit}
use Rattle.netlist_bus_spec.proofs.Fronts.{Front, front_there}
use Rattle.netlist_bus_spec.proofs.MemberNames.{run_name_typed}
use Rattle.edif_spec.proofs.KnownForms.{split}
use Rattle.edif_spec.specs.Design as design
use Rattle.edif_spec.specs.Nets.{NetForm, Stretch, bit_of, end_of, form_of, forms_behind, name_at, net_at, net_forms, nets_of, run_form, single_form, whole_of}

-- ---- the nets of the forms

bit_itself : (es : List design.End) → map (end_of 0) (map bit_of es) ≡ es
bit_itself [] = refl
bit_itself (e ∷ es) =
    let b : 0 + e.bit ≡ e.bit = omega arith in
    let r : map (end_of 0) (map bit_of es) ≡ es = bit_itself es in
    λ j. (let x : design.End = record { inst = e.inst; port = e.port; bit = b j } in x) ∷ r j

bit_of_whole : (w k : ℕ) (es : List design.End) → map (end_of k) (map (whole_of w) es) ≡ map (with_bit k) es
bit_of_whole w k [] = refl
bit_of_whole w k (e ∷ es) =
    let b : k + 0 ≡ k = omega arith in
    let r : map (end_of k) (map (whole_of w) es) ≡ map (with_bit k) es = bit_of_whole w k es in
    λ j. (let x : design.End = record { inst = e.inst; port = e.port; bit = b j } in x) ∷ r j

single_nets : (n : design.Net) → nets_of (single_form n) ≡ n ∷ []
single_nets n = let e = bit_itself n.ends in λ j. (let x : design.Net = record { name = n.name; ends = e j; properties = n.properties } in x) ∷ []

run_nets : (w : ℕ) (n : design.Net) (k count : ℕ) → numbered (net_at (run_form w n)) k count ≡ numbered (row_net n) k count
run_nets w n k zero = refl
run_nets w n k (suc count) =
    let e = bit_of_whole w k n.ends in
    let r : numbered (net_at (run_form w n)) (suc k) count ≡ numbered (row_net n) (suc k) count = run_nets w n (suc k) count in
    λ j. (let x : design.Net = record { name = name_at (run_name n) (Some w) k; ends = e j; properties = n.properties } in x) ∷ r j

-- the nets of the form at the front, and those behind it
front_nets : (ports : Option ℕ → List design.Port) (n : design.Net) (ns : List design.Net) (w : ℕ) → run_width ports (n ∷ ns) ≡ w → nets_of (form_of w n) ++ drop (pred w) ns ≡ n ∷ ns
front_nets ports n ns w e = by (nat_le 2 w) refl
  where
    many : (v : ℕ) → 2 ≤ v → Front ports n ns v → nets_of (run_form v n) ++ drop (pred v) ns ≡ n ∷ ns
    many zero l f = absurd (omega (arith, l))
    many (suc v) l f = ap (λ x. x ++ drop v ns) (run_nets (suc v) n 0 (suc v) ∙ sym f.row) ∙ split (suc v) (n ∷ ns)

    few : (v : ℕ) → nat_le 2 v ≡ false → nets_of (single_form n) ++ drop (pred v) ns ≡ n ∷ ns
    few zero g = ap (λ x. x ++ ns) (single_nets n)
    few (suc zero) g = ap (λ x. x ++ ns) (single_nets n)
    few (suc (suc v)) g = absurd (too_many (suc (suc v)) (omega arith) g)
      where
        too_many : (x : ℕ) → 2 ≤ x → nat_le 2 x ≡ false → ⊥
        too_many x l f = grind (arith, nat_tests)

    enough : (v : ℕ) → nat_le 2 v ≡ true → 2 ≤ v
    enough v g = grind (arith, nat_tests)

    by : (b : Bool) → nat_le 2 w ≡ b → nets_of (cond b (run_form w n) (single_form n)) ++ drop (pred w) ns ≡ n ∷ ns
    by true g = let l = enough w g in many w l (front_there ports n ns w e l)
    by false g = few w g

pub forms_cover : (ports : Option ℕ → List design.Port) (k : ℕ) (nets : List design.Net) → flat_map nets_of (forms_behind ports k nets) ≡ drop k nets
forms_cover ports zero [] = refl
forms_cover ports (suc k) [] = refl
forms_cover ports (suc k) (n ∷ ns) = forms_cover ports k ns
forms_cover ports zero (n ∷ ns) =
    let w = run_width ports (n ∷ ns) in
    ap (λ v. nets_of (form_of w n) ++ v) (forms_cover ports (pred w) ns) ∙ front_nets ports n ns w refl

pub forms_are_nets : (ports : Option ℕ → List design.Port) (nets : List design.Net) → flat_map nets_of (net_forms ports nets) ≡ nets
forms_are_nets ports nets = forms_cover ports 0 nets

-- ---- what holds of the forms

-- what a stretch of a net with or without an array is: one bit of a port, or a whole port as wide as the array
abbrev pub Covers : Option ℕ → design.Port → Stretch → Type 0
Covers None p s = (s.first < design.port_width p) × (s.width ≡ 1)
Covers (Some n) p s = (s.first ≡ 0) × (s.width ≡ n) × (p.array ≡ Some n)

-- A stretch is at a port that is there, and covers what it should.
pub record IsPlacedStretch (ports : Option ℕ → List design.Port) (array : Option ℕ) (s : Stretch) : Type 0 where
  pub port : design.Port
  pub there : slice_get (ports s.inst) s.port ≡ Some port
  pub covers : Covers array port s

-- A form whose array is of a width, with the stretches of ports that are there; and what is known of each of its ends.
pub record IsPlacedForm (ports : Option ℕ → List design.Port) (P : design.End → Type 0) (f : NetForm) : Type 0 where
  pub array : IfSome f.array IsWidth
  pub joined : AllByRecursion (IsPlacedStretch ports f.array) f.joined
  pub known : AllByRecursion (λ (s : Stretch). (e : design.End) × (e.inst ≡ s.inst) × P e) f.joined

-- an end at a bit of a port that is there
abbrev pub HasPort : (Option ℕ → List design.Port) → design.End → Type 0
HasPort ports e = (p : design.Port) × (slice_get (ports e.inst) e.port ≡ Some p) × (e.bit < design.port_width p)

single_joined : (ports : Option ℕ → List design.Port) (es : List design.End) → AllByRecursion (HasPort ports) es → AllByRecursion (IsPlacedStretch ports None) (map bit_of es)
single_joined ports [] h = tt
single_joined ports (e ∷ es) h = (record { port = h.0.0; there = h.0.1; covers = (h.0.2, refl) }, single_joined ports es h.1)

known_ends : (P : design.End → Type 0) (f : design.End → Stretch) → ((e : design.End) → e.inst ≡ (f e).inst) → (es : List design.End) → AllByRecursion P es → AllByRecursion (λ (s : Stretch). (e : design.End) × (e.inst ≡ s.inst) × P e) (map f es)
known_ends P f same [] h = tt
known_ends P f same (e ∷ es) h = ((e, same e, h.0), known_ends P f same es h.1)

form_placed : (ports : Option ℕ → List design.Port) (P : design.End → Type 0) (n : design.Net) (ns : List design.Net) (w : ℕ) → run_width ports (n ∷ ns) ≡ w → AllByRecursion (HasPort ports) n.ends → AllByRecursion P n.ends → IsPlacedForm ports P (form_of w n)
form_placed ports P n ns w e h k = by (nat_le 2 w) refl
  where
    enough : (v : ℕ) → nat_le 2 v ≡ true → 2 ≤ v
    enough v g = grind (arith, nat_tests)

    whole : (f : Front ports n ns w) (es : List design.End) → ((i : ℕ) (x : design.End) → slice_get es i ≡ Some x → (j : ℕ) × (slice_get n.ends j ≡ Some x)) → AllByRecursion (IsPlacedStretch ports (Some w)) (map (whole_of w) es)
    whole f [] g = tt
    whole f (x ∷ es) g =
        let at = g 0 x refl in
        let b = f.wide at.0 x at.1 in
        (record { port = b.port; there = b.there; covers = (refl, refl, b.array) }, whole f es (λ i. g (suc i)))

    by : (b : Bool) → nat_le 2 w ≡ b → IsPlacedForm ports P (cond b (run_form w n) (single_form n))
    by true g =
        let l = enough w g in
        let f = front_there ports n ns w e l in
        let m = f.most in
        record { array = (omega (arith, l), m); joined = whole f n.ends (λ i x q. (i, q)); known = known_ends P (whole_of w) (λ x. refl) n.ends k }
    by false g = record { array = tt; joined = single_joined ports n.ends h; known = known_ends P bit_of (λ x. refl) n.ends k }

pub forms_placed : (ports : Option ℕ → List design.Port) (P : design.End → Type 0) (k : ℕ) (nets : List design.Net) → AllByRecursion (λ (n : design.Net). AllByRecursion (HasPort ports) n.ends) nets → AllByRecursion (λ (n : design.Net). AllByRecursion P n.ends) nets → AllByRecursion (IsPlacedForm ports P) (forms_behind ports k nets)
forms_placed ports P zero [] h g = tt
forms_placed ports P (suc k) [] h g = tt
forms_placed ports P (suc k) (n ∷ ns) h g = forms_placed ports P k ns h.1 g.1
forms_placed ports P zero (n ∷ ns) h g = (form_placed ports P n ns (run_width ports (n ∷ ns)) refl h.0 g.0, forms_placed ports P (pred (run_width ports (n ∷ ns))) ns h.1 g.1)

-- what holds of the properties of each net holds of those of each form
pub forms_properties : (ports : Option ℕ → List design.Port) (P : List design.Property → Type 0) (k : ℕ) (nets : List design.Net) → AllByRecursion (λ (n : design.Net). P n.properties) nets → AllByRecursion (λ (f : NetForm). P f.properties) (forms_behind ports k nets)
forms_properties ports P zero [] h = tt
forms_properties ports P (suc k) [] h = tt
forms_properties ports P (suc k) (n ∷ ns) h = forms_properties ports P k ns h.1
forms_properties ports P zero (n ∷ ns) h = (by (nat_le 2 (run_width ports (n ∷ ns))) h.0, forms_properties ports P (pred (run_width ports (n ∷ ns))) ns h.1)
  where
    by : (b : Bool) → P n.properties → P (cond b (run_form (run_width ports (n ∷ ns)) n) (single_form n)).properties
    by true q = q
    by false q = q

-- and the names of forms are names
form_named : (ports : Option ℕ → List design.Port) (n : design.Net) (ns : List design.Net) (w : ℕ) → run_width ports (n ∷ ns) ≡ w → IsTypedName n.name → IsTypedName (form_of w n).name
form_named ports n ns w e h = by (nat_le 2 w) refl
  where
    enough : (v : ℕ) → nat_le 2 v ≡ true → 2 ≤ v
    enough v g = grind (arith, nat_tests)

    by : (b : Bool) → nat_le 2 w ≡ b → IsTypedName (cond b (run_form w n) (single_form n)).name
    by true g = let f = front_there ports n ns w e (enough w g) in run_name_typed n h f.some_byte
    by false g = h

pub forms_named : (ports : Option ℕ → List design.Port) (k : ℕ) (nets : List design.Net) → AllByRecursion (λ (n : design.Net). IsTypedName n.name) nets → AllByRecursion (λ (f : NetForm). IsTypedName f.name) (forms_behind ports k nets)
forms_named ports zero [] h = tt
forms_named ports (suc k) [] h = tt
forms_named ports (suc k) (n ∷ ns) h = forms_named ports k ns h.1
forms_named ports zero (n ∷ ns) h = (form_named ports n ns (run_width ports (n ∷ ns)) refl h.0, forms_named ports (pred (run_width ports (n ∷ ns))) ns h.1)
