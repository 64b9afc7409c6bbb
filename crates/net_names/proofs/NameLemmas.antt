-- The names that are handed down are the representatives.
use Rattle.std.proofs.Common.{◌≡◌, ◌<◌, ◌≤◌, ℕ, zero, suc, List, [], ◌∷◌, ◌++◌, length, get_or, take, refl, sym, ap, subst, ◌∙◌, arith, append-nil, Some, None, Option, slice_get}
use Rattle.std.specs.Prelude.{option_and_then}
use Rattle.std.specs.List.{Contains}
use Rattle.std.proofs.lemmas.List.{length-append, take_all}
use Rattle.std.proofs.lemmas.Option.{same_Some, slice_get-get_or, slice_get_within, get_or_from_slice_get}
use Rattle.netlist_schema.specs.Design.{Design}
use Rattle.netlist_schema.specs.Types.{CellId}
use Rattle.netlist_schema.specs.Valid.{IsValid}
use Rattle.flat_spec.specs.Connection.{Connected}
use Rattle.flat_spec.specs.HandedDown.{IsFirstInside}
use Rattle.flat_spec.specs.Paths.{Bit, own, on, at_path, at_root, nets_at, IsNet, Joins, Reaches}
use Rattle.flat_spec.specs.Pins.{own_bits}
use Rattle.flat_spec.specs.Representatives.{representative}
use Rattle.flat_spec.proofs.BitLemmas.{on_there, own_there}
use Rattle.flat_spec.proofs.ConnectionLemmas.{Connected-append, Connected-below, Connected-same}
use Rattle.flat_spec.proofs.FirstLemmas.{IsNamedThrough, firsts-same, named_by_itself, named_by_parent, own_bit-once}
use Rattle.flat_spec.proofs.HandedDownLemmas.{first_inside}
use Rattle.flat_spec.proofs.PathLemmas.{IsNet-from, IsNet-parts, Joins-inward_here, Joins-net, Joins-outward_here, Reaches-append, Some-same}
use Rattle.flat_spec.proofs.RepresentativeLemmas.{Connected-net, representative-connected}
use Rattle.net_classes.specs.Facts.{CellFacts, first_in}
use Rattle.net_classes.specs.Inside.{IsFirstAt}
use Rattle.net_classes.specs.PortClasses.{AreFactsOf, IsJoint}
use Rattle.net_classes.specs.declared.joints.Joint.{Joint}
use Rattle.net_names.specs.Names.{AreHanded, AreNames, AreOwnNames, IsHanded, by_itself, name_in, net_named, through}
use Rattle.net_names.specs.declared.names.NetName.{NetName}

-- the beginning of a longer path
take-front : {A : Type 0} (n : ℕ) (xs ys : List A) → n ≤ length xs → take n (xs ++ ys) ≡ take n xs
take-front zero xs ys l = refl
take-front (suc n) [] ys l = absurd (omega arith)
take-front (suc n) (x ∷ xs) ys l = ap (λ v. x ∷ v) (take-front n xs ys (omega arith))

module _ (d : Design) (valid : IsValid d) (root : CellId) (path : List ℕ) (c : CellId) (at : Reaches d root path c) (f : CellFacts) (told : AreFactsOf d c f) where
  net_below : (n : ℕ) → IsNet d c (at_root n) → n < length (nets_at d c)
  net_below n is =
      let parts = IsNet-parts d c (at_root n) is in
      let same : c ≡ parts.0 = Some-same (Some c) refl parts.1 in
      subst (λ v. n < length (nets_at d v)) (sym same) parts.2

  -- the first net inside is its own first, and a net
  first_is_first : (n first : ℕ) → IsFirstInside d c n first → IsFirstInside d c first first
  first_is_first n first is = record {
    connected = Connected-same d c (at_root first);
    least = λ k conn less. is.least k (Connected-append d c (at_root n) (at_root first) (at_root k) is.connected conn) less;
  }

  -- it has the same representative
  first-representative : (n first : ℕ) → IsNet d c (at_root n) → IsFirstInside d c n first → representative d root (at_path path n) ≡ representative d root (at_path path first)
  first-representative n first net is =
      let below = net_below first (Connected-net d c (at_root n) (at_root first) is.connected net) in
      let conn : Connected d root (at_path (path ++ []) n) (at_path (path ++ []) first) = Connected-below d root c path (at_root n) (at_root first) at is.connected in
      let conn' : Connected d root (at_path path n) (at_path path first) = subst (λ p. Connected d root (at_path p n) (at_path p first)) (append-nil path) conn in
      representative-connected d valid.no_cycle root (at_path path n) (at_path path first) (IsNet-from d root c path first at below) conn'

  module _ (names : List NetName) (are : AreNames d root path c names) where
    -- each net has a name, which is its representative
    pub name_known : (n : ℕ) → IsNet d c (at_root n)
        → (name : NetName) × (name_in names f.firsts n ≡ Some name) × (net_named path name ≡ representative d root (at_path path n)) × (name.depth ≤ length path)
    name_known n net =
        let first = told.firsts n net in
        let below : first.0 < length names = omega (arith, net_below first.0 (Connected-net d c (at_root n) (at_root first.0) first.2.connected net), are.long) in
        let none : NetName = record { depth = 0; net = 0 } in
        let name : NetName = get_or names first.0 none in
        let is : slice_get names first.0 ≡ Some name = slice_get-get_or names first.0 none below in (
          name,
          ap (option_and_then (slice_get names)) first.1 ∙ is,
          are.each first.0 name (first_is_first n first.0 first.2) is ∙ sym (first-representative n first.0 net first.2),
          are.shallow first.0 name is,
        )

-- at the top each first net is its own representative
pub own_are_names : (d : Design) (valid : IsValid d) (root : CellId) (names : List NetName) → AreOwnNames 0 (length (nets_at d root)) names → AreNames d root [] root names
own_are_names d valid root names own = record {
  long = own.long;
  shallow = λ n name is. let same = named n name is in omega (arith, ap (λ (v : NetName). v.depth) same);
  each = λ n name first is.
      let within : n < length (nets_at d root) = omega (arith, slice_get_within names n name is, own.long) in
      let same = named n name is in
      ap (net_named []) same ∙ sym (root_first n within first);
}
  where
    named : (n : ℕ) (name : NetName) → slice_get names n ≡ Some name → name ≡ record { depth = 0; net = n }
    named n name is =
        let within : n < length (nets_at d root) = omega (arith, slice_get_within names n name is, own.long) in
        same_Some name (record { depth = 0; net = n }) (sym is ∙ own.each n within)

    root_first : (n : ℕ) → n < length (nets_at d root) → IsFirstInside d root n n → representative d root (at_root n) ≡ at_root n
    root_first n within first =
        let net = IsNet-from d root root [] n refl within in
        let other = first_inside d root n valid.no_cycle net in
        let same : other.0 ≡ n = firsts-same d root n n other.0 n other.1 first (Connected-same d root (at_root n)) in
        other.2 ∙ ap at_root same

-- the names of an inner occurrence
module _ (d : Design) (valid : IsValid d) (root : CellId) (path : List ℕ) (up cell : CellId) (step : ℕ) (up_at : Reaches d root path up) (step_at : Reaches d up (step ∷ []) cell)
    (fu fc : CellFacts) (told_up : AreFactsOf d up fu) (told : AreFactsOf d cell fc) (outside : List NetName) (are_up : AreNames d root path up outside)
    (joints : List Joint) (here : (j : Joint) → Contains joints j → IsJoint d up j × (j.inst ≡ step)) (whole : (j : Joint) → IsJoint d up j → j.inst ≡ step → Contains joints j)
    (names : List NetName)
    (handed : AreHanded (λ j. first_in fc (record { port = j.port; bit = j.bit })) (name_in outside fu.firsts) (suc (length path)) joints (length (nets_at d cell)) names) where
  reached : Reaches d root (path ++ step ∷ []) cell
  reached = Reaches-append d root up cell path (step ∷ []) up_at step_at

  firsts : (n : ℕ) → IsNet d cell (at_root n) → IsFirstInside d cell n (get_or fc.firsts n 0)
  firsts n net =
      let known = told.firsts n net in
      subst (λ v. IsFirstInside d cell n v) (sym (get_or_from_slice_get fc.firsts n known.0 0 known.1)) known.2

  is_net : (n : ℕ) (b : Bit) → Joins d cell (at_root n) (own b) → IsNet d cell (at_root n)
  is_net n b joins = Joins-net d cell (at_root n) (own b) joins

  -- the first net of a joint's bit
  inside_of : (j : Joint) (n : ℕ) → first_in fc (record { port = j.port; bit = j.bit }) ≡ Some n → Contains joints j
      → (m : ℕ) × Joins d cell (at_root m) (own (record { port = j.port; bit = j.bit })) × IsFirstInside d cell m n
  inside_of j n is has =
      let at = here j has in
      let bit = on_there d up j.net j.inst (record { port = j.port; bit = j.bit }) valid at.0 in
      let same : bit.0 ≡ cell = Some-same _ bit.1 (subst (λ v. Reaches d up (v ∷ []) cell) (sym at.1) step_at) in
      let there = subst (λ v. Contains (own_bits d v) (record { port = j.port; bit = j.bit })) same bit.2 in
      subst (λ o. IsFirstAt d cell (record { port = j.port; bit = j.bit }) o) is (told.inside (record { port = j.port; bit = j.bit }) there)

  own_first : (n m : ℕ) → IsFirstInside d cell n n → IsNet d cell (at_root n) → IsFirstInside d cell m n → IsNet d cell (at_root m) → get_or fc.firsts m 0 ≡ get_or fc.firsts n 0
  own_first n m n_first n_net m_first m_net =
      firsts-same d cell m m (get_or fc.firsts m 0) n (firsts m m_net) m_first (Connected-same d cell (at_root m))
      ∙ sym (firsts-same d cell n n (get_or fc.firsts n 0) n (firsts n n_net) n_first (Connected-same d cell (at_root n)))

  long : length (path ++ step ∷ []) ≡ suc (length path)
  long = let e = length-append path (step ∷ []) in omega (arith, e)

  -- a name through a joint
  through_joint : (n : ℕ) (name : NetName) → IsNet d cell (at_root n) → IsFirstInside d cell n n → (j : Joint) → Contains joints j
      → first_in fc (record { port = j.port; bit = j.bit }) ≡ Some n → name_in outside fu.firsts j.net ≡ Some name
      → net_named (path ++ step ∷ []) name ≡ representative d root (at_path (path ++ step ∷ []) n)
  through_joint n name net n_first j has is given =
      let at = here j has in
      let joins : Joins d up (at_root j.net) (on step (record { port = j.port; bit = j.bit })) = subst (λ v. Joins d up (at_root j.net) (on v (record { port = j.port; bit = j.bit }))) at.1 at.0 in
      let m = inside_of j n is has in
      let known = name_known d valid root path up up_at fu told_up outside are_up j.net (Joins-net d up (at_root j.net) _ joins) in
      let same : known.0 ≡ name = same_Some known.0 name (sym known.1 ∙ given) in
      let shallow : name.depth ≤ length path = subst (λ (v : NetName). v.depth ≤ length path) same known.3 in
      let named : net_named path name ≡ representative d root (at_path path j.net) = subst (λ v. net_named path v ≡ representative d root (at_path path j.net)) same known.2 in
      let front : net_named (path ++ step ∷ []) name ≡ net_named path name = ap (λ p. at_path p name.net) (take-front name.depth path (step ∷ []) shallow) in
      let outer = named_by_parent d root (record { parent = path; step = step; cell = cell }) reached valid.no_cycle (λ v. get_or fc.firsts v 0) firsts is_net j.net n net (record {
        joint = record { port = j.port; bit = j.bit };
        inner = m.0;
        outside = Joins-outward_here d root up path j.net (on step (record { port = j.port; bit = j.bit })) up_at joins;
        inside = m.1;
        same = own_first n m.0 n_first net m.2 (is_net m.0 (record { port = j.port; bit = j.bit }) m.1);
      }) in
      front ∙ named ∙ sym outer

  depth_of : (name : NetName) (j : Joint) → Contains joints j → name_in outside fu.firsts j.net ≡ Some name → name.depth ≤ length path
  depth_of name j has given =
      let joins = (here j has).0 in
      let known = name_known d valid root path up up_at fu told_up outside are_up j.net (Joins-net d up (at_root j.net) _ joins) in
      subst (λ (v : NetName). v.depth ≤ length path) (same_Some known.0 name (sym known.1 ∙ given)) known.3

  -- where no joint is of the net, no net outside is handed to it
  untouched : (n : ℕ) → IsNet d cell (at_root n) → IsFirstInside d cell n n
      → ((j : Joint) → Contains joints j → first_in fc (record { port = j.port; bit = j.bit }) ≡ Some n → ⊥)
      → (m : ℕ) → IsNamedThrough d root (record { parent = path; step = step; cell = cell }) (λ v. get_or fc.firsts v 0) m n → ⊥
  untouched n net n_first none m h =
      let joins : Joins d up (at_root m) (on step h.joint) = Joins-inward_here d root up path m (on step h.joint) up_at h.outside in
      let j : Joint = record { inst = step; port = h.joint.port; bit = h.joint.bit; net = m } in
      let has : Contains joints j = whole j joins refl in
      let bit_there = own_there d cell h.inner h.joint valid h.inside in
      let same : get_or fc.firsts h.inner 0 ≡ n = h.same ∙ firsts-same d cell n n (get_or fc.firsts n 0) n (firsts n net) n_first (Connected-same d cell (at_root n)) in
      none j has (go (first_in fc h.joint) (told.inside h.joint bit_there) refl same)
    where
      go : (o : Option ℕ) → IsFirstAt d cell h.joint o → first_in fc h.joint ≡ o → get_or fc.firsts h.inner 0 ≡ n → first_in fc h.joint ≡ Some n
      go None none_at is same = absurd (none_at h.inner h.inside)
      go (Some f) some is same =
          let one : some.0 ≡ h.inner = own_bit-once d valid cell h.joint some.0 h.inner some.1 h.inside in
          let first_f : IsFirstInside d cell h.inner f = subst (λ v. IsFirstInside d cell v f) one some.2 in
          let f_is : f ≡ get_or fc.firsts h.inner 0 = firsts-same d cell h.inner h.inner f (get_or fc.firsts h.inner 0) first_f (firsts h.inner (is_net h.inner h.joint h.inside)) (Connected-same d cell (at_root h.inner)) in
          is ∙ ap Some (f_is ∙ same)

  -- its own name, where no joint is of the net
  itself : (n : ℕ) → IsNet d cell (at_root n) → IsFirstInside d cell n n
      → ((j : Joint) → Contains joints j → first_in fc (record { port = j.port; bit = j.bit }) ≡ Some n → ⊥)
      → net_named (path ++ step ∷ []) (record { depth = suc (length path); net = n }) ≡ representative d root (at_path (path ++ step ∷ []) n)
  itself n net n_first none =
      let whole_path : take (suc (length path)) (path ++ step ∷ []) ≡ path ++ step ∷ [] = take_all (suc (length path)) (path ++ step ∷ []) (omega (arith, long)) in
      let rep = named_by_itself d root (record { parent = path; step = step; cell = cell }) reached valid.no_cycle (λ v. get_or fc.firsts v 0) firsts is_net n net (untouched n net n_first none) in
      let same : get_or fc.firsts n 0 ≡ n = firsts-same d cell n n (get_or fc.firsts n 0) n (firsts n net) n_first (Connected-same d cell (at_root n)) in
      ap (λ p. at_path p n) whole_path ∙ sym (rep ∙ ap (at_path (path ++ step ∷ [])) same)

  handed_at : (n : ℕ) (name : NetName) → slice_get names n ≡ Some name
      → (n < length (nets_at d cell)) × IsHanded (λ j. first_in fc (record { port = j.port; bit = j.bit })) (name_in outside fu.firsts) (suc (length path)) joints n name
  handed_at n name is =
      let less : n < length (nets_at d cell) = omega (arith, slice_get_within names n name is, handed.long) in
      let h = handed.each n less in
      let same : h.0 ≡ name = same_Some h.0 name (sym h.1 ∙ is) in
      (less, subst (λ v. IsHanded (λ j. first_in fc (record { port = j.port; bit = j.bit })) (name_in outside fu.firsts) (suc (length path)) joints n v) same h.2)

  named_at : (n : ℕ) (name : NetName) → IsNet d cell (at_root n) → IsFirstInside d cell n n
      → IsHanded (λ j. first_in fc (record { port = j.port; bit = j.bit })) (name_in outside fu.firsts) (suc (length path)) joints n name
      → net_named (path ++ step ∷ []) name ≡ representative d root (at_path (path ++ step ∷ []) n)
  named_at n name net n_first (by_itself own none) = ap (net_named (path ++ step ∷ [])) own ∙ itself n net n_first none
  named_at n name net n_first (through j has is given) = through_joint n name net n_first j has is given

  shallow_at : (n : ℕ) (name : NetName)
      → IsHanded (λ j. first_in fc (record { port = j.port; bit = j.bit })) (name_in outside fu.firsts) (suc (length path)) joints n name
      → name.depth ≤ length (path ++ step ∷ [])
  shallow_at n name (by_itself own none) = let e = ap (λ (v : NetName). v.depth) own in omega (arith, e, long)
  shallow_at n name (through j has is given) = omega (arith, depth_of name j has given, long)

  pub handed_are_names : AreNames d root (path ++ step ∷ []) cell names
  handed_are_names = record {
    long = handed.long;
    shallow = λ n name is. shallow_at n name (handed_at n name is).1;
    each = λ n name n_first is. let h = handed_at n name is in named_at n name (IsNet-from d cell cell [] n refl h.0) n_first h.1;
  }
