-- A net, from its parts.
use Rattle.std.proofs.Common.{◌≡◌, ◌≢◌, ℕ, ◌<◌, List, [], ◌∷◌, ◌++◌, map, refl, ap, sym, ◌∙◌, subst, inl, inr, Option, None, Some, true}
use Rattle.std.specs.Prelude.{◌^◌, ◌⊎◌, IfSome, slice_get}
use Rattle.std.proofs.lemmas.List.Elements.{All-from_recursion}
use Rattle.std.specs.List.{AllByRecursion, AllZip}
use Rattle.edif_spelling_spec.specs.Tree.{Bare, Placed, bare}
use Rattle.netlist_schema.specs.Typed.{IsTypedName}
use Rattle.netlist_schema.specs.Width.{IsWidth}
use Rattle.edif_spec.specs.Design as design
use Rattle.edif_spec.specs.Keyword.{Many, bus_name, the}
use Rattle.edif_spec.specs.Rows.{has_keyword, Each, IsFormOf}
use Rattle.edif_spec.specs.Faults.{AtOne, Among, arguments, followers, parts}
use Rattle.edif_spec.specs.Means.{MeansBusName}
use Rattle.edif_spec.specs.Nets.{NetForm, Stretch, bit_of, row_size}
use Rattle.edif_spec.specs.Stands.{ends_in, ends_joined, width_kind}
use Rattle.edif_spec.specs.Stands as stands
use Rattle.edif_spec.specs.declared.keyword.Keyword.TheVariants as keywords
use Rattle.edif_spec.specs.declared.fault.MeaningFault.{MeaningFault}
use Rattle.edif_spec.specs.declared.fault.MeaningFault.TheVariants.{At}
use Rattle.edif_spec.proofs.FaultPlaces.{one_later}
use Rattle.edif_spec.proofs.KnownForms.{form_choice}
use Rattle.edif_spec.proofs.NetFaultsApart.{joined_ends}
use Rattle.edif_spec.proofs.FaultsApart.{defined_bus, keyword_of, net_may}
use Rattle.edif_tree.specs.Handles.{all}
use Rattle.edif_grammar.specs.Forms.{ArePartsOf, FitsOwn}
use Rattle.edif_grammar.specs.declared.lent.Form.{Form}
use Rattle.edif_grammar.proofs.FormLemmas.{fit0, followers_fit}
use Rattle.edif_parts.specs.Ports.{ReadBusName}
use Rattle.edif_parts.specs.declared.ports.BusName.{BusName}
use Rattle.edif_parts.proofs.PartLemmas.{Argument, TwoNodes, two_nodes}
use Rattle.edif_contents.specs.Ends.{EndFaultIn, MeansEndIn, ReadEnd, WidthFaultIn}
use Rattle.edif_contents.specs.Nets.{HasEnds, HasParts, IsWideEnd, MeansNetIn, NetFaultIn, PartFault, ReadNet, form_in}
use Rattle.edif_contents.specs.declared.ends.EndAt.{EndAt}
use Rattle.edif_contents.specs.declared.ends.Surroundings.{Surroundings}
use Rattle.edif_contents.specs.declared.nets.NetAt.{NetAt}
use Rattle.edif_contents.proofs.Followers.{are_those, kept}

-- Forms one after another.
pub each_bare : {A : Type 0} (M : Bare → A → Type 0) (ts : List Placed) (xs : List A) → AllZip (λ u x. M (bare u) x) ts xs → Each M (map bare ts) xs
each_bare M [] [] h = tt
each_bare M [] (x ∷ xs) h = absurd h
each_bare M (t ∷ ts) [] h = absurd h
each_bare M (t ∷ ts) (x ∷ xs) h = (h.0, each_bare M ts xs h.1)

pub among_here : (F : Placed → MeaningFault → Type 0) (ts before us rest : List Placed) (t : Placed) (f : MeaningFault) → ts ≡ before ++ us → us ≡ t ∷ rest → F t f → Among F ts f
among_here F ts before us rest t f e g b =
    let P : List Placed → Type 0 = λ v. AtOne (λ u. F u f) v in
    subst P (sym (e ∙ ap (λ v. before ++ v) g)) (one_later (λ u. F u f) before (t ∷ rest) (inl b))

-- What a net joins.
pub refs_follow : (t : Placed) → FitsOwn keywords.Joined t → AllByRecursion (λ u. has_keyword keywords.PortRef (bare u) ≡ true) (followers keywords.Joined t) × (parts keywords.Joined keywords.PortRef t ≡ followers keywords.Joined t)
refs_follow t h =
    let all = followers_fit keywords.Joined [] (Many keywords.PortRef ∷ []) t refl h in
    (are_those keywords.PortRef (followers keywords.Joined t) all, kept keywords.PortRef (followers keywords.Joined t) all)

pub joined_read : (t : Placed) (p : Form) (us : List Placed) → ArePartsOf keywords.Joined t p → us ≡ all p.inner → HasEnds t us
joined_read t p us a n =
    let e : us ≡ followers keywords.Joined t = n ∙ a.inner in
    let r = refs_follow t a.fits in
    let f = fit0 keywords.Joined (Many keywords.PortRef ∷ []) t refl refl refl a.fits in
    let P : List Placed → Type 0 = λ v. IsFormOf keywords.Joined (bare t) [] (map bare v) in
    let Q : List Placed → Type 0 = λ v. AllByRecursion (λ u. has_keyword keywords.PortRef (bare u) ≡ true) v in
    record { form = subst P (sym e) f.form; are = e ∙ sym r.1; refs = subst Q (sym e) r.0 }

-- Ends as wide as their net, and one that is not.
pub wide_end : (s : Surroundings) (array : Option ℕ) (t : Placed) (e : EndAt) (x : Stretch) → ReadEnd s t e → x ≡ e.stretch → x.first < 2 ^ 32 → e.stretch.width ≡ row_size array → IsWideEnd s array t x
wide_end s array t e x h d l w =
    let P : Stretch → Type 0 = λ v. MeansEndIn s (bare t) v in
    record { mean = subst P (sym d) h.mean; wide = ap (λ v. v.width) d ∙ w; within = l }

pub width_fails : (s : Surroundings) (array : Option ℕ) (t : Placed) (e : EndAt) (f : MeaningFault) → ReadEnd s t e → e.stretch.width ≢ row_size array → f ≡ At (width_kind array) e.place → WidthFaultIn s array t f
width_fails s array t e f h n b = record { bits = h.named; there = h.there; stretch = e.stretch; means = h.mean; other = n; fault = b ∙ ap (λ v. At (width_kind array) v) h.place }

-- one bit
pub one_bit : (s : Surroundings) (t : Placed) (x : Stretch) (e : design.End) → e ≡ record { inst = x.inst; port = x.port; bit = x.first } → IsWideEnd s None t x → IsWideEnd s None t (bit_of e)
one_bit s t x e d h =
    let w : x.width ≡ 1 = h.wide in
    let made : design.End = record { inst = x.inst; port = x.port; bit = x.first } in
    let same : x ≡ bit_of made = λ i. (let v : Stretch = record { inst = x.inst; port = x.port; first = x.first; width = w i } in v) in
    let P : Stretch → Type 0 = λ v. IsWideEnd s None t v in
    let Q : design.End → Type 0 = λ v. IsWideEnd s None t (bit_of v) in
    subst Q (sym d) (subst P same h)

pub bits_wide : (s : Surroundings) (us : List Placed) (es : List design.End) → AllZip (λ u e. IsWideEnd s None u (bit_of e)) us es → AllZip (IsWideEnd s None) us (map bit_of es)
bits_wide s [] [] h = tt
bits_wide s [] (e ∷ es) h = absurd h
bits_wide s (u ∷ us) [] h = absurd h
bits_wide s (u ∷ us) (e ∷ es) h = (h.0, bits_wide s us es h.1)

mean_ends : (s : Surroundings) (array : Option ℕ) (us : List Placed) (xs : List Stretch) → AllZip (IsWideEnd s array) us xs → Each (MeansEndIn s) (map bare us) xs
mean_ends s array [] [] h = tt
mean_ends s array [] (x ∷ xs) h = absurd h
mean_ends s array (u ∷ us) [] h = absurd h
mean_ends s array (u ∷ us) (x ∷ xs) h = (h.0.mean, mean_ends s array us xs h.1)

wide_stretches : (s : Surroundings) (array other : Option ℕ) (us : List Placed) (xs : List Stretch) → other ≡ array → AllZip (IsWideEnd s array) us xs → AllByRecursion (λ x. x.width ≡ row_size other) xs
wide_stretches s array other [] [] e h = tt
wide_stretches s array other [] (x ∷ xs) e h = absurd h
wide_stretches s array other (u ∷ us) [] e h = absurd h
wide_stretches s array other (u ∷ us) (x ∷ xs) e h = (h.0.wide ∙ ap row_size (sym e), wide_stretches s array other us xs e h.1)

stretches_within : (s : Surroundings) (array : Option ℕ) (us : List Placed) (xs : List Stretch) → AllZip (IsWideEnd s array) us xs → AllByRecursion (λ x. x.first < 2 ^ 32) xs
stretches_within s array [] [] h = tt
stretches_within s array [] (x ∷ xs) h = absurd h
stretches_within s array (u ∷ us) [] h = absurd h
stretches_within s array (u ∷ us) (x ∷ xs) h = (h.0.within, stretches_within s array us xs h.1)

-- a fault of one of two kinds among forms
among_either : (F G : Placed → MeaningFault → Type 0) (us : List Placed) (f : MeaningFault) → Among (λ u g. F u g ⊎ G u g) us f → Among F us f ⊎ Among G us f
among_either F G [] f h = absurd h
among_either F G (u ∷ us) f (inl (inl h)) = inl (inl h)
among_either F G (u ∷ us) f (inl (inr h)) = inr (inl h)
among_either F G (u ∷ us) f (inr h) = later (among_either F G us f h)
  where
    later : Among F us f ⊎ Among G us f → Among F (u ∷ us) f ⊎ Among G (u ∷ us) f
    later (inl x) = inl (inr x)
    later (inr x) = inr (inr x)

-- A net.
pub net_nodes : (t : Placed) (p : Form) → ArePartsOf keywords.Net t p → TwoNodes keywords.Net bus_name (the keywords.Joined) t p
net_nodes t p a = two_nodes keywords.Net bus_name (the keywords.Joined) (Many keywords.Property ∷ Many keywords.Comment ∷ Many keywords.UserData ∷ []) t p refl refl refl a

-- the ends of a net whose second argument is what it joins
pub net_refs : (t v : Placed) → Argument 1 (the keywords.Joined) t v → ends_in t ≡ parts keywords.Joined keywords.PortRef v
net_refs t v a = ap ends_joined a.at ∙ joined_ends v (form_choice keywords.Joined v a.is)

net_width_fails : (s : Surroundings) (t u v : Placed) (n : BusName) (f : MeaningFault) → slice_get (arguments t) 0 ≡ Some u → ends_in t ≡ parts keywords.Joined keywords.PortRef v → ReadBusName u n → Among (WidthFaultIn s n.array) (parts keywords.Joined keywords.PortRef v) f → NetFaultIn s t f
net_width_fails s t u v n f g e a b =
    let P : List Placed → Type 0 = λ x. Among (WidthFaultIn s n.array) x f in
    stands.net_width (record { name_part = u; name = n.name; array = n.array; there = g; means = a.means; fault = subst P (sym e) b })

-- what is wrong with the ends or the properties of a net
pub net_part_fails : (s : Surroundings) (t u v : Placed) (us : List Placed) (n : BusName) (f : MeaningFault) → slice_get (arguments t) 0 ≡ Some u → Argument 1 (the keywords.Joined) t v → ReadBusName u n → HasEnds v us → PartFault s n.array us (followers keywords.Net t) f → NetFaultIn s t f
net_part_fails s t u v us n f g b a h (inr k) = stands.net_properties k
net_part_fails s t u v us n f g b a h (inl k) = ends (among_either (EndFaultIn s) (WidthFaultIn s n.array) us f k)
  where
    E : List Placed → Type 0
    E w = Among (EndFaultIn s) w f

    W : List Placed → Type 0
    W w = Among (WidthFaultIn s n.array) w f

    ends : Among (EndFaultIn s) us f ⊎ Among (WidthFaultIn s n.array) us f → NetFaultIn s t f
    ends (inl x) = stands.net_joined (v, b.at, form_choice keywords.Joined v b.is, stands.joined_end (subst E h.are x))
    ends (inr x) = net_width_fails s t u v n f g (net_refs t v b) a (subst W h.are x)

pub net_read : (s : Surroundings) (t u v : Placed) (a : BusName) (n : NetAt) → IsFormOf keywords.Net (bare t) (bare u ∷ bare v ∷ []) (map bare (followers keywords.Net t)) → slice_get (arguments t) 0 ≡ Some u → ends_in t ≡ parts keywords.Joined keywords.PortRef v
    → n.place ≡ a.place → ReadBusName u a → HasEnds v (all n.ends) → HasParts s a.name a.array (all n.ends) (followers keywords.Net t) (form_in n.net) → ReadNet s t n
net_read s t u v a n form at refs l m b h =
    let made : NetForm = form_in n.net in
    let us : List Placed = all n.ends in
    let N : design.Name → Type 0 = λ w. MeansBusName (bare u) w a.array in
    let A : Option ℕ → Type 0 = λ w. MeansBusName (bare u) made.name w in
    let T : design.Name → Type 0 = IsTypedName in
    let W : Option ℕ → Type 0 = λ w. IfSome w IsWidth in
    let mean : MeansNetIn s (bare t) made = record {
      name_part = bare u;
      joined_part = bare v;
      refs = map bare us;
      inner = map bare (followers keywords.Net t);
      form = form;
      joined = b.form;
      name = subst A (sym h.array) (subst N (sym h.name) m.means);
      ends = mean_ends s a.array us made.joined h.ends;
      wide = wide_stretches s a.array made.array us made.joined h.array h.ends;
      properties = h.properties.0;
    } in
    let id : a.name.id ≡ made.name.id = ap (λ (w : design.Name). w.id) (sym h.name) in
    record {
      mean = mean;
      fine = record { name = subst T (sym h.name) m.typed; array = subst W (sym h.array) m.width; properties = h.properties.1; keys = h.properties.2 };
      within = All-from_recursion (λ x. x.first < 2 ^ 32) made.joined (stretches_within s a.array us made.joined h.ends);
      named = defined_bus t u _ (net_may t (keyword_of keywords.Net (bare t) (bare u ∷ bare v ∷ []) (map bare (followers keywords.Net t)) form)) at m.at ∙ (ap (λ w. Some (w, a.place)) id ∙ ap (λ w. Some (made.name.id, w)) (sym l));
      nodes = b.are ∙ sym refs;
    }
