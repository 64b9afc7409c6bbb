-- What a port means, with its name and its direction.
use Rattle.std.proofs.Common.{◌≡◌, ◌≤◌, ◌<◌, ◌^◌, ℕ, ℤ, pos, negsuc, nat_abs, List, [], ◌∷◌, map, length, refl, sym, ap, ◌∙◌, subst, inl, inr, Bool, true, false, Option, None, Some, arith}
use Rattle.std.specs.Prelude.{IfSome, IfNone, IsSome, slice_get, ◌||◌}
use Rattle.std.specs.Int.{FitsUnsignedBits}
use Rattle.edif_spelling_spec.specs.Tree.{Bare, Placed, Word', Integer', integer, bare}
use Rattle.netlist_schema.specs.Typed.{IsTypedName}
use Rattle.netlist_schema.specs.Types.{Direction, Name, Port}
use Rattle.netlist_schema.specs.Width.{IsWidth}
use Rattle.edif_spec.specs.Canonical.{direction_word}
use Rattle.edif_spec.specs.Keyword.{same, identifier, Follower, Many, One, name_definition}
use Rattle.edif_spec.specs.Keyword as table
use Rattle.edif_spec.specs.Means.{MeansName, MeansBusName, MeansDirection, MeansText, MeansProperties, MeansPort}
use Rattle.edif_spec.specs.Rows.{Perhaps, those, has_keyword, is_choice, is_one_of, IsFormOf}
use Rattle.edif_spec.specs.Faults.{InPart, arguments, name_of, is_size, followers, those_of}
use Rattle.edif_spec.specs.Stands.{is_direction, DirectionFault, SizeFault}
use Rattle.edif_spec.specs.Stands as stands
use Rattle.edif_spec.specs.declared.fault.Kind.TheVariants.{BadForm, BadIndex}
use Rattle.edif_spec.specs.declared.fault.MeaningFault.TheVariants.{At}
use Rattle.edif_spec.specs.declared.keyword.Keyword.TheVariants as keywords
use Rattle.edif_spec.proofs.FaultsApart.{plain_gives, width_is_size}
use Rattle.edif_spec.proofs.KnownRows.{follow_none}
use Rattle.edif_grammar.specs.Forms.{ArePartsOf}
use Rattle.edif_parts.specs.Ports.{ReadBusName, bus_name}
use Rattle.edif_grammar.specs.declared.lent.Form.{Form}
use Rattle.edif_grammar.proofs.FormLemmas.{once_fits}
use Rattle.edif_parts.proofs.NameForms.{array_names}
use Rattle.edif_parts.proofs.PartLemmas.{OneNode, TwoNodes, one_node, two_nodes}

-- directions
pub direction_node : (t : Placed) (p : Form) → ArePartsOf keywords.Direction t p → OneNode keywords.Direction identifier t p
direction_node t p a = one_node keywords.Direction identifier [] t p refl refl refl a

pub direction_means : (t u : Placed) (q : ℕ) (w : List ℕ) (d : Direction) → IsFormOf keywords.Direction (bare t) (bare u ∷ []) (map bare (followers keywords.Direction t)) → u ≡ Word' q w → same w (direction_word d) ≡ true → MeansDirection (bare t) d
direction_means t u q w d f e h =
    let P : Placed → Type 0 = λ v. IsFormOf keywords.Direction (bare t) (bare v ∷ []) [] in
    (w, subst P e (follow_none keywords.Direction (identifier ∷ []) (bare t) (bare u ∷ []) (map bare (followers keywords.Direction t)) refl f), h)

pub direction_fault : (t u : Placed) (q : ℕ) (w : List ℕ) → slice_get (arguments t) 0 ≡ Some u → u ≡ Word' q w → is_direction w ≡ false → DirectionFault t (At BadForm q)
direction_fault t u q w a e h = stands.other_direction (u, a, (w, q, e, h, refl))

pub no_direction : (w : List ℕ) (a b d : Bool) → a ≡ false → b ≡ false → d ≡ false → (a || (b || d)) ≡ false
no_direction w a b d x y z = rw (x, y, z) refl

-- arrays
pub array_nodes : (t : Placed) (p : Form) → ArePartsOf keywords.Array t p → TwoNodes keywords.Array name_definition table.integer t p
array_nodes t p a = two_nodes keywords.Array name_definition table.integer [] t p refl refl refl a

pub array_means : (t u v : Placed) (x : Name) (q : ℕ) (z : ℤ) (width place : ℕ) → has_keyword keywords.Array (bare t) ≡ true → IsFormOf keywords.Array (bare t) (bare u ∷ bare v ∷ []) (map bare (followers keywords.Array t)) → slice_get (arguments t) 0 ≡ Some u
    → MeansName (bare u) x → IsTypedName x → name_of u ≡ Some (x.id, place) → v ≡ Integer' q z → z ≡ pos width → IsWidth width → ReadBusName t (record { name = x; array = Some width; place = place })
array_means t u v x q z width place k g a m y d e s w =
    let P : Placed → Type 0 = λ x. IsFormOf keywords.Array (bare t) (bare u ∷ bare x ∷ []) [] in
    let Q : ℤ → Type 0 = λ x. IsFormOf keywords.Array (bare t) (bare u ∷ integer x ∷ []) [] in
    let f : P v = follow_none keywords.Array (name_definition ∷ table.integer ∷ []) (bare t) (bare u ∷ bare v ∷ []) (map bare (followers keywords.Array t)) refl g in
    record { means = (bare u, subst Q s (subst P e f), m, w); typed = y; width = w; at = array_names t u z (x.id, place) (ap is_size s ∙ width_is_size width w) k (subst P e f) a d }

pub size_fault : (t v : Placed) (q : ℕ) (z : ℤ) → slice_get (arguments t) 1 ≡ Some v → v ≡ Integer' q z → ((w : ℕ) → z ≡ pos w → IsWidth w → ⊥) → InPart 1 SizeFault t (At BadIndex q)
size_fault t v q z a e h = (v, a, (z, q, e, h, refl))

-- the width of so many bits
pub too_wide : (z : ℤ) (n : ℕ) → (FitsUnsignedBits 32 z → ⊥) → z ≡ pos n → IsWidth n → ⊥
too_wide z n h e w =
    let P : ℤ → Type 0 = λ v. FitsUnsignedBits 32 v → ⊥ in
    let l : n ≤ 65536 = w.1 in
    let m : n < 2 ^ 32 = omega (arith, l) in subst P e h m

pub fitting : (z : ℤ) (b : ℕ) → FitsUnsignedBits 32 z → b ≡ nat_abs z → z ≡ pos b
fitting (pos n) b f e = ap pos (sym e)
fitting (negsuc n) b f e = absurd f

pub width_none : (o : Option ℕ) (b : ℕ) (z : ℤ) → (IsWidth b → IsSome o) → z ≡ pos b → IfNone o ((n : ℕ) → z ≡ pos n → IsWidth n → ⊥)
width_none (Some w) b z s e = tt
width_none None b z s e = λ n d w. let q : n ≡ b = (let both = sym d ∙ e in cc both) in let P : ℕ → Type 0 = IsWidth in absurd (cc (s (subst P q w)))

pub width_some : (o : Option ℕ) (b : ℕ) (z : ℤ) → (IsSome o → IsWidth b) → IfSome o (λ w. w ≡ b) → z ≡ pos b → IfSome o (λ w. (z ≡ pos w) × IsWidth w)
width_some None b z s v e = tt
width_some (Some w) b z s v e = let P : ℕ → Type 0 = λ n. (z ≡ pos n) × IsWidth n in subst P (sym v) (e, s refl)

-- a name that is no array
pub plain_choice : (t : Bare) → is_one_of bus_name t ≡ true → has_keyword keywords.Array t ≡ false → is_one_of name_definition t ≡ true
plain_choice t h n = go (is_choice table.AnIdentifier t) (has_keyword keywords.Rename t) (has_keyword keywords.Array t) h n
  where
    go : (a b d : Bool) → (a || (b || (d || false))) ≡ true → d ≡ false → (a || (b || false)) ≡ true
    go true b d h n = refl
    go false true d h n = refl
    go false false true h n = absurd (cc n)
    go false false false h n = h

pub plain_means : (t : Placed) (x : Name) (place : ℕ) → MeansName (bare t) x → IsTypedName x → name_of t ≡ Some (x.id, place) → ReadBusName t (record { name = x; array = None; place = place })
plain_means t x place m y d = record { means = m; typed = y; width = tt; at = plain_gives t (x.id, place) d }

-- ports
abbrev pub port_followers : List Follower
port_followers = One keywords.Direction ∷ One keywords.Designator ∷ Many keywords.Property ∷ Many keywords.Comment ∷ Many keywords.UserData ∷ []

pub port_node : (t : Placed) (p : Form) → ArePartsOf keywords.Port t p → OneNode keywords.Port bus_name t p
port_node t p a = one_node keywords.Port bus_name port_followers t p refl refl refl a

pub one_direction : (t : Placed) (p : Form) → ArePartsOf keywords.Port t p → length (those_of keywords.Direction (followers keywords.Port t)) ≤ 1
one_direction t p a = once_fits keywords.Port keywords.Direction (bus_name ∷ []) port_followers t refl (inl refl) refl a.fits

pub one_designator : (t : Placed) (p : Form) → ArePartsOf keywords.Port t p → length (those_of keywords.Designator (followers keywords.Port t)) ≤ 1
one_designator t p a = once_fits keywords.Port keywords.Designator (bus_name ∷ []) port_followers t refl (inr (inl refl)) refl a.fits

pub port_means : (t u : Placed) (x : Port) → IsFormOf keywords.Port (bare t) (bare u ∷ []) (map bare (followers keywords.Port t)) → MeansBusName (bare u) x.name x.array → Perhaps MeansDirection (those keywords.Direction (map bare (followers keywords.Port t))) x.direction
    → Perhaps (MeansText keywords.Designator) (those keywords.Designator (map bare (followers keywords.Port t))) x.designator → MeansProperties (map bare (followers keywords.Port t)) x.properties → MeansPort (bare t) x
port_means t u x f m d g ps = record { name_part = bare u; inner = map bare (followers keywords.Port t); form = f; name = m; direction = d; designator = g; properties = ps }
