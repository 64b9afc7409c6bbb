-- An end, from its parts: its instance and its bit.
use Rattle.std.proofs.Common.{◌≡◌, ℕ, ◌<◌, ◌≤◌, ℤ, pos, List, [], ◌∷◌, map, length, refl, ap, sym, ◌∙◌, subst, inl, inr, Option, Some, true}
use Rattle.std.specs.Prelude.{slice_get}
use Rattle.edif_spelling_spec.specs.Tree.{Bare, Placed, Word', Integer', word, integer, bare}
use Rattle.edif_spec.specs.Keyword.{identifier, Choice, AnIdentifier, AForm}
use Rattle.edif_spec.specs.Keyword as keyword
use Rattle.std.specs.List.{AllByRecursion}
use Rattle.edif_spec.specs.Rows.{has_keyword, IsFormOf, Perhaps}
use Rattle.edif_spec.specs.Faults.{arguments, followers, parts, Among}
use Rattle.edif_spec.specs.Canonical.{ports_of_end}
use Rattle.edif_spec.specs.Means.{meant, Found, MeansBits, MeansEnd, MeansInstRef, width_at}
use Rattle.edif_spec.specs.Stands.{BitFault, Dangles, EndFault, InstRefFault}
use Rattle.edif_spec.specs.Stands as stands
use Rattle.edif_spec.specs.Design as design
use Rattle.edif_spec.specs.Nets.{Stretch}
use Rattle.edif_spec.specs.declared.keyword.Keyword.TheVariants as keywords
use Rattle.edif_spec.specs.declared.fault.Kind.TheVariants.{BadIndex}
use Rattle.edif_spec.specs.declared.fault.MeaningFault.{MeaningFault}
use Rattle.edif_spec.specs.declared.fault.MeaningFault.TheVariants.{At}
use Rattle.edif_spec.proofs.KnownCells.{parts_bare}
use Rattle.edif_spec.proofs.KnownRows.{follow_none}
use Rattle.edif_grammar.specs.Forms.{ArePartsOf, FitsOwn}
use Rattle.edif_grammar.specs.declared.lent.Form.{Form}
use Rattle.edif_parts.proofs.PartLemmas.{OneNode, TwoNodes, one_node, two_nodes}
use Rattle.edif_contents.proofs.Followers.{one_alone}
use Rattle.edif_contents.proofs.RefLemmas.{one_follows}

-- a reference that means a port, and so all its bits
pub whole_means : (ports : List design.Port) (t : Placed) (w : List ℕ) (p i width : ℕ) → t ≡ Word' p w → meant (design.port_ids ports) w ≡ Found i → width ≡ width_at ports i → MeansBits ports (bare t) i 0 width
whole_means ports t w p i width e m q = inl (w, ap bare e, m, refl, q)

pub word_dangles : (ports : List design.Port) (t : Placed) (w : List ℕ) (p : ℕ) (f : MeaningFault) → t ≡ Word' p w → Dangles (design.port_ids ports) (Word' p w) f → BitFault ports t f
word_dangles ports t w p f e d = let P : Placed → Type 0 = λ v. BitFault ports v f in subst P (sym e) (stands.bit_port d)

-- a member
pub member_dangles : (ports : List design.Port) (t a : Placed) (w : List ℕ) (p : ℕ) (f : MeaningFault) → has_keyword keywords.Member (bare t) ≡ true → slice_get (arguments t) 0 ≡ Some a → a ≡ Word' p w → Dangles (design.port_ids ports) (Word' p w) f → BitFault ports t f
member_dangles ports t a w p f k g e d = stands.member_port k (Word' p w, g ∙ ap Some e, d)

pub member_nodes : (t : Placed) (p : Form) → ArePartsOf keywords.Member t p → TwoNodes keywords.Member identifier keyword.integer t p
member_nodes t p a = two_nodes keywords.Member identifier keyword.integer [] t p refl refl refl a

pub member_means : (ports : List design.Port) (t u v : Placed) (w : List ℕ) (p q port bit width : ℕ) (z : ℤ) → IsFormOf keywords.Member (bare t) (bare u ∷ bare v ∷ []) (map bare (followers keywords.Member t)) → u ≡ Word' p w → v ≡ Integer' q z → meant (design.port_ids ports) w ≡ Found port
    → width ≡ width_at ports port → (z ≡ pos bit) × (bit < width) → MeansBits ports (bare t) port bit 1
member_means ports t u v w p q port bit width z form e g m l h =
    let f : IsFormOf keywords.Member (bare t) (bare u ∷ bare v ∷ []) [] = follow_none keywords.Member (identifier ∷ keyword.integer ∷ []) (bare t) (bare u ∷ bare v ∷ []) (map bare (followers keywords.Member t)) refl form in
    let P : Placed → Placed → Type 0 = λ x y. IsFormOf keywords.Member (bare t) (bare x ∷ bare y ∷ []) [] in
    let i : P (Word' p w) (Integer' q z) = subst (λ y. P (Word' p w) y) g (subst (λ x. P x v) e f) in
    let Q : ℤ → Type 0 = λ v. IsFormOf keywords.Member (bare t) (word w ∷ integer v ∷ []) [] in
    let R : ℕ → Type 0 = λ v. bit < v in
    inr (w, subst Q h.0 i, m, subst R l h.1, refl)

pub index_fails : (ports : List design.Port) (t u v : Placed) (w : List ℕ) (p place port width : ℕ) (z : ℤ) → has_keyword keywords.Member (bare t) ≡ true → slice_get (arguments t) 0 ≡ Some u → slice_get (arguments t) 1 ≡ Some v → u ≡ Word' p w → v ≡ Integer' place z → meant (design.port_ids ports) w ≡ Found port
    → width ≡ width_at ports port → ((n : ℕ) → z ≡ pos n → n < width → ⊥) → BitFault ports t (At BadIndex place)
index_fails ports t u v w p place port width z k a b e g m q n =
    let R : ℕ → Type 0 = λ v. (n : ℕ) → z ≡ pos n → n < v → ⊥ in
    stands.member_index k (record { spelled = w; named = p; port = port; index = z; place = place; name_there = a ∙ ap Some e; means = m; index_there = b ∙ ap Some g; beyond = subst R q n; fault = refl })

-- what names a bit, in its place
abbrev pub bit_choice : List Choice
bit_choice = AnIdentifier ∷ AForm keywords.Member ∷ []

-- a list of one reference
pub inst_one : (insts : List design.Inst) (ts us : List Placed) (t : Placed) (i : ℕ) → ts ≡ t ∷ us → length ts ≤ 1 → MeansInstRef insts (bare t) i → Perhaps (MeansInstRef insts) (map bare ts) (Some i)
inst_one insts ts us t i e l m = subst (λ v. Perhaps (MeansInstRef insts) (map bare v) (Some i)) (sym (one_alone ts us t e l)) m

-- an end
pub end_node : (t : Placed) (p : Form) → ArePartsOf keywords.PortRef t p → OneNode keywords.PortRef bit_choice t p
end_node t p a = one_node keywords.PortRef bit_choice (keyword.One keywords.InstanceRef ∷ []) t p refl refl refl a

-- what follows its bit: an instance at most
pub inst_follows : (t : Placed) → FitsOwn keywords.PortRef t
    → AllByRecursion (λ u. has_keyword keywords.InstanceRef (bare u) ≡ true) (followers keywords.PortRef t) × (length (followers keywords.PortRef t) ≤ 1) × (parts keywords.PortRef keywords.InstanceRef t ≡ followers keywords.PortRef t)
inst_follows t h = one_follows keywords.PortRef keywords.InstanceRef (bit_choice ∷ []) t refl refl h

pub end_means : (libs : List design.Lib) (ports : List design.Port) (insts : List design.Inst) (t u : Placed) (e : Stretch) → IsFormOf keywords.PortRef (bare t) (bare u ∷ []) (map bare (followers keywords.PortRef t)) → parts keywords.PortRef keywords.InstanceRef t ≡ followers keywords.PortRef t
    → Perhaps (MeansInstRef insts) (map bare (followers keywords.PortRef t)) e.inst → MeansBits (ports_of_end libs ports insts e.inst) (bare u) e.port e.first e.width → MeansEnd libs ports insts (bare t) e
end_means libs ports insts t u e f k i b =
    let Q : List Bare → Type 0 = λ v. Perhaps (MeansInstRef insts) v e.inst in
    record { bits_part = bare u; inner = map bare (followers keywords.PortRef t); form = f; inst = subst Q (ap (map bare) (sym k) ∙ parts_bare keywords.PortRef keywords.InstanceRef t) i; bits = b }

pub end_inst_fails : (libs : List design.Lib) (ports : List design.Port) (insts : List design.Inst) (t : Placed) (f : MeaningFault) → parts keywords.PortRef keywords.InstanceRef t ≡ followers keywords.PortRef t → Among (InstRefFault insts) (followers keywords.PortRef t) f → EndFault libs ports insts t f
end_inst_fails libs ports insts t f k b = let P : List Placed → Type 0 = λ v. Among (InstRefFault insts) v f in stands.end_inst (subst P (sym k) b)

pub end_bit_fails : (libs : List design.Lib) (ports : List design.Port) (insts : List design.Inst) (t u : Placed) (o : Option ℕ) (f : MeaningFault) → slice_get (arguments t) 0 ≡ Some u → parts keywords.PortRef keywords.InstanceRef t ≡ followers keywords.PortRef t
    → Perhaps (MeansInstRef insts) (map bare (followers keywords.PortRef t)) o → BitFault (ports_of_end libs ports insts o) u f → EndFault libs ports insts t f
end_bit_fails libs ports insts t u o f a k i b =
    let Q : List Placed → Type 0 = λ v. Perhaps (MeansInstRef insts) (map bare v) o in
    stands.end_bit o (subst Q (sym k) i) (u, a, b)
