-- The nets below an instance that have a first net above it.
use Rattle.std.proofs.Common.{◌≡◌, ◌⊎◌, ℕ, zero, suc, List, [], ◌∷◌, ◌++◌, length, Bool, true, false, ◌&&◌, refl, sym, ap, subst, ◌∙◌, inl, inr, arith, Some, None, Option, slice_get, append_assoc, append-nil}
use Rattle.std.specs.Prelude.{nat_eq}
use Rattle.std.specs.List.{Contains}
use Rattle.std.specs.Option.{option_eq}
use Rattle.std.proofs.lemmas.Bool.{and_from, and_parts, eq-eqb, eqb-true, false≢true}
use Rattle.std.proofs.lemmas.List.{length-append}
use Rattle.netlist_schema.specs.Design.{Design}
use Rattle.netlist_schema.specs.Types.{CellId}
use Rattle.flat_spec.specs.HandedDown.{IsFirstInside}
use Rattle.flat_spec.specs.Paths.{IsNet, Reaches, at_path, at_root}
use Rattle.flat_spec.specs.Representatives.{representative}
use Rattle.flat_spec.specs.Types.{NetAt}
use Rattle.flat_spec.proofs.ListLemmas.{Contains-member, Member, Member-contains, last_cases}
use Rattle.flat_spec.proofs.PathLemmas.{Reaches-front}
use Rattle.net_classes.specs.Facts.{Facts, first_at}
use Rattle.net_classes.specs.declared.joints.Joint.{Joint}
use Rattle.flat_items.specs.declared.notes.PlacedNotes.{PlacedNotes}
use Rattle.flat_items.specs.Stand.{IsGround, top_of}
use Rattle.net_ways.specs.Ways.{firsts_in, joints_in}
use Rattle.net_ways.proofs.ClimbLemmas.{IsOuterNet, LeadsInto, at_top, first_of_net, none_outer, outer_is}

-- a test is passed by one of the elements, or by none
searched : {A : Type 0} (test : A → Bool) (xs : List A) → ((v : A) × Member xs v × (test v ≡ true)) ⊎ ((v : A) → Member xs v → test v ≡ true → ⊥)
searched test [] = inr (λ v m e. m)
searched {A = A} test (x ∷ xs) = go (test x) refl (searched test xs)
  where
    go : (b : Bool) → test x ≡ b → ((v : A) × Member xs v × (test v ≡ true)) ⊎ ((v : A) → Member xs v → test v ≡ true → ⊥)
        → ((v : A) × Member (x ∷ xs) v × (test v ≡ true)) ⊎ ((v : A) → Member (x ∷ xs) v → test v ≡ true → ⊥)
    go true e later = inl (x, inl refl, e)
    go false e (inl found) = inl (found.0, inr found.1, found.2)
    go false e (inr none) = inr (λ v m t. elim m [ inl same ↦ false≢true (sym e ∙ ap test same ∙ t) | inr rest ↦ none v rest t ])

same_option : (o : Option ℕ) (f : ℕ) → option_eq nat_eq o (Some f) ≡ true → o ≡ Some f
same_option None f e = absurd (false≢true e)
same_option (Some g) f e = ap Some (eqb-true g f e)

option_same : (o : Option ℕ) (f : ℕ) → o ≡ Some f → option_eq nat_eq o (Some f) ≡ true
option_same o f is = ap (λ v. option_eq nat_eq v (Some f)) is ∙ eq-eqb f f refl

-- there is a net outside that leads to a first net inside, or none
pub outer_exists : (facts : Facts) (up : CellId) (step : ℕ) (cell : CellId) (first : ℕ) → (o : Option ℕ) × IsOuterNet facts up step cell first o
outer_exists facts up step cell first = go (searched test (joints_in facts up))
  where
    test : Joint → Bool
    test j = nat_eq j.inst step && option_eq nat_eq (first_at facts cell (record { port = j.port; bit = j.bit })) (Some first)

    go : ((j : Joint) × Member (joints_in facts up) j × (test j ≡ true)) ⊎ ((j : Joint) → Member (joints_in facts up) j → test j ≡ true → ⊥)
        → (o : Option ℕ) × IsOuterNet facts up step cell first o
    go (inl found) =
        let j = found.0 in
        let parts = and_parts (nat_eq j.inst step) (option_eq nat_eq (first_at facts cell (record { port = j.port; bit = j.bit })) (Some first)) found.2 in
        (Some j.net, (j, Member-contains (joints_in facts up) j found.1, eqb-true j.inst step parts.0, same_option _ first parts.1, refl))
    go (inr none) = (
      None,
      λ j has on_it leads. none j (Contains-member (joints_in facts up) j has) (and_from _ _ (eq-eqb j.inst step on_it) (option_same _ first leads)),
    )

module _ (d : Design) (facts : Facts) (notes : PlacedNotes) (ground : IsGround d facts notes) (x : NetAt) (path : List ℕ) (behind : (rest : List ℕ) × (path ≡ x.path ++ rest)) where
  abbrev root : CellId
  root = (top_of d).cell

  -- what stands below the path is not the net's own occurrence
  pub below_apart : (step : ℕ) (rest : List ℕ) (n : ℕ) → at_path (path ++ step ∷ rest) n ≡ x → ⊥
  below_apart step rest n same =
      let whole = ap (λ (v : NetAt). length v.path) same in
      let one = length-append path (step ∷ rest) in
      let two = ap length behind.1 ∙ length-append x.path behind.0 in
      omega (arith, whole, one, two)

  -- a net below that has the first net is handed down from one above that has it
  module _ (up cell : CellId) (step : ℕ) (above : List ℕ) (up_at : Reaches d root above up) (at : Reaches d root (above ++ step ∷ []) cell)
      (deep : (n : ℕ) → at_path (above ++ step ∷ []) n ≡ x → ⊥) where
    pub from_above : (n : ℕ) → IsNet d cell (at_root n) → representative d root (at_path (above ++ step ∷ []) n) ≡ x
        → (first : ℕ) × (slice_get (firsts_in facts cell) n ≡ Some first)
        × ((j : Joint) × Contains (joints_in facts up) j × (j.inst ≡ step) × LeadsInto facts cell first j × (representative d root (at_path above j.net) ≡ x))
    from_above n net is =
        let first = first_of_net d facts notes ground (above ++ step ∷ []) cell at n net in
        let found = outer_exists facts up step cell first.0 in
        (first.0, first.1, go first.0 first.2 found.0 found.1)
      where
        go : (first : ℕ) → IsFirstInside d cell n first → (o : Option ℕ) → IsOuterNet facts up step cell first o
            → (j : Joint) × Contains (joints_in facts up) j × (j.inst ≡ step) × LeadsInto facts cell first j × (representative d root (at_path above j.net) ≡ x)
        go first f None none = absurd (deep first (sym (none_outer d facts notes ground above up cell step up_at at n first net f none) ∙ is))
        go first f (Some m) some =
            let outer = outer_is d facts notes ground above up cell step up_at at n first m f some in
            (some.0, some.1, some.2, some.3, ap (λ v. representative d root (at_path above v)) some.4 ∙ sym outer.1 ∙ is)

    -- and the other way round
    pub to_below : (n first : ℕ) (j : Joint) → IsFirstInside d cell n first → Contains (joints_in facts up) j → j.inst ≡ step → LeadsInto facts cell first j
        → representative d root (at_path above j.net) ≡ x → representative d root (at_path (above ++ step ∷ []) n) ≡ x
    to_below n first j f has on_it leads is =
        (outer_is d facts notes ground above up cell step up_at at n first j.net f (j, has, on_it, leads, refl)).1 ∙ is

-- the path of a representative is a front of the net's own
module _ (d : Design) (facts : Facts) (notes : PlacedNotes) (ground : IsGround d facts notes) where
  abbrev top : CellId
  top = (top_of d).cell

  empty_of : (p : List ℕ) → length p ≡ 0 → p ≡ []
  empty_of [] e = refl
  empty_of (i ∷ p) e = absurd (omega (arith, e))

  pub rep_front : (p : List ℕ) (c : CellId) (n : ℕ) → Reaches d top p c → IsNet d c (at_root n) → (rest : List ℕ) × (p ≡ (representative d top (at_path p n)).path ++ rest)
  rep_front p c n at net = go (length p) p c n refl at net
    where
      go : (k : ℕ) (p : List ℕ) (c : CellId) (n : ℕ) → length p ≡ k → Reaches d top p c → IsNet d c (at_root n) → (rest : List ℕ) × (p ≡ (representative d top (at_path p n)).path ++ rest)
      go zero p c n long at net =
          let empty = empty_of p long in
          let at_it = subst (λ v. Reaches d top v c) empty at in
          let first = first_of_net d facts notes ground [] c at_it n net in
          let rep = at_top d facts notes ground n first.0 c at_it net first.2 in
          ([], empty ∙ sym (ap (λ v. (representative d top (at_path v n)).path ++ []) empty ∙ ap (λ (v : NetAt). v.path ++ []) rep))
      go (suc k) p c n long at net = elim (last_cases p) [
        | inl empty ↦ absurd (omega (arith, long, ap length empty))
        | inr e ↦
            let at_it : Reaches d top (e.0 ++ e.1 ∷ []) c = subst (λ v. Reaches d top v c) e.2 at in
            let up = Reaches-front d top c e.0 (e.1 ∷ []) at_it in
            let first = first_of_net d facts notes ground (e.0 ++ e.1 ∷ []) c at_it n net in
            let short : length e.0 ≡ k = omega (arith, long, ap length e.2 ∙ length-append e.0 (e.1 ∷ [])) in
            let found = outer_exists facts up.0 e.1 c first.0 in
            let whole = climbs up.0 e.0 e.1 c n first.0 up.1 at_it net first.2 found.0 found.1 (λ m mnet. go k e.0 up.0 m short up.1 mnet) in
            (whole.0, e.2 ∙ whole.1 ∙ ap (λ v. (representative d top (at_path v n)).path ++ whole.0) (sym e.2))
      ]
        where
          climbs : (u : CellId) (init : List ℕ) (step : ℕ) (c : CellId) (n first : ℕ) → Reaches d top init u → Reaches d top (init ++ step ∷ []) c → IsNet d c (at_root n) → IsFirstInside d c n first
              → (o : Option ℕ) → IsOuterNet facts u step c first o
              → ((m : ℕ) → IsNet d u (at_root m) → (rest : List ℕ) × (init ≡ (representative d top (at_path init m)).path ++ rest))
              → (rest : List ℕ) × (init ++ step ∷ [] ≡ (representative d top (at_path (init ++ step ∷ []) n)).path ++ rest)
          climbs u init step c n first u_at at net f None none up =
              let rep = none_outer d facts notes ground init u c step u_at at n first net f none in
              ([], sym (ap (λ (v : NetAt). v.path ++ []) rep ∙ append-nil (init ++ step ∷ [])))
          climbs u init step c n first u_at at net f (Some m) some up =
              let on = outer_is d facts notes ground init u c step u_at at n first m f some in
              let more = up m on.0 in (
                more.0 ++ step ∷ [],
                ap (λ v. v ++ step ∷ []) more.1
                    ∙ append_assoc (representative d top (at_path init m)).path more.0 (step ∷ [])
                    ∙ ap (λ (v : NetAt). v.path ++ (more.0 ++ step ∷ [])) (sym on.1),
              )
