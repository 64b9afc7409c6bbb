-- One copy more: in the own cell of the occurrence above it one instance more is turned, and all else stays.
use Rattle.std.proofs.Common.{◌≡◌, ◌≢◌, ◌<◌, ◌+◌, ℕ, zero, suc, Bool, true, false, cond, List, [], ◌∷◌, ◌++◌, map, Option, Some, None, refl, sym, ap, subst, ◌∙◌, arith}
use Rattle.std.specs.Prelude.{◌||◌, find}
use Rattle.std.specs.List.{enumerate_from}
use Rattle.std.specs.Option.{option_map, option_map_or, option_or}
use Rattle.std.proofs.lemmas.Bool.{cond-true, cond-false, false_from_ne_true, or_right}
use Rattle.std.proofs.lemmas.List.Folds.{list_any-append}
use Rattle.std.proofs.lemmas.List.{same_from_push}
use Rattle.netlist_schema.specs.Design.{Design}
use Rattle.netlist_schema.specs.Types.{Contents, Inst}
use Rattle.edit_rules_spec.specs.Edit.{changed_at}
use Rattle.edit_rules_spec.specs.Seen.{contents_at}
use Rattle.flat_spec.specs.ConnectionTest.{above}
use Rattle.flat_spec.proofs.TestLemmas.{above-append}
use Rattle.uniquify_spec.specs.Copies.{Copy, is_copy_at, same_path}
use Rattle.uniquify_spec.specs.Split.{is_turned, turned, turned_inst}
use Rattle.uniquify_spec.proofs.CopyLists.{same_path-refl, same_path-true}
use Rattle.uniquify_spec.proofs.KeptCells.{turned_same}
use Rattle.uniquify_copies.specs.Changes.{turned_at, turned_to}
use Rattle.uniquify_copies.specs.Seats.{Seat}

paths_apart : (p q : List ℕ) → p ≢ q → same_path p q ≡ false
paths_apart p q apart = false_from_ne_true (same_path p q) (λ same. apart (same_path-true p q same))

find-skip : {A : Type 0} (test : A → Bool) (xs : List A) (x : A) → test x ≡ false → find test (xs ++ x ∷ []) ≡ find test xs
find-skip test [] x fails = cond-false _ _ _ fails
find-skip {A} test (y ∷ ys) x fails = ap (λ o. cond (test y) (Some y) o) (find-skip test ys x fails)

find-last : {A : Type 0} (test : A → Bool) (xs : List A) (x : A) → find test xs ≡ None → test x ≡ true → find test (xs ++ x ∷ []) ≡ Some x
find-last test [] x none passes = cond-true _ _ _ passes
find-last {A} test (y ∷ ys) x none passes = by (test y) none (λ rest. find-last test ys x rest passes)
  where
    by : (b : Bool) → cond b (Some y) (find test ys) ≡ None → (find test ys ≡ None → find test (ys ++ x ∷ []) ≡ Some x) → cond b (Some y) (find test (ys ++ x ∷ [])) ≡ Some x
    by true never rest = cc
    by false here rest = rest here

module _ (all : List Copy) (copy : Copy) (path : List ℕ) where
  one_other : (k : ℕ) (inst : Inst) → copy.path ≢ path ++ k ∷ [] → turned_inst (all ++ copy ∷ []) path (k, inst) ≡ turned_inst all path (k, inst)
  one_other k inst apart =
      ap (λ (o : Option Copy). let i : Inst = record inst { of = option_map_or (λ (c : Copy). c.id) o inst.of } in i)
      (find-skip (is_copy_at (path ++ k ∷ [])) all copy (paths_apart copy.path (path ++ k ∷ []) apart))

  pub others : (k : ℕ) (insts : List Inst) → ((j : ℕ) → k < suc j → copy.path ≢ path ++ j ∷ []) → map (turned_inst (all ++ copy ∷ []) path) (enumerate_from k insts) ≡ map (turned_inst all path) (enumerate_from k insts)
  others k [] apart = refl
  others k (inst ∷ insts) apart =
      let here = one_other k inst (apart k (omega arith)) in
      let rest = others (k + 1) insts (λ j less. apart j (omega (arith, less))) in
      λ i. here i ∷ rest i

  module _ (i : ℕ) (is : copy.path ≡ path ++ i ∷ []) (new : find (is_copy_at copy.path) all ≡ None) where
    elsewhere : (j : ℕ) → j ≢ i → copy.path ≢ path ++ j ∷ []
    elsewhere j other same = other (sym (same_from_push path path i j (sym is ∙ same)).1)

    one_here : (inst : Inst) → turned_inst (all ++ copy ∷ []) path (i, inst) ≡ record inst { of = copy.id }
    one_here inst =
        let found : find (is_copy_at (path ++ i ∷ [])) (all ++ copy ∷ []) ≡ Some copy =
        find-last (is_copy_at (path ++ i ∷ [])) all copy (ap (λ p. find (is_copy_at p) all) (sym is) ∙ new) (subst (λ p. same_path copy.path p ≡ true) is (same_path-refl copy.path)) in
        ap (λ (o : Option Copy). let x : Inst = record inst { of = option_map_or (λ (c : Copy). c.id) o inst.of } in x) found

    pub one_more : (k j : ℕ) (insts : List Inst) → i ≡ k + j
        → map (turned_inst (all ++ copy ∷ []) path) (enumerate_from k insts) ≡ changed_at (λ (x : Inst). record x { of = copy.id }) j (map (turned_inst all path) (enumerate_from k insts))
    one_more k j [] at = refl
    one_more k zero (inst ∷ insts) at =
        let here : i ≡ k = omega (arith, at) in
        let first : turned_inst (all ++ copy ∷ []) path (k, inst) ≡ record inst { of = copy.id } = subst (λ n. turned_inst (all ++ copy ∷ []) path (n, inst) ≡ record inst { of = copy.id }) here (one_here inst) in
        let rest = others (k + 1) insts (λ n less. elsewhere n (λ same. omega (arith, less, same, here))) in
        λ t. first t ∷ rest t
    one_more k (suc j) (inst ∷ insts) at =
        let first = one_other k inst (elsewhere k (λ same. omega (arith, same, at))) in
        let rest = one_more (k + 1) j insts (omega (arith, at)) in
        λ t. first t ∷ rest t

abbrev is_above : Copy → List ℕ → Bool
is_above copy path = option_map_or (λ (up : List ℕ × ℕ). same_path up.0 path) (above copy.path) false

turned_more : (all : List Copy) (copy : Copy) (path : List ℕ) → is_turned (all ++ copy ∷ []) path ≡ (is_turned all path || is_above copy path)
turned_more all copy path =
    list_any-append (λ (c : Copy). is_above c path) all (copy ∷ []) ∙ ap (λ b. is_turned all path || b) (last (is_above copy path))
  where
    last : (b : Bool) → (b || false) ≡ b
    last true = refl
    last false = refl

-- ---- the contents of a seat's own cell

pub turned_here : (d : Design) (all : List Copy) (copy : Copy) (seat : Seat) (i : ℕ) → copy.path ≡ seat.path ++ i ∷ [] → find (is_copy_at copy.path) all ≡ None
    → turned_at d (all ++ copy ∷ []) seat ≡ option_map (turned_to i copy.id) (option_or (turned_at d all seat) (contents_at d seat.cell))
turned_here d all copy seat i is new =
    cond-true _ _ _ (turned_more all copy seat.path ∙ or_right (is_turned all seat.path) (is_above copy seat.path) up)
    ∙ by (contents_at d seat.cell) (is_turned all seat.path) refl
  where
    up : is_above copy seat.path ≡ true
    up = ap (λ (o : Option (List ℕ × ℕ)). option_map_or (λ (u : List ℕ × ℕ). same_path u.0 seat.path) o false) (ap above is ∙ above-append seat.path i) ∙ same_path-refl seat.path

    more : (contents : Contents) → turned (all ++ copy ∷ []) seat.path contents ≡ turned_to i copy.id (turned all seat.path contents)
    more contents = let insts = one_more all copy seat.path i is new 0 i contents.insts (omega arith) in λ t. record { insts = insts t; nets = contents.nets }

    by : (contents : Option Contents) (b : Bool) → is_turned all seat.path ≡ b
        → option_map (turned (all ++ copy ∷ []) seat.path) contents ≡ option_map (turned_to i copy.id) (option_or (cond b (option_map (turned all seat.path) contents) None) contents)
    by None true b_is = refl
    by None false b_is = refl
    by (Some contents) true b_is = ap Some (more contents)
    by (Some contents) false b_is = ap Some (more contents ∙ ap (turned_to i copy.id) (turned_same all seat.path b_is contents))

pub turned_other : (d : Design) (all : List Copy) (copy : Copy) (seat : Seat) (up : List ℕ) (i : ℕ) → copy.path ≡ up ++ i ∷ [] → seat.path ≢ up
    → turned_at d (all ++ copy ∷ []) seat ≡ turned_at d all seat
turned_other d all copy seat up i is apart =
    λ t. cond (turns t) (option_map (λ contents. let x : Contents = record { insts = insts contents t; nets = contents.nets } in x) (contents_at d seat.cell)) None
  where
    not_above : is_above copy seat.path ≡ false
    not_above = ap (λ (o : Option (List ℕ × ℕ)). option_map_or (λ (u : List ℕ × ℕ). same_path u.0 seat.path) o false) (ap above is ∙ above-append up i) ∙ paths_apart up seat.path (λ same. apart (sym same))

    turns : is_turned (all ++ copy ∷ []) seat.path ≡ is_turned all seat.path
    turns = turned_more all copy seat.path ∙ right (is_turned all seat.path) (is_above copy seat.path) not_above
      where
        right : (a b : Bool) → b ≡ false → (a || b) ≡ a
        right true b e = refl
        right false b e = e

    insts : (contents : Contents) → map (turned_inst (all ++ copy ∷ []) seat.path) (enumerate_from 0 contents.insts) ≡ map (turned_inst all seat.path) (enumerate_from 0 contents.insts)
    insts contents = others all copy seat.path 0 contents.insts (λ j less same. apart (sym (same_from_push up seat.path i j (sym is ∙ same)).0))
