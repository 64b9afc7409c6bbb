-- One copy more: its number is the least that is free, and what is kept fits it.
use Rattle.std.proofs.Common.{◌≡◌, ◌≤◌, ◌<◌, ◌+◌, ◌^◌, ℕ, Bool, true, false, not, cond, List, [], ◌∷◌, ◌++◌, map, length, Option, Some, None, refl, sym, ap, subst, ◌∙◌, inl, inr, arith, eq-eqb}
use Rattle.std.specs.Prelude.{◌||◌, ◌==◌, unwrap_or}
use Rattle.std.specs.BTreeMap.{get, is_at}
use Rattle.std.specs.List.{list_any}
use Rattle.std.specs.Option.{option_map}
use Rattle.std.specs.Ordering.{nat_cmp}
use Rattle.std.proofs.lemmas.Bool.{cases_Bool, cases_eq, cases_lt, cases_order, cond-true, cond-false, ne_eqb, true≢false, or_left, or_right, not-true, not-false}
use Rattle.netlist_schema.specs.Design.{Design, cells_in}
use Rattle.netlist_schema.specs.Names.{cell_names}
use Rattle.netlist_schema.specs.Types.{CellId, LibId, Name}
use Rattle.edit_rules_spec.specs.Find.{is_name, is_same}
use Rattle.edit_rules_spec.proofs.Refusals.{is_name-refl}
use Rattle.uniquify_spec.specs.Copies.{Copy, copies_in, copy_name, free_number, is_free, names_with, name_at, numbered}
use Rattle.uniquify_spec.proofs.CopyLists.{length-names, length-names_more}
use Rattle.uniquify_spec.proofs.CopyNames.{copies_get_least_free}
use Rattle.uniquify_spec.proofs.ValidNames.{names_more}
use Rattle.edit_rules_spec.proofs.Numbers.{lower}
use Rattle.uniquify_copies.proofs.Endings.{numbered_alike, numbered_same}
use Rattle.uniquify_copies.proofs.Stems.{at_stem, next_same, number_at, stem_at}
use Rattle.uniquify_copies.specs.Known.{AreKnown, IsFirstFree, IsNext, IsNextTwin, IsStemOf, copy_at, count_of, is_copied, next_of, stem_cmp}
use Rattle.uniquify_copies.specs.declared.namer.Namer.{Namer}
use Rattle.uniquify_copies.specs.declared.namer.Twin.{Twin}
use Rattle.uniquify_copies.specs.declared.numbers.Stem.{Stem}

-- ---- free names

abbrev is_any : List (List ℕ) → List ℕ → Bool
is_any names id = list_any (λ other. is_same other id) names

is_any-append : (xs ys : List (List ℕ)) (id : List ℕ) → is_any (xs ++ ys) id ≡ (is_any xs id || is_any ys id)
is_any-append [] ys id = refl
is_any-append (x ∷ xs) ys id = ap (λ b. is_same x id || b) (is_any-append xs ys id) ∙ or-assoc (is_same x id) (is_any xs id) (is_any ys id)
  where
    or-assoc : (a b c : Bool) → (a || (b || c)) ≡ ((a || b) || c)
    or-assoc true b c = refl
    or-assoc false b c = refl

pub free_both : (xs ys : List (List ℕ)) (id : List ℕ) → is_free xs id ≡ true → is_any ys id ≡ false → is_free (xs ++ ys) id ≡ true
free_both xs ys id first second =
    ap not (is_any-append xs ys id ∙ (λ i. not-true (is_any xs id) first i || second i))

pub taken_more : (xs ys : List (List ℕ)) (id : List ℕ) → is_free xs id ≡ false → is_free (xs ++ ys) id ≡ false
taken_more xs ys id taken = ap not (is_any-append xs ys id ∙ ap (λ b. b || is_any ys id) (not-false (is_any xs id) taken))

-- a name is free or not by its letters in lower case
pub free_alike : (names : List (List ℕ)) (a b : List ℕ) → lower a ≡ lower b → is_free names a ≡ is_free names b
free_alike names a b same = ap (λ low. not (list_any (λ other. is_name (lower other) low) names)) same

last_taken : (names : List (List ℕ)) (a b : List ℕ) → lower a ≡ lower b → is_free (names ++ a ∷ []) b ≡ false
last_taken names a b same =
    let here : is_same a b ≡ true = ap (λ low. is_name (lower a) low) (sym same) ∙ is_name-refl (lower a) in
    ap not (is_any-append names (a ∷ []) b ∙ or_right (is_any names b) (is_any (a ∷ []) b) (or_left (is_same a b) false here))

-- ---- the number

pub least_is : (names : List (List ℕ)) (id : List ℕ) (n : ℕ) → length names < 2 ^ 63 → 1 ≤ n → is_free names (numbered id n) ≡ true
    → ((m : ℕ) → 1 ≤ m → m < n → is_free names (numbered id m) ≡ false) → n ≡ free_number names id
least_is names id n few one free least =
    let f = copies_get_least_free names id few in
    elim (cases_order n (free_number names id)) [
      | inl same ↦ same
      | inr apart ↦ elim apart [
        | inl less ↦ absurd (true≢false (sym free ∙ f.least n one less))
        | inr more ↦ absurd (true≢false (sym f.free ∙ least (free_number names id) f.from_one more))
      ]
    ]

-- ---- names of copies

copied_more : (made : List Copy) (copy : Copy) (lib : LibId) → map (λ (m : Copy). m.name.id) (copies_in lib (made ++ copy ∷ [])) ≡ map (λ (m : Copy). m.name.id) (copies_in lib made) ++ cond (copy.id.lib.0 == lib.0) (copy.name.id ∷ []) []
copied_more [] copy lib = by (copy.id.lib.0 == lib.0)
  where
    by : (b : Bool) → map (λ (m : Copy). m.name.id) (cond b (copy ∷ []) []) ≡ cond b (copy.name.id ∷ []) []
    by true = refl
    by false = refl
copied_more (v ∷ made) copy lib = by (v.id.lib.0 == lib.0) (copies_in lib made) (copies_in lib (made ++ copy ∷ [])) (copied_more made copy lib)
  where
    by : (b : Bool) (less more : List Copy) → map (λ (m : Copy). m.name.id) more ≡ map (λ (m : Copy). m.name.id) less ++ cond (copy.id.lib.0 == lib.0) (copy.name.id ∷ []) []
        → map (λ (m : Copy). m.name.id) (cond b (v ∷ more) more) ≡ map (λ (m : Copy). m.name.id) (cond b (v ∷ less) less) ++ cond (copy.id.lib.0 == lib.0) (copy.name.id ∷ []) []
    by true less more e = ap (λ ns. v.name.id ∷ ns) e
    by false less more e = e

-- ---- the step

-- all that is known of the copy to be made
pub record IsNamed (d : Design) (made : List Copy) (old new : Namer) (of : CellId) (stem : Stem) (slot n : ℕ) (twin : Twin) : Type 0 where
  pub known : AreKnown d made old
  pub slot_is : slot ≡ count_of old of.lib (length (cells_in d of.lib))
  pub room : slot < 65536
  pub stem_is : IsStemOf stem of.lib (name_at d of).id
  pub first : IsFirstFree (cell_names (cells_in d of.lib)) (name_at d of).id (next_of old stem) n
  pub fits : n + 1 < 2 ^ 64
  pub slots : (q : ℕ) → get nat_cmp new.slots q ≡ cond (is_at (nat_cmp of.lib.0) q) (Some (slot + 1)) (get nat_cmp old.slots q)
  pub numbers : (q : Stem) → get stem_cmp new.numbers q ≡ cond (is_at (stem_cmp stem) q) (Some (n + 1)) (get stem_cmp old.numbers q)
  pub id : twin.id ≡ record { lib = of.lib; slot = slot }
  pub name_id : twin.name.id ≡ numbered (name_at d of).id n
  pub shown : twin.name.shown ≡ option_map (λ text. numbered text n) (name_at d of).shown

module _ (d : Design) (made : List Copy) (old new : Namer) (of : CellId) (stem : Stem) (slot n : ℕ) (twin : Twin) (is : IsNamed d made old new of stem slot n twin) where
  abbrev here : List (List ℕ)
  here = names_with d made of.lib

  abbrev base : List ℕ
  base = (name_at d of).id

  slot_here : slot ≡ length here
  slot_here = is.slot_is ∙ is.known.slots of.lib

  small : n < 2 ^ 64
  small = let fits = is.fits in omega (arith, fits)

  one : 1 ≤ n
  one = let from = is.known.from_one stem in let after = is.first.not_before in omega (arith, from, after)

  free : is_free here (numbered base n) ≡ true
  free = free_both (cell_names (cells_in d of.lib)) (map (λ copy. copy.name.id) (copies_in of.lib made)) (numbered base n) is.first.free
      (is.known.beyond stem of.lib base n is.stem_is is.first.not_before small)

  before : (m : ℕ) → 1 ≤ m → m < n → is_free here (numbered base m) ≡ false
  before m first less = elim (cases_lt m (next_of old stem)) [
    | inl early ↦ is.known.taken stem of.lib base m is.stem_is first early
    | inr late ↦ taken_more (cell_names (cells_in d of.lib)) (map (λ copy. copy.name.id) (copies_in of.lib made)) (numbered base m) (is.first.least m late less)
  ]

  least : n ≡ free_number here base
  least = let room = is.room in let same = slot_here in least_is here base n (omega (arith, room, same)) one free before

  name : twin.name ≡ copy_name here (name_at d of)
  name = λ i. record {
    id = (is.name_id ∙ ap (λ k. numbered base k) least) i;
    shown = (is.shown ∙ ap (λ k. option_map (λ text. numbered text k) (name_at d of).shown) least) i;
  }

  module _ (path : List ℕ) where
    abbrev copy : Copy
    copy = copy_at path of twin

    lib_is : copy.id.lib ≡ of.lib
    lib_is = ap (λ (k : CellId). k.lib) is.id

    abbrev last : LibId → List (List ℕ)
    last lib = cond (copy.id.lib.0 == lib.0) (copy.name.id ∷ []) []

    more : (lib : LibId) → names_with d (made ++ copy ∷ []) lib ≡ names_with d made lib ++ last lib
    more lib = names_more d made copy lib

    slots_more : (lib : LibId) → count_of new lib (length (cells_in d lib)) ≡ length (names_with d (made ++ copy ∷ []) lib)
    slots_more lib = elim (cases_eq of.lib.0 lib.0) [
      | inl same ↦
          let libs : of.lib ≡ lib = λ i. record { 0 = same i } in
          let at : is_at (nat_cmp of.lib.0) lib.0 ≡ true = number_at of.lib.0 lib.0 ∙ eq-eqb of.lib.0 lib.0 same in
          let now : count_of new lib (length (cells_in d lib)) ≡ slot + 1 = ap (λ o. unwrap_or o (length (cells_in d lib))) (is.slots lib.0 ∙ cond-true _ _ _ at) in
          let all = length-names_more d made copy lib in
          let added : ◌≡◌ {A = ℕ} (cond (copy.id.lib.0 == lib.0) 1 0) 1 = cond-true _ _ _ (eq-eqb copy.id.lib.0 lib.0 (ap (λ (l : LibId). l.0) lib_is ∙ same)) in
          let was : slot ≡ length (names_with d made lib) = slot_here ∙ ap (λ l. length (names_with d made l)) libs in
          omega (arith, now, all, added, was)
      | inr other ↦
          let at : is_at (nat_cmp of.lib.0) lib.0 ≡ false = number_at of.lib.0 lib.0 ∙ ne_eqb of.lib.0 lib.0 other in
          let now : count_of new lib (length (cells_in d lib)) ≡ count_of old lib (length (cells_in d lib)) = ap (λ o. unwrap_or o (length (cells_in d lib))) (is.slots lib.0 ∙ cond-false _ _ _ at) in
          let all = length-names_more d made copy lib in
          let added : ◌≡◌ {A = ℕ} (cond (copy.id.lib.0 == lib.0) 1 0) 0 = cond-false _ _ _ (ne_eqb copy.id.lib.0 lib.0 (λ same. other (sym (ap (λ (l : LibId). l.0) lib_is) ∙ same))) in
          let was = is.known.slots lib in
          omega (arith, now, all, added, was)
    ]

    next_here : (q : Stem) → is_at (stem_cmp stem) q ≡ true → next_of new q ≡ n + 1
    next_here q at = ap (λ o. unwrap_or o 1) (is.numbers q ∙ cond-true _ _ _ at)

    next_other : (q : Stem) → is_at (stem_cmp stem) q ≡ false → next_of new q ≡ next_of old q
    next_other q at = ap (λ o. unwrap_or o 1) (is.numbers q ∙ cond-false _ _ _ at)

    -- the same stem: the same library, and the same letters
    same_stem : (q : Stem) (lib : LibId) (id : List ℕ) → IsStemOf q lib id → is_at (stem_cmp stem) q ≡ true → (of.lib ≡ lib) × (lower base ≡ lower id)
    same_stem q lib id q_is at =
        let parts = at_stem stem q at in
        let number : of.lib.0 ≡ lib.0 = sym is.stem_is.lib_is ∙ parts.0 ∙ q_is.lib_is in
        ((λ i. record { 0 = number i }), sym is.stem_is.letters_are ∙ parts.1 ∙ q_is.letters_are)

    taken_before : (q : Stem) (lib : LibId) (id : List ℕ) (m : ℕ) → IsStemOf q lib id → 1 ≤ m → m < next_of new q → is_free (names_with d (made ++ copy ∷ []) lib) (numbered id m) ≡ false
    taken_before q lib id m q_is first less = elim (cases_Bool (is_at (stem_cmp stem) q)) [
      | inr other ↦
          let was = next_other q other in
          let early : m < next_of old q = omega (arith, less, was) in
          ap (λ ns. is_free ns (numbered id m)) (more lib) ∙ taken_more (names_with d made lib) (last lib) (numbered id m) (is.known.taken q lib id m q_is first early)
      | inl at ↦
          let now = next_here q at in
          let both = same_stem q lib id q_is at in
          let fits : m < 2 ^ 64 = let bound = is.fits in omega (arith, less, now, bound) in
          let alike : lower (numbered base m) ≡ lower (numbered id m) = numbered_alike base id m fits both.1 in
          elim (cases_order m n) [
            | inl same ↦
                let ends : last lib ≡ numbered base m ∷ [] =
                cond-true _ _ _ (eq-eqb copy.id.lib.0 lib.0 (ap (λ (l : LibId). l.0) (lib_is ∙ both.0))) ∙ ap (λ v. v ∷ []) (is.name_id ∙ ap (λ k. numbered base k) (sym same)) in
                ap (λ ns. is_free ns (numbered id m)) (more lib ∙ ap (λ ns. names_with d made lib ++ ns) ends) ∙ last_taken (names_with d made lib) (numbered base m) (numbered id m) alike
            | inr apart ↦ elim apart [
              | inl early ↦
                  ap (λ ns. is_free ns (numbered id m)) (more lib)
                  ∙ taken_more (names_with d made lib) (last lib) (numbered id m)
                  (ap (λ l. is_free (names_with d made l) (numbered id m)) (sym both.0) ∙ sym (free_alike here (numbered base m) (numbered id m) alike) ∙ before m first early)
              | inr late ↦ absurd (omega (arith, late, less, now))
            ]
          ]
    ]

    old_next : (q : Stem) → next_of old q ≤ next_of new q
    old_next q = elim (cases_Bool (is_at (stem_cmp stem) q)) [
      | inr other ↦ let was = next_other q other in omega (arith, was)
      | inl at ↦
          let parts = at_stem stem q at in
          let same = next_same old stem q parts.0 parts.1 in
          let now = next_here q at in
          let after = is.first.not_before in
          omega (arith, same, now, after)
    ]

    beyond_more : (q : Stem) (lib : LibId) (id : List ℕ) (m : ℕ) → IsStemOf q lib id → next_of new q ≤ m → m < 2 ^ 64 → is_copied (made ++ copy ∷ []) lib (numbered id m) ≡ false
    beyond_more q lib id m q_is late fits =
        let up = old_next q in
        let past : next_of old q ≤ m = omega (arith, up, late) in
        let ends : is_any (last lib) (numbered id m) ≡ false = elim (cases_eq copy.id.lib.0 lib.0) [
          | inr other ↦ ap (λ ns. is_any ns (numbered id m)) (cond-false (copy.id.lib.0 == lib.0) (copy.name.id ∷ []) [] (ne_eqb copy.id.lib.0 lib.0 other))
          | inl same ↦
              let here_is : last lib ≡ numbered base n ∷ [] = cond-true _ _ _ (eq-eqb copy.id.lib.0 lib.0 same) ∙ ap (λ v. v ∷ []) is.name_id in
              ap (λ ns. is_any ns (numbered id m)) here_is ∙ elim (cases_Bool (is_same (numbered base n) (numbered id m))) [
                | inr apart ↦ ap (λ b. b || false) apart
                | inl equal ↦
                    let both = numbered_same base id n m small fits equal in
                    let at = stem_at stem q (is.stem_is.lib_is ∙ sym (ap (λ (l : LibId). l.0) lib_is) ∙ same ∙ sym q_is.lib_is) (is.stem_is.letters_are ∙ both.0 ∙ sym q_is.letters_are) in
                    let now = next_here q at in
                    let equal_numbers = both.1 in
                    absurd (omega (arith, now, late, equal_numbers))
              ]
        ] in
        ap (λ ns. is_any ns (numbered id m)) (copied_more made copy lib)
        ∙ is_any-append (map (λ (c : Copy). c.name.id) (copies_in lib made)) (last lib) (numbered id m)
        ∙ (λ i. is.known.beyond q lib id m q_is past fits i || ends i)

    from_one_more : (q : Stem) → 1 ≤ next_of new q
    from_one_more q = let was = is.known.from_one q in let up = old_next q in omega (arith, was, up)

    known_more : AreKnown d (made ++ copy ∷ []) new
    known_more = record { slots = slots_more; taken = taken_before; beyond = beyond_more; from_one = from_one_more }

  pub next_named : IsNextTwin d made of new twin
  next_named = record {
    id = is.id ∙ (λ i. record { lib = of.lib; slot = slot_here i });
    name = name;
    room = let at = ap (λ (k : CellId). k.slot) is.id in let less = is.room in omega (arith, at, less);
    known = known_more;
  }

-- at the start nothing is kept
pub known_at_start : (d : Design) (namer : Namer) → ((q : ℕ) → get nat_cmp namer.slots q ≡ None) → ((q : Stem) → get stem_cmp namer.numbers q ≡ None) → AreKnown d [] namer
known_at_start d namer slots numbers = record {
  slots = λ lib.
      let now : count_of namer lib (length (cells_in d lib)) ≡ length (cells_in d lib) = ap (λ o. unwrap_or o (length (cells_in d lib))) (slots lib.0) in
      let all = length-names d [] lib in
      omega (arith, now, all);
  taken = λ q lib id n is one less. let next : next_of namer q ≡ 1 = ap (λ o. unwrap_or o 1) (numbers q) in absurd (omega (arith, one, less, next));
  beyond = λ q lib id n is late fits. refl;
  from_one = λ q. let next : next_of namer q ≡ 1 = ap (λ o. unwrap_or o 1) (numbers q) in omega (arith, next);
}

-- no room
pub no_next : (d : Design) (made : List Copy) (old new : Namer) (of : CellId) (slot : ℕ) → AreKnown d made old → slot ≡ count_of old of.lib (length (cells_in d of.lib)) → 65536 ≤ slot → IsNext d made of new None
no_next d made old new of slot known is full = let same = known.slots of.lib in omega (arith, same, is, full)

-- what the call knows of it
pub next_is : (d e f : Design) (made : List Copy) (old new : Namer) (of : CellId) (stem : Stem) (slot n from : ℕ) (name : Name) (id : List ℕ) (shown : Option (List ℕ)) → AreKnown d made old
    → slot ≡ count_of old of.lib (length (cells_in d of.lib)) → slot < 65536 → e ≡ d → name ≡ name_at e of → IsStemOf stem of.lib name.id → from ≡ next_of old stem → f ≡ d
    → IsFirstFree (cell_names (cells_in f of.lib)) name.id from n → id ≡ numbered name.id n → n + 1 < 2 ^ 64 → shown ≡ option_map (λ text. numbered text n) name.shown
    → ((q : ℕ) → get nat_cmp new.slots q ≡ cond (is_at (nat_cmp of.lib.0) q) (Some (slot + 1)) (get nat_cmp old.slots q))
    → ((q : Stem) → get stem_cmp new.numbers q ≡ cond (is_at (stem_cmp stem) q) (Some (n + 1)) (get stem_cmp old.numbers q))
    → IsNextTwin d made of new (record { id = record { lib = of.lib; slot = slot }; name = record { id = id; shown = shown } })
next_is d e f made old new of stem slot n from name id shown known slot_is room e_is name_e stem_is from_is f_is first id_is fits shown_is slots numbers =
    let name_is : name ≡ name_at d of = name_e ∙ ap (λ x. name_at x of) e_is in
    next_named d made old new of stem slot n (record { id = record { lib = of.lib; slot = slot }; name = record { id = id; shown = shown } }) (record {
      known = known;
      slot_is = slot_is;
      room = room;
      stem_is = subst (λ (m : Name). IsStemOf stem of.lib m.id) name_is stem_is;
      first = subst (λ x. IsFirstFree (cell_names (cells_in x of.lib)) (name_at d of).id (next_of old stem) n) f_is
          (subst (λ (m : Name). IsFirstFree (cell_names (cells_in f of.lib)) m.id (next_of old stem) n) name_is
          (subst (λ k. IsFirstFree (cell_names (cells_in f of.lib)) name.id k n) from_is first));
      fits = fits;
      slots = slots;
      numbers = numbers;
      id = refl;
      name_id = id_is ∙ ap (λ (m : Name). numbered m.id n) name_is;
      shown = shown_is ∙ ap (λ (m : Name). option_map (λ text. numbered text n) m.shown) name_is;
    })
