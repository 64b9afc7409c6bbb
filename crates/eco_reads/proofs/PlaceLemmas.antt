-- Places of instances, found in a map by their names.
use Rattle.std.proofs.Common.{◌≡◌, ◌<◌, ◌≤◌, ◌+◌, ℕ, suc, arith, Bool, true, false, cond, List, [], ◌∷◌, ◌++◌, length, get_or, map, take, nat_eq, Option, Some, None, refl, sym, ap, ◌∙◌}
use Rattle.std.specs.Cmp.Lexicographic.{pointwise}
use Rattle.std.specs.List.{position_from}
use Rattle.std.specs.Option.{option_or}
use Rattle.std.proofs.lemmas.List.{length-take, map-append, take_more, take_all}
use Rattle.edit_rules_spec.specs.Find.{inst_place, is_name}
use Rattle.edit_rules_spec.proofs.Refusals.{same_name}
use Rattle.netlist_schema.specs.Types.{Inst}
use Rattle.eco_reads.specs.Places.{place_added}

or_none : (o : Option ℕ) → option_or o None ≡ o
or_none None = refl
or_none (Some x) = refl

-- a name that is there stays as it is
pub added_there : (before : List ℕ → Option ℕ) (name : List ℕ) (place p : ℕ) → before name ≡ Some p → (q : List ℕ) → before q ≡ place_added place name before q
added_there before name place p there q = go (is_name name q) refl
  where
    go : (b : Bool) → is_name name q ≡ b → before q ≡ option_or (before q) (cond b (Some place) None)
    go true is =
        let at : before q ≡ Some p = ap before (sym (same_name name q is)) ∙ there in
        at ∙ ap (λ o. option_or o (Some place)) (sym at)
    go false is = sym (or_none (before q))

-- a new name is found at its place
pub added_new : (before after : List ℕ → Option ℕ) (name : List ℕ) (place : ℕ) → before name ≡ None
    → ((q : List ℕ) → after q ≡ cond (pointwise nat_eq name q) (Some place) (before q)) → (q : List ℕ) → after q ≡ place_added place name before q
added_new before after name place none new q = new q ∙ go (is_name name q) refl
  where
    go : (b : Bool) → is_name name q ≡ b → cond b (Some place) (before q) ≡ option_or (before q) (cond b (Some place) None)
    go true is =
        let at : before q ≡ None = ap before (sym (same_name name q is)) ∙ none in
        sym (ap (λ o. option_or o (Some place)) at)
    go false is = sym (or_none (before q))

-- the first place in a list with one more name
position_last : (test : List ℕ → Bool) (n : ℕ) (xs : List (List ℕ)) (x : List ℕ)
    → position_from test n (xs ++ x ∷ []) ≡ option_or (position_from test n xs) (cond (test x) (Some (n + length xs)) None)
position_last test n [] x = let e : n ≡ n + 0 = omega arith in ap (λ k. cond (test x) (Some k) None) e
position_last test n (y ∷ ys) x = go (test y) (position_last test (n + 1) ys x)
  where
    go : (b : Bool) → position_from test (n + 1) (ys ++ x ∷ []) ≡ option_or (position_from test (n + 1) ys) (cond (test x) (Some (n + 1 + length ys)) None)
        → cond b (Some n) (position_from test (n + 1) (ys ++ x ∷ [])) ≡ option_or (cond b (Some n) (position_from test (n + 1) ys)) (cond (test x) (Some (n + suc (length ys))) None)
    go true rest = refl
    go false rest =
        let e : n + 1 + length ys ≡ n + suc (length ys) = omega arith in
        rest ∙ ap (λ k. option_or (position_from test (n + 1) ys) (cond (test x) (Some k) None)) e

-- one instance more
pub place_more : (insts : List Inst) (i : ℕ) (inst : Inst) (before after : List ℕ → Option ℕ) → i < length insts → inst ≡ get_or insts i inst
    → ((q : List ℕ) → after q ≡ place_added i inst.name.id before q) → ((q : List ℕ) → before q ≡ inst_place q (take i insts))
    → (q : List ℕ) → after q ≡ inst_place q (take (i + 1) insts)
place_more insts i inst before after within is added known q =
    let longer : take (i + 1) insts ≡ take i insts ++ inst ∷ [] = take_more insts i inst within ∙ ap (λ v. take i insts ++ v ∷ []) (sym is) in
    let count : 0 + length (map (λ (v : Inst). v.name.id) (take i insts)) ≡ i = omega (arith, length_map (take i insts), length-take i insts, within) in
    added q
    ∙ ap (λ o. option_or o (cond (is_name inst.name.id q) (Some i) None)) (known q)
    ∙ ap (λ k. option_or (inst_place q (take i insts)) (cond (is_name inst.name.id q) (Some k) None)) (sym count)
    ∙ sym (position_last (λ other. is_name other q) 0 (map (λ (v : Inst). v.name.id) (take i insts)) inst.name.id)
    ∙ ap (position_from (λ other. is_name other q) 0) (sym (map-append (λ (v : Inst). v.name.id) (take i insts) (inst ∷ [])) ∙ ap (map (λ (v : Inst). v.name.id)) (sym longer))
  where
    length_map : (xs : List Inst) → length (map (λ (v : Inst). v.name.id) xs) ≡ length xs
    length_map [] = refl
    length_map (x ∷ xs) = ap suc (length_map xs)

pub place_all : (insts : List Inst) (i : ℕ) (before : List ℕ → Option ℕ) → length insts ≤ i → ((q : List ℕ) → before q ≡ inst_place q (take i insts))
    → (q : List ℕ) → before q ≡ inst_place q insts
place_all insts i before past known q = known q ∙ ap (inst_place q) (take_all i insts past)
