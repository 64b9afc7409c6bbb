-- Lists of ends that are gathered by numbers.
use Rattle.std.proofs.Common.{◌≡◌, ◌<◌, ◌≤◌, ◌+◌, ℕ, List, [], ◌∷◌, ◌++◌, Bool, true, false, length, get_or, set, drop, refl, sym, ap, ◌∙◌, inl, inr, arith, append_assoc, append-nil, eqb-true, eq-eqb, filter}
use Rattle.std.specs.Prelude.{◌==◌, cond}
use Rattle.std.specs.List.{flat_map, zip}
use Rattle.std.proofs.lemmas.Bool.{cases_eq}
use Rattle.std.proofs.lemmas.List.{drop_all, get_or-set_same, get_or-set_other, length-set}
use Rattle.netlist_schema.specs.Types.{End}
use Rattle.ungroup_plans.specs.Lists.{AreGathered, gathered}
use Rattle.ungroup_plans.proofs.RunLemmas.{drop_first}

pub gathered_hit : (h n : ℕ) (ns : List ℕ) (e : List End) (es : List (List End)) → n ≡ h → gathered h (n ∷ ns) (e ∷ es) ≡ e ++ gathered h ns es
gathered_hit h n ns e es same =
    ap (λ b. flat_map (λ (p : ℕ × List End). p.1) (cond b ((n, e) ∷ filter (λ (p : ℕ × List End). p.0 == h) (zip ns es)) (filter (λ (p : ℕ × List End). p.0 == h) (zip ns es)))) (eq-eqb n h same)

pub gathered_miss : (h n : ℕ) (ns : List ℕ) (e : List End) (es : List (List End)) → (n ≡ h → ⊥) → gathered h (n ∷ ns) (e ∷ es) ≡ gathered h ns es
gathered_miss h n ns e es other =
    ap (λ b. flat_map (λ (p : ℕ × List End). p.1) (cond b ((n, e) ∷ filter (λ (p : ℕ × List End). p.0 == h) (zip ns es)) (filter (λ (p : ℕ × List End). p.0 == h) (zip ns es)))) (is_false (n == h) (λ t. other (eqb-true n h t)))
  where
    is_false : (b : Bool) → (b ≡ true → ⊥) → b ≡ false
    is_false true never = absurd (never refl)
    is_false false never = refl

-- at each number stand the ends so far, and those that are left
abbrev pub AreSoFar : List ℕ → List (List End) → ℕ → List (List End) → List (List End) → Type 0
AreSoFar numbers ends k old lists =
    (length lists ≡ length old)
    × ((h : ℕ) → h < length old → get_or lists h [] ++ gathered h (drop k numbers) (drop k ends) ≡ get_or old h [] ++ gathered h numbers ends)

pub so_far_more : (numbers : List ℕ) (ends : List (List End)) (k n : ℕ) (e : List End) (old lists new : List (List End)) → k < length numbers → length ends ≡ length numbers
    → n ≡ get_or numbers k n → e ≡ get_or ends k e → n < length lists → AreSoFar numbers ends k old lists → new ≡ set lists n (get_or lists n [] ++ e)
    → AreSoFar numbers ends (k + 1) old new
so_far_more numbers ends k n e old lists new within long n_is e_is low so_far new_is = (
  ap length new_is ∙ length-set lists n (get_or lists n [] ++ e) ∙ so_far.0,
  λ h inside.
      let opened : gathered h (drop k numbers) (drop k ends) ≡ gathered h (n ∷ drop (k + 1) numbers) (e ∷ drop (k + 1) ends) =
      λ t. gathered h (drop_first numbers k n within n_is t) (drop_first ends k e (omega (arith, within, long)) e_is t) in
      let rest = gathered h (drop (k + 1) numbers) (drop (k + 1) ends) in
      let whole = get_or old h [] ++ gathered h numbers ends in
      let before : get_or lists h [] ++ gathered h (n ∷ drop (k + 1) numbers) (e ∷ drop (k + 1) ends) ≡ whole =
      ap (λ v. get_or lists h [] ++ v) (sym opened) ∙ so_far.1 h inside in
      elim (cases_eq n h) [
        | inl same ↦
            ap (λ v. get_or v h [] ++ rest) new_is
            ∙ ap (λ v. get_or (set lists n (get_or lists n [] ++ e)) v [] ++ rest) (sym same)
            ∙ ap (λ v. v ++ rest) (get_or-set_same lists n (get_or lists n [] ++ e) [] low)
            ∙ ap (λ v. (get_or lists v [] ++ e) ++ rest) same
            ∙ append_assoc (get_or lists h []) e rest
            ∙ ap (λ v. get_or lists h [] ++ v) (sym (gathered_hit h n (drop (k + 1) numbers) e (drop (k + 1) ends) same))
            ∙ before
        | inr other ↦
            ap (λ v. get_or v h [] ++ rest) new_is
            ∙ ap (λ v. v ++ rest) (get_or-set_other lists n h (get_or lists n [] ++ e) [] (λ same. other (sym same)))
            ∙ ap (λ v. get_or lists h [] ++ v) (sym (gathered_miss h n (drop (k + 1) numbers) e (drop (k + 1) ends) other))
            ∙ before
      ],
)

none_left : (h : ℕ) (ends : List (List End)) → gathered h [] ends ≡ []
none_left h ends = refl

pub so_far_done : (numbers : List ℕ) (ends : List (List End)) (k : ℕ) (old lists : List (List End)) → length numbers ≤ k → AreSoFar numbers ends k old lists
    → (h : ℕ) → h < length old → get_or lists h [] ≡ get_or old h [] ++ gathered h numbers ends
so_far_done numbers ends k old lists past so_far h inside =
    sym (append-nil (get_or lists h [])) ∙ ap (λ v. get_or lists h [] ++ v) (sym (ap (λ v. gathered h v (drop k ends)) (drop_all k numbers past)))
    ∙ so_far.1 h inside

pub gathered_all : (numbers : List ℕ) (ends old lists : List (List End)) → length old ≡ length numbers → length lists ≡ length old
    → ((k : ℕ) → k < length old → get_or old k [] ≡ []) → ((h : ℕ) → h < length old → get_or lists h [] ≡ get_or old h [] ++ gathered h numbers ends)
    → AreGathered numbers ends lists
gathered_all numbers ends old lists long kept none each = record {
  long = kept ∙ long;
  each = λ h inside.
      let within : h < length old = omega (arith, inside, long) in
      each h within ∙ ap (λ v. v ++ gathered h numbers ends) (none h within);
}
