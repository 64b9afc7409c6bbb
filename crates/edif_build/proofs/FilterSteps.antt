-- A step of a loop over the nodes of forms of which some are kept, by a test.
use Rattle.std.proofs.Common.{◌≡◌, List, [], ◌∷◌, ◌++◌, map, refl, ap, ◌∙◌, subst, Bool, true, false, append-nil}
use Rattle.std.specs.Prelude.{cond, filter}
use Rattle.std.proofs.lemmas.List.Elements.{filter-append}
use Rattle.edif_spelling_spec.specs.Tree.{Bare, Placed, bare}
use Rattle.edif_spec.specs.Rows.{EachAfter}

-- those that pass a test
abbrev pub passing : (Bare → Bool) → List Placed → List Placed
passing p ts = filter (λ u. p (bare u)) ts

pub passing_here : (p : Bare → Bool) (xs ys : List Placed) (t : Placed) → p (bare t) ≡ true → passing p (xs ++ t ∷ ys) ≡ passing p xs ++ t ∷ passing p ys
passing_here p xs ys t h = filter-append (λ u. p (bare u)) xs (t ∷ ys) ∙ ap (λ b. passing p xs ++ cond b (t ∷ passing p ys) (passing p ys)) h

pub passing_kept : (p : Bare → Bool) (before : List Placed) (t : Placed) → p (bare t) ≡ true → passing p (before ++ t ∷ []) ≡ passing p before ++ t ∷ []
passing_kept p before t h = passing_here p before [] t h

pub passing_skipped : (p : Bare → Bool) (before : List Placed) (t : Placed) → p (bare t) ≡ false → passing p (before ++ t ∷ []) ≡ passing p before
passing_skipped p before t h = filter-append (λ u. p (bare u)) before (t ∷ []) ∙ (ap (λ b. passing p before ++ cond b (t ∷ []) []) h ∙ append-nil (passing p before))

pub passing_all : (p : Bare → Bool) (ts before us rest : List Placed) (t : Placed) → ts ≡ before ++ us → us ≡ t ∷ rest → p (bare t) ≡ true → passing p ts ≡ passing p before ++ t ∷ passing p rest
passing_all p ts before us rest t e f h = ap (passing p) (e ∙ ap (λ v. before ++ v) f) ∙ passing_here p before rest t h

-- forms and values, with one more of each at the end
pub after_push : {A : Type 0} (M : List A → Bare → A → Type 0) (ts : List Placed) (xs : List A) (t : Placed) (x : A) → EachAfter M [] (map bare ts) xs → M xs (bare t) x → EachAfter M [] (map bare (ts ++ t ∷ [])) (xs ++ x ∷ [])
after_push {A} M ts xs t x h m = go [] ts xs h m
  where
    regroup : (xs ys zs : List A) → xs ++ (ys ++ zs) ≡ (xs ++ ys) ++ zs
    regroup [] ys zs = refl
    regroup (x ∷ xs) ys zs = ap (λ v. x ∷ v) (regroup xs ys zs)

    go : (before : List A) (ts : List Placed) (xs : List A) → EachAfter M before (map bare ts) xs → M (before ++ xs) (bare t) x → EachAfter M before (map bare (ts ++ t ∷ [])) (xs ++ x ∷ [])
    go before [] [] h m = let P : List A → Type 0 = λ v. M v (bare t) x in (subst P (append-nil before) m, tt)
    go before [] (y ∷ ys) h m = absurd h
    go before (u ∷ us) [] h m = absurd h
    go before (u ∷ us) (y ∷ ys) h m = let P : List A → Type 0 = λ v. M v (bare t) x in (h.0, go (before ++ y ∷ []) us ys h.1 (subst P (regroup before (y ∷ []) ys) m))
