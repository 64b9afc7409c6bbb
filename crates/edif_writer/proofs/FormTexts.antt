-- The text of a form, from the texts of its arguments.
use Rattle.std.proofs.Common.{◌≡◌, ◌<◌, ◌+◌, ℕ, zero, suc, List, [], ◌∷◌, ◌++◌, length, map, take, get_or, Some, None, refl, ap, sym, ◌∙◌, append_assoc, append-nil}
use Rattle.std.specs.List.{flat_map}
use Rattle.std.specs.Prelude.{unwrap_or}
use Rattle.std.proofs.lemmas.Grind.{take_at_read}
use Rattle.std.proofs.lemmas.List.{map-append}
use Rattle.std.proofs.lemmas.Grind.{flat_map-append}
use Rattle.edif_spelling_spec.specs.Tree.{Bare, trees}
use Rattle.edif_spec.specs.Canonical.{layout, layouts, make, name_text, large_forms, head_of, count, new_line}
use Rattle.edif_spec.specs.Keyword.{spelling_of}
use Rattle.edif_spec.specs.declared.keyword.Keyword.{Keyword}
use Rattle.edif_writer.specs.Lines.{spaced, lined}

all_spaced : (level : ℕ) (ts : List Bare) → layouts level (count (trees ts)) (trees ts) ≡ spaced level ts
all_spaced level [] = refl
all_spaced level (t ∷ ts) = ap (λ v. 32 ∷ (layout (suc level) t ++ v)) (all_spaced level ts)

all_lined : (level : ℕ) (ts : List Bare) → layouts level zero (trees ts) ≡ lined level ts
all_lined level [] = refl
all_lined level (t ∷ ts) = ap (λ v. new_line level ++ (layout (suc level) t ++ v)) (all_lined level ts) ∙ sym (append_assoc (new_line level) (layout (suc level) t) (lined level ts))

head_spaced : (level : ℕ) (hs ts : List Bare) → layouts level (length hs) (trees (hs ++ ts)) ≡ spaced level hs ++ lined level ts
head_spaced level [] ts = all_lined level ts
head_spaced level (h ∷ hs) ts = ap (λ v. 32 ∷ (layout (suc level) h ++ v)) (head_spaced level hs ts) ∙ ap (λ v. 32 ∷ v) (sym (append_assoc (layout (suc level) h) (spaced level hs) (lined level ts)))

-- a form on one line
pub small_form : (level : ℕ) (k : Keyword) (ts : List Bare) → head_of large_forms (spelling_of k) ≡ None
    → layout level (make k ts) ≡ 40 ∷ (name_text (spelling_of k) ++ (spaced level ts ++ 41 ∷ []))
small_form level k ts e =
    ap (λ n. 40 ∷ (name_text (spelling_of k) ++ (layouts level (unwrap_or n (count (trees ts))) (trees ts) ++ 41 ∷ []))) e
    ∙ ap (λ v. 40 ∷ (name_text (spelling_of k) ++ (v ++ 41 ∷ []))) (all_spaced level ts)

-- a form of which a head stands on one line
pub large_form : (level : ℕ) (k : Keyword) (hs ts : List Bare) → head_of large_forms (spelling_of k) ≡ Some (length hs)
    → layout level (make k (hs ++ ts)) ≡ 40 ∷ (name_text (spelling_of k) ++ ((spaced level hs ++ lined level ts) ++ 41 ∷ []))
large_form level k hs ts e =
    ap (λ n. 40 ∷ (name_text (spelling_of k) ++ (layouts level (unwrap_or n (count (trees (hs ++ ts)))) (trees (hs ++ ts)) ++ 41 ∷ []))) e
    ∙ ap (λ v. 40 ∷ (name_text (spelling_of k) ++ (v ++ 41 ∷ []))) (head_spaced level hs ts)

pub spaced-append : (level : ℕ) (xs ys : List Bare) → spaced level (xs ++ ys) ≡ spaced level xs ++ spaced level ys
spaced-append level xs ys = flat_map-append (λ t. 32 ∷ layout (suc level) t) xs ys

pub lined-append : (level : ℕ) (xs ys : List Bare) → lined level (xs ++ ys) ≡ lined level xs ++ lined level ys
lined-append level xs ys = flat_map-append (λ t. new_line level ++ layout (suc level) t) xs ys

-- of the parts of a list, one more
pub one_more : {X Y : Type 0} (f : Y → List ℕ) (h : X → Y) (xs : List X) (i : ℕ) (x : X) → i < length xs → x ≡ get_or xs i x
    → flat_map f (map h (take i xs)) ++ f (h x) ≡ flat_map f (map h (take (i + 1) xs))
one_more f h xs i x l e =
    sym (ap (λ v. flat_map f (map h v)) (take_at_read xs i x l).1
    ∙ (ap (flat_map f) (map-append h (take i xs) (get_or xs i x ∷ []))
    ∙ (flat_map-append f (map h (take i xs)) (h (get_or xs i x) ∷ [])
    ∙ ap (λ v. flat_map f (map h (take i xs)) ++ v) (append-nil (f (h (get_or xs i x))) ∙ ap (λ v. f (h v)) (sym e)))))
