-- Followers that are written in groups, one group for each keyword.
use Rattle.std.proofs.Common.{◌≡◌, ◌≤◌, List, [], ◌∷◌, ◌++◌, map, length, refl, ap, Bool, true, false, Option, Some, None, arith}
use Rattle.std.specs.Prelude.{IsTrue, filter}
use Rattle.std.specs.List.{list_all, AllByRecursion}
use Rattle.edif_spelling_spec.specs.Tree.{Bare}
use Rattle.edif_spec.specs.Rows.{Each, Perhaps}
use Rattle.edif_spec.specs.Canonical.{perhaps}
use Rattle.edif_spec.proofs.Both.{both, and_true}

pub all_kept : {A : Type 0} (p : Bare → Bool) (f : A → Bare) (xs : List A) → ((x : A) → p (f x) ≡ true) → filter p (map f xs) ≡ map f xs
all_kept p f [] h = refl
all_kept p f (x ∷ xs) h = rw (h x) (ap (λ v. f x ∷ v) (all_kept p f xs h))

pub none_kept : {A : Type 0} (p : Bare → Bool) (f : A → Bare) (xs : List A) → ((x : A) → p (f x) ≡ false) → filter p (map f xs) ≡ []
none_kept p f [] h = refl
none_kept p f (x ∷ xs) h = rw (h x) (none_kept p f xs h)

pub one_kept : {A : Type 0} (p : Bare → Bool) (f : A → Bare) (o : Option A) → ((x : A) → p (f x) ≡ true) → filter p (perhaps f o) ≡ perhaps f o
one_kept p f None h = refl
one_kept p f (Some x) h = rw (h x) refl

pub one_dropped : {A : Type 0} (p : Bare → Bool) (f : A → Bare) (o : Option A) → ((x : A) → p (f x) ≡ false) → filter p (perhaps f o) ≡ []
one_dropped p f None h = refl
one_dropped p f (Some x) h = rw (h x) refl

pub all_pass : {A : Type 0} (p : Bare → Bool) (f : A → Bare) (xs : List A) → ((x : A) → p (f x) ≡ true) → IsTrue (list_all p (map f xs))
all_pass p f [] h = refl
all_pass p f (x ∷ xs) h = and_true (p (f x)) (list_all p (map f xs)) (h x) (all_pass p f xs h)

pub one_passes : {A : Type 0} (p : Bare → Bool) (f : A → Bare) (o : Option A) → ((x : A) → p (f x) ≡ true) → IsTrue (list_all p (perhaps f o))
one_passes p f None h = refl
one_passes p f (Some x) h = and_true (p (f x)) true (h x) refl

pub both_pass : (p : Bare → Bool) (a b : List Bare) → IsTrue (list_all p a) → IsTrue (list_all p b) → IsTrue (list_all p (a ++ b))
both_pass p [] b h k = k
both_pass p (x ∷ a) b h k = let t = both (p x) (list_all p a) h in and_true (p x) (list_all p (a ++ b)) t.0 (both_pass p a b t.1 k)

pub at_most_one : {A : Type 0} (f : A → Bare) (o : Option A) → length (perhaps f o) ≤ 1
at_most_one f None = omega arith
at_most_one f (Some x) = omega arith

pub each_map : {A : Type 0} (P : A → Type 0) (R : Bare → A → Type 0) (f : A → Bare) (xs : List A) → AllByRecursion P xs → ((x : A) → P x → R (f x) x) → Each R (map f xs) xs
each_map P R f [] h g = tt
each_map P R f (x ∷ xs) h g = (g x h.0, each_map P R f xs h.1 g)

pub perhaps_one : {A : Type 0} (R : Bare → A → Type 0) (f : A → Bare) (o : Option A) → ((x : A) → R (f x) x) → Perhaps R (perhaps f o) o
perhaps_one R f None h = tt
perhaps_one R f (Some x) h = h x
