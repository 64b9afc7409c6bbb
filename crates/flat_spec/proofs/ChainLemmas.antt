-- Chains are joined, mapped and turned round.
use Rattle.std.proofs.Common.{List, [], ◌∷◌, refl, sym, ap, subst}
use Rattle.flat_spec.specs.Chains.{Leads, Chain}

-- the list with nothing in it
pub Chain-same : {A : Type 0} {R : A → A → Type 0} (x : A) → Chain R x x
Chain-same x = ([], refl)

-- one more step in front
pub Chain-cons : {A : Type 0} {R : A → A → Type 0} {x y z : A} → R x y → Chain R y z → Chain R x z
Chain-cons {y = y} r c = (y ∷ c.0, (r, c.1))

pub Chain-one : {A : Type 0} {R : A → A → Type 0} {x y : A} → R x y → Chain R x y
Chain-one {y = y} r = (y ∷ [], (r, refl))

pub Leads-append : {A : Type 0} (R : A → A → Type 0) (x y z : A) (xs : List A) → Leads R x xs y → Chain R y z → Chain R x z
Leads-append R x y z [] e c = subst (λ v. Chain R v z) (sym e) c
Leads-append R x y z (v ∷ vs) e c = Chain-cons {R = R} e.0 (Leads-append R v y z vs e.1 c)

-- one chain after another
pub Chain-append : {A : Type 0} (R : A → A → Type 0) {x y z : A} → Chain R x y → Chain R y z → Chain R x z
Chain-append R {x} {y} {z} b c = Leads-append R x y z b.0 b.1 c

pub Leads-mono : {A B : Type 0} (R : A → A → Type 0) (S : B → B → Type 0) (f : A → B)
    → ((x y : A) → R x y → Chain S (f x) (f y))
    → (x z : A) (xs : List A) → Leads R x xs z → Chain S (f x) (f z)
Leads-mono R S f step x z [] e = ([], ap f e)
Leads-mono R S f step x z (y ∷ ys) e = Chain-append S (step x y e.0) (Leads-mono R S f step y z ys e.1)

-- a chain is carried to a chain, where each step is carried to a chain
pub Chain-mono : {A B : Type 0} (R : A → A → Type 0) (S : B → B → Type 0) (f : A → B)
    → ((x y : A) → R x y → Chain S (f x) (f y))
    → (x z : A) → Chain R x z → Chain S (f x) (f z)
Chain-mono R S f step x z c = Leads-mono R S f step x z c.0 c.1

pub Leads-sym : {A : Type 0} (R : A → A → Type 0) → ((x y : A) → R x y → R y x)
    → (x z : A) (xs : List A) → Leads R x xs z → Chain R z x
Leads-sym R turn x z [] e = ([], sym e)
Leads-sym R turn x z (y ∷ ys) e =
    Chain-append R (Leads-sym R turn y z ys e.1) (Chain-one {R = R} (turn x y e.0))

-- a chain of a symmetric relation leads back too
pub Chain-sym : {A : Type 0} (R : A → A → Type 0) → ((x y : A) → R x y → R y x) → (x z : A) → Chain R x z → Chain R z x
Chain-sym R turn x z c = Leads-sym R turn x z c.0 c.1
