-- Names that stand twice, as they are looked for from the front.
use Rattle.std.proofs.Common.{◌≡◌, ◌≤◌, ◌<◌, ◌+◌, ◌||◌, ℕ, Bool, true, false, List, [], ◌∷◌, drop, get_or, length, map, refl, ap, ◌∙◌}
use Rattle.std.specs.List.{list_any}
use Rattle.std.proofs.lemmas.List.{drop_all, drop_more}
use Rattle.edit_rules_spec.specs.Find.{is_same}
use Rattle.edit_spec.specs.AddCell.{has_twice}
use Rattle.edit_spec.specs.declared.ops.PortDecl.{PortDecl}

abbrev names : List PortDecl → List (List ℕ)
names ports = map (λ port. port.name) ports

any_mapped : (test : List ℕ → Bool) (ports : List PortDecl) → list_any test (names ports) ≡ list_any (λ port. test port.name) ports
any_mapped test [] = refl
any_mapped test (port ∷ ports) = ap (λ rest. test port.name || rest) (any_mapped test ports)

front : (ports : List PortDecl) (i : ℕ) (d : PortDecl) → i < length ports → has_twice (names (drop i ports)) ≡ (list_any (λ port. is_same (get_or ports i d).name port.name) (drop (i + 1) ports) || has_twice (names (drop (i + 1) ports)))
front ports i d within =
    ap (λ (ps : List PortDecl). has_twice (names ps)) (drop_more ports i d within)
    ∙ ap (λ (b : Bool). b || has_twice (names (drop (i + 1) ports))) (any_mapped (is_same (get_or ports i d).name) (drop (i + 1) ports))

pub twice_here : (ports : List PortDecl) (i : ℕ) (d : PortDecl) → i < length ports → list_any (λ port. is_same (get_or ports i d).name port.name) (drop (i + 1) ports) ≡ true → has_twice (names (drop i ports)) ≡ true
twice_here ports i d within has = front ports i d within ∙ ap (λ (b : Bool). b || has_twice (names (drop (i + 1) ports))) has

pub twice_later : (ports : List PortDecl) (i : ℕ) (d : PortDecl) → i < length ports → list_any (λ port. is_same (get_or ports i d).name port.name) (drop (i + 1) ports) ≡ false → has_twice (names (drop i ports)) ≡ has_twice (names (drop (i + 1) ports))
twice_later ports i d within has = front ports i d within ∙ ap (λ (b : Bool). b || has_twice (names (drop (i + 1) ports))) has

pub none_twice : (ports : List PortDecl) (i : ℕ) → length ports ≤ i → has_twice (names (drop i ports)) ≡ false
none_twice ports i past = ap (λ (ps : List PortDecl). has_twice (names ps)) (drop_all i ports past)
