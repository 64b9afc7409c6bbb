use Rattle.std.proofs.Common.{◌≡◌, drop, map}
use Rattle.ask_names.specs.Places.{places_along}
use Rattle.ask_names.proofs.AlongLemmas.{ahead}
use Rattle.ask_names.proofs.look.places_along.Given as goal

-- the places so far, and then those along the names that are left
abbrev pub invariant-loop-name : goal.invariant-loop-name
invariant-loop-name g l =
    places_along (g.S.Shown.design l.design) l.fn.root (map (λ x. x.now) l.names)
    ≡ ahead l.steps.items (places_along (g.S.Shown.design l.design) l.cell (map (λ x. x.now) (drop l.name-index l.names)))
