use Rattle.std.proofs.Common.{◌≡◌, Bor, List, ℕ, None, Some, Option, map, sym, ap, subst, ◌∙◌}
use Rattle.std.specs.Prelude.{IfOk, option_and_then}
use Rattle.std.specs.Option.{option_copied}
use Rattle.netlist_schema.specs.Types.{TopHead}
use Rattle.ask_names.specs.Places.{names_in, path_named, places_along}
use Rattle.ask_names.proofs.look.path_in.Goals as goal

pub returns-in_default : goal.returns-in_default
returns-in_default g c =
    let d = g.S.Shown.design c.args.design.now in
    let none : d.top ≡ None = sym c.top.ensures.value ∙ ap option_copied c.in_default.is in
    sym (ap (option_and_then (λ (t : TopHead). places_along d t.cell (names_in c.args.text.now))) none)

pub returns : goal.returns
returns g c =
    let d = g.S.Shown.design c.args.design.now in
    let top : TopHead = c.in-Some.top.now in
    let some : d.top ≡ Some top = sym c.top.ensures.value ∙ ap option_copied c.in-Some.is in
    let named : path_named d c.args.text.now ≡ places_along d top.cell (names_in c.args.text.now) = ap (option_and_then (λ (t : TopHead). places_along d t.cell (names_in c.args.text.now))) some in
    let names = ap (map (λ (x : Bor (List ℕ)). x.now)) c.as_slice.ensures.value ∙ c.in_ok-names.ensures in
    let is = c.in_ok-steps.ensures ∙ ap (places_along d top.cell) names ∙ sym named in
    subst (λ (v : Option (List ℕ)). IfOk c.path_of.result (λ path. path ≡ v)) is c.path_of.ensures
