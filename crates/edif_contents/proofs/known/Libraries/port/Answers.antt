use Rattle.std.proofs.Common.{ℕ, List, sym, subst}
use Rattle.edif_spec.specs.Means.{meant}
use Rattle.edif_names.specs.declared.scope.Meant.TheVariants as answers
use Rattle.edif_parts.specs.Names.{Tells}
use Rattle.edif_contents.proofs.KnownLemmas.{no_ports, port_names}
use Rattle.edif_contents.proofs.known.Libraries.port.Goals as goal

pub returns-in-Some : goal.returns-in-Some
returns-in-Some c =
    let P : List (List ℕ) → Type 0 = λ v. Tells (meant v c.args.name.now) c.meant.result in
    subst P (port_names c.args.self.now.libs c.args.id c.in-Some.ports.now c.in-Some.ensures.some) c.meant.ensures

pub returns-in-None : goal.returns-in-None
returns-in-None c =
    let P : List (List ℕ) → Type 0 = λ v. Tells (meant v c.args.name.now) answers.Absent in
    subst P (sym (no_ports c.args.self.now.libs c.args.id c.in-None.ensures.none)) tt
