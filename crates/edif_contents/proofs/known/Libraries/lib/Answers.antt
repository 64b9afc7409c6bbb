use Rattle.std.proofs.Common.{ℕ, List, ◌∙◌, subst, ap}
use Rattle.edif_spec.specs.Design as design
use Rattle.edif_spec.specs.Means.{meant}
use Rattle.edif_parts.specs.Names.{Tells}
use Rattle.edif_contents.specs.Known.{KnownLibs}
use Rattle.edif_contents.proofs.KnownLemmas.{heads_are}
use Rattle.edif_contents.proofs.known.Libraries.lib.Goals as goal

pub returns : goal.returns
returns c =
    let P : List (List ℕ) → Type 0 = λ v. Tells (meant v c.args.name.now) c.meant.result in
    subst P (c.self.invariant ∙ heads_are c.self.inside.libs.items ∙ ap (λ (v : KnownLibs). design.lib_ids v.libs) c.self.view_is) c.meant.ensures
