use Rattle.std.specs.Prelude.{Result, Ok, Err, IfOk}
use Rattle.design_model.proofs.SettledLemmas.{settled-firsts}
use Rattle.design_model.proofs.firsts.list_firsts.Goals as goal

-- what follows from two facts of the value
IfOk-both : {T E : Type 0} (r : Result T E) (P Q R : T → Type 0) → ((x : T) → P x → Q x → R x) → IfOk r P → IfOk r Q → IfOk r R
IfOk-both (Ok x) P Q R both p q = both x p q
IfOk-both (Err e) P Q R both p q = tt

pub returns : goal.returns
returns g c =
    IfOk-both c.label_nets.result _ _ _
    (λ v are settled. settled-firsts (g.S.Shown.design c.args.design.now) c.requires.valid.no_cycle c.args.root c.args.nets.now v.items c.requires.nets are settled)
    c.label_nets.ensures.labels c.label_nets.ensures.settled
