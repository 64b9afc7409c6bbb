use Rattle.std.proofs.Common.{◌≡◌, rules}
use Rattle.std.specs.List.{HoldsAt}
use Rattle.std.specs.List.Sorted.{IsPartitionPoint}
use Rattle.std.specs.Ordering.{nat_cmp}
use Rattle.std.specs.declared.cmp.Ordering.TheVariants.{Less, Equal, Greater}
use Rattle.std.proofs.lemmas.List.Sorted.{answers_always}
use Rattle.db_version.specs.Shot.{Shot}
use Rattle.db_core.proofs.Shots.{comparisons_rise, none_found, one_found}
use Rattle.db_core.proofs.kept.find.Goals as goal

pub returns-in-Ok : goal.returns-in-Ok
returns-in-Ok c =
    let equal : HoldsAt (λ (k : Shot). nat_cmp k.version c.args.version ≡ Equal) c.args.versions.now c.in-Ok.at =
    c.in-Ok.ensures.position (λ (k : Shot). k.version) (answers_always _ _ _ (λ f a r h called. search rules)) in
    one_found c.args.versions.now c.args.version c.in-Ok.at c.index-versions-at.result c.in-Ok.ensures.bound c.index-versions-at.is (equal c.index-versions-at.result)

pub returns-in-Err : goal.returns-in-Err
returns-in-Err c =
    let parted : IsPartitionPoint (λ (k : Shot). nat_cmp k.version c.args.version ≡ Less) (λ (k : Shot). nat_cmp k.version c.args.version ≡ Greater) c.args.versions.now c.in-Err.field-0 =
    c.in-Err.ensures.position (λ (k : Shot). k.version) (answers_always _ _ _ (λ f a r h called. search rules)) (comparisons_rise c.args.versions.now c.args.version c.requires) in
    none_found c.args.versions.now c.args.version c.in-Err.field-0 parted
