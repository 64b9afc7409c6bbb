use Rattle.std.proofs.Common.{subst, OnOk}
use Rattle.db_version.specs.Shot.{Shot}
use Rattle.flat_csv_spec.specs.PinTable.{pin_table}
use Rattle.netdb_outside.specs.Outside.{Appends}
use Rattle.netdb_view.proofs.view.View.csv.Goals as goal

pub returns-clause-ok : goal.returns-clause-ok
returns-clause-ok g c =
    subst (λ (v : Shot). OnOk c.write_pin_table.result (Appends (g.K.Sink.written c.args.out.now) (g.K.Sink.written c.write_pin_table.new.out) (pin_table v.design)))
    c.version-version.ensures c.write_pin_table.ensures.ok
