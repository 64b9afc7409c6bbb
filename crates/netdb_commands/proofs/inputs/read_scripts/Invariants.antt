use Rattle.std.proofs.Common.{◌≡◌, take, vec_len}
use Rattle.netdb_outside.specs.Outside.{SameFiles}
use Rattle.script_run_spec.specs.Scripts.{all_steps}
use Rattle.netdb_spec.specs.Command.{spelled}
use Rattle.netdb_spec.specs.Told.{AreRead, IsLastRead}
use Rattle.netdb_spec.specs.Visits.{Adds, AreReadToEnd, script_files}
use Rattle.netdb_commands.proofs.inputs.read_scripts.Given as goal

abbrev pub invariant-loop-place : goal.invariant-loop-place
invariant-loop-place g l =
    AreRead (g.F.Files.told l.files) (spelled (take l.place l.names)) (all_steps l.scripts.items)
    × IsLastRead (g.F.Files.told l.files) (spelled (take l.place l.names))
    × (g.F.Files.faults l.files ≡ g.F.Files.faults l.fn.files)
    × SameFiles (g.F.Files.told l.fn.files) (g.F.Files.told l.files)
    × (vec_len l.scripts ≡ l.place)
    × Adds (g.F.Files.visits l.fn.files) (g.F.Files.visits l.files) (AreReadToEnd (script_files (spelled (take l.place l.names))))
