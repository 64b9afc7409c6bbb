use Rattle.edif_tree.specs.Handles.{all}
use Rattle.edif_build.specs.Files.{FollowersFail, ReadBody}
use Rattle.edif_parts.proofs.Answering.{hand_on}
use Rattle.edif_build.proofs.FileLemmas.{no_libraries}
use Rattle.edif_build.proofs.file.read_body.Goals as goal

pub read_followers-requires-clause-known : goal.read_followers-requires-clause-known
read_followers-requires-clause-known c = no_libraries c.new-libs.result c.new-libs.ensures

pub returns-in_err-top : goal.returns-in_err-top
returns-in_err-top c =
    let ts = all c.args.form.inner in
    hand_on (λ b. ReadBody ts b.libs b.top) (FollowersFail ts) (FollowersFail ts) c.from_residual.result c.in_err-top.field-0.0 c.from_residual.ensures.1 (λ f b. b) c.in_err-top.ensures

pub returns : goal.returns
returns c = (c.read_followers.new.libs, c.in_ok-top.ensures, c.in_ok-libs.ensures)
