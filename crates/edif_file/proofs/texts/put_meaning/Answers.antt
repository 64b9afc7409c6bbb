use Rattle.std.proofs.Common.{ap, codes}
use Rattle.edif_spec.specs.FaultText.{at_place}
use Rattle.edif_file.proofs.TextLemmas.{then_put}
use Rattle.edif_file.proofs.texts.put_meaning.Goals as goal

pub returns-in_ok-extend_from_slice-in-NotInProfile : goal.returns-in_ok-extend_from_slice-in-NotInProfile
returns-in_ok-extend_from_slice-in-NotInProfile c =
    rw c.in-NotInProfile.is
    (then_put c.put_at.result c.args.out.now.items c.extend_from_slice.new.self.items c.put_at.new.out.items (codes "NotInProfile ")
    (at_place c.as_slice.result.now c.in-NotInProfile.place) (at_place c.in-NotInProfile.keyword c.in-NotInProfile.place)
    c.in_ok-extend_from_slice-in-NotInProfile.ensures.items (ap (λ k. at_place k c.in-NotInProfile.place) c.as_slice.ensures.value) c.put_at.ensures)
