use Rattle.db_share.proofs.Keeping as lemma
use Rattle.db_share.proofs.laws.calls_keep_pins.Goals as goal

pub returns : goal.returns
returns c = record {
  pin = λ db old new r ready. lemma.keeps_pinned db old new ready r;
  pin_at = λ db old new version r ready. lemma.keeps_pinned_at db old new ready version r;
  collect = λ db old new r ready. lemma.keeps_collected db old new ready r;
  commit = λ db old new tx r ready. lemma.keeps_committed db old new ready tx r;
  release = λ db old new released pin ready. lemma.keeps_others db old new ready released pin;
}
