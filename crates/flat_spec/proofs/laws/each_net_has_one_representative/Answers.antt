use Rattle.flat_spec.specs.Representatives.{representative}
use Rattle.flat_spec.proofs.RepresentativeLemmas.{representative-first, representative-connected, representative-same, IsRepresentative-same}
use Rattle.flat_spec.proofs.laws.each_net_has_one_representative.Goals as goal

pub returns : goal.returns
returns c = record {
  first = λ d root x acyclic net.
      let is = representative-first d acyclic root x net in
      (is, λ y other. IsRepresentative-same d root x y (representative d root x) other is);
  same = λ d root x y acyclic x_is y_is.
      (representative-same d acyclic root x y x_is y_is, representative-connected d acyclic root x y y_is);
}
