-- Contents, from the instances and the nets that are read.
use Rattle.std.proofs.Common.{◌≡◌, ℕ, List, [], ◌∷◌, map, refl, sym, subst, inl, inr, Option}
use Rattle.edif_spelling_spec.specs.Tree.{Bare, Placed, bare}
use Rattle.edif_spec.specs.Design as design
use Rattle.edif_spec.specs.Keyword.{Follower, Many}
use Rattle.edif_spec.specs.Rows.{Each, those}
use Rattle.edif_spec.specs.Faults.{followers}
use Rattle.edif_spec.specs.Means.{MeansInst, MeansNet}
use Rattle.edif_spec.specs.Stands.{ContentsFault, insts_in, nets_in}
use Rattle.edif_spec.specs.Stands as stands
use Rattle.edif_spec.specs.declared.keyword.Keyword.TheVariants as keywords
use Rattle.edif_spec.specs.declared.fault.MeaningFault.{MeaningFault}
use Rattle.edif_spec.proofs.KnownCells.{parts_bare}
use Rattle.edif_contents.specs.Inners.{InstsFault, ReadInsts}
use Rattle.edif_contents.specs.Insides.{ReadContents}
use Rattle.edif_contents.specs.Nets.{NetsFaultIn, ReadNets}
use Rattle.edif_grammar.specs.Forms.{ArePartsOf}
use Rattle.edif_contents.specs.declared.ends.Surroundings.{Surroundings}
use Rattle.edif_grammar.specs.declared.lent.Form.{Form}
use Rattle.edif_contents.specs.declared.insts.Insts.{Insts}
use Rattle.edif_grammar.proofs.FormLemmas.{fit0}

abbrev follows : List Follower
follows = Many keywords.Instance ∷ Many keywords.Net ∷ Many keywords.Comment ∷ Many keywords.UserData ∷ []

-- what is wrong with the instances
pub insts_fail : (libs : List design.Lib) (own : Option ℕ) (ports : List design.Port) (t : Placed) (f : MeaningFault) → InstsFault libs own (insts_in t) f → ContentsFault libs own ports t f
insts_fail libs own ports t f (inl b) = stands.contents_inst b
insts_fail libs own ports t f (inr (inl b)) = stands.inst_again b
insts_fail libs own ports t f (inr (inr b)) = stands.many_insts b

-- the instances, seen with places
each_inst : (libs : List design.Lib) (own : Option ℕ) (t : Placed) (xs : List design.Inst) → Each (MeansInst libs own) (those keywords.Instance (map bare (followers keywords.Contents t))) xs → Each (MeansInst libs own) (map bare (insts_in t)) xs
each_inst libs own t xs h = let P : List Bare → Type 0 = λ v. Each (MeansInst libs own) v xs in subst P (sym (parts_bare keywords.Contents keywords.Instance t)) h

-- what is wrong with the nets, where the instances are meant
pub nets_fail : (s : Surroundings) (own : Option ℕ) (t : Placed) (r : Insts) (f : MeaningFault) → ReadInsts s.libs.now.libs own (followers keywords.Contents t) r → s.insts.now ≡ r.list.items → NetsFaultIn s (nets_in t) f → ContentsFault s.libs.now.libs own s.ports.now t f
nets_fail s own t r f a e b =
    let P : List design.Inst → Type 0 = λ v. Each (MeansInst s.libs.now.libs own) (map bare (insts_in t)) v in
    go (subst P (sym e) (each_inst s.libs.now.libs own t r.list.items a.mean)) b
  where
    go : Each (MeansInst s.libs.now.libs own) (map bare (insts_in t)) s.insts.now → NetsFaultIn s (nets_in t) f → ContentsFault s.libs.now.libs own s.ports.now t f
    go m (inl b) = stands.contents_nets (stands.one_net s.insts.now m b)
    go m (inr (inl b)) = stands.contents_nets (stands.end_again s.insts.now m b)
    go m (inr (inr (inl b))) = stands.net_again b
    go m (inr (inr (inr (inl b)))) = stands.many_nets b
    go m (inr (inr (inr (inr b)))) = stands.many_ends b

-- the contents
pub contents_read : (s : Surroundings) (own : Option ℕ) (t : Placed) (p : Form) (r : Insts) (nets : List design.Net) (i : design.Contents) → ArePartsOf keywords.Contents t p → ReadInsts s.libs.now.libs own (followers keywords.Contents t) r → s.insts.now ≡ r.list.items
    → ReadNets s (followers keywords.Contents t) nets → i.insts ≡ r.list.items → i.nets ≡ nets → ReadContents s.libs.now.libs own s.ports.now t i
contents_read s own t p r nets i a x e y d n =
    let f = fit0 keywords.Contents follows t refl refl refl a.fits in
    let P : List design.Inst → Type 0 = λ v. Each (MeansNet s.libs.now.libs s.ports.now v) (those keywords.Net (map bare (followers keywords.Contents t))) y.rows in
    let made : design.Contents = record { insts = r.list.items; nets = nets } in
    let whole : ReadContents s.libs.now.libs own s.ports.now t made = record {
      mean = record { inner = map bare (followers keywords.Contents t); form = f.form; insts = x.mean; rows = y.rows; written = subst P e y.mean; nets = y.nets };
      typed = record { insts = λ k z l. (x.fine k z l).0; nets = λ k z l. (y.fine k z l).0 };
      insts = x.count;
      nets = y.count;
      ends = y.ends;
      inst_names = x.distinct;
      net_names = y.names;
      inst_keys = λ k z l. (x.fine k z l).1;
      net_keys = λ k z l. (y.fine k z l).1;
      joined_once = y.joined_once;
    } in
    let same : made ≡ i = λ j. record { insts = sym d j; nets = sym n j } in
    let Q : design.Contents → Type 0 = λ v. ReadContents s.libs.now.libs own s.ports.now t v in
    subst Q same whole
