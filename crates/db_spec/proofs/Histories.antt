-- Histories in parts, and the versions that stay along them.
use Rattle.std.proofs.Common.{◌≡◌, ℕ, ◌-◌, ◌≤◌, List, [], ◌∷◌, ◌++◌, length, slice_index_or, refl, ap, sym, ◌∙◌, subst, arith, ◌↔◌}
use Rattle.std.proofs.lemmas.List.{get_or_append_left, append-nil, append_assoc}
use Rattle.netlist_schema.specs.Design.{Design}
use Rattle.netlist_schema.specs.Types.{Object}
use Rattle.edit_spec.specs.Needs.{Written}
use Rattle.db_spec.specs.declared.event.Call.{Call}
use Rattle.db_spec.specs.declared.event.Call.TheVariants.{Release, Collect, Commit}
use Rattle.db_spec.specs.declared.event.Answer.{Answer}
use Rattle.db_spec.specs.declared.event.Answer.TheVariants.{Pinned, Released, Collected, Committed}
use Rattle.db_spec.specs.declared.event.Event.{Event}
use Rattle.db_spec.specs.State.{State, Version, opening, head, version, design, IsWritten, next_version, changed, after}
use Rattle.db_spec.specs.Answers.{Admits}
use Rattle.db_spec.specs.History.{IsLegalFrom, Legal, state_from, state_after, version_at}

pub state_from-append : (s : State) (xs ys : List Event) → state_from s (xs ++ ys) ≡ state_from (state_from s xs) ys
state_from-append s [] ys = refl
state_from-append s (x ∷ xs) ys = state_from-append (after s x) xs ys

pub state_after-push : (d : Design) (xs : List Event) (x : Event) → state_after d (xs ++ x ∷ []) ≡ after (state_after d xs) x
state_after-push d xs x = state_from-append (opening d) xs (x ∷ [])

pub legal-join : (s : State) (xs ys : List Event) → IsLegalFrom s xs → IsLegalFrom (state_from s xs) ys → IsLegalFrom s (xs ++ ys)
legal-join s [] ys p q = q
legal-join s (x ∷ xs) ys p q = (p.0, legal-join (after s x) xs ys p.1 q)

pub legal-left : (s : State) (xs ys : List Event) → IsLegalFrom s (xs ++ ys) → IsLegalFrom s xs
legal-left s [] ys p = tt
legal-left s (x ∷ xs) ys p = (p.0, legal-left (after s x) xs ys p.1)

pub legal-right : (s : State) (xs ys : List Event) → IsLegalFrom s (xs ++ ys) → IsLegalFrom (state_from s xs) ys
legal-right s [] ys p = p
legal-right s (x ∷ xs) ys p = legal-right (after s x) xs ys p.1

pub legal-push : (d : Design) (xs : List Event) (x : Event) → Legal d xs → Admits (state_after d xs) x → Legal d (xs ++ x ∷ [])
legal-push d xs x p a = legal-join (opening d) xs (x ∷ []) p (a, tt)

pub legal_by_parts : (d : Design) (xs ys : List Event) → Legal d (xs ++ ys) ↔ (Legal d xs × IsLegalFrom (state_after d xs) ys)
legal_by_parts d xs ys = (λ p. (legal-left (opening d) xs ys p, legal-right (opening d) xs ys p), λ p. legal-join (opening d) xs ys p.0 p.1)

pub one_more_is_legal : (d : Design) (xs : List Event) (x : Event) → Legal d (xs ++ x ∷ []) ↔ (Legal d xs × Admits (state_after d xs) x)
one_more_is_legal d xs x = (λ p. (legal-left (opening d) xs (x ∷ []) p, (legal-right (opening d) xs (x ∷ []) p).0), λ p. legal-push d xs x p.0 p.1)

-- what holds at the opening and is kept by each event that may come holds after each legal history
pub along : (P : State → Type 0) → ((s : State) (x : Event) → P s → Admits s x → P (after s x)) → (s : State) (xs : List Event) → P s → IsLegalFrom s xs → P (state_from s xs)
along P kept s [] h legal = h
along P kept s (x ∷ xs) h legal = along P kept (after s x) xs (kept s x h legal.0) legal.1

-- the later state has all versions of the earlier one
pub record GoesOn (s t : State) : Type 0 where
  pub first : t.first ≡ s.first
  pub more : List Version
  pub commits : t.commits ≡ s.commits ++ more

goes_on_same : (s t : State) → t.first ≡ s.first → t.commits ≡ s.commits → GoesOn s t
goes_on_same s t first commits = record { first = first; more = []; commits = commits ∙ sym (append-nil s.commits) }

goes_on_changed : (s : State) (caller : ℕ) (call : Call) (answer : Answer) → GoesOn s (changed s caller call answer)
goes_on_changed s caller call (Pinned number v) = goes_on_same s (changed s caller call (Pinned number v)) refl refl
goes_on_changed s caller (Release number) Released = goes_on_same s (changed s caller (Release number) Released) refl refl
goes_on_changed s caller Collect (Collected count) = goes_on_same s (changed s caller Collect (Collected count)) refl refl
goes_on_changed s caller (Commit number ops) (Committed v replies) = record { first = refl; more = next_version s ops ∷ []; commits = refl }
goes_on_changed s caller call answer = goes_on_same s s refl refl

pub goes_on_after : (s : State) (x : Event) → GoesOn s (after s x)
goes_on_after s x =
    let r = goes_on_changed s x.caller x.call x.answer in
    record { first = r.first; more = r.more; commits = r.commits }

goes_on_trans : (s t u : State) → GoesOn s t → GoesOn t u → GoesOn s u
goes_on_trans s t u p q = record {
  first = q.first ∙ p.first;
  more = p.more ++ q.more;
  commits = q.commits ∙ (ap (λ (cs : List Version). cs ++ q.more) p.commits ∙ append_assoc s.commits p.more q.more);
}

pub goes_on_from : (s : State) (xs : List Event) → GoesOn s (state_from s xs)
goes_on_from s [] = goes_on_same s s refl refl
goes_on_from s (x ∷ xs) = goes_on_trans s (after s x) (state_from (after s x) xs) (goes_on_after s x) (goes_on_from (after s x) xs)

abbrev at : Design → List Version → ℕ → Version
at f cs v = slice_index_or (record { design = f; made_by = [] } ∷ cs) v (record { design = f; made_by = [] })

at-append : (f : Design) (cs more : List Version) (v : ℕ) → v ≤ length cs → at f (cs ++ more) v ≡ at f cs v
at-append f cs more v le = get_or_append_left (record { design = f; made_by = [] } ∷ cs) more (record { design = f; made_by = [] }) v (omega arith)

-- a version of the earlier state is that of the later one
pub same_version : (s t : State) (v : ℕ) → GoesOn s t → v ≤ head s → version t v ≡ version s v
same_version s t v p le =
    ap (λ (f : Design). at f t.commits v) p.first ∙ (ap (λ (cs : List Version). at s.first cs v) p.commits ∙ at-append s.first s.commits p.more v le)

pub version_stays : (d : Design) (xs ys : List Event) (v : ℕ) → v ≤ head (state_after d xs) → version_at d (xs ++ ys) v ≡ version_at d xs v
version_stays d xs ys v le =
    ap (λ (s : State). design s v) (state_from-append (opening d) xs ys)
    ∙ ap (λ (w : Version). w.design) (same_version (state_after d xs) (state_from (state_after d xs) ys) v (goes_on_from (state_after d xs) ys) le)

-- the object is in the written set of the commit that made the second of two versions, one after the other
abbrev Wrote : Object → Version → Version → Type 0
Wrote object before next = Written before.design next.made_by object

written_same : (s t : State) (w : ℕ) (object : Object) → GoesOn s t → w ≤ head s → IsWritten t w object ↔ IsWritten s w object
written_same s t w object p le =
    let before : version t (w - 1) ≡ version s (w - 1) = same_version s t (w - 1) p (omega arith) in
    let next : version t w ≡ version s w = same_version s t w p le in (
      λ is. subst (λ (x : Version). Wrote object x (version s w)) before (subst (λ (x : Version). Wrote object (version t (w - 1)) x) next is),
      λ is. subst (λ (x : Version). Wrote object x (version t w)) (sym before) (subst (λ (x : Version). Wrote object (version s (w - 1)) x) (sym next) is),
    )

pub written_stays : (d : Design) (xs ys : List Event) (w : ℕ) (object : Object) → w ≤ head (state_after d xs) → IsWritten (state_after d (xs ++ ys)) w object ↔ IsWritten (state_after d xs) w object
written_stays d xs ys w object le =
    let same = state_from-append (opening d) xs ys in
    let both = written_same (state_after d xs) (state_from (state_after d xs) ys) w object (goes_on_from (state_after d xs) ys) le in (
      λ is. both.0 (subst (λ (s : State). IsWritten s w object) same is),
      λ is. subst (λ (s : State). IsWritten s w object) (sym same) (both.1 is),
    )
