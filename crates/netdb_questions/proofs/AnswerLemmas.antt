-- Answers from what names lead to, and refusals that go up as they came.
use Rattle.std.proofs.Common.{◌≡◌, ℕ, List, Option, Some, None, Result, Ok, Err, Bool, inr, ap, refl}
use Rattle.std.specs.Prelude.{◌↔◌, IfOk}
use Rattle.netlist_schema.specs.Design.{Design}
use Rattle.flat_spec.specs.Types.{Item, NetAt}
use Rattle.ask_spec.specs.Nets.{first_of, is_same_net}
use Rattle.ask_spec.specs.Roles.{pins_as}
use Rattle.ask_spec.specs.declared.role.Role.{Role}
use Rattle.netdb_questions.specs.Answers.{BeginsAt, BeginsPins, FindsFirst, FindsNet, FindsOccurrence, FindsSame, IsAnsweredBy, IsSameAs, IsThere, IsToldOf}
use Rattle.netdb_questions.specs.Lists.{IsListAt, IsListOf, IsListOfPins, left_of}
use Rattle.netdb_questions.specs.Named.{IsBitNamed, IsNetNamed, IsPathNamed, LeadsTo}
use Rattle.netdb_questions.specs.declared.finding.PortAt.{PortAt}
use Rattle.netdb_questions.specs.declared.finding.Refusal.{Refusal}
use Rattle.netdb_questions.specs.declared.finding.Refusal.TheVariants as no
use Rattle.netdb_questions.specs.declared.lists.Begun.{Begun}
use Rattle.netdb_questions.proofs.LeadLemmas.{not_none}

-- what holds of what a call gave
pub if_ok_more : {A E : Type 0} {P Q : A → Type 0} (r : Result A E) → ((a : A) → P a → Q a) → IfOk r P → IfOk r Q
if_ok_more (Ok a) more is = more a is
if_ok_more (Err e) more is = tt

-- an error that did not come of one call did not come of another that worked
pub ok_no_err : {A B E : Type 0} {P : Type 0} (a : A) (b : B) (e : E) → ((Ok a ≡ Err e) ↔ P) → ((Ok b ≡ Err e) ↔ P)
ok_no_err {A} {B} {E} a b e is = (
  (λ (same : Ok b ≡ Err e). absurd (cc same)),
  (λ p. (let same : Ok a ≡ Err e = is.1 p in absurd (cc same))),
)

module _ (d : Design) (text : List ℕ) where
  -- where there is no path, there is no net and no bit
  pub no_such_net : (name : List ℕ) (refusal : Refusal) → IsPathNamed d text (Err refusal) → IsNetNamed d text name (Err refusal)
  no_such_net name no.NoPath is = is
  no_such_net name no.NoName is = absurd is
  no_such_net name no.NoNet is = absurd is
  no_such_net name no.NoMemory is = is

  pub no_such_bit : (name : List ℕ) (bit : ℕ) (refusal : Refusal) → IsPathNamed d text (Err refusal) → IsBitNamed d text name bit (Err refusal)
  no_such_bit name bit no.NoPath is = is
  no_such_bit name bit no.NoName is = absurd is
  no_such_bit name bit no.NoNet is = absurd is
  no_such_bit name bit no.NoMemory is = is

  pub net_refused : (side : Design → List ℕ → ℕ → ℕ → Option NetAt) (name : List ℕ) (bit : ℕ) (refusal : Refusal)
      → IsBitNamed d text name bit (Err refusal) → FindsNet side d text name bit (Err refusal)
  net_refused side name bit no.NoPath is = is
  net_refused side name bit no.NoName is = is
  net_refused side name bit no.NoNet is = absurd is
  net_refused side name bit no.NoMemory is = is

  -- an occurrence to which the text leads
  pub there_found : (path : List ℕ) (r : Result Item Refusal) → LeadsTo d text path → IsThere d path r → FindsOccurrence d text r
  there_found path (Ok item) leads is = (path, is.0, leads, is.1, is.2)
  there_found path (Err no.NoPath) leads is = absurd (not_none _ leads.there is)
  there_found path (Err no.NoName) leads is = absurd is
  there_found path (Err no.NoNet) leads is = absurd is
  there_found path (Err no.NoMemory) leads is = is

  -- a net at a bit that is named
  pub net_answered : (side : Design → List ℕ → ℕ → ℕ → Option NetAt) (name : List ℕ) (bit : ℕ) (found : PortAt) (r : Result Item Refusal)
      → IsBitNamed d text name bit (Ok found) → IsAnsweredBy (side d found.path found.port bit) r → FindsNet side d text name bit r
  net_answered side name bit found r named answered = go (side d found.path found.port bit) refl r answered
    where
      go : (o : Option NetAt) → side d found.path found.port bit ≡ o → (r : Result Item Refusal) → IsAnsweredBy o r → FindsNet side d text name bit r
      go (Some x) at (Ok item) is = (found, named, (x, at, is))
      go (Some x) at (Err no.NoPath) is = absurd is
      go (Some x) at (Err no.NoName) is = absurd is
      go (Some x) at (Err no.NoNet) is = absurd is
      go (Some x) at (Err no.NoMemory) is = tt
      go None at (Ok item) is = absurd is
      go None at (Err no.NoPath) is = absurd is
      go None at (Err no.NoName) is = absurd is
      go None at (Err no.NoNet) is = (found, named, at)
      go None at (Err no.NoMemory) is = tt

  -- the first of those connected with a net that is named
  pub first_answered : (name : List ℕ) (x : NetAt) (r : Result Item Refusal) → IsNetNamed d text name (Ok x) → IsAnsweredBy (Some (first_of d x)) r → FindsFirst d text name r
  first_answered name x (Ok item) named is = (x, named, is)
  first_answered name x (Err no.NoPath) named is = absurd is
  first_answered name x (Err no.NoName) named is = absurd is
  first_answered name x (Err no.NoNet) named is = absurd is
  first_answered name x (Err no.NoMemory) named is = tt

  pub same_told : (name : List ℕ) (x y : NetAt) (r : Result Bool Refusal) → IsNetNamed d text name (Ok y) → IsToldOf (is_same_net d x y) r → IsSameAs d x text name r
  same_told name x y (Ok same) named is = (y, named, is)
  same_told name x y (Err no.NoPath) named is = absurd is
  same_told name x y (Err no.NoName) named is = absurd is
  same_told name x y (Err no.NoNet) named is = absurd is
  same_told name x y (Err no.NoMemory) named is = tt

  pub same_answered : (name other_text other_name : List ℕ) (x : NetAt) (r : Result Bool Refusal) → IsNetNamed d text name (Ok x) → IsSameAs d x other_text other_name r
      → FindsSame d text name other_text other_name r
  same_answered name other_text other_name x (Ok same) named is = (x, is.0, named, is.1, is.2)
  same_answered name other_text other_name x (Err refusal) named is = inr (x, named, is)

  -- lists
  pub pins_listed : (role : Role) (name : List ℕ) (x : NetAt) (r : Result Begun Refusal) → IsNetNamed d text name (Ok x) → IsListOf d (pins_as role d x) r → IsListOfPins d role text name r
  pins_listed role name x (Ok list) named is = (x, named, is)
  pins_listed role name x (Err no.NoPath) named is = absurd is
  pins_listed role name x (Err no.NoName) named is = absurd is
  pins_listed role name x (Err no.NoNet) named is = absurd is
  pins_listed role name x (Err no.NoMemory) named is = tt

  module _ (number : ℕ) (left : Option (List Item)) (list : Begun) where
    pub pins_begun : (role : Role) (name : List ℕ) → IsListOfPins d role text name (Ok list)
        → BeginsPins (record { version = record { version = number; design = d }; left = left }) (record { version = record { version = number; design = d }; left = left_of d list })
        role text name (Ok tt)
    pins_begun role name is = (is.0, is.1, ap (λ (l : Option (List Item)). record { version = record { version = number; design = d }; left = l }) is.2)

    pub items_begun : (items : Design → List ℕ → List Item) → IsListAt items d text (Ok list)
        → BeginsAt items (record { version = record { version = number; design = d }; left = left }) (record { version = record { version = number; design = d }; left = left_of d list })
        text (Ok tt)
    items_begun items is = (is.0, is.1, ap (λ (l : Option (List Item)). record { version = record { version = number; design = d }; left = l }) is.2)
