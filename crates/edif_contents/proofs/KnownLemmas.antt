-- Libraries with the names of their cells, as they grow at the end.
use Rattle.std.proofs.Common.{◌≡◌, ℕ, zero, suc, ◌-◌, ◌<◌, ◌≤◌, List, [], ◌∷◌, ◌++◌, map, length, refl, sym, ap, ◌∙◌, subst, Option, None, Some, arith, Result, Ok, Err}
use Rattle.std.specs.Prelude.{slice_get, slice_set, slice_index_or, option_map, unwrap_or, IfNone, IfOk, IfSome, OnErr}
use Rattle.std.specs.List.{AllZip, Contains}
use Rattle.std.specs.Option.{option_map_or}
use Rattle.std.proofs.lemmas.List.{length-map, map-append}
use Rattle.netlist_schema.proofs.Lists.{zip_length}
use Rattle.netlist_schema.specs.Names.{AreDistinct}
use Rattle.std.proofs.lemmas.Option.{slice_get_past, slice_get-map}
use Rattle.edif_spec.specs.Design as design
use Rattle.edif_spec.specs.Means.{meant}
use Rattle.edif_spec.proofs.NetFaultsApart.{zip_append}
use Rattle.edif_names.specs.declared.scope.Meant.{Meant}
use Rattle.edif_names.specs.declared.scope.Meant.TheVariants as answers
use Rattle.edif_parts.specs.Names.{ids, Tells, DefinesName}
use Rattle.edif_parts.proofs.NameLists.{ids_named}
use Rattle.edif_contents.specs.Known.{KnownLibs, NamedLib, last_names, with_cell, OpensLib, AddsTo, AddsCell}
use Rattle.edif_contents.specs.NamesOf.{AreNamesOf, AreNamesThere}

-- what contracts see
abbrev pub seen : List NamedLib → List (List ℕ × ℕ) → KnownLibs
seen ls names = record { libs = map (λ (l : NamedLib). l.lib) ls; lib_names = names; cell_names = last_names ls }

-- an item is pushed, or none
abbrev pub Pushed : {A : Type 0} → Option ℕ → A → List A → List A → Type 0
Pushed None x old new = new ≡ old ++ x ∷ []
Pushed (Some earlier) x old new = new ≡ old

-- an element that is read at its place
pub get_at : {A : Type 0} (xs : List A) (i : ℕ) (x : A) → i < length xs → x ≡ slice_index_or xs i x → slice_get xs i ≡ Some x
get_at [] i x l e = absurd (omega arith)
get_at (y ∷ xs) zero x l e = ap Some (sym e)
get_at (y ∷ xs) (suc i) x l e = get_at xs i x (omega arith) e

-- the names of libraries, and of the cells of one
pub heads_are : (ls : List NamedLib) → map (λ (l : NamedLib). l.lib.head.name.id) ls ≡ design.lib_ids (map (λ (l : NamedLib). l.lib) ls)
heads_are [] = refl
heads_are (l ∷ ls) = ap (λ v. l.lib.head.name.id ∷ v) (heads_are ls)

abbrev cells_of : Option design.Lib → List (List ℕ)
cells_of o = unwrap_or (option_map (λ (lib : design.Lib). map (λ (cell : design.CellBody). cell.name.id) lib.cells) o) []

pub tells_cell : (ls : List NamedLib) (i : ℕ) (l : NamedLib) (name : List ℕ) (r : Meant) → i < length ls → l ≡ slice_index_or ls i l → ids l.names ≡ map (λ (c : design.CellBody). c.name.id) l.lib.cells
    → Tells (meant (ids l.names) name) r → Tells (meant (design.cell_ids (map (λ (l : NamedLib). l.lib) ls) i) name) r
tells_cell ls i l name r b e k h =
    let P : List (List ℕ) → Type 0 = λ v. Tells (meant v name) r in
    let at : slice_get (map (λ (l : NamedLib). l.lib) ls) i ≡ Some l.lib = slice_get-map (λ (l : NamedLib). l.lib) ls i ∙ ap (option_map (λ (l : NamedLib). l.lib)) (get_at ls i l b e) in
    subst P (k ∙ sym (ap cells_of at)) h

pub tells_none : (ls : List NamedLib) (i : ℕ) (name : List ℕ) → length ls ≤ i → Tells (meant (design.cell_ids (map (λ (l : NamedLib). l.lib) ls) i) name) answers.Absent
tells_none ls i name b =
    let P : List (List ℕ) → Type 0 = λ v. Tells (meant v name) answers.Absent in
    let at : slice_get (map (λ (l : NamedLib). l.lib) ls) i ≡ None = slice_get-map (λ (l : NamedLib). l.lib) ls i ∙ ap (option_map (λ (l : NamedLib). l.lib)) (slice_get_past ls i b) in
    subst P (sym (ap cells_of at)) tt

-- the last one
pub last_pushed : (ls : List NamedLib) (l : NamedLib) → last_names (ls ++ l ∷ []) ≡ l.names
last_pushed [] l = refl
last_pushed (m ∷ []) l = refl
last_pushed (m ∷ n ∷ ls) l = last_pushed (n ∷ ls) l

pub with_pushed : (ls : List design.Lib) (l : design.Lib) (body : design.CellBody) → with_cell (ls ++ l ∷ []) body ≡ ls ++ record { head = l.head; cells = l.cells ++ body ∷ [] } ∷ []
with_pushed [] l body = refl
with_pushed (m ∷ []) l body = refl
with_pushed (m ∷ n ∷ ls) l body = ap (λ v. m ∷ v) (with_pushed (n ∷ ls) l body)

-- opening a library
pub opens : (old : KnownLibs) (ls new : List NamedLib) (names more : List (List ℕ × ℕ)) (head : design.LibHead) (place : ℕ) → seen ls names ≡ old → DefinesName names head.name.id place more None
    → new ≡ ls ++ record { lib = record { head = head; cells = [] }; names = [] } ∷ [] → OpensLib old head place (seen new more) None
opens old ls new names more head place v d e =
    let l : NamedLib = record { lib = record { head = head; cells = [] }; names = [] } in
    let libs : map (λ (l : NamedLib). l.lib) new ≡ map (λ (l : NamedLib). l.lib) ls ++ l.lib ∷ [] = ap (map (λ (l : NamedLib). l.lib)) e ∙ map-append (λ (l : NamedLib). l.lib) ls (l ∷ []) in
    let last : last_names new ≡ [] = ap last_names e ∙ last_pushed ls l in
    let P : KnownLibs → Type 0 = λ w. OpensLib w head place (seen new more) None in
    subst P v (d.0, λ i. record { libs = libs i; lib_names = d.1 i; cell_names = last i })

pub stays : (old : KnownLibs) (ls new : List NamedLib) (names more : List (List ℕ × ℕ)) (head : design.LibHead) (place earlier : ℕ) → seen ls names ≡ old → DefinesName names head.name.id place more (Some earlier)
    → new ≡ ls → OpensLib old head place (seen new more) (Some earlier)
stays old ls new names more head place earlier v d e =
    let P : KnownLibs → Type 0 = λ w. OpensLib w head place (seen new more) (Some earlier) in
    subst P v (d.0, λ i. seen (e i) (d.1 i))

-- one library, with a further cell
abbrev pub named : design.LibHead → List design.CellBody → List (List ℕ × ℕ) → NamedLib
named head cells names = record { lib = record { head = head; cells = cells }; names = names }

pub added : (old : NamedLib) (head : design.LibHead) (cells new : List design.CellBody) (names more : List (List ℕ × ℕ)) (body : design.CellBody) (name : List ℕ) (place : ℕ) → named head cells names ≡ old → name ≡ body.name.id
    → DefinesName names name place more None → new ≡ cells ++ body ∷ [] → AddsTo old body place (named head new more) None
added old head cells new names more body name place v k d e =
    let P : NamedLib → Type 0 = λ w. AddsTo w body place (named head new more) None in
    let Q : List ℕ → Type 0 = λ w. DefinesName names w place more None in
    let h : DefinesName names body.name.id place more None = subst Q k d in
    subst P v (h.0, λ i. named head (e i) (h.1 i))

pub kept : (old : NamedLib) (head : design.LibHead) (cells new : List design.CellBody) (names more : List (List ℕ × ℕ)) (body : design.CellBody) (name : List ℕ) (place earlier : ℕ) → named head cells names ≡ old → name ≡ body.name.id
    → DefinesName names name place more (Some earlier) → new ≡ cells → AddsTo old body place (named head new more) (Some earlier)
kept old head cells new names more body name place earlier v k d e =
    let P : NamedLib → Type 0 = λ w. AddsTo w body place (named head new more) (Some earlier) in
    let Q : List ℕ → Type 0 = λ w. DefinesName names w place more (Some earlier) in
    let h : DefinesName names body.name.id place more (Some earlier) = subst Q k d in
    subst P v (h.0, λ i. named head (e i) (h.1 i))

-- one more item where its name was not there earlier
pub pushed : {A : Type 0} (o : Option ℕ) (x y : A) (old mid new : List A) → IfNone o (new ≡ mid ++ y ∷ []) → IfSome o (λ _. new ≡ mid) → mid ≡ old → y ≡ x → Pushed o x old new
pushed None x y old mid new n s m e = n ∙ (ap (λ v. v ++ y ∷ []) m ∙ ap (λ v. old ++ v ∷ []) e)
pushed (Some earlier) x y old mid new n s m e = s ∙ m

-- the names of items, where one more is pushed or none
pub ids_grown : {A : Type 0} (g : A → List ℕ) (old new : List A) (x : A) (names more : List (List ℕ × ℕ)) (place : ℕ) (o : Option ℕ) → DefinesName names (g x) place more o → Pushed o x old new → ids names ≡ map g old → ids more ≡ map g new
ids_grown g old new x names more place None d e i = ap ids d.1 ∙ (ids_named g names old x place i ∙ sym (ap (map g) e))
ids_grown g old new x names more place (Some earlier) d e i = ap ids d.1 ∙ (i ∙ sym (ap (map g) e))

pub opened : (old : KnownLibs) (ls new : List NamedLib) (names more : List (List ℕ × ℕ)) (head : design.LibHead) (place : ℕ) (o : Option ℕ) → seen ls names ≡ old → DefinesName names head.name.id place more o
    → Pushed o (named head [] []) ls new → OpensLib old head place (seen new more) o
opened old ls new names more head place None v d e = opens old ls new names more head place v d e
opened old ls new names more head place (Some earlier) v d e = stays old ls new names more head place earlier v d e

pub grown : (old : NamedLib) (head : design.LibHead) (cells new : List design.CellBody) (names more : List (List ℕ × ℕ)) (body : design.CellBody) (name : List ℕ) (place : ℕ) (o : Option ℕ) → named head cells names ≡ old → name ≡ body.name.id
    → DefinesName names name place more o → Pushed o body cells new → AddsTo old body place (named head new more) o
grown old head cells new names more body name place None v k d e = added old head cells new names more body name place v k d e
grown old head cells new names more body name place (Some earlier) v k d e = kept old head cells new names more body name place earlier v k d e

-- The last library, and those before it.
record LastOf (ls : List NamedLib) (i : ℕ) (l : NamedLib) : Type 0 where
  pub front : List NamedLib
  pub is : ls ≡ front ++ l ∷ []
  pub set : (m : NamedLib) → slice_set ls i m ≡ front ++ m ∷ []

last_of : (ls : List NamedLib) (i : ℕ) (l : NamedLib) → suc i ≡ length ls → l ≡ slice_index_or ls i l → LastOf ls i l
last_of [] i l b e = absurd (omega arith)
last_of (n ∷ []) zero l b e = record { front = []; is = ap (λ v. v ∷ []) (sym e); set = λ m. refl }
last_of (n ∷ []) (suc i) l b e = absurd (omega arith)
last_of (n ∷ o ∷ ls) zero l b e = absurd (omega arith)
last_of (n ∷ o ∷ ls) (suc i) l b e = let r = last_of (o ∷ ls) i l (omega arith) e in record { front = n ∷ r.front; is = ap (λ v. n ∷ v) r.is; set = λ m. ap (λ v. n ∷ v) (r.set m) }

-- a cell at the end of the last library
pub adds : (old : KnownLibs) (ls : List NamedLib) (n : ℕ) (names : List (List ℕ × ℕ)) (l m : NamedLib) (body : design.CellBody) (place : ℕ) (o : Option ℕ) → seen ls names ≡ old → n ≡ length ls → 0 < n → l ≡ slice_index_or ls (n - 1) l
    → AddsTo l body place m o → AddsCell old body place (seen (slice_set ls (n - 1) m) names) o
adds old ls n names l m body place o v c b e a =
    let Q : KnownLibs → Type 0 = λ w. AddsCell w body place (seen (slice_set ls (n - 1) m) names) o in
    let r = last_of ls (n - 1) l (omega (arith, c, b)) e in
    subst Q v (go r (r.set m) o a)
  where
    was : LastOf ls (n - 1) l → last_names ls ≡ l.names
    was r = ap last_names r.is ∙ last_pushed r.front l

    libs : (r : LastOf ls (n - 1) l) → map (λ (l : NamedLib). l.lib) ls ≡ map (λ (l : NamedLib). l.lib) r.front ++ l.lib ∷ []
    libs r = ap (map (λ (l : NamedLib). l.lib)) r.is ∙ map-append (λ (l : NamedLib). l.lib) r.front (l ∷ [])

    go : (r : LastOf ls (n - 1) l) → slice_set ls (n - 1) m ≡ r.front ++ m ∷ [] → (o : Option ℕ) → AddsTo l body place m o → AddsCell (seen ls names) body place (seen (slice_set ls (n - 1) m) names) o
    go r s None a =
        let F : List (List ℕ × ℕ) → Type 0 = λ v. ¬ Contains (ids v) body.name.id in
        let k : design.Lib = record { head = l.lib.head; cells = l.lib.cells ++ body ∷ [] } in
        let new : map (λ (l : NamedLib). l.lib) (slice_set ls (n - 1) m) ≡ with_cell (map (λ (l : NamedLib). l.lib) ls) body =
        ap (map (λ (l : NamedLib). l.lib)) s ∙ map-append (λ (l : NamedLib). l.lib) r.front (m ∷ []) ∙ ap (λ (v : NamedLib). map (λ (l : NamedLib). l.lib) r.front ++ v.lib ∷ []) a.1
        ∙ sym (ap (λ v. with_cell v body) (libs r) ∙ with_pushed (map (λ (l : NamedLib). l.lib) r.front) l.lib body) in
        let last : last_names (slice_set ls (n - 1) m) ≡ last_names ls ++ (body.name.id, place) ∷ [] = ap last_names s ∙ last_pushed r.front m ∙ ap (λ (v : NamedLib). v.names) a.1 ∙ ap (λ v. v ++ (body.name.id, place) ∷ []) (sym (was r)) in
        (subst F (sym (was r)) a.0, λ i. record { libs = new i; lib_names = names; cell_names = last i })
    go r s (Some earlier) a =
        let F : List (List ℕ × ℕ) → Type 0 = λ v. Contains v (body.name.id, earlier) in
        let same : slice_set ls (n - 1) m ≡ ls = s ∙ ap (λ v. r.front ++ v ∷ []) a.1 ∙ sym r.is in
        (subst F (sym (was r)) a.0, ap (λ v. seen v names) same)

head_of : (l m : NamedLib) (body : design.CellBody) (place : ℕ) (o : Option ℕ) → AddsTo l body place m o → m.lib.head ≡ l.lib.head
head_of l m body place None a = ap (λ (v : NamedLib). v.lib.head) a.1
head_of l m body place (Some earlier) a = ap (λ (v : NamedLib). v.lib.head) a.1

pub head_stays : {E : Type 0} (l m : NamedLib) (body : design.CellBody) (place : ℕ) (r : Result (Option ℕ) E) → IfOk r (λ o. AddsTo l body place m o) → OnErr r (m ≡ l) → m.lib.head ≡ l.lib.head
head_stays l m body place (Ok o) h k = head_of l m body place o h
head_stays l m body place (Err e) h k = ap (λ (v : NamedLib). v.lib.head) k

pub if_ok : {A E : Type 0} (P Q : A → Type 0) (r : Result A E) → ((x : A) → P x → Q x) → IfOk r P → IfOk r Q
if_ok P Q (Ok x) f h = f x h
if_ok P Q (Err e) f h = h

-- the names of libraries stay
pub heads_stay : (ls : List NamedLib) (n : ℕ) (names : List (List ℕ × ℕ)) (l m : NamedLib) → n ≡ length ls → 0 < n → l ≡ slice_index_or ls (n - 1) l → m.lib.head ≡ l.lib.head
    → ids names ≡ map (λ (l : NamedLib). l.lib.head.name.id) ls → ids names ≡ map (λ (l : NamedLib). l.lib.head.name.id) (slice_set ls (n - 1) m)
heads_stay ls n names l m c b e h i =
    let r = last_of ls (n - 1) l (omega (arith, c, b)) e in
    i ∙ ap (map (λ (l : NamedLib). l.lib.head.name.id)) r.is ∙ map-append (λ (l : NamedLib). l.lib.head.name.id) r.front (l ∷ [])
    ∙ ap (λ (v : design.LibHead). map (λ (l : NamedLib). l.lib.head.name.id) r.front ++ v.name.id ∷ []) (sym h)
    ∙ sym (map-append (λ (l : NamedLib). l.lib.head.name.id) r.front (m ∷ []))
    ∙ sym (ap (map (λ (l : NamedLib). l.lib.head.name.id)) (r.set m))

pub counted : (old : KnownLibs) (ls : List NamedLib) (names : List (List ℕ × ℕ)) (l m : NamedLib) (n : ℕ) → seen ls names ≡ old → 0 < length ls → l ≡ slice_index_or ls (length ls - 1) l → m ≡ l → ids m.names ≡ map (λ (c : design.CellBody). c.name.id) m.lib.cells
    → n ≡ length m.lib.cells → n ≡ length old.cell_names
counted old ls names l m n v b e k i c =
    let r = last_of ls (length ls - 1) l (omega (arith, b)) e in
    let last : last_names ls ≡ l.names = ap last_names r.is ∙ last_pushed r.front l in
    let count : length m.lib.cells ≡ length m.names = sym (length-map m.lib.cells (λ (c : design.CellBody). c.name.id)) ∙ ap length (sym i) ∙ length-map m.names (λ (x : List ℕ × ℕ). x.0) in
    c ∙ count ∙ ap (λ (w : NamedLib). length w.names) k ∙ ap length (sym last) ∙ ap (λ (w : KnownLibs). length w.cell_names) v

-- The names in the cells of a library: with one more cell, in the same lists, and at a place.
pub zip_pushed : (ns : List (List (List ℕ × ℕ))) (cs : List design.CellBody) (n : List (List ℕ × ℕ)) (c : design.CellBody) → AllZip AreNamesOf ns cs → AreNamesOf n c → AllZip AreNamesOf (ns ++ n ∷ []) (cs ++ c ∷ [])
zip_pushed ns cs n c h a = zip_append AreNamesOf ns cs (n ∷ []) (c ∷ []) h (a, tt)

pub zip_still : (cs more : List design.CellBody) (ns others : List (List (List ℕ × ℕ))) → more ≡ cs → others ≡ ns → AllZip AreNamesOf ns cs → AllZip AreNamesOf others more
zip_still cs more ns others d e h =
    let P : List design.CellBody → Type 0 = λ v. AllZip AreNamesOf others v in
    let Q : List (List (List ℕ × ℕ)) → Type 0 = λ v. AllZip AreNamesOf v cs in
    subst P (sym d) (subst Q (sym e) h)

pub names_there : (ns : List (List (List ℕ × ℕ))) (cs : List design.CellBody) (i : ℕ) (n : List (List ℕ × ℕ)) → AllZip AreNamesOf ns cs → slice_get ns i ≡ Some n → AreNamesThere (slice_get cs i) n
names_there [] cs i n h e = absurd (cc e)
names_there (m ∷ ns) [] i n h e = absurd h
names_there (m ∷ ns) (c ∷ cs) zero n h e =
    let P : List (List ℕ × ℕ) → Type 0 = λ v. AreNamesOf v c in
    let w : m ≡ n = cc e in
    record { cell = c; there = refl; names = subst P w h.0 }
names_there (m ∷ ns) (c ∷ cs) (suc i) n h e = names_there ns cs i n h.1 e

pub no_names : (ns : List (List (List ℕ × ℕ))) (cs : List design.CellBody) (i : ℕ) → AllZip AreNamesOf ns cs → length ns ≤ i → slice_get cs i ≡ None
no_names ns cs i h l = slice_get_past cs i (let e = zip_length AreNamesOf ns cs h in omega (arith, e, l))

-- a cell of a library that is there
abbrev cell_in : Option design.Lib → ℕ → Option design.CellBody
cell_in o slot = slice_get (option_map_or (λ (lib : design.Lib). lib.cells) o []) slot

pub cell_there : (ls : List NamedLib) (id : design.CellId) (l : NamedLib) → id.lib.0 < length ls → l ≡ slice_index_or ls id.lib.0 l → design.cell_at (map (λ (l : NamedLib). l.lib) ls) id ≡ slice_get l.lib.cells id.slot
cell_there ls id l b e =
    let at : slice_get (map (λ (l : NamedLib). l.lib) ls) id.lib.0 ≡ Some l.lib = slice_get-map (λ (l : NamedLib). l.lib) ls id.lib.0 ∙ ap (option_map (λ (l : NamedLib). l.lib)) (get_at ls id.lib.0 l b e) in
    ap (λ o. cell_in o id.slot) at

pub no_cell : (ls : List NamedLib) (id : design.CellId) → length ls ≤ id.lib.0 → design.cell_at (map (λ (l : NamedLib). l.lib) ls) id ≡ None
no_cell ls id b =
    let at : slice_get (map (λ (l : NamedLib). l.lib) ls) id.lib.0 ≡ None = slice_get-map (λ (l : NamedLib). l.lib) ls id.lib.0 ∙ ap (option_map (λ (l : NamedLib). l.lib)) (slice_get_past ls id.lib.0 b) in
    ap (λ o. cell_in o id.slot) at

-- the names of the ports of a cell that is there, and of one that is not, and the same of the instances, which differ
abbrev ports_in : Option design.CellBody → List (List ℕ)
ports_in o = design.port_ids (unwrap_or (option_map (λ (c : design.CellBody). c.ports) o) [])

abbrev insts_in : Option design.CellBody → List (List ℕ)
insts_in o = design.inst_ids (unwrap_or (option_map design.insts_of o) [])

pub port_names : (libs : List design.Lib) (id : design.CellId) (n : List (List ℕ × ℕ)) → AreNamesThere (design.cell_at libs id) n → ids n ≡ design.port_ids (design.ports_at libs id)
port_names libs id n h = h.names.ports ∙ ap ports_in (sym h.there)

pub insts_differ : (libs : List design.Lib) (id : design.CellId) (n : List (List ℕ × ℕ)) → AreNamesThere (design.cell_at libs id) n → AreDistinct (design.inst_ids (design.insts_at libs id))
insts_differ libs id n h =
    let P : List (List ℕ) → Type 0 = λ v. AreDistinct v in
    subst P (ap insts_in (sym h.there)) h.names.insts

pub no_ports : (libs : List design.Lib) (id : design.CellId) → design.cell_at libs id ≡ None → design.port_ids (design.ports_at libs id) ≡ []
no_ports libs id e = ap ports_in e

pub no_insts : (libs : List design.Lib) (id : design.CellId) → design.cell_at libs id ≡ None → design.inst_ids (design.insts_at libs id) ≡ []
no_insts libs id e = ap insts_in e
