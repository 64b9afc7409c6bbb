-- Files that were read one after the other, and how far.
use Rattle.std.proofs.Common.{◌≡◌, ◌<◌, ◌+◌, inl, inr, List, [], ◌∷◌, ◌++◌, length, get_or, take, drop, refl, ap, sym, ◌∙◌, subst, arith, append_assoc, String, string_bytes, Global}
use Prim.Native.Nat.{ℕ, suc}
use Rattle.std.specs.Prelude.{MatchResult, Result, Ok, Err}
use Rattle.std.proofs.lemmas.List.{length-map, length-take-le, map-append, take-append-drop}
use Rattle.netlist_schema.specs.declared.limits.TheConstants.{MOST_FILE_BYTES}
use Rattle.netdb_outside.specs.Visits.{AddsVisit, AtEnd, IsVisit, Visit}
use Rattle.edif_spec.specs.Design.{Design}
use Rattle.script_spec.specs.ScriptText.{Parts, steps_of}
use Rattle.edif_spec.specs.Files.{IsDesignFile}
use Rattle.netdb_spec.specs.Command.{spelled}
use Rattle.netdb_spec.specs.Steps.{IsNoDesign, IsNoScript}
use Rattle.netdb_spec.specs.Told.{IsScriptFile}
use Rattle.netdb_spec.specs.Visits.{Adds, AreReadToEnd, AreReadUpTo, FileReads, IsReadToEnd, Reading, StopsAt, design_file, script_file, script_files}
use Rattle.script_spec.specs.declared.limits.TheConstants.{MOST_SCRIPT_BYTES}
use Rattle.netdb_spec.specs.declared.status.Status.{Status}
use Rattle.netdb_spec.specs.declared.status.Status.TheVariants as status
use Rattle.netdb_commands.proofs.InputLemmas.{names_parted, names_up_to}

-- ---- one file

-- a file that was read to its end, whatever its bytes say
no_design_visited : (name bytes : List ℕ) (result : Status) (visit : Visit) → IsNoDesign bytes result → IsVisit name MOST_FILE_BYTES AtEnd visit → StopsAt (design_file name) 1 result visit
no_design_visited name bytes status.Ok visit h read = absurd h
no_design_visited name bytes status.Usage visit h read = absurd h
no_design_visited name bytes (status.Missing word) visit h read = absurd h
no_design_visited name bytes (status.ReadFault word) visit h read = absurd h
no_design_visited name bytes status.WriteFault visit h read = absurd h
no_design_visited name bytes (status.BadEdif fault) visit h read = (refl, read)
no_design_visited name bytes (status.BadScript word line) visit h read = absurd h
no_design_visited name bytes (status.TooLarge word) visit h read = absurd h
no_design_visited name bytes status.NoTop visit h read = absurd h
no_design_visited name bytes status.LogFull visit h read = absurd h
no_design_visited name bytes status.NoMemory visit h read = (read.named, omega (arith, read.within))

pub design_visited : (old new : List Visit → Type 0) (name bytes : List ℕ) (r : Result Design Status) → MatchResult r (IsDesignFile bytes) (IsNoDesign bytes)
    → AddsVisit old new (IsVisit name MOST_FILE_BYTES AtEnd) → AddsVisit old new (FileReads (design_file name) 1 r)
design_visited old new name bytes (Ok d) h read = read
design_visited old new name bytes (Err result) h read = λ before start.
    let next = read before start in (next.0, no_design_visited name bytes result next.0 h next.1, next.2)

no_script_visited : (name bytes : List ℕ) (at : ℕ) (result : Status) (visit : Visit) → IsNoScript bytes at result → IsVisit name MOST_SCRIPT_BYTES AtEnd visit → StopsAt (script_file name) at result visit
no_script_visited name bytes at status.Ok visit h read = absurd h
no_script_visited name bytes at status.Usage visit h read = absurd h
no_script_visited name bytes at (status.Missing word) visit h read = absurd h
no_script_visited name bytes at (status.ReadFault word) visit h read = absurd h
no_script_visited name bytes at status.WriteFault visit h read = absurd h
no_script_visited name bytes at (status.BadEdif fault) visit h read = absurd h
no_script_visited name bytes at (status.BadScript word line) visit h read = (h.0, read)
no_script_visited name bytes at (status.TooLarge word) visit h read = absurd h
no_script_visited name bytes at status.NoTop visit h read = absurd h
no_script_visited name bytes at status.LogFull visit h read = absurd h
no_script_visited name bytes at status.NoMemory visit h read = (read.named, omega (arith, read.within))

pub script_visited : (old new : List Visit → Type 0) (name bytes : List ℕ) (at : ℕ) (r : Result Parts Status)
    → MatchResult r (λ script. IsScriptFile bytes (steps_of script.lines)) (IsNoScript bytes at)
    → AddsVisit old new (IsVisit name MOST_SCRIPT_BYTES AtEnd) → AddsVisit old new (FileReads (script_file name) at r)
script_visited old new name bytes at (Ok script) h read = read
script_visited old new name bytes at (Err result) h read = λ before start.
    let next = read before start in (next.0, no_script_visited name bytes at result next.0 h next.1, next.2)

-- ---- one file after the other

read_more : (files : List Reading) (visits : List Visit) (file : Reading) (visit : Visit) → AreReadToEnd files visits → IsReadToEnd file visit → AreReadToEnd (files ++ file ∷ []) (visits ++ visit ∷ [])
read_more [] [] file visit h k = (k, tt)
read_more [] (other ∷ visits) file visit h k = absurd h
read_more (other ∷ files) [] file visit h k = absurd h
read_more (other ∷ files) (before ∷ visits) file visit h k = (h.0, read_more files visits file visit h.1 k)

stopped_behind : (files : List Reading) (visits : List Visit) (file : Reading) (rest : List Reading) (at : ℕ) (result : Status) (visit : Visit)
    → AreReadToEnd files visits → StopsAt file (at + length files) result visit → AreReadUpTo (files ++ file ∷ rest) at result (visits ++ visit ∷ [])
stopped_behind [] [] file rest at result visit h k =
    let e : at + 0 ≡ at = omega arith in inl (subst (λ n. StopsAt file n result visit) e k, refl)
stopped_behind [] (other ∷ visits) file rest at result visit h k = absurd h
stopped_behind (other ∷ files) [] file rest at result visit h k = absurd h
stopped_behind (other ∷ files) (before ∷ visits) file rest at result visit h k =
    let e : at + length (other ∷ files) ≡ at + 1 + length files = omega arith in
    inr (h.0, stopped_behind files visits file rest (at + 1) result visit h.1 (subst (λ n. StopsAt file n result visit) e k))

starved_behind : (files : List Reading) (visits : List Visit) (rest : List Reading) (at : ℕ) → AreReadToEnd files visits → AreReadUpTo (files ++ rest) at status.NoMemory visits
starved_behind [] [] [] at h = refl
starved_behind [] [] (file ∷ rest) at h = refl
starved_behind [] (visit ∷ visits) rest at h = absurd h
starved_behind (file ∷ files) [] rest at h = absurd h
starved_behind (file ∷ files) (visit ∷ visits) rest at h = inr (h.0, starved_behind files visits rest (at + 1) h.1)

-- one script more was read
pub visits_one_more : (old mid new : List Visit → Type 0) (names : List (String Global)) (i : ℕ) (name : String Global) → i < length names → name ≡ get_or names i name
    → Adds old mid (AreReadToEnd (script_files (spelled (take i names)))) → AddsVisit mid new (IsReadToEnd (script_file (string_bytes name)))
    → Adds old new (AreReadToEnd (script_files (spelled (take (i + 1) names))))
visits_one_more old mid new names i name less is read one before start =
    let front = spelled (take i names) in
    let first = read before start in
    let next = one (before ++ first.0) first.2 in
    let up : script_files (spelled (take (i + 1) names)) ≡ script_files front ++ script_file (string_bytes name) ∷ [] =
    ap script_files (names_up_to names i name less is) ∙ map-append script_file front (string_bytes name ∷ []) in (
      first.0 ++ next.0 ∷ [],
      subst (λ (files : List Reading). AreReadToEnd files (first.0 ++ next.0 ∷ [])) (sym up) (read_more (script_files front) first.0 (script_file (string_bytes name)) next.0 first.1 next.1),
      subst new (append_assoc before first.0 (next.0 ∷ [])) next.2,
    )

-- the script at a place was refused
pub visits_stopped : (old mid new : List Visit → Type 0) (names : List (String Global)) (i : ℕ) (name : String Global) (at : ℕ) (result : Status) → i < length names → name ≡ get_or names i name
    → Adds old mid (AreReadToEnd (script_files (spelled (take i names)))) → AddsVisit mid new (StopsAt (script_file (string_bytes name)) (i + at) result)
    → Adds old new (AreReadUpTo (script_files (spelled names)) at result)
visits_stopped old mid new names i name at result less is read one before start =
    let front = spelled (take i names) in
    let rest = spelled (drop (suc i) names) in
    let first = read before start in
    let next = one (before ++ first.0) first.2 in
    let count : length (script_files front) ≡ i =
    length-map front script_file ∙ (length-map (take i names) string_bytes ∙ length-take-le i names (omega (arith, less))) in
    let place : i + at ≡ at + length (script_files front) = omega (arith, count) in
    let parts : script_files (spelled names) ≡ script_files front ++ script_file (string_bytes name) ∷ script_files rest =
    ap script_files (names_parted names i name less is) ∙ map-append script_file front (string_bytes name ∷ rest) in (
      first.0 ++ next.0 ∷ [],
      subst (λ (files : List Reading). AreReadUpTo files at result (first.0 ++ next.0 ∷ [])) (sym parts)
          (stopped_behind (script_files front) first.0 (script_file (string_bytes name)) (script_files rest) at result next.0 first.1
          (subst (λ n. StopsAt (script_file (string_bytes name)) n result next.0) place next.1)),
      subst new (append_assoc before first.0 (next.0 ∷ [])) next.2,
    )

-- there was no memory behind the scripts up to a place
pub visits_starved : (old new : List Visit → Type 0) (names : List (String Global)) (i at : ℕ) → Adds old new (AreReadToEnd (script_files (spelled (take i names))))
    → Adds old new (AreReadUpTo (script_files (spelled names)) at status.NoMemory)
visits_starved old new names i at read before start =
    let first = read before start in
    let parts : script_files (spelled names) ≡ script_files (spelled (take i names)) ++ script_files (spelled (drop i names)) =
    ap (λ (ns : List (String Global)). script_files (spelled ns)) (sym (take-append-drop i names))
    ∙ (ap script_files (map-append string_bytes (take i names) (drop i names)) ∙ map-append script_file (spelled (take i names)) (spelled (drop i names))) in (
      first.0,
      subst (λ (files : List Reading). AreReadUpTo files at status.NoMemory first.0) (sym parts)
          (starved_behind (script_files (spelled (take i names))) first.0 (script_files (spelled (drop i names))) at first.1),
      first.2,
    )
