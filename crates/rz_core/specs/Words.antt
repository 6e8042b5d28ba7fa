-- The forms of the command line: a verb, and what each word behind it says.
use Rattle.std.specs.Prelude.{ℕ, Bool, not, ◌&&◌, if◌then◌else◌, nat_le, List, [], ◌∷◌, ◌++◌, length, codes, bytes_eq, Option, Some, None, option_map, option_and_then, Result, Ok, Err}
use Rattle.std.specs.List.{list_all, list_any}
use Rattle.std.specs.Result.{result_ok}
use Rattle.rz_text.specs.Number.{decimal, hexadecimal}
use Rattle.rz_paths.specs.declared.level.Level.{Level}
use Rattle.rz_paths.specs.declared.level.Level.TheVariants as level
use Rattle.rz_core.specs.declared.plan.Demand.{Demand}
use Rattle.rz_core.specs.declared.plan.Demand.TheVariants as demand
use Rattle.rz_core.specs.declared.plan.Wanted.{Wanted}
use Rattle.rz_core.specs.declared.plan.Verb.{Verb}
use Rattle.rz_core.specs.declared.plan.Verb.TheVariants as verb
use Rattle.rz_core.specs.declared.plan.Values.{Values}
use Rattle.rz_core.specs.declared.forms.Place.{Place}
use Rattle.rz_core.specs.declared.forms.Place.TheVariants as place
use Rattle.rz_core.specs.declared.forms.TheConstants.{DEBLOAT, CHECK, DISASM, GENERATE, RUN, TRACE, REPLAY, REPORT, DEMO, FUNCTIONS, LABEL}

-- ---- what the words say

-- a verb, the values that are no names, the files that are read and those that are written, in order
pub record Planned : Type 0 where
  pub verb : Verb
  pub values : Values
  pub reads : List Wanted
  pub writes : List (List ℕ)

-- before the first word behind the verb
abbrev pub no_values : Values
no_values = record { number = 0; address = 0; level = level.Exact }

abbrev pub begun : Verb → Planned
begun v = record { verb = v; values = no_values; reads = []; writes = [] }

abbrev pub wanted : List ℕ → Demand → Wanted
wanted name demand = record { name = name; demand = demand }

abbrev pub reading : List ℕ → Demand → Planned → Planned
reading name d p = record { verb = p.verb; values = p.values; reads = p.reads ++ (wanted name d ∷ []); writes = p.writes }

abbrev pub writing : List ℕ → Planned → Planned
writing name p = record { verb = p.verb; values = p.values; reads = p.reads; writes = p.writes ++ (name ∷ []) }

abbrev pub valued : Values → Planned → Planned
valued v p = record { verb = p.verb; values = v; reads = p.reads; writes = p.writes }

abbrev pub numbered : ℕ → Values → Values
numbered n v = record { number = n; address = v.address; level = v.level }

abbrev pub addressed : ℕ → Values → Values
addressed a v = record { number = v.number; address = a; level = v.level }

abbrev pub levelled : Level → Values → Values
levelled l v = record { number = v.number; address = v.address; level = l }

-- ---- what each word says

-- a name is any word that isn't empty
abbrev pub is_name : List ℕ → Bool
is_name word = nat_le 1 (length word)

-- 1 to 1024 names
abbrev pub are_inputs : List (List ℕ) → Bool
are_inputs words = nat_le 1 (length words) && nat_le (length words) 1024 && list_all is_name words

-- how much is kept beyond what the runs recorded
abbrev pub level_of : List ℕ → Option Level
level_of word =
    if bytes_eq word (codes "exact") then Some level.Exact
    else if bytes_eq word (codes "zcode") then Some level.Zcode
    else if bytes_eq word (codes "zcall") then Some level.Zcall
    else if bytes_eq word (codes "zlib") then Some level.Zlib
    else if bytes_eq word (codes "zfunc") then Some level.Zfunc
    else None

-- a number from 1 to the greatest one
abbrev pub number_to : ℕ → Result ℕ ℕ → Option ℕ
number_to greatest (Ok n) = if nat_le 1 n && nat_le n greatest then Some n else None
number_to greatest (Err place) = None

-- in decimal
abbrev pub number_of : ℕ → List ℕ → Option ℕ
number_of greatest word = number_to greatest (decimal word)

-- an address, in hexadecimal
abbrev pub address_of : List ℕ → Option ℕ
address_of word = result_ok (hexadecimal word)

abbrev pub with_read : List ℕ → Demand → Planned → Option Planned
with_read word d p = if is_name word then Some (reading word d p) else None

-- the name of a class file, or - where there is none
abbrev pub with_classes : List ℕ → Planned → Option Planned
with_classes word p = if bytes_eq word (codes "-") then Some p else with_read word demand.ClassFile p

abbrev pub is_among : List ℕ → List (List ℕ) → Bool
is_among word names = list_any (λ name. bytes_eq name word) names

-- the name of a file that is written; no two are the same
abbrev pub with_write : List ℕ → Planned → Option Planned
with_write word p = if is_name word && not (is_among word p.writes) then Some (writing word p) else None

abbrev pub with_number : ℕ → List ℕ → Planned → Option Planned
with_number greatest word p = option_map (λ n. valued (numbered n p.values) p) (number_of greatest word)

abbrev pub with_address : List ℕ → Planned → Option Planned
with_address word p = option_map (λ a. valued (addressed a p.values) p) (address_of word)

abbrev pub with_level : List ℕ → Planned → Option Planned
with_level word p = option_map (λ l. valued (levelled l p.values) p) (level_of word)

abbrev pub with_inputs : List (List ℕ) → Planned → Planned
with_inputs [] p = p
with_inputs (word ∷ words) p = with_inputs words (reading word demand.Input p)

-- what one word says at its place
abbrev pub said : Place → List ℕ → Planned → Option Planned
said (place.Read d) word p = with_read word d p
said place.Classes word p = with_classes word p
said place.Write word p = with_write word p
said (place.Number greatest) word p = with_number greatest word p
said place.Address word p = with_address word p
said place.Level word p = with_level word p
said place.Inputs word p = None

abbrev pub inputs_filled : List (List ℕ) → Planned → Option Planned
inputs_filled words p = if are_inputs words then Some (with_inputs words p) else None

-- what the words say at these places, or no form; the inputs are all words that are left
abbrev pub filled : List Place → List (List ℕ) → Planned → Option Planned
filled [] [] p = Some p
filled (place.Inputs ∷ places) words p = inputs_filled words p
filled (place ∷ places) (word ∷ words) p = option_and_then (λ next. filled places words next) (said place word p)
filled _ _ p = None

-- ---- the forms

abbrev pub verb_of : List ℕ → Option Verb
verb_of word =
    if bytes_eq word (codes "debloat") then Some verb.Debloat
    else if bytes_eq word (codes "check") then Some verb.Check
    else if bytes_eq word (codes "disasm") then Some verb.Disasm
    else if bytes_eq word (codes "gen") then Some verb.Generate
    else if bytes_eq word (codes "run") then Some verb.Run
    else if bytes_eq word (codes "trace") then Some verb.Trace
    else if bytes_eq word (codes "replay") then Some verb.Replay
    else if bytes_eq word (codes "report") then Some verb.Report
    else if bytes_eq word (codes "demo") then Some verb.Demo
    else if bytes_eq word (codes "functions") then Some verb.Functions
    else if bytes_eq word (codes "label") then Some verb.Label
    else None

abbrev pub places_of : Verb → List Place
places_of verb.Debloat = DEBLOAT
places_of verb.Check = CHECK
places_of verb.Disasm = DISASM
places_of verb.Generate = GENERATE
places_of verb.Run = RUN
places_of verb.Trace = TRACE
places_of verb.Replay = REPLAY
places_of verb.Report = REPORT
places_of verb.Demo = DEMO
places_of verb.Functions = FUNCTIONS
places_of verb.Label = LABEL

-- the form that the words have, if any
abbrev pub form_of : List (List ℕ) → Option Planned
form_of [] = None
form_of (word ∷ words) = option_and_then (λ v. filled (places_of v) words (begun v)) (verb_of word)
