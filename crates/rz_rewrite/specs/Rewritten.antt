-- What the added parts hold where a file is rewritten: the fragments of the kept nodes, the tables of the sites among them, the
-- lookup routine, and the stubs.
use Rattle.std.specs.Prelude.{◌≡◌, ℕ, ◌+◌, ◌-◌, ◌*◌, ◌<◌, ◌≤◌, if◌then◌else◌, max, List, [], ◌∷◌, ◌++◌, length, map, true, Option, Some, None}
use Rattle.std.specs.Option.{option_map}
use Rattle.rz_isa.specs.declared.rows.Row.{Row}
use Rattle.rz_isa.specs.declared.rows.Form.{Form}
use Rattle.rz_isa.specs.declared.fragment_list.Fragments.{Fragments}
use Rattle.rz_isa.specs.Decoded.{decoded}
use Rattle.rz_isa.specs.Items.{item_count, first_number, fragment_number, beside}
use Rattle.rz_isa.specs.Nodes.{Decoder, is_site_at}
use Rattle.rz_image.specs.Memory.{zeros}
use Rattle.rz_isa.specs.Plan.{place, code_end, IsPlan, IsLeastPlan}
use Rattle.rz_elf.specs.Elf.{Image, image_of}
use Rattle.rz_elf.specs.AddedRange.{scratch_size, tables_size, code_size, stubs_size, lowest, page_floor, filled}
use Rattle.rz_elf.specs.PlainImage.{IsPlainImage}
use Rattle.rz_elf.specs.WrittenFile.{Parts, written_file}
use Rattle.rz_machine.specs.Kept.{Kept, has_node, sorted, targets_of}
use Rattle.rz_machine.specs.Tables.{site_steps, binary_digits}
use Rattle.rz_machine.specs.Nodes.{code_in, IsPlausible}
use Rattle.rz_machine.specs.Added.{Places, sites, node_count, site_count, site_edge_count, added, layout_of}
use Rattle.rz_machine.specs.Pace.{Paced, Costs}
use Rattle.rz_machine.specs.Placement.{IsPlaced}
use Rattle.rz_machine.specs.Start.{start, HasHeapRoom}
use Rattle.rz_machine.specs.WrittenFile.{IsAdded}
use Rattle.rz_emit.specs.Emitted.{code_bytes}
use Rattle.rz_rewrite.specs.Fragments.{fragments, all_tables}
use Rattle.rz_rewrite.specs.Reach.{first_out_of_reach}
use Rattle.rz_sys.specs.declared.input.Input.{Input}

-- ---- what a new file can be written for

-- a kept set that could be left by traces of the image
abbrev pub CanRewrite : Decoder → Image → Kept → Type 0
CanRewrite dec x kept = IsPlausible dec (code_in x.loads) x.entry kept

-- what the kept instructions name relative to RIP is in reach from the added range
abbrev pub IsInReach : Decoder → Image → Kept → Type 0
IsInReach dec x kept = first_out_of_reach dec (code_in x.loads) (sorted kept.nodes) ≡ None

-- the parts fit below the lowest load
abbrev pub HasRoom : Decoder → Image → Kept → Type 0
HasRoom dec x kept =
    let n = node_count kept in
    let j = site_count dec x kept in
    let e = site_edge_count dec x kept in
    scratch_size + tables_size j e + code_size n j e + stubs_size n ≤ page_floor (lowest x.loads)

-- all of it, for a plain image that leaves room for a heap
pub record IsFit (dec : Decoder) (x : Image) (kept : Kept) : Type 0 where
  pub plain : IsPlainImage x
  pub heap : HasHeapRoom x
  pub plausible : CanRewrite dec x kept
  pub reach : IsInReach dec x kept
  pub room : HasRoom dec x kept

-- ---- what stands in it

-- the fragments of the kept nodes, with the scratch page and the stubs where the added parts have them
abbrev pub fragments_of : Decoder → Image → Kept → Fragments
fragments_of dec x kept = fragments dec (code_in x.loads) (added dec x kept) kept.edges (sorted kept.nodes)

-- where the fragment of an address stands, where the items have these forms
abbrev pub place_or_zero : Option ℕ → ℕ
place_or_zero None = 0
place_or_zero (Some p) = p

abbrev pub place_by : List Row → Fragments → ℕ → List Form → ℕ → ℕ
place_by rows frags base forms a = place_or_zero (option_map (place rows frags base forms) (fragment_number 0 frags.list a))

-- where the fragments, the tables and the routine stand; 0 where there is none
abbrev pub places_by : List Row → Fragments → ℕ → List Form → Places
places_by rows frags base forms =
    record {
      fragment = place_by rows frags base forms;
      table = λ a. place_or_zero (beside frags.tables a);
      routine = place_or_zero (option_map (place rows frags base forms) (first_number (item_count frags.list) frags.routine));
    }

-- the tables part: the tables of the kept sites, and zeros
abbrev pub tables_part : Decoder → Image → Kept → (place : ℕ → ℕ) → List ℕ
tables_part dec x kept place =
    let a = added dec x kept in
    let bytes = all_tables (targets_of kept.edges) place (layout_of dec x kept).stub (sites dec (code_in x.loads) (sorted kept.nodes)) in
    bytes ++ zeros (a.code - a.tables - length bytes)

-- the parts hold the tables, the fragments and the routine by the least plan, and the stubs; the new entry is the
-- fragment of the old one
pub record IsRewritten (rows : List Row) (x : Image) (kept : Kept) (parts : Parts) (entry : ℕ) (forms : List Form) : Type 0 where
  pub parts_added : IsAdded (added (decoded rows) x kept) (sorted kept.nodes) parts entry
  pub plan : IsPlan rows (fragments_of (decoded rows) x kept) (added (decoded rows) x kept).code forms
  pub least : IsLeastPlan rows (fragments_of (decoded rows) x kept) (added (decoded rows) x kept).code forms
  pub ends : code_end rows (fragments_of (decoded rows) x kept) (added (decoded rows) x kept).code forms < (added (decoded rows) x kept).stubs
  pub tables : parts.tables ≡ tables_part (decoded rows) x kept
      (place_by rows (fragments_of (decoded rows) x kept) (added (decoded rows) x kept).code forms)
  pub code : let a = added (decoded rows) x kept in
      parts.code ≡ filled (a.stubs - a.code) (code_bytes rows (fragments_of (decoded rows) x kept) a.code forms)
  pub begins : entry ≡ place_by rows (fragments_of (decoded rows) x kept) (added (decoded rows) x kept).code forms x.entry

-- w is the written file of x with such parts: its code is a function of the least plan, and that is one
pub record IsNewFile (rows : List Row) (x w : List ℕ) (kept : Kept) : Type 0 where
  pub parts : Parts
  pub entry : ℕ
  pub forms : List Form
  pub rewritten : IsRewritten rows (image_of x) kept parts entry forms
  pub file : w ≡ written_file x parts entry

-- the stub of each kept node
abbrev pub stubs_of : Decoder → List ℕ → Kept → List (ℕ × ℕ)
stubs_of dec x kept = map (λ a. (a, (layout_of dec (image_of x) kept).stub a)) (sorted kept.nodes)

-- how many targets a site has; 0 of another address
abbrev pub site_targets : Decoder → Image → (targets : ℕ → List ℕ) → ℕ → ℕ
site_targets dec x targets a = if is_site_at dec (code_in x.loads) a then length (targets a) else 0

-- the most new steps for a step of the original at an address: 64, and 16 for each binary digit of that number
abbrev pub bound_of : Decoder → Image → Kept → ℕ → ℕ
bound_of dec x kept a = site_steps (site_targets dec x (targets_of kept.edges) a)

-- what is loaded of the new file w has the fragment of each kept node where these pairs say, the table of each kept site and
-- the routine in theirs, and the stubs
abbrev pub HasPlacement : Decoder → List ℕ → List ℕ → Kept → List (ℕ × ℕ) → List (ℕ × ℕ) → ℕ → Type 0
HasPlacement dec x w kept places tables routine =
    (at : Places) × (places ≡ map (λ a. (a, at.fragment a)) (sorted kept.nodes))
    × (tables ≡ map (λ a. (a, at.table a)) (sites dec (code_in (image_of x).loads) (sorted kept.nodes)))
    × (routine ≡ at.routine)
    × IsPlaced dec (image_of x) (image_of w) kept (layout_of dec (image_of x) kept) at (bound_of dec (image_of x) kept)

-- the greatest bound of the kept nodes
abbrev pub greatest : (ℕ → ℕ) → List ℕ → ℕ
greatest f [] = 0
greatest f (a ∷ rest) = max (f a) (greatest f rest)

abbrev pub greatest_bound : Decoder → Image → Kept → ℕ
greatest_bound dec x kept = greatest (bound_of dec x kept) (sorted kept.nodes)

-- no kept node's bound is above this one, which is at most 64 and 16 for each binary digit of the most targets
pub record IsBound (dec : Decoder) (x : Image) (kept : Kept) (bound : ℕ) : Type 0 where
  pub most : (a : ℕ) → has_node kept.nodes a ≡ true → bound_of dec x kept a ≤ bound
  pub least : bound ≤ 64 + 16 * greatest (λ a. binary_digits (site_targets dec x (targets_of kept.edges) a)) (sorted kept.nodes)

-- on each input each step of the original that touches nothing that is added has its moment in the new file's run
abbrev pub HasCosts : Decoder → List ℕ → List ℕ → Kept → Type 0
HasCosts dec x w kept =
    (input : Input) → Costs dec kept.edges (layout_of dec (image_of x) kept) (bound_of dec (image_of x) kept)
    (start (image_of x) input) (start (image_of w) input)

-- on each input the new file's run follows the original's, with one to so many steps for each of its steps
abbrev pub IsPaced : Decoder → List ℕ → List ℕ → Kept → Type 0
IsPaced dec x w kept =
    (input : Input) → Paced dec kept.edges (layout_of dec (image_of x) kept) (bound_of dec (image_of x) kept)
    (start (image_of x) input) (start (image_of w) input)
