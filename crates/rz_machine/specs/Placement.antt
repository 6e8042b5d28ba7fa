-- Placements: where the items that stand for each kept instruction are found in a new file's memory, in any spelling.
use Rattle.std.specs.Prelude.{◌≡◌, ℕ, ◌+◌, ◌≤◌, true, IsTrue, List, [], ◌∷◌}
use Rattle.rz_isa.specs.declared.decoding.Decoded.TheVariants as decoded
use Rattle.rz_isa.specs.declared.instruction.Insn.{Insn}
use Rattle.rz_isa.specs.declared.instruction.Insn.TheVariants as insn
use Rattle.rz_isa.specs.declared.item_list.Item.{Item}
use Rattle.rz_sys.specs.declared.input.Input.{Input}
use Rattle.rz_image.specs.Memory.{Regions, IsInside, Alike, NoSelfWritten, fetch, wrap}
use Rattle.rz_elf.specs.Elf.{Image}
use Rattle.rz_isa.specs.Insn.{kind_of}
use Rattle.rz_isa.specs.Nodes.{Decoder, is_site}
use Rattle.rz_machine.specs.Kept.{Edges, Kept, has_node, targets_of}
use Rattle.rz_machine.specs.Nodes.{code_in, IsPlausible}
use Rattle.rz_machine.specs.Start.{start, HasHeapRoom}
use Rattle.rz_machine.specs.Added.{Layout, Places}
use Rattle.rz_machine.specs.Keeps.{KeepsRun}
use Rattle.rz_machine.specs.Lookup.{HasLookup}
use Rattle.rz_machine.specs.Pace.{Paced}
use Rattle.rz_machine.specs.Simulates.{InsnsFrom, ItemsFrom, HasScratch, Simulates, label_at}

-- items that simulate the instruction y at a, before n, stand at the place of a
pub record FragmentAt (dec : Decoder) (edges : Edges) (lay : Layout) (places : Places) (bound : ℕ) (m : Regions) (a n : ℕ) (y : Insn) : Type 0 where
  pub items : List Item
  pub own : ℕ → ℕ
  pub simulates : Simulates dec lay.added.low bound (targets_of edges a) a n y items
  pub stand : ItemsFrom dec m (label_at lay places own) own 0 (places.fragment a) items
  pub inside : IsInside lay.code (places.fragment a)

-- the instructions of the stub that stands at an address, each with its length
abbrev pub stub_insns : (at : ℕ) → List (Insn × ℕ)
stub_insns at = (insn.Ud2, 2) ∷ []

-- in a memory the fragment of each kept node stands at its place, so do the instructions of its stub and what it looks up, where
-- it is a site, and the scratch page may be used
pub record IsPlacement (dec : Decoder) (x : Image) (kept : Kept) (lay : Layout) (places : Places) (bound : ℕ → ℕ) (m : Regions) : Type 0 where
  pub fragments : (a : ℕ) → has_node kept.nodes a ≡ true → (y : Insn) (len : ℕ) → dec (fetch x.loads a 15) a ≡ decoded.Insn y len
      → FragmentAt dec kept.edges lay places (bound a) m a (wrap (a + len)) y
  pub stubs : (a : ℕ) → has_node kept.nodes a ≡ true → InsnsFrom dec m (lay.stub a) (stub_insns (lay.stub a))
  pub lookups : (a : ℕ) → has_node kept.nodes a ≡ true → (y : Insn) (len : ℕ) → dec (fetch x.loads a 15) a ≡ decoded.Insn y len
      → IsTrue (is_site (kind_of y)) → HasLookup dec lay.added.low lay places (targets_of kept.edges a) a m
  pub scratch : HasScratch lay.added.low lay.added m

-- the new image w begins at the place of the old entry, in a memory that has such a placement and is else that of x;
-- both leave room for a heap, above what is added
pub record IsPlaced (dec : Decoder) (x w : Image) (kept : Kept) (lay : Layout) (places : Places) (bound : ℕ → ℕ) : Type 0 where
  pub begins : w.entry ≡ places.fragment x.entry
  pub first_break : w.first_break ≡ x.first_break
  pub old_heap : HasHeapRoom x
  pub new_heap : HasHeapRoom w
  pub below : lay.added.high ≤ x.first_break
  pub alike : (input : Input) → Alike lay.added (start x input).mem (start w input).mem
  pub placement : (input : Input) → IsPlacement dec x kept lay places bound (start w input).mem

-- whatever the placement, the new file's runs keep the original's, each step at a kept address in one to so many
-- steps as the placement says, where neither has code that it may write
abbrev pub PlacementsKeep : Decoder → Type 0
PlacementsKeep dec =
    (x w : Image) (kept : Kept) (lay : Layout) (places : Places) (bound : ℕ → ℕ) → IsPlausible dec (code_in x.loads) x.entry kept
    → NoSelfWritten x.loads → NoSelfWritten w.loads → IsPlaced dec x w kept lay places bound → (input : Input)
    → KeepsRun dec kept.edges lay (start x input) (start w input) × Paced dec kept.edges lay bound (start x input) (start w input)
