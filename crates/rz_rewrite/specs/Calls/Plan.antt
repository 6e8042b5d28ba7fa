-- What the inner calls of the rewriter ask of their arguments.
use Rattle.std.specs.Prelude.{◌≡◌, ℕ, ◌+◌, ◌-◌, ◌^◌, ◌<◌, true, List, map, None}
use Rattle.std.specs.List.{AllByRecursion}
use Rattle.rz_isa.specs.declared.decoding.Decoded.{Decoded}
use Rattle.rz_isa.specs.declared.decoding.Decoded.TheVariants as decodeds
use Rattle.rz_isa.specs.declared.instruction.Insn.{Insn}
use Rattle.rz_isa.specs.declared.rows.Row.{Row}
use Rattle.rz_isa.specs.declared.rows.Form.{Form}
use Rattle.rz_isa.specs.Decoded.{decoded}
use Rattle.rz_isa.specs.Insn.{kind_of}
use Rattle.rz_isa.specs.Plan.{code_end, IsPlan, IsLeastPlan}
use Rattle.rz_isa.specs.Nodes.{Decoder, Code, is_site, spelled_at}
use Rattle.rz_elf.specs.AddedRange.{Added, filled}
use Rattle.rz_elf.specs.Elf.{Image, image_of}
use Rattle.rz_elf.specs.PlainImage.{IsPlainImage}
use Rattle.rz_machine.specs.Kept.{Edges, Kept, sorted, targets_of}
use Rattle.rz_machine.specs.Added.{added}
use Rattle.rz_machine.specs.Keeps.{Keeps}
use Rattle.rz_machine.specs.Start.{HasHeapRoom}
use Rattle.rz_machine.specs.WrittenFile.{Inert}
use Rattle.rz_sites.specs.Site.{IsSite}
use Rattle.rz_rewrite.specs.declared.added.AddedRange.{AddedRange}
use Rattle.rz_emit.specs.Emitted.{code_bytes}
use Rattle.rz_rewrite.specs.declared.code.NewCode.{NewCode}
use Rattle.rz_rewrite.specs.declared.rewrite.New.{New}
use Rattle.rz_rewrite.specs.Fragments.{stub_pairs}
use Rattle.rz_rewrite.specs.Refusals.{no_room_for}
use Rattle.rz_rewrite.specs.Rewritten.{CanRewrite, IsInReach, HasPlacement, HasCosts, IsPaced, IsNewFile, fragments_of, place_by, places_by, greatest_bound, stubs_of}

-- where the parts lie
abbrev pub range_of : AddedRange → Added
range_of r = record { scratch = r.scratch; tables = r.tables; code = r.code; stubs = r.stubs; stop = r.stop }

-- what is kept could be left by traces of the file, and its parts have room and lie in this range
pub record IsPlanned (dec : Decoder) (x : List ℕ) (kept : Kept) (range : AddedRange) : Type 0 where
  pub plain : IsPlainImage (image_of x)
  pub heap : HasHeapRoom (image_of x)
  pub plausible : CanRewrite dec (image_of x) kept
  pub reach : IsInReach dec (image_of x) kept
  pub room : no_room_for dec x kept ≡ None
  pub range_is : range_of range ≡ added dec (image_of x) kept

-- the instruction x of so many bytes at a can be moved: its next address is low, and a site can lead on
pub record IsMovable (scratch : ℕ) (edges : Edges) (a len : ℕ) (x : Insn) : Type 0 where
  pub low : a + len < 2 ^ 31
  pub site : is_site (kind_of x) ≡ true → IsSite scratch (targets_of edges a) (a + len) x

abbrev pub CanMoveAt : (scratch : ℕ) → Edges → ℕ → Decoded → Type 0
CanMoveAt scratch edges a (decodeds.Insn x len) = IsMovable scratch edges a len x
CanMoveAt scratch edges a _ = Unit {0}

-- what stands at each of these nodes can
abbrev pub AreMovable : Decoder → Code → (scratch : ℕ) → Edges → List ℕ → Type 0
AreMovable dec code scratch edges nodes = AllByRecursion (λ a. CanMoveAt scratch edges a (spelled_at dec code a)) nodes

-- code that holds the fragments by their least plan, in such a range, with the places of fragments, stubs, tables and routine
pub record IsNewCode (rows : List Row) (x : Image) (kept : Kept) (range : AddedRange) (code : NewCode) : Type 0 where
  pub forms : List Form
  pub plan : IsPlan rows (fragments_of (decoded rows) x kept) range.code forms
  pub least : IsLeastPlan rows (fragments_of (decoded rows) x kept) range.code forms
  pub ends : code_end rows (fragments_of (decoded rows) x kept) range.code forms < range.stubs
  pub bytes : code.bytes ≡ filled (range.stubs - range.code) (code_bytes rows (fragments_of (decoded rows) x kept) range.code forms)
  pub places : code.places ≡ map (λ a. (a, place_by rows (fragments_of (decoded rows) x kept) range.code forms a)) (sorted kept.nodes)
  pub stubs : code.stubs ≡ stub_pairs range.stubs (sorted kept.nodes)
  pub tables : code.tables ≡ (fragments_of (decoded rows) x kept).tables
  pub routine : code.routine ≡ (places_by rows (fragments_of (decoded rows) x kept) range.code forms).routine
  pub entry : code.entry ≡ place_by rows (fragments_of (decoded rows) x kept) range.code forms x.entry

-- what a new file in such a range has to be
pub record IsNew (rows : List Row) (x : List ℕ) (kept : Kept) (range : AddedRange) (new : New) : Type 0 where
  pub placed : HasPlacement (decoded rows) x new.bytes kept new.places new.tables new.routine
  pub paced : IsPaced (decoded rows) x new.bytes kept
  pub costs : HasCosts (decoded rows) x new.bytes kept
  pub stubs : new.stubs ≡ stubs_of (decoded rows) x kept
  pub code : IsNewFile rows x new.bytes kept
  pub keeps : Keeps (decoded rows) x new.bytes kept
  pub inert : Inert (decoded rows) x new.bytes kept
  pub base : new.base ≡ range.scratch
  pub bound : new.bound ≡ greatest_bound (decoded rows) (image_of x) kept
