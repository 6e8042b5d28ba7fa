-- Why no new file is made of a file for what is kept.
use Rattle.std.specs.Prelude.{◌≡◌, ℕ, ◌+◌, List, Option, Some, None}
use Rattle.rz_isa.specs.Nodes.{Decoder}
use Rattle.rz_elf.specs.declared.room.Room.{Room}
use Rattle.rz_elf.specs.Elf.{Image, image_of}
use Rattle.rz_elf.specs.AddedRange.{tables_size, code_size, stubs_size}
use Rattle.rz_elf.specs.Room.{extent_of, no_room}
use Rattle.rz_machine.specs.Kept.{Kept, sorted}
use Rattle.rz_machine.specs.Nodes.{code_in}
use Rattle.rz_machine.specs.Added.{node_count, site_count, site_edge_count}
use Rattle.rz_rewrite.specs.declared.refusal.Refusal.{Refusal}
use Rattle.rz_rewrite.specs.declared.refusal.Refusal.TheVariants as refusal
use Rattle.rz_rewrite.specs.Reach.{first_out_of_reach}

-- the least kept address whose instruction names an address of 2^31 or more relative to RIP, if there is one
abbrev pub rip_reach_of : Decoder → List ℕ → Kept → Option ℕ
rip_reach_of dec x kept = first_out_of_reach dec (code_in (image_of x).loads) (sorted kept.nodes)

-- the bytes of the added parts that stand in the file, by the numbers of kept nodes, sites and edges that leave sites
abbrev pub size_for : ℕ → ℕ → ℕ → ℕ
size_for nodes sites edges = tables_size sites edges + code_size nodes sites edges + stubs_size nodes

-- those for what is kept
abbrev pub added_size : Decoder → Image → Kept → ℕ
added_size dec x kept = size_for (node_count kept) (site_count dec x kept) (site_edge_count dec x kept)

-- why there is no room for them in a file, if there is none
abbrev pub no_room_for : Decoder → List ℕ → Kept → Option Room
no_room_for dec x kept = no_room (extent_of x) (added_size dec (image_of x) kept)

-- an operand is out of reach, or else there is no room; or there was no memory
abbrev pub IsRefusal : Decoder → List ℕ → Kept → Refusal → Type 0
IsRefusal dec x kept (refusal.RipReach a) = rip_reach_of dec x kept ≡ Some a
IsRefusal dec x kept (refusal.NoRoom room) = (rip_reach_of dec x kept ≡ None) × (no_room_for dec x kept ≡ Some room)
IsRefusal dec x kept refusal.OutOfMemory = Unit {0}
