-- What is planned for an accepted file fits.
use Rattle.std.proofs.Common.{◌≡◌, ℕ, ◌<◌, List, subst}
use Rattle.std.specs.Prelude.{slice_index}
use Rattle.std.specs.List.{AllByRecursion}
use Rattle.rz_isa.specs.Nodes.{Decoder}
use Rattle.rz_elf.specs.Elf.{image_of}
use Rattle.rz_elf.specs.Loaded.{ElfFile, IsRead}
use Rattle.rz_elf.specs.PlainImage.{IsPlainImage}
use Rattle.rz_elf.specs.Laws.Loads.{loaded_image}
use Rattle.rz_elf.specs.Laws.PlainAccepted.{accepted_plain}
use Rattle.rz_machine.specs.Kept.{Kept}
use Rattle.rz_machine.specs.Start.{HasHeapRoom}
use Rattle.rz_machine.specs.Laws.StartHeap.{read_room}
use Rattle.rz_rewrite.specs.declared.added.AddedRange.{AddedRange}
use Rattle.rz_rewrite.specs.Rewritten.{IsFit}
use Rattle.rz_rewrite.specs.Calls.Plan.{IsPlanned}
use Rattle.rz_rewrite.proofs.ByteLists.{each_byte}
use Rattle.rz_rewrite.proofs.PartsFit.{has_room}

-- what is read of a file loads a plain image
pub plain_read : (elf : ElfFile) (bytes : List ℕ) → IsRead elf → bytes ≡ elf.bytes → ((i : ℕ) → slice_index bytes i < 256) → IsPlainImage (image_of elf.bytes)
plain_read elf bytes is same each = accepted_plain elf.bytes (subst (AllByRecursion (λ b. b < 256)) same (each_byte bytes each)) is.accepted

-- and leaves room for a heap
pub heap_read : (elf : ElfFile) → IsRead elf → HasHeapRoom (image_of elf.bytes)
heap_read elf is = subst HasHeapRoom (loaded_image elf is) (read_room elf is)

-- what is planned is fit
pub fit_of : (dec : Decoder) (x : List ℕ) (kept : Kept) (r : AddedRange) → IsPlanned dec x kept r → IsFit dec (image_of x) kept
fit_of dec x kept r q =
    record { plain = q.plain; heap = q.heap; plausible = q.plausible; reach = q.reach; room = has_room dec x kept q.room }
