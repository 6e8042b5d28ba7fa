-- What a cache of decoded instructions says of a memory.
use Rattle.std.specs.Prelude.{◌≡◌, true, false, IsTrue, length, All}
use Rattle.rz_exec.specs.Effect.{is_named}
use Rattle.rz_image.specs.Memory.{Regions, NoSelfWritten}
use Rattle.rz_isa.specs.declared.decoding.Decoded.{Decoded}
use Rattle.rz_isa.specs.declared.decoding.Decoded.TheVariants as decoded
use Rattle.rz_isa.specs.Nodes.{Decoder, spelled_at}
use Rattle.rz_machine.specs.declared.cache.Entry.{Entry}
use Rattle.rz_machine.specs.declared.cache.DecodeCache.{DecodeCache}
use Rattle.rz_machine.specs.Nodes.{code_in}

-- an entry has what the memory's code spells at its address
abbrev pub IsEntry : Decoder → Regions → Entry → Type 0
IsEntry dec m e = e.decoded ≡ spelled_at dec (code_in m) e.at

-- so has each entry; and a cache that may have entries is of a memory of which no byte may be both written and executed
pub record Serves (dec : Decoder) (m : Regions) (c : DecodeCache) : Type 0 where
  pub entries : All (IsEntry dec m) c.entries.items
  pub fixed : c.is_used ≡ true → NoSelfWritten m
  pub unused : c.is_used ≡ false → length c.entries.items ≡ 0

-- the registers of what was decoded have names
abbrev pub HasNames : Decoded → Type 0
HasNames (decoded.Insn x len) = IsTrue (is_named x)
HasNames _ = Unit {0}
