use Rattle.std.proofs.Common.{◌≡◌, ℕ, ◌+◌, ◌<◌, length, get_or}
use Rattle.rz_elf.specs.Loaded.{loaded_region}
use Rattle.rz_machine.proofs.stub.word_in.Given as goal

abbrev pub invariant-loop-i : goal.invariant-loop-i
invariant-loop-i l = record {
  whole : length l.word ≡ 8;
  held : (k : ℕ) → k < l.i → get_or l.word k 0 ≡ get_or (loaded_region l.file l.load).bytes (l.place + k) 0;
}
