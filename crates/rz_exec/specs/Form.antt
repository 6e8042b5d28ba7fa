-- What one instruction does to registers, flags and memory, in one form: at most two reads, and then at most one write.
-- (Intel SDM, volume 1, section 3.7, on operands; section 6.5, on exceptions.) No instruction is named here.
use Rattle.std.specs.Prelude.{ℕ, zero, suc, Bool, true, false, List, get_or, Option, Some, None, Result, Ok, Err}
use Rattle.byteorder.specs.Endian.{little_bytes, little_number}
use Rattle.rz_num.specs.declared.width.Width.{Width}
use Rattle.rz_flags.specs.declared.Flags.{Flags}
use Rattle.rz_image.specs.Memory.{Regions, refused, is_readable, is_writable, bytes_at, put_bytes}
use Rattle.rz_image.specs.Word.{byte_count}

-- ---- one effect

-- a word of memory: the address of its first byte, and its width
pub record WordAt : Type 0 where
  pub at : ℕ
  pub width : Width

-- the reads in turn, and then the write
pub record Accesses : Type 0 where
  pub first : Option WordAt
  pub second : Option WordAt
  pub write : Option WordAt

-- registers and flags after it, and the word to write
pub record NewValues : Type 0 where
  pub regs : List ℕ
  pub flags : Flags
  pub word : ℕ

-- why an instruction stops of its own: by a division, or by a flags word that can't be taken
pub data Stop : Type 0 where
  Divide : Stop
  Popped : Stop

-- why it isn't completed: at the first byte that isn't allowed, or of its own
pub data Exception : Type 0 where
  Memory : (at : ℕ) → Exception
  Own : (why : Stop) → Exception

-- the accesses, and what the words read give; 0 stands for a word that isn't read
pub record Effect : Type 0 where
  pub accesses : Accesses
  pub gives : ℕ → ℕ → Result NewValues Stop

-- registers, flags and memory after it; an exception changes none of them
pub record Completion : Type 0 where
  pub regs : List ℕ
  pub flags : Flags
  pub mem : Regions
  pub exception : Option Exception

-- what an access gives, unless an address is refused
abbrev pub allowed : {A : Type 0} → Option ℕ → A → Result A Exception
allowed (Some bad) v = Err (Memory bad)
allowed None v = Ok v

abbrev pub read_word : Regions → Option WordAt → Result ℕ Exception
read_word m None = Ok 0
read_word m (Some a) =
    let n = byte_count a.width in allowed (refused is_readable m a.at n) (little_number n (bytes_at m a.at n))

-- memory with a word written
abbrev pub write_word : Regions → Option WordAt → ℕ → Result Regions Exception
write_word m None v = Ok m
write_word m (Some a) v =
    let n = byte_count a.width in allowed (refused is_writable m a.at n) (put_bytes m a.at (little_bytes n v))

abbrev pub unchanged : List ℕ → Flags → Regions → Option Exception → Completion
unchanged regs flags m x = record { regs = regs; flags = flags; mem = m; exception = x }

abbrev pub after_write : List ℕ → Flags → Regions → NewValues → Result Regions Exception → Completion
after_write regs flags m v (Err x) = unchanged regs flags m (Some x)
after_write regs flags m v (Ok n) = record { regs = v.regs; flags = v.flags; mem = n; exception = None }

abbrev pub after_gives : Option WordAt → List ℕ → Flags → Regions → Result NewValues Stop → Completion
after_gives w regs flags m (Err why) = unchanged regs flags m (Some (Own why))
after_gives w regs flags m (Ok v) = after_write regs flags m v (write_word m w v.word)

abbrev pub after_second : Effect → ℕ → List ℕ → Flags → Regions → Result ℕ Exception → Completion
after_second e a regs flags m (Err x) = unchanged regs flags m (Some x)
after_second e a regs flags m (Ok b) = after_gives e.accesses.write regs flags m (e.gives a b)

abbrev pub after_first : Effect → List ℕ → Flags → Regions → Result ℕ Exception → Completion
after_first e regs flags m (Err x) = unchanged regs flags m (Some x)
after_first e regs flags m (Ok a) = after_second e a regs flags m (read_word m e.accesses.second)

-- an effect carried out: the reads in turn, then the write, up to the first exception
unfoldable pub carry : Effect → List ℕ → Flags → Regions → Completion
carry e regs flags m = after_first e regs flags m (read_word m e.accesses.first)

-- the first word that it reads, where it may be read
abbrev pub word_or_zero : Result ℕ Exception → ℕ
word_or_zero (Ok word) = word
word_or_zero (Err x) = 0

abbrev pub first_word : Effect → Regions → ℕ
first_word e m = word_or_zero (read_word m e.accesses.first)

-- ---- repeats (Intel SDM, volume 2, "REP/REPE/REPZ/REPNE/REPNZ")

-- the effect of an iteration, by the registers and flags before it, which counts RCX down;
-- and whether the flags that it leaves let another follow
pub record Repeat : Type 0 where
  pub each : List ℕ → Flags → Effect
  pub follows : Flags → Bool

abbrev pub if_follows : Bool → Completion → (List ℕ → Flags → Regions → Completion) → Completion
if_follows true c rest = rest c.regs c.flags c.mem
if_follows false c rest = c

-- what follows an iteration; an exception keeps the whole iterations before it
abbrev pub and_then : Option Exception → Bool → Completion → (List ℕ → Flags → Regions → Completion) → Completion
and_then None more c rest = if_follows more c rest
and_then (Some x) more c rest = c

-- at most n iterations, each from what the one before leaves
unfoldable pub iterate : Repeat → ℕ → List ℕ → Flags → Regions → Completion
iterate r zero regs flags m = unchanged regs flags m None
iterate r (suc n) regs flags m =
    let c = carry (r.each regs flags) regs flags m in and_then c.exception (r.follows c.flags) c (iterate r n)

-- ---- plain instructions

-- what a plain instruction does: one effect, or a repeat
pub data PlainEffect : Type 0 where
  Once : (effect : Effect) → PlainEffect
  Repeats : (repeat : Repeat) → PlainEffect

-- a repeat has at most RCX iterations, RCX being register 1
abbrev pub complete : PlainEffect → List ℕ → Flags → Regions → Completion
complete (Once e) regs flags m = carry e regs flags m
complete (Repeats r) regs flags m = iterate r (get_or regs 1 0) regs flags m
