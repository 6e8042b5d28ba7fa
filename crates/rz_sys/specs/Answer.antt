-- System calls: the number in RAX, the arguments in RDI, RSI and RDX
-- (System V ABI for x86-64, section A.2.1, "Calling Conventions" of the kernel).
use Rattle.std.specs.Prelude.{ℕ, ◌+◌, ◌-◌, ◌%◌, ◌^◌, ◌<◌, Bool, true, false, ◌&&◌, ◌||◌, if◌then◌else◌, nat_le, ◌==◌, List, [], ◌∷◌, ◌++◌, length, take, drop, get_or, set, min, Option, Some, None}
use Rattle.rz_sys.specs.declared.input.Reply.{Reply}
use Rattle.rz_sys.specs.declared.input.Reply.TheVariants.{Full, AtMost, Error}
use Rattle.rz_sys.specs.declared.event.Event.{Event}
use Rattle.rz_sys.specs.declared.world.World.{World}
use Rattle.rz_sys.specs.Heap.{heap_size, opened_to, open_at}
use Rattle.rz_image.specs.Memory.{Regions, Range, IsOutside, refused, is_readable, is_writable, bytes_at, put_bytes}

-- RAX, RCX, RDX, RSI, RDI and R11, by their numbers (Intel SDM, volume 2, table 3-1)
abbrev pub rax : List ℕ → ℕ
rax regs = get_or regs 0 0

abbrev pub rdx : List ℕ → ℕ
rdx regs = get_or regs 2 0

abbrev pub rsi : List ℕ → ℕ
rsi regs = get_or regs 6 0

abbrev pub rdi : List ℕ → ℕ
rdi regs = get_or regs 7 0

-- what a call answers, moves and leaves
pub record Called : Type 0 where
  pub answer : ℕ
  pub bytes : List ℕ
  pub mem : Regions
  pub stdin : List ℕ
  pub replies : List Reply
  pub brk : ℕ
  pub exit : Option ℕ

-- the answer for an error number
abbrev pub negative : ℕ → ℕ
negative e = (2 ^ 64 - e) % 2 ^ 64

-- the reply in turn; with none left every call is answered whole
abbrev pub next_reply : List Reply → Reply
next_reply [] = Full
next_reply (r ∷ rs) = r

abbrev pub later_replies : List Reply → List Reply
later_replies [] = []
later_replies (r ∷ rs) = rs

-- a call that takes no reply and moves nothing
abbrev pub no_call : ℕ → Regions → World → Called
no_call answer m w = record { answer = answer; bytes = []; mem = m; stdin = w.stdin; replies = w.replies; brk = w.brk; exit = None }

-- a call that takes a reply
abbrev pub replied : ℕ → List ℕ → Regions → World → Called
replied answer bytes m w = record (no_call answer m w) { bytes = bytes; replies = later_replies w.replies }

-- a count is cut to what one call moves
abbrev pub cut_count : ℕ → ℕ
cut_count n = min n 0x7ffff000

abbrev pub no_wrap : ℕ → ℕ → Bool
no_wrap at n = nat_le (at + n) (2 ^ 64)

-- ---- read

-- n bytes of the input are stored from an address on
abbrev pub received : ℕ → ℕ → Regions → World → Called
received n at m w =
    record (replied n (take n w.stdin) m w) { mem = put_bytes m at (take n w.stdin); stdin = drop n w.stdin }

abbrev pub read_reply : Reply → ℕ → ℕ → Regions → World → Called
read_reply Full at n m w = received (min n (length w.stdin)) at m w
read_reply (AtMost k) at n m w = received (min k (min n (length w.stdin))) at m w
read_reply (Error e) at n m w = replied (negative e) [] m w

-- EFAULT where a byte of the range isn't allowed
abbrev pub read_allowed : Option ℕ → ℕ → ℕ → Regions → World → Called
read_allowed (Some bad) at n m w = no_call (negative 14) m w
read_allowed None at n m w = read_reply (next_reply w.replies) at n m w

-- ---- write

-- n bytes of memory are moved, from an address on
abbrev pub sent : ℕ → ℕ → Regions → World → Called
sent n at m w = replied n (bytes_at m at n) m w

abbrev pub write_reply : Reply → ℕ → ℕ → Regions → World → Called
write_reply Full at n m w = sent n at m w
write_reply (AtMost k) at n m w = sent (min k n) at m w
write_reply (Error e) at n m w = replied (negative e) [] m w

abbrev pub write_allowed : Option ℕ → ℕ → ℕ → Regions → World → Called
write_allowed (Some bad) at n m w = no_call (negative 14) m w
write_allowed None at n m w = write_reply (next_reply w.replies) at n m w

-- ---- brk

-- whether an address may become the break
abbrev pub is_break : ℕ → World → Bool
is_break at w = nat_le w.first_break at && nat_le at (w.first_break + heap_size)

-- the heap is opened up to the page end of the new break
abbrev pub moved_break : ℕ → Regions → World → Called
moved_break at m w =
    record (no_call at m w) { mem = open_at m w.first_break (opened_to w.first_break at); brk = at }

-- any other request answers the present break
abbrev pub break_answer : Bool → ℕ → Regions → World → Called
break_answer true at m w = moved_break at m w
break_answer false at m w = no_call w.brk m w

-- ---- exit and exit_group

abbrev pub exits : ℕ → Regions → World → Called
exits status m w = record (no_call 0 m w) { exit = Some (status % 256) }

-- ---- every call

-- which call it is
pub data Call : Type 0 where
  -- read, of standard input
  Read : Call
  -- write, to standard output or error
  Write : Call
  -- read or write, with another descriptor
  NoFile : Call
  Brk : Call
  -- exit and exit_group
  Exit : Call
  Other : Call

abbrev pub call_of : ℕ → ℕ → Call
call_of number descriptor =
    if number == 0 then (if descriptor == 0 then Read else NoFile)
    else if number == 1 then (if descriptor == 1 || descriptor == 2 then Write else NoFile)
    else if number == 12 then Brk
    else if number == 60 || number == 231 then Exit
    else Other

-- a range that wraps isn't allowed
abbrev pub whole : Bool → Option ℕ → Option ℕ
whole true o = o
whole false o = Some 0

-- the answer of a call with these three arguments; EBADF and ENOSYS for the calls that aren't there
abbrev pub answer_as : Call → ℕ → ℕ → ℕ → Regions → World → Called
answer_as Read a b c m w =
    read_allowed (whole (no_wrap b (cut_count c)) (refused is_writable m b (cut_count c))) b (cut_count c) m w
answer_as Write a b c m w =
    write_allowed (whole (no_wrap b (cut_count c)) (refused is_readable m b (cut_count c))) b (cut_count c) m w
answer_as Brk a b c m w = break_answer (is_break a w) a m w
answer_as Exit a b c m w = exits a m w
answer_as NoFile a b c m w = no_call (negative 9) m w
answer_as Other a b c m w = no_call (negative 38) m w

-- with the arguments in the registers
abbrev pub called : Call → List ℕ → Regions → World → Called
called call regs m w = answer_as call (rdi regs) (rsi regs) (rdx regs) m w

-- the call that the registers name
abbrev pub call_in : List ℕ → Call
call_in regs = call_of (rax regs) (rdi regs)

unfoldable pub answer : List ℕ → Regions → World → Called
answer regs m w = called (call_in regs) regs m w

abbrev pub event_of : List ℕ → Called → Event
event_of regs c =
    record { number = rax regs; args = rdi regs ∷ rsi regs ∷ rdx regs ∷ []; answer = c.answer; bytes = c.bytes }

abbrev pub world_after : List ℕ → World → Called → World
world_after regs w c =
    record w { stdin = c.stdin; replies = c.replies; events = w.events ++ event_of regs c ∷ []; brk = c.brk }

abbrev pub answer_put : Option ℕ → List ℕ → ℕ → List ℕ
answer_put None regs ans = set regs 0 ans
answer_put (Some status) regs ans = regs

-- RAX is the answer, but where the call ends the run
abbrev pub regs_left : List ℕ → Called → List ℕ
regs_left regs c = answer_put c.exit regs c.answer

-- the bytes below 2^64 of the cut range of a call that looks at memory are outside the range
abbrev pub CallClear : Range → Call → ℕ → ℕ → Type 0
CallClear r Read at n = (k : ℕ) → k < n → at + k < 2 ^ 64 → IsOutside r (at + k)
CallClear r Write at n = (k : ℕ) → k < n → at + k < 2 ^ 64 → IsOutside r (at + k)
CallClear r NoFile at n = Unit {0}
CallClear r Brk at n = Unit {0}
CallClear r Exit at n = Unit {0}
CallClear r Other at n = Unit {0}
