-- Worked programs: what stands on walks, in bodies and among return edges, by computing.
use Rattle.std.proofs.Common.{ℕ, true, false, ◌==◌, ◌≡◌, cond, List, [], ◌∷◌, Some, None, codes, refl}
use Rattle.rz_isa.specs.declared.instruction.Kind.{Kind}
use Rattle.rz_isa.specs.declared.instruction.Kind.TheVariants.{Plain, Jcc, Jmp, Call, Ret, Syscall}
use Rattle.rz_classes.specs.declared.listed.Function.{Function}
use Rattle.rz_paths.specs.declared.node.Node.{Node}
use Rattle.rz_paths.specs.declared.level.Level.TheVariants.{Zlib, Zfunc}
use Rattle.rz_paths.specs.Sets.{begin, go}
use Rattle.rz_paths.specs.Program.{Program}
use Rattle.rz_paths.specs.Walks.{IsWalk, OnWalk}
use Rattle.rz_paths.specs.Bodies.{body_leads, InFunctions, walk, body}
use Rattle.rz_paths.specs.Returns.{IsReturn, is_first}
use Rattle.rz_paths.specs.Levels.{passes}
use Rattle.rz_paths.specs.Laws.Booleans.{never}

abbrev here : Kind → ℕ → Node
here kind next = record { kind = kind; next = next; target = None }

abbrev to : Kind → ℕ → ℕ → Node
to kind next target = record { kind = kind; next = next; target = Some target }

abbrev program_in : List (ℕ × Node) → Program
program_in [] a = None
program_in (e ∷ es) a = cond (e.0 == a) (Some e.1) (program_in es a)

-- a loop that reads bytes up to the end of the input or a `c`; what the branch at 0x401016 leads to stands at `leave`
abbrev reads : ℕ → List (ℕ × Node) → List (ℕ × Node)
reads leave rest =
    (0x401000, here Plain 0x401002) ∷
    (0x401002, here Plain 0x401004) ∷
    (0x401004, here Plain 0x401007) ∷
    (0x401007, here Plain 0x40100c) ∷
    (0x40100c, here Syscall 0x40100e) ∷
    (0x40100e, here Plain 0x401010) ∷
    (0x401010, to Jcc 0x401012 0x40101a) ∷
    (0x401012, here Plain 0x401016) ∷
    (0x401016, to Jcc 0x401018 leave) ∷
    (0x401018, to Jmp 0x40101a 0x401000) ∷
    (0x40101a, here Plain 0x40101f) ∷
    (0x40101f, here Syscall 0x401021) ∷ rest

abbrev recorded : List ℕ
recorded = 0x401000 ∷ 0x401002 ∷ 0x401004 ∷ 0x401007 ∷ 0x40100c ∷ 0x40100e ∷ 0x401010 ∷ 0x401012 ∷ 0x401016 ∷ 0x401018 ∷ 0x40101a ∷ 0x40101f ∷ []

-- the branch to the exit, which no run took, is a static edge between recorded nodes
pub reads_until_c : is_first (program_in (reads 0x40101a [])) [] recorded 0x401016 0x40101a ≡ true
reads_until_c = refl

-- five NOPs and a jump back
abbrev nops : List (ℕ × Node)
nops =
    (0x401021, here Plain 0x401022) ∷
    (0x401022, here Plain 0x401023) ∷
    (0x401023, here Plain 0x401024) ∷
    (0x401024, here Plain 0x401025) ∷
    (0x401025, here Plain 0x401026) ∷
    (0x401026, to Jmp 0x401028 0x401000) ∷ []

-- the branch to the NOPs leads to no recorded node, so its edge is not kept before they are
pub nops_not_recorded : is_first (program_in (reads 0x401021 nops)) [] recorded 0x401016 0x401021 ≡ false
nops_not_recorded = refl

pub nops_walk : IsWalk (program_in (reads 0x401021 nops)) (λ t. false) recorded (0x401021 ∷ 0x401022 ∷ 0x401023 ∷ 0x401024 ∷ 0x401025 ∷ 0x401026 ∷ [])
nops_walk = (refl, (refl, refl, (refl, refl, (refl, refl, (refl, refl, (refl, refl, (refl, refl)))))))

-- the third is on a walk, and the edge from the exit's system call to the first is static
pub nops_kept : OnWalk (program_in (reads 0x401021 nops)) (λ t. false) recorded 0x401023
nops_kept = (0x401021 ∷ 0x401022 ∷ 0x401023 ∷ 0x401024 ∷ 0x401025 ∷ 0x401026 ∷ [], nops_walk, refl)

pub exit_to_nops : is_first (program_in (reads 0x401021 nops)) [] (0x401021 ∷ recorded) 0x40101f 0x401021 ≡ true
exit_to_nops = refl

-- a call of a function, a loop that reads, and a branch to a second call and a jump back
abbrev calls : List (ℕ × Node)
calls =
    (0x401000, to Call 0x401005 0x401030) ∷
    (0x401005, here Plain 0x401017) ∷
    (0x401017, to Jcc 0x401019 0x401026) ∷
    (0x401019, to Jmp 0x40101b 0x401005) ∷
    (0x401026, to Call 0x40102b 0x401030) ∷
    (0x40102b, to Jmp 0x40102d 0x401005) ∷
    (0x401030, here Ret 0x401031) ∷ []

abbrev called : List ℕ
called = 0x401000 ∷ 0x401005 ∷ 0x401017 ∷ 0x401019 ∷ 0x401030 ∷ []

-- where the function is listed, the call of it is stepped over
pub call_stepped_over : IsWalk (program_in calls) (λ t. t == 0x401030) called (0x401026 ∷ 0x40102b ∷ [])
call_stepped_over = (refl, (refl, refl, (refl, refl)))

-- where it isn't, no list that begins with the call is a walk
pub call_ends_walks : (rest : List ℕ) → IsWalk (program_in calls) (λ t. false) called (0x401026 ∷ rest) → ⊥
call_ends_walks [] w = never w.1.1
call_ends_walks (b ∷ rest) w = never w.1.1

-- the return, whose second call no run came back from, leads to what follows that call
abbrev twice : List ℕ
twice = 0x401026 ∷ 0x40102b ∷ called

pub untaken_return : IsReturn (program_in calls) twice (is_first (program_in calls) [] twice) 0x401030 0x40102b
untaken_return = (0x401030, refl, record { ret = refl; kept = refl; reached = begin refl })

-- the same with a second call of another function, a NOP and a return, which no run called
abbrev calls_other : List (ℕ × Node)
calls_other =
    (0x401000, to Call 0x401005 0x401030) ∷
    (0x401005, here Plain 0x401017) ∷
    (0x401017, to Jcc 0x401019 0x401026) ∷
    (0x401019, to Jmp 0x40101b 0x401005) ∷
    (0x401026, to Call 0x40102b 0x401031) ∷
    (0x40102b, to Jmp 0x40102d 0x401005) ∷
    (0x401030, here Ret 0x401031) ∷
    (0x401031, here Plain 0x401032) ∷
    (0x401032, here Ret 0x401033) ∷ []

abbrev function : ℕ → ℕ → List ℕ → Function
function lo hi class = record { lo = lo; hi = hi; class = class }

-- both functions, the second in a class
abbrev both : List ℕ → List Function
both class = function 0x401030 0x401031 (codes "io") ∷ function 0x401031 0x401033 class ∷ []

-- at zlib the second call isn't stepped over; at zfunc it is, where the second function is in the class of the first
pub not_at_zlib : passes Zlib (both (codes "io")) called 0x401031 ≡ false
not_at_zlib = refl

pub same_class : passes Zfunc (both (codes "io")) called 0x401031 ≡ true
same_class = refl

pub other_class : passes Zfunc (both (codes "other")) called 0x401031 ≡ false
other_class = refl

-- then no list that begins with the call is a walk
pub other_ends_walks : (rest : List ℕ) → IsWalk (program_in calls_other) (passes Zfunc (both (codes "other")) called) called (0x401026 ∷ rest) → ⊥
other_ends_walks [] w = never w.1.1
other_ends_walks (b ∷ rest) w = never w.1.1

-- the call brings in the whole second function
pub body_kept : InFunctions (program_in calls_other) (passes Zfunc (both (codes "io")) called) (both (codes "io")) called 0x401032
body_kept = body {c = 0x401026} {f = 0x401031} (walk (0x401026 ∷ 0x40102b ∷ [], (refl, (refl, refl, (refl, refl))), refl)) refl (go (begin (refl, refl)) refl)

-- and nothing that stands behind its range
pub body_ends : body_leads (program_in calls_other) (λ t. t == 0x401031) (Some (function 0x401031 0x401032 (codes "io"))) 0x401031 0x401032 ≡ false
body_ends = refl
