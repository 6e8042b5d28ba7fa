-- A printed input is read as itself.
use Rattle.std.proofs.Common.{◌≡◌, ℕ, zero, suc, ◌+◌, ◌<◌, ◌≤◌, false, List, [], ◌∷◌, ◌++◌, length, map, take, drop, nat_lt, Option, Some, None, length-append, length-drop, length-take, subst, ◌==◌, append-nil, append_assoc, refl, sym, ap, ◌∙◌, arith}
use Rattle.std.specs.Prelude.{flat_map}
use Rattle.std.specs.List.{All, AllByRecursion, enumerate_from, filter_map}
use Rattle.std.proofs.lemmas.Bool.{le-ltb}
use Rattle.std.proofs.lemmas.List.{take-append-drop}
use Rattle.std.proofs.lemmas.List.Concat.{flat_map-append}
use Rattle.std.proofs.lemmas.List.Elements.{filter_map-append}
use Rattle.rz_text.specs.Lines.{Line, content, content_of, lines}
use Rattle.rz_text.specs.Fault.{first_fault}
use Rattle.rz_text.specs.Laws.Lines.{lines-ended}
use Rattle.rz_sys.specs.Input.{IsValid, IsValidReply, strings}
use Rattle.rz_sys.specs.declared.input.Input.{Input}
use Rattle.rz_sys.specs.declared.input.Reply.{Reply as ReplyOf}
use Rattle.rz_input.specs.declared.entry.Entry.{Entry}
use Rattle.rz_input.specs.declared.entry.Entry.TheVariants.{Arg, Stdin, Reply}
use Rattle.rz_input.specs.Calls.Draft.{with_entry, with_some}
use Rattle.rz_input.specs.Calls.Printing.{HasWord}
use Rattle.rz_input.specs.Fault.{fault_behind, fault_of_line}
use Rattle.rz_input.specs.Printed.{IsReadAs, entry_line, pieces, pieces_within, printed, printed_entries}
use Rattle.rz_input.specs.Value.{arg_of, entries, input_from, reply_of, stdin_of}
use Rattle.rz_input.proofs.PieceLaws.{flat_map-map}
use Rattle.rz_input.proofs.ReadLaws.{input_from-more, input_same}
use Rattle.rz_input.proofs.Readable.{IsPrintable, entry_of-line, has_content-line, no_end-line}

-- ---- what printed lines say

entries_printed : (n : ℕ) (es : List Entry) → AllByRecursion IsPrintable es → entries (content_of (enumerate_from n (map entry_line es))) ≡ es
entries_printed n [] h = refl
entries_printed n (e ∷ es) h =
    rw (has_content-line e, entry_of-line e h.0) (ap (λ (xs : List Entry). e ∷ xs) (entries_printed (n + 1) es h.1))

-- ---- printed lines have no fault

strings-append : (xs ys : List (List ℕ)) → length (strings (xs ++ ys)) ≡ length (strings xs) + length (strings ys)
strings-append xs ys =
    ap length (flat_map-append (λ (arg : List ℕ). arg ++ 0 ∷ []) xs ys) ∙ length-append (strings xs) (strings ys)

not_too_big : (args : List (List ℕ)) (n : ℕ) (e : Entry) (es : List Entry)
    → length (strings (args ++ filter_map arg_of (e ∷ es))) ≤ 65536 → fault_behind args n (Some e) ≡ None
not_too_big args n (Arg arg) es few =
    let whole = strings-append (args ++ arg ∷ []) (filter_map arg_of es) in
    let joined : (args ++ arg ∷ []) ++ filter_map arg_of es ≡ args ++ arg ∷ filter_map arg_of es = append_assoc args (arg ∷ []) (filter_map arg_of es) in
    let total = rw joined at whole in
    let test : nat_lt 65536 (length (strings (args ++ arg ∷ []))) ≡ false = le-ltb 65536 (length (strings (args ++ arg ∷ []))) (omega (arith, total, few)) in
    rw test refl
not_too_big args n (Stdin bytes) es few = refl
not_too_big args n (Reply reply) es few = refl

few_after : (input : Input) (e : Entry) (es : List Entry)
    → length (strings (input.args ++ filter_map arg_of (e ∷ es))) ≤ 65536 → length (strings ((with_entry input e).args ++ filter_map arg_of es)) ≤ 65536
few_after input (Arg arg) es few = rw (append_assoc input.args (arg ∷ []) (filter_map arg_of es)) few
few_after input (Stdin bytes) es few = few
few_after input (Reply reply) es few = few

step : (earlier : List Line) (line : Line) (rest : List Line) → fault_of_line earlier line ≡ None
    → first_fault fault_of_line (earlier ++ line ∷ []) rest ≡ None → first_fault fault_of_line earlier (line ∷ rest) ≡ None
step earlier line rest here later = rw here later

no_fault : (earlier : List Line) (n : ℕ) (es : List Entry) → AllByRecursion IsPrintable es
    → length (strings ((input_from (entries earlier)).args ++ filter_map arg_of es)) ≤ 65536
    → first_fault fault_of_line earlier (content_of (enumerate_from n (map entry_line es))) ≡ None
no_fault earlier n [] h few = refl
no_fault earlier n (e ∷ es) h few =
    let line : Line = (n, entry_line e) in
    let said = entry_of-line e h.0 in
    let here : fault_of_line earlier line ≡ None = ap (fault_behind (input_from (entries earlier)).args n) said ∙ not_too_big (input_from (entries earlier)).args n e es few in
    let more : input_from (entries (earlier ++ line ∷ [])) ≡ with_entry (input_from (entries earlier)) e =
    input_from-more earlier line ∙ ap (with_some (input_from (entries earlier))) said in
    let after = few_after (input_from (entries earlier)) e es few in
    let args : (input_from (entries (earlier ++ line ∷ []))).args ≡ (with_entry (input_from (entries earlier)) e).args = ap (λ (i : Input). i.args) more in
    let later : length (strings ((input_from (entries (earlier ++ line ∷ []))).args ++ filter_map arg_of es)) ≤ 65536 =
    subst (λ (a : List (List ℕ)). length (strings (a ++ filter_map arg_of es)) ≤ 65536) (sym args) after in
    rw (has_content-line e) (step earlier line (content_of (enumerate_from (n + 1) (map entry_line es))) here (no_fault (earlier ++ line ∷ []) (n + 1) es h.1 later))

-- ---- the value of the printed entries

filter_map_all : {X Y : Type 0} (f : X → Option Y) (g : Y → X) → ((y : Y) → f (g y) ≡ Some y) → (ys : List Y) → filter_map f (map g ys) ≡ ys
filter_map_all f g h [] = refl
filter_map_all f g h (y ∷ ys) = rw (h y) (ap (λ zs. y ∷ zs) (filter_map_all f g h ys))

filter_map_none : {X Y Z : Type 0} (f : X → Option Y) (g : Z → X) → ((z : Z) → f (g z) ≡ None) → (zs : List Z) → filter_map f (map g zs) ≡ []
filter_map_none f g h [] = refl
filter_map_none f g h (z ∷ zs) = rw (h z) (filter_map_none f g h zs)

flat_map_none : {X Z : Type 0} (f : X → List ℕ) (g : Z → X) → ((z : Z) → f (g z) ≡ []) → (zs : List Z) → flat_map f (map g zs) ≡ []
flat_map_none f g h [] = refl
flat_map_none f g h (z ∷ zs) = rw (h z) (flat_map_none f g h zs)

pieces_within-joined : (n : ℕ) (bytes : List ℕ) → length bytes ≤ n → flat_map (λ piece. piece) (pieces_within n bytes) ≡ bytes
pieces_within-joined zero [] h = refl
pieces_within-joined zero (b ∷ bs) h = absurd (omega arith)
pieces_within-joined (suc n) [] h = refl
pieces_within-joined (suc n) (b ∷ bs) h =
    let len = length-drop 32 (b ∷ bs) in
    ap (λ (rest : List ℕ). take 32 (b ∷ bs) ++ rest) (pieces_within-joined n (drop 32 (b ∷ bs)) (omega (arith, len)))
    ∙ take-append-drop 32 (b ∷ bs)

pieces-joined : (bytes : List ℕ) → flat_map (λ piece. piece) (pieces bytes) ≡ bytes
unfolding pieces
pieces-joined bytes = pieces_within-joined (length bytes) bytes (omega arith)

printed_args : (input : Input) → filter_map arg_of (printed_entries input) ≡ input.args
printed_args input =
    let args = map (λ (arg : List ℕ). Arg arg) input.args in
    let stdin = map (λ (bytes : List ℕ). Stdin bytes) (pieces input.stdin) in
    let replies = map (λ (reply : ReplyOf). Reply reply) input.replies in
    let a = filter_map_all arg_of (λ (arg : List ℕ). Arg arg) (λ arg. refl) input.args in
    let b = filter_map_none arg_of (λ (bytes : List ℕ). Stdin bytes) (λ bytes. refl) (pieces input.stdin) in
    let c = filter_map_none arg_of (λ (reply : ReplyOf). Reply reply) (λ reply. refl) input.replies in
    filter_map-append arg_of args (stdin ++ replies) ∙ rw (filter_map-append arg_of stdin replies, a, b, c) (append-nil input.args)

printed_replies : (input : Input) → filter_map reply_of (printed_entries input) ≡ input.replies
printed_replies input =
    let args = map (λ (arg : List ℕ). Arg arg) input.args in
    let stdin = map (λ (bytes : List ℕ). Stdin bytes) (pieces input.stdin) in
    let replies = map (λ (reply : ReplyOf). Reply reply) input.replies in
    let a = filter_map_none reply_of (λ (arg : List ℕ). Arg arg) (λ arg. refl) input.args in
    let b = filter_map_none reply_of (λ (bytes : List ℕ). Stdin bytes) (λ bytes. refl) (pieces input.stdin) in
    let c = filter_map_all reply_of (λ (reply : ReplyOf). Reply reply) (λ reply. refl) input.replies in
    filter_map-append reply_of args (stdin ++ replies) ∙ rw (filter_map-append reply_of stdin replies, a, b, c) refl

printed_stdin : (input : Input) → flat_map stdin_of (printed_entries input) ≡ input.stdin
printed_stdin input =
    let args = map (λ (arg : List ℕ). Arg arg) input.args in
    let stdin = map (λ (bytes : List ℕ). Stdin bytes) (pieces input.stdin) in
    let replies = map (λ (reply : ReplyOf). Reply reply) input.replies in
    let a = flat_map_none stdin_of (λ (arg : List ℕ). Arg arg) (λ arg. refl) input.args in
    let b = flat_map-map stdin_of (λ (bytes : List ℕ). Stdin bytes) (pieces input.stdin) ∙ pieces-joined input.stdin in
    let c = flat_map_none stdin_of (λ (reply : ReplyOf). Reply reply) (λ reply. refl) input.replies in
    flat_map-append stdin_of args (stdin ++ replies) ∙ rw (flat_map-append stdin_of stdin replies, a, b, c) (append-nil input.stdin)

input_from-printed : (input : Input) → input_from (printed_entries input) ≡ input
input_from-printed input = input_same _ _ _ _ _ _ (printed_args input) (printed_stdin input) (printed_replies input)

-- ---- the printed entries can be printed

small-take : (n : ℕ) (bytes : List ℕ) → AllByRecursion (λ b. b < 256) bytes → AllByRecursion (λ b. b < 256) (take n bytes)
small-take zero bytes h = tt
small-take (suc n) [] h = tt
small-take (suc n) (b ∷ bs) h = (h.0, small-take n bs h.1)

small-drop : (n : ℕ) (bytes : List ℕ) → AllByRecursion (λ b. b < 256) bytes → AllByRecursion (λ b. b < 256) (drop n bytes)
small-drop zero bytes h = h
small-drop (suc n) [] h = tt
small-drop (suc n) (b ∷ bs) h = small-drop n bs h.1

printable_pieces : (n : ℕ) (bytes : List ℕ) → AllByRecursion (λ b. b < 256) bytes → AllByRecursion IsPrintable (map (λ piece. Stdin piece) (pieces_within n bytes))
printable_pieces zero bytes h = tt
printable_pieces (suc n) [] h = tt
printable_pieces (suc n) (b ∷ bs) h =
    let len = length-take 32 (b ∷ bs) in
    ((small-take 32 (b ∷ bs) h, omega (arith, len)), printable_pieces n (drop 32 (b ∷ bs)) (small-drop 32 (b ∷ bs) h))

printable_stdin : (bytes : List ℕ) → AllByRecursion (λ b. b < 256) bytes → AllByRecursion IsPrintable (map (λ piece. Stdin piece) (pieces bytes))
unfolding pieces
printable_stdin bytes h = printable_pieces (length bytes) bytes h

printable_args : (args : List (List ℕ)) → AllByRecursion (λ arg. AllByRecursion (λ b. (0 < b) × (b < 256)) arg) args → AllByRecursion IsPrintable (map (λ arg. Arg arg) args)
printable_args [] h = tt
printable_args (arg ∷ args) h = (h.0, printable_args args h.1)

printable_replies : (replies : List ReplyOf) → AllByRecursion IsValidReply replies → AllByRecursion HasWord replies → AllByRecursion IsPrintable (map (λ reply. Reply reply) replies)
printable_replies [] h k = tt
printable_replies (reply ∷ replies) h k = ((h.0, k.0), printable_replies replies h.1 k.1)

printable-append : (xs ys : List Entry) → AllByRecursion IsPrintable xs → AllByRecursion IsPrintable ys → AllByRecursion IsPrintable (xs ++ ys)
printable-append [] ys h k = k
printable-append (x ∷ xs) ys h k = (h.0, printable-append xs ys h.1 k)

printable : (input : Input) → IsValid input → AllByRecursion HasWord input.replies → AllByRecursion IsPrintable (printed_entries input)
printable input valid fits =
    printable-append (map (λ (arg : List ℕ). Arg arg) input.args) _ (printable_args input.args valid.no_zeros)
    (printable-append (map (λ (piece : List ℕ). Stdin piece) (pieces input.stdin)) _ (printable_stdin input.stdin valid.stdin)
    (printable_replies input.replies valid.replies fits))

no_ends : (es : List Entry) → AllByRecursion IsPrintable es → AllByRecursion (λ e. All (λ b. (b == 10) ≡ false) (entry_line e)) es
no_ends [] h = tt
no_ends (e ∷ es) h = (no_end-line e h.0, no_ends es h.1)

-- ---- the round trip

pub read_back : (input : Input) (text : List ℕ) → text ≡ printed input → AllByRecursion HasWord input.replies → IsValid input → length text ≤ 16777216
    → IsReadAs text input
read_back input text e fits valid short =
    let es = printed_entries input in
    let good : AllByRecursion IsPrintable es = printable input valid fits in
    let all : lines text ≡ map entry_line es = ap lines e ∙ lines-ended entry_line es (no_ends es good) in
    let said : content text ≡ content_of (enumerate_from 1 (map entry_line es)) = ap (λ (ls : List (List ℕ)). content_of (enumerate_from 1 ls)) all in
    let test : nat_lt 16777216 (length text) ≡ false = le-ltb 16777216 (length text) short in
    let args : filter_map arg_of es ≡ input.args = printed_args input in
    let few : length (strings (filter_map arg_of es)) ≤ 65536 = rw args valid.few in
    record {
      sound = rw test (ap (first_fault fault_of_line []) said ∙ no_fault [] 1 es good few);
      value = ap (λ (ls : List Line). input_from (entries ls)) said ∙ ap input_from (entries_printed 1 es good) ∙ input_from-printed input;
    }
