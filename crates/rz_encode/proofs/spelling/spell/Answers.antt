use Rattle.std.proofs.Common.{arith, subst}
use Rattle.rz_isa.specs.Spelling.{rex_bytes}
use Rattle.rz_isa.specs.Canonical.{little, rm_bytes}
use Rattle.rz_encode.specs.Calls.Writer.{Wrote}
use Rattle.rz_encode.proofs.Written.{prefix_pieces, pieces_same, all_wrote}
use Rattle.rz_encode.proofs.Counted.{opcode_byte, digit_of, room}
use Rattle.rz_encode.proofs.spelling.spell.Goals as goal

pub overflow_cast-opcode_of : goal.overflow_cast-opcode_of
overflow_cast-opcode_of c = (let o = opcode_byte c.args.row.now c.args.f.now c.requires.regular c.requires.had in let e = c.opcode_of.ensures in omega arith)

pub put_rm-g-requires-clause-digit : goal.put_rm-g-requires-clause-digit
put_rm-g-requires-clause-digit c = digit_of c.args.row.now c.requires.regular

pub put_little-requires : goal.put_little-requires
put_little-requires c =
    let r = room c.args.row.now c.args.f.now c.args.next c.byte_if.result c.byte_if-2.result c.rex_for.result c.escape.result c.opcode_of.result c.code_of.result c.imm_len.result c.imm_value.result c.requires.regular c.requires.had c.requires.reach (omega (arith, c.ranges.next.fits))
    (record { prefixes_are = prefix_pieces c.args.row.now c.args.f.now c.byte_if.result c.byte_if-2.result c.is_half.result c.repeat_prefix-rep.result c.byte_if.ensures c.byte_if-2.ensures c.is_half.ensures c.repeat_prefix-rep.ensures; rex_is = c.rex_for.ensures; esc_is = c.escape.ensures; opcode_is = c.opcode_of.ensures; code_is = c.code_of.ensures.value; len_is = c.imm_len.ensures.value; imm_is = c.imm_value.ensures }) in
    let la = c.put_some-a.ensures.wrote.last in
    let lb = c.put_some-b.ensures.wrote.last in
    let lc = c.put_some-c.ensures.wrote.last in
    let ld = c.put_some-d.ensures.wrote.last in
    let le = c.put-e.ensures.last in
    let lg = c.put_rm-g.ensures.last in
    let ka = c.put_some-a.auto.out in
    let kb = c.put_some-b.auto.out in
    let kc = c.put_some-c.auto.out in
    let kd = c.put_some-d.auto.out in
    let ke = c.put-e.auto.out in
    let kg = c.put_rm-g.auto.out in
    let z = c.requires.room in
    omega arith

pub returns : goal.returns
returns c = subst (λ k. Wrote c.args.out.now 0 c.put_little.new.out c.put_little.result k)
    (pieces_same c.args.row.now c.args.f.now c.args.next c.byte_if.result c.byte_if-2.result c.rex_for.result c.escape.result c.opcode_of.result c.code_of.result c.imm_len.result c.imm_value.result
    (record { prefixes_are = prefix_pieces c.args.row.now c.args.f.now c.byte_if.result c.byte_if-2.result c.is_half.result c.repeat_prefix-rep.result c.byte_if.ensures c.byte_if-2.ensures c.is_half.ensures c.repeat_prefix-rep.ensures; rex_is = c.rex_for.ensures; esc_is = c.escape.ensures; opcode_is = c.opcode_of.ensures; code_is = c.code_of.ensures.value; len_is = c.imm_len.ensures.value; imm_is = c.imm_value.ensures }))
    (all_wrote c.args.out.now c.put_some-a.new.out c.put_some-b.new.out c.put_some-c.new.out c.put_some-d.new.out c.put-e.new.out c.put_rm-g.new.out c.put_little.new.out
    0 c.put_some-a.result c.put_some-b.result c.put_some-c.result c.put_some-d.result c.put-e.result c.put_rm-g.result c.put_little.result
    (rex_bytes c.byte_if.result) (rex_bytes c.byte_if-2.result) (rex_bytes c.rex_for.result) (rex_bytes c.escape.result) (rm_bytes c.args.row.now.rm c.args.row.now.digit c.code_of.result c.args.next c.args.f.now.rm) (little c.imm_len.result c.imm_value.result) c.opcode_of.result
    c.put_some-a.ensures.wrote c.put_some-b.ensures.wrote c.put_some-c.ensures.wrote c.put_some-d.ensures.wrote c.put-e.ensures c.put_rm-g.ensures c.put_little.ensures)
