use Rattle.std.proofs.Common.{◌≡◌, length, ◌∙◌, arith, rules}
use Rattle.std.specs.Prelude.{vec_len}
use Rattle.rz_machine.proofs.StackLaws.{IsStack, placed, places, stack_bytes_are, zeros_from_nil}
use Rattle.rz_machine.proofs.start.first_stack.Goals as goal

pub overflow_sub-low : goal.overflow_sub-low
overflow_sub-low c =
    let is : IsStack c.args.args.now c.as_slice-strings.result.now c.as_slice-words.result.now = record {
      few = c.requires;
      strings_are = c.as_slice-strings.ensures.value ∙ c.in_ok-strings.ensures;
      words_are = c.as_slice-words.ensures.value ∙ c.in_ok-words.ensures;
    } in
    let p = places _ _ _ is in
    let q = placed c.args.args.now c.requires in
    omega arith

pub overflow_sub-rsp-2 : goal.overflow_sub-rsp-2
overflow_sub-rsp-2 c =
    let is : IsStack c.args.args.now c.as_slice-strings.result.now c.as_slice-words.result.now = record {
      few = c.requires;
      strings_are = c.as_slice-strings.ensures.value ∙ c.in_ok-strings.ensures;
      words_are = c.as_slice-words.ensures.value ∙ c.in_ok-words.ensures;
    } in
    let p = places _ _ _ is in
    let q = placed c.args.args.now c.requires in
    omega arith

pub returns-clause-rsp : goal.returns-clause-rsp
returns-clause-rsp c =
    let is : IsStack c.args.args.now c.as_slice-strings.result.now c.as_slice-words.result.now = record {
      few = c.requires;
      strings_are = c.as_slice-strings.ensures.value ∙ c.in_ok-strings.ensures;
      words_are = c.as_slice-words.ensures.value ∙ c.in_ok-words.ensures;
    } in
    (places _ _ _ is).rsp

pub returns-clause-bytes : goal.returns-clause-bytes
returns-clause-bytes c =
    let is : IsStack c.args.args.now c.as_slice-strings.result.now c.as_slice-words.result.now = record {
      few = c.requires;
      strings_are = c.as_slice-strings.ensures.value ∙ c.in_ok-strings.ensures;
      words_are = c.as_slice-words.ensures.value ∙ c.in_ok-words.ensures;
    } in
    let p = places _ _ _ is in
    let first = zeros_from_nil _ _ _ _ c.in_ok-bytes.ensures.items c.in_ok-bytes.ensures.len c.in_ok-resize.ensures.items in
    let second = c.in_ok-resize-2.ensures.items in
    let len : vec_len c.push_words.new.bytes ≡ length c.push_words.new.bytes.items = search rules in
    c.from_vec.ensures ∙ c.in_ok-extend_from_slice.ensures.items ∙ stack_bytes_are c.args.args.now c.as_slice-strings.result.now c.as_slice-words.result.now c.resize.new.self.items c.push_words.new.bytes.items c.resize-2.new.self.items _ _ _ is p.rsp p.at first c.in_ok-push_words.ensures len second
