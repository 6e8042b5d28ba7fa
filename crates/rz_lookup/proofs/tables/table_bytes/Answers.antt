use Rattle.std.proofs.Common.{◌≡◌, List, ℕ, [], ◌++◌, length, OnOk, append_assoc, ap, ◌∙◌, subst}
use Rattle.byteorder.specs.Endian.{little_bytes}
use Rattle.rz_machine.specs.Tables.{table_of, pairs_bytes}
use Rattle.rz_lookup.proofs.tables.table_bytes.Goals as goal

-- three parts, appended in turn
three_appended : (t0 t1 t2 t3 x y z : List ℕ) → t0 ≡ [] → t1 ≡ t0 ++ x → t2 ≡ t1 ++ y → t3 ≡ t2 ++ z → t3 ≡ x ++ (y ++ z)
three_appended t0 t1 t2 t3 x y z e0 e1 e2 e3 = rw (e3, e2, e1, e0) (append_assoc x y z)

pub returns-clause-ok : goal.returns-clause-ok
returns-clause-ok c =
    let count : c.as_slice-list.result.now ≡ c.args.pairs.now = c.as_slice-list.ensures in
    let made : c.push_pairs.new.table.items ≡ little_bytes 8 c.args.stub ++ (little_bytes 8 (length c.as_slice-list.result.now) ++ pairs_bytes c.as_slice-list.result.now) =
    three_appended c.new-table.result.items c.push_u64.new.out.items c.push_u64-2.new.out.items c.push_pairs.new.table.items _ _ _
    c.new-table.ensures.items c.in_ok-push_u64.ensures c.in_ok-push_u64-2.ensures c.in_ok-push_pairs.ensures in
    let whole : c.as_slice.result.now ≡ table_of c.args.stub c.args.pairs.now = c.as_slice.ensures.value ∙ made ∙ ap (table_of c.args.stub) count in
    subst (λ l. OnOk c.push_all.result (c.push_all.new.self ≡ c.args.out.now ++ l)) whole c.push_all.ensures.ok
