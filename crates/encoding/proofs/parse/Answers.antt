use Rattle.std.proofs.Common.{rules, arith, ◌≡◌, sym}
use Rattle.std.proofs.lemmas.Result.{err_from_is_err_and}
use Rattle.loes.specs.Bytes.{number_at}
use Rattle.loes.specs.Read.{start4, width_in, edge_count_in}
use Rattle.encoding.specs.Opened.{Placed}
use Rattle.encoding.proofs.Fields.{edge_count_read, head_facts, head_rejects, tail_rejects}
use Rattle.encoding.proofs.Opened.{placed_self, placed_by}
use Rattle.encoding.proofs.parse.Goals as goal

pub returns-in_err-check_head : goal.returns-in_err-check_head
returns-in_err-check_head c = let p = err_from_is_err_and c.from_residual.result c.from_residual.ensures.1 in rw (p.1, p.2) (head_rejects _ _ (sym c.in_err-check_head.ensures))

pub number-width-requires : goal.number-width-requires
unfolding start4
number-width-requires c = (search rules, omega (arith, (head_facts _ (sym c.in_ok-check_head.ensures)).3))

pub overflow_sub-width : goal.overflow_sub-width
overflow_sub-width c =
    let wide : c.number-width.result ≡ width_in c.args.l.now = unfold width_in in c.number-width.ensures.0 in
    omega (arith, (head_facts _ (sym c.in_ok-check_head.ensures)).0, wide)

pub number-bits-requires : goal.number-bits-requires
unfolding start4
number-bits-requires c =
    let wide : c.number-width.result ≡ width_in c.args.l.now = unfold width_in in c.number-width.ensures.0 in
    (search rules, omega (arith, head_facts _ (sym c.in_ok-check_head.ensures), wide))

pub number-requires : goal.number-requires
unfolding start4
number-requires c = (search rules, omega (arith, (head_facts _ (sym c.in_ok-check_head.ensures)).3))

pub new-e-requires : goal.new-e-requires
new-e-requires c =
    let wide : c.number-width.result ≡ width_in c.args.l.now = unfold width_in in c.number-width.ensures.0 in
    let f = head_facts c.args.l.now (sym c.in_ok-check_head.ensures) in
    let many : c.number-bits.result ≡ edge_count_in c.args.l.now = edge_count_read _ _ _ wide c.number-bits.ensures.0 in
    (omega (arith, f.1, wide), omega (arith, f.2, many))

pub check_tail-requires : goal.check_tail-requires
check_tail-requires c =
    let wide : c.number-width.result ≡ width_in c.args.l.now = unfold width_in in c.number-width.ensures.0 in
    let l = c.args.l.now in
    let f = head_facts l (sym c.in_ok-check_head.ensures) in
    let many : c.number-bits.result ≡ edge_count_in l = edge_count_read _ _ _ wide c.number-bits.ensures.0 in
    let p : Placed (width_in l) (number_at 4 l 8) (edge_count_in l) c.new-e.result = placed_by _ wide many c.number.ensures.0 c.new-e.ensures in
    (placed_self _ _ _ c.new-e.result p, omega (arith, p.width, f.1), omega (arith, p.bits, f.2), rw p.width f.3)

pub returns-in_err-check_tail : goal.returns-in_err-check_tail
returns-in_err-check_tail c =
    let wide : c.number-width.result ≡ width_in c.args.l.now = unfold width_in in c.number-width.ensures.0 in
    let q = err_from_is_err_and c.from_residual-in_err-check_tail.result c.from_residual-in_err-check_tail.ensures.1 in
    let l = c.args.l.now in
    let many : c.number-bits.result ≡ edge_count_in l = edge_count_read _ _ _ wide c.number-bits.ensures.0 in
    let p : Placed (width_in l) (number_at 4 l 8) (edge_count_in l) c.new-e.result = placed_by _ wide many c.number.ensures.0 c.new-e.ensures in
    rw (q.1, q.2) (tail_rejects _ _ (sym c.in_ok-check_head.ensures) (sym (rw (p.width, p.bits) at c.in_err-check_tail.ensures)))

pub returns : goal.returns
returns c =
    let wide : c.number-width.result ≡ width_in c.args.l.now = unfold width_in in c.number-width.ensures.0 in
    let l = c.args.l.now in
    let many : c.number-bits.result ≡ edge_count_in l = edge_count_read _ _ _ wide c.number-bits.ensures.0 in
    let p : Placed (width_in l) (number_at 4 l 8) (edge_count_in l) c.new-e.result = placed_by _ wide many c.number.ensures.0 c.new-e.ensures in
    record {
      head = sym c.in_ok-check_head.ensures;
      tail = sym (rw (p.width, p.bits) at c.in_ok-check_tail.ensures);
      placed = p;
      small = omega (arith, c.new-e.ensures.count, c.number.ensures.1);
    }
